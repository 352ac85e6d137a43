-- The sums that are put in make a block sound, and leave its data.
use Rattle.std.proofs.Common.{◌≡◌, ℕ, ◌+◌, ◌*◌, ◌<◌, true, List, length, sym, ◌∙◌, arith}
use Rattle.std.proofs.lemmas.Bool.{eq-eqb, and_from}
use Rattle.memory.specs.Blocks.{first_sum, second_sum, stored_number, sums_hold, sound}
use Rattle.memory.specs.Halfwords.{halfword, put}
use Rattle.memory.proofs.Halfwords.{length-put, halfword-put_same, halfword-put_other}
use Rattle.memory.proofs.Sums.{Agree, first_sum_same, second_sum_same}

module _ (b : List ℕ) (s t : ℕ) (whole : length b ≡ 512) (first : s ≡ first_sum b 254) (second : t ≡ second_sum b 254) where
  -- the halfwords before the sums stay
  before_kept : (j : ℕ) → j + 1 < 508 → halfword (put (put b 508 s) 510 t) j ≡ halfword b j
  before_kept j l =
      halfword-put_other (put b 508 s) 510 j t (λ e. omega arith, λ e. omega arith, λ e. omega arith)
      ∙ halfword-put_other b 508 j s (λ e. omega arith, λ e. omega arith, λ e. omega arith)

  -- with both sums put in, they hold
  pub sums_put : sums_hold (put (put b 508 s) 510 t) ≡ true
  sums_put =
      let c = put b 508 s in
      let d = put c 510 t in
      let agree : Agree d b 254 = λ i l. before_kept (2 * i) (omega arith) in
      let at_508 : halfword d 508 ≡ first_sum d 254 =
      halfword-put_other c 510 508 t (λ e. omega arith, λ e. omega arith, λ e. omega arith)
      ∙ halfword-put_same b 508 s (omega arith) ∙ first ∙ sym (first_sum_same d b 254 agree) in
      let at_510 : halfword d 510 ≡ second_sum d 254 =
      halfword-put_same c 510 t (omega (arith, length-put b 508 s)) ∙ second ∙ sym (second_sum_same d b 254 agree) in
      and_from _ _ (eq-eqb _ _ at_508) (eq-eqb _ _ at_510)

  -- and the block is sound with the number that it carries
  pub sound_put : sound (put (put b 508 s) 510 t) (stored_number b) ≡ true
  sound_put =
      let d = put (put b 508 s) 510 t in
      let carries : stored_number d ≡ stored_number b = omega (arith, before_kept 504 (omega arith), before_kept 506 (omega arith)) in
      and_from _ _ sums_put (eq-eqb _ _ carries)
