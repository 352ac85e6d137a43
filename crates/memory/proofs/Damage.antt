-- One altered halfword makes a block unsound.
use Rattle.std.proofs.Common.{◌≡◌, ℕ, zero, suc, ◌+◌, ◌*◌, ◌<◌, ◌≤◌, true, List, get_or, sym, ◌∙◌, subst, ⊎_elim, arith}
use Rattle.std.proofs.lemmas.Bool.{eqb-true, and_parts, and_left, cases_eq, cases_Bool, cases_lt}
use Rattle.memory.specs.Blocks.{first_sum, second_sum, sums_hold}
use Rattle.memory.specs.Halfwords.{halfword, Bytes}
use Rattle.memory.specs.Laws.{DamageShows}
use Rattle.memory.proofs.Sums.{Agree, first_sum_same, second_sum_same, first_sum_small}

-- the halfwords of two blocks agree at every place below n but j
abbrev AgreeBut : List ℕ → List ℕ → ℕ → ℕ → Type 0
AgreeBut b c j n = (i : ℕ) → i < n → (i ≡ j → ⊥) → halfword b (2 * i) ≡ halfword c (2 * i)

-- one halfword altered among the first n: the first sums differ
first_sum_moves : (b c : List ℕ) (j n : ℕ) → Bytes b → Bytes c → j < n → (halfword b (2 * j) ≡ halfword c (2 * j) → ⊥)
    → AgreeBut b c j n → first_sum b n ≡ first_sum c n → ⊥
unfolding first_sum
first_sum_moves b c j zero p q l d h e = omega arith
first_sum_moves b c j (suc n) p q l d h e =
    ⊎_elim
    (λ (at : j ≡ n).
    let same : first_sum b n ≡ first_sum c n = first_sum_same b c n (λ i m. h i (omega arith) (omega arith)) in
    let apart : halfword b (2 * n) ≡ halfword c (2 * n) → ⊥ = subst (λ (m : ℕ). halfword b (2 * m) ≡ halfword c (2 * m) → ⊥) at d in
    apart (omega (arith, same, e, p (2 * n), q (2 * n), p (2 * n + 1), q (2 * n + 1))))
    (λ (other : j ≡ n → ⊥).
    let half : halfword b (2 * n) ≡ halfword c (2 * n) = h n (omega arith) (omega arith) in
    first_sum_moves b c j n p q (omega arith) d (λ i m. h i (omega arith))
    (omega (arith, half, e, first_sum_small b n, first_sum_small c n, p (2 * n), q (2 * n), p (2 * n + 1), q (2 * n + 1))))
    (cases_eq j n)

-- the stored sums of a block whose sums hold
first_holds : (b : List ℕ) → sums_hold b ≡ true → halfword b 508 ≡ first_sum b 254
first_holds b h = eqb-true _ _ (and_parts _ _ h).0

second_holds : (b : List ℕ) → sums_hold b ≡ true → halfword b 510 ≡ second_sum b 254
second_holds b h = eqb-true _ _ (and_parts _ _ h).1

-- two blocks that differ in exactly one of their 256 halfwords do not both have sums that hold
not_both_hold : (b c : List ℕ) (j : ℕ) → Bytes b → Bytes c → j < 256 → (halfword b (2 * j) ≡ halfword c (2 * j) → ⊥)
    → AgreeBut b c j 256 → sums_hold b ≡ true → sums_hold c ≡ true → ⊥
not_both_hold b c j p q l d h holds also =
    ⊎_elim
    (λ (low : j < 254).
    first_sum_moves b c j 254 p q low d (λ i m. h i (omega arith))
    (sym (first_holds b holds) ∙ h 254 (omega arith) (omega arith) ∙ first_holds c also))
    (λ (high : 254 ≤ j).
    let agree : Agree b c 254 = λ i m. h i (omega arith) (omega arith) in
    ⊎_elim
    (λ (at : j ≡ 254).
    subst (λ (m : ℕ). halfword b (2 * m) ≡ halfword c (2 * m) → ⊥) at d
    (first_holds b holds ∙ first_sum_same b c 254 agree ∙ sym (first_holds c also)))
    (λ (other : j ≡ 254 → ⊥).
    let at : j ≡ 255 = omega arith in
    subst (λ (m : ℕ). halfword b (2 * m) ≡ halfword c (2 * m) → ⊥) at d
    (second_holds b holds ∙ second_sum_same b c 254 agree ∙ sym (second_holds c also)))
    (cases_eq j 254))
    (cases_lt j 254)

-- where the sums of a block hold, an altered halfword shows
pub damage_shows : (b : List ℕ) → Bytes b → sums_hold b ≡ true → DamageShows b
damage_shows b p holds =
    record {
      unsound_under_any = λ c j k q l altered.
          ⊎_elim
          (λ (also : sums_hold c ≡ true).
          absurd (not_both_hold b c j p q l (λ e. altered.differs (sym e))
          (λ i m ne.
          let low : get_or c (2 * i) 0 ≡ get_or b (2 * i) 0 = altered.others_same (2 * i) (λ e. ne (omega arith)) (λ e. omega arith) in
          let high : get_or c (2 * i + 1) 0 ≡ get_or b (2 * i + 1) 0 = altered.others_same (2 * i + 1) (λ e. omega arith) (λ e. ne (omega arith)) in
          omega (arith, low, high))
          holds also))
          (λ e. and_left _ _ e)
          (cases_Bool (sums_hold c));
    }
