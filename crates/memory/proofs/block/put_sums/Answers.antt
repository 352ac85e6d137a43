use Rattle.std.proofs.Common.{◌≡◌, take, sym, ap, ◌∙◌, subst, arith}
use Rattle.memory.specs.Blocks.{stored_number, sound}
use Rattle.memory.specs.Halfwords.{put, Bytes}
use Rattle.memory.specs.Laws.{DamageShows}
use Rattle.memory.proofs.Damage.{damage_shows}
use Rattle.memory.proofs.Halfwords.{bytes_put, take-put}
use Rattle.memory.proofs.Sealing.{sums_put, sound_put}
use Rattle.memory.proofs.Sums.{first_sum_small, second_sum_small}
use Rattle.memory.proofs.block.put_sums.Goals as goal

pub returns : goal.returns
returns c =
    let b = c.args.block.now in
    let s = c.sums-s1.result.0 in
    let t = c.sums-s1.result.1 in
    let first = c.sums-s1.ensures.first in
    let second = c.sums-s1.ensures.second in
    let written : c.put_halfword-2.new.block ≡ put (put b 508 s) 510 t =
    c.put_halfword-2.ensures ∙ ap (λ x. put x 510 t) c.put_halfword.ensures in
    let bytes : Bytes (put (put b 508 s) 510 t) =
    bytes_put (put b 508 s) 510 t (bytes_put b 508 s c.fits-block (omega (arith, first, first_sum_small b 254)))
    (omega (arith, second, second_sum_small b 254)) in
    record {
      is_sound = ap (λ x. sound x (stored_number b)) written ∙ sound_put b s t c.told-block first second;
      holds = ap (take 504) written ∙ take-put 504 (put b 508 s) 510 t (omega arith) ∙ take-put 504 b 508 s (omega arith);
      damage = subst DamageShows (sym written) (damage_shows (put (put b 508 s) 510 t) bytes (sums_put b s t c.told-block first second));
    }
