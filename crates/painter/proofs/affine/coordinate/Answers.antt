use Rattle.std.proofs.Common.{◌≡◌, ◌*◌, ◌/◌, pos, ◌*ℤ◌, nat_abs, ap, ◌∙◌, arith, w16, w32, to_z, of_z}
use Rattle.std.proofs.lemmas.Int.{ints}
use Rattle.painter.proofs.Coordinates.{coordinate_is}
use Rattle.painter.proofs.affine.coordinate.Goals as goal

pub returns : goal.returns
returns c =
    let a = c.args.a in
    let b = c.args.b in
    let s = c.weighted_sum-sum.result in
    let r = c.rem_euclid-part.result in
    let ea : to_z w32 (of_z w32 (to_z w16 (of_z w16 a))) ≡ a = omega (arith, ints) in
    let eb : to_z w32 (of_z w32 (to_z w16 (of_z w16 b))) ≡ b = omega (arith, ints) in
    let ex : to_z w32 (of_z w32 c.args.dx) ≡ c.args.dx = omega (arith, ints) in
    let ey : to_z w32 (of_z w32 c.args.dy) ≡ c.args.dy = omega (arith, ints) in
    let ec : to_z w32 (of_z w32 (pos 4 *ℤ to_z w32 c.args.c)) ≡ pos (4 * c.args.c) = omega (arith, ints) in
    let es : to_z w32 (of_z w32 s) ≡ s = omega (arith, ints) in
    let er : to_z w32 (of_z w32 r) ≡ r = omega (arith, ints) in
    ap (λ z. nat_abs z / 256) er
    ∙ coordinate_is a b c.args.c c.args.dx c.args.dy s r (simp (ea, eb, ex, ey, ec) at c.weighted_sum-sum.ensures) (simp es at c.rem_euclid-part.ensures.value)
