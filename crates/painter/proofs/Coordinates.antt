-- Affine coordinates: wrapping to 32 bits on the way changes nothing, and the identity keeps every place.
use Rattle.std.proofs.Common.{◌≡◌, ℕ, suc, ◌+◌, ◌-◌, ◌*◌, ◌/◌, ◌%◌, ◌<◌, ◌≤◌, true, false, ltb, ℤ, pos, negsuc, ◌+ℤ◌, ◌*ℤ◌, neg_ℤ, nat_abs, refl, ap, ◌∙◌, ⊎_elim, arith, w32, to_z}
use lib.IntN.{+ℤ_idl}
use Rattle.std.proofs.lemmas.Bool.{cases_lt, lt-ltb, le-ltb}
use Rattle.std.specs.Int.{int_rem_euclid, int_wrap}
use Rattle.painter.specs.Mappings.{affine, modulo}

remainder_of_bits : (m : ℕ) → m < 4294967296 → int_rem_euclid (to_z w32 m) (pos 262144) ≡ pos (m % 262144)
remainder_of_bits m h =
    ⊎_elim
    (λ (low : m < 2147483648). let e : ltb m 2147483648 ≡ true = lt-ltb m 2147483648 low in rw e refl)
    (λ (high : 2147483648 ≤ m). let e : ltb m 2147483648 ≡ false = le-ltb m 2147483648 high in rw e (ap pos (omega arith)))
    (cases_lt m 2147483648)

remainder_of_wrapped : (z : ℤ) → int_rem_euclid (int_wrap w32 z) (pos 262144) ≡ int_rem_euclid z (pos 262144)
unfolding int_wrap
remainder_of_wrapped (pos a) = remainder_of_bits (a % 4294967296) (omega arith) ∙ ap pos (omega arith)
remainder_of_wrapped (negsuc a) = remainder_of_bits (4294967296 - 1 - a % 4294967296) (omega arith) ∙ ap pos (omega arith)

-- the code's coordinate: s is the wrapped sum, r its remainder
pub coordinate_is : (a b : ℤ) (c : ℕ) (dx dy s r : ℤ) → s ≡ int_wrap w32 (a *ℤ dx +ℤ b *ℤ dy +ℤ pos (4 * c)) → r ≡ int_rem_euclid s (pos 262144)
    → nat_abs r / 256 ≡ affine a b c dx dy
coordinate_is a b c dx dy s r sum rest =
    ap (λ z. nat_abs z / 256) (rest ∙ ap (λ z. int_rem_euclid z (pos 262144)) sum ∙ remainder_of_wrapped _)

zero_times : (z : ℤ) → pos 0 *ℤ z ≡ pos 0
zero_times (pos e) = ap pos (omega arith)
zero_times (negsuc e) = let n : 0 * suc e ≡ 0 = omega arith in ap (λ m. neg_ℤ (pos m)) n

plus_zero : (z : ℤ) → z +ℤ pos 0 ≡ z
plus_zero (pos a) = ap pos (omega arith)
plus_zero (negsuc a) = let e : ltb 0 (suc a) ≡ true = lt-ltb 0 (suc a) (omega arith) in rw e (ap negsuc (omega arith))

-- 256 of 256 parts
whole : (z : ℤ) → modulo (pos 256 *ℤ z) 262144 / 256 ≡ modulo z 1024
whole (pos d) = omega arith
whole (negsuc d) =
    let e : 256 * suc d ≡ suc (256 * d + 255) = omega arith in
    let q : (256 * d + 255) % 262144 ≡ 256 * (d % 1024) + 255 = omega arith in
    ap (λ n. modulo (neg_ℤ (pos n)) 262144 / 256) e ∙ omega arith

-- with the identity's coefficients a coordinate is the distance itself, mod 1024
pub along_x : (dx dy : ℤ) → affine (pos 256) (pos 0) 0 dx dy ≡ modulo dx 1024
along_x dx dy =
    ap (λ z. modulo z 262144 / 256)
    (ap (λ w. pos 256 *ℤ dx +ℤ w +ℤ pos 0) (zero_times dy) ∙ plus_zero (pos 256 *ℤ dx +ℤ pos 0) ∙ plus_zero (pos 256 *ℤ dx))
    ∙ whole dx

pub along_y : (dx dy : ℤ) → affine (pos 0) (pos 256) 0 dx dy ≡ modulo dy 1024
along_y dx dy =
    ap (λ z. modulo z 262144 / 256)
    (ap (λ w. w +ℤ pos 256 *ℤ dy +ℤ pos 0) (zero_times dx) ∙ plus_zero (pos 0 +ℤ pos 256 *ℤ dy) ∙ +ℤ_idl (pos 256 *ℤ dy))
    ∙ whole dy
