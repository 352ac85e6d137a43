-- Writing into a list.
use Rattle.std.proofs.Common.{◌≡◌, ℕ, zero, suc, ◌<◌, Bool, cond, eqb, List, [], ◌∷◌, length, get_or, set, replicate, sym, refl, ap, ◌∙◌, inl, inr, arith, eq-eqb, ne_eqb}
use Rattle.std.proofs.lemmas.Bool.{cases_eq}
use Rattle.surface.specs.Lists.{write_at}

-- inside a list it is what an assignment does
pub write_at_set : (l : List ℕ) (i v : ℕ) → i < length l → set l i v ≡ write_at l i v
unfolding write_at
write_at_set [] i v h = absurd (omega arith)
write_at_set (x ∷ xs) zero v h = refl
write_at_set (x ∷ xs) (suc i) v h = ap (λ r. x ∷ r) (write_at_set xs i v (omega arith))

pub write_at_same : (l : List ℕ) (i v : ℕ) → get_or (write_at l i v) i 0 ≡ v
unfolding write_at
write_at_same [] zero v = refl
write_at_same [] (suc i) v = write_at_same [] i v
write_at_same (x ∷ xs) zero v = refl
write_at_same (x ∷ xs) (suc i) v = write_at_same xs i v

pub write_at_other : (l : List ℕ) (i v k : ℕ) → (k ≡ i → ⊥) → get_or (write_at l i v) k 0 ≡ get_or l k 0
unfolding write_at
write_at_other [] zero v zero n = absurd (n refl)
write_at_other [] zero v (suc k) n = refl
write_at_other [] (suc i) v zero n = refl
write_at_other [] (suc i) v (suc k) n = write_at_other [] i v k (λ e. n (ap suc e))
write_at_other (x ∷ xs) zero v zero n = absurd (n refl)
write_at_other (x ∷ xs) zero v (suc k) n = refl
write_at_other (x ∷ xs) (suc i) v zero n = refl
write_at_other (x ∷ xs) (suc i) v (suc k) n = write_at_other xs i v k (λ e. n (ap suc e))

-- at each index: the new value at the one written, the old one elsewhere
pub write_at_index : (l : List ℕ) (i v k : ℕ) → get_or (write_at l i v) k 0 ≡ cond (eqb k i) v (get_or l k 0)
write_at_index l i v k =
    elim (cases_eq k i) [
      | inl e ↦ ap (λ j. get_or (write_at l i v) j 0) e ∙ write_at_same l i v ∙ sym (ap (λ (b : Bool). cond b v (get_or l k 0)) (eq-eqb k i e))
      | inr n ↦ write_at_other l i v k n ∙ sym (ap (λ (b : Bool). cond b v (get_or l k 0)) (ne_eqb k i n))
    ]

pub replicate_same : (n i a : ℕ) → get_or (replicate n a) i a ≡ a
replicate_same zero i a = refl
replicate_same (suc n) zero a = refl
replicate_same (suc n) (suc i) a = replicate_same n i a

pub all_zeros : (l : List ℕ) (i : ℕ) → l ≡ replicate 256 0 → get_or l i 0 ≡ 0
all_zeros l i e = ap (λ (k : List ℕ). get_or k i 0) e ∙ replicate_same 256 i 0
