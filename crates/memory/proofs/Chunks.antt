-- The pieces of a list, each of n elements.
use Rattle.std.proofs.Common.{◌≡◌, ℕ, zero, suc, ◌+◌, ◌*◌, ◌/◌, ◌<◌, ◌≤◌, List, [], length, get_or, take, drop, ap, ◌∙◌, sym, drop-drop, length-take, get_or-take, get_or-drop, arith}
use native.Mathlib.Nat.{mul-zero, mul-suc}
use Rattle.std.specs.Simd.{first_chunks}
use Rattle.memory.specs.Halfwords.{halfword}

-- piece k of the first m is at n · k
pub chunk_at : {X : Type 0} (n k m : ℕ) (xs : List X) → k < m → get_or (first_chunks n m xs) k [] ≡ take n (drop (n * k) xs)
chunk_at n k zero xs h = absurd (omega arith)
chunk_at n zero (suc m) xs h = ap (λ (i : ℕ). take n (drop i xs)) (sym (mul-zero n))
chunk_at n (suc k) (suc m) xs h =
    chunk_at n k m (drop n xs) (omega arith)
    ∙ ap (take n) (drop-drop (n * k) n xs ∙ ap (λ (i : ℕ). drop i xs) (omega (arith, mul-suc n k)))

-- halfword k of the first n bytes of a block, from their pieces of two bytes
pub halfword_at_chunk : (b : List ℕ) (n k : ℕ) (chunks : List (List ℕ)) → chunks ≡ first_chunks 2 (length (take n b) / 2) (take n b) → 2 * k + 1 < n → n ≤ length b
    → get_or (get_or chunks k []) 0 0 + get_or (get_or chunks k []) 1 0 * 256 ≡ halfword b (2 * k)
halfword_at_chunk b n k chunks e within whole =
    let piece : get_or chunks k [] ≡ take 2 (drop (2 * k) (take n b)) =
    ap (λ (l : List (List ℕ)). get_or l k []) e ∙ chunk_at 2 k (length (take n b) / 2) (take n b) (omega (arith, length-take n b)) in
    let byte : (j : ℕ) → j < 2 → get_or (get_or chunks k []) j 0 ≡ get_or b (2 * k + j) 0 = λ j h.
    ap (λ (l : List ℕ). get_or l j 0) piece
    ∙ get_or-take 2 (drop (2 * k) (take n b)) j 0 h
    ∙ get_or-drop (2 * k) (take n b) j 0
    ∙ get_or-take n b (2 * k + j) 0 (omega arith) in
    let first = byte 0 (omega arith) ∙ ap (λ (i : ℕ). get_or b i 0) {x = 2 * k + 0} {y = 2 * k} (omega arith) in
    omega (arith, first, byte 1 (omega arith))
