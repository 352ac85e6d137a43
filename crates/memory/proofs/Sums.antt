-- The two sums of a block, step by step.
use Rattle.std.proofs.Common.{◌≡◌, ℕ, zero, suc, ◌+◌, ◌*◌, ◌%◌, ◌<◌, List, refl, add-one, arith}
use Rattle.memory.specs.Halfwords.{halfword}
use Rattle.memory.specs.Blocks.{first_sum, second_sum}

pub first_sum_none : (b : List ℕ) → first_sum b 0 ≡ 1
unfolding first_sum
first_sum_none b = refl

pub first_sum_more : (b : List ℕ) (n : ℕ) → first_sum b (n + 1) ≡ (first_sum b n + halfword b (2 * n)) % 65536
unfolding first_sum
first_sum_more b n = rw add-one refl

pub second_sum_none : (b : List ℕ) → second_sum b 0 ≡ 0
unfolding second_sum
second_sum_none b = refl

pub second_sum_more : (b : List ℕ) (n : ℕ) → second_sum b (n + 1) ≡ (second_sum b n + first_sum b (n + 1)) % 65536
unfolding second_sum
second_sum_more b n = rw add-one refl

-- two blocks whose first n halfwords agree
abbrev pub Agree : List ℕ → List ℕ → ℕ → Type 0
Agree b c n = (i : ℕ) → i < n → halfword b (2 * i) ≡ halfword c (2 * i)

pub first_sum_same : (b c : List ℕ) (n : ℕ) → Agree b c n → first_sum b n ≡ first_sum c n
unfolding first_sum
first_sum_same b c zero h = refl
first_sum_same b c (suc n) h =
    let same : first_sum b n ≡ first_sum c n = first_sum_same b c n (λ i l. h i (omega arith)) in
    let half : halfword b (2 * n) ≡ halfword c (2 * n) = h n (omega arith) in
    rw (same, half) refl

pub second_sum_same : (b c : List ℕ) (n : ℕ) → Agree b c n → second_sum b n ≡ second_sum c n
unfolding second_sum
second_sum_same b c zero h = refl
second_sum_same b c (suc n) h =
    let same : second_sum b n ≡ second_sum c n = second_sum_same b c n (λ i l. h i (omega arith)) in
    let first : first_sum b (suc n) ≡ first_sum c (suc n) = first_sum_same b c (suc n) h in
    rw (same, first) refl

pub first_sum_small : (b : List ℕ) (n : ℕ) → first_sum b n < 65536
unfolding first_sum
first_sum_small b zero = omega arith
first_sum_small b (suc n) = omega arith

pub second_sum_small : (b : List ℕ) (n : ℕ) → second_sum b n < 65536
unfolding second_sum
second_sum_small b zero = omega arith
second_sum_small b (suc n) = omega arith
