-- A block of a card: 504 data bytes, its number (4 bytes) and two sums (2 bytes each).
use Rattle.std.specs.Prelude.{◌≡◌, ℕ, zero, suc, ◌+◌, ◌*◌, ◌%◌, Bool, true, ◌&&◌, List, length, take, ◌==◌}
use Rattle.memory.specs.Halfwords.{halfword}

-- the sum S1 over the first n halfwords of a block: it starts at 1 and grows by each halfword
unfoldable pub first_sum : List ℕ → ℕ → ℕ
first_sum block zero = 1
first_sum block (suc n) = (first_sum block n + halfword block (2 * n)) % 65536

-- the sum S2 over the first n halfwords: it starts at 0 and grows by what S1 came to after each halfword
unfoldable pub second_sum : List ℕ → ℕ → ℕ
second_sum block zero = 0
second_sum block (suc n) = (second_sum block n + first_sum block (suc n)) % 65536

-- both stored sums hold
abbrev pub sums_hold : List ℕ → Bool
sums_hold block = halfword block 508 == first_sum block 254 && halfword block 510 == second_sum block 254

-- the number that a block carries
abbrev pub stored_number : List ℕ → ℕ
stored_number block = halfword block 504 + 65536 * halfword block 506

-- a block is sound as block k: both sums hold and its number is k
abbrev pub sound : List ℕ → ℕ → Bool
sound block k = sums_hold block && stored_number block == k

-- a sealed block: 512 bytes, sound with that number, that begin with those data
pub record Sealed (k : ℕ) (payload block : List ℕ) : Type 0 where
  pub whole : length block ≡ 512
  pub is_sound : sound block k ≡ true
  pub holds : take 504 block ≡ payload
