-- Sides are powers of two.
use Rattle.std.proofs.Common.{ℕ, ◌+◌, ◌%◌, ◌^◌, ◌≤◌, arith, pow_mono}

-- the side of a square is 8 or more
pub square_side_least : (size : ℕ) → 8 ≤ 2 ^ (size % 8 + 3)
square_side_least size = pow_mono {i = 3} {j = size % 8 + 3} (omega arith)

-- the side of a tile is 8 or 16
pub tile_side_most : (s : ℕ) → 2 ^ (s % 2 + 3) ≤ 16
tile_side_most s = pow_mono {i = s % 2 + 3} {j = 4} (omega arith)
