-- How far the tiles of a tile set reach.
use Rattle.std.proofs.Common.{ℕ, ◌*◌, ◌<◌, ◌≤◌, arith}
use Rattle.std.proofs.lemmas.Nat.{mul-lt}

-- the bits of the tiles before tile i fit 32 bits
pub tile_bits : (i t width : ℕ) → i < 256 → t ≤ 16 → width ≤ 16 → i * t * t * width < 4294967296
tile_bits i t width index side narrow =
    let row = mul-lt i t 256 17 index (omega arith) in
    let tile = mul-lt (i * t) t (256 * 17) 17 row (omega arith) in
    let bits = mul-lt (i * t * t) width (256 * 17 * 17) 17 tile (omega arith) in
    omega arith
