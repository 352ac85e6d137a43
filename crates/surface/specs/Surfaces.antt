-- The three surfaces: their sides, and what they look up at (u, v).
use Rattle.std.specs.Prelude.{ℕ, ◌+◌, ◌*◌, ◌/◌, ◌%◌, ◌^◌, Bool, cond}
use Rattle.memory.specs.Halfwords.{even}
use Rattle.surface.specs.declared.fault.Reading.TheVariants.{TileIndex}
use Rattle.surface.specs.declared.format.PixelLayout.{PixelLayout}
use Rattle.surface.specs.Colours.{made_opaque}
use Rattle.surface.specs.Lookups.{Lookup, shows, needs_then}
use Rattle.surface.specs.Pixels.{pixel_lookup}

-- a plain colour: opaque everywhere
abbrev pub plain_lookup : ℕ → Lookup
plain_lookup colour = shows (λ palette. made_opaque colour)

-- the side of a square of a size, 8 to 1,024; a size has three bits
abbrev pub square_side : ℕ → ℕ
square_side size = 2 ^ (size % 8 + 3)

-- the side of the image that such a square shows: half of it, or the same
abbrev pub image_side : ℕ → Bool → ℕ
image_side size half = cond half (square_side size / 2) (square_side size)

-- an image of a side: row by row
abbrev pub image_lookup : PixelLayout → ℕ → ℕ → ℕ → ℕ → ℕ → Lookup
image_lookup format poff image side u v = pixel_lookup format poff image (v * side + u)

-- the side of a tile, 8 or 16; s has one bit
abbrev pub tile_side : ℕ → ℕ
tile_side s = 2 ^ (s % 2 + 3)

-- the side of a tile field, 128 to 1,024; pfs has two bits
abbrev pub field_side : ℕ → ℕ
field_side pfs = 2 ^ (pfs % 4 + 7)

-- where the index of the tile around (u, v) stands: a byte for each tile of the field, row by row
abbrev pub index_address : ℕ → ℕ → ℕ → ℕ → ℕ → ℕ
index_address tilemap t side u v = (tilemap + (v / t * (side / t) + u / t)) % 2 ^ 32

-- the byte at an address, from the halfword around it
abbrev pub byte_in : ℕ → ℕ → ℕ
byte_in address halfword = halfword / 2 ^ (8 * (address % 2)) % 256

-- where tile i of a tile set begins: tiles of side t lie one after the other
abbrev pub tile_address : PixelLayout → ℕ → ℕ → ℕ → ℕ
tile_address format tileset t i = (tileset + i * t * t * format.width / 8) % 2 ^ 32

-- the pixel of tile i at (u, v)
abbrev pub tile_pixel : PixelLayout → ℕ → ℕ → ℕ → ℕ → ℕ → ℕ → Lookup
tile_pixel format poff tileset t u v i = image_lookup format poff (tile_address format tileset t i) t (u % t) (v % t)

-- a tile field: the tile index, read with the halfword around it, then the pixel of that tile
abbrev pub tile_lookup : PixelLayout → ℕ → ℕ → ℕ → ℕ → ℕ → ℕ → ℕ → Lookup
tile_lookup format poff tilemap tileset t side u v =
    needs_then TileIndex (even (index_address tilemap t side u v)) (λ h. tile_pixel format poff tileset t u v (byte_in (index_address tilemap t side u v) h))
