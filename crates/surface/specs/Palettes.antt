-- Palettes: 256 colours, by their index; a palette is the list of them.
use Rattle.std.specs.Prelude.{ℕ, cond, replicate, ◌==◌, slice_index}
use Rattle.surface.specs.declared.palette.Palette.{Palette}
use Rattle.surface.specs.Lists.{write_at}

-- the colour of each index
abbrev pub colours : Palette → ℕ → ℕ
colours p i = slice_index p i

-- a palette with one colour at every index
abbrev pub all_the_same : ℕ → Palette
all_the_same colour = replicate 256 colour

-- the palette after a write
abbrev pub with_colour : Palette → ℕ → ℕ → Palette
with_colour p index colour = write_at p index colour

-- the colours after a write: the index has the new one, the others have what they had
abbrev pub written : (ℕ → ℕ) → ℕ → ℕ → ℕ → ℕ
written before index colour i = cond (i == index) colour (before i)
