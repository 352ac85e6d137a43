-- The four pixel formats.
use Rattle.std.specs.Prelude.{ℕ, Bool, true, false}
use Rattle.surface.specs.declared.format.Format.{Format}
use Rattle.surface.specs.declared.format.Format.TheVariants.{Argb1555, P8, P4, P1}
use Rattle.surface.specs.declared.format.PixelLayout.{PixelLayout}

-- how pixels of a width in bits lie, palette indices or colours
abbrev pub pixels : ℕ → Bool → PixelLayout
pixels width indexed = record { width = width; indexed = indexed }

-- format 0: a pixel of 16 bits is a colour
abbrev pub argb1555 : PixelLayout
argb1555 = pixels 16 false

-- formats 1, 2 and 3: a pixel of 8, 4 or 1 bits is a palette index
abbrev pub p8 : PixelLayout
p8 = pixels 8 true

abbrev pub p4 : PixelLayout
p4 = pixels 4 true

abbrev pub p1 : PixelLayout
p1 = pixels 1 true

-- the layout of each format
abbrev pub layout_of : Format → PixelLayout
layout_of Argb1555 = argb1555
layout_of P8 = p8
layout_of P4 = p4
layout_of P1 = p1
