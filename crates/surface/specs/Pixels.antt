-- Pixels of an image: where they lie, and the colours that they mean.
use Rattle.std.specs.Prelude.{ℕ, ◌+◌, ◌*◌, ◌/◌, ◌%◌, ◌^◌, cond}
use Rattle.surface.specs.declared.fault.Reading.TheVariants.{Pixel}
use Rattle.surface.specs.declared.format.PixelLayout.{PixelLayout}
use Rattle.surface.specs.Lookups.{Lookup, shows, needs_then}

-- pixel k of width w in an image is in the halfword at this address
abbrev pub pixel_address : ℕ → ℕ → ℕ → ℕ
pixel_address w image k = (image + 2 * (k * w / 16)) % 2 ^ 32

-- pixel k, from that halfword: shifted right by k · w mod 16 and cut to w bits
abbrev pub unpacked : ℕ → ℕ → ℕ → ℕ
unpacked w k halfword = halfword / 2 ^ (k * w % 16) % 2 ^ w

-- the colour that a pixel means: itself, or the palette's colour of the index after the palette offset is added
abbrev pub pixel_colour : PixelLayout → ℕ → ℕ → (ℕ → ℕ) → ℕ
pixel_colour format poff pixel palette = cond format.indexed (palette ((pixel + 32 * poff) % 256)) pixel

-- pixel k of an image
abbrev pub pixel_lookup : PixelLayout → ℕ → ℕ → ℕ → Lookup
pixel_lookup format poff image k =
    needs_then Pixel (pixel_address format.width image k) (λ h. shows (pixel_colour format poff (unpacked format.width k h)))
