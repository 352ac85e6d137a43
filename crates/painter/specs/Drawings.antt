-- The five drawings: where each finds its pixels, and on which surface.
use Rattle.std.specs.Prelude.{◌≡◌, ℕ, false, List, Option}
use Rattle.memory.specs.Outcomes.{Outcome}
use Rattle.surface.specs.declared.format.Format.{Format}
use Rattle.surface.specs.declared.format.Format.TheVariants.{Argb1555}
use Rattle.surface.specs.declared.format.PixelLayout.{PixelLayout}
use Rattle.surface.specs.Formats.{layout_of}
use Rattle.surface.specs.Lookups.{Lookup}
use Rattle.surface.specs.Palettes.{colours}
use Rattle.surface.specs.Surfaces.{plain_lookup, image_side, image_lookup, tile_side, field_side, tile_lookup}
use Rattle.painter.specs.declared.affine.Transform.{Transform}
use Rattle.painter.specs.declared.blit.Blit as blit
use Rattle.painter.specs.declared.tile.Tile as tile
use Rattle.painter.specs.declared.clip.Clip.{Clip}
use Rattle.painter.specs.declared.drawing.Drawing.{Drawing}
use Rattle.painter.specs.declared.drawing.Drawing.TheVariants.{Fill, Blit, Tile, Ablit, Atile}
use Rattle.painter.specs.declared.painter.Painter.{Painter}
use Rattle.painter.specs.Mappings.{fill_place, blit_place, tile_place, ablit_place, atile_place}
use Rattle.painter.specs.Spans.{Span, span, painted}

-- the place of column x on line y, none outside the region
abbrev pub place_of : Drawing → ℕ → ℕ → Option (ℕ × ℕ)
place_of (Fill d) = fill_place d
place_of (Blit d) = blit_place d
place_of (Tile d) = tile_place d
place_of (Ablit d) = ablit_place d
place_of (Atile d) = atile_place d

-- the side of the surface
abbrev pub side_of : Drawing → ℕ
side_of (Fill d) = 1
side_of (Blit d) = image_side d.size false
side_of (Tile d) = field_side d.pfs
side_of (Ablit d) = image_side d.blit.size d.half
side_of (Atile d) = field_side d.tile.pfs

abbrev image_of : PixelLayout → blit.Blit → ℕ → ℕ → ℕ → Lookup
image_of format d side = image_lookup format d.poff d.image side

abbrev field_of : PixelLayout → tile.Tile → ℕ → ℕ → Lookup
field_of format d = tile_lookup format d.poff d.tilemap d.tileset (tile_side d.s) (field_side d.pfs)

-- what the surface looks up at (u, v) below the side, its pixels taken in a format
abbrev pub lookup_in : PixelLayout → Drawing → ℕ → ℕ → Lookup
lookup_in format (Fill d) u v = plain_lookup d.colour
lookup_in format (Blit d) u v = image_of format d (image_side d.size false) u v
lookup_in format (Tile d) u v = field_of format d u v
lookup_in format (Ablit d) u v = image_of format d.blit (image_side d.blit.size d.half) u v
lookup_in format (Atile d) u v = field_of format d.tile u v

-- the format that a drawing names; a fill has no pixels to unpack, so any will do
abbrev pub format_of : Drawing → Format
format_of (Fill d) = Argb1555
format_of (Blit d) = d.format
format_of (Tile d) = d.format
format_of (Ablit d) = d.blit.format
format_of (Atile d) = d.tile.format

-- the span of a drawing on line y, its pixels taken in a format
abbrev pub span_in : PixelLayout → (ℕ → Outcome) → (ℕ → ℕ) → Clip → Drawing → ℕ → Span
span_in format memory palette clip d y = span memory palette clip (place_of d y) (side_of d) (lookup_in format d)

-- the span of a drawing on line y
abbrev pub drawing_span : (ℕ → Outcome) → (ℕ → ℕ) → Clip → Drawing → ℕ → Span
drawing_span memory palette clip d y = span_in (layout_of (format_of d)) memory palette clip d y

-- the span of a drawing that a painter paints; `outcome` says what the memory has
abbrev pub painter_drawing_span : {M : Type 0} → (M → ℕ → Outcome) → Painter M → Drawing → Span
painter_drawing_span outcome p d = drawing_span (outcome p.source.memory.now) (colours p.source.palette.now) p.clip d p.y

-- two drawings paint alike: equal lines and equal refusals, over every memory, palette, clip and line y
abbrev pub PaintAlike : Drawing → Drawing → Type 0
PaintAlike d e = (memory : ℕ → Outcome) (palette : ℕ → ℕ) (clip : Clip) (y : ℕ) (line : List ℕ)
    → painted (drawing_span memory palette clip d y) line ≡ painted (drawing_span memory palette clip e y) line

-- with this transform an ablit without h paints as the blit, and an atile as the tile
pub record ChangesNothing (t : Transform) : Type 0 where
  pub ablit : (b : blit.Blit) → PaintAlike (Ablit (record { blit = b; half = false; transform = t })) (Blit b)
  pub atile : (b : tile.Tile) → PaintAlike (Atile (record { tile = b; transform = t })) (Tile b)
