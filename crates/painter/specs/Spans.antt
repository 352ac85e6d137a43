-- A span: what is painted on one line, and what it does to the line, column by column.
use Rattle.std.specs.Prelude.{ℕ, zero, suc, Bool, cond, ◌&&◌, List, Some, None, Ok, Err, Option, Result, nat_le}
use Rattle.memory.specs.Outcomes.{Outcome}
use Rattle.surface.specs.declared.fault.Fault.{Fault}
use Rattle.surface.specs.Colours.{opaque, painted_pixel}
use Rattle.surface.specs.Lists.{write_at}
use Rattle.surface.specs.Lookups.{Lookup, nothing, colour_of, folded}
use Rattle.surface.specs.Palettes.{colours}
use Rattle.painter.specs.declared.clip.Clip.{Clip}
use Rattle.painter.specs.declared.painter.Painter.{Painter}
use Rattle.painter.specs.declared.span_refusal.SpanRefusal.{SpanRefusal}

-- all that a span depends on: what the memory shows, the palette's colours, the clip, the place of each column on the
-- surface (none outside the region), the surface's side, and what the surface looks up below it
pub record Span : Type 0 where
  pub memory : ℕ → Outcome
  pub palette : ℕ → ℕ
  pub clip : Clip
  pub place : ℕ → Option (ℕ × ℕ)
  pub side : ℕ
  pub lookup : ℕ → ℕ → Lookup

abbrev pub span : (ℕ → Outcome) → (ℕ → ℕ) → Clip → (ℕ → Option (ℕ × ℕ)) → ℕ → (ℕ → ℕ → Lookup) → Span
span memory palette clip place side lookup =
    record { memory = memory; palette = palette; clip = clip; place = place; side = side; lookup = lookup }

-- the span of a painter, with the places of a mapping and what a surface looks up; `outcome` says what the memory has
abbrev pub painter_span : {M : Type 0} → (M → ℕ → Outcome) → Painter M → (ℕ → ℕ → Option (ℕ × ℕ)) → ℕ → (ℕ → ℕ → Lookup) → Span
painter_span outcome p place side lookup = span (outcome p.source.memory.now) (colours p.source.palette.now) p.clip (place p.y) side lookup

-- a column lies in the clip, both ends included
abbrev pub in_clip : Clip → ℕ → Bool
in_clip clip x = nat_le clip.start x && nat_le x clip.end

-- the surface's lookup at a place, folded into its side; nothing outside the region
abbrev pub placed : ℕ → (ℕ → ℕ → Lookup) → Option (ℕ × ℕ) → Lookup
placed side lookup (Some p) = folded side lookup p.0 p.1
placed side lookup None = nothing

-- what a drawing does at one column: it keeps the pixel, puts another, or stops with a refusal
pub data Effect : Type 0 where
  keep : Effect
  put : ℕ → Effect
  stop : Fault → Effect

-- an opaque colour puts its low 15 bits, another keeps the pixel, and a refusal stops
abbrev pub effect_of : Result ℕ Fault → Effect
effect_of (Ok colour) = cond (opaque colour) (put (painted_pixel colour)) keep
effect_of (Err fault) = stop fault

-- what is looked up at column x, the clip aside
abbrev pub lookup_at : Span → ℕ → Lookup
lookup_at s x = placed s.side s.lookup (s.place x)

-- what a span does at column x, the clip aside
abbrev pub unclipped_effect : Span → ℕ → Effect
unclipped_effect s x = effect_of (colour_of s.memory s.palette (lookup_at s x))

-- what a span does at column x
abbrev pub effect_at : Span → ℕ → Effect
effect_at s x = cond (in_clip s.clip x) (unclipped_effect s x) keep

-- an answer of the painter, and the line as it leaves it
abbrev pub Painting : Type 0
Painting = Result Unit SpanRefusal × List ℕ

-- a span that is refused at a column
abbrev pub refused_at : ℕ → Fault → Result Unit SpanRefusal
refused_at x fault = Err (record { column = x; fault = fault })

-- the effect at column x on a line
abbrev pub with_effect : List ℕ → ℕ → Effect → Painting
with_effect line x keep = (Ok tt, line)
with_effect line x (put pixel) = (Ok tt, write_at line x pixel)
with_effect line x (stop fault) = (refused_at x fault, line)

-- one column more, unless an earlier one was refused
abbrev pub then_column : (ℕ → Effect) → ℕ → Painting → Painting
then_column effect x (Ok _, line) = with_effect line x (effect x)
then_column effect x (Err refusal, line) = (Err refusal, line)

-- the columns below n, from left to right, up to the first that is refused
unfoldable pub painted_below : (ℕ → Effect) → List ℕ → ℕ → Painting
painted_below effect line zero = (Ok tt, line)
painted_below effect line (suc n) = then_column effect n (painted_below effect line n)

-- a span painted on a line of 512 pixels
abbrev pub painted : Span → List ℕ → Painting
painted s line = painted_below (effect_at s) line 512
