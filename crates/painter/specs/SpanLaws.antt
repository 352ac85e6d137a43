-- What painting a span does, in words that follow no order of work.
use Rattle.std.specs.Prelude.{◌≡◌, ℕ, ◌<◌, ◌≤◌, Bool, false, cond, ◌&&◌, List, [], is_some, Some, None, Ok, Err, Option, Result, slice_index}
use Rattle.surface.specs.declared.fault.Fault.{Fault}
use Rattle.surface.specs.Lookups.{Need, needs, first_refused}
use Rattle.painter.specs.declared.span_refusal.SpanRefusal.{SpanRefusal}
use Rattle.painter.specs.Spans.{Span, Effect, keep, put, stop, in_clip, lookup_at, effect_at, painted}

-- a pixel after an effect
abbrev pub pixel_after : Effect → ℕ → ℕ
pixel_after keep pixel = pixel
pixel_after (put new) pixel = new
pixel_after (stop fault) pixel = pixel

-- an effect that does not stop
abbrev pub GoesOn : Effect → Type 0
GoesOn keep = Unit {0}
GoesOn (put new) = Unit {0}
GoesOn (stop fault) = ⊥

-- of n columns, how many were painted: all, or those left of the refused one
abbrev pub reach : ℕ → Result Unit SpanRefusal → ℕ
reach n (Ok _) = n
reach n (Err refusal) = refusal.column

-- where the painter stopped, the effect of that column is to stop with that refusal
abbrev pub StopsThere : ℕ → (ℕ → Effect) → Result Unit SpanRefusal → Type 0
StopsThere n effect (Ok _) = Unit {0}
StopsThere n effect (Err refusal) = (refusal.column < n) × (effect refusal.column ≡ stop refusal.fault)

-- n columns of a line, each by itself: left of the reach every column has its effect and none stops; from there on the
-- line is as it was
pub record Pointwise (n : ℕ) (effect : ℕ → Effect) (before after : List ℕ) (r : Result Unit SpanRefusal) : Type 0 where
  pub goes_on : (x : ℕ) → x < reach n r → GoesOn (effect x)
  pub left : (x : ℕ) → x < reach n r → slice_index after x ≡ pixel_after (effect x) (slice_index before x)
  pub right : (x : ℕ) → reach n r ≤ x → slice_index after x ≡ slice_index before x
  pub stops_there : StopsThere n effect r

-- a column lies in the clip and in the region
abbrev pub in_span : Span → ℕ → Bool
in_span s x = in_clip s.clip x && is_some (s.place x)

-- a pixel outside clip or region keeps its value
abbrev pub KeepsOutside : Span → List ℕ → List ℕ → Type 0
KeepsOutside s before after = (x : ℕ) → in_span s x ≡ false → slice_index after x ≡ slice_index before x

-- the halfwords that column x needs: those of its lookup, if it lies in clip and region
abbrev pub column_needs : Span → ℕ → List Need
column_needs s x = cond (in_span s x) (needs s.memory (lookup_at s x)) []

-- the first halfword that column x needs and the memory refuses, if there is one
abbrev pub refused_need : Span → ℕ → Option Fault
refused_need s x = first_refused s.memory (column_needs s x)

-- a span is refused exactly if some column needs a halfword that the memory refuses: at the leftmost such column, with
-- the first such halfword there
abbrev pub RefusedByNeeds : Span → Result Unit SpanRefusal → Type 0
RefusedByNeeds s (Ok _) = (x : ℕ) → x < 512 → refused_need s x ≡ None
RefusedByNeeds s (Err refusal) =
    (refusal.column < 512) × (refused_need s refusal.column ≡ Some refusal.fault) × ((x : ℕ) → x < refusal.column → refused_need s x ≡ None)

-- painting the same span again changes nothing, and answers the same
abbrev pub PaintedOnce : Span → List ℕ → Result Unit SpanRefusal → Type 0
PaintedOnce s after r = painted s after ≡ (r, after)

-- what painting a span on a line comes to: the answer and the line, and what that means for each column
pub record Paints (s : Span) (before after : List ℕ) (r : Result Unit SpanRefusal) : Type 0 where
  pub answer : r ≡ (painted s before).0
  pub line : after ≡ (painted s before).1
  pub pointwise : Pointwise 512 (effect_at s) before after r
  pub keeps_outside : KeepsOutside s before after
  pub refused_by_needs : RefusedByNeeds s r
  pub painted_once : PaintedOnce s after r
