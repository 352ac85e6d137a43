-- What painting a span comes to: columns outside keep their pixels, and refusals are those of the needs.
use Rattle.std.proofs.Common.{◌≡◌, ℕ, Bool, true, false, cond, ◌&&◌, List, [], length, get_or, is_some, Some, None, Ok, Err, Option, Result, sym, refl, ap, ◌∙◌, inl, inr, arith}
use Rattle.std.proofs.lemmas.Bool.{cases_lt}
use Rattle.surface.specs.declared.fault.Fault.{Fault}
use Rattle.surface.specs.Colours.{opaque, painted_pixel}
use Rattle.surface.specs.Lookups.{colour_of, refusal_in, needs, first_refused}
use Rattle.surface.proofs.Lookups.{refused_by_needs}
use Rattle.painter.specs.declared.span_refusal.SpanRefusal.{SpanRefusal}
use Rattle.painter.specs.Spans.{Painting, Effect, keep, put, stop, Span, in_clip, placed, effect_of, effect_at, painted}
use Rattle.painter.specs.SpanLaws.{pixel_after, GoesOn, reach, Pointwise, KeepsOutside, refused_need, RefusedByNeeds, Paints}
use Rattle.painter.proofs.Pointwise.{pointwise, length-painted, painted_again}

-- the refusal with which an effect stops, if it does
abbrev stop_in : Effect → Option Fault
stop_in keep = None
stop_in (put pixel) = None
stop_in (stop fault) = Some fault

opaque_goes_on : (b : Bool) (pixel : ℕ) → stop_in (cond b (put pixel) keep) ≡ None
opaque_goes_on true pixel = refl
opaque_goes_on false pixel = refl

stop_of_colour : (r : Result ℕ Fault) → stop_in (effect_of r) ≡ refusal_in r
stop_of_colour (Ok colour) = opaque_goes_on (opaque colour) (painted_pixel colour)
stop_of_colour (Err fault) = refl

goes_on_none : (e : Effect) → GoesOn e → stop_in e ≡ None
goes_on_none keep h = refl
goes_on_none (put pixel) h = refl
goes_on_none (stop fault) h = absurd h

module _ (s : Span) where
  -- clip and place of a column, by cases
  outside_by : (b : Bool) (p : Option (ℕ × ℕ)) → (b && is_some p) ≡ false
      → cond b (effect_of (colour_of s.memory s.palette (placed s.side s.lookup p))) keep ≡ keep
  outside_by false p e = refl
  outside_by true None e = refl
  outside_by true (Some p) e = let z : ◌≡◌ {A = ℕ} 0 1 = cc in absurd (omega arith)

  pub keeps_outside : (before after : List ℕ) (r : Result Unit SpanRefusal) → Pointwise 512 (effect_at s) before after r → KeepsOutside s before after
  keeps_outside before after r p x out =
      elim (cases_lt x (reach 512 r)) [
        | inl left ↦ p.left x left ∙ ap (λ (e : Effect). pixel_after e (get_or before x 0)) (outside_by (in_clip s.clip x) (s.place x) out)
        | inr right ↦ p.right x right
      ]

  needs_by : (b : Bool) (p : Option (ℕ × ℕ))
      → stop_in (cond b (effect_of (colour_of s.memory s.palette (placed s.side s.lookup p))) keep)
      ≡ first_refused s.memory (cond (b && is_some p) (needs s.memory (placed s.side s.lookup p)) [])
  needs_by false p = refl
  needs_by true None = refl
  needs_by true (Some p) =
      stop_of_colour (colour_of s.memory s.palette (placed s.side s.lookup (Some p)))
      ∙ refused_by_needs s.memory s.palette (placed s.side s.lookup (Some p))

  -- a column stops exactly with the first of its needs that is refused
  stops_by_needs : (x : ℕ) → stop_in (effect_at s x) ≡ refused_need s x
  stops_by_needs x = needs_by (in_clip s.clip x) (s.place x)

  goes_on_by_needs : (x : ℕ) → GoesOn (effect_at s x) → refused_need s x ≡ None
  goes_on_by_needs x h = sym (stops_by_needs x) ∙ goes_on_none (effect_at s x) h

  refusal_by_needs : (before after : List ℕ) (r : Result Unit SpanRefusal) → Pointwise 512 (effect_at s) before after r → RefusedByNeeds s r
  refusal_by_needs before after (Ok tt) p = λ x h. goes_on_by_needs x (p.goes_on x h)
  refusal_by_needs before after (Err refusal) p = (
    p.stops_there.0,
    sym (stops_by_needs refusal.column) ∙ ap stop_in p.stops_there.1,
    λ x h. goes_on_by_needs x (p.goes_on x h),
  )

  paints_so : (line : List ℕ) → length line ≡ 512 → Paints s line (painted s line).1 (painted s line).0
  paints_so line long =
      let p : Pointwise 512 (effect_at s) line (painted s line).1 (painted s line).0 = pointwise (effect_at s) line 512 in
      let stays : length (painted s line).1 ≡ length line = length-painted (effect_at s) line 512 (omega arith) in
      record {
        answer = refl;
        line = refl;
        pointwise = p;
        keeps_outside = keeps_outside line (painted s line).1 (painted s line).0 p;
        refused_by_needs = refusal_by_needs line (painted s line).1 (painted s line).0 p;
        painted_once = painted_again (effect_at s) line (painted s line).1 512 (painted s line).0 (omega arith) p;
      }

-- what a call that painted the span left and answered
pub paints : (s : Span) (line after : List ℕ) (r : Result Unit SpanRefusal) → length line ≡ 512 → painted s line ≡ (r, after) → Paints s line after r
paints s line after r long e =
    let is : r ≡ (painted s line).0 = sym (ap (λ (p : Painting). p.0) e) in
    let left : after ≡ (painted s line).1 = sym (ap (λ (p : Painting). p.1) e) in
    rw (is, left) (paints_so s line long)
