-- One column painted, and all columns of a span from those that lie in its clip and region.
use Rattle.std.proofs.Common.{◌≡◌, ℕ, ◌+◌, ◌%◌, ◌<◌, ◌≤◌, min, Bool, true, false, cond, List, length, set, Some, None, Ok, Err, Option, Result, sym, refl, ap, ◌∙◌, subst, inl, inr, arith}
use Rattle.std.proofs.lemmas.Bool.{cases_lt}
use Rattle.surface.specs.declared.fault.Fault.{Fault}
use Rattle.surface.specs.Colours.{opaque, painted_pixel}
use Rattle.surface.specs.Lookups.{colour_of, folded}
use Rattle.surface.proofs.Lists.{write_at_set}
use Rattle.painter.specs.declared.columns.Columns.{Columns}
use Rattle.painter.specs.declared.span_refusal.SpanRefusal.{SpanRefusal}
use Rattle.painter.specs.Columns.{AllOutside, NextColumn}
use Rattle.painter.specs.Spans.{Span, Effect, keep, put, in_clip, placed, effect_of, unclipped_effect, effect_at, with_effect, painted_below, painted}
use Rattle.painter.proofs.Clips.{before_clip, behind_clip, within_clip}
use Rattle.painter.proofs.Painting.{below_none, next_column, kept_to, refused_from}

-- an opaque colour is written into the line
pub opaque_put : (l : List ℕ) (x colour : ℕ) (b : Bool) (r : Result ℕ Fault) → x < length l → Ok colour ≡ r → b ≡ opaque colour → b ≡ true
    → with_effect l x (effect_of r) ≡ (Ok tt, set l x (colour % 32768))
opaque_put l x colour b r h is test taken =
    ap (λ (q : Result ℕ Fault). with_effect l x (effect_of q)) (sym is)
    ∙ ap (λ (t : Bool). with_effect l x (cond t (put (painted_pixel colour)) keep)) (sym test ∙ taken)
    ∙ ap (λ (k : List ℕ). (Ok tt, k)) (sym (write_at_set l x (painted_pixel colour) h))

-- the columns below x are painted, and none was refused
pub record SweptTo (s : Span) (before : List ℕ) (x : ℕ) (line : List ℕ) : Type 0 where
  pub in_range : (min s.clip.start 512 ≤ x) × (x ≤ 512)
  pub painted : painted_below (effect_at s) before x ≡ (Ok tt, line)

module _ (s : Span) where
  -- a column outside the clip keeps its pixel, and so does one outside the region
  off_clip : (x : ℕ) → in_clip s.clip x ≡ false → effect_at s x ≡ keep
  off_clip x e = ap (λ (b : Bool). cond b (unclipped_effect s x) keep) e

  keep_or_keep : (b : Bool) (e : Effect) → e ≡ keep → cond b e keep ≡ keep
  keep_or_keep true e is = is
  keep_or_keep false e is = refl

  off_region : (x : ℕ) → s.place x ≡ None → effect_at s x ≡ keep
  off_region x e =
      keep_or_keep (in_clip s.clip x) (unclipped_effect s x)
      (ap (λ (p : Option (ℕ × ℕ)). effect_of (colour_of s.memory s.palette (placed s.side s.lookup p))) e)

  module _ (l : List ℕ) where
    pub none_swept : SweptTo s l (min s.clip.start 512) l
    none_swept = record {
      in_range = (omega arith, omega arith);
      painted = kept_to (effect_at s) l l 0 (min s.clip.start 512) (omega arith) (below_none (effect_at s) l) (λ x h i. off_clip x (before_clip s.clip x (omega arith)));
    }

    module _ {P : Type 0} (place : ℕ → Option (ℕ × ℕ)) (same : place ≡ s.place) (before after : Columns P) (end : before.end ≡ min s.clip.end 511 + 1) (a d : List ℕ) (x : ℕ) (at : ℕ × ℕ) (next : NextColumn place before x at after) (swept : SweptTo s l before.x a) where
      -- up to the next column inside nothing is painted
      up_to_next : painted_below (effect_at s) l x ≡ (Ok tt, a)
      up_to_next =
          let outside : AllOutside s.place before.x x = subst (λ (p : ℕ → Option (ℕ × ℕ)). AllOutside p before.x x) same next.passed in
          kept_to (effect_at s) l a before.x x next.in_range.0 swept.painted (λ k h i. off_region k (outside k h i))

      -- that column has the effect of its place
      effect_of_next : (r : Result Unit SpanRefusal) → with_effect a x (effect_of (colour_of s.memory s.palette (folded s.side s.lookup at.0 at.1))) ≡ (r, d) → with_effect a x (effect_at s x) ≡ (r, d)
      effect_of_next r m =
          ap (λ (b : Bool). with_effect a x (cond b (unclipped_effect s x) keep)) (within_clip s.clip x (omega (arith, next.in_range, swept.in_range)) (omega (arith, next.in_range)))
          ∙ ap (λ (p : Option (ℕ × ℕ)). with_effect a x (effect_of (colour_of s.memory s.palette (placed s.side s.lookup p))))
          (subst (λ (p : ℕ → Option (ℕ × ℕ)). p x ≡ Some at) same next.inside)
          ∙ m

      -- it is painted, or it stops
      pub next_swept : with_effect a x (effect_of (colour_of s.memory s.palette (folded s.side s.lookup at.0 at.1))) ≡ (Ok tt, d) → SweptTo s l (x + 1) d
      next_swept m = record {
        in_range = (omega (arith, next.in_range, swept.in_range), omega (arith, next.in_range));
        painted = next_column (effect_at s) l a x up_to_next ∙ effect_of_next (Ok tt) m;
      }

      pub next_stops : (r : SpanRefusal) → with_effect a x (effect_of (colour_of s.memory s.palette (folded s.side s.lookup at.0 at.1))) ≡ (Err r, d) → painted s l ≡ (Err r, d)
      next_stops r m = refused_from (effect_at s) l a d x 512 r (omega (arith, next.in_range)) up_to_next (effect_of_next (Err r) m)

    -- no column inside is left
    pub all_swept : (place : ℕ → Option (ℕ × ℕ)) (a : List ℕ) (x end : ℕ) → place ≡ s.place → end ≡ min s.clip.end 511 + 1 → AllOutside place x end → SweptTo s l x a → painted s l ≡ (Ok tt, a)
    all_swept place a x end same last out swept =
        let outside : AllOutside s.place x end = subst (λ (p : ℕ → Option (ℕ × ℕ)). AllOutside p x end) same out in
        kept_to (effect_at s) l a x 512 swept.in_range.1 swept.painted (λ k h i.
        elim (cases_lt k end) [
          | inl left ↦ off_region k (outside k h left)
          | inr right ↦ off_clip k (behind_clip s.clip k (omega arith))
        ])
