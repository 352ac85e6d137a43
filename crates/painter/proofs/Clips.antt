-- Which columns lie in a clip, and effects that agree.
use Rattle.std.proofs.Common.{◌≡◌, ℕ, zero, suc, ◌<◌, ◌≤◌, Bool, true, false, ◌&&◌, leb, List, Ok, Err, Result, refl, ap, ◌∙◌, arith, le-leb}
use borrow.Author.Tests.{lt-leb}
use Rattle.painter.specs.declared.clip.Clip.{Clip}
use Rattle.painter.specs.declared.span_refusal.SpanRefusal.{SpanRefusal}
use Rattle.painter.specs.Spans.{Effect, in_clip, with_effect, then_column, painted_below}

-- effects that agree on every column paint the same
module _ (f h : ℕ → Effect) where
  same_effect : (n : ℕ) (r : Result Unit SpanRefusal) (a : List ℕ) → f n ≡ h n → then_column f n (r, a) ≡ then_column h n (r, a)
  same_effect n (Ok tt) a e = ap (with_effect a n) e
  same_effect n (Err refusal) a e = refl

  pub same_effects : (l : List ℕ) (n : ℕ) → ((x : ℕ) → x < n → f x ≡ h x) → painted_below f l n ≡ painted_below h l n
  unfolding painted_below
  same_effects l zero e = refl
  same_effects l (suc n) e =
      ap (then_column f n) (same_effects l n (λ x i. e x (omega arith)))
      ∙ same_effect n (painted_below h l n).0 (painted_below h l n).1 (e n (omega arith))

and_false : (b : Bool) → (b && false) ≡ false
and_false true = refl
and_false false = refl

module _ (clip : Clip) (x : ℕ) where
  pub before_clip : x < clip.start → in_clip clip x ≡ false
  before_clip h = let e : leb clip.start x ≡ false = lt-leb clip.start x h in rw e refl

  pub behind_clip : clip.end < x → in_clip clip x ≡ false
  behind_clip h = let e : leb x clip.end ≡ false = lt-leb x clip.end h in rw e (and_false (leb clip.start x))

  pub within_clip : clip.start ≤ x → x ≤ clip.end → in_clip clip x ≡ true
  within_clip h i =
      let start : leb clip.start x ≡ true = le-leb clip.start x h in
      let end : leb x clip.end ≡ true = le-leb x clip.end i in
      rw (start, end) refl
