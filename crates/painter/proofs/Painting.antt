-- A line, painted column by column.
use Rattle.std.proofs.Common.{◌≡◌, ℕ, zero, suc, ◌+◌, ◌-◌, ◌<◌, ◌≤◌, List, Ok, Err, sym, refl, ap, ◌∙◌, add-one, arith}
use Rattle.surface.specs.declared.fault.Fault.{Fault}
use Rattle.painter.specs.declared.span_refusal.SpanRefusal.{SpanRefusal}
use Rattle.painter.specs.Spans.{Effect, keep, stop, refused_at, with_effect, then_column, painted_below}

module _ (f : ℕ → Effect) (l : List ℕ) where
  pub below_none : painted_below f l 0 ≡ (Ok tt, l)
  unfolding painted_below
  below_none = refl

  below_more : (n : ℕ) → painted_below f l (n + 1) ≡ then_column f n (painted_below f l n)
  unfolding painted_below
  below_more n = rw add-one refl

  -- the next column has its effect
  pub next_column : (a : List ℕ) (n : ℕ) → painted_below f l n ≡ (Ok tt, a) → painted_below f l (n + 1) ≡ with_effect a n (f n)
  next_column a n e = below_more n ∙ ap (then_column f n) e

  -- columns that keep their pixels may be left out
  kept_on : (a : List ℕ) (k n : ℕ) → painted_below f l k ≡ (Ok tt, a) → ((x : ℕ) → k ≤ x → x < k + n → f x ≡ keep) → painted_below f l (k + n) ≡ (Ok tt, a)
  kept_on a k zero e all = ap (painted_below f l) (omega arith) ∙ e
  kept_on a k (suc n) e all =
      let p : k + suc n ≡ k + n + 1 = omega arith in
      ap (painted_below f l) p
      ∙ next_column a (k + n) (kept_on a k n e (λ x h i. all x h (omega arith)))
      ∙ ap (with_effect a (k + n)) (all (k + n) (omega arith) (omega arith))

  pub kept_to : (a : List ℕ) (k n : ℕ) → k ≤ n → painted_below f l k ≡ (Ok tt, a) → ((x : ℕ) → k ≤ x → x < n → f x ≡ keep) → painted_below f l n ≡ (Ok tt, a)
  kept_to a k n le e all =
      let p : n ≡ k + (n - k) = omega arith in
      ap (painted_below f l) p ∙ kept_on a k (n - k) e (λ x h i. all x h (omega arith))

  -- after a refusal no column is painted
  refused_on : (a : List ℕ) (k n : ℕ) (r : SpanRefusal) → painted_below f l k ≡ (Err r, a) → painted_below f l (k + n) ≡ (Err r, a)
  refused_on a k zero r e = ap (painted_below f l) (omega arith) ∙ e
  refused_on a k (suc n) r e =
      let p : k + suc n ≡ k + n + 1 = omega arith in
      ap (painted_below f l) p ∙ below_more (k + n) ∙ ap (then_column f (k + n)) (refused_on a k n r e)

  -- column k refuses, with line d left: so does every sweep over more columns
  pub refused_from : (a d : List ℕ) (k n : ℕ) (r : SpanRefusal) → k < n → painted_below f l k ≡ (Ok tt, a) → with_effect a k (f k) ≡ (Err r, d) → painted_below f l n ≡ (Err r, d)
  refused_from a d k n r lt e m =
      let p : n ≡ k + 1 + (n - (k + 1)) = omega arith in
      ap (painted_below f l) p ∙ refused_on d (k + 1) (n - (k + 1)) r (next_column a k e ∙ m)

  pub refused_to : (a : List ℕ) (k n : ℕ) (fault : Fault) → k < n → painted_below f l k ≡ (Ok tt, a) → stop fault ≡ f k → painted_below f l n ≡ (refused_at k fault, a)
  refused_to a k n fault lt e m = refused_from a a k n _ lt e (ap (with_effect a k) (sym m))
