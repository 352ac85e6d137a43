-- What a painted line holds at each column, and that painting again changes nothing.
use Rattle.std.proofs.Common.{◌≡◌, ℕ, zero, suc, ◌<◌, ◌≤◌, List, [], ◌∷◌, length, get_or, Ok, Err, Result, sym, refl, ap, ◌∙◌, subst, arith, length-set, below_more as below_one_more}
use Rattle.surface.specs.Lists.{write_at}
use Rattle.surface.proofs.Lists.{write_at_set, write_at_same, write_at_other}
use Rattle.painter.specs.declared.span_refusal.SpanRefusal.{SpanRefusal}
use Rattle.painter.specs.Spans.{Effect, keep, put, stop, with_effect, then_column, painted_below}
use Rattle.painter.specs.SpanLaws.{pixel_after, GoesOn, Pointwise}
use Rattle.painter.proofs.Painting.{refused_to}

module _ (f : ℕ → Effect) (l : List ℕ) where
  -- one column more, by its effect
  by_effect : (a : List ℕ) (n : ℕ) (e : Effect) → f n ≡ e → Pointwise n f l a (Ok tt) → Pointwise (suc n) f l (with_effect a n e).1 (with_effect a n e).0
  by_effect a n keep e p = record {
    goes_on = λ x h. below_one_more (λ y. GoesOn (f y)) n p.goes_on (subst GoesOn (sym e) tt) x (omega arith);
    left = λ x h. below_one_more (λ y. get_or a y 0 ≡ pixel_after (f y) (get_or l y 0)) n p.left (p.right n (omega arith) ∙ rw e refl) x (omega arith);
    right = λ x h. p.right x (omega arith);
    stops_there = tt;
  }
  by_effect a n (put v) e p = record {
    goes_on = λ x h. below_one_more (λ y. GoesOn (f y)) n p.goes_on (subst GoesOn (sym e) tt) x (omega arith);
    left = λ x h. below_one_more (λ y. get_or (write_at a n v) y 0 ≡ pixel_after (f y) (get_or l y 0)) n
        (λ y i. write_at_other a n v y (omega arith) ∙ p.left y i)
        (write_at_same a n v ∙ rw e refl) x (omega arith);
    right = λ x h. write_at_other a n v x (omega arith) ∙ p.right x (omega arith);
    stops_there = tt;
  }
  by_effect a n (stop fault) e p = record { goes_on = p.goes_on; left = p.left; right = p.right; stops_there = (omega arith, e) }

  by_answer : (n : ℕ) (r : Result Unit SpanRefusal) (a : List ℕ) → Pointwise n f l a r → Pointwise (suc n) f l (then_column f n (r, a)).1 (then_column f n (r, a)).0
  by_answer n (Ok tt) a p = by_effect a n (f n) refl p
  by_answer n (Err refusal) a p = record { goes_on = p.goes_on; left = p.left; right = p.right; stops_there = (omega (arith, p.stops_there.0), p.stops_there.1) }

  pub pointwise : (n : ℕ) → Pointwise n f l (painted_below f l n).1 (painted_below f l n).0
  unfolding painted_below
  pointwise zero = record {
    goes_on = λ x h. absurd (omega arith);
    left = λ x h. absurd (omega arith);
    right = λ x h. refl;
    stops_there = tt;
  }
  pointwise (suc n) = by_answer n (painted_below f l n).0 (painted_below f l n).1 (pointwise n)

  -- painting keeps the length of a line that has all the columns
  length_by_effect : (a : List ℕ) (n : ℕ) (e : Effect) → n < length a → length (with_effect a n e).1 ≡ length a
  length_by_effect a n keep h = refl
  length_by_effect a n (put v) h = ap length (sym (write_at_set a n v h)) ∙ length-set a n v
  length_by_effect a n (stop fault) h = refl

  length_by_answer : (n : ℕ) (r : Result Unit SpanRefusal) (a : List ℕ) → n < length a → length (then_column f n (r, a)).1 ≡ length a
  length_by_answer n (Ok tt) a h = length_by_effect a n (f n) h
  length_by_answer n (Err refusal) a h = refl

  pub length-painted : (n : ℕ) → n ≤ length l → length (painted_below f l n).1 ≡ length l
  unfolding painted_below
  length-painted zero h = refl
  length-painted (suc n) h =
      let before : length (painted_below f l n).1 ≡ length l = length-painted n (omega arith) in
      length_by_answer n (painted_below f l n).0 (painted_below f l n).1 (omega arith) ∙ before

-- writing what is there changes nothing
write_same : (l : List ℕ) (i v : ℕ) → i < length l → get_or l i 0 ≡ v → write_at l i v ≡ l
unfolding write_at
write_same [] i v h e = absurd (omega arith)
write_same (x ∷ xs) zero v h e = ap (λ y. y ∷ xs) (sym e)
write_same (x ∷ xs) (suc i) v h e = ap (λ r. x ∷ r) (write_same xs i v (omega arith) e)

-- painting a painted line
module _ (f : ℕ → Effect) (l a : List ℕ) where
  one_again : (n : ℕ) (e : Effect) → n < length a → GoesOn e → get_or a n 0 ≡ pixel_after e (get_or l n 0) → with_effect a n e ≡ (Ok tt, a)
  one_again n keep h go is = refl
  one_again n (put v) h go is = ap (λ (k : List ℕ). (Ok tt, k)) (write_same a n v h is)
  one_again n (stop fault) h go is = absurd go

  columns_again : (n : ℕ) → n ≤ length a → ((x : ℕ) → x < n → GoesOn (f x)) → ((x : ℕ) → x < n → get_or a x 0 ≡ pixel_after (f x) (get_or l x 0))
      → painted_below f a n ≡ (Ok tt, a)
  unfolding painted_below
  columns_again zero h go is = refl
  columns_again (suc n) h go is =
      ap (then_column f n) (columns_again n (omega arith) (λ x i. go x (omega arith)) (λ x i. is x (omega arith)))
      ∙ one_again n (f n) (omega arith) (go n (omega arith)) (is n (omega arith))

  pub painted_again : (n : ℕ) (r : Result Unit SpanRefusal) → n ≤ length a → Pointwise n f l a r → painted_below f a n ≡ (r, a)
  painted_again n (Ok tt) h p = columns_again n h p.goes_on p.left
  painted_again n (Err refusal) h p =
      let lt : refusal.column < n = p.stops_there.0 in
      refused_to f a a refusal.column n refusal.fault lt (columns_again refusal.column (omega arith) p.goes_on p.left) (sym p.stops_there.1)
