-- The next column that lies in a region.
use Rattle.std.proofs.Common.{◌≡◌, ℕ, ◌+◌, ◌-◌, ◌<◌, ◌≤◌, None, Option, ap, ◌∙◌, inl, inr, arith}
use Rattle.std.proofs.lemmas.Bool.{cases_lt}
use Rattle.painter.specs.Columns.{AllOutside}

-- column x is outside too, and so are those that are passed over behind it
pub more_outside : (place : ℕ → Option (ℕ × ℕ)) (from x n outside : ℕ) → AllOutside place from x → place x ≡ None
    → ((k : ℕ) → k < outside → place (x + 1 + k) ≡ None) → n ≤ x + 1 + outside → AllOutside place from n
more_outside place from x n outside before here behind most k h i =
    elim (cases_lt k x) [
      | inl earlier ↦ before k h earlier
      | inr not_earlier ↦
          elim (cases_lt x k) [
            | inl later ↦ let p : k ≡ x + 1 + (k - (x + 1)) = omega arith in ap place p ∙ behind (k - (x + 1)) (omega arith)
            | inr not_later ↦ let p : k ≡ x = omega arith in ap place p ∙ here
          ]
    ]
