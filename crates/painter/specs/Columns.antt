-- The columns that lie in the region of a mapping.
use Rattle.std.specs.Prelude.{◌≡◌, ℕ, ◌+◌, ◌<◌, ◌≤◌, Some, None, Option}
use Rattle.painter.specs.declared.columns.Columns.{Columns}

-- all columns from one up to another are outside the region
abbrev pub AllOutside : (ℕ → Option (ℕ × ℕ)) → ℕ → ℕ → Type 0
AllOutside place from to = (x : ℕ) → from ≤ x → x < to → place x ≡ None

-- column x is the next one inside, at a place; then those behind it are left
pub record NextColumn {P : Type 0} (place : ℕ → Option (ℕ × ℕ)) (before : Columns P) (x : ℕ) (at : ℕ × ℕ) (after : Columns P) : Type 0 where
  pub passed : AllOutside place before.x x
  pub inside : place x ≡ Some at
  pub in_range : (before.x ≤ x) × (x < before.end)
  pub rest : after ≡ record before { x = x + 1 }

-- what a call of `next` gives: the next column inside with its place, or none if all that are left are outside
abbrev pub GivesColumn : {P : Type 0} → (P → ℕ → ℕ → Option (ℕ × ℕ)) → Columns P → Option (ℕ × (ℕ × ℕ)) → Columns P → Type 0
GivesColumn place before None after = AllOutside (place before.mapping.now before.y) before.x before.end
GivesColumn place before (Some (x, at)) after = NextColumn (place before.mapping.now before.y) before x at after
