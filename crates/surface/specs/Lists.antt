-- Writing into a list of numbers.
use Rattle.std.specs.Prelude.{ℕ, zero, suc, List, [], ◌∷◌}

-- the list with another value at one index; a list that is too short is filled up with zeros, so that what it then has
-- at each index does not depend on its length
unfoldable pub write_at : List ℕ → ℕ → ℕ → List ℕ
write_at [] zero v = v ∷ []
write_at [] (suc i) v = 0 ∷ write_at [] i v
write_at (x ∷ xs) zero v = v ∷ xs
write_at (x ∷ xs) (suc i) v = x ∷ write_at xs i v
