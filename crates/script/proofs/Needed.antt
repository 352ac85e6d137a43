-- A piece that is there is the piece that was needed.
use Rattle.std.proofs.Common.{◌≡◌, ℕ, List, [], ◌∷◌, Ok, arith}
use Rattle.script.specs.Fields.{needed}

pub needed_piece : (piece bs : List ℕ) → Ok piece ≡ needed bs → piece ≡ bs
needed_piece piece [] is = grind arith
needed_piece piece (b ∷ bs) is = grind arith
