-- What is answered from a source, which is a memory and a palette.
use Rattle.std.specs.Prelude.{◌≡◌, ℕ, Result}
use Rattle.memory.specs.Outcomes.{Outcome}
use Rattle.surface.specs.declared.fault.Fault.{Fault}
use Rattle.surface.specs.declared.source.Source.{Source}
use Rattle.surface.specs.Lookups.{Lookup, colour_of, RefusedByNeeds}
use Rattle.surface.specs.Palettes.{colours}

-- the colour that a lookup comes to, where `outcome` says what the memory has
abbrev pub colour_from : {M : Type 0} → (M → ℕ → Outcome) → Source M → Lookup → Result ℕ Fault
colour_from outcome source lookup = colour_of (outcome source.memory.now) (colours source.palette.now) lookup

-- what a surface answers at a place: the colour of its lookup, or the refusal that the lookup's needs give
pub record Answers {M : Type 0} (outcome : M → ℕ → Outcome) (source : Source M) (lookup : Lookup) (r : Result ℕ Fault) : Type 0 where
  pub value : r ≡ colour_from outcome source lookup
  pub needs : RefusedByNeeds (outcome source.memory.now) lookup r
