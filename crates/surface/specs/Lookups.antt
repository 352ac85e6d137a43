-- What a surface looks up at a place, and what follows from it: the colour, the refusal, and the halfwords it needs.
use Rattle.std.specs.Prelude.{◌≡◌, ℕ, ◌%◌, List, [], ◌∷◌, Some, None, Ok, Err, Option, Result}
use Rattle.memory.specs.Outcomes.{Outcome, answer}
use Rattle.memory.specs.declared.refusal.Refusal.{Refusal}
use Rattle.surface.specs.declared.fault.Fault.{Fault}
use Rattle.surface.specs.declared.fault.Reading.{Reading}

-- a lookup either shows a colour, which may depend on the palette, or first needs the halfword at an address (as a tile
-- index or as a pixel) and goes on with its value
pub data Lookup : Type 0 where
  shows : ((ℕ → ℕ) → ℕ) → Lookup
  needs_then : Reading → ℕ → (ℕ → Lookup) → Lookup

-- a lookup that needs nothing and paints nothing: colour 0 is not opaque
abbrev pub nothing : Lookup
nothing = shows (λ palette. 0)

-- a memory's refusal, with what was read and where
abbrev pub fault : Reading → ℕ → Refusal → Fault
fault reading address refusal = record { refusal = refusal; reading = reading; address = address }

-- what a read led to: the rest of the lookup, or the refusal
abbrev pub after_read : Reading → ℕ → (ℕ → Result ℕ Fault) → Result ℕ Refusal → Result ℕ Fault
after_read reading address rest (Ok h) = rest h
after_read reading address rest (Err refusal) = Err (fault reading address refusal)

-- the colour that a lookup comes to over a memory and under a palette, or the memory's refusal
abbrev pub colour_of : (ℕ → Outcome) → (ℕ → ℕ) → Lookup → Result ℕ Fault
colour_of memory palette (shows colour) = Ok (colour palette)
colour_of memory palette (needs_then reading address rest) =
    after_read reading address (λ h. colour_of memory palette (rest h)) (answer memory address)

-- a halfword that is needed: as what, and at which address
pub record Need : Type 0 where
  pub reading : Reading
  pub address : ℕ

abbrev pub need : Reading → ℕ → Need
need reading address = record { reading = reading; address = address }

-- what is needed after a read: what the rest of the lookup needs, or nothing more where the read was refused
abbrev pub needs_after : (ℕ → List Need) → Result ℕ Refusal → List Need
needs_after rest (Ok h) = rest h
needs_after rest (Err refusal) = []

-- the halfwords that a lookup needs over a memory, in order
abbrev pub needs : (ℕ → Outcome) → Lookup → List Need
needs memory (shows colour) = []
needs memory (needs_then reading address rest) = need reading address ∷ needs_after (λ h. needs memory (rest h)) (answer memory address)

-- the refusal of one need, or else what the others have
abbrev pub or_later : Need → Option Fault → Result ℕ Refusal → Option Fault
or_later n later (Ok h) = later
or_later n later (Err refusal) = Some (fault n.reading n.address refusal)

-- the first of some needs that the memory refuses, with its refusal; none if it refuses none of them
abbrev pub first_refused : (ℕ → Outcome) → List Need → Option Fault
first_refused memory [] = None
first_refused memory (n ∷ later) = or_later n (first_refused memory later) (answer memory n.address)

-- the refusal in an answer, if there is one
abbrev pub refusal_in : Result ℕ Fault → Option Fault
refusal_in (Ok colour) = None
refusal_in (Err f) = Some f

-- an answer is refused exactly if the memory refuses a halfword that the lookup needs, with the first such refusal
pub record RefusedByNeeds (memory : ℕ → Outcome) (lookup : Lookup) (r : Result ℕ Fault) : Type 0 where
  pub first : refusal_in r ≡ first_refused memory (needs memory lookup)

-- the lookup at any place, folded into the side
abbrev pub folded : ℕ → (ℕ → ℕ → Lookup) → ℕ → ℕ → Lookup
folded side lookup u v = lookup (u % side) (v % side)
