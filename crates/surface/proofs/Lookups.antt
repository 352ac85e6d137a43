-- A lookup is refused with the first of its needs that the memory refuses.
use Rattle.std.proofs.Common.{◌≡◌, ℕ, Ok, Err, Result, refl, ap, ◌∙◌}
use Rattle.memory.specs.Outcomes.{Outcome, answer}
use Rattle.memory.specs.declared.refusal.Refusal.{Refusal}
use Rattle.surface.specs.declared.fault.Fault.{Fault}
use Rattle.surface.specs.declared.fault.Reading.{Reading}
use Rattle.surface.specs.declared.source.Source.{Source}
use Rattle.surface.specs.Lookups.{Lookup, shows, needs_then, need, colour_of, after_read, needs, needs_after, first_refused, or_later, refusal_in}
use Rattle.surface.specs.Palettes.{colours}
use Rattle.surface.specs.Sources.{colour_from, Answers}

module _ (memory : ℕ → Outcome) (palette : ℕ → ℕ) where
  -- the first read, by what it answered
  by_answer : (reading : Reading) (address : ℕ) (rest : ℕ → Lookup)
      → ((h : ℕ) → refusal_in (colour_of memory palette (rest h)) ≡ first_refused memory (needs memory (rest h)))
      → (r : Result ℕ Refusal)
      → refusal_in (after_read reading address (λ h. colour_of memory palette (rest h)) r)
      ≡ or_later (need reading address) (first_refused memory (needs_after (λ h. needs memory (rest h)) r)) r
  by_answer reading address rest later (Ok h) = later h
  by_answer reading address rest later (Err refusal) = refl

  pub refused_by_needs : (lookup : Lookup) → refusal_in (colour_of memory palette lookup) ≡ first_refused memory (needs memory lookup)
  refused_by_needs (shows colour) = refl
  refused_by_needs (needs_then reading address rest) =
      by_answer reading address rest (λ h. refused_by_needs (rest h)) (answer memory address)

-- an answer that is the lookup's colour
pub answers : {M : Type 0} (outcome : M → ℕ → Outcome) (source : Source M) (lookup : Lookup) (r : Result ℕ Fault)
    → r ≡ colour_from outcome source lookup → Answers outcome source lookup r
answers outcome source lookup r e =
    record { value = e; needs = record { first = ap refusal_in e ∙ refused_by_needs (outcome source.memory.now) (colours source.palette.now) lookup } }
