-- What a memory means, and what a read answers.
use Rattle.std.specs.Prelude.{ℕ, ◌%◌, cond, Ok, Err, Result, ◌==◌}
use Rattle.memory.specs.declared.refusal.Refusal.{Refusal}
use Rattle.memory.specs.Refusals.{refusal}

-- what a memory has at an even address: a halfword, nothing, or a halfword of an unsound block
pub data Outcome : Type 0 where
  present : ℕ → Outcome
  absent : Outcome
  unsound : Outcome

-- what a read of an even address answers, by its outcome: the halfword, or refusal 2 or 3
abbrev pub even_answer : Outcome → Result ℕ Refusal
even_answer (present h) = Ok h
even_answer absent = Err (refusal 2)
even_answer unsound = Err (refusal 3)

-- what a read of any address answers: an odd one is refused with 1, an even one gets its outcome
abbrev pub answer : (ℕ → Outcome) → ℕ → Result ℕ Refusal
answer outcome a = cond (a % 2 == 1) (Err (refusal 1)) (even_answer (outcome a))
