-- What flat memory and a split show.
use Rattle.std.specs.Prelude.{ℕ, ◌+◌, ◌-◌, ◌%◌, ◌^◌, Bool, cond, ◌&&◌, List, length, Ok, Err, Result, ◌==◌, nat_le, nat_lt}
use Rattle.memory.specs.declared.refusal.Refusal.{Refusal}
use Rattle.memory.specs.Refusals.{refusal}
use Rattle.memory.specs.Halfwords.{halfword}
use Rattle.memory.specs.Outcomes.{Outcome, present, absent}

-- an address at or past the base that 32 bits can hold
abbrev pub in_reach : ℕ → ℕ → Bool
in_reach base a = nat_le base a && nat_lt a (2 ^ 32)

-- how far an address lies behind a base; an odd address is refused, and one below the base
abbrev pub offset : ℕ → ℕ → Result ℕ Refusal
offset base a = cond (a % 2 == 1) (Err (refusal 1)) (cond (nat_le base a) (Ok (a - base)) (Err (refusal 2)))

-- flat memory: a halfword is there if both its bytes are among the caller's
abbrev pub flat : ℕ → List ℕ → ℕ → Outcome
flat base bytes a = cond (in_reach base a && nat_lt (a - base + 1) (length bytes)) (present (halfword bytes (a - base))) absent

-- a split: addresses below the boundary belong to the first memory, the others to the second
abbrev pub split : ℕ → (ℕ → Outcome) → (ℕ → Outcome) → ℕ → Outcome
split boundary low high a = cond (nat_lt a boundary) (low a) (high a)
