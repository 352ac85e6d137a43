use Rattle.std.proofs.Common.{◌≡◌, ℕ, ◌<◌, length, get_or}
use Rattle.memory.specs.declared.block.BlockState.TheVariants.{Sound}
use Rattle.memory.specs.States.{state_at}
use Rattle.memory.proofs.card.check_blocks.Given as goal

abbrev pub invariant-loop-k : goal.invariant-loop-k
invariant-loop-k l = (length l.states ≡ 4096) × ((k : ℕ) → k < l.k → get_or l.states k Sound ≡ state_at l.file k)
