-- The state of a block, as a card keeps it.
use Rattle.std.specs.Prelude.{◌≡◌, ℕ, ◌<◌, ◌≤◌, Bool, true, false, cond, List, length, slice_index_or}
use Rattle.memory.specs.declared.block.BlockState.{BlockState}
use Rattle.memory.specs.declared.block.BlockState.TheVariants.{Sound, Unsound}
use Rattle.memory.specs.Blocks.{sound}
use Rattle.memory.specs.Cards.{block, block_count}

-- the state of a block as block k
abbrev pub state : List ℕ → ℕ → BlockState
state b k = cond (sound b k) Sound Unsound

-- the state of block k of a file
abbrev pub state_at : List ℕ → ℕ → BlockState
state_at file k = state (block file k) k

-- the states of the blocks of a file that count
pub record StatesOf (file : List ℕ) (states : List BlockState) : Type 0 where
  pub enough : block_count file ≤ length states
  pub each : (k : ℕ) → k < block_count file → slice_index_or states k Sound ≡ state_at file k

-- the state says that the block is sound
abbrev pub is_sound : BlockState → Bool
is_sound Sound = true
is_sound Unsound = false
