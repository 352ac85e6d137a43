-- What a card shows.
use Rattle.std.specs.Prelude.{ℕ, zero, suc, ◌+◌, ◌-◌, ◌*◌, ◌/◌, ◌%◌, min, Bool, cond, List, length, take, drop, nat_lt}
use Rattle.memory.specs.Blocks.{sound}
use Rattle.memory.specs.Halfwords.{halfword}
use Rattle.memory.specs.Memories.{in_reach}
use Rattle.memory.specs.Outcomes.{Outcome, present, absent, unsound}

-- a card as contracts see it: the address that its data begin at, and its file
pub record CardFile : Type 0 where
  pub base : ℕ
  pub file : List ℕ

-- the card of a file at a base
abbrev pub card_at : ℕ → List ℕ → CardFile
card_at base file = record { base = base; file = file }

-- block k of a file
abbrev pub block : List ℕ → ℕ → List ℕ
block file k = take 512 (drop (512 * k) file)

-- how many blocks of a file count: the whole ones, at most 4,096
abbrev pub block_count : List ℕ → ℕ
block_count file = min (length file / 512) 4096

-- block k of a file is sound
abbrev pub sound_at : List ℕ → ℕ → Bool
sound_at file k = sound (block file k) k

-- how many of the first n blocks of a file are sound
unfoldable pub sound_count : List ℕ → ℕ → ℕ
sound_count file zero = 0
sound_count file (suc n) = cond (sound_at file n) (sound_count file n + 1) (sound_count file n)

-- the outcome at byte j of the data of block k
abbrev pub data_outcome : List ℕ → ℕ → ℕ → Outcome
data_outcome file k j = cond (sound_at file k) (present (halfword (block file k) j)) unsound

-- the outcome at byte j of the data of block k of a file: nothing where that block does not count
abbrev pub block_outcome : List ℕ → ℕ → ℕ → Outcome
block_outcome file k j = cond (nat_lt k (block_count file)) (data_outcome file k j) absent

-- a card: data byte j of block k appears at base + 504 · k + j
abbrev pub card : ℕ → List ℕ → ℕ → Outcome
card base file a = cond (in_reach base a) (block_outcome file ((a - base) / 504) ((a - base) % 504)) absent
