-- What a card promises: damage shows, and what was sealed is read back.
use Rattle.std.specs.Prelude.{◌≡◌, ℕ, ◌+◌, ◌-◌, ◌*◌, ◌/◌, ◌^◌, ◌<◌, ◌≤◌, true, false, List, length, take, drop, ◌≢◌, slice_index}
use Rattle.memory.specs.Blocks.{sound, Sealed}
use Rattle.memory.specs.Cards.{block, block_count, sound_at, card}
use Rattle.memory.specs.Halfwords.{halfword, Bytes}
use Rattle.memory.specs.Memories.{flat}
use Rattle.memory.specs.Outcomes.{Outcome, present, unsound, answer}

-- the second list of bytes is the first with exactly one halfword altered, the one at byte i
pub record AlteredAt (i : ℕ) (bytes altered : List ℕ) : Type 0 where
  pub as_long : length altered ≡ length bytes
  pub differs : halfword altered i ≡ halfword bytes i → ⊥
  pub others_same : (j : ℕ) → (j ≢ i) → (j ≢ i + 1) → slice_index altered j ≡ slice_index bytes j

-- a block with any one of its 256 halfwords altered is sound under no number
pub record DamageShows (b : List ℕ) : Type 0 where
  pub unsound_under_any : (altered : List ℕ) (i k : ℕ) → Bytes altered → i < 256 → AlteredAt (2 * i) b altered → sound altered k ≡ false

-- the address shows data of block k of a card at this base
abbrev pub ShowsBlock : ℕ → ℕ → ℕ → Type 0
ShowsBlock base k a = (base ≤ a) × (a < 2 ^ 32) × ((a - base) / 504 ≡ k)

-- every address that shows block k is unsound after, and every other address has the outcome that it had before
pub record RefusesOnlyBlock (base k : ℕ) (before after : ℕ → Outcome) : Type 0 where
  pub refused : (a : ℕ) → ShowsBlock base k a → after a ≡ unsound
  pub unchanged : (a : ℕ) → (ShowsBlock base k a → ⊥) → after a ≡ before a

-- if the card's file is some other file with one halfword of a sound block altered, then every address that shows that
-- block is refused with 3, and every other address has the outcome that it has on a card of the other file
abbrev pub DamageRefused : ℕ → List ℕ → (ℕ → Outcome) → Type 0
DamageRefused base file outcome = (original : List ℕ) (k i : ℕ) → Bytes original → k < block_count original → i < 256
    → sound_at original k ≡ true → AlteredAt (512 * k + 2 * i) original file → RefusesOnlyBlock base k (card base original) outcome

-- what was sealed as block k and stands at its place is read back: the data halfwords appear at their addresses
abbrev pub SealedReadBack : ℕ → List ℕ → (ℕ → Outcome) → Type 0
SealedReadBack base file outcome = (k j : ℕ) (payload : List ℕ) → k < block_count file → Sealed k payload (block file k)
    → j + 1 < 504 → base + 504 * k + j < 2 ^ 32 → outcome (base + 504 * k + j) ≡ present (halfword payload j)

-- a file of n blocks that are the sealed pieces of some data, in order, 504 bytes each
pub record SealedPieces (n : ℕ) (payload file : List ℕ) : Type 0 where
  pub few : n ≤ 4096
  pub payload_long : length payload ≡ 504 * n
  pub file_long : length file ≡ 512 * n
  pub pieces : (k : ℕ) → k < n → Sealed k (take 504 (drop (504 * k) payload)) (block file k)

-- a card of the sealed pieces of some data answers every read as flat memory of the data does
abbrev pub AnswersAsFlat : ℕ → List ℕ → (ℕ → Outcome) → Type 0
AnswersAsFlat base file outcome = (n : ℕ) (payload : List ℕ) → SealedPieces n payload file
    → (a : ℕ) → answer outcome a ≡ answer (flat base payload) a

-- what a card of this file at this base promises of what it shows
pub record CardLaws (base : ℕ) (file : List ℕ) (outcome : ℕ → Outcome) : Type 0 where
  pub damage_refused : DamageRefused base file outcome
  pub sealed_read_back : SealedReadBack base file outcome
  pub answers_as_flat : AnswersAsFlat base file outcome
