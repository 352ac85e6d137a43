-- What a command does to the panel.
use Rattle.std.specs.Prelude.{◌≡◌, ℕ, false, List, length, Ok, Err, vec_items, Result}
use Rattle.memory.specs.Cards.{block_count, sound_count, card}
use Rattle.memory.specs.Halfwords.{even}
use Rattle.memory.specs.Memories.{flat, split}
use Rattle.memory.specs.Outcomes.{Outcome, answer}
use Rattle.script.specs.declared.errors.ScriptError.{ScriptError}
use Rattle.script.specs.declared.errors.ScriptError.TheVariants.{NotInsideRam}
use Rattle.script.specs.declared.commands.Command.{Command}
use Rattle.script.specs.declared.commands.Command.TheVariants.{Card, Ram, Boundary, Poke, Peek}
use Rattle.panel.specs.declared.panel.Answer.{Answer}
use Rattle.panel.specs.declared.panel.Answer.TheVariants.{CardShown, RamMade, BoundarySet, Poked as BytesPoked, Peeked}
use Rattle.panel.specs.declared.panel.Panel.{Panel}
use Rattle.panel.specs.Rams.{Zeroed, NotMade, has_room, Poked}

-- the file of the panel's card
abbrev pub card_file : Panel → List ℕ
card_file panel = panel.card.file

-- what the panel's memory shows: the card below the boundary, the RAM from there on
abbrev pub shown : Panel → ℕ → Outcome
shown panel = split (even panel.boundary) (card panel.card.base (card_file panel)) (flat (even panel.ram.base) (vec_items panel.ram.bytes))

-- nothing but the card has changed, and it shows its file from the base on
pub record OnlyCard (base : ℕ) (before after : Panel) : Type 0 where
  pub card : after.card.base ≡ even base
  pub ram : after.ram ≡ before.ram
  pub boundary : after.boundary ≡ before.boundary

-- nothing but the RAM has changed
pub record OnlyRam (before after : Panel) : Type 0 where
  pub card : after.card ≡ before.card
  pub boundary : after.boundary ≡ before.boundary

-- nothing but the boundary has changed, and it is the address
pub record OnlyBoundary (address : ℕ) (before after : Panel) : Type 0 where
  pub card : after.card ≡ before.card
  pub ram : after.ram ≡ before.ram
  pub boundary : after.boundary ≡ address

-- a card is put in: the answer counts its blocks and the sound ones; an error leaves the panel as it was
abbrev pub ShowsCard : ℕ → Panel → Result Answer ScriptError → Panel → Type 0
ShowsCard base before (Ok a) after = (a ≡ CardShown (block_count (card_file after)) (sound_count (card_file after) (block_count (card_file after)))) × OnlyCard base before after
ShowsCard base before (Err e) after = after ≡ before

-- new RAM is given; an error says why there is none, and leaves the panel as it was
abbrev pub MakesRam : ℕ → ℕ → Panel → Result Answer ScriptError → Panel → Type 0
MakesRam base size before (Ok a) after = (a ≡ RamMade size) × Zeroed base size after.ram × OnlyRam before after
MakesRam base size before (Err e) after = NotMade size e × (after ≡ before)

-- the boundary is set, as given
abbrev pub SetsBoundary : ℕ → Panel → Result Answer ScriptError → Panel → Type 0
SetsBoundary address before r after = (r ≡ Ok (BoundarySet address)) × OnlyBoundary address before after

-- bytes are written into the RAM, or none where it has not room for all of them
abbrev pub Pokes : ℕ → List ℕ → Panel → Result Answer ScriptError → Panel → Type 0
Pokes address new before (Ok a) after = (a ≡ BytesPoked (length new)) × Poked before.ram address new after.ram × OnlyRam before after
Pokes address new before (Err e) after = (e ≡ NotInsideRam) × (has_room before.ram address (length new) ≡ false) × (after ≡ before)

-- a command: the panel before, the answer or the error, the panel after
abbrev pub Does : Command → Panel → Result Answer ScriptError → Panel → Type 0
Does (Card base path) before r after = ShowsCard base before r after
Does (Ram base size) before r after = MakesRam base size before r after
Does (Boundary address) before r after = SetsBoundary address before r after
Does (Poke address bytes) before r after = Pokes address (vec_items bytes) before r after
Does (Peek address) before r after = (r ≡ Ok (Peeked (answer (shown before) address))) × (after ≡ before)
