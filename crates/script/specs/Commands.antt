-- The commands that a line spells.
use Rattle.std.specs.Prelude.{◌≡◌, ℕ, Bool, true, cond, ◌⊎◌, List, [], ◌∷◌, Some, None, Ok, Err, vec_items, codes, Option, Result, ◌==◌, nat_eq}
use Rattle.std.specs.List.{list_any, starts_with}
use Rattle.std.specs.Str.{bytes_eq}
use Rattle.script.specs.declared.errors.ScriptError.{ScriptError}
use Rattle.script.specs.declared.errors.ScriptError.TheVariants.{CarriageReturn, NoSuchCommand, OutOfMemory}
use Rattle.script.specs.declared.commands.Command.{Command}
use Rattle.script.specs.declared.commands.Command.TheVariants.{Card, Ram, Boundary, Poke, Peek}
use Rattle.script.specs.Bytes.{are_pairs}
use Rattle.script.specs.Fields.{then, needed, field_32, field_bytes, end_of}
use Rattle.script.specs.Pieces.{first_piece, behind}

-- a command, its path and its bytes as lists
pub data Meaning : Type 0 where
  shows_card : ℕ → List ℕ → Meaning
  makes_ram : ℕ → ℕ → Meaning
  sets_boundary : ℕ → Meaning
  pokes : ℕ → List ℕ → Meaning
  peeks : ℕ → Meaning

abbrev pub meaning : Command → Meaning
meaning (Card base path) = shows_card base path.now
meaning (Ram base size) = makes_ram base size
meaning (Boundary address) = sets_boundary address
meaning (Poke address bytes) = pokes address (vec_items bytes)
meaning (Peek address) = peeks address

-- what is left of a line behind its command word, field by field
abbrev pub card_of : List ℕ → Result Meaning ScriptError
card_of bs =
    then (field_32 (first_piece bs)) (λ base.
    then (needed (first_piece (behind bs))) (λ path.
    then (end_of (first_piece (behind (behind bs)))) (λ _. Ok (shows_card base path))))

abbrev pub ram_of : List ℕ → Result Meaning ScriptError
ram_of bs =
    then (field_32 (first_piece bs)) (λ base.
    then (field_32 (first_piece (behind bs))) (λ size.
    then (end_of (first_piece (behind (behind bs)))) (λ _. Ok (makes_ram base size))))

abbrev pub boundary_of : List ℕ → Result Meaning ScriptError
boundary_of bs = then (field_32 (first_piece bs)) (λ address. then (end_of (first_piece (behind bs))) (λ _. Ok (sets_boundary address)))

abbrev pub poke_of : List ℕ → Result Meaning ScriptError
poke_of bs =
    then (field_32 (first_piece bs)) (λ address.
    then (field_bytes (first_piece (behind bs))) (λ bytes.
    then (end_of (first_piece (behind (behind bs)))) (λ _. Ok (pokes address bytes))))

abbrev pub peek_of : List ℕ → Result Meaning ScriptError
peek_of bs = then (field_32 (first_piece bs)) (λ address. then (end_of (first_piece (behind bs))) (λ _. Ok (peeks address)))

-- a command word with what stands behind it
abbrev pub command_of : List ℕ → List ℕ → Result Meaning ScriptError
command_of word bs =
    cond (bytes_eq word (codes "card")) (card_of bs)
    (cond (bytes_eq word (codes "ram")) (ram_of bs)
    (cond (bytes_eq word (codes "boundary")) (boundary_of bs)
    (cond (bytes_eq word (codes "poke")) (poke_of bs)
    (cond (bytes_eq word (codes "peek")) (peek_of bs) (Err NoSuchCommand)))))

-- the byte stands somewhere
abbrev pub has : ℕ → List ℕ → Bool
has b bs = list_any (λ x. x == b) bs

-- pieces: the command that the first one begins, if there is one
abbrev pub word_of : List ℕ → List ℕ → Result (Option Meaning) ScriptError
word_of [] bs = Ok None
word_of (b ∷ word) bs = then (command_of (b ∷ word) bs) (λ command. Ok (Some command))

abbrev pub pieces_of : List ℕ → Result (Option Meaning) ScriptError
pieces_of bs = word_of (first_piece bs) (behind bs)

-- a remark begins with #
abbrev pub remark : List ℕ → Bool
remark bs = starts_with nat_eq bs (codes "#")

-- a line: a remark has no command, and no other line may have a carriage return
abbrev pub line_of : List ℕ → Result (Option Meaning) ScriptError
line_of bs = cond (remark bs) (Ok None) (cond (has 13 bs) (Err CarriageReturn) (pieces_of bs))

-- what was read is what the line says; only where P holds may it be want of memory instead
abbrev pub Means : Type 0 → Result Command ScriptError → Result Meaning ScriptError → Type 0
Means P (Ok command) said = Ok (meaning command) ≡ said
Means P (Err e) said = (Err e ≡ said) ⊎ ((e ≡ OutOfMemory) × P)

-- the same of a command of which the fields were read: it is what the line says if nothing but spaces is left behind them
abbrev pub MeansAtEnd : Type 0 → Result Command ScriptError → List ℕ → Result Meaning ScriptError → Type 0
MeansAtEnd P (Ok command) rest said = then (end_of (first_piece rest)) (λ _. Ok (meaning command)) ≡ said
MeansAtEnd P (Err e) rest said = (Err e ≡ said) ⊎ ((e ≡ OutOfMemory) × P)

abbrev pub meaning_of : Option Command → Option Meaning
meaning_of (Some command) = Some (meaning command)
meaning_of None = None

-- the same of a line, which may have no command
abbrev pub LineMeans : Type 0 → Result (Option Command) ScriptError → Result (Option Meaning) ScriptError → Type 0
LineMeans P (Ok command) said = Ok (meaning_of command) ≡ said
LineMeans P (Err e) said = (Err e ≡ said) ⊎ ((e ≡ OutOfMemory) × P)

-- the word of the command that has bytes to keep
abbrev pub IsPoke : List ℕ → Type 0
IsPoke word = word ≡ codes "poke"

-- the command that has bytes to keep: its word is poke, and the second piece behind that is pairs of digits
abbrev pub KeepsBytes : List ℕ → List ℕ → Type 0
KeepsBytes word bs = IsPoke word × (are_pairs (first_piece (behind bs)) ≡ true)
