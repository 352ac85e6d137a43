-- The fields of a command.
use Rattle.std.specs.Prelude.{ℕ, List, [], ◌∷◌, Ok, Err, vec_items, Result, Vec}
use Rattle.std.specs.Borrow.{Bor}
use Rattle.std.specs.declared.alloc.Global.{Global}
use Rattle.script.specs.declared.errors.ScriptError.{ScriptError}
use Rattle.script.specs.declared.errors.ScriptError.TheVariants.{MissingPiece, ExtraPiece}
use Rattle.script.specs.Bytes.{bytes_of}
use Rattle.script.specs.Numbers.{number_of, unsigned_32}

-- a step that is taken where the one before it went well
abbrev pub then : {X Y : Type 0} → Result X ScriptError → (X → Result Y ScriptError) → Result Y ScriptError
then (Ok x) next = next x
then (Err e) next = Err e

-- what was lent or allocated, as a list
abbrev pub lent : Result (Bor (List ℕ)) ScriptError → Result (List ℕ) ScriptError
lent (Ok piece) = Ok piece.now
lent (Err e) = Err e

abbrev pub listed : Result (Vec ℕ Global) ScriptError → Result (List ℕ) ScriptError
listed (Ok bytes) = Ok (vec_items bytes)
listed (Err e) = Err e

-- a piece where one is needed
abbrev pub needed : List ℕ → Result (List ℕ) ScriptError
needed [] = Err MissingPiece
needed (b ∷ bs) = Ok (b ∷ bs)

-- a field of 32 bits, and one of bytes
abbrev pub field_32 : List ℕ → Result ℕ ScriptError
field_32 piece = then (needed piece) (λ bs. then (number_of bs) unsigned_32)

abbrev pub field_bytes : List ℕ → Result (List ℕ) ScriptError
field_bytes piece = then (needed piece) bytes_of

-- nothing but spaces is left
abbrev pub end_of : List ℕ → Result (Unit {0}) ScriptError
end_of [] = Ok tt
end_of (b ∷ bs) = Err ExtraPiece
