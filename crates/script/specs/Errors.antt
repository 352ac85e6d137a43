-- The errors of a script.
use Rattle.std.specs.Prelude.{◌≡◌, ◌≢◌, ℕ, ◌⊎◌, List, codes}
use Rattle.std.specs.IoError.{error_kind}
use Rattle.std.specs.declared.io.Error.{Error}
use Rattle.std.specs.declared.io.ErrorKind.{ErrorKind}
use Rattle.hex.specs.declared.error.FromHexError.{FromHexError}
use Rattle.hex.specs.declared.error.FromHexError.TheVariants.{InvalidHexCharacter, OddLength, InvalidStringLength, OutOfMemory as NoMemory}
use Rattle.script.specs.declared.errors.ScriptError.{ScriptError}
use Rattle.script.specs.declared.errors.ScriptError.TheVariants.{CarriageReturn, NoSuchCommand, MissingPiece, ExtraPiece, MalformedNumber, NumberTooLarge, MalformedBytes, RamTooLarge, NotInsideRam, FileUnreadable, OutOfMemory}

-- what is printed of an error
abbrev pub message : ScriptError → List ℕ
message CarriageReturn = codes "the line has a carriage return; lines end in a line feed alone"
message NoSuchCommand = codes "no such command"
message MissingPiece = codes "a piece is missing"
message ExtraPiece = codes "more pieces than the command takes"
message MalformedNumber = codes "malformed number"
message NumberTooLarge = codes "number too large for its type"
message MalformedBytes = codes "malformed bytes"
message RamTooLarge = codes "the RAM has at most 1048576 bytes"
message NotInsideRam = codes "not inside the RAM"
message FileUnreadable = codes "file cannot be read"
message OutOfMemory = codes "not enough memory"

-- the error of a script that stands for one of a file: want of memory, or that the file cannot be read
abbrev pub IsFileError : Error → ScriptError → Type 0
IsFileError cause error =
    ((error_kind cause ≡ ErrorKind.OutOfMemory) × (error ≡ OutOfMemory)) ⊎ ((error_kind cause ≢ ErrorKind.OutOfMemory) × (error ≡ FileUnreadable))

-- the error of a script that stands for one of its bytes
abbrev pub bytes_error : FromHexError → ScriptError
bytes_error (InvalidHexCharacter c index) = MalformedBytes
bytes_error OddLength = MalformedBytes
bytes_error InvalidStringLength = MalformedBytes
bytes_error NoMemory = OutOfMemory
