-- Numbers as a script writes them.
use Rattle.std.specs.Prelude.{ℕ, ◌+◌, ◌*◌, min, ℤ, pos, negsuc, neg_ℤ, Bool, true, if◌then◌else◌, ◌&&◌, List, [], ◌∷◌, length, drop, Some, None, Ok, Err, fold, Option, Result, ◌==◌, nat_lt, slice_index}
use Rattle.std.specs.Option.{option_map, ok_or}
use Rattle.std.specs.Char.{digit_value}
use Rattle.script.specs.declared.errors.ScriptError.{ScriptError}
use Rattle.script.specs.declared.errors.ScriptError.TheVariants.{MalformedNumber, NumberTooLarge}

-- every byte is a digit in the radix
abbrev pub all_digits : ℕ → List ℕ → Bool
all_digits radix [] = true
all_digits radix (b ∷ bs) = nat_lt (digit_value b) radix && all_digits radix bs

-- what digits spell, the first counting most
abbrev pub spelled : ℕ → List ℕ → ℕ
spelled radix bs = fold (λ n b. n * radix + digit_value b) 0 bs

-- at least one digit and nothing else: what they spell, of which 2^32 and more are not told apart
abbrev pub size_of : ℕ → List ℕ → Option ℕ
size_of radix bs = if nat_lt 0 (length bs) && all_digits radix bs then Some (min 4294967296 (spelled radix bs)) else None

-- the size of a number without sign: hexadecimal behind 0x, else decimal
abbrev pub unsigned_size : List ℕ → Option ℕ
unsigned_size bs = if slice_index bs 0 == 48 && slice_index bs 1 == 120 then size_of 16 (drop 2 bs) else size_of 10 bs

-- a size as a number, and a size behind a minus sign
abbrev pub positive : Option ℕ → Option ℤ
positive size = option_map (λ n. pos n) size

-- a size behind a minus sign as a number
abbrev pub negative : Option ℕ → Option ℤ
negative size = option_map (λ n. neg_ℤ (pos n)) size

-- behind a minus sign stands a decimal number
abbrev pub number_of : List ℕ → Result ℤ ScriptError
number_of bs = ok_or (if slice_index bs 0 == 45 then negative (size_of 10 (drop 1 bs)) else positive (unsigned_size bs)) MalformedNumber

-- a number held to 32 bits without sign
abbrev pub unsigned_32 : ℤ → Result ℕ ScriptError
unsigned_32 (pos n) = if nat_lt n 4294967296 then Ok n else Err NumberTooLarge
unsigned_32 (negsuc n) = Err NumberTooLarge
