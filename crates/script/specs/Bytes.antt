-- Bytes as a script writes them: two hexadecimal digits each.
use Rattle.std.specs.Prelude.{ℕ, ◌+◌, ◌*◌, ◌%◌, Bool, cond, ◌&&◌, List, [], ◌∷◌, length, Ok, Err, Result, ◌==◌, nat_lt}
use Rattle.std.specs.Char.{digit_value}
use Rattle.script.specs.declared.errors.ScriptError.{ScriptError}
use Rattle.script.specs.declared.errors.ScriptError.TheVariants.{MalformedBytes}
use Rattle.script.specs.Numbers.{all_digits}

-- the byte that two digits spell, the first counting sixteen
abbrev pub pair_value : ℕ → ℕ → ℕ
pair_value high low = 16 * digit_value high + digit_value low

-- at least one pair of digits, and nothing but whole pairs
abbrev pub are_pairs : List ℕ → Bool
are_pairs bs = (nat_lt 0 (length bs) && length bs % 2 == 0) && all_digits 16 bs

-- a byte for each pair
abbrev pub spelled_bytes : List ℕ → List ℕ
spelled_bytes [] = []
spelled_bytes (a ∷ []) = []
spelled_bytes (a ∷ b ∷ bs) = pair_value a b ∷ spelled_bytes bs

abbrev pub bytes_of : List ℕ → Result (List ℕ) ScriptError
bytes_of bs = cond (are_pairs bs) (Ok (spelled_bytes bs)) (Err MalformedBytes)
