-- Bytes and halfwords.
use Rattle.std.specs.Prelude.{ℕ, ◌+◌, ◌-◌, ◌*◌, ◌/◌, ◌%◌, ◌<◌, List, slice_index, slice_set}

-- the halfword at byte i, low byte first
abbrev pub halfword : List ℕ → ℕ → ℕ
halfword bytes i = slice_index bytes i + 256 * slice_index bytes (i + 1)

-- the bytes after a halfword was written at byte i
abbrev pub put : List ℕ → ℕ → ℕ → List ℕ
put bytes i h = slice_set (slice_set bytes i (h % 256)) (i + 1) (h / 256)

-- an address rounded down to even
abbrev pub even : ℕ → ℕ
even a = a - a % 2

-- every number of the list is a byte
abbrev pub Bytes : List ℕ → Type 0
Bytes bytes = (i : ℕ) → slice_index bytes i < 256
