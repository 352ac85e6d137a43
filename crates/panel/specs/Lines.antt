-- The lines of the input.
use Rattle.std.specs.Prelude.{ℕ, ◌-◌, if◌then◌else◌, List, length, take, ◌==◌, slice_index}

-- a line without the line feed at its end
abbrev pub without_feed : List ℕ → List ℕ
without_feed bs = if slice_index bs (length bs - 1) == 10 then take (length bs - 1) bs else bs
