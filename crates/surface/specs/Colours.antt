-- A colour is a halfword: bit 15 says opaque, bits 14 to 10 are red, 9 to 5 green, 4 to 0 blue.
use Rattle.std.specs.Prelude.{ℕ, ◌+◌, ◌/◌, ◌%◌, Bool, ◌==◌}

-- bit 15 is set: the colour paints
abbrev pub opaque : ℕ → Bool
opaque c = c / 32768 == 1

-- the pixel that an opaque colour paints, its low 15 bits
abbrev pub painted_pixel : ℕ → ℕ
painted_pixel c = c % 32768

-- an opaque colour with these low 15 bits
abbrev pub made_opaque : ℕ → ℕ
made_opaque c = c % 32768 + 32768

abbrev pub red : ℕ → ℕ
red c = c / 1024 % 32

abbrev pub green : ℕ → ℕ
green c = c / 32 % 32

abbrev pub blue : ℕ → ℕ
blue c = c % 32
