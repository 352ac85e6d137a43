-- How numbers are printed.
use Rattle.std.specs.Prelude.{ℕ, ◌-◌, ◌^◌, true, false, List, []}
use Rattle.std.specs.Fmt.{digits, format_spec, padded_integral}

-- a number in hexadecimal, in upper case, with zeros in front up to a width: what `{:08X}` writes, for a width of 8
abbrev pub hexadecimal : ℕ → ℕ → List ℕ
hexadecimal width n = padded_integral (format_spec 32 0 4 width (2 ^ 64 - 1)) false [] (digits 16 true n)
