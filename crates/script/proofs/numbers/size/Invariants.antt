use Rattle.std.proofs.Common.{◌≡◌, min, take, drop}
use Rattle.script.specs.Numbers.{all_digits, spelled}
use Rattle.script.proofs.numbers.size.Given as goal

abbrev pub invariant-loop-byte : goal.invariant-loop-byte
invariant-loop-byte l = (l.size ≡ min 4294967296 (spelled l.radix (take l.byte-index l.digits))) × (all_digits l.radix (drop l.byte-index l.digits) ≡ all_digits l.radix l.digits)
