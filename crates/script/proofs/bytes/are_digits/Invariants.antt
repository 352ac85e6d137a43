use Rattle.std.proofs.Common.{◌≡◌, ◌&&◌, drop}
use Rattle.script.specs.Numbers.{all_digits}
use Rattle.script.proofs.bytes.are_digits.Given as goal

abbrev pub invariant-loop-byte : goal.invariant-loop-byte
invariant-loop-byte l = (l.digits && all_digits 16 (drop l.byte-index l.piece)) ≡ all_digits 16 l.piece
