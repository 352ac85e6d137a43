use Rattle.std.proofs.Common.{◌≡◌}
use Rattle.memory.specs.Blocks.{first_sum, second_sum}
use Rattle.memory.proofs.block.sums.Given as goal

abbrev pub invariant-loop-bytes : goal.invariant-loop-bytes
invariant-loop-bytes l = (l.s1 ≡ first_sum l.block l.bytes-index) × (l.s2 ≡ second_sum l.block l.bytes-index)
