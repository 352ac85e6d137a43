use Rattle.std.proofs.Common.{◌∙◌, arith}
use Rattle.std.proofs.lemmas.Slice.{take-put_mid_below}
use Rattle.memory.proofs.block.with_number.Goals as goal

pub returns-clause-holds : goal.returns-clause-holds
returns-clause-holds c = take-put_mid_below 504 4 c.with_data-block.result _ 504 (omega arith) (omega (arith, c.with_data-block.ensures.whole)) ∙ c.with_data-block.ensures.holds
