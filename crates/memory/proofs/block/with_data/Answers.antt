use Rattle.std.proofs.Common.{◌∙◌, take_at}
use Rattle.memory.proofs.block.with_data.Goals as goal

pub returns-clause-holds : goal.returns-clause-holds
returns-clause-holds c = take_at c.copy_from_slice.new.self _ 504 c.copy_from_slice.ensures.len ∙ c.copy_from_slice.ensures.after
