use Rattle.std.proofs.Common.{ap, ◌∙◌}
use Rattle.memory.specs.Outcomes.{answer}
use Rattle.panel.proofs.panel.Panel.read.Goals as goal

pub returns : goal.returns
returns c = c.read.ensures ∙ ap (λ shown. answer shown c.args.address) c.new.ensures
