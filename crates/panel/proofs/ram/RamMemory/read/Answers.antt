use Rattle.std.proofs.Common.{ap, ◌∙◌}
use Rattle.memory.specs.Outcomes.{answer}
use Rattle.panel.proofs.ram.RamMemory.read.Goals as goal

pub returns : goal.returns
returns c =
    rw (← c.self.view_is, ← c.as_slice.ensures.value) (c.read.ensures ∙ ap (λ shown. answer shown c.args.address) c.new.ensures)
