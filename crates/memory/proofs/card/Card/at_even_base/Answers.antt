use Rattle.std.proofs.Common.{subst}
use Rattle.memory.specs.Halfwords.{Bytes}
use Rattle.memory.proofs.CardLaws.{card_laws}
use Rattle.memory.proofs.card.Card.at_even_base.Goals as goal

pub returns-clause-laws : goal.returns-clause-laws
returns-clause-laws c = card_laws c.args.base _ c.requires (subst Bytes c.as_slice.ensures.value c.check_blocks-states.ensures.bytes)
