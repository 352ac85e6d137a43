use Rattle.std.proofs.Common.{w32, rules}
use Rattle.std.proofs.lemmas.Int.{wraps, wrapping_add-bits}
use Rattle.painter.proofs.affine.weighted_sum.Goals as goal

pub returns : goal.returns
returns c = search (rules, wraps, wrapping_add-bits w32)
