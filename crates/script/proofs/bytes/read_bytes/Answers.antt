use Rattle.std.proofs.Common.{arith}
use Rattle.script.proofs.DigitPairs.{pairs_decode}
use Rattle.script.proofs.bytes.read_bytes.Goals as goal

pub returns-in_err-decode : goal.returns-in_err-decode
returns-in_err-decode c = grind (arith, pairs_decode c.args.piece.now (c.if-not-are_pairs.ensures))

pub returns : goal.returns
returns c = grind (arith, pairs_decode c.args.piece.now (c.if-not-are_pairs.ensures))
