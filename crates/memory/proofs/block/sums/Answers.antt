use Rattle.std.proofs.Common.{sym, arith}
use Rattle.memory.proofs.Chunks.{halfword_at_chunk}
use Rattle.memory.proofs.Sums.{first_sum_none, first_sum_more, second_sum_none, second_sum_more}
use Rattle.memory.proofs.block.sums.Goals as goal

pub loop-bytes-init : goal.loop-bytes-init
loop-bytes-init c = (sym (first_sum_none _), sym (second_sum_none _))

pub loop-bytes-preserved : goal.loop-bytes-preserved
loop-bytes-preserved c =
    let b = c.args.block.now in
    let k = c.loop-bytes.bytes-index in
    let read = halfword_at_chunk b 508 k c.as_chunks.result.0.now c.as_chunks.ensures.front (omega arith) (omega arith) in
    let first = first_sum_more b k in
    let second = second_sum_more b k in
    (omega (arith, c.from_le_bytes-s1.ensures), omega (arith, c.from_le_bytes-s1.ensures))
