use Rattle.std.proofs.Common.{◌/◌, [], length, get_or, ap, ◌∙◌, arith, get_or-take}
use Rattle.memory.proofs.Chunks.{chunk_at}
use Rattle.memory.proofs.block.blocks_of.Goals as goal

pub returns-clause-each : goal.returns-clause-each
returns-clause-each c = λ k h.
    let file = c.args.file.now in
    get_or-take c.min.result c.as_chunks.result.0.now k [] (omega (arith, c.min.ensures, c.as_chunks.ensures.front_len))
    ∙ ap (λ blocks. get_or blocks k []) c.as_chunks.ensures.front
    ∙ chunk_at 512 k (length file / 512) file (omega arith)
