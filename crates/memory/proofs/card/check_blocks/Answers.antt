use Rattle.std.proofs.Common.{◌<◌, ◌≢◌, length, ap, ◌∙◌, arith, length-set, get_or-set_other, get_or-set_same, below_more}
use Rattle.memory.specs.States.{state}
use Rattle.memory.proofs.card.check_blocks.Goals as goal

pub loop-k-preserved : goal.loop-k-preserved
loop-k-preserved c =
    let k = c.loop-k.k in
    let here = c.check_block.ensures ∙ ap (λ b. state b k) (c.blocks_of-block-items.ensures.each k (omega (arith, c.blocks_of-block-items.ensures.count))) in (
      simp length-set c.loop-k.invariant.0,
      below_more _ _
          (λ i h. let ne : i ≢ k = omega arith in rw get_or-set_other (c.loop-k.invariant.1 i h))
          (let lt : k < length c.loop-k.states = omega (arith, c.blocks_of-block-items.ensures.count) in rw get_or-set_same here),
    )
