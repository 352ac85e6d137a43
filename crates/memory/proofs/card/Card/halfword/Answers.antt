use Rattle.std.proofs.Common.{◌≡◌, ◌<◌, true, [], get_or, length, sym, ap, ◌∙◌, arith}
use Rattle.memory.specs.declared.block.BlockState.TheVariants.{Sound}
use Rattle.memory.specs.Cards.{block, block_count, block_outcome, sound_at}
use Rattle.memory.specs.Outcomes.{even_answer}
use Rattle.memory.specs.States.{is_sound}
use Rattle.memory.proofs.Counting.{is_sound_of}
use Rattle.memory.proofs.Reading.{reads_sound}
use Rattle.memory.proofs.card.Card.halfword.Goals as goal

pub returns-in-Sound : goal.returns-in-Sound
returns-in-Sound c =
    let card = c.self.inside in
    let file = card.file.items in
    let k = c.args.k in
    let count : length c.blocks_of-blocks.result.now ≡ block_count file = c.blocks_of-blocks.ensures.count ∙ ap block_count c.as_slice.ensures.value in
    let found = (rw c.in_ok-block.ensures.ok_part at c.get.ensures.lookup).3 in
    let within : k < block_count file = omega (arith, found.0, count) in
    let is_block = found.1 [] ∙ c.blocks_of-blocks.ensures.each k (omega (arith, within, ap block_count c.as_slice.ensures.value)) ∙ ap (λ f. block f k) c.as_slice.ensures.value in
    let state : get_or card.states k Sound ≡ Sound = c.in-Sound.is in
    let good : sound_at file k ≡ true = sym (is_sound_of (sound_at file k)) ∙ ap is_sound (sym (c.self.invariant.each k within) ∙ state) in
    reads_sound file k c.args.j _ c.in_ok-block.block.now within good is_block c.halfword_at.ensures
    ∙ ap (λ v. even_answer (block_outcome v.file k c.args.j)) c.self.view_is
