use Rattle.std.proofs.Common.{◌≤◌, ap, ◌∙◌, arith}
use Rattle.memory.specs.Cards.{block_count, sound_count}
use Rattle.memory.proofs.Counting.{count_states}
use Rattle.memory.proofs.card.Card.sound_among.Goals as goal

pub returns : goal.returns
returns c =
    let card = c.self.inside in
    let file = card.file.items in
    let n = c.args.n in
    let few : n ≤ block_count file = omega (arith, c.requires, ap (λ v. block_count v.file) c.self.view_is) in
    c.count_sound.ensures
    ∙ count_states file card.states n (omega (arith, few, c.self.invariant.enough)) (λ k h. c.self.invariant.each k (omega (arith, few)))
    ∙ ap (λ v. sound_count v.file n) c.self.view_is
