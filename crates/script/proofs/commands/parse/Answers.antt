use Rattle.std.proofs.Common.{ap, ◌∙◌, inl}
use Rattle.script.specs.Pieces.{first_piece}
use Rattle.script.proofs.Words.{no_text_whole_line}
use Rattle.script.proofs.commands.parse.Goals as goal

pub returns-in_default-from_utf8 : goal.returns-in_default-from_utf8
returns-in_default-from_utf8 c =
    let line = c.args.line.now in
    let word = c.in-Some.ensures.steps.0 in
    inl (no_text_whole_line line c.in-Some.word.now (word.0 ∙ ap first_piece c.new-pieces.ensures) word.1 c.if-starts_with.ensures.value c.if-contains.ensures.value c.in_default-from_utf8.ensures.cases.0)
