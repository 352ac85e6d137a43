-- What is printed of an answer.
use Rattle.std.specs.Prelude.{ℕ, List, ◌++◌, Ok, Err, codes}
use Rattle.std.specs.Fmt.{decimal}
use Rattle.memory.specs.Refusals.{number}
use Rattle.memory.specs.Texts.{hexadecimal}
use Rattle.panel.specs.declared.panel.Answer.{Answer}
use Rattle.panel.specs.declared.panel.Answer.TheVariants.{CardShown, RamMade, BoundarySet, Poked, Peeked}

abbrev pub answer_text : Answer → List ℕ
answer_text (CardShown blocks sound) = codes "card: " ++ (decimal blocks ++ (codes " blocks, " ++ (decimal sound ++ codes " sound")))
answer_text (RamMade size) = codes "ram: " ++ (decimal size ++ codes " bytes")
answer_text (BoundarySet address) = codes "boundary: 0x" ++ hexadecimal 8 address
answer_text (Poked count) = codes "poke: " ++ (decimal count ++ codes " bytes")
answer_text (Peeked (Ok halfword)) = codes "halfword 0x" ++ hexadecimal 4 halfword
answer_text (Peeked (Err refusal)) = codes "refused " ++ decimal (number refusal)
