use Rattle.std.proofs.Common.{◌≡◌, Ok, arith}
use Rattle.script.specs.Fields.{needed}
use Rattle.script.specs.Pieces.{first_piece}
use Rattle.script.proofs.Needed.{needed_piece}
use Rattle.script.proofs.commands.read_fields.Goals as goal

pub returns-in_err-read_bytes-in-poke : goal.returns-in_err-read_bytes-in-poke
returns-in_err-read_bytes-in-poke c =
    let there : Ok c.in_ok-required-in-poke-2.field-0.now ≡ needed (first_piece c.required-in-poke.new.self) = c.in_ok-required-in-poke-2.ensures.value in
    let piece = needed_piece _ _ there in
    grind (arith, piece)
