use Rattle.std.proofs.Common.{◌≡◌, Ok, arith, rules}
use Rattle.surface.specs.Lookups.{folded}
use Rattle.surface.specs.Sources.{colour_from}
use Rattle.painter.proofs.Sweeps.{opaque_put}
use Rattle.painter.proofs.painter.Painter.paint_column.Goals as goal

pub returns-then-is_opaque : goal.returns-then-is_opaque
returns-then-is_opaque g c =
    let x = c.args.x in
    let e : Ok c.in_ok-colour.colour ≡ colour_from g.M.Memory.outcome c.args.self.now.source (folded (g.S.Surface.side c.args.surface.now) (g.S.Surface.lookup c.args.surface.now) c.args.at.0 c.args.at.1) = search rules in
    rw c.from.ensures (opaque_put c.args.line.now x c.in_ok-colour.colour c.is_opaque.result _ (omega (arith, c.told-line, c.requires)) e c.is_opaque.ensures c.if-is_opaque.true)
