use Rattle.std.proofs.Common.{◌≡◌, Err, refl, ap, rules}
use Rattle.painter.proofs.Laws.{paints}
use Rattle.painter.proofs.Sweeps.{none_swept, next_swept, next_stops, all_swept}
use Rattle.painter.proofs.painter.Painter.paint.Goals as goal

pub loop-x-init : goal.loop-x-init
loop-x-init g c =
    let all = c.columns-x-items.ensures in
    let same_places = ap (λ p. g.P.Mapping.place p c.args.self.now.y) all.same_mapping in
    rw (c.into_iter-x-iterator.ensures.into_iter_gives, all.range) record { can = tt; ends = tt; same_places = same_places; same_end = refl; swept = none_swept _ _ }

pub loop-x-preserved : goal.loop-x-preserved
loop-x-preserved g c =
    let invariant = c.loop-x.invariant in
    let next = c.in-Some.ensures.steps in
    let swept = next_swept _ _ _ invariant.same_places _ c.next.new.self invariant.same_end _ c.paint_column.new.line c.in-Some.x c.in-Some.at next invariant.swept c.in_ok-paint_column.ensures in
    rw next.rest record { can = tt; ends = tt; same_places = invariant.same_places; same_end = invariant.same_end; swept = swept }

pub returns-in_err-paint_column : goal.returns-in_err-paint_column
returns-in_err-paint_column g c =
    let invariant = c.loop-x.invariant in
    let refused : c.from_residual.result ≡ Err c.in_err-paint_column.field-0.0 = search rules in
    rw refused (paints _ _ _ _ c.told-line (next_stops _ _ _ invariant.same_places _ c.next.new.self invariant.same_end _ c.paint_column.new.line c.in-Some.x c.in-Some.at c.in-Some.ensures.steps invariant.swept _ c.in_err-paint_column.ensures))

pub returns : goal.returns
returns g c =
    let invariant = c.loop-x.invariant in
    paints _ _ _ _ c.told-line (all_swept _ _ _ _ _ _ invariant.same_places invariant.same_end c.in-None.ensures.steps invariant.swept)
