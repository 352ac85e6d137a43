use Rattle.std.proofs.Common.{◌≡◌, None, arith}
use Rattle.painter.proofs.NextColumns.{more_outside}
use Rattle.painter.proofs.columns.ColumnsIterator.next.Goals as goal

pub loop-x-preserved : goal.loop-x-preserved
loop-x-preserved g c =
    let start = c.args.self.now in
    let here : g.P.Mapping.place start.mapping.now start.y c.loop-x.x ≡ None = cc in
    let behind = rw c.loop-x.invariant.same at c.columns_outside-outside.ensures.outside in
    record {
      same = c.loop-x.invariant.same;
      in_range = omega arith;
      passed = more_outside (g.P.Mapping.place start.mapping.now start.y) start.x c.loop-x.x c.min-x.result c.columns_outside-outside.result c.loop-x.invariant.passed here behind (omega arith);
    }
