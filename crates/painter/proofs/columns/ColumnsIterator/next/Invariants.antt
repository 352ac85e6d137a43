use Rattle.std.proofs.Common.{◌≡◌, ◌-◌, ◌≤◌}
use Rattle.painter.specs.Columns.{AllOutside}
use Rattle.painter.proofs.columns.ColumnsIterator.next.Given as goal

abbrev pub invariant-loop-x : goal.invariant-loop-x
invariant-loop-x g l = record {
  same : l.self ≡ l.initial.self;
  in_range : l.initial.self.x ≤ l.x;
  passed : AllOutside (g.P.Mapping.place l.initial.self.mapping.now l.initial.self.y) l.initial.self.x l.x;
}

abbrev pub decreases-loop-x : goal.decreases-loop-x
decreases-loop-x g l = l.end - l.x
