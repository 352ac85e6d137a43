use Rattle.std.proofs.Common.{◌≡◌, ◌+◌, min}
use Rattle.painter.specs.Spans.{painter_span}
use Rattle.painter.proofs.Sweeps.{SweptTo}
use Rattle.painter.proofs.painter.Painter.paint.Given as goal

abbrev pub invariant-loop-x : goal.invariant-loop-x
invariant-loop-x g l = record {
  can : (goal.iterator-loop-x g).can_next l.x-iterator;
  ends : (goal.iterator-loop-x g).is_finite l.x-iterator;
  same_places : g.P.Mapping.place l.x-iterator.mapping.now l.x-iterator.y ≡ g.P.Mapping.place l.mapping l.self.y;
  same_end : l.x-iterator.end ≡ min l.self.clip.end 511 + 1;
  swept : SweptTo (painter_span g.M.Memory.outcome l.self (g.P.Mapping.place l.mapping) (g.S.Surface.side l.surface) (g.S.Surface.lookup l.surface)) l.initial.line l.x-iterator.x l.line;
}
