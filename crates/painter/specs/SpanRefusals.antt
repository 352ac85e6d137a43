-- What is printed of a refused span.
use Rattle.std.specs.Prelude.{ℕ, List, ◌++◌, codes}
use Rattle.std.specs.Fmt.{decimal}
use Rattle.surface.specs.Faults.{fault_text}
use Rattle.painter.specs.declared.span_refusal.SpanRefusal.{SpanRefusal}

-- the fault and the column
abbrev pub span_refusal_text : SpanRefusal → List ℕ
span_refusal_text refused = fault_text refused.fault ++ (codes ", column " ++ decimal refused.column)
