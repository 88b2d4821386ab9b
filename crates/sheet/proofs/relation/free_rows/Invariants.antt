use Rattle.std.proofs.Common.{◌≡◌, length}
use Rattle.paper.specs.Dispatch.{row_of, slots}
use Rattle.paper.specs.Words.{listed}
use Rattle.sheet.specs.Walks.{over}
use Rattle.sheet.proofs.relation.free_rows.Given as goal

abbrev pub invariant-loop-i : goal.invariant-loop-i
invariant-loop-i l = l.rows ≡ slots 0 (listed l.i (λ i. row_of (length l.tasks) (over l.tasks i)))
