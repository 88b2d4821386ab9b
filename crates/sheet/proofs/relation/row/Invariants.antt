use Rattle.std.proofs.Common.{◌≡◌}
use Rattle.paper.specs.Dispatch.{row_of}
use Rattle.sheet.specs.Walks.{over}
use Rattle.sheet.proofs.relation.row.Given as goal

abbrev pub invariant-loop-j : goal.invariant-loop-j
invariant-loop-j l = l.row ≡ row_of l.j (over l.tasks l.i)
