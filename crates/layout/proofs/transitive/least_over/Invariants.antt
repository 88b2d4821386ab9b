use Rattle.std.proofs.Common.{◌≡◌, false}
use Rattle.layout.specs.Nests.{may_here}
use Rattle.paper.specs.Preempting.{breaks}
use Rattle.paper.specs.Words.{any}
use Rattle.layout.proofs.transitive.least_over.Given as goal

abbrev pub invariant-loop-i : goal.invariant-loop-i
invariant-loop-i l = any l.i (λ i. breaks (may_here l.sheet) l.k l.j i) ≡ false
