use Rattle.std.proofs.Common.{◌≡◌, false}
use Rattle.layout.specs.Nests.{count_here, may_here}
use Rattle.paper.specs.Preempting.{breaks_over}
use Rattle.paper.specs.Words.{any}
use Rattle.layout.proofs.transitive.least_above.Given as goal

abbrev pub invariant-loop-j : goal.invariant-loop-j
invariant-loop-j l = any l.j (λ j. breaks_over (count_here l.sheet) (may_here l.sheet) l.k j) ≡ false
