use Rattle.std.proofs.Common.{◌≡◌, false}
use Rattle.layout.specs.Nests.{count_here, may_here}
use Rattle.paper.specs.Preempting.{breaks_above}
use Rattle.paper.specs.Words.{any}
use Rattle.layout.proofs.transitive.check.Given as goal

abbrev pub invariant-loop-k : goal.invariant-loop-k
invariant-loop-k l = any l.k (λ k. breaks_above (count_here l.sheet) (may_here l.sheet) k) ≡ false
