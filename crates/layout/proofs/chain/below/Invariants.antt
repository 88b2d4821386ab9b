use Rattle.std.proofs.Common.{◌≡◌}
use Rattle.layout.proofs.chain.below.Given as goal
use Rattle.layout.specs.Ends.{stands_on}
use Rattle.paper.specs.Words.{least}

-- none so far
abbrev pub invariant-loop-j : goal.invariant-loop-j
invariant-loop-j l = least l.j (stands_on l.sheet l.places l.i) ≡ l.j
