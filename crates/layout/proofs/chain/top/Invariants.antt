use Rattle.std.proofs.Common.{◌≡◌, ◌==◌}
use Rattle.layout.proofs.chain.top.Given as goal
use Rattle.layout.specs.Ends.{greatest_end}
use Rattle.layout.specs.Placing.{end_at}
use Rattle.paper.specs.Words.{least}

-- none so far
abbrev pub invariant-loop-i : goal.invariant-loop-i
invariant-loop-i l = least l.i (λ i. end_at l.places i == greatest_end l.places) ≡ l.i
