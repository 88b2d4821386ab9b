use Rattle.std.proofs.Common.{◌≡◌}
use Rattle.layout.proofs.chain.total.Given as goal
use Rattle.layout.specs.Placing.{end_at}
use Rattle.paper.specs.Words.{greatest}

-- the greatest end so far
abbrev pub invariant-loop-place : goal.invariant-loop-place
invariant-loop-place l = l.total ≡ greatest l.place-index (end_at l.places)
