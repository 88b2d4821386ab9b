use Rattle.layout.proofs.chain.+link.Given as goal
use Rattle.layout.specs.Nests.{level_here}

-- the priority, which falls to the task below
abbrev pub decreases-link : goal.decreases-link
decreases-link l = level_here l.sheet.now l.i
