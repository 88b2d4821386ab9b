use Rattle.std.proofs.Common.{◌≡◌, false}
use Rattle.layout.proofs.places.at_bottom.Given as goal
use Rattle.layout.specs.Placing.{place_if}
use Rattle.paper.specs.Words.{listed}

abbrev pub invariant-loop-task : goal.invariant-loop-task
invariant-loop-task l = l.places.items ≡ listed l.task-index (place_if l.sheet false)
