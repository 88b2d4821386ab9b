use Rattle.std.proofs.Common.{◌≡◌}
use Rattle.layout.proofs.places.places.Given as goal
use Rattle.layout.specs.Placing.{placed_below}

abbrev pub invariant-loop-level : goal.invariant-loop-level
invariant-loop-level l = l.places.items ≡ placed_below l.sheet l.level
