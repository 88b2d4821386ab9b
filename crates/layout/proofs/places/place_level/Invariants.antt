use Rattle.std.proofs.Common.{◌≡◌}
use Rattle.layout.proofs.Placing.{placed_within}
use Rattle.layout.proofs.places.place_level.Given as goal

abbrev pub invariant-loop-i : goal.invariant-loop-i
invariant-loop-i l = l.places ≡ placed_within l.sheet l.level l.i
