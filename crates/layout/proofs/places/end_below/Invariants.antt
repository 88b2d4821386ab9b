use Rattle.std.proofs.Common.{◌≡◌}
use Rattle.layout.proofs.Sizes.{end_so_far}
use Rattle.layout.proofs.places.end_below.Given as goal
use Rattle.layout.specs.Placing.{address_at, nest_at}

abbrev pub invariant-loop-j : goal.invariant-loop-j
invariant-loop-j l = l.end ≡ end_so_far (nest_at l.sheet l.places) (address_at l.places) l.i l.j
