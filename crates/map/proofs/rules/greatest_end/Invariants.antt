use Rattle.std.proofs.Common.{◌≡◌, drop, max}
use Rattle.map.proofs.rules.greatest_end.Given as goal
use Rattle.map.specs.Values.{paper_places}
use Rattle.paper.specs.Maps.{greatest_end}

-- the greatest end so far, with those that are left
abbrev pub invariant-loop-place : goal.invariant-loop-place
invariant-loop-place l = max l.greatest (greatest_end (paper_places (drop l.place-index l.places))) ≡ greatest_end (paper_places l.places)
