use Rattle.std.proofs.Common.{sym, ap}
use Rattle.map.proofs.Found.{last_here, last_nowhere}
use Rattle.map.proofs.rules.last_identity.Goals as goal
use Rattle.paper.specs.Places.{Place}

pub returns-in-Some : goal.returns-in-Some
returns-in-Some c = sym (ap (λ (p : Place). p.identity) (last_here c.args.places.now _ c.in-Some.place c.last.ensures.value c.in-Some.is))

pub returns-in-None : goal.returns-in-None
returns-in-None c = sym (ap (λ (p : Place). p.identity) (last_nowhere c.args.places.now _ c.last.ensures.value c.in-None.is))
