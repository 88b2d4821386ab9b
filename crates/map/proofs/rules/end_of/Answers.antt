use Rattle.std.proofs.Common.{◌∙◌, sym, ap, refl}
use Rattle.map.proofs.Found.{found_here, found_nowhere}
use Rattle.map.proofs.rules.end_of.Goals as goal
use Rattle.paper.specs.Maps.{end_of}

pub returns-in-Some : goal.returns-in-Some
returns-in-Some c =
    let f = found_here c.args.places.now _ c.args.identity _ c.in-Some.place c.place_of.ensures refl c.in-Some.is in
    c.end.ensures ∙ sym (ap end_of f.same)

pub returns-in-None : goal.returns-in-None
returns-in-None c =
    let f = found_nowhere c.args.places.now _ c.args.identity _ c.place_of.ensures refl c.in-None.is in
    sym (ap end_of f.nobody)
