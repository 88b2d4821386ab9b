use Rattle.std.proofs.Common.{append_assoc}
use Rattle.std.proofs.lemmas.List.{length-map}
use Rattle.map.proofs.image.push_head.Goals as goal
use Rattle.map.specs.Values.{paper_place}

pub returns-clause-items : goal.returns-clause-items
returns-clause-items c =
    rw (c.push16-2.ensures.items, c.push32.ensures.items, c.push16.ensures.items, c.push_start.ensures.items, c.len.ensures.value, length-map c.args.map.now.places.items paper_place) (simp append_assoc)
