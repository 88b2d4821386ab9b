-- The paper's writing from bare values in steps, one for each function of the code.
use Rattle.std.specs.Prelude.{List, [], ◌∷◌, ◌+◌, ◌*◌, length, Ok}
use Rattle.layout.specs.declared.layout.Layout.{Layout}
use Rattle.map.specs.Values.{paper_map}
use Rattle.map.specs.declared.writing.Bare.{Bare}
use Rattle.paper.specs.Maps.{MapWalk, place_rules, place_record, plus_place, map_head_record, head_of}
use Rattle.paper.specs.Places.{Place}
use Rattle.paper.specs.Refusals.{first, Answer, unless_at, and_then}
use Rattle.paper.specs.Maps

abbrev pub bare_value : Bare → Maps.Bare
bare_value b =
    record {
      alignment = b.alignment;
      total = b.total;
      identities = b.identities.now;
      addresses = b.addresses.now;
      sizes = b.sizes.now;
      links = b.links.now;
    }

-- a map as written so far, and where its next record would start
abbrev pub walk_of : Layout → MapWalk
walk_of m = record { at = 12 + 14 * length m.places.items + 6 * length m.chain.items; read = paper_map m }

-- behind the head
abbrev pub start_of : Maps.Bare → MapWalk
start_of b = record { at = length (map_head_record (head_of b)); read = head_of b }

unfoldable pub put_place : Place → MapWalk → Answer MapWalk
put_place p w = unless_at w.at (first (place_rules w.read p)) (Ok (record { at = w.at + length (place_record p); read = plus_place w.read p }))

unfoldable pub put_places : List Place → MapWalk → Answer MapWalk
put_places [] w = Ok w
put_places (p ∷ ps) w = and_then (put_place p w) (put_places ps)
