-- The code's layouts and places as the paper's maps and places, which is the way back from layout_value.
use Rattle.std.specs.Prelude.{List, map}
use Rattle.layout.specs.declared.layout.Layout.{Layout}
use Rattle.layout.specs.declared.layout.Place.{Place}
use Rattle.paper.specs.Places.{Map}
use Rattle.paper.specs.Places

abbrev pub paper_place : Place → Places.Place
paper_place p = record { identity = p.identity; address = p.address; size = p.size }

abbrev pub paper_places : List Place → List Places.Place
paper_places ps = map paper_place ps

abbrev pub paper_map : Layout → Map
paper_map m = record { alignment = m.alignment; total = m.total; places = paper_places m.places.items; links = m.chain.items }
