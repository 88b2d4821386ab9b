-- The map of a layout and the layout of a map are each the other's way back.
use Rattle.std.specs.Prelude.{◌≡◌, refl, List, [], ◌∷◌, map}
use Rattle.std.proofs.Common.{ap}
use Rattle.layout.specs.Values.{place_value, layout_value}
use Rattle.layout.specs.declared.layout.Layout.{Layout}
use Rattle.layout.specs.declared.layout.Place.{Place}
use Rattle.map.specs.Values.{paper_places, paper_map}
use Rattle.paper.specs.Places.{Map}
use Rattle.paper.specs.Places

places_back : (ps : List Place) → map place_value (paper_places ps) ≡ ps
places_back [] = refl
places_back (p ∷ ps) = ap (λ (l : List Place). p ∷ l) (places_back ps)

places_there : (ps : List Places.Place) → paper_places (map place_value ps) ≡ ps
places_there [] = refl
places_there (p ∷ ps) = ap (λ (l : List Places.Place). p ∷ l) (places_there ps)

pub layout_back : (m : Layout) → layout_value (paper_map m) ≡ m
unfolding layout_value
layout_back m =
    ap (λ (l : List Place). record { alignment = m.alignment; total = m.total; places = record { items = l }; chain = record { items = m.chain.items } }) (places_back m.places.items)

pub layout_there : (m : Map) → paper_map (layout_value m) ≡ m
unfolding layout_value
layout_there m = ap (λ (l : List Places.Place). record { alignment = m.alignment; total = m.total; places = l; links = m.links }) (places_there m.places)
