-- One more record of a map's places and links.
use Rattle.std.proofs.Common.{◌≡◌, refl, ap, ℕ, ◌+◌, ◌<◌, List, [], ◌∷◌, ◌++◌, length, take, slice_index, slice_index_or, append_assoc}
use Rattle.std.proofs.lemmas.List.{take_more}
use Rattle.laws.specs.Lists.{joined_snoc}
use Rattle.layout.specs.declared.layout.Place.{Place}
use Rattle.map.specs.Values.{paper_place, paper_places}
use Rattle.paper.specs.Maps.{place_record, link_record}
use Rattle.paper.specs.Words.{joined}
use Rattle.paper.specs.Places

pub links_more : (l : List ℕ) (i n : ℕ) → i < length l → n ≡ slice_index l i → joined link_record (take (i + 1) l) ≡ joined link_record (take i l) ++ link_record n
links_more l i n h e = rw (take_more l i 0 h, ← e) (joined_snoc link_record (take i l) n)

pub places_snoc : (l : List Place) (p : Place) → paper_places (l ++ (p ∷ [])) ≡ paper_places l ++ (paper_place p ∷ [])
places_snoc [] p = refl
places_snoc (q ∷ l) p = ap (λ (r : List Places.Place). paper_place q ∷ r) (places_snoc l p)

places_more : (l : List Place) (i : ℕ) (d : Place) → i < length l
    → joined place_record (paper_places (take (i + 1) l)) ≡ joined place_record (paper_places (take i l)) ++ place_record (paper_place (slice_index_or l i d))
places_more l i d h = rw (take_more l i d h, places_snoc (take i l) (slice_index_or l i d)) (joined_snoc place_record (paper_places (take i l)) (paper_place (slice_index_or l i d)))

-- behind what was there already
pub places_step : (old now : List ℕ) (l : List Place) (i : ℕ) (d : Place) → i < length l → now ≡ old ++ joined place_record (paper_places (take i l))
    → now ++ place_record (paper_place (slice_index_or l i d)) ≡ old ++ joined place_record (paper_places (take (i + 1) l))
places_step old now l i d h e =
    rw (e, places_more l i d h) (append_assoc old (joined place_record (paper_places (take i l))) (place_record (paper_place (slice_index_or l i d))))
