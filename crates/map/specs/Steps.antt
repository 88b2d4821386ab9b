-- The paper's reading of a map in steps, one for each function of the code.
use Rattle.std.specs.Prelude.{◌≡◌, true, List, [], ◌∷◌, ◌++◌, ℕ, zero, suc, ◌≤◌, length, Ok}
use Rattle.laws.specs.Doubles.{apart}
use Rattle.map.specs.Values.{paper_map}
use Rattle.map.specs.declared.reading.Walk.{Walk}
use Rattle.paper.specs.Bytes.{le16, le32}
use Rattle.paper.specs.Limits.{most_tasks}
use Rattle.paper.specs.Maps.{MapWalk, identities, map_head_rules, place_rules, link_rules, end_rules, place_at, link_at, past_map_head, past_place, past_link, past_end}
use Rattle.paper.specs.Places.{Map}
use Rattle.paper.specs.Records.{map_head_kind, place_kind, framing}
use Rattle.paper.specs.Refusals.{first, Answer, unless_at, and_then}
use Rattle.paper.specs.Words.{among, every}

abbrev pub walk_value : Walk → MapWalk
walk_value w = record { at = w.at; read = paper_map w.map }

-- no place is linked twice, and each link names one of at most 64 places
pub record IsChained (m : Map) : Type 0 where
  pub apart : apart m.links ≡ true
  pub within : every (λ id. among id (identities m.places)) m.links ≡ true
  pub few : length m.places ≤ most_tasks

unfoldable pub head_step : List ℕ → Answer MapWalk
head_step s =
    unless_at 0 (first (framing (map_head_kind ∷ []) s 0 ++ map_head_rules (le16 s 4) (le32 s 6) (le16 s 10))) (Ok (past_map_head s))

unfoldable pub place_step : List ℕ → MapWalk → Answer MapWalk
place_step s w =
    unless_at w.at (first (framing (place_kind ∷ []) s w.at ++ place_rules w.read (place_at s w.at))) (Ok (past_place s w))

-- the counted places alone
unfoldable pub places_walk : ℕ → List ℕ → MapWalk → Answer MapWalk
places_walk zero s w = Ok w
places_walk (suc n) s w = and_then (place_step s w) (places_walk n s)

-- a link and the end, whose records are framed
unfoldable pub link_step : List ℕ → MapWalk → Answer MapWalk
link_step s w = unless_at w.at (first (link_rules w.read (link_at s w.at))) (Ok (past_link s w))

unfoldable pub end_step : List ℕ → MapWalk → Answer MapWalk
end_step s w = unless_at w.at (first (end_rules w.read)) (Ok (past_end s w))
