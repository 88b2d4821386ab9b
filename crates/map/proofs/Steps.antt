-- The paper's reading, cut into the steps of the code: what each step answers, and where it leads.
use Rattle.std.proofs.Common.{◌≡◌, refl, sym, ap, ◌∙◌, subst, ℕ, zero, suc, ◌+◌, ◌<◌, ◌≤◌, arith, leb-true, le-leb, true, false, ◌&&◌, ◌==◌, nat_le, if◌then◌else◌, List, [], ◌∷◌, ◌++◌, length, length-append, Option, Some, None, Ok, Err}
use Rattle.std.proofs.lemmas.Bool.{lt-leb}
use Rattle.std.proofs.lemmas.List.{length-map}
use Rattle.frame.specs.Framing.{Framed, record_at}
use Rattle.laws.specs.Tables.{first_append, none_passes, unless_at_given, and_then_given}
use Rattle.laws.specs.Tests.{and_left, and_right}
use Rattle.map.specs.Values.{paper_place}
use Rattle.map.specs.declared.reading.Walk.{Walk}
use Rattle.map.specs.Steps.{walk_value, head_step, place_step, places_walk, link_step, end_step}
use Rattle.paper.specs.Bytes.{le16, le32}
use Rattle.paper.specs.Limits.{is_alignment, is_count, most_area, most_tasks}
use Rattle.paper.specs.Maps.{MapWalk, map_head_rules, place_rules, greatest_end, total_rules, link_rules, place_at, link_at, past_map_head, past_place, past_link, link_or_end, read_links, read_places, read_map_records, read_map}
use Rattle.paper.specs.Records.{map_head_kind, place_kind, end_kind, kind_at, framing}
use Rattle.paper.specs.Refusals.{Refusal, first, Answer, unless_at, and_then, placed}
use Rattle.paper.specs.Words.{among, every}
use Rattle.sheet.proofs.Tasks.{else_rest}

-- Places
pub places_done : (m : ℕ) (s : List ℕ) (w : MapWalk) → m ≡ 0 → places_walk m s w ≡ Ok w
unfolding places_walk
places_done m s w e = rw e refl

module _ (m n : ℕ) (s : List ℕ) (w : MapWalk) (more : m ≡ suc n) where
  pub place_bad : (r : Refusal) → place_step s w ≡ Err r → places_walk m s w ≡ Err r
  unfolding places_walk
  place_bad r e = rw (more, e) refl

  pub place_more : (v : MapWalk) → place_step s w ≡ Ok v → places_walk m s w ≡ places_walk n s v
  unfolding places_walk
  place_more v e = rw (more, e) refl

-- what stays, and one place more
pub record PlaceRead (w v : MapWalk) : Type 0 where
  pub alignment : v.read.alignment ≡ w.read.alignment
  pub counted : length v.read.places ≡ length w.read.places + 1
  pub links : v.read.links ≡ w.read.links

pub place_read : (s : List ℕ) (w v : MapWalk) → place_step s w ≡ Ok v → PlaceRead w v
unfolding place_step
place_read s w v e =
    let given = unless_at_given w.at (first (framing (place_kind ∷ []) s w.at ++ place_rules w.read (place_at s w.at))) (Ok (past_place s w)) v e in
    let q : past_place s w ≡ v = cc in
    subst (λ (x : MapWalk). PlaceRead w x) q (record { alignment = refl; counted = length-append w.read.places (place_at s w.at ∷ []); links = refl })

pub record PlacesRead (n : ℕ) (w v : MapWalk) : Type 0 where
  pub counted : length v.read.places ≡ length w.read.places + n
  pub links : v.read.links ≡ w.read.links

pub places_read : (n : ℕ) (s : List ℕ) (w v : MapWalk) → places_walk n s w ≡ Ok v → PlacesRead n w v
unfolding places_walk
places_read zero s w v e = let q : w ≡ v = cc in subst (λ (x : MapWalk). PlacesRead 0 w x) q (record { counted = omega arith; links = refl })
places_read (suc n) s w v e =
    let f = and_then_given (place_step s w) (places_walk n s) v e in
    let p = place_read s w f.value f.was in
    let r = places_read n s f.value v f.then in
    record { counted = let a = p.counted in let b = r.counted in omega arith; links = r.links ∙ p.links }

-- as many places are in the paper's map
pub places_of_walk : (w : Walk) → length (walk_value w).read.places ≡ length w.map.places.items
places_of_walk w = length-map w.map.places.items paper_place

-- Links
behind : {A B : Type 0} (at : ℕ) (o : Option ℕ) (a : A) (f : A → Answer B) → unless_at at o (f a) ≡ and_then (unless_at at o (Ok a)) f
behind at None a f = refl
behind at (Some k) a f = refl

-- one record more
abbrev turn : ℕ → List ℕ → MapWalk → Answer MapWalk
turn n s w = if kind_at s w.at == end_kind.kind then end_step s w else and_then (link_step s w) (λ v. read_links n s v)

turned : (n : ℕ) (s : List ℕ) (w : MapWalk) → read_links (suc n) s w ≡ unless_at w.at (first (framing (link_or_end w.read.links) s w.at)) (turn n s w)
unfolding read_links link_step end_step
turned n s w =
    ap (λ (x : Answer MapWalk). unless_at w.at (first (framing (link_or_end w.read.links) s w.at)) (if kind_at s w.at == end_kind.kind then end_step s w else x))
    (behind w.at (first (link_rules w.read (link_at s w.at))) (past_link s w) (λ v. read_links n s v))

refused : {A B : Type 0} (at : ℕ) (o : Option ℕ) (a : A) (x : Answer B) (r : Refusal) → unless_at at o (Ok a) ≡ Err r → unless_at at o x ≡ Err r
refused at None a x r e = absurd (let z : ◌≡◌ {A = ℕ} 0 1 = cc in omega arith)
refused at (Some k) a x r e = let q : placed k at ≡ r = cc in ap Err q

pub links_done : (m : ℕ) (s : List ℕ) (w : MapWalk) → m ≡ 0 → read_links m s w ≡ Err (placed 1 w.at)
unfolding read_links
links_done m s w e = rw e refl

module _ (m n : ℕ) (s : List ℕ) (w : MapWalk) (more : m ≡ suc n) where
  pub link_cut : (r : Refusal) → unless_at w.at (first (framing (link_or_end w.read.links) s w.at)) (Ok (record_at s w.at)) ≡ Err r → read_links m s w ≡ Err r
  link_cut r e = rw more (turned n s w ∙ refused w.at (first (framing (link_or_end w.read.links) s w.at)) (record_at s w.at) (turn n s w) r e)

  module _ (x : Framed) (e : unless_at w.at (first (framing (link_or_end w.read.links) s w.at)) (Ok (record_at s w.at)) ≡ Ok x) where
    framed : read_links m s w ≡ (if x.kind == end_kind.kind then end_step s w else and_then (link_step s w) (λ v. read_links n s v))
    framed =
        let given = unless_at_given w.at (first (framing (link_or_end w.read.links) s w.at)) (Ok (record_at s w.at)) x e in
        let q : record_at s w.at ≡ x = cc (given.goes_on) in
        rw (more, turned n s w, given.free, ← q) refl

    pub link_end : (x.kind == end_kind.kind) ≡ true → read_links m s w ≡ end_step s w
    link_end f = framed ∙ rw f refl

    pub link_bad : (r : Refusal) → (x.kind == end_kind.kind) ≡ false → link_step s w ≡ Err r → read_links m s w ≡ Err r
    link_bad r f g = framed ∙ rw (f, g) refl

    pub link_more : (v : MapWalk) → (x.kind == end_kind.kind) ≡ false → link_step s w ≡ Ok v → read_links m s w ≡ read_links n s v
    link_more v f g = framed ∙ rw (f, g) refl

-- The head
pub record HeadRead (s : List ℕ) (w : MapWalk) : Type 0 where
  pub aligned : 0 < w.read.alignment
  pub few : le16 s 10 ≤ most_tasks
  pub places : w.read.places ≡ []
  pub links : w.read.links ≡ []

aligned : (a : ℕ) → is_alignment a ≡ true → 0 < a
unfolding among
aligned zero e = absurd (let z : ◌≡◌ {A = ℕ} 0 1 = cc in omega arith)
aligned (suc a) e = omega arith

pub head_read : (s : List ℕ) (w : MapWalk) → head_step s ≡ Ok w → HeadRead s w
unfolding head_step every
head_read s w e =
    let rules = map_head_rules (le16 s 4) (le32 s 6) (le16 s 10) in
    let given = unless_at_given 0 (first (framing (map_head_kind ∷ []) s 0 ++ rules)) (Ok (past_map_head s)) w e in
    let free = else_rest (first (framing (map_head_kind ∷ []) s 0)) (first rules) (sym (first_append (framing (map_head_kind ∷ []) s 0) rules) ∙ given.free) in
    let tests : (is_alignment (le16 s 4) && (nat_le (le32 s 6) most_area && (is_count (le16 s 10) && true))) ≡ true = none_passes rules free in
    let count = and_left (is_count (le16 s 10)) true (and_right (nat_le (le32 s 6) most_area) (is_count (le16 s 10) && true) (and_right (is_alignment (le16 s 4)) _ tests)) in
    let q : past_map_head s ≡ w = cc (given.goes_on) in
    subst (λ (x : MapWalk). HeadRead s x) q
    (record {
      aligned = aligned (le16 s 4) (and_left (is_alignment (le16 s 4)) _ tests);
      few = leb-true (le16 s 10) most_tasks (and_right (nat_le 1 (le16 s 10)) (nat_le (le16 s 10) most_tasks) count);
      places = refl;
      links = refl;
    })

-- The records one after the other
abbrev pub behind_places : List ℕ → MapWalk → Answer MapWalk
behind_places s v = unless_at 0 (first (total_rules v.read)) (read_links (length s) s v)

places_then : (n : ℕ) (s : List ℕ) (w : MapWalk) → read_places n s w ≡ and_then (places_walk n s w) (behind_places s)
unfolding read_places places_walk place_step
places_then zero s w = refl
places_then (suc n) s w = go (first (framing (place_kind ∷ []) s w.at ++ place_rules w.read (place_at s w.at))) (places_then n s (past_place s w))
  where
    go : (o : Option ℕ) → read_places n s (past_place s w) ≡ and_then (places_walk n s (past_place s w)) (behind_places s)
        → unless_at w.at o (read_places n s (past_place s w)) ≡ and_then (and_then (unless_at w.at o (Ok (past_place s w))) (places_walk n s)) (behind_places s)
    go None r = r
    go (Some k) r = refl

in_steps : (s : List ℕ) → read_map_records s ≡ and_then (head_step s) (λ w. and_then (places_walk (le16 s 10) s w) (behind_places s))
unfolding read_map_records head_step
in_steps s =
    rw (places_then (le16 s 10) s (past_map_head s))
    (behind 0 (first (framing (map_head_kind ∷ []) s 0 ++ map_head_rules (le16 s 4) (le32 s 6) (le16 s 10))) (past_map_head s) (λ w. and_then (places_walk (le16 s 10) s w) (behind_places s)))

module _ (s : List ℕ) where
  pub no_head : (r : Refusal) → head_step s ≡ Err r → read_map_records s ≡ Err r
  no_head r e = in_steps s ∙ rw e refl

  module _ (w : MapWalk) (head : head_step s ≡ Ok w) where
    pub no_places : (r : Refusal) → places_walk (le16 s 10) s w ≡ Err r → read_map_records s ≡ Err r
    no_places r e = in_steps s ∙ rw (head, e) refl

    pub placed_then : (v : MapWalk) → places_walk (le16 s 10) s w ≡ Ok v → read_map_records s ≡ behind_places s v
    placed_then v e = in_steps s ∙ rw (head, e) refl

  module _ (v : MapWalk) where
    pub total_wrong : (v.read.total == greatest_end v.read.places) ≡ false → behind_places s v ≡ Err (placed 20 0)
    total_wrong e = rw e refl

    pub total_right : (v.read.total == greatest_end v.read.places) ≡ true → behind_places s v ≡ read_links (length s) s v
    total_right e = rw e refl

-- the whole map, as its records answer
module _ (s : List ℕ) where
  pub no_records : (r : Refusal) → read_map_records s ≡ Err r → read_map s ≡ Err r
  unfolding read_map
  no_records r e = rw e refl

  module _ (w : MapWalk) (records : read_map_records s ≡ Ok w) where
    pub more_behind : w.at < length s → read_map s ≡ Err (placed 15 w.at)
    unfolding read_map
    more_behind l = rw (records, lt-leb (length s) w.at l) refl

    pub nothing_behind : length s ≤ w.at → read_map s ≡ Ok w.read
    unfolding read_map
    nothing_behind l = rw (records, le-leb (length s) w.at l) refl
