-- Writing from bare values: what a place or a link more does, and where the walk ends.
use Rattle.std.proofs.Common.{◌≡◌, refl, ap, sym, ◌∙◌, ℕ, zero, suc, ◌+◌, ◌*◌, ◌<◌, ◌≤◌, arith, add-one, Bool, true, false, ◌==◌, nat_le, List, [], ◌∷◌, ◌++◌, length, length-append, drop, slice_index, Option, Some, None, Ok, Err}
use Rattle.std.proofs.Math.ListN.{drop_of_length-le}
use Rattle.std.proofs.lemmas.List.{drop_more, length-map}
use Rattle.laws.specs.Rounding.{alignment_positive}
use Rattle.laws.specs.Tables.{unless_at_none, unless_at_some}
use Rattle.layout.specs.declared.layout.Layout.{Layout}
use Rattle.layout.specs.declared.layout.Place.{Place}
use Rattle.map.proofs.Chained.{unlinked, chained_next, room_for}
use Rattle.map.proofs.Records.{places_snoc}
use Rattle.map.specs.Steps.{IsChained}
use Rattle.map.specs.Values.{paper_place, paper_map}
use Rattle.map.specs.Writing.{walk_of, start_of, put_place, put_places}
use Rattle.paper.specs.Maps.{MapWalk, is_place, place_rules, place_record, plus_place, is_link, plus_link, total_rules, places_of, write_places, write_links, map_head_rules, Bare, count_of, greatest_end, map_of_bare, write_map, write_out, into_output, long_enough}
use Rattle.paper.specs.Places.{Map}
use Rattle.paper.specs.Limits.{most_area, is_alignment}
use Rattle.paper.specs.Sheets.{count_rule}
use Rattle.paper.specs.Refusals.{Refusal, Rule, ◌⇒◌, first, Answer, unless_at, and_then, placed}
use Rattle.paper.specs.Places

-- the places of three lists that are as long
pub places_length : (il al zl : List ℕ) → length al ≡ length il → length zl ≡ length il → length (places_of il al zl) ≡ length il
unfolding places_of
places_length [] al zl a z = refl
places_length (i ∷ il) [] zl a z = absurd (omega arith)
places_length (i ∷ il) (x ∷ al) [] a z = absurd (omega arith)
places_length (i ∷ il) (x ∷ al) (y ∷ zl) a z = ap suc (places_length il al zl (omega arith) (omega arith))

abbrev pub place_at : List ℕ → List ℕ → List ℕ → ℕ → Places.Place
place_at il al zl i = record { identity = slice_index il i; address = slice_index al i; size = slice_index zl i }

places_suc : (il al zl : List ℕ) (i : ℕ) → length al ≡ length il → length zl ≡ length il → i < length il
    → drop i (places_of il al zl) ≡ place_at il al zl i ∷ drop (suc i) (places_of il al zl)
unfolding places_of
places_suc [] al zl i a z h = absurd (omega arith)
places_suc (x ∷ il) [] zl i a z h = absurd (omega arith)
places_suc (x ∷ il) (y ∷ al) [] i a z h = absurd (omega arith)
places_suc (x ∷ il) (y ∷ al) (w ∷ zl) zero a z h = refl
places_suc (x ∷ il) (y ∷ al) (w ∷ zl) (suc i) a z h = places_suc il al zl i (omega arith) (omega arith) (omega arith)

pub places_drop : (il al zl : List ℕ) (i : ℕ) → length al ≡ length il → length zl ≡ length il → i < length il
    → drop i (places_of il al zl) ≡ place_at il al zl i ∷ drop (i + 1) (places_of il al zl)
places_drop il al zl i a z h = rw add-one (places_suc il al zl i a z h)

-- the walk behind a place and behind a link more
abbrev pub plus_here : Layout → Place → Layout
plus_here m p = record m { places = record { items = m.places.items ++ (p ∷ []) } }

abbrev pub link_here : Layout → ℕ → Layout
link_here m id = record m { chain = record { items = m.chain.items ++ (id ∷ []) } }

walk_place : (m : Layout) (p : Place) → walk_of (plus_here m p) ≡ record { at = (walk_of m).at + 14; read = plus_place (paper_map m) (paper_place p) }
walk_place m p =
    let n : 12 + 14 * length (m.places.items ++ (p ∷ [])) + 6 * length m.chain.items ≡ 12 + 14 * length m.places.items + 6 * length m.chain.items + 14 =
    omega (arith, length-append m.places.items (p ∷ [])) in
    rw (n, places_snoc m.places.items p) refl

walk_link : (m : Layout) (id : ℕ) → walk_of (link_here m id) ≡ record { at = (walk_of m).at + 6; read = plus_link (paper_map m) id }
walk_link m id =
    let n : 12 + 14 * length m.places.items + 6 * length (m.chain.items ++ (id ∷ [])) ≡ 12 + 14 * length m.places.items + 6 * length m.chain.items + 6 =
    omega (arith, length-append m.chain.items (id ∷ [])) in
    rw n refl

-- Places
module _ (ps : List Places.Place) (start : MapWalk) (i : ℕ) (m : Layout) (goes : put_places ps start ≡ put_places (drop i ps) (walk_of m)) where
  pub places_more : (p : Place) → drop i ps ≡ paper_place p ∷ drop (i + 1) ps → is_place (paper_map m) (paper_place p) ≡ true
      → put_places ps start ≡ put_places (drop (i + 1) ps) (walk_of (plus_here m p))
  unfolding put_places put_place
  places_more p e t =
      goes
      ∙ ap (λ (l : List Places.Place). put_places l (walk_of m)) e
      ∙ ap (λ (b : Bool). and_then (unless_at (walk_of m).at (first (b ⇒ 19 ∷ [])) (Ok (record { at = (walk_of m).at + 14; read = plus_place (paper_map m) (paper_place p) }))) (put_places (drop (i + 1) ps))) t
      ∙ ap (put_places (drop (i + 1) ps)) (sym (walk_place m p))

  pub places_not : (p : Places.Place) → drop i ps ≡ p ∷ drop (i + 1) ps → is_place (paper_map m) p ≡ false → put_places ps start ≡ Err (placed 19 (walk_of m).at)
  unfolding put_places put_place
  places_not p e t =
      goes
      ∙ ap (λ (l : List Places.Place). put_places l (walk_of m)) e
      ∙ ap (λ (b : Bool). and_then (unless_at (walk_of m).at (first (b ⇒ 19 ∷ [])) (Ok (record { at = (walk_of m).at + 14; read = plus_place (paper_map m) p }))) (put_places (drop (i + 1) ps))) t

  pub places_done : length ps ≤ i → put_places ps start ≡ Ok (walk_of m)
  unfolding put_places
  places_done h = goes ∙ ap (λ (l : List Places.Place). put_places l (walk_of m)) (drop_of_length-le ps h)

-- a place in front of others, and what comes behind them all
in_front : (at : ℕ) (o : Option ℕ) (x : MapWalk) (f : MapWalk → Answer MapWalk) (next : MapWalk → Answer Map)
    → unless_at at o (and_then (f x) next) ≡ and_then (and_then (unless_at at o (Ok x)) f) next
in_front at None x f next = refl
in_front at (Some n) x f next = refl

pub all_places : (ps : List Places.Place) (links : List ℕ) (w : MapWalk)
    → write_places ps links w ≡ and_then (put_places ps w) (λ v. unless_at 0 (first (total_rules v.read)) (write_links links v))
unfolding write_places put_places put_place
all_places [] links w = refl
all_places (p ∷ ps) links w =
    let past : MapWalk = record { at = w.at + length (place_record p); read = plus_place w.read p } in
    ap (λ (rest : Answer Map). unless_at w.at (first (place_rules w.read p)) rest) (all_places ps links past)
    ∙ in_front w.at (first (place_rules w.read p)) past (put_places ps) (λ v. unless_at 0 (first (total_rules v.read)) (write_links links v))

-- Links: how far the walk went, and that no place is linked twice
pub record Linked (links : List ℕ) (start : Layout) (i : ℕ) (m : Layout) : Type 0 where
  pub goes : write_links links (walk_of start) ≡ write_links (drop i links) (walk_of m)
  pub chained : IsChained (paper_map m)

pub linked_none : (links : List ℕ) (m : Layout) → length m.places.items ≤ 64 → m.chain.items ≡ [] → Linked links m 0 m
linked_none links m few e = record { goes = refl; chained = unlinked (paper_map m) (omega (arith, length-map m.places.items paper_place)) e }

module _ (links : List ℕ) (start : Layout) (i : ℕ) (m : Layout) (here : Linked links start i m) (id : ℕ) where
  pub link_room : is_link (paper_map m) id ≡ true → length m.chain.items < 64
  link_room t = room_for (paper_map m) id here.chained t

  module _ (below : i < length links) (is : id ≡ slice_index links i) where
    at_turn : drop i links ≡ id ∷ drop (i + 1) links
    at_turn = drop_more links i 0 below ∙ ap (λ (x : ℕ). x ∷ drop (i + 1) links) (sym is)

    pub link_more : is_link (paper_map m) id ≡ true → Linked links start (i + 1) (link_here m id)
    unfolding write_links
    link_more t = record { goes = goes_on; chained = chained_next (paper_map m) id here.chained t }
      where
        goes_on : write_links links (walk_of start) ≡ write_links (drop (i + 1) links) (walk_of (link_here m id))
        goes_on =
            here.goes
            ∙ ap (λ (l : List ℕ). write_links l (walk_of m)) at_turn
            ∙ ap (λ (b : Bool). unless_at (walk_of m).at (first (b ⇒ 21 ∷ [])) (write_links (drop (i + 1) links) (record { at = (walk_of m).at + 6; read = plus_link (paper_map m) id }))) t
            ∙ ap (write_links (drop (i + 1) links)) (sym (walk_link m id))

    pub link_not : is_link (paper_map m) id ≡ false → write_links links (walk_of start) ≡ Err (placed 21 (walk_of m).at)
    unfolding write_links
    link_not t =
        here.goes
        ∙ ap (λ (l : List ℕ). write_links l (walk_of m)) at_turn
        ∙ ap (λ (b : Bool). unless_at (walk_of m).at (first (b ⇒ 21 ∷ [])) (write_links (drop (i + 1) links) (record { at = (walk_of m).at + 6; read = plus_link (paper_map m) id }))) t

pub links_done : (links : List ℕ) (start : Layout) (i : ℕ) (m : Layout) → Linked links start i m → length links ≤ i → write_links links (walk_of start) ≡ write_links [] (walk_of m)
links_done links start i m here h = here.goes ∙ ap (λ (l : List ℕ). write_links l (walk_of m)) (drop_of_length-le links h)

-- The whole, for what each part answers
first_passes : (t : Bool) (n : ℕ) (l : List (Rule ℕ)) → first (t ⇒ n ∷ l) ≡ None → t ≡ true
first_passes true n l e = refl
first_passes false n l e = absurd (let z : ◌≡◌ {A = ℕ} 0 1 = cc in omega arith)

module _ (b : Bare) where
  abbrev pub head_broken : Option ℕ
  head_broken = first (map_head_rules b.alignment b.total (count_of b))

  abbrev pub places_here : List Places.Place
  places_here = places_of b.identities b.addresses b.sizes

  pub head_same : (n : ℕ) (o : Option ℕ) → n ≡ count_of b → o ≡ first (map_head_rules b.alignment b.total n) → head_broken ≡ o
  head_same n o e q = sym (q ∙ ap (λ (k : ℕ). first (map_head_rules b.alignment b.total k)) e)

  pub head_aligned : head_broken ≡ None → 0 < b.alignment
  head_aligned e =
      alignment_positive b.alignment
      (first_passes (is_alignment b.alignment) 4 (nat_le b.total most_area ⇒ 20 ∷ count_rule (count_of b) ∷ []) e)

  pub bare_head_not : (n : ℕ) → head_broken ≡ Some n → map_of_bare b ≡ Err (placed n 0)
  unfolding map_of_bare
  bare_head_not n e = unless_at_some 0 n head_broken (write_places places_here b.links (start_of b)) e

  module _ (free : head_broken ≡ None) where
    goes_on : map_of_bare b ≡ and_then (put_places places_here (start_of b)) (λ v. unless_at 0 (first (total_rules v.read)) (write_links b.links v))
    unfolding map_of_bare
    goes_on = unless_at_none 0 head_broken (write_places places_here b.links (start_of b)) free ∙ all_places places_here b.links (start_of b)

    pub bare_places_not : (r : Refusal) → put_places places_here (start_of b) ≡ Err r → map_of_bare b ≡ Err r
    bare_places_not r e = goes_on ∙ ap (λ (x : Answer MapWalk). and_then x (λ v. unless_at 0 (first (total_rules v.read)) (write_links b.links v))) e

    module _ (w : MapWalk) (put : put_places places_here (start_of b) ≡ Ok w) where
      totalled : map_of_bare b ≡ unless_at 0 (first (total_rules w.read)) (write_links b.links w)
      totalled = goes_on ∙ ap (λ (x : Answer MapWalk). and_then x (λ v. unless_at 0 (first (total_rules v.read)) (write_links b.links v))) put

      pub bare_total_not : (w.read.total == greatest_end w.read.places) ≡ false → map_of_bare b ≡ Err (placed 20 0)
      bare_total_not t = totalled ∙ ap (λ (x : Bool). unless_at 0 (first (x ⇒ 20 ∷ [])) (write_links b.links w)) t

      pub bare_links : (w.read.total == greatest_end w.read.places) ≡ true → map_of_bare b ≡ write_links b.links w
      bare_links t = totalled ∙ ap (λ (x : Bool). unless_at 0 (first (x ⇒ 20 ∷ [])) (write_links b.links w)) t

  pub written : (output : List ℕ) (m : Map) → map_of_bare b ≡ Ok m → write_map b output ≡ into_output (long_enough output (write_out m)) output
  unfolding write_map
  written output m e = rw e refl

  pub not_written : (output : List ℕ) (r : Refusal) → map_of_bare b ≡ Err r → write_map b output ≡ record { answer = Err r; output = output }
  unfolding write_map
  not_written output r e = rw e refl
