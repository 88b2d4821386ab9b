-- The writer accepts the values of every map in plain terms, and what it writes for any map is bytes.
use Rattle.std.specs.List.{All}
use Rattle.std.proofs.Common.{◌≡◌, refl, sym, ap, subst, ◌∙◌, ℕ, suc, zero, ◌+◌, ◌/◌, ◌%◌, ◌<◌, arith, true, ◌&&◌, ◌==◌, List, [], ◌∷◌, ◌++◌, map, length, None, Ok, eq-eqb, length-append}
use Rattle.std.proofs.lemmas.List.{length-map}
use Rattle.std.proofs.lemmas.List.Elements.{All-head, All-tail}
use Rattle.demands.proofs.IsMap.{RisingFrom, IsPlace, Chained, IsMap, Apart, passes_alone, kept_place, kept_link, once_apart_first, no_link_end}
use Rattle.demands.proofs.MapBytes.{plus_places, plus_links, no_places_more, places_more, no_links_more, links_more, accepted}
use Rattle.demands.proofs.MapNumbers.{EachByte}
use Rattle.demands.proofs.MapValues.{head_free}
use Rattle.laws.specs.Lists.{last_snoc}
use Rattle.laws.specs.Tables.{passes_none, unless_at_none}
use Rattle.laws.specs.Tests.{and_both}
use Rattle.paper.specs.Maps.{no_place, end_of, place_of, greatest_end, linked_end, MapWalk, place_rules, link_rules, total_rules, end_rules, map_head_rules, plus_place, plus_link, place_record, link_record, map_head_record, read_map, write_out, Bare, places_of, count_of, is_linked, write_links, write_places, head_of, map_of_bare}
use Rattle.paper.specs.Places.{Place, Map}
use Rattle.paper.specs.Records.{end_record}
use Rattle.paper.specs.Refusals.{◌⇒◌, first}
use Rattle.paper.specs.Words.{every, joined, last}

-- the values of a map, list by list
abbrev pub bare_of : Map → Bare
bare_of m =
    record {
      alignment = m.alignment;
      total = m.total;
      identities = map (λ p. p.identity) m.places;
      addresses = map (λ p. p.address) m.places;
      sizes = map (λ p. p.size) m.places;
      links = m.links;
    }

places_same : (ps : List Place) → places_of (map (λ p. p.identity) ps) (map (λ p. p.address) ps) (map (λ p. p.size) ps) ≡ ps
unfolding places_of
places_same [] = refl
places_same (p ∷ ps) = ap (λ (r : List Place). p ∷ r) (places_same ps)

count_same : (m : Map) → count_of (bare_of m) ≡ length m.places
count_same m =
    let i = length-map m.places (λ p. p.identity) in
    let a = length-map m.places (λ p. p.address) in
    let z = length-map m.places (λ p. p.size) in
    rw (eq-eqb (length (map (λ p. p.address) m.places)) (length (map (λ p. p.identity) m.places)) (a ∙ sym i), eq-eqb (length (map (λ p. p.size) m.places)) (length (map (λ p. p.identity) m.places)) (z ∙ sym i)) i

-- The writer's walk over the places, and over the links
record PlacesWritten (ps : List Place) (links : List ℕ) (w : MapWalk) : Type 0 where
  at : ℕ
  same : write_places ps links w ≡ write_places [] links (record { at = at; read = plus_places w.read ps })

places_written : (ps : List Place) (links : List ℕ) (w : MapWalk) → RisingFrom (last no_place w.read.places).identity ps → All (IsPlace w.read.alignment w.read.total) ps
    → PlacesWritten ps links w
unfolding write_places
places_written [] links w r a =
    record { at = w.at; same = ap (λ (m : Map). write_places [] links (record { at = w.at; read = m })) (sym (no_places_more w.read)) }
places_written (p ∷ ps) links w r a =
    let v : MapWalk = record { at = w.at + length (place_record p); read = plus_place w.read p } in
    let is = All-head (IsPlace w.read.alignment w.read.total) p ps a in
    let k = places_written ps links v (subst (λ (z : Place). RisingFrom z.identity ps) (sym (last_snoc no_place w.read.places p)) r.1) (All-tail (IsPlace w.read.alignment w.read.total) p ps a) in
    record {
      at = k.at;
      same = unless_at_none w.at (first (place_rules w.read p)) (write_places ps links v) (kept_place w.read p r.0 is)
          ∙ k.same
          ∙ ap (λ (m : Map). write_places [] links (record { at = k.at; read = m })) (places_more w.read p ps);
    }

linked_some : (ls : List ℕ) → 0 < length ls → is_linked ls ≡ true
linked_some [] h = absurd (omega arith)
linked_some (l ∷ ls) h = refl

links_written : (ls : List ℕ) (w : MapWalk) → Chained w.read.places (linked_end w.read) ls w.read.total → Apart w.read.links ls → 0 < length (w.read.links ++ ls)
    → write_links ls w ≡ Ok (plus_links w.read ls)
unfolding write_links every
links_written [] w c d k =
    let some = is_linked w.read.links in
    let ends = linked_end w.read == w.read.total in
    let long = length-append w.read.links [] in
    let free = passes_none (some ⇒ 3 ∷ end_rules w.read) (and_both some (ends && true) (linked_some w.read.links (omega arith)) (and_both ends true (eq-eqb (linked_end w.read) w.read.total c) refl)) in
    unless_at_none w.at (first (some ⇒ 3 ∷ end_rules w.read)) (Ok w.read) free ∙ ap Ok (sym (no_links_more w.read))
links_written (l ∷ ls) w c d k =
    let v : MapWalk = record { at = w.at + length (link_record l); read = plus_link w.read l } in
    let long = length-append w.read.links (l ∷ []) in
    let longer = length-append (w.read.links ++ (l ∷ [])) ls in
    let r = links_written ls v (subst (λ (z : ℕ). Chained w.read.places (end_of (place_of w.read.places z)) ls w.read.total) (sym (last_snoc 0 w.read.links l)) c.2) d.1 (omega arith) in
    unless_at_none w.at (first (link_rules w.read l)) (write_links ls v) (kept_link w.read l (record { names = c.0; new = d.0; goes_on = c.1 }))
    ∙ r
    ∙ ap Ok (links_more w.read l ls)

-- The writer gives each map for its own values
pub values_written : (m : Map) → IsMap m → map_of_bare (bare_of m) ≡ Ok m
unfolding map_of_bare write_places last
values_written m is =
    let h = head_of (bare_of m) in
    let w : MapWalk = record { at = length (map_head_record h); read = h } in
    let n : Map = record { alignment = m.alignment; total = m.total; places = m.places; links = [] } in
    let ps = places_of (bare_of m).identities (bare_of m).addresses (bare_of m).sizes in
    let p = places_written m.places m.links w is.rising is.places in
    let rules : first (map_head_rules m.alignment m.total (count_of (bare_of m))) ≡ None =
    ap (λ (c : ℕ). first (map_head_rules m.alignment m.total c)) (count_same m) ∙ head_free m is in
    unless_at_none 0 (first (map_head_rules m.alignment m.total (count_of (bare_of m)))) (write_places ps m.links w) rules
    ∙ ap (λ (l : List Place). write_places l m.links w) (places_same m.places)
    ∙ p.same
    ∙ unless_at_none 0 (first (total_rules n)) (write_links m.links (record { at = p.at; read = n }))
    (passes_alone (m.total == greatest_end m.places) 20 (eq-eqb m.total (greatest_end m.places) is.greatest))
    ∙ links_written m.links (record { at = p.at; read = n }) (subst (λ (from : ℕ). Chained m.places from m.links m.total) (sym (no_link_end m.places is.rising)) is.chain)
    (once_apart_first m.links is.once) is.linked

-- What is written for any map is bytes
abbrev AreBytes : List ℕ → Type 0
AreBytes [] = Unit {0}
AreBytes (b ∷ s) = (b < 256) × AreBytes s

bytes_at : (s : List ℕ) → AreBytes s → EachByte s
bytes_at [] h i l = absurd (omega arith)
bytes_at (b ∷ s) h zero l = h.0
bytes_at (b ∷ s) h (suc i) l = bytes_at s h.1 i (omega arith)

bytes_append : (s t : List ℕ) → AreBytes s → AreBytes t → AreBytes (s ++ t)
bytes_append [] t h k = k
bytes_append (b ∷ s) t h k = (h.0, bytes_append s t h.1 k)

two : {X : Type 0} (n : ℕ) → X → (n % 256 < 256) × ((n / 256 % 256 < 256) × X)
two n x = (omega arith, (omega arith, x))

places_bytes : (ps : List Place) → AreBytes (joined place_record ps)
unfolding joined
places_bytes [] = tt
places_bytes (p ∷ ps) =
    two 14 (two 18 (two p.identity (two p.address (two (p.address / 65536) (two p.size (two (p.size / 65536) (places_bytes ps)))))))

links_bytes : (ls : List ℕ) → AreBytes (joined link_record ls)
unfolding joined
links_bytes [] = tt
links_bytes (l ∷ ls) = two 6 (two 19 (two l (links_bytes ls)))

pub written_bytes : (m : Map) → EachByte (write_out m)
unfolding write_out
written_bytes m =
    let links : AreBytes (joined link_record m.links ++ end_record) = bytes_append (joined link_record m.links) end_record (links_bytes m.links) (two 4 (two 9 tt)) in
    let places = bytes_append (joined place_record m.places) (joined link_record m.links ++ end_record) (places_bytes m.places) links in
    bytes_at (map_head_record m ++ (joined place_record m.places ++ (joined link_record m.links ++ end_record)))
    (two 12 (two 17 (two m.alignment (two m.total (two (m.total / 65536) (two (length m.places) places))))))

-- So the maps that are read back are just the maps in plain terms
pub just_these : (m : Map) → read_map (write_out m) ≡ Ok m → IsMap m
just_these m e = accepted (write_out m) m (written_bytes m) e
