-- A map made of bare values is a map in plain terms, so that it is read back as it was written. The identities have to fit their records; the rules bound every other number.
use Rattle.std.specs.List.{All}
use Rattle.std.proofs.Common.{◌≡◌, refl, sym, ap, subst, ◌∙◌, ℕ, suc, ◌+◌, ◌<◌, ◌≤◌, arith, Bool, true, false, if◌then◌else◌, ◌&&◌, ◌==◌, List, [], ◌∷◌, ◌++◌, length, Ok, eqb-true, length-append}
use Rattle.std.proofs.lemmas.List.Elements.{All-nil, All-cons, All-head, All-tail}
use Rattle.demands.proofs.IsMap.{RisingFrom, IsPlace, Chained, IsMap, Apart, alone_passes, place_kept, link_kept, apart_once, no_link_end}
use Rattle.demands.proofs.MapBytes.{plus_places, plus_links, no_places_more, places_more, no_links_more, links_more, head_kept}
use Rattle.demands.proofs.MapValues.{read_back}
use Rattle.laws.specs.Lists.{last_snoc}
use Rattle.laws.specs.Tables.{none_passes, unless_at_given}
use Rattle.laws.specs.Tests.{and_left, and_right}
use Rattle.paper.specs.Limits.{most_identity}
use Rattle.paper.specs.Maps.{no_place, end_of, place_of, greatest_end, linked_end, MapWalk, place_rules, link_rules, total_rules, end_rules, map_head_rules, plus_place, plus_link, place_record, link_record, map_head_record, read_map, write_out, Bare, places_of, count_of, is_linked, write_links, write_places, head_of, map_of_bare}
use Rattle.paper.specs.Places.{Place, Map}
use Rattle.paper.specs.Refusals.{◌⇒◌, first}
use Rattle.paper.specs.Words.{every, last}

-- The places that were written, each at its turn
record PlacesKept (ps : List Place) (links : List ℕ) (w : MapWalk) (m : Map) : Type 0 where
  at : ℕ
  rising : RisingFrom (last no_place w.read.places).identity ps
  each : All (IsPlace w.read.alignment w.read.total) ps
  goes_on : write_places [] links (record { at = at; read = plus_places w.read ps }) ≡ Ok m

places_kept : (ps : List Place) (links : List ℕ) (w : MapWalk) (m : Map) → All (λ p. p.identity ≤ most_identity) ps → write_places ps links w ≡ Ok m → PlacesKept ps links w m
unfolding write_places
places_kept [] links w m short e =
    record {
      at = w.at;
      rising = tt;
      each = All-nil (IsPlace w.read.alignment w.read.total);
      goes_on = ap (λ (n : Map). write_places [] links (record { at = w.at; read = n })) (no_places_more w.read) ∙ e;
    }
places_kept (p ∷ ps) links w m short e =
    let v : MapWalk = record { at = w.at + length (place_record p); read = plus_place w.read p } in
    let given = unless_at_given w.at (first (place_rules w.read p)) (write_places ps links v) m e in
    let k = place_kept w.read p given.free in
    let r = places_kept ps links v m (All-tail (λ p. p.identity ≤ most_identity) p ps short) given.goes_on in
    record {
      at = r.at;
      rising = (k.above, subst (λ (z : Place). RisingFrom z.identity ps) (last_snoc no_place w.read.places p) r.rising);
      each = All-cons (IsPlace w.read.alignment w.read.total) p ps (k.is (All-head (λ p. p.identity ≤ most_identity) p ps short)) r.each;
      goes_on = ap (λ (n : Map). write_places [] links (record { at = r.at; read = n })) (sym (places_more w.read p ps)) ∙ r.goes_on;
    }

-- The links that were written, each at its turn
record LinksKept (ls : List ℕ) (w : MapWalk) (m : Map) : Type 0 where
  read : m ≡ plus_links w.read ls
  chain : Chained w.read.places (linked_end w.read) ls w.read.total
  apart : Apart w.read.links ls
  some : 0 < length (w.read.links ++ ls)

some_linked : (ls : List ℕ) → is_linked ls ≡ true → 0 < length ls
some_linked [] e = absurd (let z : ◌≡◌ {A = ℕ} 0 1 = cc in omega arith)
some_linked (l ∷ ls) e = omega arith

links_kept : (ls : List ℕ) (w : MapWalk) (m : Map) → write_links ls w ≡ Ok m → LinksKept ls w m
unfolding write_links every
links_kept [] w m e =
    let some = is_linked w.read.links in
    let ends = linked_end w.read == w.read.total in
    let given = unless_at_given w.at (first (some ⇒ 3 ∷ end_rules w.read)) (Ok w.read) m e in
    let tests : (some && (ends && true)) ≡ true = none_passes (some ⇒ 3 ∷ end_rules w.read) given.free in
    let is : Ok w.read ≡ Ok m = given.goes_on in
    let same : m ≡ w.read = cc in
    let linked = some_linked w.read.links (and_left some (ends && true) tests) in
    let long = length-append w.read.links [] in
    record {
      read = same ∙ sym (no_links_more w.read);
      chain = eqb-true (linked_end w.read) w.read.total (and_left ends true (and_right some (ends && true) tests));
      apart = tt;
      some = omega arith;
    }
links_kept (l ∷ ls) w m e =
    let v : MapWalk = record { at = w.at + length (link_record l); read = plus_link w.read l } in
    let given = unless_at_given w.at (first (link_rules w.read l)) (write_links ls v) m e in
    let kept = link_kept w.read l given.free in
    let r = links_kept ls v m given.goes_on in
    let long = length-append w.read.links (l ∷ ls) in
    record {
      read = r.read ∙ links_more w.read l ls;
      chain = (kept.names, kept.goes_on, subst (λ (z : ℕ). Chained w.read.places (end_of (place_of w.read.places z)) ls w.read.total) (last_snoc 0 w.read.links l) r.chain);
      apart = (kept.new, r.apart);
      some = omega arith;
    }

-- lists of one length make as many places, and the identities of those are the list's
places_as_many : (il al zl : List ℕ) → length al ≡ length il → length zl ≡ length il → length (places_of il al zl) ≡ length il
unfolding places_of
places_as_many [] al zl p q = refl
places_as_many (i ∷ il) [] zl p q = absurd (omega arith)
places_as_many (i ∷ il) (a ∷ al) [] p q = absurd (omega arith)
places_as_many (i ∷ il) (a ∷ al) (z ∷ zl) p q = ap suc (places_as_many il al zl (omega arith) (omega arith))

places_short : (il al zl : List ℕ) → All (λ i. i ≤ most_identity) il → All (λ p. p.identity ≤ most_identity) (places_of il al zl)
unfolding places_of
places_short [] al zl h = All-nil (λ p. p.identity ≤ most_identity)
places_short (i ∷ il) [] zl h = All-nil (λ p. p.identity ≤ most_identity)
places_short (i ∷ il) (a ∷ al) [] h = All-nil (λ p. p.identity ≤ most_identity)
places_short (i ∷ il) (a ∷ al) (z ∷ zl) h =
    All-cons (λ p. p.identity ≤ most_identity) (record { identity = i; address = a; size = z }) (places_of il al zl) (All-head (λ i. i ≤ most_identity) i il h)
    (places_short il al zl (All-tail (λ i. i ≤ most_identity) i il h))

-- so a count that is not 0 is that of the places
counted : (b : Bare) → 0 < count_of b → length (places_of b.identities b.addresses b.sizes) ≡ count_of b
counted b h = go (length b.addresses == length b.identities) (length b.sizes == length b.identities) refl refl h
  where
    go : (x y : Bool) → (length b.addresses == length b.identities) ≡ x → (length b.sizes == length b.identities) ≡ y
        → 0 < (if x && y then length b.identities else 0) → length (places_of b.identities b.addresses b.sizes) ≡ (if x && y then length b.identities else 0)
    go true true p q h =
        places_as_many b.identities b.addresses b.sizes (eqb-true (length b.addresses) (length b.identities) p) (eqb-true (length b.sizes) (length b.identities) q)
    go true false p q h = absurd (omega arith)
    go false y p q h = absurd (omega arith)

-- The theorems
pub written : (b : Bare) (m : Map) → All (λ i. i ≤ most_identity) b.identities → map_of_bare b ≡ Ok m → IsMap m
unfolding map_of_bare write_places last
written b m short e =
    let ps = places_of b.identities b.addresses b.sizes in
    let w : MapWalk = record { at = length (map_head_record (head_of b)); read = head_of b } in
    let head = unless_at_given 0 (first (map_head_rules b.alignment b.total (count_of b))) (write_places ps b.links w) m e in
    let kept = head_kept b.alignment b.total (count_of b) head.free in
    let p = places_kept ps b.links w m (places_short b.identities b.addresses b.sizes short) head.goes_on in
    let placed : Map = record { alignment = b.alignment; total = b.total; places = ps; links = [] } in
    let v : MapWalk = record { at = p.at; read = placed } in
    let t = unless_at_given 0 (first (total_rules placed)) (write_links b.links v) m p.goes_on in
    let l = links_kept b.links v m t.goes_on in
    let some = kept.some in
    let few = kept.few in
    let many = counted b some in
    subst (λ (x : Map). IsMap x) (sym l.read)
    (record {
      aligned = kept.aligned;
      room = kept.room;
      some = omega arith;
      few = omega arith;
      rising = p.rising;
      places = p.each;
      greatest = eqb-true b.total (greatest_end ps) (alone_passes (b.total == greatest_end ps) 20 t.free);
      linked = l.some;
      chain = subst (λ (from : ℕ). Chained ps from b.links b.total) (no_link_end ps p.rising) l.chain;
      once = apart_once [] b.links l.apart;
    })

pub written_back : (b : Bare) (m : Map) → All (λ i. i ≤ most_identity) b.identities → map_of_bare b ≡ Ok m → read_map (write_out m) ≡ Ok m
written_back b m short e = read_back m (written b m short e)
