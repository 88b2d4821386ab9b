-- A map in plain terms, written out and read again, is the same map.
use Rattle.std.specs.List.{All}
use Rattle.std.specs.Option.{option_or}
use Rattle.std.proofs.Common.{◌≡◌, refl, sym, ap, subst, ◌∙◌, ℕ, suc, zero, ◌<◌, ◌≤◌, nat_le, arith, true, if◌then◌else◌, ◌&&◌, ◌==◌, ◌⊎◌, inl, inr, List, [], ◌∷◌, ◌++◌, drop, length, Option, None, Ok, eq-eqb, le-leb, eqb-true, append_assoc, length-append, length-drop}
use Rattle.std.proofs.lemmas.List.Elements.{All-head, All-tail}
use Rattle.demands.proofs.IsMap.{RisingFrom, IsPlace, Chained, IsMap, Apart, passes_alone, kept_place, kept_link, once_apart_first, no_link_end}
use Rattle.demands.proofs.MapBytes.{plus_places, plus_links, no_places_more, places_more, no_links_more, links_more}
use Rattle.demands.proofs.MapFields.{place_here, link_here, link_framed, end_here, head_here}
use Rattle.demands.proofs.MapNumbers.{head_bytes_of}
use Rattle.laws.specs.Lists.{last_snoc}
use Rattle.laws.specs.Rounding.{alignment_most}
use Rattle.laws.specs.Tables.{first_append, passes_none, unless_at_none}
use Rattle.laws.specs.Tests.{and_both, or_cases}
use Rattle.paper.specs.Bytes.{le16, le32}
use Rattle.paper.specs.Limits.{most_tasks, most_identity, most_area, is_alignment}
use Rattle.paper.specs.Maps.{end_of, no_place, identities, place_of, greatest_end, linked_end, MapWalk, place_at, link_at, place_rules, link_rules, total_rules, end_rules, map_head_rules, plus_place, plus_link, past_place, past_link, past_end, past_map_head, link_or_end, read_links, read_places, read_map_records, read_map, place_record, link_record, write_out}
use Rattle.paper.specs.Places.{Place, Map}
use Rattle.paper.specs.Records.{map_head_kind, place_kind, end_kind, end_record, kind_at, after, framing}
use Rattle.paper.specs.Refusals.{first, Answer, unless_at, and_then}
use Rattle.paper.specs.Sheets.{nothing_after}
use Rattle.paper.specs.Words.{among, every, last, joined}

-- a table of two parts that both pass
both_free : (o q : Option ℕ) → o ≡ None → q ≡ None → option_or o q ≡ None
both_free o q a b = rw (a, b) refl

-- The places: the walk comes to the links with all of them
record PlacesBack (ps : List Place) (s : List ℕ) (w : MapWalk) (rest : List ℕ) : Type 0 where
  at : ℕ
  behind : drop at s ≡ rest
  same : read_places (length ps) s w ≡ read_places 0 s (record { at = at; read = plus_places w.read ps })

places_back : (ps : List Place) (s : List ℕ) (w : MapWalk) (rest : List ℕ) → drop w.at s ≡ joined place_record ps ++ rest → w.read.total ≤ most_area
    → RisingFrom (last no_place w.read.places).identity ps → All (IsPlace w.read.alignment w.read.total) ps → PlacesBack ps s w rest
unfolding joined read_places
places_back [] s w rest e t r a =
    record { at = w.at; behind = e; same = ap (λ (m : Map). read_places 0 s (record { at = w.at; read = m })) (sym (no_places_more w.read)) }
places_back (p ∷ ps) s w rest e t r a =
    let is = All-head (IsPlace w.read.alignment w.read.total) p ps a in
    let short = is.identity in
    let small = is.small in
    let inside = is.inside in
    let here = place_here s w.at p (joined place_record ps ++ rest) (omega arith) (omega arith) (omega arith) (e ∙ append_assoc (place_record p) (joined place_record ps) rest) in
    let v : MapWalk = record { at = after s w.at; read = plus_place w.read p } in
    let rules : first (place_rules w.read (place_at s w.at)) ≡ None = ap (λ (q : Place). first (place_rules w.read q)) here.read ∙ kept_place w.read p r.0 is in
    let free : first (framing (place_kind ∷ []) s w.at ++ place_rules w.read (place_at s w.at)) ≡ None =
    first_append (framing (place_kind ∷ []) s w.at) (place_rules w.read (place_at s w.at))
    ∙ both_free (first (framing (place_kind ∷ []) s w.at)) (first (place_rules w.read (place_at s w.at))) here.framed rules in
    let k = places_back ps s v rest here.behind t (subst (λ (z : Place). RisingFrom z.identity ps) (sym (last_snoc no_place w.read.places p)) r.1) (All-tail (IsPlace w.read.alignment w.read.total) p ps a) in
    record {
      at = k.at;
      behind = k.behind;
      same = unless_at_none w.at (first (framing (place_kind ∷ []) s w.at ++ place_rules w.read (place_at s w.at))) (read_places (length ps) s (past_place s w)) free
          ∙ ap (λ (q : Place). read_places (length ps) s (record { at = after s w.at; read = plus_place w.read q })) here.read
          ∙ k.same
          ∙ ap (λ (m : Map). read_places 0 s (record { at = k.at; read = m })) (places_more w.read p ps);
    }

-- an identity that names a place fits a record
named_short : (alignment total : ℕ) (ps : List Place) (l : ℕ) → All (IsPlace alignment total) ps → among l (identities ps) ≡ true → l ≤ most_identity
unfolding among
named_short alignment total [] l a e = absurd (let z : ◌≡◌ {A = ℕ} 0 1 = cc in omega arith)
named_short alignment total (p ∷ ps) l a e =
    go (or_cases (l == p.identity) (among l (identities ps)) e) (named_short alignment total ps l (All-tail (IsPlace alignment total) p ps a))
  where
    go : ((l == p.identity) ≡ true) ⊎ (among l (identities ps) ≡ true) → (among l (identities ps) ≡ true → l ≤ most_identity) → l ≤ most_identity
    go (inl h) k = let q = eqb-true l p.identity h in let is = (All-head (IsPlace alignment total) p ps a).identity in omega arith
    go (inr h) k = k h

-- The links: the walk ends behind the end record with all of them
record LinksBack (ls : List ℕ) (n : ℕ) (s : List ℕ) (w : MapWalk) : Type 0 where
  at : ℕ
  last : length s ≤ at
  same : read_links n s w ≡ Ok (record { at = at; read = plus_links w.read ls })

links_framed : (ls : List ℕ) (s : List ℕ) (at : ℕ) → 0 < length ls → ((l : ℕ) (ms : List ℕ) → first (framing (link_or_end (l ∷ ms)) s at) ≡ None) → first (framing (link_or_end ls) s at) ≡ None
links_framed [] s at h f = absurd (omega arith)
links_framed (l ∷ ls) s at h f = f l ls

links_back : (ls : List ℕ) (n : ℕ) (s : List ℕ) (w : MapWalk) → drop w.at s ≡ joined link_record ls ++ end_record → length ls < n
    → All (IsPlace w.read.alignment w.read.total) w.read.places → Chained w.read.places (linked_end w.read) ls w.read.total → Apart w.read.links ls
    → 0 < length (w.read.links ++ ls) → LinksBack ls n s w
unfolding joined read_links
links_back [] zero s w e h a c d k = absurd (omega arith)
links_back (l ∷ ls) zero s w e h a c d k = absurd (omega arith)
links_back [] (suc n) s w e h a c d k =
    let here = end_here s w.at e in
    let long = length-append w.read.links [] in
    let free = links_framed w.read.links s w.at (omega arith) here.framed in
    let ended = unless_at w.at (first (end_rules w.read)) (Ok (past_end s w)) in
    let next = unless_at w.at (first (link_rules w.read (link_at s w.at))) (read_links n s (past_link s w)) in
    record {
      at = after s w.at;
      last = here.last;
      same = unless_at_none w.at (first (framing (link_or_end w.read.links) s w.at)) (if kind_at s w.at == end_kind.kind then ended else next) free
          ∙ ap (λ (x : ℕ). if x == end_kind.kind then ended else next) here.kind
          ∙ unless_at_none w.at (first (end_rules w.read)) (Ok (past_end s w)) (passes_alone (linked_end w.read == w.read.total) 21 (eq-eqb (linked_end w.read) w.read.total c))
          ∙ ap (λ (m : Map). Ok (record { at = after s w.at; read = m })) (sym (no_links_more w.read));
    }
links_back (l ∷ ls) (suc n) s w e h a c d k =
    let short = named_short w.read.alignment w.read.total w.read.places l a c.0 in
    let here = link_here s w.at l (joined link_record ls ++ end_record) (omega arith) (e ∙ append_assoc (link_record l) (joined link_record ls) end_record) in
    let free = link_framed w.read.links s w.at here.kind here.long here.room in
    let v : MapWalk = record { at = after s w.at; read = plus_link w.read l } in
    let rest = read_links n s (past_link s w) in
    let ended = unless_at w.at (first (end_rules w.read)) (Ok (past_end s w)) in
    let next = unless_at w.at (first (link_rules w.read (link_at s w.at))) rest in
    let rules : first (link_rules w.read (link_at s w.at)) ≡ None =
    ap (λ (x : ℕ). first (link_rules w.read x)) here.read ∙ kept_link w.read l (record { names = c.0; new = d.0; goes_on = c.1 }) in
    let long = length-append w.read.links (l ∷ []) in
    let long' = length-append (w.read.links ++ (l ∷ [])) ls in
    let r = links_back ls n s v here.behind (omega arith) a
    (subst (λ (z : ℕ). Chained w.read.places (end_of (place_of w.read.places z)) ls w.read.total) (sym (last_snoc 0 w.read.links l)) c.2) d.1 (omega arith) in
    record {
      at = r.at;
      last = r.last;
      same = unless_at_none w.at (first (framing (link_or_end w.read.links) s w.at)) (if kind_at s w.at == end_kind.kind then ended else next) free
          ∙ ap (λ (x : ℕ). if x == end_kind.kind then ended else next) here.kind
          ∙ unless_at_none w.at (first (link_rules w.read (link_at s w.at))) rest rules
          ∙ ap (λ (x : ℕ). read_links n s (record { at = after s w.at; read = plus_link w.read x })) here.read
          ∙ r.same
          ∙ ap (λ (m : Map). Ok (record { at = r.at; read = m })) (links_more w.read l ls);
    }

-- the rules of the head pass
pub head_free : (m : Map) → IsMap m → first (map_head_rules m.alignment m.total (length m.places)) ≡ None
unfolding every
head_free m is =
    let a = is_alignment m.alignment in
    let r = nat_le m.total most_area in
    let l = nat_le 1 (length m.places) in
    let h = nat_le (length m.places) most_tasks in
    passes_none (map_head_rules m.alignment m.total (length m.places))
    (and_both a (r && ((l && h) && true)) is.aligned
    (and_both r ((l && h) && true) (le-leb m.total most_area is.room)
    (and_both (l && h) true (and_both l h (le-leb 1 (length m.places) is.some) (le-leb (length m.places) most_tasks is.few)) refl)))

-- there are fewer links than bytes of their records and the end's
links_few : (ls : List ℕ) → length ls < length (joined link_record ls ++ end_record)
unfolding joined
links_few [] = omega arith
links_few (l ∷ ls) = let r = links_few ls in omega arith

-- the bytes behind a place in them are no more than all
drop_few : (s : List ℕ) (at : ℕ) (rest : List ℕ) → drop at s ≡ rest → length rest ≤ length s
drop_few s at rest e = let l = length-drop at s in let k : length (drop at s) ≡ length rest = ap length e in omega arith

-- three equal numbers
three : {A : Type 0} (f : ℕ → ℕ → ℕ → A) (a b c x y z : ℕ) → a ≡ x → b ≡ y → c ≡ z → f a b c ≡ f x y z
three f a b c x y z p q r = ap (λ (n : ℕ). f n b c) p ∙ ap (λ (n : ℕ). f x n c) q ∙ ap (λ (n : ℕ). f x y n) r

-- The records: the head, the places, the links and the end
record RecordsBack (s : List ℕ) (m : Map) : Type 0 where
  at : ℕ
  last : length s ≤ at
  same : read_map_records s ≡ Ok (record { at = at; read = m })

abbrev behind_places : Map → List ℕ
behind_places m = joined link_record m.links ++ end_record

abbrev behind_head : Map → List ℕ
behind_head m = joined place_record m.places ++ behind_places m

-- the map as it is known behind the head, and behind the places
abbrev at_head : Map → Map
at_head m = record { alignment = m.alignment; total = m.total; places = []; links = [] }

abbrev at_places : Map → Map
at_places m = record { alignment = m.alignment; total = m.total; places = m.places; links = [] }

links_then : (s : List ℕ) (m : Map) (at : ℕ) → IsMap m → drop at s ≡ behind_places m → LinksBack m.links (length s) s (record { at = at; read = at_places m })
links_then s m at is e =
    let few = links_few m.links in
    let less = drop_few s at (behind_places m) e in
    links_back m.links (length s) s (record { at = at; read = at_places m }) e (omega arith) is.places
    (subst (λ (from : ℕ). Chained m.places from m.links m.total) (sym (no_link_end m.places is.rising)) is.chain)
    (once_apart_first m.links is.once) is.linked

records_back : (s : List ℕ) (m : Map) → IsMap m → s ≡ head_bytes_of m.alignment m.total (length m.places) ++ behind_head m → RecordsBack s m
unfolding read_map_records read_places last
records_back s m is e =
    let most = alignment_most m.alignment is.aligned in
    let room = is.room in
    let few = is.few in
    let head = head_here s m.alignment m.total (length m.places) (behind_head m) (omega arith) (omega arith) (omega arith) e in
    let w : MapWalk = record { at = after s 0; read = at_head m } in
    let p = places_back m.places s w (behind_places m) head.behind is.room is.rising is.places in
    let l = links_then s m p.at is p.behind in
    let rules : first (map_head_rules (le16 s 4) (le32 s 6) (le16 s 10)) ≡ None =
    three (λ a t c. first (map_head_rules a t c)) (le16 s 4) (le32 s 6) (le16 s 10) m.alignment m.total (length m.places) head.aligned head.reaches head.counted ∙ head_free m is in
    let free : first (framing (map_head_kind ∷ []) s 0 ++ map_head_rules (le16 s 4) (le32 s 6) (le16 s 10)) ≡ None =
    first_append (framing (map_head_kind ∷ []) s 0) (map_head_rules (le16 s 4) (le32 s 6) (le16 s 10))
    ∙ both_free (first (framing (map_head_kind ∷ []) s 0)) (first (map_head_rules (le16 s 4) (le32 s 6) (le16 s 10))) head.framed rules in
    let walk : ℕ → ℕ → ℕ → Answer MapWalk = λ a t c. read_places c s (record { at = after s 0; read = record { alignment = a; total = t; places = []; links = [] } }) in
    record {
      at = l.at;
      last = l.last;
      same = unless_at_none 0 (first (framing (map_head_kind ∷ []) s 0 ++ map_head_rules (le16 s 4) (le32 s 6) (le16 s 10))) (read_places (le16 s 10) s (past_map_head s)) free
          ∙ three walk (le16 s 4) (le32 s 6) (le16 s 10) m.alignment m.total (length m.places) head.aligned head.reaches head.counted
          ∙ p.same
          ∙ unless_at_none 0 (first (total_rules (at_places m))) (read_links (length s) s (record { at = p.at; read = at_places m }))
          (passes_alone (m.total == greatest_end m.places) 20 (eq-eqb m.total (greatest_end m.places) is.greatest))
          ∙ l.same;
    }

map_back : (s : List ℕ) (m : Map) → IsMap m → s ≡ head_bytes_of m.alignment m.total (length m.places) ++ behind_head m → read_map s ≡ Ok m
unfolding read_map
map_back s m is e =
    let r = records_back s m is e in
    ap (λ (x : Answer MapWalk). and_then x (λ w. unless_at w.at (first (nothing_after s w.at)) (Ok w.read))) r.same
    ∙ unless_at_none r.at (first (nothing_after s r.at)) (Ok m) (passes_alone (nat_le (length s) r.at) 15 (le-leb (length s) r.at r.last))

-- The theorem
pub read_back : (m : Map) → IsMap m → read_map (write_out m) ≡ Ok m
unfolding write_out
read_back m is = map_back (write_out m) m is refl
