-- A map that is accepted is a map in plain terms, and written out again it has the same bytes.
use Rattle.std.specs.List.{All}
use Rattle.std.proofs.Common.{◌≡◌, refl, sym, ap, subst, ◌∙◌, ℕ, suc, zero, ◌+◌, ◌<◌, ◌≤◌, nat_le, arith, Bool, true, false, cond, ◌&&◌, ◌==◌, List, [], ◌∷◌, ◌++◌, drop, length, None, Ok, leb-true, eqb-true, append_assoc, append-nil, length-append}
use Rattle.std.proofs.lemmas.List.{drop_all}
use Rattle.std.proofs.lemmas.List.Elements.{All-nil, All-cons}
use Rattle.std.specs.Option.{option_or}
use Rattle.demands.proofs.IsMap.{RisingFrom, IsPlace, Chained, IsMap, Apart, alone_passes, place_kept, link_kept, apart_once, no_link_end}
use Rattle.demands.proofs.MapNumbers.{EachByte, Framed, framed_alone, framed_link, framed_end, no_end_yet, le16_low, place_bytes, link_bytes, end_bytes, head_bytes, head_bytes_of}
use Rattle.laws.specs.Lists.{last_snoc}
use Rattle.laws.specs.Tables.{first_append, none_passes, unless_at_given, and_then_given}
use Rattle.laws.specs.Tests.{and_left, and_right}
use Rattle.paper.specs.Bytes.{le16, le32}
use Rattle.paper.specs.Limits.{most_tasks, most_area, is_alignment}
use Rattle.paper.specs.Maps.{no_place, end_of, place_of, greatest_end, linked_end, MapWalk, place_at, link_at, place_rules, link_rules, total_rules, end_rules, map_head_rules, plus_place, plus_link, past_place, past_link, past_end, past_map_head, link_or_end, read_links, read_places, read_map_records, read_map, place_record, link_record, write_out}
use Rattle.paper.specs.Places.{Place, Map}
use Rattle.paper.specs.Records.{map_head_kind, place_kind, end_kind, end_record, kind_at, after, framing}
use Rattle.paper.specs.Refusals.{first, Answer, unless_at}
use Rattle.paper.specs.Sheets.{nothing_after}
use Rattle.paper.specs.Words.{every, last, joined}
use Rattle.sheet.proofs.Tasks.{else_none, else_rest}

-- A map with some places, or some links, more
abbrev pub plus_places : Map → List Place → Map
plus_places m ps = record { alignment = m.alignment; total = m.total; places = m.places ++ ps; links = m.links }

abbrev pub plus_links : Map → List ℕ → Map
plus_links m ls = record { alignment = m.alignment; total = m.total; places = m.places; links = m.links ++ ls }

abbrev with_places : Map → List Place → Map
with_places m ps = record { alignment = m.alignment; total = m.total; places = ps; links = m.links }

abbrev with_links : Map → List ℕ → Map
with_links m ls = record { alignment = m.alignment; total = m.total; places = m.places; links = ls }

pub no_places_more : (m : Map) → plus_places m [] ≡ m
no_places_more m = ap (with_places m) (append-nil m.places)

pub places_more : (m : Map) (p : Place) (ps : List Place) → plus_places (plus_place m p) ps ≡ plus_places m (p ∷ ps)
places_more m p ps = ap (with_places m) (append_assoc m.places (p ∷ []) ps)

pub no_links_more : (m : Map) → plus_links m [] ≡ m
no_links_more m = ap (with_links m) (append-nil m.links)

pub links_more : (m : Map) (l : ℕ) (ls : List ℕ) → plus_links (plus_link m l) ls ≡ plus_links m (l ∷ ls)
links_more m l ls = ap (with_links m) (append_assoc m.links (l ∷ []) ls)

-- The places that were read, each at its turn
record PlacesRead (n : ℕ) (s : List ℕ) (w x : MapWalk) : Type 0 where
  places : List Place
  counted : length places ≡ n
  behind : ℕ
  bytes : drop w.at s ≡ joined place_record places ++ drop behind s
  rising : RisingFrom (last no_place w.read.places).identity places
  each : All (IsPlace w.read.alignment w.read.total) places
  goes_on : read_places 0 s (record { at = behind; read = plus_places w.read places }) ≡ Ok x

places_read : (n : ℕ) (s : List ℕ) (w x : MapWalk) → EachByte s → read_places n s w ≡ Ok x → PlacesRead n s w x
unfolding joined read_places
places_read zero s w x b e =
    record {
      places = [];
      counted = refl;
      behind = w.at;
      bytes = refl;
      rising = tt;
      each = All-nil (IsPlace w.read.alignment w.read.total);
      goes_on = ap (λ (m : Map). read_places 0 s (record { at = w.at; read = m })) (no_places_more w.read) ∙ e;
    }
places_read (suc n) s w x b e =
    let p = place_at s w.at in
    let o = first (framing (place_kind ∷ []) s w.at) in
    let q = first (place_rules w.read p) in
    let given = unless_at_given w.at (first (framing (place_kind ∷ []) s w.at ++ place_rules w.read p)) (read_places n s (past_place s w)) x e in
    let free : option_or o q ≡ None = sym (first_append (framing (place_kind ∷ []) s w.at) (place_rules w.read p)) ∙ given.free in
    let f = framed_alone 18 14 s w.at (else_none o q free) in
    let whole = f.whole in
    let k = place_kept w.read p (else_rest o q free) in
    let low = le16_low s b (w.at + 4) (omega arith) in
    let next : after s w.at ≡ w.at + 14 = ap (λ (n : ℕ). w.at + n) f.long in
    let r = places_read n s (past_place s w) x b given.goes_on in
    record {
      places = p ∷ r.places;
      counted = ap suc r.counted;
      behind = r.behind;
      bytes = place_bytes s b w.at f.long f.kind f.whole
          ∙ ap (λ (at : ℕ). place_record p ++ drop at s) (sym next)
          ∙ ap (λ (l : List ℕ). place_record p ++ l) r.bytes
          ∙ sym (append_assoc (place_record p) (joined place_record r.places) (drop r.behind s));
      rising = (k.above, subst (λ (z : Place). RisingFrom z.identity r.places) (last_snoc no_place w.read.places p) r.rising);
      each = All-cons (IsPlace w.read.alignment w.read.total) p r.places (k.is (omega arith)) r.each;
      goes_on = ap (λ (m : Map). read_places 0 s (record { at = r.behind; read = m })) (sym (places_more w.read p r.places)) ∙ r.goes_on;
    }

-- The links that were read, each at its turn, and the end behind them
record LinksRead (s : List ℕ) (w x : MapWalk) : Type 0 where
  links : List ℕ
  bytes : drop w.at s ≡ joined link_record links ++ (end_record ++ drop x.at s)
  read : x.read ≡ plus_links w.read links
  chain : Chained w.read.places (linked_end w.read) links w.read.total
  apart : Apart w.read.links links
  some : 0 < length (w.read.links ++ links)

-- the end stands behind some link
record EndHere (s : List ℕ) (w : MapWalk) : Type 0 where
  framed : Framed 9 4 s w.at
  some : 0 < length w.read.links

end_here : (s : List ℕ) (w : MapWalk) (ls : List ℕ) → w.read.links ≡ ls → first (framing (link_or_end w.read.links) s w.at) ≡ None → (kind_at s w.at == 9) ≡ true → EndHere s w
end_here s w [] q e k = absurd (no_end_yet s w.at (rw q at e) k)
end_here s w (l ∷ ls) q e k = record { framed = framed_end l ls s w.at (rw q at e) k; some = rw q (omega arith) }

links_read : (n : ℕ) (s : List ℕ) (w x : MapWalk) → EachByte s → read_links n s w ≡ Ok x → LinksRead s w x
unfolding joined read_links
links_read zero s w x b e = absurd (let z : ◌≡◌ {A = ℕ} 0 1 = cc in omega arith)
links_read (suc n) s w x b e =
    let f = unless_at_given w.at (first (framing (link_or_end w.read.links) s w.at)) _ x e in
    go (kind_at s w.at == end_kind.kind) refl f.free (read_links n s (past_link s w)) f.goes_on (λ h. links_read n s (past_link s w) x b h)
  where
    go : (t : Bool) → (kind_at s w.at == 9) ≡ t → first (framing (link_or_end w.read.links) s w.at) ≡ None → (rest : Answer MapWalk)
        → cond t (unless_at w.at (first (end_rules w.read)) (Ok (past_end s w))) (unless_at w.at (first (link_rules w.read (link_at s w.at))) rest) ≡ Ok x
        → (rest ≡ Ok x → LinksRead s (past_link s w) x) → LinksRead s w x
    go true t f rest e k =
        let h = end_here s w w.read.links refl f t in
        let some = h.some in
        let given = unless_at_given w.at (first (end_rules w.read)) (Ok (past_end s w)) x e in
        let is : Ok (past_end s w) ≡ Ok x = given.goes_on in
        let same : past_end s w ≡ x = cc in
        let next : after s w.at ≡ w.at + 4 = ap (λ (n : ℕ). w.at + n) h.framed.long in
        record {
          links = [];
          bytes = end_bytes s b w.at h.framed.long h.framed.kind h.framed.whole ∙ ap (λ (at : ℕ). end_record ++ drop at s) (sym next ∙ ap (λ (y : MapWalk). y.at) same);
          read = sym (ap (λ (y : MapWalk). y.read) same) ∙ sym (no_links_more w.read);
          chain = eqb-true (linked_end w.read) w.read.total (alone_passes (linked_end w.read == w.read.total) 21 given.free);
          apart = tt;
          some = let l = length-append w.read.links [] in omega arith;
        }
    go false t f rest e k =
        let h = framed_link w.read.links s w.at f t in
        let l = link_at s w.at in
        let given = unless_at_given w.at (first (link_rules w.read l)) rest x e in
        let kept = link_kept w.read l given.free in
        let next : after s w.at ≡ w.at + 6 = ap (λ (n : ℕ). w.at + n) h.long in
        let r = k given.goes_on in
        record {
          links = l ∷ r.links;
          bytes = link_bytes s b w.at h.long h.kind h.whole
              ∙ ap (λ (at : ℕ). link_record l ++ drop at s) (sym next)
              ∙ ap (λ (z : List ℕ). link_record l ++ z) r.bytes
              ∙ sym (append_assoc (link_record l) (joined link_record r.links) (end_record ++ drop x.at s));
          read = r.read ∙ links_more w.read l r.links;
          chain = (kept.names, kept.goes_on, subst (λ (z : ℕ). Chained w.read.places (end_of (place_of w.read.places z)) r.links w.read.total) (last_snoc 0 w.read.links l) r.chain);
          apart = (kept.new, r.apart);
          some = let a = length-append w.read.links (l ∷ r.links) in omega arith;
        }

-- the rules of the head passed
pub record HeadKept (alignment total count : ℕ) : Type 0 where
  pub aligned : is_alignment alignment ≡ true
  pub room : total ≤ most_area
  pub some : 0 < count
  pub few : count ≤ most_tasks

pub head_kept : (alignment total count : ℕ) → first (map_head_rules alignment total count) ≡ None → HeadKept alignment total count
unfolding every
head_kept alignment total count e =
    let a = is_alignment alignment in
    let r = nat_le total most_area in
    let l = nat_le 1 count in
    let h = nat_le count most_tasks in
    let tests : (a && (r && ((l && h) && true))) ≡ true = none_passes (map_head_rules alignment total count) e in
    let rest = and_right a (r && ((l && h) && true)) tests in
    let both = and_left (l && h) true (and_right r ((l && h) && true) rest) in
    record {
      aligned = and_left a (r && ((l && h) && true)) tests;
      room = leb-true total most_area (and_left r ((l && h) && true) rest);
      some = leb-true 1 count (and_left l h both);
      few = leb-true count most_tasks (and_right l h both);
    }

-- What is known of a map that was read
record MapRead (s : List ℕ) (m : Map) : Type 0 where
  is : IsMap m
  bytes : write_out m ≡ s

-- the map as it is known behind the places
abbrev placed : List ℕ → List Place → Map
placed s ps = record { alignment = le16 s 4; total = le32 s 6; places = ps; links = [] }

whole_map : (s : List ℕ) (x : MapWalk) → EachByte s → Framed 17 12 s 0 → HeadKept (le16 s 4) (le32 s 6) (le16 s 10) → (p : PlacesRead (le16 s 10) s (past_map_head s) x)
    → le32 s 6 ≡ greatest_end p.places → LinksRead s (record { at = p.behind; read = placed s p.places }) x → length s ≤ x.at → MapRead s x.read
unfolding write_out last
whole_map s x b f kept p greatest l over =
    let some = kept.some in
    let few = kept.few in
    let counted = p.counted in
    let long = f.long in
    let next : after s 0 ≡ 12 = omega arith in
    let nothing : drop x.at s ≡ [] = drop_all x.at s over in
    let links_then : drop p.behind s ≡ joined link_record l.links ++ end_record = l.bytes ∙ ap (λ (r : List ℕ). joined link_record l.links ++ (end_record ++ r)) nothing in
    let places_then : drop 12 s ≡ joined place_record p.places ++ (joined link_record l.links ++ end_record) =
    ap (λ (at : ℕ). drop at s) (sym next) ∙ p.bytes ∙ ap (λ (r : List ℕ). joined place_record p.places ++ r) links_then in
    subst (λ (y : Map). MapRead s y) (sym l.read)
    (record {
      is = record {
        aligned = kept.aligned;
        room = kept.room;
        some = omega arith;
        few = omega arith;
        rising = p.rising;
        places = p.each;
        greatest = greatest;
        linked = l.some;
        chain = subst (λ (from : ℕ). Chained p.places from l.links (le32 s 6)) (no_link_end p.places p.rising) l.chain;
        once = apart_once [] l.links l.apart;
      };
      bytes = ap (λ (c : ℕ). head_bytes_of (le16 s 4) (le32 s 6) c ++ (joined place_record p.places ++ (joined link_record l.links ++ end_record))) counted
          ∙ sym (head_bytes s b f.long f.kind f.whole ∙ ap (λ (r : List ℕ). head_bytes_of (le16 s 4) (le32 s 6) (le16 s 10) ++ r) places_then);
    })

records_read : (s : List ℕ) (x : MapWalk) → EachByte s → read_map_records s ≡ Ok x → length s ≤ x.at → MapRead s x.read
unfolding read_map_records read_places
records_read s x b e over =
    let rules = map_head_rules (le16 s 4) (le32 s 6) (le16 s 10) in
    let o = first (framing (map_head_kind ∷ []) s 0) in
    let q = first rules in
    let head = unless_at_given 0 (first (framing (map_head_kind ∷ []) s 0 ++ rules)) (read_places (le16 s 10) s (past_map_head s)) x e in
    let free : option_or o q ≡ None = sym (first_append (framing (map_head_kind ∷ []) s 0) rules) ∙ head.free in
    let p = places_read (le16 s 10) s (past_map_head s) x b head.goes_on in
    let w : MapWalk = record { at = p.behind; read = placed s p.places } in
    let t = unless_at_given 0 (first (total_rules (placed s p.places))) (read_links (length s) s w) x p.goes_on in
    whole_map s x b (framed_alone 17 12 s 0 (else_none o q free)) (head_kept (le16 s 4) (le32 s 6) (le16 s 10) (else_rest o q free)) p
    (eqb-true (le32 s 6) (greatest_end p.places) (alone_passes (le32 s 6 == greatest_end p.places) 20 t.free)) (links_read (length s) s w x b t.goes_on) over

map_read : (s : List ℕ) (m : Map) → EachByte s → read_map s ≡ Ok m → MapRead s m
unfolding read_map
map_read s m b e =
    let records = and_then_given (read_map_records s) _ m e in
    let x = records.value in
    let end = unless_at_given x.at (first (nothing_after s x.at)) (Ok x.read) m records.then in
    let over = leb-true (length s) x.at (alone_passes (nat_le (length s) x.at) 15 end.free) in
    let is : Ok x.read ≡ Ok m = end.goes_on in
    let same : x.read ≡ m = cc in
    subst (λ (y : Map). MapRead s y) same (records_read s x b records.was over)

-- The theorems
pub accepted : (s : List ℕ) (m : Map) → EachByte s → read_map s ≡ Ok m → IsMap m
accepted s m b e = (map_read s m b e).is

pub same_bytes : (s : List ℕ) (m : Map) → EachByte s → read_map s ≡ Ok m → write_out m ≡ s
same_bytes s m b e = (map_read s m b e).bytes
