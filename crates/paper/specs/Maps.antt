-- "Map records": the rules, reading, writing out, the writer from bare values, and the map built from a sheet.
use Rattle.std.specs.Prelude.{Bool, true, false, if◌then◌else◌, not, ◌&&◌, List, [], ◌∷◌, ◌++◌, map, ℕ, zero, suc, ◌+◌, ◌%◌, max, nat_le, nat_lt, ◌==◌, length, Ok, Err}
use Rattle.paper.specs.Bytes.{le16, le32, put16, put32, over}
use Rattle.paper.specs.Words.{among, last, named, joined}
use Rattle.paper.specs.Limits.{most_area, most_size}
use Rattle.paper.specs.Places.{Place, Map, layout, length_rule}
use Rattle.paper.specs.Records.{Kind, map_head_kind, place_kind, link_kind, end_kind, kind_at, after, framing, record_of, end_record}
use Rattle.paper.specs.Refusals.{Rule, ◌⇒◌, first, Answer, unless, unless_at, and_then, placed}
use Rattle.paper.specs.Sheets.{alignment_rule, count_rule, nothing_after}

-- the end of a place; no place: what stands before the first, and what an identity that names no place gives
abbrev pub end_of : Place → ℕ
end_of p = p.address + p.size

abbrev pub no_place : Place
no_place = record { identity = 0; address = 0; size = 0 }

abbrev pub identities : List Place → List ℕ
identities ps = map (λ p. p.identity) ps

abbrev pub place_of : List Place → ℕ → Place
place_of ps id = named (λ p. p.identity) no_place ps id

-- the greatest end of all places
unfoldable pub greatest_end : List Place → ℕ
greatest_end [] = 0
greatest_end (p ∷ ps) = max (end_of p) (greatest_end ps)

-- where the chain as linked so far ends; 0 before the first link
abbrev pub linked_end : Map → ℕ
linked_end m = end_of (place_of m.places (last 0 m.links))

abbrev pub is_multiple : ℕ → ℕ → Bool
is_multiple alignment x = x % alignment == 0

-- The rules of the fields, in order, for the reader and for the writer. Those of a place and of a link take the map as known up to there.

-- "Head: 4; total above 16,777,216 (20); count (6)."
abbrev pub map_head_rules : ℕ → ℕ → ℕ → List (Rule ℕ)
map_head_rules alignment total count = alignment_rule alignment ∷ nat_le total most_area ⇒ 20 ∷ count_rule count ∷ []

-- "Place: identities nonzero and strictly rising, address and size multiples of the alignment, size at most 1,048,576, end at most the total (19)."
abbrev pub is_place : Map → Place → Bool
is_place m p =
    nat_lt (last no_place m.places).identity p.identity
    && (is_multiple m.alignment p.address
    && (is_multiple m.alignment p.size
    && (nat_le p.size most_size
    && nat_le (end_of p) m.total)))

abbrev pub place_rules : Map → Place → List (Rule ℕ)
place_rules m p = is_place m p ⇒ 19 ∷ []

-- "Directly after the last place: the total is the greatest end (20, place 0)."
abbrev pub total_rules : Map → List (Rule ℕ)
total_rules m = (m.total == greatest_end m.places) ⇒ 20 ∷ []

-- "Link: names a place, not linked before, its address is the previous link's end, 0 for the first (21)."
abbrev pub is_link : Map → ℕ → Bool
is_link m id =
    among id (identities m.places)
    && (not (among id m.links)
    && (place_of m.places id).address == linked_end m)

abbrev pub link_rules : Map → ℕ → List (Rule ℕ)
link_rules m id = is_link m id ⇒ 21 ∷ []

-- "On the end record: the last link's end is the total (21)."
abbrev pub end_rules : Map → List (Rule ℕ)
end_rules m = (linked_end m == m.total) ⇒ 21 ∷ []

-- Reading: as for sheets, a walk that holds its place and the map as read so far.

abbrev pub place_at : List ℕ → ℕ → Place
place_at s at = record { identity = le16 s (at + 4); address = le32 s (at + 6); size = le32 s (at + 10) }

abbrev pub link_at : List ℕ → ℕ → ℕ
link_at s at = le16 s (at + 4)

pub record MapWalk : Type 0 where
  pub at : ℕ
  pub read : Map

abbrev pub plus_place : Map → Place → Map
plus_place m p = record { alignment = m.alignment; total = m.total; places = m.places ++ (p ∷ []); links = m.links }

abbrev pub plus_link : Map → ℕ → Map
plus_link m id = record { alignment = m.alignment; total = m.total; places = m.places; links = m.links ++ (id ∷ []) }

-- the walk past a place, a link and the end
abbrev pub past_place : List ℕ → MapWalk → MapWalk
past_place s w = record { at = after s w.at; read = plus_place w.read (place_at s w.at) }

abbrev pub past_link : List ℕ → MapWalk → MapWalk
past_link s w = record { at = after s w.at; read = plus_link w.read (link_at s w.at) }

abbrev pub past_end : List ℕ → MapWalk → MapWalk
past_end s w = record { at = after s w.at; read = w.read }

-- "one or more links (the chain, bottom first), end"
abbrev pub link_or_end : List ℕ → List Kind
link_or_end [] = link_kind ∷ []
link_or_end (l ∷ ls) = link_kind ∷ end_kind ∷ []

-- links up to the end record; there are fewer records than bytes
unfoldable pub read_links : ℕ → List ℕ → MapWalk → Answer MapWalk
read_links zero s w = Err (placed 1 w.at)
read_links (suc n) s w =
    let rest = read_links n s (past_link s w) in
    let this = unless_at w.at (first (link_rules w.read (link_at s w.at))) rest in
    let ended = unless_at w.at (first (end_rules w.read)) (Ok (past_end s w)) in
    unless_at w.at (first (framing (link_or_end w.read.links) s w.at)) (if kind_at s w.at == end_kind.kind then ended else this)

-- "the counted places", then the rest
unfoldable pub read_places : ℕ → List ℕ → MapWalk → Answer MapWalk
read_places zero s w = unless_at 0 (first (total_rules w.read)) (read_links (length s) s w)
read_places (suc n) s w =
    let rest = read_places n s (past_place s w) in
    unless_at w.at (first (framing (place_kind ∷ []) s w.at ++ place_rules w.read (place_at s w.at))) rest

abbrev pub past_map_head : List ℕ → MapWalk
past_map_head s = record { at = after s 0; read = record { alignment = le16 s 4; total = le32 s 6; places = []; links = [] } }

unfoldable pub read_map_records : List ℕ → Answer MapWalk
read_map_records s =
    let count = le16 s 10 in
    let rest = read_places count s (past_map_head s) in
    unless_at 0 (first (framing (map_head_kind ∷ []) s 0 ++ map_head_rules (le16 s 4) (le32 s 6) count)) rest

-- the map of a list of bytes, or the refusal
unfoldable pub read_map : List ℕ → Answer Map
read_map s = and_then (read_map_records s) (λ w. unless_at w.at (first (nothing_after s w.at)) (Ok w.read))

-- Writing out

abbrev pub map_head_record : Map → List ℕ
map_head_record m = record_of map_head_kind (put16 m.alignment ++ (put32 m.total ++ put16 (length m.places)))

abbrev pub place_record : Place → List ℕ
place_record p = record_of place_kind (put16 p.identity ++ (put32 p.address ++ put32 p.size))

abbrev pub link_record : ℕ → List ℕ
link_record id = record_of link_kind (put16 id)

unfoldable pub write_out : Map → List ℕ
write_out m = map_head_record m ++ (joined place_record m.places ++ (joined link_record m.links ++ end_record))

-- The writer from bare values
pub record Bare : Type 0 where
  pub alignment : ℕ
  pub total : ℕ
  pub identities : List ℕ
  pub addresses : List ℕ
  pub sizes : List ℕ
  pub links : List ℕ

-- the places of three lists, as far as all go
unfoldable pub places_of : List ℕ → List ℕ → List ℕ → List Place
places_of [] al zl = []
places_of (i ∷ il) [] zl = []
places_of (i ∷ il) (a ∷ al) [] = []
places_of (i ∷ il) (a ∷ al) (z ∷ zl) = record { identity = i; address = a; size = z } ∷ places_of il al zl

-- "Lists of identities, addresses and sizes that differ in length, or have a length outside 1 to 64, give 6": lists that differ count for none
abbrev pub count_of : Bare → ℕ
count_of b =
    if length b.addresses == length b.identities && length b.sizes == length b.identities then length b.identities else 0

-- "A list of no links gives 3 at the place of the end record."
abbrev pub is_linked : List ℕ → Bool
is_linked [] = false
is_linked (l ∷ ls) = true

-- "the place being where the record would start"
unfoldable pub write_links : List ℕ → MapWalk → Answer Map
write_links [] w = unless_at w.at (first (is_linked w.read.links ⇒ 3 ∷ end_rules w.read)) (Ok w.read)
write_links (l ∷ ls) w =
    let rest = write_links ls (record { at = w.at + length (link_record l); read = plus_link w.read l }) in
    unless_at w.at (first (link_rules w.read l)) rest

unfoldable pub write_places : List Place → List ℕ → MapWalk → Answer Map
write_places [] links w = unless_at 0 (first (total_rules w.read)) (write_links links w)
write_places (p ∷ ps) links w =
    let rest = write_places ps links (record { at = w.at + length (place_record p); read = plus_place w.read p }) in
    unless_at w.at (first (place_rules w.read p)) rest

abbrev pub head_of : Bare → Map
head_of b = record { alignment = b.alignment; total = b.total; places = []; links = [] }

-- the map of bare values, or the refusal
unfoldable pub map_of_bare : Bare → Answer Map
map_of_bare b =
    let w : MapWalk = record { at = length (map_head_record (head_of b)); read = head_of b } in
    let rest = write_places (places_of b.identities b.addresses b.sizes) b.links w in
    unless_at 0 (first (map_head_rules b.alignment b.total (count_of b))) rest

-- a map's bytes put into a lent output: the answer is the number of bytes; with it, what the output holds afterwards. "Then an output too short: 18. Bytes past the image are kept."
pub record Written : Type 0 where
  pub answer : Answer ℕ
  pub output : List ℕ

abbrev pub into_output : Answer (List ℕ) → List ℕ → Written
into_output (Err r) output = record { answer = Err r; output = output }
into_output (Ok bytes) output = record { answer = Ok (length bytes); output = over bytes output }

abbrev pub long_enough : List ℕ → List ℕ → Answer (List ℕ)
long_enough output bytes = unless (first (length_rule (length bytes) output ∷ [])) (Ok bytes)

abbrev pub write_into : Answer Map → List ℕ → Written
write_into answer output = into_output (and_then answer (λ m. long_enough output (write_out m))) output

unfoldable pub write_map : Bare → List ℕ → Written
write_map b output = write_into (map_of_bare b) output

-- the map of a sheet's bytes: the sheet's refusals, 1 to 17, then 18
unfoldable pub build : List ℕ → List ℕ → Written
build s output = write_into (layout s) output
