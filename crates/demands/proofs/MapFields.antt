-- Where a number or a record was written, what is read there is what was written. Assumes nothing.
use Rattle.std.proofs.Common.{◌≡◌, refl, sym, ap, ap₂, ◌∙◌, ℕ, suc, ◌+◌, ◌*◌, ◌/◌, ◌%◌, ◌<◌, ◌≤◌, arith, List, [], ◌∷◌, ◌++◌, drop, length, slice_index, None, length-drop}
use Rattle.std.proofs.lemmas.List.{drop-drop, get_or-drop}
use Rattle.demands.proofs.MapNumbers.{number_of, long_number_of, head_bytes_of}
use Rattle.frame.proofs.Framing.{whole, has_room}
use Rattle.paper.specs.Bytes.{le16, le32, put16, put32}
use Rattle.paper.specs.Maps.{place_at, link_at, place_record, link_record, link_or_end}
use Rattle.paper.specs.Places.{Place}
use Rattle.paper.specs.Records.{map_head_kind, place_kind, link_kind, end_kind, end_record, kind_at, length_at, after, framing}
use Rattle.paper.specs.Refusals.{first}

-- A byte at a place, and what is behind it
record Byte (s : List ℕ) (at x : ℕ) (rest : List ℕ) : Type 0 where
  here : slice_index s at ≡ x
  behind : drop (at + 1) s ≡ rest
  room : at < length s

byte_here : (s : List ℕ) (at x : ℕ) (rest : List ℕ) → drop at s ≡ x ∷ rest → Byte s at x rest
byte_here s at x rest e =
    let z : at ≡ at + 0 = omega arith in
    let l = length-drop at s in
    let k : length (drop at s) ≡ suc (length rest) = ap length e in
    record {
      here = ap (λ (k : ℕ). slice_index s k) z ∙ sym (get_or-drop at s 0 0) ∙ ap (λ (l : List ℕ). slice_index l 0) e;
      behind = sym (drop-drop 1 at s) ∙ ap (λ (l : List ℕ). drop 1 l) e;
      room = omega arith;
    }

-- A number of two bytes, and one of four
pub record Two (s : List ℕ) (at to n : ℕ) (rest : List ℕ) : Type 0 where
  pub number : le16 s at ≡ n % 65536
  pub behind : drop to s ≡ rest
  pub room : to ≤ length s

pub record Four (s : List ℕ) (at to n : ℕ) (rest : List ℕ) : Type 0 where
  pub number : le32 s at ≡ n
  pub behind : drop to s ≡ rest
  pub room : to ≤ length s

pub two_here : (s : List ℕ) (at to n : ℕ) (rest : List ℕ) → at + 2 ≡ to → drop at s ≡ put16 n ++ rest → Two s at to n rest
two_here s at to n rest q e =
    let a = byte_here s at (n % 256) (n / 256 % 256 ∷ rest) e in
    let b = byte_here s (at + 1) (n / 256 % 256) rest a.behind in
    let room = b.room in
    let p : at + 1 + 1 ≡ to = omega arith in
    record {
      number = ap₂ (λ (x y : ℕ). x + 256 * y) a.here b.here ∙ number_of n;
      behind = ap (λ (k : ℕ). drop k s) (sym p) ∙ b.behind;
      room = omega arith;
    }

pub four_here : (s : List ℕ) (at to n : ℕ) (rest : List ℕ) → n < 4294967296 → at + 4 ≡ to → drop at s ≡ put32 n ++ rest → Four s at to n rest
four_here s at to n rest h q e =
    let a = two_here s at (at + 2) n (put16 (n / 65536) ++ rest) refl e in
    let b = two_here s (at + 2) to (n / 65536) rest (omega arith) a.behind in
    record {
      number = ap₂ (λ (x y : ℕ). x + 65536 * y) a.number b.number ∙ long_number_of n h;
      behind = b.behind;
      room = b.room;
    }

-- A place's record
pub record PlaceHere (s : List ℕ) (at : ℕ) (p : Place) (rest : List ℕ) : Type 0 where
  pub framed : first (framing (place_kind ∷ []) s at) ≡ None
  pub read : place_at s at ≡ p
  pub behind : drop (after s at) s ≡ rest

place_from : (s : List ℕ) (at : ℕ) (p : Place) (rest : List ℕ) → length_at s at ≡ 14 → kind_at s at ≡ 18 → le16 s (at + 4) ≡ p.identity → le32 s (at + 6) ≡ p.address
    → le32 s (at + 10) ≡ p.size → at + 14 ≤ length s → drop (at + 14) s ≡ rest → PlaceHere s at p rest
place_from s at p rest l k i a z room e =
    record {
      framed = whole (place_kind ∷ []) s at (has_room (place_kind ∷ []) s at 4 (omega arith)) (rw k refl) (rw (k, l) refl) (rw l (has_room (place_kind ∷ []) s at 14 room));
      read = ap (λ (x : ℕ). record { identity = x; address = le32 s (at + 6); size = le32 s (at + 10) }) i
          ∙ ap₂ (λ (x y : ℕ). record { identity = p.identity; address = x; size = y }) a z;
      behind = ap (λ (x : ℕ). drop (at + x) s) l ∙ e;
    }

pub place_here : (s : List ℕ) (at : ℕ) (p : Place) (rest : List ℕ) → p.identity < 65536 → p.address < 4294967296 → p.size < 4294967296
    → drop at s ≡ place_record p ++ rest → PlaceHere s at p rest
place_here s at p rest hi ha hz e =
    let l = two_here s at (at + 2) 14 _ refl e in
    let k = two_here s (at + 2) (at + 4) 18 _ (omega arith) l.behind in
    let i = two_here s (at + 4) (at + 6) p.identity _ (omega arith) k.behind in
    let a = four_here s (at + 6) (at + 10) p.address _ ha (omega arith) i.behind in
    let z = four_here s (at + 10) (at + 14) p.size rest hz (omega arith) a.behind in
    let id : p.identity % 65536 ≡ p.identity = omega arith in
    place_from s at p rest l.number k.number (i.number ∙ id) a.number z.number z.room z.behind

-- A link's record
pub record LinkHere (s : List ℕ) (at n : ℕ) (rest : List ℕ) : Type 0 where
  pub kind : kind_at s at ≡ 19
  pub long : length_at s at ≡ 6
  pub room : at + 6 ≤ length s
  pub read : link_at s at ≡ n
  pub behind : drop (after s at) s ≡ rest

pub link_here : (s : List ℕ) (at n : ℕ) (rest : List ℕ) → n < 65536 → drop at s ≡ link_record n ++ rest → LinkHere s at n rest
link_here s at n rest h e =
    let l = two_here s at (at + 2) 6 _ refl e in
    let k = two_here s (at + 2) (at + 4) 19 _ (omega arith) l.behind in
    let i = two_here s (at + 4) (at + 6) n rest (omega arith) k.behind in
    let id : n % 65536 ≡ n = omega arith in
    record {
      kind = k.number;
      long = l.number;
      room = i.room;
      read = i.number ∙ id;
      behind = ap (λ (x : ℕ). drop (at + x) s) l.number ∙ i.behind;
    }

pub link_framed : (ls : List ℕ) (s : List ℕ) (at : ℕ) → kind_at s at ≡ 19 → length_at s at ≡ 6 → at + 6 ≤ length s → first (framing (link_or_end ls) s at) ≡ None
link_framed [] s at k l h =
    whole (link_kind ∷ []) s at (has_room (link_kind ∷ []) s at 4 (omega arith)) (rw k refl) (rw (k, l) refl) (rw l (has_room (link_kind ∷ []) s at 6 h))
link_framed (x ∷ xs) s at k l h =
    whole (link_kind ∷ end_kind ∷ []) s at (has_room (link_kind ∷ end_kind ∷ []) s at 4 (omega arith)) (rw k refl) (rw (k, l) refl)
    (rw l (has_room (link_kind ∷ end_kind ∷ []) s at 6 h))

-- The end record, with nothing behind it
pub record EndHere (s : List ℕ) (at : ℕ) : Type 0 where
  pub kind : kind_at s at ≡ 9
  pub framed : (l : ℕ) (ls : List ℕ) → first (framing (link_or_end (l ∷ ls)) s at) ≡ None
  pub last : length s ≤ after s at

pub end_here : (s : List ℕ) (at : ℕ) → drop at s ≡ end_record → EndHere s at
end_here s at e =
    let l = two_here s at (at + 2) 4 _ refl e in
    let k = two_here s (at + 2) (at + 4) 9 [] (omega arith) l.behind in
    let room = k.room in
    let n = length-drop (at + 4) s in
    let none : length (drop (at + 4) s) ≡ 0 = ap length k.behind in
    let long = l.number in
    record {
      kind = k.number;
      framed = λ l' ls.
          whole (link_kind ∷ end_kind ∷ []) s at (has_room (link_kind ∷ end_kind ∷ []) s at 4 (omega arith)) (rw k.number refl) (rw (k.number, l.number) refl)
          (rw l.number (has_room (link_kind ∷ end_kind ∷ []) s at 4 room));
      last = omega arith;
    }

-- A map's head
pub record HeadHere (s : List ℕ) (alignment total count : ℕ) (rest : List ℕ) : Type 0 where
  pub framed : first (framing (map_head_kind ∷ []) s 0) ≡ None
  pub aligned : le16 s 4 ≡ alignment
  pub reaches : le32 s 6 ≡ total
  pub counted : le16 s 10 ≡ count
  pub behind : drop (after s 0) s ≡ rest

pub head_here : (s : List ℕ) (alignment total count : ℕ) (rest : List ℕ) → alignment < 65536 → total < 4294967296 → count < 65536
    → s ≡ head_bytes_of alignment total count ++ rest → HeadHere s alignment total count rest
head_here s alignment total count rest ha ht hc e =
    let l = two_here s 0 2 12 _ refl e in
    let k = two_here s 2 4 17 _ refl l.behind in
    let a = two_here s 4 6 alignment _ refl k.behind in
    let t = four_here s 6 10 total _ ht refl a.behind in
    let c = two_here s 10 12 count rest refl t.behind in
    let room = c.room in
    let x : alignment % 65536 ≡ alignment = omega arith in
    let y : count % 65536 ≡ count = omega arith in
    let long = l.number in
    let next : after s 0 ≡ 12 = omega arith in
    record {
      framed = whole (map_head_kind ∷ []) s 0 (has_room (map_head_kind ∷ []) s 0 4 (omega arith)) (rw k.number refl) (rw (k.number, l.number) refl) (rw l.number (has_room (map_head_kind ∷ []) s 0 12 room));
      aligned = a.number ∙ x;
      reaches = t.number;
      counted = c.number ∙ y;
      behind = ap (λ (n : ℕ). drop n s) next ∙ c.behind;
    }
