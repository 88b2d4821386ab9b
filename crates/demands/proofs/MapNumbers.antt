-- Numbers and records at a place of a list of bytes: where a record was framed, the bytes that stand there are those that are written for what is read there. Assumes nothing.
use Rattle.std.proofs.Common.{◌≡◌, refl, sym, ap, ◌∙◌, ℕ, ◌+◌, ◌*◌, ◌/◌, ◌%◌, ◌<◌, ◌≤◌, nat_le, arith, Bool, true, false, ◌&&◌, ◌||◌, ◌==◌, List, [], ◌∷◌, ◌++◌, drop, length, slice_index, None, leb-true, eqb-true}
use Rattle.std.proofs.lemmas.List.{drop_more}
use Rattle.laws.specs.Tables.{none_passes}
use Rattle.laws.specs.Tests.{and_left, and_right}
use Rattle.paper.specs.Bytes.{has, le16, le32, put16, put32}
use Rattle.paper.specs.Maps.{place_at, link_at, place_record, link_record, link_or_end}
use Rattle.paper.specs.Records.{Kind, of_length, map_head_kind, link_kind, end_kind, end_record, record_of, kind_at, length_at, allowed, suits, framing}
use Rattle.paper.specs.Refusals.{first}
use Rattle.paper.specs.Words.{every}

-- each is a byte
abbrev pub EachByte : List ℕ → Type 0
EachByte s = (i : ℕ) → i < length s → slice_index s i < 256

-- Numbers and their bytes
bytes_of : (a b : ℕ) → a < 256 → b < 256 → put16 (a + 256 * b) ≡ a ∷ b ∷ []
bytes_of a b p q =
    let x : (a + 256 * b) % 256 ≡ a = omega arith in
    let y : (a + 256 * b) / 256 % 256 ≡ b = omega arith in
    rw (x, y) refl

halves_of : (x y : ℕ) → x < 65536 → y < 65536 → put32 (x + 65536 * y) ≡ put16 x ++ put16 y
halves_of x y p q =
    let a : (x + 65536 * y) % 256 ≡ x % 256 = omega arith in
    let b : (x + 65536 * y) / 256 % 256 ≡ x / 256 % 256 = omega arith in
    let c : (x + 65536 * y) / 65536 ≡ y = omega arith in
    rw (a, b, c) refl

pub number_of : (n : ℕ) → n % 256 + 256 * (n / 256 % 256) ≡ n % 65536
number_of n = omega arith

pub long_number_of : (n : ℕ) → n < 4294967296 → n % 65536 + 65536 * (n / 65536 % 65536) ≡ n
long_number_of n h = omega arith

-- the bytes of a map's head
abbrev pub head_bytes_of : ℕ → ℕ → ℕ → List ℕ
head_bytes_of alignment total count = record_of map_head_kind (put16 alignment ++ (put32 total ++ put16 count))

-- What is read is what stands there
module _ (s : List ℕ) (bytes : EachByte s) where
  pub le16_low : (at : ℕ) → at + 2 ≤ length s → le16 s at < 65536
  le16_low at h = let a = bytes at (omega arith) in let b = bytes (at + 1) (omega arith) in omega arith

  pub two : (at to : ℕ) → at + 2 ≡ to → to ≤ length s → drop at s ≡ put16 (le16 s at) ++ drop to s
  two at to e h =
      let q : at + 1 + 1 ≡ to = omega arith in
      drop_more s at 0 (omega arith)
      ∙ ap (λ (r : List ℕ). slice_index s at ∷ r) (drop_more s (at + 1) 0 (omega arith) ∙ ap (λ (n : ℕ). slice_index s (at + 1) ∷ drop n s) q)
      ∙ ap (λ (l : List ℕ). l ++ drop to s) (sym (bytes_of (slice_index s at) (slice_index s (at + 1)) (bytes at (omega arith)) (bytes (at + 1) (omega arith))))

  pub four : (at to : ℕ) → at + 4 ≡ to → to ≤ length s → drop at s ≡ put32 (le32 s at) ++ drop to s
  four at to e h =
      two at (at + 2) refl (omega arith)
      ∙ ap (λ (r : List ℕ). put16 (le16 s at) ++ r) (two (at + 2) to (omega arith) h)
      ∙ ap (λ (l : List ℕ). l ++ drop to s) (sym (halves_of (le16 s at) (le16 s (at + 2)) (le16_low at (omega arith)) (le16_low (at + 2) (omega arith))))

  -- a whole record of a place, of a link, and of the end
  pub place_bytes : (at : ℕ) → length_at s at ≡ 14 → kind_at s at ≡ 18 → at + 14 ≤ length s → drop at s ≡ place_record (place_at s at) ++ drop (at + 14) s
  place_bytes at l k h =
      let e : drop at s ≡ put16 (le16 s at) ++ (put16 (le16 s (at + 2)) ++ (put16 (le16 s (at + 4)) ++ (put32 (le32 s (at + 6)) ++ (put32 (le32 s (at + 10)) ++ drop (at + 14) s)))) =
      two at (at + 2) refl (omega arith)
      ∙ ap (λ (r : List ℕ). put16 (le16 s at) ++ r) (two (at + 2) (at + 4) (omega arith) (omega arith)
      ∙ ap (λ (r : List ℕ). put16 (le16 s (at + 2)) ++ r) (two (at + 4) (at + 6) (omega arith) (omega arith)
      ∙ ap (λ (r : List ℕ). put16 (le16 s (at + 4)) ++ r) (four (at + 6) (at + 10) (omega arith) (omega arith)
      ∙ ap (λ (r : List ℕ). put32 (le32 s (at + 6)) ++ r) (four (at + 10) (at + 14) (omega arith) h)))) in
      e ∙ ap (λ (n : ℕ). put16 n ++ (put16 (le16 s (at + 2)) ++ (put16 (le16 s (at + 4)) ++ (put32 (le32 s (at + 6)) ++ (put32 (le32 s (at + 10)) ++ drop (at + 14) s))))) l
      ∙ ap (λ (n : ℕ). put16 14 ++ (put16 n ++ (put16 (le16 s (at + 4)) ++ (put32 (le32 s (at + 6)) ++ (put32 (le32 s (at + 10)) ++ drop (at + 14) s))))) k

  pub link_bytes : (at : ℕ) → length_at s at ≡ 6 → kind_at s at ≡ 19 → at + 6 ≤ length s → drop at s ≡ link_record (link_at s at) ++ drop (at + 6) s
  link_bytes at l k h =
      let e : drop at s ≡ put16 (le16 s at) ++ (put16 (le16 s (at + 2)) ++ (put16 (le16 s (at + 4)) ++ drop (at + 6) s)) =
      two at (at + 2) refl (omega arith)
      ∙ ap (λ (r : List ℕ). put16 (le16 s at) ++ r) (two (at + 2) (at + 4) (omega arith) (omega arith)
      ∙ ap (λ (r : List ℕ). put16 (le16 s (at + 2)) ++ r) (two (at + 4) (at + 6) (omega arith) h)) in
      e ∙ ap (λ (n : ℕ). put16 n ++ (put16 (le16 s (at + 2)) ++ (put16 (le16 s (at + 4)) ++ drop (at + 6) s))) l
      ∙ ap (λ (n : ℕ). put16 6 ++ (put16 n ++ (put16 (le16 s (at + 4)) ++ drop (at + 6) s))) k

  pub end_bytes : (at : ℕ) → length_at s at ≡ 4 → kind_at s at ≡ 9 → at + 4 ≤ length s → drop at s ≡ end_record ++ drop (at + 4) s
  end_bytes at l k h =
      let e : drop at s ≡ put16 (le16 s at) ++ (put16 (le16 s (at + 2)) ++ drop (at + 4) s) =
      two at (at + 2) refl (omega arith) ∙ ap (λ (r : List ℕ). put16 (le16 s at) ++ r) (two (at + 2) (at + 4) (omega arith) h) in
      e ∙ ap (λ (n : ℕ). put16 n ++ (put16 (le16 s (at + 2)) ++ drop (at + 4) s)) l ∙ ap (λ (n : ℕ). put16 4 ++ (put16 n ++ drop (at + 4) s)) k

  pub head_bytes : length_at s 0 ≡ 12 → kind_at s 0 ≡ 17 → 12 ≤ length s → s ≡ head_bytes_of (le16 s 4) (le32 s 6) (le16 s 10) ++ drop 12 s
  head_bytes l k h =
      let e : s ≡ put16 (le16 s 0) ++ (put16 (le16 s 2) ++ (put16 (le16 s 4) ++ (put32 (le32 s 6) ++ (put16 (le16 s 10) ++ drop 12 s)))) =
      two 0 2 refl (omega arith)
      ∙ ap (λ (r : List ℕ). put16 (le16 s 0) ++ r) (two 2 4 refl (omega arith)
      ∙ ap (λ (r : List ℕ). put16 (le16 s 2) ++ r) (two 4 6 refl (omega arith)
      ∙ ap (λ (r : List ℕ). put16 (le16 s 4) ++ r) (four 6 10 refl (omega arith)
      ∙ ap (λ (r : List ℕ). put32 (le32 s 6) ++ r) (two 10 12 refl h)))) in
      e ∙ ap (λ (n : ℕ). put16 n ++ (put16 (le16 s 2) ++ (put16 (le16 s 4) ++ (put32 (le32 s 6) ++ (put16 (le16 s 10) ++ drop 12 s))))) l
      ∙ ap (λ (n : ℕ). put16 12 ++ (put16 n ++ (put16 (le16 s 4) ++ (put32 (le32 s 6) ++ (put16 (le16 s 10) ++ drop 12 s))))) k

-- A framed record of a kind of one length
pub record Framed (k n : ℕ) (s : List ℕ) (at : ℕ) : Type 0 where
  pub kind : kind_at s at ≡ k
  pub long : length_at s at ≡ n
  pub whole : at + n ≤ length s

-- the four checks passed
record Passed (here : List Kind) (s : List ℕ) (at : ℕ) : Type 0 where
  allows : allowed (kind_at s at) here ≡ true
  suited : suits (kind_at s at) (length_at s at) here ≡ true
  room : at + length_at s at ≤ length s

passed : (here : List Kind) (s : List ℕ) (at : ℕ) → first (framing here s at) ≡ None → Passed here s at
unfolding every
passed here s at e =
    let l = length_at s at in
    let some = has s at 4 in
    let allows = allowed (kind_at s at) here in
    let suited = suits (kind_at s at) l here in
    let all = has s at l in
    let tests : (some && (allows && (suited && (all && true)))) ≡ true = none_passes (framing here s at) e in
    let behind_some = and_right some (allows && (suited && (all && true))) tests in
    let behind_kind = and_right allows (suited && (all && true)) behind_some in
    record {
      allows = and_left allows (suited && (all && true)) behind_some;
      suited = and_left suited (all && true) behind_kind;
      room = leb-true (at + l) (length s) (and_left all true (and_right suited (all && true) behind_kind));
    }

one_left : (a b : Bool) → (a || false) ≡ true → a ≡ true
one_left true b e = refl
one_left false b e = e

of_one_length : (k n : ℕ) (s : List ℕ) (at : ℕ) → Passed (of_length k n ∷ []) s at → Framed k n s at
of_one_length k n s at p =
    let l = length_at s at in
    let same = one_left (kind_at s at == k) true p.allows in
    let suited = and_right (kind_at s at == k) (nat_le n l && nat_le l n) (one_left ((kind_at s at == k) && (nat_le n l && nat_le l n)) true p.suited) in
    let low = leb-true n l (and_left (nat_le n l) (nat_le l n) suited) in
    let high = leb-true l n (and_right (nat_le n l) (nat_le l n) suited) in
    let room = p.room in
    record { kind = eqb-true (kind_at s at) k same; long = omega arith; whole = omega arith }

pub framed_alone : (k n : ℕ) (s : List ℕ) (at : ℕ) → first (framing (of_length k n ∷ []) s at) ≡ None → Framed k n s at
framed_alone k n s at e = of_one_length k n s at (passed (of_length k n ∷ []) s at e)

-- a link, or the end behind some link
pub framed_link : (ls : List ℕ) (s : List ℕ) (at : ℕ) → first (framing (link_or_end ls) s at) ≡ None → (kind_at s at == 9) ≡ false → Framed 19 6 s at
framed_link [] s at e f = framed_alone 19 6 s at e
framed_link (l ∷ ls) s at e f =
    let p = passed (link_kind ∷ end_kind ∷ []) s at e in
    of_one_length 19 6 s at (record { allows = rw f at p.allows; suited = rw f at p.suited; room = p.room })

pub framed_end : (l : ℕ) (ls : List ℕ) (s : List ℕ) (at : ℕ) → first (framing (link_or_end (l ∷ ls)) s at) ≡ None → (kind_at s at == 9) ≡ true → Framed 9 4 s at
framed_end l ls s at e f =
    let p = passed (link_kind ∷ end_kind ∷ []) s at e in
    let k : kind_at s at ≡ 9 = eqb-true (kind_at s at) 9 f in
    let q = p.suited in
    of_one_length 9 4 s at (record { allows = rw k refl; suited = rw k (rw k at q); room = p.room })

pub no_end_yet : (s : List ℕ) (at : ℕ) → first (framing (link_or_end []) s at) ≡ None → (kind_at s at == 9) ≡ true → ⊥
no_end_yet s at e f =
    let k : kind_at s at ≡ 9 = eqb-true (kind_at s at) 9 f in
    let r = (framed_alone 19 6 s at e).kind in
    omega arith
