-- The kind among those that may stand here: what a loop learns of it, and that it decides the paper's tests of kind and length.
use Rattle.std.proofs.Common.{◌≡◌, refl, ap, sym, ◌∙◌, subst, ℕ, ◌+◌, ◌<◌, ◌≤◌, le-leb, Bool, true, false, ◌&&◌, ◌||◌, ◌⊎◌, inl, inr, nat_le, ◌==◌, if◌then◌else◌, List, [], ◌∷◌, map, length, drop, slice_index_or, Some, None, eqb-true, eq-eqb}
use Rattle.std.proofs.lemmas.Bool.{lt-leb}
use Rattle.std.proofs.lemmas.List.{drop_more}
use Rattle.std.proofs.Math.ListN.{drop_of_length-le}
use Rattle.std.proofs.lemmas.Option.{none-some}
use Rattle.frame.specs.Framing.{kind_value, kind_among, record_value, record_at}
use denote.Enum.Bare.{sameb}
use Rattle.frame.specs.contracts.kind.Kind.{the_type}
use Rattle.frame.specs.declared.kind.Kind.{Kind}
use Rattle.frame.specs.declared.record.Record.{Record}
use Rattle.laws.specs.Tests.{and_left, and_right, or_cases, same_test, not_passed}
use Rattle.paper.specs.Bytes.{has}
use Rattle.paper.specs.Refusals.{first}
use Rattle.paper.specs.Records.{framing, kind_at, length_at, after, allowed, suits, head_kind, task_kind, bar_kind, end_kind, map_head_kind, place_kind, link_kind}
use Rattle.frame.specs.declared.kind.Kind.TheVariants as kind
use Rattle.paper.specs.Records

-- as a loop goes over the kinds
pub among_found : (ks : List Kind) (i n : ℕ) (d : Kind) → i < length ks → n ≡ (kind_value (slice_index_or ks i d)).kind → kind_among (drop i ks) n ≡ Some (slice_index_or ks i d)
unfolding kind_among
among_found ks i n d h e = rw (drop_more ks i d h, eq-eqb n (kind_value (slice_index_or ks i d)).kind e) refl

pub among_passed : (ks : List Kind) (i n : ℕ) (d : Kind) → i < length ks → (n ≡ (kind_value (slice_index_or ks i d)).kind → ⊥) → kind_among (drop (i + 1) ks) n ≡ kind_among (drop i ks) n
unfolding kind_among
among_passed ks i n d h e =
    let q = not_passed (n == (kind_value (slice_index_or ks i d)).kind) (λ t. e (eqb-true n (kind_value (slice_index_or ks i d)).kind t)) in
    rw (drop_more ks i d h, q) refl

pub among_done : (ks : List Kind) (i n : ℕ) → length ks ≤ i → kind_among (drop i ks) n ≡ None
unfolding kind_among
among_done ks i n h = rw (drop_of_length-le ks h) refl

-- a kind's number pins the lengths that suit it
lengths : ℕ → Records.Kind
lengths n =
    if n == 1 then head_kind
    else if n == 2 then task_kind
    else if n == 3 then bar_kind
    else if n == 9 then end_kind
    else if n == 17 then map_head_kind
    else if n == 18 then place_kind
    else link_kind

numbered : (k : Kind) → lengths (kind_value k).kind ≡ kind_value k
unfolding lengths
numbered kind.Head = refl
numbered kind.Task = refl
numbered kind.Bar = refl
numbered kind.End = refl
numbered kind.MapHead = refl
numbered kind.Place = refl
numbered kind.Link = refl

same_number : (a b : Kind) → (kind_value a).kind ≡ (kind_value b).kind → kind_value a ≡ kind_value b
same_number a b e = sym (numbered a) ∙ (ap lengths e ∙ numbered b)

abbrev pub fits : Kind → ℕ → Bool
fits k m = nat_le (kind_value k).shortest m && nat_le m (kind_value k).longest

-- a record that suits some kinds suits each of them that has its number
suits_fits : (k : Kind) (ks : List Kind) (m : ℕ) → suits (kind_value k).kind m (map kind_value ks) ≡ true → fits k m ≡ true
suits_fits k [] m e = cc
suits_fits k (b ∷ ks) m e =
    go (or_cases ((kind_value k).kind == (kind_value b).kind && fits b m) (suits (kind_value k).kind m (map kind_value ks)) e) (suits_fits k ks m)
  where
    go : (((kind_value k).kind == (kind_value b).kind && fits b m) ≡ true) ⊎ (suits (kind_value k).kind m (map kind_value ks) ≡ true)
        → (suits (kind_value k).kind m (map kind_value ks) ≡ true → fits k m ≡ true) → fits k m ≡ true
    go (inl h) r =
        let s = same_number k b (eqb-true (kind_value k).kind (kind_value b).kind (and_left ((kind_value k).kind == (kind_value b).kind) (fits b m) h)) in
        rw s (and_right ((kind_value k).kind == (kind_value b).kind) (fits b m) h)
    go (inr h) r = r h

-- no kind has the number: it is not allowed
pub none_allowed : (ks : List Kind) (n : ℕ) → kind_among ks n ≡ None → allowed n (map kind_value ks) ≡ false
unfolding kind_among
none_allowed [] n e = refl
none_allowed (b ∷ ks) n e = go (n == (kind_value b).kind) refl e (none_allowed ks n)
  where
    go : (t : Bool) → (n == (kind_value b).kind) ≡ t → (if t then Some b else kind_among ks n) ≡ None
        → (kind_among ks n ≡ None → allowed n (map kind_value ks) ≡ false) → (n == (kind_value b).kind || allowed n (map kind_value ks)) ≡ false
    go true q e r = absurd (none-some b (sym e))
    go false q e r = rw q (r e)

-- the kind that has the number: it is allowed, and its lengths are those that suit
pub record Among (ks : List Kind) (n : ℕ) (k : Kind) : Type 0 where
  pub number : (kind_value k).kind ≡ n
  pub allows : allowed n (map kind_value ks) ≡ true
  pub lengths : (m : ℕ) → suits n m (map kind_value ks) ≡ fits k m

at_front : (b : Kind) (ks : List Kind) → Among (b ∷ ks) (kind_value b).kind b
at_front b ks =
    let same = eq-eqb (kind_value b).kind (kind_value b).kind refl in
    record { number = refl; allows = rw same refl; lengths = λ m. rw same (same_test (fits b m || suits (kind_value b).kind m (map kind_value ks)) (fits b m) (λ e. go m (or_cases (fits b m) (suits (kind_value b).kind m (map kind_value ks)) e)) (λ e. rw e refl)) }
  where
    go : (m : ℕ) → (fits b m ≡ true) ⊎ (suits (kind_value b).kind m (map kind_value ks) ≡ true) → fits b m ≡ true
    go m (inl h) = h
    go m (inr h) = suits_fits b ks m h

some_same : {A : Type 0} (a b : A) → Some a ≡ Some b → a ≡ b
some_same a b e = cc

pub some_allowed : (ks : List Kind) (n : ℕ) (k : Kind) → kind_among ks n ≡ Some k → Among ks n k
unfolding kind_among
some_allowed [] n k e = absurd (none-some k e)
some_allowed (b ∷ ks) n k e = go (n == (kind_value b).kind) refl e (some_allowed ks n k)
  where
    go : (t : Bool) → (n == (kind_value b).kind) ≡ t → (if t then Some b else kind_among ks n) ≡ Some k → (kind_among ks n ≡ Some k → Among ks n k)
        → Among (b ∷ ks) n k
    go true q e r =
        subst (λ (x : Kind). Among (b ∷ ks) n x) (some_same b k e)
        (subst (λ (x : ℕ). Among (b ∷ ks) x b) (sym (eqb-true n (kind_value b).kind q)) (at_front b ks))
    go false q e r = let s = r e in record { number = s.number; allows = rw q s.allows; lengths = λ m. rw q (s.lengths m) }

-- The four checks of a record, each where those before it pass.
module _ (here : List Records.Kind) (s : List ℕ) (at : ℕ) where
  pub runs_out : has s at 4 ≡ false → first (framing here s at) ≡ Some 1
  runs_out a = rw a refl

  pub not_here : has s at 4 ≡ true → allowed (kind_at s at) here ≡ false → first (framing here s at) ≡ Some 3
  not_here a b = rw (a, b) refl

  pub unsuited : has s at 4 ≡ true → allowed (kind_at s at) here ≡ true → suits (kind_at s at) (length_at s at) here ≡ false → first (framing here s at) ≡ Some 2
  unsuited a b c = rw (a, b, c) refl

  pub cut_off : has s at 4 ≡ true → allowed (kind_at s at) here ≡ true → suits (kind_at s at) (length_at s at) here ≡ true → has s at (length_at s at) ≡ false
      → first (framing here s at) ≡ Some 1
  cut_off a b c d = rw (a, b, c, d) refl

  pub whole : has s at 4 ≡ true → allowed (kind_at s at) here ≡ true → suits (kind_at s at) (length_at s at) here ≡ true → has s at (length_at s at) ≡ true
      → first (framing here s at) ≡ None
  whole a b c d = rw (a, b, c, d) refl

  pub has_room : (n : ℕ) → at + n ≤ length s → has s at n ≡ true
  has_room n h = le-leb (at + n) (length s) h

  pub no_room : (n : ℕ) → length s < at + n → has s at n ≡ false
  no_room n h = lt-leb (at + n) (length s) h

  pub same_record : (r : Record) → (kind_value r.kind).kind ≡ kind_at s at → r.end ≡ after s at → record_value r ≡ record_at s at
  same_record r a b = rw (a, b) refl

-- comparing a kind with the end's compares its number
pub same_as_end : (k : Kind) → sameb the_type k kind.End ≡ ((kind_value k).kind == end_kind.kind)
same_as_end kind.Head = refl
same_as_end kind.Task = refl
same_as_end kind.Bar = refl
same_as_end kind.End = refl
same_as_end kind.MapHead = refl
same_as_end kind.Place = refl
same_as_end kind.Link = refl
