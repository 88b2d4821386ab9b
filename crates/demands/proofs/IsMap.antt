-- What a map has to be, in plain terms, and that the rules of its records say this: each place at its turn, each link at its turn.
use Rattle.std.specs.List.{All}
use Rattle.std.proofs.Common.{◌≡◌, refl, sym, ap, ◌∙◌, ℕ, ◌<◌, ◌≤◌, nat_le, nat_lt, arith, Bool, true, false, not, ◌&&◌, ◌==◌, List, [], ◌∷◌, ◌++◌, length, None, leb-true, ltb-true, eqb-true, le-leb, lt-ltb, eq-eqb}
use borrow.Author.Tests.{eqb-false}
use Rattle.std.proofs.lemmas.Bool.{not-true}
use Rattle.laws.specs.Lists.{among_snoc}
use Rattle.laws.specs.Rounding.{IsMultiple, multiple_test, test_multiple}
use Rattle.laws.specs.Tests.{and_left, and_right, and_both, or_not_left, or_not_right, or_neither, not_passed}
use Rattle.paper.specs.Limits.{most_tasks, most_identity, most_area, most_size, is_alignment}
use Rattle.paper.specs.Maps.{end_of, no_place, identities, place_of, greatest_end, linked_end, is_multiple, is_place, place_rules, is_link, link_rules}
use Rattle.paper.specs.Places.{Place, Map}
use Rattle.paper.specs.Refusals.{◌⇒◌, first}
use Rattle.paper.specs.Words.{among, last, named}

-- identities above a number, and strictly rising
abbrev pub RisingFrom : ℕ → List Place → Type 0
RisingFrom low [] = Unit {0}
RisingFrom low (p ∷ ps) = (low < p.identity) × RisingFrom p.identity ps

-- a place of a map of an alignment and a total
pub record IsPlace (alignment total : ℕ) (p : Place) : Type 0 where
  pub identity : p.identity ≤ most_identity
  pub address : IsMultiple alignment p.address
  pub size : IsMultiple alignment p.size
  pub small : p.size ≤ most_size
  pub inside : end_of p ≤ total

-- links that each name a place, the first one at an address, each further one at the end of the one before, the last one up to an end
abbrev pub Chained : List Place → ℕ → List ℕ → ℕ → Type 0
Chained ps from [] to = from ≡ to
Chained ps from (l ∷ ls) to = (among l (identities ps) ≡ true) × ((place_of ps l).address ≡ from) × Chained ps (end_of (place_of ps l)) ls to

-- none stands twice
abbrev pub NoneTwice : List ℕ → Type 0
NoneTwice [] = Unit {0}
NoneTwice (l ∷ ls) = (among l ls ≡ false) × NoneTwice ls

-- a map: a listed alignment, 1 to 64 places with identities nonzero and strictly rising, a total that is their greatest end and no greater than an area may be, and one link or more, none twice, which lead from address 0 to the total without a gap
pub record IsMap (m : Map) : Type 0 where
  pub aligned : is_alignment m.alignment ≡ true
  pub room : m.total ≤ most_area
  pub some : 0 < length m.places
  pub few : length m.places ≤ most_tasks
  pub rising : RisingFrom 0 m.places
  pub places : All (IsPlace m.alignment m.total) m.places
  pub greatest : m.total ≡ greatest_end m.places
  pub linked : 0 < length m.links
  pub chain : Chained m.places 0 m.links m.total
  pub once : NoneTwice m.links

-- a table of one rule
pub alone_passes : (b : Bool) (n : ℕ) → first (b ⇒ n ∷ []) ≡ None → b ≡ true
alone_passes true n e = refl
alone_passes false n e = cc

pub passes_alone : (b : Bool) (n : ℕ) → b ≡ true → first (b ⇒ n ∷ []) ≡ None
passes_alone b n e = rw e refl

-- The rule of a place: its identity is above that of the last one, and it is a place, as far as its identity goes into a record
pub record PlaceKept (m : Map) (p : Place) : Type 0 where
  pub above : (last no_place m.places).identity < p.identity
  pub is : p.identity ≤ most_identity → IsPlace m.alignment m.total p

pub place_kept : (m : Map) (p : Place) → first (place_rules m p) ≡ None → PlaceKept m p
place_kept m p e =
    let a = nat_lt (last no_place m.places).identity p.identity in
    let b = is_multiple m.alignment p.address in
    let c = is_multiple m.alignment p.size in
    let d = nat_le p.size most_size in
    let f = nat_le (end_of p) m.total in
    let t1 : (a && (b && (c && (d && f)))) ≡ true = alone_passes (is_place m p) 19 e in
    let t2 = and_right a (b && (c && (d && f))) t1 in
    let t3 = and_right b (c && (d && f)) t2 in
    let t4 = and_right c (d && f) t3 in
    record {
      above = ltb-true (last no_place m.places).identity p.identity (and_left a (b && (c && (d && f))) t1);
      is = λ h.
          record {
            identity = h;
            address = test_multiple m.alignment p.address (and_left b (c && (d && f)) t2);
            size = test_multiple m.alignment p.size (and_left c (d && f) t3);
            small = leb-true p.size most_size (and_left d f t4);
            inside = leb-true (end_of p) m.total (and_right d f t4);
          };
    }

pub kept_place : (m : Map) (p : Place) → (last no_place m.places).identity < p.identity → IsPlace m.alignment m.total p → first (place_rules m p) ≡ None
kept_place m p h i =
    let a = nat_lt (last no_place m.places).identity p.identity in
    let b = is_multiple m.alignment p.address in
    let c = is_multiple m.alignment p.size in
    let d = nat_le p.size most_size in
    let f = nat_le (end_of p) m.total in
    passes_alone (is_place m p) 19
    (and_both a (b && (c && (d && f))) (lt-ltb (last no_place m.places).identity p.identity h)
    (and_both b (c && (d && f)) (multiple_test m.alignment p.address i.address)
    (and_both c (d && f) (multiple_test m.alignment p.size i.size)
    (and_both d f (le-leb p.size most_size i.small) (le-leb (end_of p) m.total i.inside)))))

-- The rule of a link: it names a place, none of the links before it is the same, and it goes on where they end
pub record LinkKept (m : Map) (l : ℕ) : Type 0 where
  pub names : among l (identities m.places) ≡ true
  pub new : among l m.links ≡ false
  pub goes_on : (place_of m.places l).address ≡ linked_end m

pub link_kept : (m : Map) (l : ℕ) → first (link_rules m l) ≡ None → LinkKept m l
link_kept m l e =
    let a = among l (identities m.places) in
    let b = not (among l m.links) in
    let c = (place_of m.places l).address == linked_end m in
    let t1 : (a && (b && c)) ≡ true = alone_passes (is_link m l) 21 e in
    let t2 = and_right a (b && c) t1 in
    record {
      names = and_left a (b && c) t1;
      new = not-true (among l m.links) (and_left b c t2);
      goes_on = eqb-true (place_of m.places l).address (linked_end m) (and_right b c t2);
    }

pub kept_link : (m : Map) (l : ℕ) → LinkKept m l → first (link_rules m l) ≡ None
kept_link m l k =
    let a = among l (identities m.places) in
    let b = not (among l m.links) in
    let c = (place_of m.places l).address == linked_end m in
    passes_alone (is_link m l) 21
    (and_both a (b && c) k.names (and_both b c (ap not k.new) (eq-eqb (place_of m.places l).address (linked_end m) k.goes_on)))

-- None twice, as the links come: none is among those before it
abbrev pub Apart : List ℕ → List ℕ → Type 0
Apart before [] = Unit {0}
Apart before (l ∷ ls) = (among l before ≡ false) × Apart (before ++ (l ∷ [])) ls

abbrev pub NoneOf : List ℕ → List ℕ → Type 0
NoneOf before [] = Unit {0}
NoneOf before (l ∷ ls) = (among l before ≡ false) × NoneOf before ls

none_less : (before : List ℕ) (x : ℕ) (ls : List ℕ) → NoneOf (before ++ (x ∷ [])) ls → NoneOf before ls
none_less before x [] h = tt
none_less before x (l ∷ ls) h = (or_not_left (among l before) (l == x) (sym (among_snoc l before x) ∙ h.0), none_less before x ls h.1)

other_way : (x y : ℕ) → (x == y) ≡ false → (y == x) ≡ false
other_way x y e = not_passed (y == x) (λ q. eqb-false x y e (sym (eqb-true y x q)))

none_other : (before : List ℕ) (x : ℕ) (ls : List ℕ) → NoneOf (before ++ (x ∷ [])) ls → among x ls ≡ false
unfolding among
none_other before x [] h = refl
none_other before x (l ∷ ls) h =
    or_neither (x == l) (among x ls) (other_way l x (or_not_right (among l before) (l == x) (sym (among_snoc l before x) ∙ h.0))) (none_other before x ls h.1)

none_more : (before : List ℕ) (x : ℕ) (ls : List ℕ) → NoneOf before ls → among x ls ≡ false → NoneOf (before ++ (x ∷ [])) ls
unfolding among
none_more before x [] h e = tt
none_more before x (l ∷ ls) h e =
    (among_snoc l before x ∙ or_neither (among l before) (l == x) h.0 (other_way x l (or_not_left (x == l) (among x ls) e)), none_more before x ls h.1 (or_not_right (x == l) (among x ls) e))

apart_none : (before ls : List ℕ) → Apart before ls → NoneOf before ls
apart_none before [] h = tt
apart_none before (l ∷ ls) h = (h.0, none_less before l ls (apart_none (before ++ (l ∷ [])) ls h.1))

pub apart_once : (before ls : List ℕ) → Apart before ls → NoneTwice ls
apart_once before [] h = tt
apart_once before (l ∷ ls) h = (none_other before l ls (apart_none (before ++ (l ∷ [])) ls h.1), apart_once (before ++ (l ∷ [])) ls h.1)

once_apart : (before ls : List ℕ) → NoneTwice ls → NoneOf before ls → Apart before ls
once_apart before [] h k = tt
once_apart before (l ∷ ls) h k = (k.0, once_apart (before ++ (l ∷ [])) ls h.1 (none_more before l ls k.1 h.0))

none_of_none : (ls : List ℕ) → NoneOf [] ls
unfolding among
none_of_none [] = tt
none_of_none (l ∷ ls) = (refl, none_of_none ls)

pub once_apart_first : (ls : List ℕ) → NoneTwice ls → Apart [] ls
once_apart_first ls h = once_apart [] ls h (none_of_none ls)

-- An identity that is not above what identities rise from names no place. So no link ends at 0
pub names_none : (ps : List Place) (low id : ℕ) → id ≤ low → RisingFrom low ps → place_of ps id ≡ no_place
unfolding named
names_none [] low id h r = refl
names_none (p ∷ ps) low id h r =
    let above = r.0 in
    let other : (p.identity == id) ≡ false = not_passed (p.identity == id) (λ q. let e = eqb-true p.identity id q in omega arith) in
    rw other (names_none ps p.identity id (omega arith) r.1)

pub no_link_end : (ps : List Place) → RisingFrom 0 ps → end_of (place_of ps (last 0 [])) ≡ 0
unfolding last
no_link_end ps r = ap end_of (names_none ps 0 0 (omega arith) r)
