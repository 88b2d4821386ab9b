-- What the rules over values find, against the paper's words: the last element, the greatest end, the place of an identity.
use Rattle.std.proofs.Common.{◌≡◌, refl, sym, ap, ◌∙◌, ℕ, ◌+◌, ◌-◌, ◌<◌, ◌≤◌, arith, max, Bool, true, false, ◌==◌, ◌||◌, cond, List, [], ◌∷◌, drop, length, slice_index_or, Option, Some, None, unwrap_or, Bor, nat_cmp, eqb-true, eq-eqb}
use Rattle.std.proofs.lemmas.List.{drop_more}
use Rattle.std.proofs.lemmas.Option.{none-some, unwrap_or-slice_get}
use Rattle.std.proofs.Math.ListN.{drop_of_length-le}
use Rattle.std.proofs.lemmas.Bool.Decides.{nat_tests}
use Rattle.std.specs.Option.{option_map}
use Rattle.std.specs.Ordering.{ord_max}
use Rattle.std.specs.List.{find, list_any, slice_get}
use Rattle.laws.specs.Lists.{last_get_or}
use Rattle.laws.specs.Tests.{same_test}
use Rattle.layout.specs.declared.layout.Place.{Place}
use Rattle.map.specs.Values.{paper_place, paper_places}
use Rattle.paper.specs.Maps.{end_of, no_place, identities, place_of, greatest_end}
use Rattle.paper.specs.Words.{among, last, named}

-- The last element
pub last_read : {A : Type 0} (z : A) (l : List A) → unwrap_or (slice_get l (length l - 1)) z ≡ last z l
unfolding last
last_read z [] = refl
last_read z (x ∷ l) =
    let n = length (x ∷ l) - 1 in
    unwrap_or-slice_get (x ∷ l) n z ∙ sym (last_get_or z (x ∷ l) n z (omega arith))

last_same : (z : Place) (l : List Place) → last (paper_place z) (paper_places l) ≡ paper_place (last z l)
unfolding last
last_same z [] = refl
last_same z (x ∷ l) = last_same x l

abbrev nobody : Place
nobody = record { identity = 0; address = 0; size = 0 }

pub last_some : (l : List Place) (p : Place) → slice_get l (length l - 1) ≡ Some p → last no_place (paper_places l) ≡ paper_place p
last_some l p e = last_same nobody l ∙ ap paper_place (sym (last_read nobody l) ∙ ap (λ (o : Option Place). unwrap_or o nobody) e)

pub last_none : (l : List Place) → slice_get l (length l - 1) ≡ None → last no_place (paper_places l) ≡ no_place
last_none l e = last_same nobody l ∙ ap paper_place (sym (last_read nobody l) ∙ ap (λ (o : Option Place). unwrap_or o nobody) e)

-- the same of what `last` hands out
pub last_here : (l : List Place) (r : Option (Bor Place)) (p : Bor Place) → option_map (λ (q : Bor Place). q.now) r ≡ slice_get l (length l - 1) → r ≡ Some p → last no_place (paper_places l) ≡ paper_place p.now
last_here l r p e q = last_some l p.now (sym e ∙ ap (λ (o : Option (Bor Place)). option_map (λ (q : Bor Place). q.now) o) q)

pub last_nowhere : (l : List Place) (r : Option (Bor Place)) → option_map (λ (q : Bor Place). q.now) r ≡ slice_get l (length l - 1) → r ≡ None → last no_place (paper_places l) ≡ no_place
last_nowhere l r e q = last_none l (sym e ∙ ap (λ (o : Option (Bor Place)). option_map (λ (q : Bor Place). q.now) o) q)

pub max_read : (a b : ℕ) → ord_max nat_cmp a b ≡ max a b
max_read a b = grind (arith, nat_tests)

-- The greatest end, as a loop goes over the places
pub ends_step : (g e n : ℕ) (ps : List Place) (i : ℕ) (d : Place) → i < length ps → n ≡ ord_max nat_cmp g e → e ≡ end_of (paper_place (slice_index_or ps i d))
    → max n (greatest_end (paper_places (drop (i + 1) ps))) ≡ max g (greatest_end (paper_places (drop i ps)))
unfolding greatest_end
ends_step g e n ps i d h q r = let m = q ∙ max_read g e in rw (drop_more ps i d h) (omega arith)

pub ends_done : (g : ℕ) (ps : List Place) (i : ℕ) → length ps ≤ i → max g (greatest_end (paper_places (drop i ps))) ≡ g
unfolding greatest_end
ends_done g ps i h = rw (drop_of_length-le ps h) (omega arith)

-- The place of an identity
abbrev pub has_identity : ℕ → Place → Bool
has_identity id p = p.identity == id

pub turned : (x y : ℕ) → (x == y) ≡ (y == x)
turned x y = same_test (x == y) (y == x) (λ e. eq-eqb y x (sym (eqb-true x y e))) (λ e. eq-eqb x y (sym (eqb-true y x e)))

pub record FoundNone (ps : List Place) (id : ℕ) : Type 0 where
  pub absent : among id (identities (paper_places ps)) ≡ false
  pub nobody : place_of (paper_places ps) id ≡ no_place

pub record FoundSome (ps : List Place) (id : ℕ) (p : Place) : Type 0 where
  pub present : among id (identities (paper_places ps)) ≡ true
  pub same : place_of (paper_places ps) id ≡ paper_place p

pub found_none : (ps : List Place) (id : ℕ) → find (has_identity id) ps ≡ None → FoundNone ps id
unfolding among named
found_none [] id e = record { absent = refl; nobody = refl }
found_none (q ∷ ps) id e = go (q.identity == id) refl e (found_none ps id)
  where
    go : (b : Bool) → (q.identity == id) ≡ b → cond b (Some q) (find (has_identity id) ps) ≡ None
        → (find (has_identity id) ps ≡ None → FoundNone ps id) → FoundNone (q ∷ ps) id
    go true t e r = absurd (none-some q (sym e))
    go false t e r = let f = r e in record { absent = rw (turned id q.identity, t) f.absent; nobody = rw t f.nobody }

pub found_some : (ps : List Place) (id : ℕ) (p : Place) → find (has_identity id) ps ≡ Some p → FoundSome ps id p
unfolding among named
found_some [] id p e = absurd (none-some p e)
found_some (q ∷ ps) id p e = go (q.identity == id) refl e (found_some ps id p)
  where
    go : (b : Bool) → (q.identity == id) ≡ b → cond b (Some q) (find (has_identity id) ps) ≡ Some p
        → (find (has_identity id) ps ≡ Some p → FoundSome ps id p) → FoundSome (q ∷ ps) id p
    go true t e r = let z : q ≡ p = cc in record { present = rw (turned id q.identity, t) refl; same = rw t (ap paper_place z) }
    go false t e r = let f = r e in record { present = rw (turned id q.identity, t) f.present; same = rw t f.same }

-- the same of what a look-up hands out
pub found_nowhere : (ps qs : List Place) (id : ℕ) (r : Option (Bor Place)) → option_map (λ (q : Bor Place). q.now) r ≡ find (has_identity id) qs → qs ≡ ps → r ≡ None → FoundNone ps id
found_nowhere ps qs id r e q n = found_none ps id (ap (find (has_identity id)) (sym q) ∙ (sym e ∙ ap (λ (o : Option (Bor Place)). option_map (λ (q : Bor Place). q.now) o) n))

pub found_here : (ps qs : List Place) (id : ℕ) (r : Option (Bor Place)) (p : Bor Place) → option_map (λ (q : Bor Place). q.now) r ≡ find (has_identity id) qs → qs ≡ ps → r ≡ Some p
    → FoundSome ps id p.now
found_here ps qs id r p e q n = found_some ps id p.now (ap (find (has_identity id)) (sym q) ∙ (sym e ∙ ap (λ (o : Option (Bor Place)). option_map (λ (q : Bor Place). q.now) o) n))

-- among, as a slice tests it
pub among_any : (id : ℕ) (l : List ℕ) → list_any (λ y. y == id) l ≡ among id l
unfolding among
among_any id [] = refl
among_any id (y ∷ l) = rw (turned id y) (ap (λ (b : Bool). (y == id) || b) (among_any id l))
