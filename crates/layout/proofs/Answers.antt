-- Answers behind tables of rules: what one part of a table answers leaves for the whole.
use Rattle.layout.specs.declared.layout.Layout.{Layout}
use Rattle.layout.specs.declared.layout.Place.{Place}
use Rattle.std.proofs.lemmas.Bool.{lt-leb}
use Rattle.std.proofs.Common.{◌≡◌, refl, ap, sym, ◌∙◌, ℕ, ◌<◌, ◌≤◌, nat_le, le-leb, List, [], ◌∷◌, true, false, Option, Some, None, Ok, Err}
use Rattle.laws.specs.Tables.{not_refused}
use Rattle.slots.specs.Items.{Items}
use Rattle.paper.specs.Refusals.{Refusal, Rule, ◌⇒◌, Answer, first, unless, figured}

-- the same refusal, whatever stands behind the table
pub still_refused : {A B : Type 0} (o : Option Refusal) (a : A) (b : B) (r : Refusal) → Err r ≡ unless o (Ok a) → unless o (Ok b) ≡ Err r
still_refused None a b r e = absurd (not_refused (Ok a) r a (sym e) refl)
still_refused (Some q) a b r e = let z : q ≡ r = cc in rw z refl

-- what was handed back, put into a larger value
pub put_into : {A B : Type 0} (f : A → B) (o : Option Refusal) (a x : A) → ◌≡◌ {A = Answer A} (Ok x) (unless o (Ok a)) → unless o (Ok (f a)) ≡ Ok (f x)
put_into {A} f None a x e = let z : x ≡ a = cc in ap (λ (y : A). Ok (f y)) (sym z)
put_into f (Some q) a x e = absurd (not_refused (Ok x) q x e refl)

module _ {A : Type 0} (rule : Rule Refusal) (done : A) where
  -- a table's first rule that is broken
  pub broken_first : {B : Type 0} (l : List (Rule Refusal)) (b : B) (r : Refusal) → Err r ≡ unless (first (rule ∷ [])) (Ok done) → unless (first (rule ∷ l)) (Ok b) ≡ Err r
  broken_first l b r e = go rule e
    where
      go : (x : Rule Refusal) → Err r ≡ unless (first (x ∷ [])) (Ok done) → unless (first (x ∷ l)) (Ok b) ≡ Err r
      go (true ⇒ q) e = absurd (not_refused (Ok done) r done (sym e) refl)
      go (false ⇒ q) e = let z : q ≡ r = cc in rw z refl

  -- and one that is not
  pub passed_first : (l : List (Rule Refusal)) (x : A) → ◌≡◌ {A = Answer A} (Ok x) (unless (first (rule ∷ [])) (Ok done)) → first (rule ∷ l) ≡ first l
  passed_first l x e = go rule e
    where
      go : (y : Rule Refusal) → ◌≡◌ {A = Answer A} (Ok x) (unless (first (y ∷ [])) (Ok done)) → first (y ∷ l) ≡ first l
      go (true ⇒ q) e = refl
      go (false ⇒ q) e = absurd (not_refused (Ok x) q x e refl)

-- the room in the area
pub no_room : (total area : ℕ) → area < total → first (nat_le total area ⇒ figured 17 total ∷ []) ≡ Some (figured 17 total)
no_room total area h = rw (lt-leb total area h) refl

pub room : (total area : ℕ) → total ≤ area → first (nat_le total area ⇒ figured 17 total ∷ []) ≡ None
room total area h = rw (le-leb total area h) refl

-- a layout field by field
pub whole_layout : (a : ℕ) (t u : ℕ) (p q : Items Place) (c d : Items ℕ) → t ≡ u → p.items ≡ q.items → c.items ≡ d.items
    → ◌≡◌ {A = Layout} (record { alignment = a; total = t; places = p; chain = c }) (record { alignment = a; total = u; places = q; chain = d })
whole_layout a t u p q c d x y z =
    ap (λ (n : ℕ). record { alignment = a; total = n; places = p; chain = c }) x
    ∙ (ap (λ (l : List Place). record { alignment = a; total = u; places = record { items = l }; chain = c }) y
    ∙ ap (λ (l : List ℕ). record { alignment = a; total = u; places = q; chain = record { items = l } }) z)
