-- `listed`, `among`, `every`, `last`, `named` and `joined` over lists, above all over `++`: a walk appends at the end. Assumes nothing.
use Rattle.std.specs.Prelude.{◌≡◌, Bool, if◌then◌else◌, ◌&&◌, ◌||◌, ◌⊎◌, length, slice_index_or, refl, true, false, List, [], ◌∷◌, ◌++◌, map, ℕ, zero, suc, ◌+◌, ◌<◌, ◌==◌}
use Rattle.std.proofs.Common.{ap, sym, ◌∙◌, inl, inr, add-one, arith, append_assoc, append-nil, eqb-true, eq-eqb}
use Rattle.std.proofs.Math.Bool.{and-true, or-false, and_assoc, or_assoc}
use borrow.Author.Tests.{eqb-false}
use Rattle.laws.specs.Tests.{and_left, and_right, or_left, or_right, or_cases}
use Rattle.paper.specs.Words.{listed, among, every, last, named, joined}

module _ {A : Type 0} where
  pub length_listed : (n : ℕ) (f : ℕ → A) → length (listed n f) ≡ n
  unfolding listed
  length_listed zero f = refl
  length_listed (suc n) f = ap suc (length_listed n (λ i. f (suc i)))

  pub get_or_listed : (n : ℕ) (f : ℕ → A) (i : ℕ) (d : A) → i < n → slice_index_or (listed n f) i d ≡ f i
  unfolding listed
  get_or_listed zero f i d h = absurd (omega arith)
  get_or_listed (suc n) f zero d h = refl
  get_or_listed (suc n) f (suc i) d h = get_or_listed n (λ j. f (suc j)) i d (omega arith)

  pub listed_ext : (n : ℕ) (f g : ℕ → A) → ((i : ℕ) → i < n → f i ≡ g i) → listed n f ≡ listed n g
  unfolding listed
  listed_ext zero f g h = refl
  listed_ext (suc n) f g h = rw (h 0 (omega arith), listed_ext n (λ i. f (suc i)) (λ i. g (suc i)) (λ i l. h (suc i) (omega arith)))

  listed_suc : (n : ℕ) (f : ℕ → A) → listed (suc n) f ≡ listed n f ++ (f n ∷ [])
  unfolding listed
  listed_suc zero f = refl
  listed_suc (suc n) f = ap (λ (l : List A). f 0 ∷ l) (listed_suc n (λ i. f (suc i)))

  -- as a loop counts up
  pub listed_step : (n : ℕ) (f : ℕ → A) → listed (n + 1) f ≡ listed n f ++ (f n ∷ [])
  listed_step n f = rw add-one (listed_suc n f)

  -- a list is what stands at its places
  pub listed_get_or : (l : List A) (d : A) → listed (length l) (λ i. slice_index_or l i d) ≡ l
  unfolding listed
  listed_get_or [] d = refl
  listed_get_or (x ∷ l) d = ap (λ (r : List A). x ∷ r) (listed_get_or l d)

  pub map_listed : {B : Type 0} (g : A → B) (n : ℕ) (f : ℕ → A) → map g (listed n f) ≡ listed n (λ i. g (f i))
  unfolding listed
  map_listed g zero f = refl
  map_listed {B} g (suc n) f = ap (λ (l : List B). g (f 0) ∷ l) (map_listed g n (λ i. f (suc i)))

  pub every_append : (p : A → Bool) (l m : List A) → every p (l ++ m) ≡ (every p l && every p m)
  unfolding every
  every_append p [] m = refl
  every_append p (x ∷ l) m = ap (λ (b : Bool). p x && b) (every_append p l m) ∙ sym (and_assoc (p x) (every p l) (every p m))

  pub every_snoc : (p : A → Bool) (l : List A) (x : A) → every p (l ++ (x ∷ [])) ≡ (every p l && p x)
  unfolding every
  every_snoc p l x = every_append p l (x ∷ []) ∙ ap (λ (b : Bool). every p l && b) (and-true (p x))

  pub every_at : (p : A → Bool) (l : List A) → every p l ≡ true → (i : ℕ) (d : A) → i < length l → p (slice_index_or l i d) ≡ true
  unfolding every
  every_at p [] e i d h = absurd (omega arith)
  every_at p (x ∷ l) e zero d h = and_left (p x) (every p l) e
  every_at p (x ∷ l) e (suc i) d h = every_at p l (and_right (p x) (every p l) e) i d (omega arith)

  pub last_append : (z : A) (l m : List A) → last z (l ++ m) ≡ last (last z l) m
  unfolding last
  last_append z [] m = refl
  last_append z (x ∷ l) m = last_append x l m

  pub last_snoc : (z : A) (l : List A) (x : A) → last z (l ++ (x ∷ [])) ≡ x
  unfolding last
  last_snoc z l x = last_append z l (x ∷ [])

  pub last_get_or : (z : A) (l : List A) (n : ℕ) (d : A) → length l ≡ suc n → last z l ≡ slice_index_or l n d
  unfolding last
  last_get_or z [] n d e = absurd (omega arith)
  last_get_or z (x ∷ []) zero d e = refl
  last_get_or z (x ∷ []) (suc n) d e = absurd (omega arith)
  last_get_or z (x ∷ (y ∷ l)) zero d e = absurd (omega arith)
  last_get_or z (x ∷ (y ∷ l)) (suc n) d e = last_get_or x (y ∷ l) n d (omega arith)

  pub joined_append : (f : A → List ℕ) (l m : List A) → joined f (l ++ m) ≡ joined f l ++ joined f m
  unfolding joined
  joined_append f [] m = refl
  joined_append f (x ∷ l) m = ap (λ (r : List ℕ). f x ++ r) (joined_append f l m) ∙ sym (append_assoc (f x) (joined f l) (joined f m))

  pub joined_snoc : (f : A → List ℕ) (l : List A) (x : A) → joined f (l ++ (x ∷ [])) ≡ joined f l ++ f x
  unfolding joined
  joined_snoc f l x = joined_append f l (x ∷ []) ∙ ap (λ (r : List ℕ). joined f l ++ r) (append-nil (f x))

  -- by identity
  module _ (identity : A → ℕ) (nobody : A) where
    pub named_append : (l m : List A) (id : ℕ) → named identity nobody (l ++ m) id ≡ named identity (named identity nobody m id) l id
    unfolding named
    named_append [] m id = refl
    named_append (x ∷ l) m id = rw (named_append l m id)

    -- an identity of the list names an element with that identity
    pub named_has : (l : List A) (id : ℕ) → among id (map identity l) ≡ true → identity (named identity nobody l id) ≡ id
    unfolding named among
    named_has [] id e = cc
    named_has (x ∷ l) id e = go (identity x == id) refl (or_cases (id == identity x) (among id (map identity l)) e) (λ h. named_has l id h)
      where
        go : (b : Bool) → (identity x == id) ≡ b → ((id == identity x) ≡ true) ⊎ (among id (map identity l) ≡ true)
            → (among id (map identity l) ≡ true → identity (named identity nobody l id) ≡ id) → identity (if b then x else named identity nobody l id) ≡ id
        go true q s k = eqb-true (identity x) id q
        go false q (inl h) k = let z = eqb-true id (identity x) h in absurd (eqb-false (identity x) id q (sym z))
        go false q (inr h) k = k h

pub among_append : (x : ℕ) (l m : List ℕ) → among x (l ++ m) ≡ (among x l || among x m)
unfolding among
among_append x [] m = refl
among_append x (y ∷ l) m = ap (λ (b : Bool). (x == y) || b) (among_append x l m) ∙ sym (or_assoc (x == y) (among x l) (among x m))

pub among_snoc : (x : ℕ) (l : List ℕ) (y : ℕ) → among x (l ++ (y ∷ [])) ≡ (among x l || (x == y))
unfolding among
among_snoc x l y = among_append x l (y ∷ []) ∙ ap (λ (b : Bool). among x l || b) (or-false (x == y))

-- what stands in the list stands at a place, and what stands at a place is in the list
pub record Stands (x : ℕ) (l : List ℕ) : Type 0 where
  pub index : ℕ
  pub below : index < length l
  pub same : slice_index_or l index 0 ≡ x

pub among_at : (l : List ℕ) (i : ℕ) → i < length l → among (slice_index_or l i 0) l ≡ true
unfolding among
among_at [] i h = absurd (omega arith)
among_at (y ∷ l) zero h = or_left (y == y) (among y l) (eq-eqb y y refl)
among_at (y ∷ l) (suc i) h = or_right (slice_index_or l i 0 == y) (among (slice_index_or l i 0) l) (among_at l i (omega arith))

pub among_stands : (x : ℕ) (l : List ℕ) → among x l ≡ true → Stands x l
unfolding among
among_stands x [] e = absurd (let z : ◌≡◌ {A = ℕ} 0 1 = cc in omega arith)
among_stands x (y ∷ l) e = go (or_cases (x == y) (among x l) e) (λ h. among_stands x l h)
  where
    go : ((x == y) ≡ true) ⊎ (among x l ≡ true) → (among x l ≡ true → Stands x l) → Stands x (y ∷ l)
    go (inl h) k = record { index = 0; below = omega arith; same = sym (eqb-true x y h) }
    go (inr h) k = let r = k h in record { index = suc r.index; below = omega arith; same = r.same }
