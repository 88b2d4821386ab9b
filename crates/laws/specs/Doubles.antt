-- Lists in which no number stands twice: one more at the end, and that such a list is no longer than a list in which all of its numbers stand. Assumes nothing.
use Rattle.std.specs.Prelude.{◌≡◌, refl, Bool, true, false, not, ◌&&◌, ◌||◌, ◌⊎◌, List, [], ◌∷◌, ◌++◌, length, ℕ, ◌≤◌, ◌==◌}
use Rattle.std.proofs.Common.{ap, sym, ◌∙◌, inl, inr, arith, eqb-true, eq-eqb, length-append}
use Rattle.laws.specs.Lists.{among_append, among_snoc}
use Rattle.laws.specs.Tests.{and_both, and_left, and_right, or_cases, or_left, or_right, or_neither, or_not_left, or_not_right, not_both, not_passed}
use Rattle.paper.specs.Words.{among, every}

-- no number stands twice
unfoldable pub apart : List ℕ → Bool
apart [] = true
apart (x ∷ l) = not (among x l) && apart l

not_true : (b : Bool) → not b ≡ true → b ≡ false
not_true true e = sym e
not_true false e = refl

true_not : (b : Bool) → b ≡ false → not b ≡ true
true_not b e = ap not e

pub apart_snoc : (l : List ℕ) (x : ℕ) → apart l ≡ true → among x l ≡ false → apart (l ++ (x ∷ [])) ≡ true
unfolding apart among
apart_snoc [] x e n = refl
apart_snoc (y ∷ l) x e n =
    let other : (y == x) ≡ false = not_passed (y == x) (λ t. not_both (x == y) (eq-eqb x y (sym (eqb-true y x t))) (or_not_left (x == y) (among x l) n)) in
    let absent : among y (l ++ (x ∷ [])) ≡ false = among_snoc y l x ∙ or_neither (among y l) (y == x) (not_true (among y l) (and_left (not (among y l)) (apart l) e)) other in
    and_both (not (among y (l ++ (x ∷ [])))) (apart (l ++ (x ∷ []))) (true_not (among y (l ++ (x ∷ []))) absent)
    (apart_snoc l x (and_right (not (among y l)) (apart l) e) (or_not_right (x == y) (among x l) n))

-- where a number stands, a list is what is before it and what is behind it
record Split (x : ℕ) (m : List ℕ) : Type 0 where
  before : List ℕ
  behind : List ℕ
  is : m ≡ before ++ (x ∷ behind)

split : (x : ℕ) (m : List ℕ) → among x m ≡ true → Split x m
unfolding among
split x [] e = absurd (not_both false e refl)
split x (y ∷ m) e = go (or_cases (x == y) (among x m) e) (split x m)
  where
    go : ((x == y) ≡ true) ⊎ (among x m ≡ true) → (among x m ≡ true → Split x m) → Split x (y ∷ m)
    go (inl h) r = record { before = []; behind = m; is = ap (λ (z : ℕ). z ∷ m) (sym (eqb-true x y h)) }
    go (inr h) r = let s = r h in record { before = y ∷ s.before; behind = s.behind; is = ap (λ (l : List ℕ). y ∷ l) s.is }

-- another number stands in the rest
rest_of : (x y : ℕ) (a b : List ℕ) → (y == x) ≡ false → among y (a ++ (x ∷ b)) ≡ true → among y (a ++ b) ≡ true
unfolding among
rest_of x y a b n e = among_append y a b ∙ go (or_cases (among y a) ((y == x) || among y b) (sym (among_append y a (x ∷ b)) ∙ e))
  where
    other : ((y == x) ≡ true) ⊎ (among y b ≡ true) → among y b ≡ true
    other (inl h) = absurd (not_both (y == x) h n)
    other (inr h) = h

    go : (among y a ≡ true) ⊎ (((y == x) || among y b) ≡ true) → (among y a || among y b) ≡ true
    go (inl h) = or_left (among y a) (among y b) h
    go (inr h) = or_right (among y a) (among y b) (other (or_cases (y == x) (among y b) h))

rest_of_all : (x : ℕ) (a b l : List ℕ) → among x l ≡ false → every (λ y. among y (a ++ (x ∷ b))) l ≡ true → every (λ y. among y (a ++ b)) l ≡ true
unfolding among every
rest_of_all x a b [] n e = refl
rest_of_all x a b (y ∷ l) n e =
    let other : (y == x) ≡ false = not_passed (y == x) (λ t. not_both (x == y) (eq-eqb x y (sym (eqb-true y x t))) (or_not_left (x == y) (among x l) n)) in
    and_both (among y (a ++ b)) (every (λ z. among z (a ++ b)) l)
    (rest_of x y a b other (and_left (among y (a ++ (x ∷ b))) (every (λ z. among z (a ++ (x ∷ b))) l) e))
    (rest_of_all x a b l (or_not_right (x == y) (among x l) n) (and_right (among y (a ++ (x ∷ b))) (every (λ z. among z (a ++ (x ∷ b))) l) e))

pub no_longer : (l m : List ℕ) → apart l ≡ true → every (λ x. among x m) l ≡ true → length l ≤ length m
unfolding apart every
no_longer [] m d e = omega arith
no_longer (x ∷ l) m d e =
    let s = split x m (and_left (among x m) (every (λ y. among y m) l) e) in
    let absent = not_true (among x l) (and_left (not (among x l)) (apart l) d) in
    let within : every (λ y. among y m) l ≡ true = and_right (among x m) (every (λ y. among y m) l) e in
    let others : every (λ y. among y (s.before ++ (x ∷ s.behind))) l ≡ true = sym (ap (λ (k : List ℕ). every (λ y. among y k) l) s.is) ∙ within in
    let r = no_longer l (s.before ++ s.behind) (and_right (not (among x l)) (apart l) d) (rest_of_all x s.before s.behind l absent others) in
    let n : length m ≡ length (s.before ++ (x ∷ s.behind)) = ap length s.is in
    omega (arith, length-append s.before s.behind, length-append s.before (x ∷ s.behind))
