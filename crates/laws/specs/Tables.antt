-- Tables of rules and the answers behind them: nothing is broken exactly if every test passes, and what is broken is the first. Assumes nothing.
use Rattle.std.specs.Prelude.{◌≡◌, refl, Bool, ℕ, true, false, List, [], ◌∷◌, ◌++◌, Option, Some, None, Ok, Err}
use Rattle.std.specs.Option.{option_or}
use Rattle.std.proofs.Common.{ap, ◌∙◌, arith}
use Rattle.paper.specs.Refusals.{Refusal, Rule, ◌⇒◌, first, Answer, unless, unless_at, and_then, placed}
use Rattle.paper.specs.Words.{every}

-- the test of a rule
abbrev pub test : {A : Type 0} → Rule A → Bool
test (t ⇒ a) = t

module _ {A : Type 0} where
  -- what the first of two tables breaks, else what the second does
  pub first_append : (l m : List (Rule A)) → first (l ++ m) ≡ option_or (first l) (first m)
  first_append [] m = refl
  first_append (true ⇒ a ∷ l) m = first_append l m
  first_append (false ⇒ a ∷ l) m = refl

  -- no rule is broken exactly if every test passes
  pub none_passes : (l : List (Rule A)) → first l ≡ None → every test l ≡ true
  unfolding every
  none_passes [] e = refl
  none_passes (true ⇒ a ∷ l) e = none_passes l e
  none_passes (false ⇒ a ∷ l) e = cc

  pub passes_none : (l : List (Rule A)) → every test l ≡ true → first l ≡ None
  unfolding every
  passes_none [] e = refl
  passes_none (true ⇒ a ∷ l) e = passes_none l e
  passes_none (false ⇒ a ∷ l) e = cc

  -- the rule that is broken, with those before it, which pass, and those after it
  pub record Broken (l : List (Rule A)) (a : A) : Type 0 where
    pub before : List (Rule A)
    pub behind : List (Rule A)
    pub splits : l ≡ before ++ (false ⇒ a ∷ behind)
    pub in_order : every test before ≡ true

  pub some_broken : (l : List (Rule A)) (a : A) → first l ≡ Some a → Broken l a
  unfolding every
  some_broken [] a e = absurd (let z : ◌≡◌ {A = ℕ} 0 1 = cc in omega arith)
  some_broken (true ⇒ b ∷ l) a e =
      let r = some_broken l a e in
      record { before = true ⇒ b ∷ r.before; behind = r.behind; splits = ap (λ (x : List (Rule A)). true ⇒ b ∷ x) r.splits; in_order = r.in_order }
  some_broken (false ⇒ b ∷ l) a e = let q : b ≡ a = cc in record { before = []; behind = l; splits = ap (λ (x : A). false ⇒ x ∷ l) q; in_order = refl }

  pub broken_some : (l : List (Rule A)) (a : A) → Broken l a → first l ≡ Some a
  broken_some l a b = ap first b.splits ∙ first_append b.before (false ⇒ a ∷ b.behind) ∙ ap (λ (o : Option A). option_or o (Some a)) (passes_none b.before b.in_order)

  -- an answer is no refusal exactly if no rule is broken and what stands behind the table is no refusal
  pub record Passed (o : Option ℕ) (next : Answer A) (a : A) : Type 0 where
    pub free : o ≡ None
    pub goes_on : next ≡ Ok a

  pub unless_at_given : (at : ℕ) (o : Option ℕ) (next : Answer A) (a : A) → unless_at at o next ≡ Ok a → Passed o next a
  unless_at_given at None next a e = record { free = refl; goes_on = e }
  unless_at_given at (Some n) next a e = absurd (let z : ◌≡◌ {A = ℕ} 0 1 = cc in omega arith)

  pub unless_at_none : (at : ℕ) (o : Option ℕ) (next : Answer A) → o ≡ None → unless_at at o next ≡ next
  unless_at_none at o next e = cc

  pub unless_at_some : (at n : ℕ) (o : Option ℕ) (next : Answer A) → o ≡ Some n → unless_at at o next ≡ Err (placed n at)
  unless_at_some at n o next e = cc

  pub unless_none : (o : Option Refusal) (next : Answer A) → o ≡ None → unless o next ≡ next
  unless_none o next e = cc

  pub unless_some : (r : Refusal) (o : Option Refusal) (next : Answer A) → o ≡ Some r → unless o next ≡ Err r
  unless_some r o next e = cc

  -- an answer that follows another: that one was given
  pub record Followed {B : Type 0} (x : Answer A) (next : A → Answer B) (b : B) : Type 0 where
    pub value : A
    pub was : x ≡ Ok value
    pub then : next value ≡ Ok b

  pub and_then_given : {B : Type 0} (x : Answer A) (next : A → Answer B) (b : B) → and_then x next ≡ Ok b → Followed x next b
  and_then_given (Err r) next b e = absurd (let z : ◌≡◌ {A = ℕ} 0 1 = cc in omega arith)
  and_then_given (Ok a) next b e = record { value = a; was = refl; then = e }

  -- an answer is not both
  pub not_refused : (x : Answer A) (r : Refusal) (a : A) → x ≡ Err r → x ≡ Ok a → ⊥
  not_refused x r a p q = let z : ◌≡◌ {A = ℕ} 0 1 = cc in omega arith
