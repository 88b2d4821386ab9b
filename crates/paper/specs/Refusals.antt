-- What a refusal says, answers, and tables of tests: the first test that fails gives the refusal.
use Rattle.std.specs.Prelude.{Bool, true, false, List, [], ◌∷◌, ℕ, Option, Some, None, Result, Ok, Err}

-- "A refusal has a number, a place (start of the record at fault), three identities and a figure."
pub record Refusal : Type 0 where
  pub number : ℕ
  pub place : ℕ
  pub id1 : ℕ
  pub id2 : ℕ
  pub id3 : ℕ
  pub figure : ℕ

-- "Those not mentioned are 0": a refusal that says no more than its number, one with a place, with three identities, with a figure
abbrev pub plain : ℕ → Refusal
plain n = record { number = n; place = 0; id1 = 0; id2 = 0; id3 = 0; figure = 0 }

abbrev pub placed : ℕ → ℕ → Refusal
placed n at = record { number = n; place = at; id1 = 0; id2 = 0; id3 = 0; figure = 0 }

abbrev pub naming : ℕ → ℕ → ℕ → ℕ → Refusal
naming n k j i = record { number = n; place = 0; id1 = k; id2 = j; id3 = i; figure = 0 }

abbrev pub figured : ℕ → ℕ → Refusal
figured n x = record { number = n; place = 0; id1 = 0; id2 = 0; id3 = 0; figure = x }

-- a rule: where the test fails, this is the refusal, or its number
pub data Rule (A : Type 0) : Type 0 where
  ◌⇒◌ : Bool → A → Rule A

infix 68 ◌⇒◌
-- the first rule of a table that is broken
abbrev pub first : {A : Type 0} → List (Rule A) → Option A
first [] = None
first (true ⇒ a ∷ l) = first l
first (false ⇒ a ∷ l) = Some a

-- an answer: what was asked for, or a refusal
abbrev pub Answer : Type 0 → Type 0
Answer A = Result A Refusal

-- the answer behind a table of rules
abbrev pub unless : {A : Type 0} → Option Refusal → Answer A → Answer A
unless None answer = answer
unless (Some r) answer = Err r

-- the same for the rules of the record at a place
abbrev pub unless_at : {A : Type 0} → ℕ → Option ℕ → Answer A → Answer A
unless_at at None answer = answer
unless_at at (Some n) answer = Err (placed n at)

-- what follows an answer that is no refusal
abbrev pub and_then : {A B : Type 0} → Answer A → (A → Answer B) → Answer B
and_then (Err r) next = Err r
and_then (Ok a) next = next a
