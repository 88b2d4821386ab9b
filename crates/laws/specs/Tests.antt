-- Tests joined by `and`, `or`, `not`, and the last of the numbers below n + 1. Assumes nothing.
use Rattle.std.specs.Prelude.{◌≡◌, refl, Bool, true, false, ◌&&◌, ◌||◌, ◌⊎◌, ℕ, suc, ◌<◌, ◌==◌}
use Rattle.std.proofs.Common.{sym, inl, inr, arith, eqb-true}
use Rattle.std.proofs.lemmas.Bool.{eqb-false}

pub and_left : (a b : Bool) → (a && b) ≡ true → a ≡ true
and_left true b e = refl
and_left false b e = e

pub and_right : (a b : Bool) → (a && b) ≡ true → b ≡ true
and_right true b e = e
and_right false b e = cc

pub and_both : (a b : Bool) → a ≡ true → b ≡ true → (a && b) ≡ true
and_both a b p q = cc

pub or_left : (a b : Bool) → a ≡ true → (a || b) ≡ true
or_left a b p = cc

pub or_right : (a b : Bool) → b ≡ true → (a || b) ≡ true
or_right true b p = refl
or_right false b p = p

pub or_cases : (a b : Bool) → (a || b) ≡ true → (a ≡ true) ⊎ (b ≡ true)
or_cases true b e = inl refl
or_cases false b e = inr e

pub or_neither : (a b : Bool) → a ≡ false → b ≡ false → (a || b) ≡ false
or_neither a b p q = cc

pub or_not_left : (a b : Bool) → (a || b) ≡ false → a ≡ false
or_not_left true b e = e
or_not_left false b e = refl

pub or_not_right : (a b : Bool) → (a || b) ≡ false → b ≡ false
or_not_right true b e = cc
or_not_right false b e = e

-- a test does not both pass and fail
pub not_both : (a : Bool) → a ≡ true → a ≡ false → ⊥
not_both a p q = let z : ◌≡◌ {A = ℕ} 0 1 = cc in omega arith

-- a test that does not fail passes, and the other way round
pub not_failed : (a : Bool) → (a ≡ false → ⊥) → a ≡ true
not_failed true h = refl
not_failed false h = absurd (h refl)

pub not_passed : (a : Bool) → (a ≡ true → ⊥) → a ≡ false
not_passed true h = absurd (h refl)
not_passed false h = refl

-- two tests that pass in the same cases are one test
pub same_test : (a b : Bool) → (a ≡ true → b ≡ true) → (b ≡ true → a ≡ true) → a ≡ b
same_test true b f g = sym (f refl)
same_test false true f g = g refl
same_test false false f g = refl

-- what is below n + 1 is n or below n
pub last_or_below : {P : Type 0} (i n : ℕ) → i < suc n → (i ≡ n → P) → (i < n → P) → P
last_or_below {P} i n h f g = go (i == n) refl
  where
    go : (b : Bool) → (i == n) ≡ b → P
    go true q = f (eqb-true i n q)
    go false q = let r = eqb-false i n q in g (omega arith)
