-- `each` and `any`: what holds of each number below n, and of some. First as a loop counts up, then as statements about all indices. Assumes nothing.
use Rattle.std.specs.Prelude.{◌≡◌, Bool, not, ◌&&◌, ◌||◌, ◌⊎◌, refl, true, false, ℕ, zero, suc, ◌+◌, ◌<◌}
use Rattle.std.proofs.Common.{ap₂, ◌∙◌, inl, inr, arith, le_refl, add-one}
use Rattle.laws.specs.Tests.{and_left, and_right, and_both, or_left, or_right, or_cases, or_neither, not_both, not_passed, last_or_below}
use Rattle.paper.specs.Words.{each, any}

-- a place below n where a test passes
pub record Hit (n : ℕ) (p : ℕ → Bool) : Type 0 where
  pub index : ℕ
  pub below : index < n
  pub passes : p index ≡ true

module _ (p : ℕ → Bool) where
  pub each_zero : each 0 p ≡ true
  unfolding each
  each_zero = refl

  -- one more index
  pub each_step : (i : ℕ) → each (i + 1) p ≡ (each i p && p i)
  unfolding each
  each_step i = rw add-one

  pub each_more : (i : ℕ) → each i p ≡ true → p i ≡ true → each (i + 1) p ≡ true
  each_more i e h = each_step i ∙ and_both (each i p) (p i) e h

  -- each of the numbers below n passes
  pub each_at : (n : ℕ) → each n p ≡ true → (i : ℕ) → i < n → p i ≡ true
  unfolding each
  each_at zero e i h = absurd (omega arith)
  each_at (suc n) e i h = last_or_below i n h (λ q. rw q (and_right (each n p) (p n) e)) (λ l. each_at n (and_left (each n p) (p n) e) i l)

  pub at_each : (n : ℕ) → ((i : ℕ) → i < n → p i ≡ true) → each n p ≡ true
  unfolding each
  at_each zero h = refl
  at_each (suc n) h = and_both (each n p) (p n) (at_each n (λ i l. h i (omega arith))) (h n (le_refl (suc n)))

  -- one that fails is enough
  pub each_stop : (i n : ℕ) → i < n → p i ≡ false → each n p ≡ false
  each_stop i n h e = not_passed (each n p) (λ q. not_both (p i) (each_at n q i h) e)

  pub any_zero : any 0 p ≡ false
  unfolding any
  any_zero = refl

  pub any_step : (i : ℕ) → any (i + 1) p ≡ (any i p || p i)
  unfolding any
  any_step i = rw add-one

  pub any_more : (i : ℕ) → any i p ≡ false → p i ≡ false → any (i + 1) p ≡ false
  any_more i e h = any_step i ∙ or_neither (any i p) (p i) e h

  -- one that passes is enough
  pub any_at : (n i : ℕ) → i < n → p i ≡ true → any n p ≡ true
  unfolding any
  any_at zero i h e = absurd (omega arith)
  any_at (suc n) i h e = last_or_below i n h (λ q. or_right (any n p) (p n) (rw q at e)) (λ l. or_left (any n p) (p n) (any_at n i l e))

  -- where some number passes there is one that does
  pub any_hit : (n : ℕ) → any n p ≡ true → Hit n p
  unfolding any
  any_hit zero e = absurd (not_both false e refl)
  any_hit (suc n) e = go (or_cases (any n p) (p n) e) (λ h. any_hit n h)
    where
      go : (any n p ≡ true) ⊎ (p n ≡ true) → (any n p ≡ true → Hit n p) → Hit (suc n) p
      go (inl h) k = let r = k h in record { index = r.index; below = omega arith; passes = r.passes }
      go (inr h) k = record { index = n; below = le_refl (suc n); passes = h }

  -- none passes exactly if each fails
  pub any_none : (n : ℕ) → any n p ≡ false → (i : ℕ) → i < n → p i ≡ false
  any_none n e i h = not_passed (p i) (λ q. not_both (any n p) (any_at n i h q) e)

  pub none_any : (n : ℕ) → ((i : ℕ) → i < n → p i ≡ false) → any n p ≡ false
  none_any n h = not_passed (any n p) (λ q. let r = any_hit n q in not_both (p r.index) r.passes (h r.index r.below))

-- tests that agree on the numbers below n
pub each_ext : (n : ℕ) (p q : ℕ → Bool) → ((i : ℕ) → i < n → p i ≡ q i) → each n p ≡ each n q
unfolding each
each_ext zero p q h = refl
each_ext (suc n) p q h = ap₂ ◌&&◌ (each_ext n p q (λ i l. h i (omega arith))) (h n (le_refl (suc n)))

pub any_ext : (n : ℕ) (p q : ℕ → Bool) → ((i : ℕ) → i < n → p i ≡ q i) → any n p ≡ any n q
unfolding any
any_ext zero p q h = refl
any_ext (suc n) p q h = ap₂ ◌||◌ (any_ext n p q (λ i l. h i (omega arith))) (h n (le_refl (suc n)))

-- "some" is "not each not"
pub any_each : (n : ℕ) (p : ℕ → Bool) → not (any n p) ≡ each n (λ i. not (p i))
unfolding any each
any_each zero p = refl
any_each (suc n) p = go (any n p) (p n) (each n (λ i. not (p i))) (any_each n p)
  where
    go : (a b e : Bool) → not a ≡ e → not (a || b) ≡ (e && not b)
    go true b e h = rw (← h)
    go false b e h = rw (← h)
