-- `least`: the smallest number below n that passes, n where none does. First as a loop counts up, then as a statement about all indices. Assumes nothing.
use Rattle.std.specs.Prelude.{◌≡◌, Bool, ◌||◌, refl, true, false, if◌then◌else◌, ℕ, zero, suc, ◌+◌, ◌≤◌, ◌<◌, nat_lt}
use Rattle.std.proofs.Common.{◌∙◌, add-one, le_refl, arith, ltb-true, ltb-false, lt-ltb, le-ltb}
use Rattle.laws.specs.Tests.{not_both, last_or_below}
use Rattle.laws.specs.Each.{Hit}
use Rattle.paper.specs.Words.{least}

module _ (p : ℕ → Bool) where
  pub least_zero : least 0 p ≡ 0
  unfolding least
  least_zero = refl

  pub least_le : (n : ℕ) → least n p ≤ n
  unfolding least
  least_le zero = le_refl 0
  least_le (suc n) = go (nat_lt (least n p) n || p n) (least_le n)
    where
      go : (b : Bool) → least n p ≤ n → (if b then least n p else suc n) ≤ suc n
      go true h = omega arith
      go false h = le_refl (suc n)

  -- found below n: one more index changes nothing
  pub least_kept : (n : ℕ) → least n p < n → least (suc n) p ≡ least n p
  unfolding least
  least_kept n h = rw (lt-ltb (least n p) n h)

  -- not found below n, and n passes
  pub least_found : (n : ℕ) → least n p ≡ n → p n ≡ true → least (suc n) p ≡ n
  unfolding least
  least_found n e h = rw (h, le-ltb (least n p) n (omega arith)) e

  -- not found below n, nor at n
  least_missed : (n : ℕ) → least n p ≡ n → p n ≡ false → least (suc n) p ≡ suc n
  unfolding least
  least_missed n e h = rw (h, le-ltb (least n p) n (omega arith))

  -- as a loop counts up
  pub least_more : (i : ℕ) → least i p ≡ i → p i ≡ false → least (i + 1) p ≡ i + 1
  least_more i e h = rw add-one (least_missed i e h)

  pub least_stop : (i n : ℕ) → i < n → least i p ≡ i → p i ≡ true → least n p ≡ i
  least_stop i zero l e h = absurd (omega arith)
  least_stop i (suc n) l e h = last_or_below i n l (λ q. rw (← q) (least_found i e h)) (λ m. go m (least_stop i n m e h))
    where
      go : i < n → least n p ≡ i → least (suc n) p ≡ i
      go m r = least_kept n (omega arith) ∙ r

  -- where it is below n, it passes
  pub least_hit : (n : ℕ) → least n p < n → p (least n p) ≡ true
  least_hit zero h = absurd (omega arith)
  least_hit (suc n) h = go (nat_lt (least n p) n) (p n) refl refl (λ l. least_hit n l)
    where
      go : (b t : Bool) → nat_lt (least n p) n ≡ b → p n ≡ t → (least n p < n → p (least n p) ≡ true) → p (least (suc n) p) ≡ true
      go true t e f k = let l = ltb-true (least n p) n e in rw (least_kept n l) (k l)
      go false true e f k = let l = ltb-false (least n p) n e in let m = least_le n in let q : least n p ≡ n = omega arith in rw (least_found n q f) f
      go false false e f k =
          let l = ltb-false (least n p) n e in
          let m = least_le n in
          let q : least n p ≡ n = omega arith in
          let r = least_missed n q f in
          absurd (omega arith)

  -- nothing below it passes
  pub least_first : (n i : ℕ) → i < least n p → p i ≡ false
  unfolding least
  least_first zero i h = absurd (omega arith)
  least_first (suc n) i h = go (nat_lt (least n p) n) (p n) refl refl (λ l. least_first n i l)
    where
      go : (b t : Bool) → nat_lt (least n p) n ≡ b → p n ≡ t → (i < least n p → p i ≡ false) → p i ≡ false
      go true t e f k = let l = least_kept n (ltb-true (least n p) n e) in k (omega arith)
      go false true e f k =
          let l = ltb-false (least n p) n e in
          let m = least_le n in
          let q : least n p ≡ n = omega arith in
          let r = least_found n q f in
          k (omega arith)
      go false false e f k =
          let l = ltb-false (least n p) n e in
          let m = least_le n in
          let q : least n p ≡ n = omega arith in
          let r = least_missed n q f in
          last_or_below i n (omega arith) (λ s. rw s f) (λ s. k (omega arith))

  -- it is n exactly if none passes
  pub least_none : (n : ℕ) → ((i : ℕ) → i < n → p i ≡ false) → least n p ≡ n
  least_none n h = go (nat_lt (least n p) n) refl
    where
      go : (b : Bool) → nat_lt (least n p) n ≡ b → least n p ≡ n
      go true e = let l = ltb-true (least n p) n e in absurd (not_both (p (least n p)) (least_hit n l) (h (least n p) l))
      go false e = let l = ltb-false (least n p) n e in let m = least_le n in omega arith

  -- where one passes, it is at most that one
  pub least_at : (n i : ℕ) → i < n → p i ≡ true → least n p ≤ i
  least_at n i h e = go (nat_lt i (least n p)) refl
    where
      go : (b : Bool) → nat_lt i (least n p) ≡ b → least n p ≤ i
      go true f = absurd (not_both (p i) e (least_first n i (ltb-true i (least n p) f)))
      go false f = ltb-false i (least n p) f

  pub least_below : (n i : ℕ) → i < n → p i ≡ true → least n p < n
  least_below n i h e = let l = least_at n i h e in omega arith

  -- what passes with nothing before it is the least
  pub least_is : (n i : ℕ) → i < n → p i ≡ true → ((j : ℕ) → j < i → p j ≡ false) → least n p ≡ i
  least_is n i h e f = least_stop i n h (least_none i f) e

  pub least_of_hit : (n : ℕ) → Hit n p → least n p < n
  least_of_hit n t = least_below n t.index t.below t.passes

-- tests that agree on the numbers below n
pub least_ext : (n : ℕ) (p q : ℕ → Bool) → ((i : ℕ) → i < n → p i ≡ q i) → least n p ≡ least n q
unfolding least
least_ext zero p q h = refl
least_ext (suc n) p q h = rw (least_ext n p q (λ i l. h i (omega arith)), h n (le_refl (suc n)))
