-- `greatest`: the greatest of f 0 .. f (n - 1), 0 where n is 0. First as a loop counts up, then as a statement about all indices. Assumes nothing.
use Rattle.std.specs.Prelude.{◌≡◌, Bool, refl, true, false, ℕ, zero, suc, ◌+◌, ◌≤◌, ◌<◌, max, nat_le}
use Rattle.std.proofs.Common.{ap₂, le_refl, add-one, arith, leb-true, leb-false}
use Rattle.laws.specs.Tests.{last_or_below}
use Rattle.paper.specs.Words.{greatest}

-- an index at which f is v
pub record Attained (n : ℕ) (f : ℕ → ℕ) (v : ℕ) : Type 0 where
  pub index : ℕ
  pub below : index < n
  pub same : f index ≡ v

module _ (f : ℕ → ℕ) where
  pub greatest_zero : greatest 0 f ≡ 0
  unfolding greatest
  greatest_zero = refl

  pub greatest_step : (i : ℕ) → greatest (i + 1) f ≡ max (greatest i f) (f i)
  unfolding greatest
  greatest_step i = rw add-one

  pub greatest_take : (i : ℕ) → greatest i f ≤ f i → greatest (i + 1) f ≡ f i
  greatest_take i h = let s = greatest_step i in omega arith

  pub greatest_keep : (i : ℕ) → f i ≤ greatest i f → greatest (i + 1) f ≡ greatest i f
  greatest_keep i h = let s = greatest_step i in omega arith

  -- none is greater
  pub greatest_ge : (n i : ℕ) → i < n → f i ≤ greatest n f
  unfolding greatest
  greatest_ge zero i h = absurd (omega arith)
  greatest_ge (suc n) i h = last_or_below i n h (λ q. rw q (omega arith)) (λ l. let r = greatest_ge n i l in omega arith)

  -- a bound of all is a bound of it
  pub greatest_le : (n b : ℕ) → ((i : ℕ) → i < n → f i ≤ b) → greatest n f ≤ b
  unfolding greatest
  greatest_le zero b h = omega arith
  greatest_le (suc n) b h = let x = h n (le_refl (suc n)) in let y = greatest_le n b (λ i l. h i (omega arith)) in omega arith

  -- it is one of them, if there is any
  pub greatest_attained : (n : ℕ) → 0 < n → Attained n f (greatest n f)
  unfolding greatest
  greatest_attained zero h = absurd (omega arith)
  greatest_attained (suc zero) h = record { index = 0; below = le_refl 1; same = omega arith }
  greatest_attained (suc (suc n)) h = go (nat_le (greatest (suc n) f) (f (suc n))) refl (greatest_attained (suc n) (omega arith))
    where
      go : (b : Bool) → nat_le (greatest (suc n) f) (f (suc n)) ≡ b → Attained (suc n) f (greatest (suc n) f) → Attained (suc (suc n)) f (max (greatest (suc n) f) (f (suc n)))
      go true e r = let l = leb-true (greatest (suc n) f) (f (suc n)) e in record { index = suc n; below = le_refl (suc (suc n)); same = omega arith }
      go false e r = let l = leb-false (greatest (suc n) f) (f (suc n)) e in record { index = r.index; below = omega arith; same = omega arith }

  -- what 0 and each of them has, it has
  pub greatest_has : (P : ℕ → Type 0) → P 0 → (n : ℕ) → ((i : ℕ) → i < n → P (f i)) → P (greatest n f)
  unfolding greatest
  greatest_has P z zero h = z
  greatest_has P z (suc n) h = go (nat_le (greatest n f) (f n)) refl (greatest_has P z n (λ i l. h i (omega arith)))
    where
      go : (b : Bool) → nat_le (greatest n f) (f n) ≡ b → P (greatest n f) → P (max (greatest n f) (f n))
      go true e r = let l = leb-true (greatest n f) (f n) e in let m : max (greatest n f) (f n) ≡ f n = omega arith in rw m (h n (le_refl (suc n)))
      go false e r = let l = leb-false (greatest n f) (f n) e in let m : max (greatest n f) (f n) ≡ greatest n f = omega arith in rw m r

  -- a value that is one of them, or 0, and none is greater, is it
  pub greatest_is : (n v : ℕ) → ((i : ℕ) → i < n → f i ≤ v) → Attained n f v → greatest n f ≡ v
  greatest_is n v h a =
      let x = greatest_le n v h in
      let y = greatest_ge n a.index a.below in
      omega arith

-- values that agree below n; values that are 0 below n
pub greatest_ext : (n : ℕ) (f g : ℕ → ℕ) → ((i : ℕ) → i < n → f i ≡ g i) → greatest n f ≡ greatest n g
unfolding greatest
greatest_ext zero f g h = refl
greatest_ext (suc n) f g h = ap₂ max (greatest_ext n f g (λ i l. h i (omega arith))) (h n (le_refl (suc n)))

pub greatest_none : (n : ℕ) (f : ℕ → ℕ) → ((i : ℕ) → i < n → f i ≡ 0) → greatest n f ≡ 0
greatest_none n f h = let r = greatest_le f n 0 (λ i l. let z = h i l in omega arith) in omega arith
