-- Rows of the relation: the number whose bits are the answers of a test, below a count. Assumes nothing.
use Rattle.std.specs.Prelude.{◌≡◌, Bool, cond, not, ◌&&◌, refl, true, false, ℕ, zero, suc, ◌+◌, ◌-◌, ◌*◌, ◌^◌, ◌<◌, ◌≢◌, ◌==◌}
use Rattle.std.proofs.Common.{sym, arith, eq-eqb, ne_eqb, le_refl}
use Rattle.std.proofs.Math.Bool.{and-true, and-false}
use Rattle.std.proofs.Math.Nat.{pow-suc}
use Rattle.std.proofs.lemmas.Nat.Bits.{bit_at_cat_low, bit_at_cat_high}
use Rattle.laws.specs.Tests.{last_or_below}
use Rattle.paper.specs.Dispatch.{bit, row_of}

abbrev digit : Bool → ℕ
digit b = cond b 1 0

-- a number has no bit from its power of two on
pub row_low : (n : ℕ) (p : ℕ → Bool) → row_of n p < 2 ^ n
unfolding row_of
row_low zero p = omega arith
row_low (suc n) p = go (p n) (row_low n p) (pow-suc 2 n)
  where
    go : (b : Bool) → row_of n p < 2 ^ n → 2 ^ suc n ≡ 2 ^ n * 2 → row_of n p + cond b (2 ^ n) 0 < 2 ^ suc n
    go true h e = omega arith
    go false h e = omega arith

-- tests that agree below the count
pub row_same : (n : ℕ) (p q : ℕ → Bool) → ((j : ℕ) → j < n → p j ≡ q j) → row_of n p ≡ row_of n q
unfolding row_of
row_same zero p q h = refl
row_same (suc n) p q h = rw (row_same n p q (λ j l. h j (omega arith)), h n (omega arith))

-- one more bit on top
step : (n : ℕ) (p : ℕ → Bool) → row_of (suc n) p ≡ digit (p n) * 2 ^ n + row_of n p
unfolding row_of
step n p = go (p n)
  where
    go : (b : Bool) → row_of n p + cond b (2 ^ n) 0 ≡ digit b * 2 ^ n + row_of n p
    go true = omega arith
    go false = omega arith

top : (b : Bool) (n r : ℕ) → r < 2 ^ n → bit (digit b * 2 ^ n + r) n ≡ b
top b n r h = let e : n - n ≡ 0 = omega arith in rw (bit_at_cat_high (digit b) n r n h (le_refl n), e) (lowest b)
  where
    lowest : (b : Bool) → bit (digit b) 0 ≡ b
    lowest true = refl
    lowest false = refl

-- each bit below the count is the test's answer
pub bit_row : (n : ℕ) (p : ℕ → Bool) (j : ℕ) → j < n → bit (row_of n p) j ≡ p j
bit_row zero p j h = absurd (omega arith)
bit_row (suc n) p j h =
    rw (step n p) (last_or_below j n h (λ q. rw q (top (p n) n (row_of n p) (row_low n p))) (λ l. rw (bit_at_cat_low (digit (p n)) n (row_of n p) j l) (bit_row n p j l)))

-- a bit that is taken away
pub row_without : (n : ℕ) (p : ℕ → Bool) (j : ℕ) → j < n → p j ≡ true → row_of n (λ i. p i && not (i == j)) + 2 ^ j ≡ row_of n p
unfolding row_of
row_without zero p j h e = absurd (omega arith)
row_without (suc n) p j h e = last_or_below j n h (λ q. here q) (λ l. below l (row_without n p j l e))
  where
    kept : (i : ℕ) → i ≢ j → (p i && not (i == j)) ≡ p i
    kept i ne = rw (ne_eqb i j ne) (and-true (p i))

    here : j ≡ n → row_of (suc n) (λ i. p i && not (i == j)) + 2 ^ j ≡ row_of (suc n) p
    here q = let f : (p n && not (n == j)) ≡ false = rw (eq-eqb n j (sym q)) (and-false (p n)) in
        let g : p n ≡ true = rw (← q) e in
        let r = row_same n (λ i. p i && not (i == j)) p (λ i l. kept i (omega arith)) in
        rw (f, g, r, q) (omega arith)

    below : j < n → row_of n (λ i. p i && not (i == j)) + 2 ^ j ≡ row_of n p → row_of (suc n) (λ i. p i && not (i == j)) + 2 ^ j ≡ row_of (suc n) p
    below l r = rw (kept n (omega arith)) (omega arith)
