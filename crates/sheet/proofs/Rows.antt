-- Rows of the relation as the code builds them: a bit more of a row, a row more of the list, a bit less. Assumes nothing.
use Rattle.std.specs.Prelude.{◌≡◌, Bool, true, false, ◌⊎◌, List, [], ◌∷◌, ◌++◌, length, set, replicate, ℕ, suc, ◌+◌, ◌-◌, ◌/◌, ◌^◌, ◌<◌, ◌≤◌}
use Rattle.std.specs.Int.Bits.{bit_and}
use Rattle.std.proofs.Common.{inl, inr, arith, add-one, append_assoc, length-append}
use Rattle.std.proofs.Math.Nat.{pow-suc, pow-le-pow_right}
use Rattle.std.proofs.Math.Seq.{set-append_seam}
use Rattle.std.proofs.lemmas.Bool.{cases_lt}
use Rattle.std.proofs.lemmas.Nat.Bits.{bit_at_above, shr_and_one}
use Rattle.laws.proofs.Rows.{row_low}
use Rattle.laws.specs.Lists.{length_listed, listed_step}
use Rattle.paper.specs.Dispatch.{row_of, slots}
use Rattle.paper.specs.Words.{listed}

-- a row that has a bit is as large as the bit
pub bit_fits : (row j : ℕ) → bit_and (row / 2 ^ j) 1 ≡ 1 → 2 ^ j ≤ row
bit_fits row j h = go (cases_lt row (2 ^ j))
  where
    go : (row < 2 ^ j) ⊎ (2 ^ j ≤ row) → 2 ^ j ≤ row
    go (inl l) = absurd (omega (arith, bit_at_above row j j l (omega arith), shr_and_one row j))
    go (inr l) = l

-- as a loop counts up: the bit of an index fits, and is added where the test passes
pub room_for_bit : (n w : ℕ) (p : ℕ → Bool) → n < w → row_of n p + 2 ^ n < 2 ^ w
room_for_bit n w p h =
    let above : 2 ^ suc n ≤ 2 ^ w = pow-le-pow_right (omega arith) (omega arith) in
    omega (arith, row_low n p, pow-suc 2 n)

pub row_with : (n : ℕ) (p : ℕ → Bool) → p n ≡ true → row_of n p + 2 ^ n ≡ row_of (n + 1) p
unfolding row_of
row_with n p e = rw (add-one, e)

pub row_kept : (n : ℕ) (p : ℕ → Bool) → p n ≡ false → row_of n p ≡ row_of (n + 1) p
unfolding row_of
row_kept n p e = rw (add-one, e) (omega arith)

-- a list in its slots, and one more element
slots_more : (l : List ℕ) (n x : ℕ) → n < 64 → length l ≡ n → set (slots 0 l) n x ≡ slots 0 (l ++ (x ∷ []))
slots_more l n x h q = go (64 - length (l ++ (x ∷ []))) (omega (arith, length-append l (x ∷ [])))
  where
    go : (k : ℕ) → 64 - length l ≡ suc k → set (l ++ replicate (64 - length l) 0) n x ≡ l ++ (x ∷ []) ++ replicate k 0
    go k e = rw (e, append_assoc, ← q) (set-append_seam l 0 (replicate k 0) x)

pub listed_more : (i : ℕ) (f : ℕ → ℕ) → i < 64 → set (slots 0 (listed i f)) i (f i) ≡ slots 0 (listed (i + 1) f)
listed_more i f h = rw (listed_step i f) (slots_more (listed i f) i (f i) h (length_listed i f))
