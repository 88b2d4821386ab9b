-- Sizes, and the end below a task: as a loop counts up, and how large it is. Assumes nothing.
use Rattle.std.specs.Prelude.{◌≡◌, Bool, true, false, ℕ, zero, suc, ◌+◌, ◌-◌, ◌*◌, ◌/◌, ◌≤◌, ◌<◌, max}
use Rattle.std.proofs.Common.{refl, sym, ◌∙◌, ap, arith, div-add-mod', div-lt_iff_lt-mul, mul-le-mul_right}
use Rattle.std.proofs.lemmas.Bool.Decides.{nat_tests}
use Rattle.std.specs.Ordering.{ord_max, nat_cmp}
use Rattle.laws.specs.Greatest.{greatest_step, greatest_keep, greatest_le}
use Rattle.laws.specs.Rounding.{IsMultiple, rounded_ge, rounded_least}
use Rattle.paper.specs.Places.{Nest, rounded_up, end_if, end_below, address_within}
use Rattle.paper.specs.Words.{greatest}

-- a multiple that is not below the need, and less than one alignment above it, is the need rounded up
pub rounded_is : (a need x : ℕ) → 0 < a → IsMultiple a x → need ≤ x → x < need + a → x ≡ rounded_up a need
rounded_is a need x h m low high =
    let least = rounded_least a need x h m low in
    let over = rounded_ge a need h in
    let d = div-add-mod' x a in
    let k : x < suc ((need + (a - 1)) / a) * a = omega arith in
    let q : x / a < suc ((need + (a - 1)) / a) = (div-lt_iff_lt-mul h).1 k in
    let r : x / a ≤ (need + (a - 1)) / a = omega arith in
    let t = mul-le-mul_right a r in
    omega arith

-- the greater of two numbers, as the code takes it
pub greater_of : (a b : ℕ) → ord_max nat_cmp a b ≡ max a b
greater_of a b = grind (arith, nat_tests)

module _ (nest : Nest) where
  -- the end below i, as far as a loop over the tasks has come
  abbrev pub end_so_far : (ℕ → ℕ) → ℕ → ℕ → ℕ
  end_so_far a i n = greatest n (λ j. end_if (nest.may i j) nest a j)

  pub end_more : (a : ℕ → ℕ) (i j : ℕ) → nest.may i j ≡ true → max (end_so_far a i j) (a j + nest.size j) ≡ end_so_far a i (j + 1)
  end_more a i j e =
      ap (λ (b : Bool). max (end_so_far a i j) (end_if b nest a j)) (sym e) ∙ sym (greatest_step (λ j. end_if (nest.may i j) nest a j) j)

  pub end_kept : (a : ℕ → ℕ) (i j : ℕ) → nest.may i j ≡ false → end_so_far a i j ≡ end_so_far a i (j + 1)
  end_kept a i j e = sym (greatest_keep (λ j. end_if (nest.may i j) nest a j) j (rw e (omega arith)))

  pub end_whole : (a : ℕ → ℕ) (i : ℕ) → end_so_far a i nest.count ≡ end_below nest a i
  unfolding end_below
  end_whole a i = refl

  end_below_le : (a : ℕ → ℕ) (b i : ℕ) → ((j : ℕ) → j < nest.count → a j + nest.size j ≤ b) → end_below nest a i ≤ b
  unfolding end_below
  end_below_le a b i h = greatest_le (λ j. end_if (nest.may i j) nest a j) nest.count b (λ j l. go j l (nest.may i j))
    where
      go : (j : ℕ) → j < nest.count → (t : Bool) → end_if t nest a j ≤ b
      go j l true = h j l
      go j l false = omega arith

  -- each level that an address stands on adds one size at most
  pub within_most : (m : ℕ) → ((j : ℕ) → j < nest.count → nest.size j ≤ m) → (f i : ℕ) → address_within f nest i ≤ f * m
  unfolding address_within
  within_most m h zero i = omega arith
  within_most m h (suc f) i =
      end_below_le (λ j. address_within f nest j) (suc f * m) i (λ j l. let a = within_most m h f j in let s = h j l in omega arith)
