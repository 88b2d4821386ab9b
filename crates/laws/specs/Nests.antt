-- The rule of addresses, for any nest: it has one solution where something falls along the relation, and it keeps tasks apart of which one may preempt the other.
use Rattle.std.specs.Prelude.{◌≡◌, Bool, ◌&&◌, nat_le, refl, true, false, ℕ, zero, suc, ◌+◌, ◌≤◌, ◌<◌, ◌==◌}
use Rattle.std.proofs.Common.{ap, sym, ◌∙◌, le_refl, arith, leb-true, leb-false, eq-eqb}
use Rattle.laws.specs.Tests.{and_both}
use Rattle.laws.specs.Each.{Hit}
use Rattle.laws.specs.Greatest.{Attained, greatest_ge, greatest_le, greatest_attained, greatest_ext, greatest_none, greatest_has}
use Rattle.laws.specs.Rounding.{IsMultiple, multiple_sum}
use Rattle.paper.specs.Places.{Nest, end_if, end_below, total_of, address_within}
use Rattle.paper.specs.Words.{greatest}

-- "The address of a task is 0 when it may preempt nobody, else the greatest address plus size among the tasks it may preempt": addresses that meet this rule
abbrev pub Meets : Nest → (ℕ → ℕ) → Type 0
Meets nest a = (i : ℕ) → i < nest.count → a i ≡ end_below nest a i

-- a number that falls from a task to each that it may preempt, such as its priority
abbrev pub IsFalling : Nest → (ℕ → ℕ) → Type 0
IsFalling nest level = (i j : ℕ) → i < nest.count → j < nest.count → nest.may i j ≡ true → level j < level i

module _ (nest : Nest) where
  -- the end below i turns only on the addresses of the tasks that i may preempt
  pub end_below_ext : (a b : ℕ → ℕ) (i : ℕ) → ((j : ℕ) → j < nest.count → nest.may i j ≡ true → a j ≡ b j) → end_below nest a i ≡ end_below nest b i
  unfolding end_below
  end_below_ext a b i h =
      greatest_ext nest.count (λ j. end_if (nest.may i j) nest a j) (λ j. end_if (nest.may i j) nest b j) (λ j l. go j l (nest.may i j) refl)
    where
      go : (j : ℕ) → j < nest.count → (t : Bool) → nest.may i j ≡ t → end_if t nest a j ≡ end_if t nest b j
      go j l true e = ap (λ (x : ℕ). x + nest.size j) (h j l e)
      go j l false e = refl

  -- 0 where it may preempt nobody
  pub end_below_none : (a : ℕ → ℕ) (i : ℕ) → ((j : ℕ) → j < nest.count → nest.may i j ≡ false) → end_below nest a i ≡ 0
  unfolding end_below
  end_below_none a i h = greatest_none nest.count (λ j. end_if (nest.may i j) nest a j) (λ j l. rw (h j l))

  -- an end that is counted is at most the end below
  pub end_below_ge : (a : ℕ → ℕ) (i j : ℕ) → j < nest.count → nest.may i j ≡ true → a j + nest.size j ≤ end_below nest a i
  unfolding end_below
  end_below_ge a i j l e = rw e at (greatest_ge (λ j. end_if (nest.may i j) nest a j) nest.count j l)

  -- where it isn't 0 it is the end of a task that i may preempt
  pub end_below_hit : (a : ℕ → ℕ) (i : ℕ) → (end_below nest a i ≡ 0 → ⊥) → Hit nest.count (λ j. nest.may i j && (a j + nest.size j == end_below nest a i))
  unfolding end_below
  end_below_hit a i h = go (nat_le nest.count 0) refl
    where
      hit : (j : ℕ) → j < nest.count → (t : Bool) → nest.may i j ≡ t → end_if t nest a j ≡ greatest nest.count (λ j. end_if (nest.may i j) nest a j)
          → Hit nest.count (λ j. nest.may i j && (a j + nest.size j == (greatest nest.count (λ j. end_if (nest.may i j) nest a j))))
      hit j l true e s = record { index = j; below = l; passes = and_both (nest.may i j) _ e (eq-eqb _ _ s) }
      hit j l false e s = absurd (h (sym s))

      go : (b : Bool) → nat_le nest.count 0 ≡ b → Hit nest.count (λ j. nest.may i j && (a j + nest.size j == (greatest nest.count (λ j. end_if (nest.may i j) nest a j))))
      go true e =
          let z = leb-true nest.count 0 e in
          absurd (h (greatest_none nest.count (λ j. end_if (nest.may i j) nest a j) (λ j l. absurd (omega arith))))
      go false e =
          let z = leb-false nest.count 0 e in
          let r = greatest_attained (λ j. end_if (nest.may i j) nest a j) nest.count z in
          hit r.index r.below (nest.may i r.index) refl r.same

  -- The total
  pub end_within : (a : ℕ → ℕ) (i : ℕ) → i < nest.count → a i + nest.size i ≤ total_of nest a
  unfolding total_of
  end_within a i l = greatest_ge (λ i. a i + nest.size i) nest.count i l

  pub total_attained : (a : ℕ → ℕ) → 0 < nest.count → Attained nest.count (λ i. a i + nest.size i) (total_of nest a)
  unfolding total_of
  total_attained a h = greatest_attained (λ i. a i + nest.size i) nest.count h

  pub total_least : (a : ℕ → ℕ) (b : ℕ) → ((i : ℕ) → i < nest.count → a i + nest.size i ≤ b) → total_of nest a ≤ b
  unfolding total_of
  total_least a b h = greatest_le (λ i. a i + nest.size i) nest.count b h

  pub total_ext : (a b : ℕ → ℕ) → ((i : ℕ) → i < nest.count → a i ≡ b i) → total_of nest a ≡ total_of nest b
  unfolding total_of
  total_ext a b h = greatest_ext nest.count (λ i. a i + nest.size i) (λ i. b i + nest.size i) (λ i l. ap (λ (x : ℕ). x + nest.size i) (h i l))

  module _ (a : ℕ → ℕ) (rule : Meets nest a) where
    -- a task lies above each that it may preempt
    pub lies_above : (i j : ℕ) → i < nest.count → j < nest.count → nest.may i j ≡ true → a j + nest.size j ≤ a i
    lies_above i j hi hj e = rw (rule i hi) (end_below_ge a i j hj e)

    -- where its address isn't 0, it stands right on one of them
    pub stands_on : (i : ℕ) → i < nest.count → (a i ≡ 0 → ⊥) → Hit nest.count (λ j. nest.may i j && (a j + nest.size j == a i))
    stands_on i l h = rw (rule i l) (end_below_hit a i (λ z. h (rule i l ∙ z)))

module _ (nest : Nest) (level : ℕ → ℕ) (falls : IsFalling nest level) where
  end_below_low : (a : ℕ → ℕ) (i : ℕ) → i < nest.count → level i ≤ 0 → end_below nest a i ≡ 0
  end_below_low a i l h = end_below_none nest a i (λ j m. go j m (nest.may i j) refl)
    where
      go : (j : ℕ) → j < nest.count → (t : Bool) → nest.may i j ≡ t → t ≡ false
      go j m true e = let d = falls i j l m e in absurd (omega arith)
      go j m false e = refl

  -- the rule has one solution
  pub solved_within : (a : ℕ → ℕ) → Meets nest a → (f i : ℕ) → i < nest.count → level i ≤ f → a i ≡ address_within f nest i
  unfolding address_within
  solved_within a r zero i l h = r i l ∙ end_below_low a i l h
  solved_within a r (suc f) i l h =
      r i l ∙ end_below_ext nest a (λ j. address_within f nest j) i (λ j m e. let d = falls i j l m e in solved_within a r f j m (omega arith))

  -- a bound above the level changes nothing
  pub within_enough : (f g i : ℕ) → i < nest.count → level i ≤ f → level i ≤ g → address_within f nest i ≡ address_within g nest i
  unfolding address_within
  within_enough zero zero i l h k = refl
  within_enough zero (suc g) i l h k = sym (end_below_low (λ j. address_within g nest j) i l h)
  within_enough (suc f) zero i l h k = end_below_low (λ j. address_within f nest j) i l k
  within_enough (suc f) (suc g) i l h k =
      end_below_ext nest (λ j. address_within f nest j) (λ j. address_within g nest j) i (λ j m e. let d = falls i j l m e in within_enough f g j m (omega arith) (omega arith))

  -- and the recursion meets it
  pub within_meets : Meets nest (λ i. address_within (level i) nest i)
  within_meets i l = within_enough (level i) (suc (level i)) i l (le_refl (level i)) (omega arith) ∙ next i l
    where
      next : (i : ℕ) → i < nest.count → address_within (suc (level i)) nest i ≡ end_below nest (λ j. address_within (level j) nest j) i
      next i l = unfold address_within in
          end_below_ext nest (λ j. address_within (level i) nest j) (λ j. address_within (level j) nest j) i (λ j m e. let d = falls i j l m e in within_enough (level i) (level j) j m (omega arith) (le_refl (level j)))

  pub one_solution : (a b : ℕ → ℕ) → Meets nest a → Meets nest b → (i : ℕ) → i < nest.count → a i ≡ b i
  one_solution a b p q i l = solved_within a p (level i) i l (le_refl (level i)) ∙ sym (solved_within b q (level i) i l (le_refl (level i)))

  -- what 0 has and each size keeps, every address has
  module _ (P : ℕ → Type 0) (z : P 0) (s : (j x : ℕ) → j < nest.count → P x → P (x + nest.size j)) (a : ℕ → ℕ) (r : Meets nest a) where
    end_if_has : (j : ℕ) → j < nest.count → (t : Bool) → (t ≡ true → P (a j)) → P (end_if t nest a j)
    end_if_has j l true h = s j (a j) l (h refl)
    end_if_has j l false h = z

    end_below_has : (i : ℕ) → ((j : ℕ) → j < nest.count → nest.may i j ≡ true → P (a j)) → P (end_below nest a i)
    unfolding end_below
    end_below_has i h = greatest_has (λ j. end_if (nest.may i j) nest a j) P z nest.count (λ j l. end_if_has j l (nest.may i j) (h j l))

    has_within : (f i : ℕ) → i < nest.count → level i ≤ f → P (a i)
    has_within zero i l h = rw (r i l) (end_below_has i (λ j m e. let d = falls i j l m e in absurd (omega arith)))
    has_within (suc f) i l h = rw (r i l) (end_below_has i (λ j m e. let d = falls i j l m e in has_within f j m (omega arith)))

    pub address_has : (i : ℕ) → i < nest.count → P (a i)
    address_has i l = has_within (level i) i l (le_refl (level i))

  -- so addresses are multiples of what every size is a multiple of
  pub address_multiple : (g : ℕ) → IsMultiple g 0 → ((j : ℕ) → j < nest.count → IsMultiple g (nest.size j)) → (a : ℕ → ℕ) → Meets nest a → (i : ℕ) → i < nest.count → IsMultiple g (a i)
  address_multiple g z h a r i l = address_has (IsMultiple g) z (λ j x m p. multiple_sum g x (nest.size j) p (h j m)) a r i l
