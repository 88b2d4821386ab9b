-- Two nests that agree below their count have the same addresses, ends, total, top and chain: nothing that a task past the count might say is looked at. Assumes nothing.
use Rattle.std.specs.Prelude.{◌≡◌, refl, Bool, true, false, if◌then◌else◌, ◌&&◌, List, [], ◌∷◌, ◌++◌, ℕ, zero, suc, ◌+◌, ◌<◌, ◌==◌}
use Rattle.std.proofs.Common.{ap, ap₂, ◌∙◌}
use borrow.Author.Tests.{eqb-false}
use Rattle.laws.specs.Chains.{found_below}
use Rattle.laws.specs.Greatest.{greatest_ext}
use Rattle.laws.specs.Least.{least_ext}
use Rattle.laws.specs.Nests.{Meets}
use Rattle.paper.specs.Places.{Nest, end_if, end_below, total_of, address_within, top_of, below_of, chain_to}
use Rattle.paper.specs.Words.{greatest, least}

pub record Alike (n m : Nest) : Type 0 where
  pub counts : n.count ≡ m.count
  pub mays : (i j : ℕ) → i < n.count → j < n.count → n.may i j ≡ m.may i j
  pub sizes : (i : ℕ) → i < n.count → n.size i ≡ m.size i

module _ (n m : Nest) (alike : Alike n m) where
  -- addresses that agree below the count
  abbrev pub Agree : (ℕ → ℕ) → (ℕ → ℕ) → Type 0
  Agree a b = (i : ℕ) → i < n.count → a i ≡ b i

  ends_same : (a b : ℕ → ℕ) → Agree a b → (i : ℕ) → i < n.count → a i + n.size i ≡ b i + m.size i
  ends_same a b h i l = ap₂ ◌+◌ (h i l) (alike.sizes i l)

  end_if_same : (t : Bool) (a b : ℕ → ℕ) → Agree a b → (j : ℕ) → j < n.count → end_if t n a j ≡ end_if t m b j
  end_if_same true a b h j l = ends_same a b h j l
  end_if_same false a b h j l = refl

  pub end_below_same : (a b : ℕ → ℕ) → Agree a b → (i : ℕ) → i < n.count → end_below n a i ≡ end_below m b i
  unfolding end_below
  end_below_same a b h i l =
      greatest_ext n.count (λ j. end_if (n.may i j) n a j) (λ j. end_if (m.may i j) m b j)
      (λ j k. ap (λ (t : Bool). end_if t n a j) (alike.mays i j l k) ∙ end_if_same (m.may i j) a b h j k)
      ∙ ap (λ (c : ℕ). greatest c (λ j. end_if (m.may i j) m b j)) alike.counts

  pub total_of_same : (a b : ℕ → ℕ) → Agree a b → total_of n a ≡ total_of m b
  unfolding total_of
  total_of_same a b h =
      greatest_ext n.count (λ i. a i + n.size i) (λ i. b i + m.size i) (ends_same a b h)
      ∙ ap (λ (c : ℕ). greatest c (λ i. b i + m.size i)) alike.counts

  pub address_within_same : (depth : ℕ) → Agree (λ i. address_within depth n i) (λ i. address_within depth m i)
  unfolding address_within
  address_within_same zero i l = refl
  address_within_same (suc depth) i l =
      end_below_same (λ j. address_within depth n j) (λ j. address_within depth m j) (address_within_same depth) i l

  pub top_of_same : (a b : ℕ → ℕ) → Agree a b → top_of n a ≡ top_of m b
  unfolding top_of
  top_of_same a b h =
      least_ext n.count (λ i. (a i + n.size i == total_of n a)) (λ i. (b i + m.size i == total_of m b))
      (λ i l. ap₂ ◌==◌ (ends_same a b h i l) (total_of_same a b h))
      ∙ ap (λ (c : ℕ). least c (λ i. (b i + m.size i == total_of m b))) alike.counts

  pub below_of_same : (a b : ℕ → ℕ) → Agree a b → (i : ℕ) → i < n.count → below_of n a i ≡ below_of m b i
  unfolding below_of
  below_of_same a b h i l =
      least_ext n.count (λ j. n.may i j && (a j + n.size j == a i)) (λ j. m.may i j && (b j + m.size j == b i))
      (λ j k. ap₂ ◌&&◌ (alike.mays i j l k) (ap₂ ◌==◌ (ends_same a b h j k) (h i l)))
      ∙ ap (λ (c : ℕ). least c (λ j. m.may i j && (b j + m.size j == b i))) alike.counts

  -- the task below is looked for where the address isn't 0, and then there is one
  pub chain_to_same : (a b : ℕ → ℕ) → Agree a b → Meets n a → (depth i : ℕ) → i < n.count → chain_to depth n a i ≡ chain_to depth m b i
  unfolding chain_to
  chain_to_same a b h rule zero i l = refl
  chain_to_same a b h rule (suc depth) i l =
      go (a i == 0) refl (λ j k. chain_to_same a b h rule depth j k)
      ∙ ap (λ (x : ℕ). (if (x == 0) then [] else chain_to depth m b (below_of m b i)) ++ (i ∷ [])) (h i l)
    where
      go : (t : Bool) → (a i == 0) ≡ t → ((j : ℕ) → j < n.count → chain_to depth n a j ≡ chain_to depth m b j)
          → (if t then [] else chain_to depth n a (below_of n a i)) ++ (i ∷ []) ≡ (if t then [] else chain_to depth m b (below_of m b i)) ++ (i ∷ [])
      go true e r = refl
      go false e r =
          let low = (found_below n a rule i l (eqb-false (a i) 0 e)).below in
          ap (λ (c : List ℕ). c ++ (i ∷ [])) (r (below_of n a i) low ∙ ap (λ (j : ℕ). chain_to depth m b j) (below_of_same a b h i l))
