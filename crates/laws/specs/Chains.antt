-- The chain, for any nest whose addresses meet the rule: it leads from address 0 to the top's end without a gap, each task of it may preempt the one before, and so its sizes add up.
use Rattle.std.specs.Prelude.{◌≡◌, ◌&&◌, refl, Bool, true, false, if◌then◌else◌, List, [], ◌∷◌, ◌++◌, ℕ, zero, suc, ◌+◌, ◌≤◌, ◌<◌, ◌==◌}
use Rattle.std.proofs.Common.{ap, sym, ◌∙◌, arith, eqb-true, eq-eqb}
use borrow.Author.Tests.{eqb-false}
use Rattle.laws.specs.Tests.{and_left, and_right}
use Rattle.laws.specs.Least.{least_hit, least_first, least_of_hit, least_below}
use Rattle.laws.specs.Nests.{Meets, IsFalling, stands_on, total_attained, end_below_none}
use Rattle.paper.specs.Places.{Nest, total_of, top_of, below_of, chain_to}
use Rattle.paper.specs.Words.{least}

-- the sizes of some tasks, added up
unfoldable pub sizes : Nest → List ℕ → ℕ
sizes nest [] = 0
sizes nest (i ∷ l) = nest.size i + sizes nest l

-- tasks that lie one on the other without a gap, from an address up to an end
abbrev pub Follow : Nest → (ℕ → ℕ) → ℕ → List ℕ → ℕ → Type 0
Follow nest a from [] to = from ≡ to
Follow nest a from (i ∷ l) to = (i < nest.count) × (a i ≡ from) × Follow nest a (a i + nest.size i) l to

-- each may preempt the one before it
abbrev pub Climb : Nest → List ℕ → Type 0
Climb nest [] = Unit {0}
Climb nest (i ∷ []) = Unit {0}
Climb nest (i ∷ (j ∷ l)) = (nest.may j i ≡ true) × Climb nest (j ∷ l)

module _ (nest : Nest) (a : ℕ → ℕ) where
  pub follow_sizes : (from : ℕ) (l : List ℕ) (to : ℕ) → Follow nest a from l to → from + sizes nest l ≡ to
  unfolding sizes
  follow_sizes from [] to h = omega arith
  follow_sizes from (i ∷ l) to h = let r = follow_sizes (a i + nest.size i) l to h.2 in let s = h.1 in omega arith

  pub follow_more : (from : ℕ) (l : List ℕ) (i : ℕ) → Follow nest a from l (a i) → i < nest.count → Follow nest a from (l ++ (i ∷ [])) (a i + nest.size i)
  follow_more from [] i h b = (b, sym h, refl)
  follow_more from (j ∷ l) i h b = (h.0, h.1, follow_more (a j + nest.size j) l i h.2 b)

  pub climb_more : (l : List ℕ) (j i : ℕ) → Climb nest (l ++ (j ∷ [])) → nest.may i j ≡ true → Climb nest ((l ++ (j ∷ [])) ++ (i ∷ []))
  climb_more [] j i h e = (e, tt)
  climb_more (x ∷ []) j i h e = (h.0, (e, tt))
  climb_more (x ∷ (y ∷ l)) j i h e = (h.0, climb_more (y ∷ l) j i h.1 e)

  -- The top: the first task whose end is the total
  pub top_below : 0 < nest.count → top_of nest a < nest.count
  unfolding top_of
  top_below h =
      let r = total_attained nest a h in
      least_below (λ i. (a i + nest.size i == total_of nest a)) nest.count r.index r.below (eq-eqb (a r.index + nest.size r.index) (total_of nest a) r.same)

  pub top_end : 0 < nest.count → a (top_of nest a) + nest.size (top_of nest a) ≡ total_of nest a
  top_end h = eqb-true (a (top_of nest a) + nest.size (top_of nest a)) (total_of nest a) (go h)
    where
      go : 0 < nest.count → (a (top_of nest a) + nest.size (top_of nest a) == total_of nest a) ≡ true
      go h = unfold top_of in least_hit (λ i. (a i + nest.size i == total_of nest a)) nest.count (top_below h)

  pub top_first : (i : ℕ) → i < top_of nest a → (a i + nest.size i ≡ total_of nest a) → ⊥
  unfolding top_of
  top_first i h = eqb-false (a i + nest.size i) (total_of nest a) (least_first (λ i. (a i + nest.size i == total_of nest a)) nest.count i h)

  -- what stands under the top of a chain; the chain ends in its top
  abbrev pub under : ℕ → ℕ → List ℕ
  under zero i = []
  under (suc f) i = (if (a i == 0) then [] else chain_to f nest a (below_of nest a i))

  pub chain_split : (f i : ℕ) → chain_to f nest a i ≡ under f i ++ (i ∷ [])
  unfolding chain_to
  chain_split zero i = refl
  chain_split (suc f) i = refl

  module _ (rule : Meets nest a) where
    -- The task below: it is one that i may preempt, and its end is the address of i
    pub record Below (i : ℕ) : Type 0 where
      pub below : below_of nest a i < nest.count
      pub over : nest.may i (below_of nest a i) ≡ true
      pub touches : a (below_of nest a i) + nest.size (below_of nest a i) ≡ a i

    pub found_below : (i : ℕ) → i < nest.count → (a i ≡ 0 → ⊥) → Below i
    unfolding below_of
    found_below i l h =
        let p : ℕ → Bool = λ j. nest.may i j && (a j + nest.size j == a i) in
        let b = least_of_hit p nest.count (stands_on nest a rule i l h) in
        let e = least_hit p nest.count b in
        let j = least nest.count p in
        record {
          below = b;
          over = and_left (nest.may i j) (a j + nest.size j == a i) e;
          touches = eqb-true (a j + nest.size j) (a i) (and_right (nest.may i j) (a j + nest.size j == a i) e);
        }

    module _ (level : ℕ → ℕ) (falls : IsFalling nest level) where
      -- a task of level 0 has address 0
      pub low_zero : (i : ℕ) → i < nest.count → level i ≤ 0 → a i ≡ 0
      low_zero i l h = rule i l ∙ end_below_none nest a i (λ j m. go j m (nest.may i j) refl)
        where
          go : (j : ℕ) → j < nest.count → (t : Bool) → nest.may i j ≡ t → t ≡ false
          go j m true e = let d = falls i j l m e in absurd (omega arith)
          go j m false e = refl

      pub chain_follows : (f i : ℕ) → i < nest.count → level i ≤ f → Follow nest a 0 (chain_to f nest a i) (a i + nest.size i)
      unfolding chain_to
      chain_follows zero i l h = (l, low_zero i l h, refl)
      chain_follows (suc f) i l h = go (a i == 0) refl (λ j m d. chain_follows f j m d)
        where
          go : (b : Bool) → (a i == 0) ≡ b → ((j : ℕ) → j < nest.count → level j ≤ f → Follow nest a 0 (chain_to f nest a j) (a j + nest.size j))
              → Follow nest a 0 ((if b then [] else chain_to f nest a (below_of nest a i)) ++ (i ∷ [])) (a i + nest.size i)
          go true e k = (l, eqb-true (a i) 0 e, refl)
          go false e k =
              let t = found_below i l (eqb-false (a i) 0 e) in
              let d = falls i (below_of nest a i) l t.below t.over in
              let r = k (below_of nest a i) t.below (omega arith) in
              follow_more 0 (chain_to f nest a (below_of nest a i)) i (rw t.touches at r) l

      pub chain_climbs : (f i : ℕ) → i < nest.count → level i ≤ f → Climb nest (chain_to f nest a i)
      unfolding chain_to
      chain_climbs zero i l h = tt
      chain_climbs (suc f) i l h = go (a i == 0) refl (λ j m d. chain_climbs f j m d)
        where
          go : (b : Bool) → (a i == 0) ≡ b → ((j : ℕ) → j < nest.count → level j ≤ f → Climb nest (chain_to f nest a j))
              → Climb nest ((if b then [] else chain_to f nest a (below_of nest a i)) ++ (i ∷ []))
          go true e k = tt
          go false e k =
              let j = below_of nest a i in
              let t = found_below i l (eqb-false (a i) 0 e) in
              let d = falls i j l t.below t.over in
              rw (chain_split f j) (climb_more (under f j) j i (rw (chain_split f j) at (k j t.below (omega arith))) t.over)

      -- its sizes add up to the end of its top
      pub chain_sizes : (f i : ℕ) → i < nest.count → level i ≤ f → sizes nest (chain_to f nest a i) ≡ a i + nest.size i
      chain_sizes f i l h = let r = follow_sizes 0 (chain_to f nest a i) (a i + nest.size i) (chain_follows f i l h) in omega arith

      -- a bound above the level changes nothing
      pub chain_enough : (f g i : ℕ) → i < nest.count → level i ≤ f → level i ≤ g → chain_to f nest a i ≡ chain_to g nest a i
      unfolding chain_to
      chain_enough zero zero i l h k = refl
      chain_enough zero (suc g) i l h k = rw (eq-eqb (a i) 0 (low_zero i l h))
      chain_enough (suc f) zero i l h k = rw (eq-eqb (a i) 0 (low_zero i l k))
      chain_enough (suc f) (suc g) i l h k = go (a i == 0) refl (λ j m d e. chain_enough f g j m d e)
        where
          go : (b : Bool) → (a i == 0) ≡ b → ((j : ℕ) → j < nest.count → level j ≤ f → level j ≤ g → chain_to f nest a j ≡ chain_to g nest a j)
              → (if b then [] else chain_to f nest a (below_of nest a i)) ++ (i ∷ []) ≡ (if b then [] else chain_to g nest a (below_of nest a i)) ++ (i ∷ [])
          go true e r = refl
          go false e r =
              let j = below_of nest a i in
              let t = found_below i l (eqb-false (a i) 0 e) in
              let d = falls i j l t.below t.over in
              ap (λ (c : List ℕ). c ++ (i ∷ [])) (r j t.below (omega arith) (omega arith))
