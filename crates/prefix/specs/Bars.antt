-- Bars rise strictly among the pairs of a sheet's tasks, so there are no more bars than pairs: with each bar that is read, fewer pairs are left.
use Rattle.std.specs.Prelude.{◌≡◌, refl, true, false, ◌&&◌, List, ◌⊎◌, nat_lt, ◌==◌, slice_index_or, ℕ, suc, ◌+◌, ◌*◌, ◌/◌, ◌%◌, ◌≤◌, ◌<◌, length}
use Rattle.std.proofs.Common.{ap₂, sym, ◌∙◌, subst, inl, inr, ⊎_elim, mod-eq_of_lt, add-zero, ltb-true, eqb-true, lt-ltb, le-ltb, eq-eqb, mul-le-mul_right, suc-mul, arith}
use Rattle.std.proofs.Math.Nat.{mul-add-div_right, mul-add-mod_self_right, div-eq_of_lt}
use Rattle.laws.specs.Lists.{among_stands}
use Rattle.laws.specs.Relations.{tally, tally_less, tally_mono, tally_all}
use Rattle.laws.specs.Tests.{and_left, and_right, or_cases, or_left, or_right}
use Rattle.paper.specs.Sheets.{Bar, rises}
use Rattle.paper.specs.Words.{among}

-- The order of bars
record IsRising (a b : Bar) : Type 0 where
  order : (a.lower < b.lower) ⊎ ((a.lower ≡ b.lower) × (a.upper < b.upper))

rises_true : (a b : Bar) → rises a b ≡ true → IsRising a b
rises_true a b e =
    record {
      order = ⊎_elim
          (λ p. inl (ltb-true a.lower b.lower p))
          (λ p. inr (eqb-true a.lower b.lower (and_left (a.lower == b.lower) (nat_lt a.upper b.upper) p), ltb-true a.upper b.upper (and_right (a.lower == b.lower) (nat_lt a.upper b.upper) p)))
          (or_cases (nat_lt a.lower b.lower) ((a.lower == b.lower) && nat_lt a.upper b.upper) e);
    }

lower_rises : (a b : Bar) → a.lower < b.lower → rises a b ≡ true
lower_rises a b h = or_left (nat_lt a.lower b.lower) ((a.lower == b.lower) && nat_lt a.upper b.upper) (lt-ltb a.lower b.lower h)

upper_rises : (a b : Bar) → a.lower ≡ b.lower → a.upper < b.upper → rises a b ≡ true
upper_rises a b e h = or_right (nat_lt a.lower b.lower) ((a.lower == b.lower) && nat_lt a.upper b.upper) (rw (eq-eqb a.lower b.lower e, lt-ltb a.upper b.upper h))

pub rises_trans : (a b c : Bar) → rises a b ≡ true → rises b c ≡ true → rises a c ≡ true
rises_trans a b c p q =
    ⊎_elim
    (λ x. ⊎_elim (λ y. lower_rises a c (omega arith)) (λ y. let z = y.0 in lower_rises a c (omega arith)) (rises_true b c q).order)
    (λ x. ⊎_elim (λ y. let z = x.0 in lower_rises a c (omega arith)) (λ y. let z = x.1 in let w = y.1 in upper_rises a c (x.0 ∙ y.0) (omega arith)) (rises_true b c q).order)
    (rises_true a b p).order

pub rises_not : (b : Bar) → rises b b ≡ false
rises_not b = rw (le-ltb b.lower b.lower (omega arith), eq-eqb b.lower b.lower refl, le-ltb b.upper b.upper (omega arith))

-- The pairs of some identities, numbered, and how many of them lie above a bar
abbrev pub pair_at : List ℕ → ℕ → Bar
pair_at ids k = record { lower = slice_index_or ids (k / length ids) 0; upper = slice_index_or ids (k % length ids) 0 }

unfoldable pub left : List ℕ → Bar → ℕ
left ids b = tally (length ids * length ids) (λ k. rises b (pair_at ids k))

module _ (ids : List ℕ) where
  pub left_most : (b : Bar) → left ids b ≤ length ids * length ids
  unfolding left
  left_most b =
      let m = tally_mono (length ids * length ids) (λ k. rises b (pair_at ids k)) (λ k. true) (λ i l e. refl) in
      let a = tally_all (length ids * length ids) in
      omega arith

  -- the number of a pair of two identities
  numbered : (i j : ℕ) → i < length ids → j < length ids → pair_at ids (i * length ids + j) ≡ record { lower = slice_index_or ids i 0; upper = slice_index_or ids j 0 }
  numbered i j p q =
      let c = length ids in
      let d : (i * c + j) / c ≡ i = mul-add-div_right {m = c} (omega arith) i j ∙ rw (div-eq_of_lt q) (add-zero i) in
      let m : (i * c + j) % c ≡ j = mul-add-mod_self_right i c j ∙ mod-eq_of_lt q in
      rw (d, m)

  pub left_falls : (a b : Bar) → among b.lower ids ≡ true → among b.upper ids ≡ true → rises a b ≡ true → left ids b < left ids a
  unfolding left
  left_falls a b p q e =
      let u = among_stands b.lower ids p in
      let v = among_stands b.upper ids q in
      let i = u.index in
      let j = v.index in
      let c = length ids in
      let same : pair_at ids (i * c + j) ≡ b = numbered i j u.below v.below ∙ ap₂ (λ (x y : ℕ). record { lower = x; upper = y }) u.same v.same in
      let bu = u.below in
      let bv = v.below in
      let fits : suc i * c ≤ c * c = mul-le-mul_right c (omega arith) in
      let more = suc-mul i c in
      tally_less (c * c) (λ k. rises b (pair_at ids k)) (λ k. rises a (pair_at ids k))
      (λ k l r. rises_trans a b (pair_at ids k) e r) (i * c + j) (omega arith)
      (subst (λ (x : Bar). rises a x ≡ true) (sym same) e) (subst (λ (x : Bar). rises b x ≡ false) (sym same) (rises_not b))
