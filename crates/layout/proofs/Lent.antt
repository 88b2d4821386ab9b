-- A lent list whose front is filled one entry after the other; what is past it is kept.
use Rattle.std.proofs.Common.{◌≡◌, refl, ap, sym, ◌∙◌, ℕ, zero, suc, ◌+◌, ◌<◌, ◌≤◌, List, [], ◌∷◌, ◌++◌, map, length, take, slice_index_or, slice_set, add-one, arith}
use Rattle.paper.specs.Bytes.{over}

-- one entry more
over_more : (new old : List ℕ) (x : ℕ) → length new < length old → slice_set (over new old) (length new) x ≡ over (new ++ (x ∷ [])) old
over_more [] [] x h = absurd (omega arith)
over_more [] (o ∷ old) x h = refl
over_more (n ∷ new) [] x h = absurd (omega arith)
over_more (n ∷ new) (o ∷ old) x h = ap (λ (l : List ℕ). n ∷ l) (over_more new old x (omega arith))

module _ {A : Type 0} (f : A → ℕ) where
  map_take : (l : List A) (i : ℕ) (d : A) → i < length l → map f (take (suc i) l) ≡ map f (take i l) ++ (f (slice_index_or l i d) ∷ [])
  map_take [] i d h = absurd (omega arith)
  map_take (a ∷ l) zero d h = refl
  map_take (a ∷ l) (suc i) d h = ap (λ (r : List ℕ). f a ∷ r) (map_take l i d (omega arith))

  length_taken : (l : List A) (i : ℕ) → i ≤ length l → length (map f (take i l)) ≡ i
  length_taken l zero h = refl
  length_taken [] (suc i) h = absurd (omega arith)
  length_taken (a ∷ l) (suc i) h = ap suc (length_taken l i (omega arith))

  pub fill_more : (l : List A) (old now : List ℕ) (i : ℕ) (d : A) → i < length l → length l ≤ length old → now ≡ over (map f (take i l)) old
      → slice_set now i (f (slice_index_or l i d)) ≡ over (map f (take (i + 1) l)) old
  fill_more l old now i d h k e =
      let n = length_taken l i (omega arith) in
      let m = over_more (map f (take i l)) old (f (slice_index_or l i d)) (omega arith) in
      rw (e, add-one, map_take l i d h) (ap (λ (j : ℕ). slice_set (over (map f (take i l)) old) j (f (slice_index_or l i d))) (sym n) ∙ m)

  pub fill_none : (l : List A) (old : List ℕ) → old ≡ over (map f (take 0 l)) old
  fill_none l old = refl
