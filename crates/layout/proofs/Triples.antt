-- The search for a triple that breaks the transitive rule, as three searches, each inside the next: over two tasks, over one, over all. Assumes nothing.
use Rattle.std.proofs.Common.{◌≡◌, refl, sym, ap, subst, ℕ, ◌<◌, Bool, true, false, not, Option, Some, None}
use Rattle.std.proofs.Math.Bool.{and-false}
use Rattle.std.proofs.lemmas.Option.{none-some}
use Rattle.std.specs.Option.{option_map}
use Rattle.laws.specs.Each.{any_at, any_none, none_any}
use Rattle.laws.specs.Least.{least_none, least_stop}
use Rattle.layout.proofs.Found.{found_nothing, found_at, nothing_passes, smallest_found}
use Rattle.layout.specs.Found.{found, pair_found}
use Rattle.layout.specs.declared.transitive.Pair.{Pair}
use Rattle.paper.specs.Preempting.{breaks, breaks_over, breaks_above, transitive, smallest}
use Rattle.paper.specs.Words.{any, least}

module _ (n : ℕ) (rel : ℕ → ℕ → Bool) (k : ℕ) where
  -- Over j and k: what breaks the rule, and the three ways not to break it
  pub breaks_here : (j i : ℕ) → rel j k ≡ true → rel i j ≡ true → rel i k ≡ false → breaks rel k j i ≡ true
  breaks_here j i a b e = rw (a, b, e)

  pub over_none : (j : ℕ) → rel j k ≡ false → found n (λ i. breaks rel k j i) ≡ None
  over_none j e = found_nothing n (λ i. breaks rel k j i) n refl (none_any (λ i. breaks rel k j i) n (λ i h. rw e))

  pub not_over : (j i : ℕ) → rel i j ≡ false → breaks rel k j i ≡ false
  not_over j i e = rw e (and-false (rel j k))

  pub over_both : (j i : ℕ) → rel i k ≡ true → breaks rel k j i ≡ false
  over_both j i e = rw (e, and-false (rel i j), and-false (rel j k))

  -- Over k
  pub nothing_over : (j : ℕ) → found n (λ i. breaks rel k j i) ≡ None → breaks_over n rel k j ≡ false
  unfolding breaks_over
  nothing_over j e = nothing_passes n (λ i. breaks rel k j i) e

  pub pair_at : (j i : ℕ) → j < n → any j (λ j. breaks_over n rel k j) ≡ false → found n (λ i. breaks rel k j i) ≡ Some i
      → pair_found n rel k ≡ Some (record { j = j; i = i })
  unfolding pair_found breaks_over
  pair_at j i h e q =
      let s = smallest_found n (λ i. breaks rel k j i) i q in
      rw (found_at n (λ j. any n (λ i. breaks rel k j i)) j h e s.some, s.is)

  pub no_pair : (j : ℕ) → j ≡ n → any j (λ j. breaks_over n rel k j) ≡ false → pair_found n rel k ≡ None
  unfolding pair_found
  no_pair j q e = rw (found_nothing n (λ j. breaks_over n rel k j) j q e)

  -- Over all
  abbrev pair_of : ℕ → Pair
  pair_of j = record { j = j; i = least n (λ i. breaks rel k j i) }

  pub nothing_above : pair_found n rel k ≡ None → breaks_above n rel k ≡ false
  unfolding pair_found breaks_above
  nothing_above e = go (found n (λ j. breaks_over n rel k j)) refl e
    where
      go : (o : Option ℕ) → found n (λ j. breaks_over n rel k j) ≡ o → option_map pair_of o ≡ None → any n (λ j. breaks_over n rel k j) ≡ false
      go None q e = nothing_passes n (λ j. breaks_over n rel k j) q
      go (Some j) q e = absurd (none-some (pair_of j) (sym e))

  pub record IsSmallest (j i : ℕ) : Type 0 where
    pub broken : transitive n rel ≡ false
    pub is : smallest n rel ≡ record { k = k; j = j; i = i }

  pub triple_at : (pair : Pair) → k < n → any k (λ k. breaks_above n rel k) ≡ false → pair_found n rel k ≡ Some pair → IsSmallest pair.j pair.i
  unfolding pair_found breaks_above transitive smallest
  triple_at pair h e f = go (found n (λ j. breaks_over n rel k j)) refl f
    where
      go : (o : Option ℕ) → found n (λ j. breaks_over n rel k j) ≡ o → option_map pair_of o ≡ Some pair → IsSmallest pair.j pair.i
      go None q f = absurd (none-some pair f)
      go (Some j) q f =
          let s = smallest_found n (λ j. breaks_over n rel k j) j q in
          let same : pair_of j ≡ pair = cc in
          let first : least n (λ k. breaks_above n rel k) ≡ k = least_stop (λ k. breaks_above n rel k) k n h (least_none (λ k. breaks_above n rel k) k (any_none (λ k. breaks_above n rel k) k e)) s.some in
          rw (← same)
          (record {
            broken = ap not (any_at (λ k. breaks_above n rel k) n k h s.some);
            is = rw (first, s.is);
          })

  pub no_triple : k ≡ n → any k (λ k. breaks_above n rel k) ≡ false → transitive n rel ≡ true
  unfolding transitive
  no_triple q e = ap not (subst (λ (x : ℕ). any x (λ k. breaks_above n rel k) ≡ false) q e)
