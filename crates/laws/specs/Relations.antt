-- Relations on the numbers below n: `transitive` is what it says, `smallest` is the smallest triple that breaks it, and a transitive irreflexive relation has a rank that falls, so that no chain in it is longer than n. Assumes nothing.
use Rattle.std.specs.Prelude.{◌≡◌, refl, Bool, false, if◌then◌else◌, not, ◌&&◌, List, [], ◌∷◌, ℕ, zero, suc, ◌+◌, ◌≤◌, ◌<◌, length, true}
use Rattle.std.proofs.Common.{ap, ◌∙◌, le_refl, add-one, arith}
use Rattle.std.proofs.lemmas.Bool.{not-true, not-false}
use Rattle.laws.specs.Tests.{and_left, and_right, and_both, not_both, not_failed, last_or_below}
use Rattle.laws.specs.Each.{any_at, any_hit, any_ext}
use Rattle.laws.specs.Least.{least_hit, least_at, least_of_hit, least_ext}
use Rattle.paper.specs.Words.{any, least}
use Rattle.paper.specs.Preempting.{breaks, breaks_over, breaks_above, transitive, smallest}

module _ (n : ℕ) (rel : ℕ → ℕ → Bool) where
  -- "whenever j may preempt k and i may preempt j, i may preempt k"
  abbrev pub IsTransitive : Type 0
  IsTransitive = (i j k : ℕ) → i < n → j < n → k < n → rel i j ≡ true → rel j k ≡ true → rel i k ≡ true

  abbrev pub IsIrreflexive : Type 0
  IsIrreflexive = (i : ℕ) → i < n → rel i i ≡ false

  -- a triple below n that breaks it
  pub record Breaks (k j i : ℕ) : Type 0 where
    pub k_below : k < n
    pub j_below : j < n
    pub i_below : i < n
    pub j_over_k : rel j k ≡ true
    pub i_over_j : rel i j ≡ true
    pub not_over : rel i k ≡ false

module _ (n : ℕ) (rel : ℕ → ℕ → Bool) where
  breaks_all : (k j i : ℕ) → Breaks n rel k j i → breaks rel k j i ≡ true
  breaks_all k j i b =
      and_both (rel j k) (rel i j && not (rel i k)) b.j_over_k (and_both (rel i j) (not (rel i k)) b.i_over_j (ap not b.not_over))

  all_breaks : (k j i : ℕ) → k < n → j < n → i < n → breaks rel k j i ≡ true → Breaks n rel k j i
  all_breaks k j i hk hj hi e =
      let r = and_right (rel j k) (rel i j && not (rel i k)) e in
      record {
        k_below = hk;
        j_below = hj;
        i_below = hi;
        j_over_k = and_left (rel j k) (rel i j && not (rel i k)) e;
        i_over_j = and_left (rel i j) (not (rel i k)) r;
        not_over = not-true (rel i k) (and_right (rel i j) (not (rel i k)) r);
      }

  over : (k j i : ℕ) → Breaks n rel k j i → breaks_over n rel k j ≡ true
  unfolding breaks_over
  over k j i b = any_at (λ x. breaks rel k j x) n i b.i_below (breaks_all k j i b)

  above : (k j i : ℕ) → Breaks n rel k j i → breaks_above n rel k ≡ true
  unfolding breaks_above
  above k j i b = any_at (λ x. breaks_over n rel k x) n j b.j_below (over k j i b)

  pub transitive_at : transitive n rel ≡ true → IsTransitive n rel
  unfolding transitive
  transitive_at e i j k hi hj hk p q =
      not_failed (rel i k) (λ z. not_both (any n (λ x. breaks_above n rel x))
      (any_at (λ x. breaks_above n rel x) n k hk (above k j i (record { k_below = hk; j_below = hj; i_below = hi; j_over_k = q; i_over_j = p; not_over = z })))
      (not-true (any n (λ x. breaks_above n rel x)) e))

  -- The smallest triple
  record Found : Type 0 where
    k : ℕ
    j : ℕ
    i : ℕ
    broken : Breaks n rel k j i

  found : transitive n rel ≡ false → Found
  unfolding transitive breaks_above breaks_over
  found e =
      let x = any_hit (λ k. breaks_above n rel k) n (not-false (any n (λ k. breaks_above n rel k)) e) in
      let y = any_hit (λ j. breaks_over n rel x.index j) n x.passes in
      let z = any_hit (λ i. breaks rel x.index y.index i) n y.passes in
      record { k = x.index; j = y.index; i = z.index; broken = all_breaks x.index y.index z.index x.below y.below z.below z.passes }

  -- it breaks the rule
  pub smallest_breaks : transitive n rel ≡ false → let t = smallest n rel in Breaks n rel t.k t.j t.i
  unfolding transitive smallest breaks_above breaks_over
  smallest_breaks e =
      let t = smallest n rel in
      let hk = least_of_hit (λ k. breaks_above n rel k) n (any_hit (λ k. breaks_above n rel k) n (not-false (any n (λ k. breaks_above n rel k)) e)) in
      let pk : breaks_above n rel t.k ≡ true = least_hit (λ k. breaks_above n rel k) n hk in
      let hj = least_of_hit (λ j. breaks_over n rel t.k j) n (any_hit (λ j. breaks_over n rel t.k j) n pk) in
      let pj : breaks_over n rel t.k t.j ≡ true = least_hit (λ j. breaks_over n rel t.k j) n hj in
      let hi = least_of_hit (λ i. breaks rel t.k t.j i) n (any_hit (λ i. breaks rel t.k t.j i) n pj) in
      all_breaks t.k t.j t.i hk hj hi (least_hit (λ i. breaks rel t.k t.j i) n hi)

  -- and none that breaks it comes before, k first
  pub smallest_k : (k j i : ℕ) → Breaks n rel k j i → (smallest n rel).k ≤ k
  unfolding smallest
  smallest_k k j i b = least_at (λ x. breaks_above n rel x) n k b.k_below (above k j i b)

  pub smallest_j : (j i : ℕ) → Breaks n rel (smallest n rel).k j i → (smallest n rel).j ≤ j
  unfolding smallest
  smallest_j j i b = least_at (λ x. breaks_over n rel (smallest n rel).k x) n j b.j_below (over (smallest n rel).k j i b)

  pub smallest_i : (i : ℕ) → Breaks n rel (smallest n rel).k (smallest n rel).j i → (smallest n rel).i ≤ i
  unfolding smallest
  smallest_i i b =
      least_at (λ x. breaks rel (smallest n rel).k (smallest n rel).j x) n i b.i_below (breaks_all (smallest n rel).k (smallest n rel).j i b)

  pub at_transitive : IsTransitive n rel → transitive n rel ≡ true
  at_transitive h =
      not_failed (transitive n rel) (λ e.
      let b = (found e).broken in
      not_both (rel (found e).i (found e).k) (h (found e).i (found e).j (found e).k b.i_below b.j_below b.k_below b.i_over_j b.j_over_k) b.not_over)

-- How many numbers below n pass
unfoldable pub tally : ℕ → (ℕ → Bool) → ℕ
tally zero p = 0
tally (suc n) p = tally n p + (if p n then 1 else 0)

cond_le : (a b : Bool) → (a ≡ true → b ≡ true) → (if a then 1 else 0) ≤ (if b then 1 else 0)
cond_le true b h = rw (h refl) (le_refl 1)
cond_le false b h = omega arith

pub tally_mono : (n : ℕ) (p q : ℕ → Bool) → ((i : ℕ) → i < n → p i ≡ true → q i ≡ true) → tally n p ≤ tally n q
unfolding tally
tally_mono zero p q h = le_refl 0
tally_mono (suc n) p q h =
    let a = tally_mono n p q (λ i l. h i (omega arith)) in
    let b = cond_le (p n) (q n) (h n (le_refl (suc n))) in
    omega arith

pub tally_less : (n : ℕ) (p q : ℕ → Bool) → ((i : ℕ) → i < n → p i ≡ true → q i ≡ true) → (j : ℕ) → j < n → q j ≡ true → p j ≡ false → tally n p < tally n q
unfolding tally
tally_less zero p q h j l a b = absurd (omega arith)
tally_less (suc n) p q h j l a b = last_or_below j n l here (λ m. below m (tally_less n p q (λ i k. h i (omega arith)) j m a b))
  where
    here : j ≡ n → tally (suc n) p < tally (suc n) q
    here e =
        let m = tally_mono n p q (λ i k. h i (omega arith)) in
        let x : q n ≡ true = rw e at a in
        let y : p n ≡ false = rw e at b in
        rw (x, y) (omega arith)

    below : j < n → tally n p < tally n q → tally (suc n) p < tally (suc n) q
    below m r = let b = cond_le (p n) (q n) (h n (le_refl (suc n))) in omega arith

pub tally_all : (n : ℕ) → tally n (λ i. true) ≡ n
unfolding tally
tally_all zero = refl
tally_all (suc n) = let r = tally_all n in omega arith

-- how many a number stands over: its rank
abbrev pub rank : ℕ → (ℕ → ℕ → Bool) → ℕ → ℕ
rank n rel i = tally n (λ j. rel i j)

module _ (n : ℕ) (rel : ℕ → ℕ → Bool) (irr : IsIrreflexive n rel) where
  pub rank_below : (i : ℕ) → i < n → rank n rel i < n
  rank_below i h =
      let l = tally_less n (λ j. rel i j) (λ j. true) (λ j m e. refl) i h refl (irr i h) in
      let a = tally_all n in
      omega arith

  module _ (trans : IsTransitive n rel) where
    pub rank_falls : (i j : ℕ) → i < n → j < n → rel i j ≡ true → rank n rel j < rank n rel i
    rank_falls i j hi hj e = tally_less n (λ k. rel j k) (λ k. rel i k) (λ k l f. trans i j k hi hj l e f) j hj e (irr j hj)

    -- no chain in which each stands over the one before is longer than n. As a list, the top first
    abbrev pub Descends : ℕ → List ℕ → Type 0
    Descends i [] = Unit {0}
    Descends i (j ∷ l) = (j < n) × (rel i j ≡ true) × Descends j l

    rank_long : (i : ℕ) (l : List ℕ) → i < n → Descends i l → length l ≤ rank n rel i
    rank_long i [] h d = omega arith
    rank_long i (j ∷ l) h d =
        let a = rank_long j l d.0 d.2 in
        let b = rank_falls i j h d.0 d.1 in
        omega arith

    pub chain_short : (i : ℕ) (l : List ℕ) → i < n → Descends i l → length (i ∷ l) ≤ n
    chain_short i l h d =
        let a = rank_long i l h d in
        let b = rank_below i h in
        omega arith

    -- as a sequence, the bottom first
    rank_high : (h : ℕ → ℕ) (d k : ℕ) → ((m : ℕ) → m < d → h m < n) → ((m : ℕ) → m + 1 < d → rel (h (m + 1)) (h m) ≡ true) → k < d → k ≤ rank n rel (h k)
    rank_high h d zero low over l = omega arith
    rank_high h d (suc k) low over l =
        let a = rank_high h d k low over (omega arith) in
        let o : rel (h (suc k)) (h k) ≡ true = rw add-one at (over k (omega arith)) in
        let b = rank_falls (h (suc k)) (h k) (low (suc k) l) (low k (omega arith)) o in
        omega arith

    pub nesting_short : (h : ℕ → ℕ) (d : ℕ) → ((m : ℕ) → m < d → h m < n) → ((m : ℕ) → m + 1 < d → rel (h (m + 1)) (h m) ≡ true) → d ≤ n
    nesting_short h zero low over = omega arith
    nesting_short h (suc d) low over =
        let a = rank_high h (suc d) d low over (le_refl (suc d)) in
        let b = rank_below (h d) (low d (le_refl (suc d))) in
        omega arith

-- relations that agree below n are transitive together, and where they are not they have the same smallest triple
module _ (n : ℕ) (r s : ℕ → ℕ → Bool) (h : (i j : ℕ) → i < n → j < n → r i j ≡ s i j) where
  breaks_ext : (k j : ℕ) → k < n → j < n → (i : ℕ) → i < n → breaks r k j i ≡ breaks s k j i
  breaks_ext k j hk hj i hi = rw (h j k hj hk, h i j hi hj, h i k hi hk)

  over_ext : (k : ℕ) → k < n → (j : ℕ) → j < n → breaks_over n r k j ≡ breaks_over n s k j
  unfolding breaks_over
  over_ext k hk j hj = any_ext n (λ i. breaks r k j i) (λ i. breaks s k j i) (breaks_ext k j hk hj)

  above_ext : (k : ℕ) → k < n → breaks_above n r k ≡ breaks_above n s k
  unfolding breaks_above
  above_ext k hk = any_ext n (λ j. breaks_over n r k j) (λ j. breaks_over n s k j) (over_ext k hk)

  pub transitive_ext : transitive n r ≡ transitive n s
  unfolding transitive
  transitive_ext = ap not (any_ext n (λ k. breaks_above n r k) (λ k. breaks_above n s k) above_ext)

  pub smallest_ext : transitive n r ≡ false → smallest n r ≡ smallest n s
  unfolding smallest
  smallest_ext e =
      let b = smallest_breaks n r e in
      let k = (smallest n r).k in
      let j = (smallest n r).j in
      let third : ℕ → ℕ → ℕ = λ x y. least n (λ i. breaks s x y i) in
      let second : ℕ → ℕ = λ x. least n (λ y. breaks_over n s x y) in
      ap (λ (i : ℕ). record { k = k; j = j; i = i }) (least_ext n (λ i. breaks r k j i) (λ i. breaks s k j i) (breaks_ext k j b.k_below b.j_below))
      ∙ ap (λ (y : ℕ). record { k = k; j = y; i = third k y }) (least_ext n (λ y. breaks_over n r k y) (λ y. breaks_over n s k y) (over_ext k b.k_below))
      ∙ ap (λ (x : ℕ). record { k = x; j = second x; i = third x (second x) })
      (least_ext n (λ x. breaks_above n r x) (λ x. breaks_above n s x) above_ext)
