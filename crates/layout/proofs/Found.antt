-- A search that counts up: what it answers where it stops early and where it reaches the end, and what its answer says. Assumes nothing.
use Rattle.std.proofs.Common.{◌≡◌, refl, sym, subst, ℕ, ◌<◌, Bool, true, false, if◌then◌else◌, Some, None}
use Rattle.std.proofs.lemmas.Option.{none-some}
use Rattle.laws.specs.Each.{any_at, any_none, any_hit}
use Rattle.laws.specs.Least.{least_none, least_stop, least_of_hit}
use Rattle.layout.specs.Found.{found}
use Rattle.paper.specs.Words.{any, least}

-- a number is the smallest below n that passes
pub record Smallest (n : ℕ) (p : ℕ → Bool) (i : ℕ) : Type 0 where
  pub below : i < n
  pub some : any n p ≡ true
  pub is : least n p ≡ i

module _ (n : ℕ) (p : ℕ → Bool) where
  pub found_nothing : (i : ℕ) → i ≡ n → any i p ≡ false → found n p ≡ None
  unfolding found
  found_nothing i q e = let none : any n p ≡ false = subst (λ (x : ℕ). any x p ≡ false) q e in rw none

  pub found_at : (i : ℕ) → i < n → any i p ≡ false → p i ≡ true → found n p ≡ Some i
  unfolding found
  found_at i h e q = rw (any_at p n i h q, least_stop p i n h (least_none p i (any_none p i e)) q)

  pub nothing_passes : found n p ≡ None → any n p ≡ false
  unfolding found
  nothing_passes e = go (any n p) e
    where
      go : (b : Bool) → (if b then Some (least n p) else None) ≡ None → b ≡ false
      go true q = absurd (none-some (least n p) (sym q))
      go false q = refl

  pub smallest_found : (i : ℕ) → found n p ≡ Some i → Smallest n p i
  unfolding found
  smallest_found i e = go (any n p) refl e
    where
      go : (b : Bool) → any n p ≡ b → (if b then Some (least n p) else None) ≡ Some i → Smallest n p i
      go true q s = let same : least n p ≡ i = cc in record { below = rw (← same) (least_of_hit p n (any_hit p n q)); some = q; is = same }
      go false q s = absurd (none-some i s)
