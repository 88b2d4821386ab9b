-- A map that was written is no longer than the output that was lent for it.
use Rattle.std.proofs.Common.{◌≡◌, refl, ℕ, ◌≤◌, arith, List, length, Bool, true, false, nat_le, leb-true, [], ◌∷◌, Ok, Err}
use Rattle.paper.specs.Maps.{into_output, write_into, write_out, build}
use Rattle.paper.specs.Places.{Map, layout}
use Rattle.paper.specs.Refusals.{Answer, first, ◌⇒◌, unless, figured}

pub written_within : (s output : List ℕ) (n : ℕ) → Ok n ≡ (build s output).answer → n ≤ length output
unfolding build
written_within s output n e = written (layout s) e
  where
    put : (bytes : List ℕ) (b : Bool) → nat_le (length bytes) (length output) ≡ b
        → ◌≡◌ {A = Answer ℕ} (Ok n) (into_output (unless (first (b ⇒ figured 18 (length bytes) ∷ [])) (Ok bytes)) output).answer → n ≤ length output
    put bytes true q e = let same : n ≡ length bytes = cc in let fits = leb-true (length bytes) (length output) q in omega arith
    put bytes false q e = absurd (let z : ◌≡◌ {A = ℕ} 0 1 = cc in omega arith)

    written : (x : Answer Map) → ◌≡◌ {A = Answer ℕ} (Ok n) (write_into x output).answer → n ≤ length output
    written (Ok m) e = put (write_out m) (nat_le (length (write_out m)) (length output)) refl e
    written (Err r) e = absurd (let z : ◌≡◌ {A = ℕ} 0 1 = cc in omega arith)
