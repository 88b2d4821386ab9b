-- The map behind a layout that was handed back, put into a lent output.
use Rattle.std.proofs.Common.{◌≡◌, refl, ap, ◌∙◌, ℕ, List, Ok, Err}
use Rattle.layout.specs.Values.{laid_out}
use Rattle.layout.specs.declared.layout.LaidOut.{LaidOut}
use Rattle.layout.proofs.LentLists.{laid_as, laid_not}
use Rattle.map.proofs.Inverse.{layout_there}
use Rattle.map.specs.Values.{paper_map}
use Rattle.paper.specs.Maps.{write_out, into_output, long_enough, build}
use Rattle.paper.specs.Refusals.{Refusal}

module _ (s output : List ℕ) where
  pub built : (laid : LaidOut) → Ok laid ≡ laid_out s → build s output ≡ into_output (long_enough output (write_out (paper_map laid.layout))) output
  unfolding build
  built laid e =
      let behind = laid_as s laid e in
      let same = ap paper_map behind.same ∙ layout_there behind.map in
      rw (behind.is, same) refl

  pub not_built : (r : Refusal) → Err r ≡ laid_out s → build s output ≡ record { answer = Err r; output = output }
  unfolding build
  not_built r e = rw (laid_not s r e) refl
