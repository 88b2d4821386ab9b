use Rattle.std.proofs.Common.{arith, ℕ, List, ◌≡◌, length, refl, ap, ◌∙◌}
use Rattle.paper.specs.Dispatch.{row_of, slots}
use Rattle.paper.specs.Words.{listed}
use Rattle.sheet.specs.Walks.{free_rows, over}
use Rattle.sheet.proofs.Rows.{listed_more}
use Rattle.sheet.proofs.relation.free_rows.Goals as goal

pub loop-i-init : goal.loop-i-init
unfolding listed
loop-i-init c = refl

pub loop-i-preserved : goal.loop-i-preserved
loop-i-preserved c =
    let ts = c.args.tasks.now in
    rw (c.loop-i.invariant, c.row.ensures) (listed_more c.loop-i.i (λ i. row_of (length ts) (over ts i)) (omega arith))

pub returns : goal.returns
unfolding free_rows
returns c =
    let ts = c.args.tasks.now in
    let rows : ℕ → List ℕ = λ n. slots 0 (listed n (λ i. row_of (length ts) (over ts i))) in
    let e : c.loop-i.i ≡ length ts = omega arith in
    c.loop-i.invariant ∙ ap rows e
