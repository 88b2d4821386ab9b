use Rattle.std.proofs.Common.{arith, refl, ◌∙◌, lt-ltb, le-ltb}
use Rattle.std.proofs.lemmas.Nat.{one_shl}
use Rattle.paper.specs.Dispatch.{row_of}
use Rattle.sheet.specs.Walks.{over}
use Rattle.sheet.proofs.Rows.{room_for_bit, row_with, row_kept}
use Rattle.sheet.proofs.relation.row.Goals as goal
use Rattle.sheet.proofs.relation.row.Goals.{then-task-priority, else-task-priority}

pub loop-j-init : goal.loop-j-init
unfolding row_of
loop-j-init c = refl

pub overflow_add-row : goal.overflow_add-row
overflow_add-row c =
    let fits = room_for_bit c.loop-j.j 64 (over c.args.tasks.now c.args.i) (omega arith) in
    rw (one_shl c.loop-j.j 64 (omega arith), c.loop-j.invariant) (omega arith)

pub loop-j-preserved : goal.loop-j-preserved
loop-j-preserved c =
    let p = over c.args.tasks.now c.args.i in
    elim c.if-task-priority.branch [
      | then-task-priority w ↦ w.row-is ∙ rw (one_shl c.loop-j.j 64 (omega arith), c.loop-j.invariant) (row_with c.loop-j.j p (lt-ltb _ _ w.if-task-priority.true))
      | else-task-priority w ↦ w.row-is ∙ (c.loop-j.invariant ∙ row_kept c.loop-j.j p (le-ltb _ _ w.if-task-priority.false))
    ]
