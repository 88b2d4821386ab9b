use Rattle.std.proofs.Common.{sym, ◌∙◌, ap, ap₂, length, length-append, ◌-◌, ◌+◌, ℕ, [], ◌∷◌, List, arith}
use Rattle.frame.specs.Framing.{record_at}
use Rattle.frame.specs.Values.{values_of}
use Rattle.paper.specs.Records.{task_kind, after}
use Rattle.sheet.proofs.Steps.{handed_on, framed_ok, framed_err, task_cut, task_bad, task_more, tasks_done}
use Rattle.sheet.proofs.tasked.Tasked.read.Goals as goal
use Rattle.sheet.specs.Steps.{tasked_value}
use Rattle.sheet.specs.Walks.{tasks_walk, Tasked}
use Rattle.sheet.specs.declared.task.Task.{Task}

pub returns-in_err-end-clause-read : goal.returns-in_err-end-clause-read
returns-in_err-end-clause-read c =
    let s = c.args.bytes.now in
    let at = c.loop-i.at in
    let w : Tasked = record { at = at; before = c.loop-i.before; tasks = c.loop-i.tasks.items } in
    let cut = framed_err (task_kind ∷ []) s at (after s at) (record_at s at) (values_of c.in_err-end.field-0.0) c.in_err-end.ensures.framed in
    handed_on tasked_value _ c.in_err-end.field-0.0 c.from_residual.ensures
    ∙ (sym (task_cut (c.args.count - c.loop-i.i) (c.args.count - (c.loop-i.i + 1)) s w (omega arith) (values_of c.in_err-end.field-0.0) cut)
    ∙ c.loop-i.invariant.read)

pub returns-in_err-task-clause-read : goal.returns-in_err-task-clause-read
returns-in_err-task-clause-read c =
    let s = c.args.bytes.now in
    let at = c.loop-i.at in
    let w : Tasked = record { at = at; before = c.loop-i.before; tasks = c.loop-i.tasks.items } in
    let whole = framed_ok (task_kind ∷ []) s at c.in_ok-end.end c.in_ok-end.ensures.framed in
    handed_on tasked_value _ c.in_err-task.field-0.0 c.from_residual-in_err-task.ensures
    ∙ (sym (task_bad (c.args.count - c.loop-i.i) (c.args.count - (c.loop-i.i + 1)) s w (omega arith) (record_at s at) (values_of c.in_err-task.field-0.0) whole (sym c.in_err-task.ensures))
    ∙ c.loop-i.invariant.read)

pub loop-i-preserved : goal.loop-i-preserved
loop-i-preserved c =
    let s = c.args.bytes.now in
    let at = c.loop-i.at in
    let t = c.in_ok-task.task in
    let n = c.args.count - (c.loop-i.i + 1) in
    let w : Tasked = record { at = at; before = c.loop-i.before; tasks = c.loop-i.tasks.items } in
    let whole = framed_ok (task_kind ∷ []) s at c.in_ok-end.end c.in_ok-end.ensures.framed in
    let more = c.push.ensures.room (omega (arith, c.loop-i.invariant.counted)) in
    record {
      read =
          ap₂ (λ (e : ℕ) (l : List Task). tasks_walk n s (record { at = e; before = t.identity; tasks = l })) c.in_ok-end.ensures.end more
          ∙ (sym (task_more (c.args.count - c.loop-i.i) n s w (omega arith) (record_at s at) t whole (sym c.in_ok-task.ensures)) ∙ c.loop-i.invariant.read);
      counted = omega (arith, ap length more, length-append c.loop-i.tasks.items (t ∷ []), c.loop-i.invariant.counted);
    }

pub returns-clause-read : goal.returns-clause-read
returns-clause-read c =
    sym (tasks_done (c.args.count - c.loop-i.i) c.args.bytes.now (record { at = c.loop-i.at; before = c.loop-i.before; tasks = c.loop-i.tasks.items }) (omega arith))
    ∙ c.loop-i.invariant.read
