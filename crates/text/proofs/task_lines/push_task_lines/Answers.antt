use Rattle.std.proofs.Common.{arith, sym, append-nil, length, append_assoc, take}
use Rattle.std.proofs.lemmas.List.{length_push, take_all}
use Rattle.std.proofs.lemmas.Slice.Zip.{zip_turn, zip_end}
use Rattle.text.proofs.task_lines.push_task_lines.Goals as goal
use Rattle.text.proofs.Steps.{task_lines_more}
use Rattle.text.specs.Lines.{task_line_here, task_lines_here}

pub loop-task-init : goal.loop-task-init
unfolding task_lines_here
loop-task-init c = record { items = sym (append-nil c.args.text.now.items); len = omega arith }

pub loop-task-preserved : goal.loop-task-preserved
loop-task-preserved c =
    let s = c.args.bytes.now in
    let ts = c.args.tasks.now in
    let ps = c.args.places.now in
    let t = c.in-Some.task in
    let p = c.in-Some.place in
    let i = length c.loop-task.yielded in
    let n = length_push c.loop-task.yielded (t, p) in
    let turn = zip_turn ts ps c.loop-task.yielded c.into_iter-task-iterator.result c.loop-task.task-iterator c.next.new.self c.next.result (cc) (cc) c.loop-task.yielded_by (t, p) c.in-Some.is c.next.ensures.steps in
    record {
      items =
          rw (c.push_task_line.ensures.items, c.loop-task.invariant.items, task_lines_more s ts ps i _ t.now p.now c.requires.paired turn.0 n (turn.2 t.now) (turn.3 p.now))
          (append_assoc c.args.text.now.items (task_lines_here s (take i ts) (take i ps)) (task_line_here s t.now p.now));
      len = omega arith;
    }

pub returns : goal.returns
returns c =
    let ts = c.args.tasks.now in
    let ps = c.args.places.now in
    let ended = zip_end ts ps c.loop-task.yielded c.into_iter-task-iterator.result c.loop-task.task-iterator c.next.new.self c.next.result (cc) (cc) c.loop-task.yielded_by c.in-None.is c.next.ensures.steps in
    record {
      items = rw (← take_all (length c.loop-task.yielded) ts (omega arith), ← take_all (length c.loop-task.yielded) ps (omega arith)) c.loop-task.invariant.items;
      len = omega arith;
    }
