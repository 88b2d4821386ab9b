use Rattle.std.proofs.Common.{◌≡◌, ◌+◌, ◌*◌, ◌≤◌, ◌++◌, length, take}
use Rattle.text.specs.Lines.{task_lines_here}
use Rattle.text.proofs.task_lines.push_task_lines.Given as goal

abbrev pub invariant-loop-task : goal.invariant-loop-task
invariant-loop-task l =
    record {
      items : l.text.items
          ≡ l.fn.text.items ++ task_lines_here l.bytes (take (length l.yielded) l.tasks) (take (length l.yielded) l.places);
      len : length l.text.items ≤ length l.fn.text.items + 45 * length l.yielded;
    }
