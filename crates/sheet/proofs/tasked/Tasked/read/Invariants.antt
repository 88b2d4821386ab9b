use Rattle.std.proofs.Common.{◌≡◌, ◌-◌, length, []}
use Rattle.sheet.proofs.tasked.Tasked.read.Given as goal
use Rattle.sheet.specs.Walks.{tasks_walk}

-- what is left to read leads where the whole does
abbrev pub invariant-loop-i : goal.invariant-loop-i
invariant-loop-i l =
    record {
      read : tasks_walk (l.count - l.i) l.bytes (record { at = l.at; before = l.before; tasks = l.tasks.items })
          ≡ tasks_walk l.count l.bytes (record { at = l.from; before = 0; tasks = [] });
      counted : length l.tasks.items ≡ l.i;
    }
