use Rattle.std.proofs.Common.{◌≡◌, ◌-◌, length}
use Rattle.sheet.proofs.barring.Barring.read.Given as goal
use Rattle.sheet.specs.Steps.{barring_value, no_bars}
use Rattle.sheet.specs.Walks.{bars_walk}

-- what is left to read leads where the whole does
abbrev pub invariant-loop-i : goal.invariant-loop-i
invariant-loop-i l = bars_walk (length l.bytes - l.i) l.bytes l.tasks (barring_value l.walk) ≡ bars_walk (length l.bytes) l.bytes l.tasks (no_bars l.tasks l.from)
