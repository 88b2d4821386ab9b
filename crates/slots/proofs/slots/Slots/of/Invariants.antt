use Rattle.std.proofs.Common.{◌≡◌, take}
use Rattle.slots.proofs.slots.Slots.of.Given as goal

-- the items so far, as many as there was room for
abbrev pub invariant-loop-item : goal.invariant-loop-item
invariant-loop-item g l = l.list.items ≡ take g.row.MOST (take l.item-index l.items)
