use Rattle.std.proofs.Common.{arith, ◌∙◌, length-set}
use Rattle.slots.proofs.slots.Slots.push.Goals as goal
use Rattle.slots.proofs.Blanks.{blank_behind}

-- the slot that was filled lies within, and those past it are blank as before
pub invariant_of-self : goal.invariant_of-self
invariant_of-self g c = (
  omega (arith, c.if-self.true),
  length-set c.self.inside.slots c.self.inside.len _ ∙ c.self.invariant.1,
  blank_behind g.row.MOST c.self.inside.len c.self.inside.slots g.T.Blank.blank _ c.self.invariant.2,
)
