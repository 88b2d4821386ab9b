use Rattle.std.proofs.Common.{◌∙◌, ap, slice_set}
use Rattle.std.proofs.Math.Seq.{take-set-lt}
use Rattle.slots.proofs.slots.Slots.set.Goals as goal
use Rattle.slots.specs.Items.{Items}

-- a slot among the first is an item
pub returns-then-index-self : goal.returns-then-index-self
returns-then-index-self g c =
    take-set-lt c.self.inside.len c.self.inside.slots c.args.index c.args.item c.if-index-self.true ∙ ap (λ (v : Items g.row.T.Denot). slice_set v.items c.args.index c.args.item) c.self.view_is
