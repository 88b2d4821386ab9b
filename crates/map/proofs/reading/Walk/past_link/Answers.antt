use Rattle.std.proofs.Common.{rules, sym, ◌∙◌}
use Rattle.map.proofs.Chained.{room_for}
use Rattle.map.proofs.reading.Walk.past_link.Goals as goal
use Rattle.map.specs.Steps.{link_step}
use Rattle.map.specs.Values.{paper_map}

-- no place is linked twice, so there is room for another link
pub returns : goal.returns
unfolding link_step
returns c =
    let more = c.push.ensures.room (room_for (paper_map c.args.self.map) c.le16-identity.result c.requires.chained (sym c.is_link.ensures ∙ c.if-not-is_link.false)) in
    search rules
