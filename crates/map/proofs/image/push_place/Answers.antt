use Rattle.std.proofs.Common.{append_assoc}
use Rattle.map.proofs.image.push_place.Goals as goal

pub returns-clause-items : goal.returns-clause-items
returns-clause-items c = rw (c.push32-2.ensures.items, c.push32.ensures.items, c.push16.ensures.items, c.push_start.ensures.items) (simp append_assoc)
