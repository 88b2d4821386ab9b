use Rattle.std.proofs.Common.{◌≡◌, ◌+◌, ◌*◌, ◌++◌, length, take}
use Rattle.map.proofs.image.push_links.Given as goal
use Rattle.paper.specs.Maps.{link_record}
use Rattle.paper.specs.Words.{joined}

abbrev pub invariant-loop-link : goal.invariant-loop-link
invariant-loop-link l =
    record {
      items : l.image.items ≡ l.fn.image.items ++ joined link_record (take l.link-index l.links);
      len : length l.image.items ≡ length l.fn.image.items + 6 * l.link-index;
    }
