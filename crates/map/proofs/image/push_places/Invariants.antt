use Rattle.std.proofs.Common.{◌≡◌, ◌+◌, ◌*◌, ◌++◌, length, take}
use Rattle.map.proofs.image.push_places.Given as goal
use Rattle.map.specs.Values.{paper_places}
use Rattle.paper.specs.Maps.{place_record}
use Rattle.paper.specs.Words.{joined}

abbrev pub invariant-loop-place : goal.invariant-loop-place
invariant-loop-place l =
    record {
      items : l.image.items ≡ l.fn.image.items ++ joined place_record (paper_places (take l.place-index l.places));
      len : length l.image.items ≡ length l.fn.image.items + 14 * l.place-index;
    }
