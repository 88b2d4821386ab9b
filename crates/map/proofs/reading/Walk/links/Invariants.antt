use Rattle.std.proofs.Common.{◌≡◌, ◌-◌, length}
use Rattle.map.proofs.reading.Walk.links.Given as goal
use Rattle.map.specs.Steps.{IsChained, walk_value}
use Rattle.map.specs.Values.{paper_map}
use Rattle.paper.specs.Maps.{read_links}

-- what is left to read leads where the whole does, and each link names a place of its own
abbrev pub invariant-loop-i : goal.invariant-loop-i
invariant-loop-i l =
    record {
      read : read_links (length l.bytes - l.i) l.bytes (walk_value l.walk) ≡ read_links (length l.bytes) l.bytes (walk_value l.fn.self);
      chained : IsChained (paper_map l.walk.map);
    }
