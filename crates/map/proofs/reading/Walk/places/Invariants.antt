use Rattle.std.proofs.Common.{◌≡◌, ◌-◌, ◌+◌, ◌<◌, length}
use Rattle.map.proofs.reading.Walk.places.Given as goal
use Rattle.map.specs.Steps.{walk_value, places_walk}

-- what is left to read leads where the whole does, and there is room for it
abbrev pub invariant-loop-i : goal.invariant-loop-i
invariant-loop-i l =
    record {
      read : places_walk (l.count - l.i) l.bytes (walk_value l.walk) ≡ places_walk l.count l.bytes (walk_value l.fn.self);
      aligned : 0 < l.walk.map.alignment;
      counted : length l.walk.map.places.items ≡ length l.fn.self.map.places.items + l.i;
    }
