use Rattle.std.proofs.Common.{◌≡◌, [], drop, length}
use Rattle.map.proofs.writing.with_places.Given as goal
use Rattle.map.specs.Writing.{bare_value, walk_of, start_of, put_places}
use Rattle.paper.specs.Maps.{places_of}

abbrev pub invariant-loop-i : goal.invariant-loop-i
invariant-loop-i l =
    let ps = places_of l.fn.bare.identities.now l.fn.bare.addresses.now l.fn.bare.sizes.now in
    record {
      goes : put_places ps (start_of (bare_value l.fn.bare)) ≡ put_places (drop l.i ps) (walk_of l.map);
      placed : length l.map.places.items ≡ l.i;
      unlinked : l.map.chain.items ≡ [];
      alignment : l.map.alignment ≡ l.fn.bare.alignment;
    }
