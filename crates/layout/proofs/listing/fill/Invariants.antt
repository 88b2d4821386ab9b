use Rattle.std.proofs.Common.{◌≡◌, map, take}
use Rattle.layout.proofs.listing.fill.Given as goal
use Rattle.paper.specs.Bytes.{over}

abbrev pub invariant-loop-i : goal.invariant-loop-i
invariant-loop-i l =
    record {
      addresses : l.addresses ≡ over (map (λ p. p.address) (take l.i l.places)) l.fn.addresses;
      sizes : l.sizes ≡ over (map (λ p. p.size) (take l.i l.places)) l.fn.sizes;
    }
