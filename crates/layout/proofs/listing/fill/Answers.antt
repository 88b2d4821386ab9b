use Rattle.layout.proofs.Lent.{fill_more}
use Rattle.layout.proofs.listing.fill.Goals as goal
use Rattle.layout.specs.declared.layout.Place.{Place}

pub loop-i-preserved : goal.loop-i-preserved
loop-i-preserved c =
    let places = c.args.places.now in
    record {
      addresses = fill_more (λ (p : Place). p.address) places c.args.addresses.now c.loop-i.addresses c.loop-i.i _ c.loop-i-test.true c.requires.addresses_fit c.loop-i.invariant.addresses;
      sizes = fill_more (λ (p : Place). p.size) places c.args.sizes.now c.loop-i.sizes c.loop-i.i _ c.loop-i-test.true c.requires.sizes_fit c.loop-i.invariant.sizes;
    }
