use Rattle.std.proofs.Common.{◌∙◌, arith, sym, append-nil}
use Rattle.map.proofs.Records.{places_step}
use Rattle.map.proofs.image.push_places.Goals as goal
use Rattle.paper.specs.Words.{joined}

pub loop-place-init : goal.loop-place-init
unfolding joined
loop-place-init c = record { items = sym (append-nil c.args.image.now.items); len = omega arith }

pub loop-place-preserved : goal.loop-place-preserved
loop-place-preserved c =
    record {
      items =
          c.push_place.ensures.items
          ∙ places_step c.args.image.now.items c.loop-place.image.items c.args.places.now c.loop-place.place-index _ c.loop-place-test.true c.loop-place.invariant.items;
      len = omega arith;
    }
