use Rattle.std.proofs.Common.{◌∙◌, arith, sym, append-nil}
use Rattle.text.proofs.Steps.{place_lines_step}
use Rattle.text.proofs.place_lines.push_place_lines.Goals as goal
use Rattle.paper.specs.Words.{joined}

pub loop-place-init : goal.loop-place-init
unfolding joined
loop-place-init c = record { items = sym (append-nil c.args.text.now.items); len = omega arith }

pub loop-place-preserved : goal.loop-place-preserved
loop-place-preserved c =
    record {
      items =
          c.push_place_line.ensures.items
          ∙ place_lines_step c.args.text.now.items c.loop-place.text.items c.args.places.now c.loop-place.place-index _ c.loop-place-test.true c.loop-place.invariant.items;
      len = omega arith;
    }
