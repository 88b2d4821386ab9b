use Rattle.std.proofs.Common.{◌∙◌, sym}
use Rattle.layout.specs.Placing.{no_place}
use Rattle.map.proofs.Found.{ends_step, ends_done}
use Rattle.map.proofs.rules.greatest_end.Goals as goal

pub loop-place-preserved : goal.loop-place-preserved
loop-place-preserved c =
    ends_step c.loop-place.greatest c.end.result c.max-greatest.result c.args.places.now c.loop-place.place-index no_place c.loop-place-test.true c.max-greatest.ensures c.end.ensures
    ∙ c.loop-place.invariant

pub returns : goal.returns
returns c = sym (ends_done c.loop-place.greatest c.args.places.now c.loop-place.place-index c.loop-place-test.false) ∙ c.loop-place.invariant
