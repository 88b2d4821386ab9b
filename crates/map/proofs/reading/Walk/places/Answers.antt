use Rattle.std.proofs.Common.{◌∙◌, ◌-◌, ◌+◌, sym, arith}
use Rattle.frame.specs.Values.{values_of}
use Rattle.map.proofs.Steps.{places_done, place_bad, place_more, place_read, places_of_walk}
use Rattle.map.proofs.reading.Walk.places.Goals as goal
use Rattle.map.specs.Steps.{walk_value}
use Rattle.sheet.proofs.Steps.{handed_on}

pub returns-in_err-walk : goal.returns-in_err-walk
returns-in_err-walk c =
    let e = c.in_err-walk.field-0.0 in
    handed_on walk_value _ e c.from_residual.ensures
    ∙ (sym (place_bad (c.args.count - c.loop-i.i) (c.args.count - (c.loop-i.i + 1)) c.args.bytes.now (walk_value c.loop-i.walk) (omega arith) (values_of e) (sym c.in_err-walk.ensures))
    ∙ c.loop-i.invariant.read)

pub loop-i-preserved : goal.loop-i-preserved
loop-i-preserved c =
    let v = c.in_ok-walk.walk in
    let w = c.loop-i.walk in
    let step = sym c.in_ok-walk.ensures in
    let r = place_read c.args.bytes.now (walk_value w) (walk_value v) step in
    let a = r.alignment in
    let n = r.counted in
    record {
      read = sym (place_more (c.args.count - c.loop-i.i) (c.args.count - (c.loop-i.i + 1)) c.args.bytes.now (walk_value w) (omega arith) (walk_value v) step) ∙ c.loop-i.invariant.read;
      aligned = omega arith;
      counted = omega (arith, places_of_walk v, places_of_walk w);
    }

pub returns : goal.returns
returns c = sym (places_done (c.args.count - c.loop-i.i) c.args.bytes.now (walk_value c.loop-i.walk) (omega arith)) ∙ c.loop-i.invariant.read
