use Rattle.std.proofs.Common.{◌==◌, sym, length, arith, eq-eqb}
use Rattle.laws.specs.Least.{least_stop}
use Rattle.layout.proofs.chain.top.Goals as goal
use Rattle.layout.specs.Ends.{greatest_end, first_top}
use Rattle.layout.specs.Placing.{end_at}

pub returns-then-end-total : goal.returns-then-end-total
unfolding first_top
returns-then-end-total c =
    let ps = c.args.places.now in
    let i = c.loop-i.i in
    sym (least_stop (λ i. end_at ps i == greatest_end ps) i (length ps) (omega arith) c.loop-i.invariant (eq-eqb (end_at ps i) (greatest_end ps) (omega arith)))
