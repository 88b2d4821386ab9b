use Rattle.std.proofs.Common.{◌<◌, sym, arith}
use Rattle.laws.specs.Each.{any_zero, any_more}
use Rattle.layout.proofs.Triples.{nothing_over, pair_at, no_pair}
use Rattle.layout.specs.Nests.{count_here, may_here}
use Rattle.paper.specs.Preempting.{breaks_over}
use Rattle.layout.proofs.transitive.least_above.Goals as goal

pub loop-j-init : goal.loop-j-init
loop-j-init c = any_zero (λ j. breaks_over (count_here c.args.sheet.now) (may_here c.args.sheet.now) c.args.k j)

pub returns-in-Some-clause-least : goal.returns-in-Some-clause-least
returns-in-Some-clause-least c =
    let low : c.loop-j.j < count_here c.args.sheet.now = omega arith in
    sym (pair_at (count_here c.args.sheet.now) (may_here c.args.sheet.now) c.args.k c.loop-j.j c.in-Some.i low c.loop-j.invariant (sym c.in-Some.ensures.least))

pub loop-j-preserved : goal.loop-j-preserved
loop-j-preserved c =
    let n = count_here c.args.sheet.now in
    let rel = may_here c.args.sheet.now in
    any_more (λ j. breaks_over n rel c.args.k j) c.loop-j.j c.loop-j.invariant (nothing_over n rel c.args.k c.loop-j.j (sym c.in_default.ensures.least))

pub returns-clause-least : goal.returns-clause-least
returns-clause-least c =
    sym (no_pair (count_here c.args.sheet.now) (may_here c.args.sheet.now) c.args.k c.loop-j.j (omega arith) c.loop-j.invariant)
