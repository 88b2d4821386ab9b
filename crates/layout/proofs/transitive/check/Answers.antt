use Rattle.std.proofs.Common.{◌<◌, sym, arith}
use Rattle.laws.specs.Each.{any_zero, any_more}
use Rattle.layout.proofs.Triples.{nothing_above, triple_at, no_triple}
use Rattle.layout.specs.Nests.{count_here, may_here, transitive_here}
use Rattle.paper.specs.Preempting.{breaks_above}
use Rattle.layout.proofs.transitive.check.Goals as goal

pub loop-k-init : goal.loop-k-init
loop-k-init c = any_zero (λ k. breaks_above (count_here c.args.sheet.now) (may_here c.args.sheet.now) k)

pub returns-in-Some : goal.returns-in-Some
unfolding transitive_here
returns-in-Some c =
    let n = count_here c.args.sheet.now in
    let rel = may_here c.args.sheet.now in
    let low : c.loop-k.k < n = omega arith in
    let t = triple_at n rel c.loop-k.k c.in-Some.pair low c.loop-k.invariant (sym c.in-Some.ensures.least) in
    rw (t.broken, t.is, c.deref.ensures.0, c.deref-in-Some.ensures.0, c.deref-in-Some-2.ensures.0)

pub loop-k-preserved : goal.loop-k-preserved
loop-k-preserved c =
    let n = count_here c.args.sheet.now in
    let rel = may_here c.args.sheet.now in
    any_more (λ k. breaks_above n rel k) c.loop-k.k c.loop-k.invariant (nothing_above n rel c.loop-k.k (sym c.in_default.ensures.least))

pub returns : goal.returns
unfolding transitive_here
returns c = rw (no_triple (count_here c.args.sheet.now) (may_here c.args.sheet.now) c.loop-k.k (omega arith) c.loop-k.invariant)
