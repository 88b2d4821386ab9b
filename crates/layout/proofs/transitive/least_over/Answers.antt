use Rattle.std.proofs.Common.{◌≡◌, ◌<◌, ◌∙◌, sym, arith, false}
use Rattle.laws.specs.Each.{any_zero, any_more}
use Rattle.layout.proofs.Found.{found_nothing, found_at}
use Rattle.layout.proofs.Triples.{breaks_here, over_none, not_over, over_both}
use Rattle.layout.specs.Nests.{count_here, may_here}
use Rattle.paper.specs.Preempting.{breaks}
use Rattle.layout.proofs.transitive.least_over.Goals as goal
use Rattle.layout.proofs.transitive.least_over.Goals.{else-may-via-then-may+else-not-may-2, else-may-via-else-may}

pub returns-then-not-may-clause-least : goal.returns-then-not-may-clause-least
returns-then-not-may-clause-least c = sym (over_none (count_here c.args.sheet.now) (may_here c.args.sheet.now) c.args.k c.args.j (sym c.may.ensures ∙ c.if-not-may.true))

pub loop-i-init : goal.loop-i-init
loop-i-init c = any_zero (λ i. breaks (may_here c.args.sheet.now) c.args.k c.args.j i)

pub returns-then-not-may-2-clause-least : goal.returns-then-not-may-2-clause-least
returns-then-not-may-2-clause-least c =
    let n = count_here c.args.sheet.now in
    let rel = may_here c.args.sheet.now in
    let here = breaks_here n rel c.args.k c.args.j c.loop-i.i (sym c.may.ensures ∙ c.if-not-may.false) (sym c.may-in-loop-i.ensures ∙ c.if-may.true) (sym c.may-then-may.ensures ∙ c.if-not-may-2.true) in
    let low : c.loop-i.i < n = omega arith in
    sym (found_at n (λ i. breaks rel c.args.k c.args.j i) c.loop-i.i low c.loop-i.invariant here)

pub loop-i-preserved : goal.loop-i-preserved
loop-i-preserved c =
    let n = count_here c.args.sheet.now in
    let rel = may_here c.args.sheet.now in
    let passed : breaks rel c.args.k c.args.j c.loop-i.i ≡ false = elim c.else-may.branch [
      | else-may-via-then-may+else-not-may-2 w ↦ over_both n rel c.args.k c.args.j c.loop-i.i (sym w.may-then-may.ensures ∙ w.if-not-may-2.false)
      | else-may-via-else-may w ↦ not_over n rel c.args.k c.args.j c.loop-i.i (sym c.may-in-loop-i.ensures ∙ w.if-may.false)
    ] in
    any_more (λ i. breaks rel c.args.k c.args.j i) c.loop-i.i c.loop-i.invariant passed

pub returns-clause-least : goal.returns-clause-least
returns-clause-least c =
    sym (found_nothing (count_here c.args.sheet.now) (λ i. breaks (may_here c.args.sheet.now) c.args.k c.args.j i) c.loop-i.i (omega arith) c.loop-i.invariant)
