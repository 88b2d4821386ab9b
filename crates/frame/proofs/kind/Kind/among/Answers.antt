use Rattle.std.proofs.Common.{sym, ◌∙◌}
use Rattle.frame.proofs.Framing.{among_found, among_passed, among_done}
use Rattle.frame.proofs.kind.Kind.among.Goals as goal

pub returns-then-number : goal.returns-then-number
returns-then-number c =
    sym (among_found c.args.here.now c.loop-kind.kind-index c.args.number _ c.loop-kind-test.true (c.if-number.true ∙ c.number.ensures)) ∙ c.loop-kind.invariant

pub loop-kind-preserved : goal.loop-kind-preserved
loop-kind-preserved c =
    among_passed c.args.here.now c.loop-kind.kind-index c.args.number _ c.loop-kind-test.true (λ e. c.if-number.false (e ∙ sym c.number.ensures))
    ∙ c.loop-kind.invariant

pub returns : goal.returns
returns c = sym (among_done c.args.here.now c.loop-kind.kind-index c.args.number c.loop-kind-test.false) ∙ c.loop-kind.invariant
