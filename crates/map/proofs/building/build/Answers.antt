use Rattle.std.proofs.Common.{sym, ◌∙◌, ap, ℕ, List}
use Rattle.frame.specs.Values.{values_of}
use Rattle.map.proofs.Built.{built, not_built}
use Rattle.map.proofs.building.build.Goals as goal
use Rattle.paper.specs.Maps.{Written, into_output, long_enough}
use Rattle.sheet.proofs.Steps.{handed_on}

pub returns-in_err-laid-clause-answer : goal.returns-in_err-laid-clause-answer
returns-in_err-laid-clause-answer c =
    let r = c.in_err-laid.field-0.0 in
    handed_on (λ (n : ℕ). n) _ r c.from_residual.ensures
    ∙ ap (λ (x : Written). x.answer) (sym (not_built c.args.bytes.now c.args.output.now (values_of r) c.in_err-laid.ensures))

pub returns-in_err-laid-clause-output : goal.returns-in_err-laid-clause-output
returns-in_err-laid-clause-output c =
    ap (λ (x : Written). x.output) (sym (not_built c.args.bytes.now c.args.output.now (values_of c.in_err-laid.field-0.0) c.in_err-laid.ensures))

pub returns-clause-answer : goal.returns-clause-answer
returns-clause-answer c =
    let old = c.args.output.now in
    let bytes = c.deref.ensures.0 ∙ c.image.ensures in
    c.put.ensures.answer
    ∙ (ap (λ (l : List ℕ). (into_output (long_enough old l) old).answer) bytes
    ∙ ap (λ (x : Written). x.answer) (sym (built c.args.bytes.now old c.in_ok-laid.laid c.in_ok-laid.ensures)))

pub returns-clause-output : goal.returns-clause-output
returns-clause-output c =
    let old = c.args.output.now in
    let bytes = c.deref.ensures.0 ∙ c.image.ensures in
    c.put.ensures.output
    ∙ (ap (λ (l : List ℕ). (into_output (long_enough old l) old).output) bytes
    ∙ ap (λ (x : Written). x.output) (sym (built c.args.bytes.now old c.in_ok-laid.laid c.in_ok-laid.ensures)))
