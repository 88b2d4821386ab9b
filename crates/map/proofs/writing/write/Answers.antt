use Rattle.std.proofs.Common.{sym, ◌∙◌, ap, ℕ, List}
use Rattle.frame.specs.Values.{values_of}
use Rattle.map.proofs.FromBare.{written, not_written}
use Rattle.map.proofs.writing.write.Goals as goal
use Rattle.map.specs.Values.{paper_map}
use Rattle.map.specs.Writing.{bare_value}
use Rattle.paper.specs.Maps.{Written, into_output, long_enough}
use Rattle.sheet.proofs.Steps.{handed_on}

pub returns-in_err-map-clause-answer : goal.returns-in_err-map-clause-answer
returns-in_err-map-clause-answer c =
    let r = c.in_err-map.field-0.0 in
    handed_on (λ (n : ℕ). n) _ r c.from_residual.ensures
    ∙ ap (λ (x : Written). x.answer) (sym (not_written (bare_value c.args.bare.now) c.args.output.now (values_of r) (sym c.in_err-map.ensures)))

pub returns-in_err-map-clause-output : goal.returns-in_err-map-clause-output
returns-in_err-map-clause-output c =
    let r = c.in_err-map.field-0.0 in
    ap (λ (x : Written). x.output) (sym (not_written (bare_value c.args.bare.now) c.args.output.now (values_of r) (sym c.in_err-map.ensures)))

pub returns-clause-answer : goal.returns-clause-answer
returns-clause-answer c =
    let old = c.args.output.now in
    let bytes = c.deref.ensures.0 ∙ c.image.ensures in
    c.put.ensures.answer
    ∙ (ap (λ (l : List ℕ). (into_output (long_enough old l) old).answer) bytes
    ∙ ap (λ (x : Written). x.answer) (sym (written (bare_value c.args.bare.now) old (paper_map c.in_ok-map.map) (sym c.in_ok-map.ensures))))

pub returns-clause-output : goal.returns-clause-output
returns-clause-output c =
    let old = c.args.output.now in
    let bytes = c.deref.ensures.0 ∙ c.image.ensures in
    c.put.ensures.output
    ∙ (ap (λ (l : List ℕ). (into_output (long_enough old l) old).output) bytes
    ∙ ap (λ (x : Written). x.output) (sym (written (bare_value c.args.bare.now) old (paper_map c.in_ok-map.map) (sym c.in_ok-map.ensures))))
