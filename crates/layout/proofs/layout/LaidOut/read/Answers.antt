use Rattle.std.proofs.Common.{sym, ◌∙◌}
use Rattle.frame.specs.Values.{values_of}
use Rattle.layout.proofs.Answers.{still_refused, put_into}
use Rattle.layout.proofs.Whole.{orderly_read, laid_read, laid_refused}
use Rattle.layout.proofs.layout.LaidOut.read.Goals as goal
use Rattle.layout.specs.Nests.{layout_here, rules_here}
use Rattle.layout.specs.declared.layout.LaidOut.{LaidOut}
use Rattle.layout.specs.declared.layout.Layout.{Layout}
use Rattle.paper.specs.Refusals.{first}
use Rattle.sheet.proofs.Steps.{handed_on}

pub returns-in_err-sheet : goal.returns-in_err-sheet
returns-in_err-sheet c =
    let r = c.in_err-sheet.field-0.0 in
    handed_on (λ (x : LaidOut). x) _ r c.from_residual.ensures ∙ sym (laid_refused c.args.bytes.now (values_of r) c.in_err-sheet.ensures)

pub of-requires : goal.of-requires
of-requires c = orderly_read c.args.bytes.now c.in_ok-sheet.sheet c.in_ok-sheet.ensures

pub returns-in_err-layout : goal.returns-in_err-layout
returns-in_err-layout c =
    let sheet = c.in_ok-sheet.sheet in
    let r = c.in_err-layout.field-0.0 in
    let whole : LaidOut = record { sheet = sheet; layout = layout_here sheet } in
    handed_on (λ (x : LaidOut). x) _ r c.from_residual-in_err-layout.ensures
    ∙ (sym (still_refused (first (rules_here sheet)) (layout_here sheet) whole (values_of r) c.in_err-layout.ensures) ∙ sym (laid_read c.args.bytes.now sheet c.in_ok-sheet.ensures))

pub returns : goal.returns
returns c =
    let sheet = c.in_ok-sheet.sheet in
    sym (put_into (λ (x : Layout). record { sheet = sheet; layout = x }) (first (rules_here sheet)) (layout_here sheet) c.in_ok-layout.layout c.in_ok-layout.ensures)
    ∙ sym (laid_read c.args.bytes.now sheet c.in_ok-sheet.ensures)
