use Rattle.std.proofs.Common.{◌∙◌, sym, ap, Err, Ok}
use Rattle.frame.specs.Values.{values_of, with_value}
use Rattle.frame.specs.declared.refusal.Refusal.{Refusal}
use Rattle.layout.specs.Values.{layout_value}
use Rattle.layout.specs.declared.layout.Layout.{Layout}
use Rattle.map.proofs.Inverse.{layout_back}
use Rattle.map.proofs.Steps.{no_records, more_behind, nothing_behind}
use Rattle.map.proofs.reading.read.Goals as goal
use Rattle.map.specs.Steps.{walk_value}
use Rattle.paper.specs.Places.{Map}
use Rattle.paper.specs.Refusals.{Answer}
use Rattle.sheet.proofs.Steps.{handed_on}

pub returns-in_err-walk : goal.returns-in_err-walk
returns-in_err-walk c =
    let e = c.in_err-walk.field-0.0 in
    handed_on (λ (x : Layout). x) _ e c.from_residual.ensures
    ∙ sym (ap (λ (x : Answer Map). with_value layout_value x) (no_records c.args.bytes.now (values_of e) (sym c.in_err-walk.ensures)))

pub returns-then-walk-bytes : goal.returns-then-walk-bytes
returns-then-walk-bytes c =
    let w = walk_value c.in_ok-walk.walk in
    ap (λ (r : Refusal). Err (values_of r)) c.at.ensures
    ∙ sym (ap (λ (x : Answer Map). with_value layout_value x) (more_behind c.args.bytes.now w (sym c.in_ok-walk.ensures) c.if-walk-bytes.true))

pub returns : goal.returns
returns c =
    let w = walk_value c.in_ok-walk.walk in
    ap Ok (sym (layout_back c.in_ok-walk.walk.map))
    ∙ sym (ap (λ (x : Answer Map). with_value layout_value x) (nothing_behind c.args.bytes.now w (sym c.in_ok-walk.ensures) c.if-walk-bytes.false))
