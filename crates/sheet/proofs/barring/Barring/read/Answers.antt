use Rattle.std.proofs.Common.{sym, ◌∙◌, ap, ◌-◌, ◌+◌, length, arith, Err}
use Rattle.frame.proofs.Framing.{same_as_end}
use Rattle.frame.specs.Framing.{record_value}
use Rattle.frame.specs.Values.{values_of}
use Rattle.frame.specs.declared.refusal.Refusal.{Refusal}
use Rattle.sheet.proofs.Steps.{handed_on, bar_cut, bar_end, bar_bad, bar_more, bars_done}
use Rattle.sheet.proofs.barring.Barring.read.Goals as goal
use Rattle.sheet.specs.Steps.{barring_value}

pub returns-in_err-record : goal.returns-in_err-record
returns-in_err-record c =
    let s = c.args.bytes.now in
    let r = c.in_err-record.field-0.0 in
    handed_on barring_value _ r c.from_residual.ensures
    ∙ (sym (bar_cut (length s - c.loop-i.i) (length s - (c.loop-i.i + 1)) s c.args.tasks.now (barring_value c.loop-i.walk) (omega arith) (values_of r) (sym c.in_err-record.ensures.framed))
    ∙ c.loop-i.invariant)

pub returns-then-eq : goal.returns-then-eq
returns-then-eq c =
    let s = c.args.bytes.now in
    let r = c.in_ok-record.record in
    sym (bar_end (length s - c.loop-i.i) (length s - (c.loop-i.i + 1)) s c.args.tasks.now (barring_value c.loop-i.walk) (omega arith) (record_value r) (sym c.in_ok-record.ensures.framed) (sym (same_as_end r.kind) ∙ sym c.if-eq.ensures))
    ∙ c.loop-i.invariant

pub returns-in_err-walk : goal.returns-in_err-walk
returns-in_err-walk c =
    let s = c.args.bytes.now in
    let r = c.in_ok-record.record in
    let e = c.in_err-walk.field-0.0 in
    handed_on barring_value _ e c.from_residual-in_err-walk.ensures
    ∙ (sym (bar_bad (length s - c.loop-i.i) (length s - (c.loop-i.i + 1)) s c.args.tasks.now (barring_value c.loop-i.walk) (omega arith) (record_value r) (values_of e) (sym c.in_ok-record.ensures.framed) (sym (same_as_end r.kind) ∙ sym c.if-eq.ensures) (sym c.in_err-walk.ensures))
    ∙ c.loop-i.invariant)

pub loop-i-preserved : goal.loop-i-preserved
loop-i-preserved c =
    let s = c.args.bytes.now in
    let r = c.in_ok-record.record in
    sym (bar_more (length s - c.loop-i.i) (length s - (c.loop-i.i + 1)) s c.args.tasks.now (barring_value c.loop-i.walk) (omega arith) (record_value r) (barring_value c.in_ok-walk.walk) (sym c.in_ok-record.ensures.framed) (sym (same_as_end r.kind) ∙ sym c.if-eq.ensures) (sym c.in_ok-walk.ensures))
    ∙ c.loop-i.invariant

pub returns : goal.returns
returns c =
    let s = c.args.bytes.now in
    ap (λ (r : Refusal). Err (values_of r)) c.at.ensures
    ∙ (sym (bars_done (length s - c.loop-i.i) s c.args.tasks.now (barring_value c.loop-i.walk) (omega arith)) ∙ c.loop-i.invariant)
