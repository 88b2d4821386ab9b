use Rattle.std.proofs.Common.{◌≡◌, sym, ◌∙◌, ap, subst, ◌<◌, List, Some, None, length, slice_index_or}
use Rattle.frame.specs.Values.{part_value, values_of}
use Rattle.sheet.proofs.NameParts.{Inside, behind, no_sheet, not_listed, listed_name, lies_inside, zeros}
use Rattle.sheet.proofs.naming.name_part.Goals as goal
use Rattle.sheet.specs.Walks.{index_of, no_task}
use Rattle.sheet.specs.declared.task.Task.{Task}

pub returns-in_default-clause-part : goal.returns-in_default-clause-part
returns-in_default-clause-part c =
    zeros c.default.result c.default.ensures
    ∙ ap part_value (sym (no_sheet c.args.bytes.now c.args.identity (values_of c.in_default.field-0) c.in_default.ensures))

pub returns-in_default-index_of-clause-part : goal.returns-in_default-index_of-clause-part
returns-in_default-index_of-clause-part c =
    let none = subst (λ (ts : List Task). index_of ts c.args.identity ≡ None) c.deref.ensures.0 (sym c.in_default-index_of.ensures.index) in
    zeros c.default-in_default-index_of.result c.default-in_default-index_of.ensures
    ∙ ap part_value (sym (not_listed c.args.bytes.now c.args.identity c.in-Ok.sheet (behind c.args.bytes.now c.in-Ok.sheet c.in-Ok.ensures) none))

pub returns-clause-part : goal.returns-clause-part
returns-clause-part c =
    let some = subst (λ (ts : List Task). index_of ts c.args.identity ≡ Some c.in-Some.i) c.deref.ensures.0 (sym c.in-Some.ensures.index) in
    ap (λ (ts : List Task). (slice_index_or ts c.in-Some.i no_task).name) c.deref-2.ensures.0
    ∙ listed_name c.args.bytes.now c.args.identity c.in-Some.i c.in-Ok.sheet (behind c.args.bytes.now c.in-Ok.sheet c.in-Ok.ensures) some

pub returns-clause-inside : goal.returns-clause-inside
returns-clause-inside c =
    let l = subst (λ (ts : List Task). c.in-Some.i < length ts) c.deref.ensures.0 c.in-Some.ensures.inside in
    let x =
    subst (λ (ts : List Task). Inside c.args.bytes.now (slice_index_or ts c.in-Some.i no_task).name.from (slice_index_or ts c.in-Some.i no_task).name.to) (sym c.deref-2.ensures.0)
    (lies_inside c.args.bytes.now c.in-Some.i c.in-Ok.sheet (behind c.args.bytes.now c.in-Ok.sheet c.in-Ok.ensures) l)
    in
    (x.low, x.high)
