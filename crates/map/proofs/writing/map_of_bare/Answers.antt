use Rattle.std.proofs.Common.{sym, ◌∙◌, None, Some}
use Rattle.frame.specs.Values.{values_of, fault_number}
use Rattle.map.proofs.FromBare.{head_same, head_aligned, bare_head_not, bare_places_not, bare_total_not, bare_links}
use Rattle.map.proofs.writing.map_of_bare.Goals as goal
use Rattle.map.specs.Values.{paper_map}
use Rattle.map.specs.Writing.{bare_value, walk_of}
use Rattle.sheet.proofs.Steps.{handed_on}

pub returns-in-Some : goal.returns-in-Some
returns-in-Some c =
    let b = bare_value c.args.bare.now in
    let n = fault_number c.in-Some.fault in
    rw c.at.ensures (sym (bare_head_not b n (head_same b c.count.result (Some n) c.count.ensures c.in-Some.ensures)))

pub with_places-requires-clause-aligned : goal.with_places-requires-clause-aligned
with_places-requires-clause-aligned c =
    let b = bare_value c.args.bare.now in
    head_aligned b (head_same b c.count.result None c.count.ensures c.in_default.ensures)

pub returns-in_err-map : goal.returns-in_err-map
returns-in_err-map c =
    let b = bare_value c.args.bare.now in
    let r = c.in_err-map.field-0.0 in
    let free = head_same b c.count.result None c.count.ensures c.in_default.ensures in
    handed_on paper_map _ r c.from_residual.ensures ∙ sym (bare_places_not b free (values_of r) (sym c.in_err-map.ensures.places))

pub returns-then-not-total_is_greatest_end : goal.returns-then-not-total_is_greatest_end
returns-then-not-total_is_greatest_end c =
    let b = bare_value c.args.bare.now in
    let m = c.in_ok-map.map in
    let free = head_same b c.count.result None c.count.ensures c.in_default.ensures in
    rw c.at-then-not-total_is_greatest_end.ensures
    (sym (bare_total_not b free (walk_of m) (sym c.in_ok-map.ensures.places) (sym c.total_is_greatest_end.ensures ∙ c.if-not-total_is_greatest_end.true)))

pub returns : goal.returns
returns c =
    let b = bare_value c.args.bare.now in
    let m = c.in_ok-map.map in
    let free = head_same b c.count.result None c.count.ensures c.in_default.ensures in
    c.with_links.ensures
    ∙ sym (bare_links b free (walk_of m) (sym c.in_ok-map.ensures.places) (sym c.total_is_greatest_end.ensures ∙ c.if-not-total_is_greatest_end.false))
