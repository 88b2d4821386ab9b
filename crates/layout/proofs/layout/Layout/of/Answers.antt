use Rattle.std.proofs.Common.{sym, ◌∙◌, ap, subst, ℕ, ◌<◌, ◌≤◌, nat_le, [], ◌∷◌, Ok, Err}
use Rattle.std.proofs.lemmas.List.{take_all}
use Rattle.frame.specs.Values.{values_of}
use Rattle.laws.specs.Tables.{unless_none, unless_some}
use Rattle.layout.proofs.Answers.{broken_first, passed_first, no_room, room, whole_layout}
use Rattle.layout.proofs.Ends.{ends_fit, total_same}
use Rattle.layout.proofs.layout.Layout.of.Goals as goal
use Rattle.layout.specs.Ends.{EndsFit, greatest_end}
use Rattle.layout.specs.Nests.{layout_here, rules_here, transitive_here, total_here}
use Rattle.layout.specs.declared.layout.Layout.{Layout}
use Rattle.paper.specs.Refusals.{◌⇒◌, first, figured}
use Rattle.sheet.proofs.Steps.{handed_on}

pub returns-in_err-check : goal.returns-in_err-check
returns-in_err-check c =
    let sheet = c.args.sheet.now in
    let e = c.in_err-check.field-0.0 in
    let t = total_here sheet in
    handed_on (λ (x : Layout). x) _ e c.from_residual.ensures
    ∙ sym (broken_first (transitive_here sheet) tt (nat_le t sheet.area ⇒ figured 17 t ∷ []) (layout_here sheet) (values_of e) c.in_err-check.ensures)

pub total-total-requires : goal.total-total-requires
total-total-requires c = subst EndsFit (sym (c.deref.ensures.0 ∙ c.places-places.ensures)) (ends_fit c.args.sheet.now c.requires)

pub returns-then-total-sheet : goal.returns-then-total-sheet
returns-then-total-sheet c =
    let sheet = c.args.sheet.now in
    let t = total_here sheet in
    let same = c.total-total.ensures ∙ (ap greatest_end (c.deref.ensures.0 ∙ c.places-places.ensures) ∙ total_same sheet) in
    let more = subst (λ (n : ℕ). sheet.area < n) same c.if-total-sheet.true in
    let broken = passed_first (transitive_here sheet) tt (nat_le t sheet.area ⇒ figured 17 t ∷ []) c.in_ok-check.field-0 c.in_ok-check.ensures ∙ no_room t sheet.area more in
    ap (λ (n : ℕ). Err (figured 17 n)) same ∙ sym (unless_some (figured 17 t) (first (rules_here sheet)) (Ok (layout_here sheet)) broken)

pub returns : goal.returns
returns c =
    let sheet = c.args.sheet.now in
    let t = total_here sheet in
    let same = c.total-total.ensures ∙ (ap greatest_end (c.deref.ensures.0 ∙ c.places-places.ensures) ∙ total_same sheet) in
    let fits = subst (λ (n : ℕ). n ≤ sheet.area) same c.if-total-sheet.false in
    let passed = passed_first (transitive_here sheet) tt (nat_le t sheet.area ⇒ figured 17 t ∷ []) c.in_ok-check.field-0 c.in_ok-check.ensures ∙ room t sheet.area fits in
    let placed = c.of.ensures ∙ (take_all 64 c.deref-3.result.now c.deref-3.ensures.1 ∙ (c.deref-3.ensures.0 ∙ c.places-places.ensures)) in
    let linked = c.of-2.ensures ∙ (take_all 64 c.deref-4.result.now c.deref-4.ensures.1 ∙ (c.deref-4.ensures.0 ∙ c.chain-chain.ensures)) in
    ap Ok (whole_layout sheet.alignment c.total-total.result t c.of.result (layout_here sheet).places c.of-2.result (layout_here sheet).chain same placed linked)
    ∙ sym (unless_none (first (rules_here sheet)) (Ok (layout_here sheet)) passed)
