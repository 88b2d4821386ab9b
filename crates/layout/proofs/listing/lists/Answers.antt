use Rattle.std.proofs.Common.{sym, ◌∙◌, ap, ℕ, ◌⊎◌, inl, inr, List, map}
use Rattle.frame.specs.Values.{values_of}
use Rattle.layout.proofs.LentLists.{laid_as, laid_not, lists_not, short_as, filled_as}
use Rattle.layout.proofs.listing.lists.Goals as goal
use Rattle.layout.specs.declared.layout.Place.{Place}
use Rattle.paper.specs.Bytes.{over}
use Rattle.paper.specs.Places.{Lists}
use Rattle.sheet.proofs.Steps.{handed_on}

pub returns-in_err-laid-clause-answer : goal.returns-in_err-laid-clause-answer
returns-in_err-laid-clause-answer c =
    let r = values_of c.in_err-laid.field-0.0 in
    handed_on (λ (n : ℕ). n) _ c.in_err-laid.field-0.0 c.from_residual.ensures
    ∙ ap (λ (x : Lists). x.answer) (sym (lists_not c.args.bytes.now c.args.addresses.now c.args.sizes.now r (laid_not c.args.bytes.now r c.in_err-laid.ensures)))

pub returns-in_err-laid-clause-addresses : goal.returns-in_err-laid-clause-addresses
returns-in_err-laid-clause-addresses c =
    let r = values_of c.in_err-laid.field-0.0 in
    ap (λ (x : Lists). x.addresses) (sym (lists_not c.args.bytes.now c.args.addresses.now c.args.sizes.now r (laid_not c.args.bytes.now r c.in_err-laid.ensures)))

pub returns-in_err-laid-clause-sizes : goal.returns-in_err-laid-clause-sizes
returns-in_err-laid-clause-sizes c =
    let r = values_of c.in_err-laid.field-0.0 in
    ap (λ (x : Lists). x.sizes) (sym (lists_not c.args.bytes.now c.args.addresses.now c.args.sizes.now r (laid_not c.args.bytes.now r c.in_err-laid.ensures)))

-- one of the lists is short
either : {A B C : Type 0} → A ⊎ (B × C) → A ⊎ C
either (inl a) = inl a
either (inr bc) = inr bc.1

pub returns-then-addresses-needed-clause-answer : goal.returns-then-addresses-needed-clause-answer
returns-then-addresses-needed-clause-answer c =
    let behind = laid_as c.args.bytes.now c.in_ok-laid.laid c.in_ok-laid.ensures in
    ap (λ (x : Lists). x.answer) (sym (short_as c.args.bytes.now c.args.addresses.now c.args.sizes.now c.in_ok-laid.laid behind c.len-needed.result c.len-needed.ensures.value (either c.then-addresses-needed.either)))

pub returns-then-addresses-needed-clause-addresses : goal.returns-then-addresses-needed-clause-addresses
returns-then-addresses-needed-clause-addresses c =
    let behind = laid_as c.args.bytes.now c.in_ok-laid.laid c.in_ok-laid.ensures in
    ap (λ (x : Lists). x.addresses) (sym (short_as c.args.bytes.now c.args.addresses.now c.args.sizes.now c.in_ok-laid.laid behind c.len-needed.result c.len-needed.ensures.value (either c.then-addresses-needed.either)))

pub returns-then-addresses-needed-clause-sizes : goal.returns-then-addresses-needed-clause-sizes
returns-then-addresses-needed-clause-sizes c =
    let behind = laid_as c.args.bytes.now c.in_ok-laid.laid c.in_ok-laid.ensures in
    ap (λ (x : Lists). x.sizes) (sym (short_as c.args.bytes.now c.args.addresses.now c.args.sizes.now c.in_ok-laid.laid behind c.len-needed.result c.len-needed.ensures.value (either c.then-addresses-needed.either)))

pub returns-clause-answer : goal.returns-clause-answer
returns-clause-answer c =
    let behind = laid_as c.args.bytes.now c.in_ok-laid.laid c.in_ok-laid.ensures in
    ap (λ (x : Lists). x.answer) (sym (filled_as c.args.bytes.now c.args.addresses.now c.args.sizes.now c.in_ok-laid.laid behind c.len-needed.result c.len-needed.ensures.value c.if-addresses-needed.false c.if-sizes-needed.false))

pub returns-clause-addresses : goal.returns-clause-addresses
returns-clause-addresses c =
    let behind = laid_as c.args.bytes.now c.in_ok-laid.laid c.in_ok-laid.ensures in
    c.fill.ensures.addresses
    ∙ (ap (λ (l : List Place). over (map (λ (p : Place). p.address) l) c.args.addresses.now) c.deref.ensures.0
    ∙ ap (λ (x : Lists). x.addresses) (sym (filled_as c.args.bytes.now c.args.addresses.now c.args.sizes.now c.in_ok-laid.laid behind c.len-needed.result c.len-needed.ensures.value c.if-addresses-needed.false c.if-sizes-needed.false)))

pub returns-clause-sizes : goal.returns-clause-sizes
returns-clause-sizes c =
    let behind = laid_as c.args.bytes.now c.in_ok-laid.laid c.in_ok-laid.ensures in
    c.fill.ensures.sizes
    ∙ (ap (λ (l : List Place). over (map (λ (p : Place). p.size) l) c.args.sizes.now) c.deref.ensures.0
    ∙ ap (λ (x : Lists). x.sizes) (sym (filled_as c.args.bytes.now c.args.addresses.now c.args.sizes.now c.in_ok-laid.laid behind c.len-needed.result c.len-needed.ensures.value c.if-addresses-needed.false c.if-sizes-needed.false)))
