use Rattle.std.proofs.Common.{◌≡◌, ◌∙◌, sym, ap, arith, length, ℕ, Ok, Err}
use Rattle.frame.specs.Values.{values_of}
use Rattle.frame.specs.declared.refusal.Refusal.{Refusal}
use Rattle.map.proofs.Steps.{head_read, places_read, places_of_walk, no_head, no_places, placed_then, total_wrong, total_right}
use Rattle.map.proofs.reading.Walk.records.Goals as goal
use Rattle.map.specs.Steps.{walk_value, places_walk}
use Rattle.paper.specs.Bytes.{le16}
use Rattle.sheet.proofs.Steps.{handed_on}

pub returns-in_err-head : goal.returns-in_err-head
returns-in_err-head c =
    let e = c.in_err-head.field-0.0 in
    handed_on walk_value _ e c.from_residual.ensures ∙ sym (no_head c.args.bytes.now (values_of e) (sym c.in_err-head.ensures))

pub places-requires-clause-aligned : goal.places-requires-clause-aligned
places-requires-clause-aligned c = let r = head_read c.args.bytes.now (walk_value c.in_ok-head.head) (sym c.in_ok-head.ensures) in r.aligned

pub places-requires-clause-room : goal.places-requires-clause-room
places-requires-clause-room c =
    let r = head_read c.args.bytes.now (walk_value c.in_ok-head.head) (sym c.in_ok-head.ensures) in
    let few = r.few in
    let none : length (walk_value c.in_ok-head.head).read.places ≡ 0 = ap length r.places in
    omega (arith, places_of_walk c.in_ok-head.head, c.le16.ensures)

pub returns-in_err-walk : goal.returns-in_err-walk
returns-in_err-walk c =
    let s = c.args.bytes.now in
    let head = walk_value c.in_ok-head.head in
    let e = c.in_err-walk.field-0.0 in
    let bad : places_walk (le16 s 10) s head ≡ Err (values_of e) = ap (λ (n : ℕ). places_walk n s head) (sym c.le16.ensures) ∙ sym c.in_err-walk.ensures in
    handed_on walk_value _ e c.from_residual-in_err-walk.ensures ∙ sym (no_places s head (sym c.in_ok-head.ensures) (values_of e) bad)

pub returns-then-not-total_is_greatest_end : goal.returns-then-not-total_is_greatest_end
returns-then-not-total_is_greatest_end c =
    let s = c.args.bytes.now in
    let head = walk_value c.in_ok-head.head in
    let v = walk_value c.in_ok-walk.walk in
    let good : places_walk (le16 s 10) s head ≡ Ok v = ap (λ (n : ℕ). places_walk n s head) (sym c.le16.ensures) ∙ sym c.in_ok-walk.ensures in
    ap (λ (r : Refusal). Err (values_of r)) c.at.ensures
    ∙ sym (placed_then s head (sym c.in_ok-head.ensures) v good ∙ total_wrong s v (sym c.total_is_greatest_end.ensures ∙ c.if-not-total_is_greatest_end.true))

pub links-requires-clause-unlinked : goal.links-requires-clause-unlinked
links-requires-clause-unlinked c =
    let s = c.args.bytes.now in
    let r = head_read s (walk_value c.in_ok-head.head) (sym c.in_ok-head.ensures) in
    let p = places_read c.le16.result s (walk_value c.in_ok-head.head) (walk_value c.in_ok-walk.walk) (sym c.in_ok-walk.ensures) in
    p.links ∙ r.links

pub returns : goal.returns
returns c =
    let s = c.args.bytes.now in
    let head = walk_value c.in_ok-head.head in
    let v = walk_value c.in_ok-walk.walk in
    let good : places_walk (le16 s 10) s head ≡ Ok v = ap (λ (n : ℕ). places_walk n s head) (sym c.le16.ensures) ∙ sym c.in_ok-walk.ensures in
    c.links.ensures ∙ sym (placed_then s head (sym c.in_ok-head.ensures) v good ∙ total_right s v (sym c.total_is_greatest_end.ensures ∙ c.if-not-total_is_greatest_end.false))
