use Rattle.std.proofs.Common.{arith, ap, ◌∙◌, [], ◌∷◌, length, length-append}
use Rattle.layout.proofs.Links.{placed_length, placed_fit, placed_at, placed_under, IsReady, ready_bottom, ready_link, ready_room, ready_written}
use Rattle.layout.specs.Ends.{chain_up}
use Rattle.layout.specs.declared.layout.Place.{Place}
use Rattle.layout.proofs.chain.+link.Goals as goal
use Rattle.layout.proofs.chain.+link.Goals.{then-places-i-ne0, else-places-i-ne0}

pub bounds-places-i : goal.bounds-places-i
bounds-places-i t c = let n = placed_length c.args.sheet.now c.requires.orderly c.args.places.now c.requires.placed in omega arith

pub below-requires-clause-fits : goal.below-requires-clause-fits
below-requires-clause-fits t c = placed_fit c.args.sheet.now c.requires.orderly c.args.places.now c.requires.placed

pub below-requires-clause-few : goal.below-requires-clause-few
below-requires-clause-few t c =
    let n = placed_length c.args.sheet.now c.requires.orderly c.args.places.now c.requires.placed in
    omega arith

pub link-requires : goal.link-requires
link-requires t c =
    let u = placed_under c.args.sheet.now c.requires.orderly c.args.places.now c.requires.placed c.args.i c.requires.within c.if-places-i-ne0.true in
    let n = ap length u.up ∙ length-append (chain_up c.args.sheet.now _) (c.args.i ∷ []) in
    let room = c.requires.room in
    rw c.below.ensures (let d = c.decreases in omega arith, (c.requires.orderly, (c.requires.placed, (u.below, omega arith))))

pub bounds-places-i-2 : goal.bounds-places-i-2
bounds-places-i-2 t c = let n = placed_length c.args.sheet.now c.requires.orderly c.args.places.now c.requires.placed in omega arith

pub push-requires : goal.push-requires
push-requires t c =
    let sheet = c.args.sheet.now in
    let o = c.requires.orderly in
    let ps = c.args.places.now in
    let i = c.args.i in
    let ready : IsReady sheet o i c.args.chain.now.items c.if-places-i-ne0.chain.items = elim c.if-places-i-ne0.branch [
      | then-places-i-ne0 w ↦ ready_link sheet o ps c.requires.placed i w.below.result _ _ c.requires.within w.if-places-i-ne0.true w.below.ensures (cc)
      | else-places-i-ne0 w ↦ ready_bottom sheet o ps c.requires.placed i _ _ c.requires.within w.if-places-i-ne0.false (cc)
    ] in
    (omega arith, ready_room sheet o i _ _ ready c.requires.room)

pub returns : goal.returns
returns t c =
    let sheet = c.args.sheet.now in
    let o = c.requires.orderly in
    let ps = c.args.places.now in
    let i = c.args.i in
    let ready : IsReady sheet o i c.args.chain.now.items c.if-places-i-ne0.chain.items = elim c.if-places-i-ne0.branch [
      | then-places-i-ne0 w ↦ ready_link sheet o ps c.requires.placed i w.below.result _ _ c.requires.within w.if-places-i-ne0.true w.below.ensures (cc)
      | else-places-i-ne0 w ↦ ready_bottom sheet o ps c.requires.placed i _ _ c.requires.within w.if-places-i-ne0.false (cc)
    ] in
    let same = ap (λ (p : Place). p.identity) (placed_at sheet o ps c.requires.placed i c.requires.within) in
    c.push.ensures.items ∙ (rw same (ready_written sheet o i _ _ ready))
