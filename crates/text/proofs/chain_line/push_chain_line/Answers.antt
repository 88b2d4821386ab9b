use Rattle.std.proofs.Common.{[], ◌∷◌, arith, append_assoc, take}
use Rattle.std.proofs.lemmas.List.{take_all}
use Rattle.paper.specs.Printed.{decimal, decimals, spaced}
use Rattle.paper.specs.Quoted.{text}
use Rattle.text.proofs.Digits.{short16}
use Rattle.text.proofs.Steps.{spaced_more}
use Rattle.text.proofs.chain_line.push_chain_line.Goals as goal

pub loop-identity-init : goal.loop-identity-init
unfolding text decimals
loop-identity-init c = record { items = c.push_bytes.ensures.items; len = omega arith }

pub loop-identity-preserved : goal.loop-identity-preserved
loop-identity-preserved c =
    let l = c.args.chain.now in
    let i = c.loop-identity.identity-index in
    let old = c.args.text.now.items in
    let s = short16 c.from.result (omega arith) in
    record {
      items =
          rw (c.push_number.ensures.items, c.loop-identity.invariant.items, spaced_more (text "chain") l i c.from.result c.loop-identity-test.true c.from.ensures)
          (append_assoc old (spaced (text "chain" ∷ decimals (take i l))) (0x20 ∷ decimal c.from.result));
      len = omega arith;
    }

pub returns : goal.returns
unfolding text
returns c =
    let l = c.args.chain.now in
    rw (c.push.ensures.items, c.loop-identity.invariant.items, take_all c.loop-identity.identity-index l c.loop-identity-test.false)
    (append_assoc c.args.text.now.items (spaced (text "chain" ∷ decimals l)) (0x0A ∷ []))
