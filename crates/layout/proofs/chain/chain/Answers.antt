use Rattle.std.proofs.Common.{refl, ◌∙◌, arith}
use Rattle.layout.proofs.Links.{placed_fit, placed_top, chain_up_few}
use Rattle.layout.proofs.chain.chain.Goals as goal
use Rattle.layout.specs.Nests.{chain_here}

pub top-requires : goal.top-requires
top-requires c = placed_fit c.args.sheet.now c.requires.orderly c.args.places.now c.requires.placed

pub link-requires-clause-within : goal.link-requires-clause-within
link-requires-clause-within c =
    let t = placed_top c.args.sheet.now c.requires.orderly c.args.places.now c.requires.placed in
    rw c.top.ensures t.within

pub link-requires-clause-room : goal.link-requires-clause-room
link-requires-clause-room c =
    let t = placed_top c.args.sheet.now c.requires.orderly c.args.places.now c.requires.placed in
    let few = chain_up_few c.args.sheet.now c.requires.orderly _ t.within in
    rw (c.top.ensures, c.new-chain.ensures) (omega arith)

pub returns : goal.returns
unfolding chain_here
returns c =
    let t = placed_top c.args.sheet.now c.requires.orderly c.args.places.now c.requires.placed in
    c.link.ensures ∙ rw (c.new-chain.ensures, c.top.ensures, t.same) refl
