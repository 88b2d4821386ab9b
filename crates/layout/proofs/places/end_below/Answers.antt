use Rattle.std.proofs.Common.{◌≡◌, refl, sym, ◌∙◌, ap, max, ℕ, length, arith}
use Rattle.layout.proofs.Sizes.{greater_of, end_so_far, end_more, end_kept, end_whole}
use Rattle.layout.proofs.places.end_below.Goals as goal
use Rattle.layout.proofs.places.end_below.Goals.{then-may, else-may}
use Rattle.layout.specs.Placing.{address_at, end_at, nest_at}
use Rattle.paper.specs.Words.{greatest}

pub loop-j-init : goal.loop-j-init
unfolding greatest
loop-j-init c = refl

pub loop-j-preserved : goal.loop-j-preserved
loop-j-preserved c =
    let places = c.args.places.now in
    let nest = nest_at c.args.sheet.now places in
    let j = c.loop-j.j in
    elim c.if-may.branch [
      | then-may w ↦
          let more = end_more nest (address_at places) c.args.i j (sym c.may.ensures ∙ w.if-may.true) in
          w.end-is ∙ (w.max-end.ensures ∙ (greater_of c.loop-j.end (end_at places j) ∙ (ap (λ (e : ℕ). max e (end_at places j)) c.loop-j.invariant ∙ more)))
      | else-may w ↦ w.end-is ∙ (c.loop-j.invariant ∙ end_kept nest (address_at places) c.args.i j (sym c.may.ensures ∙ w.if-may.false))
    ]

pub returns : goal.returns
returns c =
    let places = c.args.places.now in
    let nest = nest_at c.args.sheet.now places in
    let e : c.loop-j.j ≡ length places = omega arith in
    c.loop-j.invariant ∙ (ap (λ (n : ℕ). end_so_far nest (address_at places) c.args.i n) e ∙ end_whole nest (address_at places) c.args.i)
