use Rattle.std.proofs.Common.{◌≡◌, ◌∙◌, ap, ℕ, arith}
use Rattle.layout.proofs.Placing.{placed_all}
use Rattle.layout.proofs.places.places.Goals as goal
use Rattle.layout.specs.Placing.{placed_below}

pub returns : goal.returns
returns c =
    let e : c.loop-level.level ≡ 256 = omega arith in
    c.loop-level.invariant ∙ (ap (λ (n : ℕ). placed_below c.args.sheet.now n) e ∙ placed_all c.args.sheet.now c.requires)
