use Rattle.std.proofs.Common.{◌≡◌, ◌∙◌, sym, ap, subst, ℕ, ◌<◌, ◌^◌, List, length, slice_index_or, arith}
use Rattle.layout.proofs.Placing.{within_length, in_turn, placed_within, within_start, within_end, within_past, placed_here, end_fits}
use Rattle.layout.proofs.places.place_level.Goals as goal
use Rattle.layout.proofs.places.place_level.Goals.{then-deref-i, else-deref-i}
use Rattle.layout.specs.Nests.{level_here}
use Rattle.layout.specs.Placing.{end_at}
use Rattle.layout.specs.declared.layout.Place.{Place}
use Rattle.sheet.specs.Walks.{no_task}
use Rattle.sheet.specs.declared.task.Task.{Task}

pub loop-i-init : goal.loop-i-init
loop-i-init c = c.requires.lower ∙ within_start c.args.sheet.now c.args.level

pub end_below-requires-clause-fits : goal.end_below-requires-clause-fits
end_below-requires-clause-fits c =
    let sheet = c.args.sheet.now in
    subst (λ (ps : List Place). (i : ℕ) → i < length ps → end_at ps i < 2 ^ 32) (sym c.loop-i.invariant)
    (end_fits sheet c.requires.orderly (λ k. in_turn c.args.level c.loop-i.i (level_here sheet k) k))

pub loop-i-preserved : goal.loop-i-preserved
loop-i-preserved c =
    let sheet = c.args.sheet.now in
    let i = c.loop-i.i in
    let n = within_length sheet c.args.level i c.loop-i.places c.loop-i.invariant in
    elim c.if-deref-i.branch [
      | then-deref-i w ↦
          let level = sym (ap (λ (ts : List Task). (slice_index_or ts i no_task).priority) c.deref.ensures.0) ∙ w.if-deref-i.true in
          w.places-is
          ∙ placed_here sheet c.requires.orderly c.args.level i c.loop-i.places w.end_below.result (omega (arith, c.loop-i.auto.places)) level c.loop-i.invariant w.end_below.ensures
      | else-deref-i w ↦
          let level = ap (λ (ts : List Task). (slice_index_or ts i no_task).priority) c.deref.ensures.0 in
          w.places-is ∙ (c.loop-i.invariant ∙ within_past sheet c.args.level i (λ e. w.if-deref-i.false (level ∙ e)))
    ]

pub returns : goal.returns
returns c =
    let sheet = c.args.sheet.now in
    let n = within_length sheet c.args.level c.loop-i.i c.loop-i.places c.loop-i.invariant in
    let e : c.loop-i.i ≡ length sheet.tasks.items = omega (arith, c.loop-i.auto.places) in
    c.loop-i.invariant ∙ (ap (λ (n : ℕ). placed_within sheet c.args.level n) e ∙ within_end sheet c.args.level)
