use Rattle.std.proofs.Common.{◌≡◌, sym, ◌∙◌, ap, ap₂, false, List, ◌∷◌, [], ◌++◌, ℕ, length, slice_index_or, arith}
use Rattle.laws.specs.Lists.{length_listed, listed_step}
use Rattle.layout.proofs.Placing.{placed_none}
use Rattle.layout.proofs.places.at_bottom.Goals as goal
use Rattle.layout.specs.Placing.{place_if}
use Rattle.layout.specs.declared.layout.Place.{Place}
use Rattle.paper.specs.Places.{rounded_up}
use Rattle.paper.specs.Words.{listed}
use Rattle.sheet.specs.Walks.{no_task}
use Rattle.sheet.specs.declared.task.Task.{Task}

pub loop-task-init : goal.loop-task-init
unfolding listed
loop-task-init c = c.new-places.ensures

pub push-requires : goal.push-requires
push-requires c =
    let n = ap length c.loop-task.invariant ∙ length_listed c.loop-task.task-index (place_if c.args.sheet.now false) in
    (omega arith, omega (arith, c.as_slice-task-items.ensures.fits))

pub loop-task-preserved : goal.loop-task-preserved
loop-task-preserved c =
    let sheet = c.args.sheet.now in
    let i = c.loop-task.task-index in
    let size = c.size.ensures ∙ ap (λ (ts : List Task). rounded_up sheet.alignment (slice_index_or ts i no_task).need) c.as_slice-task-items.ensures.value in
    let place =
    ap₂ (λ (ts : List Task) (size : ℕ). record { identity = (slice_index_or ts i no_task).identity; address = 0; size = size }) c.as_slice-task-items.ensures.value size in
    c.push.ensures.items ∙ ap₂ (λ (ps : List Place) (p : Place). ps ++ (p ∷ [])) c.loop-task.invariant place ∙ sym (listed_step i (place_if sheet false))

pub returns : goal.returns
returns c =
    let n : c.loop-task.task-index ≡ length c.args.sheet.now.tasks.items = omega (arith, ap length c.as_slice-task-items.ensures.value) in
    c.loop-task.invariant ∙ ap (λ (n : ℕ). listed n (place_if c.args.sheet.now false)) n ∙ placed_none c.args.sheet.now
