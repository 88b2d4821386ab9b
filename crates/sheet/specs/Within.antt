-- Tasks and sheets within the limits, as their constructors make them: the number of the first limit that is broken, else the value.
use Rattle.std.specs.Prelude.{◌&&◌, List, [], ◌∷◌, ℕ, nat_le, nat_lt, replicate, Option, Some, None, Result, Ok, Err}
use Rattle.frame.specs.declared.part.Part.{Part}
use Rattle.paper.specs.Limits.{most_tasks, most_level, most_need, most_area}
use Rattle.paper.specs.Refusals.{Rule, ◌⇒◌, first}
use Rattle.paper.specs.Sheets.{alignment_rule}
use Rattle.sheet.specs.declared.sheet.Sheet.{Sheet}
use Rattle.sheet.specs.declared.task.Task.{Task}

abbrev pub unless_broken : {A : Type 0} → Option ℕ → A → Result A ℕ
unless_broken None a = Ok a
unless_broken (Some n) a = Err n

abbrev pub task_limits : ℕ → ℕ → ℕ → ℕ → List (Rule ℕ)
task_limits identity priority threshold need =
    nat_lt 0 identity ⇒ 7
    ∷ nat_le priority most_level ⇒ 8
    ∷ (nat_le threshold most_level && nat_le priority threshold) ⇒ 9
    ∷ nat_le need most_need ⇒ 10
    ∷ []

abbrev pub task_within : ℕ → ℕ → ℕ → ℕ → Part → Result Task ℕ
task_within identity priority threshold need name =
    unless_broken (first (task_limits identity priority threshold need))
    (record { identity = identity; priority = priority; threshold = threshold; need = need; name = name })

abbrev pub sheet_within : ℕ → ℕ → Result Sheet ℕ
sheet_within alignment area =
    unless_broken (first (alignment_rule alignment ∷ nat_le area most_area ⇒ 5 ∷ []))
    (record { alignment = alignment; area = area; tasks = record { items = [] }; relation = replicate most_tasks 0 })
