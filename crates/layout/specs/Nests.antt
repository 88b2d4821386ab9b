-- Who may preempt whom, sizes and addresses of a sheet in the code's terms: the relation's bits, and the tasks by index.
use Rattle.std.specs.Prelude.{[], ◌∷◌, ◌≡◌, Bool, true, List, map, ℕ, ◌≤◌, ◌<◌, nat_le, slice_index, slice_index_or, length}
use Rattle.laws.specs.Nests.{IsFalling}
use Rattle.layout.specs.declared.layout.Layout.{Layout}
use Rattle.layout.specs.declared.layout.Place.{Place}
use Rattle.paper.specs.Dispatch.{bit}
use Rattle.paper.specs.Limits.{most_level, most_need, is_alignment}
use Rattle.paper.specs.Places.{Nest, rounded_up, address_within, total_of, top_of, chain_to}
use Rattle.paper.specs.Preempting.{Triple, transitive, smallest}
use Rattle.paper.specs.Refusals.{Refusal, Rule, ◌⇒◌, naming, figured}
use Rattle.paper.specs.Words.{listed}
use Rattle.sheet.specs.Walks.{no_task}
use Rattle.sheet.specs.declared.sheet.Sheet.{Sheet}
use Rattle.sheet.specs.declared.task.Task.{Task}

abbrev pub count_here : Sheet → ℕ
count_here sheet = length sheet.tasks.items

abbrev pub task_here : Sheet → ℕ → Task
task_here sheet i = slice_index_or sheet.tasks.items i no_task

abbrev pub identity_here : Sheet → ℕ → ℕ
identity_here sheet i = (task_here sheet i).identity

abbrev pub level_here : Sheet → ℕ → ℕ
level_here sheet i = (task_here sheet i).priority

abbrev pub may_here : Sheet → ℕ → ℕ → Bool
may_here sheet i j = bit (slice_index sheet.relation i) j

abbrev pub size_here : Sheet → ℕ → ℕ
size_here sheet i = rounded_up sheet.alignment (task_here sheet i).need

abbrev pub nest_here : Sheet → Nest
nest_here sheet = record { count = count_here sheet; may = may_here sheet; size = size_here sheet }

unfoldable pub address_here : Sheet → ℕ → ℕ
address_here sheet i = address_within (level_here sheet i) (nest_here sheet) i

abbrev pub place_here : Sheet → ℕ → Place
place_here sheet i = record { identity = identity_here sheet i; address = address_here sheet i; size = size_here sheet i }

unfoldable pub places_here : Sheet → List Place
places_here sheet = listed (count_here sheet) (place_here sheet)

unfoldable pub total_here : Sheet → ℕ
total_here sheet = total_of (nest_here sheet) (address_here sheet)

unfoldable pub chain_here : Sheet → List ℕ
chain_here sheet =
    let top = top_of (nest_here sheet) (address_here sheet) in
    map (identity_here sheet) (chain_to (level_here sheet top) (nest_here sheet) (address_here sheet) top)

abbrev pub naming_here : Sheet → Triple → Refusal
naming_here sheet t = naming 16 (identity_here sheet t.k) (identity_here sheet t.j) (identity_here sheet t.i)

unfoldable pub transitive_here : Sheet → Rule Refusal
transitive_here sheet =
    transitive (count_here sheet) (may_here sheet) ⇒ naming_here sheet (smallest (count_here sheet) (may_here sheet))

-- what is handed back, and the rules before it
abbrev pub layout_here : Sheet → Layout
layout_here sheet =
    record {
      alignment = sheet.alignment;
      total = total_here sheet;
      places = record { items = places_here sheet };
      chain = record { items = chain_here sheet };
    }

abbrev pub rules_here : Sheet → List (Rule Refusal)
rules_here sheet = transitive_here sheet ∷ nat_le (total_here sheet) sheet.area ⇒ figured 17 (total_here sheet) ∷ []

-- what a sheet that was read keeps
pub record IsOrderly (sheet : Sheet) : Type 0 where
  pub aligned : is_alignment sheet.alignment ≡ true
  pub some : 0 < count_here sheet
  pub few : count_here sheet ≤ 64
  pub needs : (i : ℕ) → i < count_here sheet → (task_here sheet i).need ≤ most_need
  pub levels : (i : ℕ) → i < count_here sheet → level_here sheet i ≤ most_level
  pub falls : IsFalling (nest_here sheet) (level_here sheet)
