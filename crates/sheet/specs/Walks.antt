-- Reading a sheet as the code does it: tasks with the bounds of their names, the last bar in place of all bars, and the relation, from which each bar takes a bit. The theorems in proofs/ say that this is the paper's reading.
use Rattle.std.specs.Prelude.{Bool, ◌&&◌, List, [], ◌∷◌, ◌++◌, ℕ, zero, suc, ◌+◌, ◌-◌, ◌^◌, nat_le, nat_lt, ◌==◌, if◌then◌else◌, slice_index, slice_index_or, slice_set, length, Option, Some, None, Ok, Err}
use Rattle.std.specs.Option.{option_map}
use Rattle.frame.specs.Framing.{Framed, record_at}
use Rattle.frame.specs.Values.{part_value}
use Rattle.paper.specs.Bytes.{le16, le32}
use Rattle.paper.specs.Dispatch.{bit, slots, row_of}
use Rattle.paper.specs.Limits.{most_level, most_need, in_name}
use Rattle.paper.specs.Records.{Kind, head_kind, task_kind, bar_kind, end_kind, before_name, after, framing}
use Rattle.paper.specs.Refusals.{Rule, ◌⇒◌, first, Answer, unless_at, and_then, placed}
use Rattle.paper.specs.Sheets.{Bar, no_bar, rises, head_rules, task_at, bar_at, nothing_after}
use Rattle.paper.specs.Words.{every, listed}
use Rattle.sheet.specs.declared.sheet.Sheet.{Sheet}
use Rattle.sheet.specs.declared.task.Task.{Task}
use Rattle.paper.specs.Sheets

-- the record at a place, framed as one of some kinds
abbrev pub framed : List Kind → List ℕ → ℕ → Answer Framed
framed here s at = unless_at at (first (framing here s at)) (Ok (record_at s at))

-- The task of a record, with the bounds of its name, and its rules after a task of some identity
abbrev pub task_here : List ℕ → ℕ → Task
task_here s at =
    record {
      identity = le16 s (at + 4);
      priority = le16 s (at + 6);
      threshold = le16 s (at + 8);
      need = le32 s (at + 10);
      name = part_value (record { from = at + before_name; to = after s at });
    }

abbrev pub rules_after : ℕ → Sheets.Task → List (Rule ℕ)
rules_after before t =
    nat_lt before t.identity ⇒ 7
    ∷ nat_le t.priority most_level ⇒ 8
    ∷ (nat_le t.threshold most_level && nat_le t.priority t.threshold) ⇒ 9
    ∷ nat_le t.need most_need ⇒ 10
    ∷ every in_name t.name ⇒ 11
    ∷ []

unfoldable pub task_read : List ℕ → ℕ → ℕ → Answer Task
task_read s at before = unless_at at (first (rules_after before (task_at s at))) (Ok (task_here s at))

-- tasks that follow each other: where the walk stands, the identity before it, and what was read
pub record Tasked : Type 0 where
  pub at : ℕ
  pub before : ℕ
  pub tasks : List Task

abbrev pub with_task : List ℕ → Tasked → Task → Tasked
with_task s w t = record { at = after s w.at; before = t.identity; tasks = w.tasks ++ (t ∷ []) }

unfoldable pub tasks_walk : ℕ → List ℕ → Tasked → Answer Tasked
tasks_walk zero s w = Ok w
tasks_walk (suc n) s w =
    and_then (framed (task_kind ∷ []) s w.at) (λ r.
    and_then (task_read s w.at w.before) (λ t. tasks_walk n s (with_task s w t)))

-- The index of the task that an identity names
unfoldable pub index_of : List Task → ℕ → Option ℕ
index_of [] id = None
index_of (t ∷ ts) id = if t.identity == id then Some 0 else option_map suc (index_of ts id)

abbrev pub no_task : Task
no_task = record { identity = 0; priority = 0; threshold = 0; need = 0; name = record { from = 0; to = 0 } }

abbrev pub over : List Task → ℕ → ℕ → Bool
over ts i j = nat_lt (slice_index_or ts j no_task).threshold (slice_index_or ts i no_task).priority

-- the relation without bars
unfoldable pub free_rows : List Task → List ℕ
free_rows ts = slots 0 (listed (length ts) (λ i. row_of (length ts) (over ts i)))

-- a row without a bit, and the relation without a pair
abbrev pub without : ℕ → ℕ → ℕ
without row j = if bit row j then row - 2 ^ j else row

abbrev pub barred_rows : List ℕ → ℕ → ℕ → List ℕ
barred_rows rows lower upper = slice_set rows upper (without (slice_index rows upper) lower)

-- bars that follow each other: where the walk stands, the bar before it, and the relation
pub record Barring : Type 0 where
  pub at : ℕ
  pub before : Bar
  pub rows : List ℕ

-- a bar between two tasks of some index, and of some identities
unfoldable pub bar_between : List ℕ → List Task → Barring → ℕ → ℕ → Answer Barring
bar_between s ts w lower upper =
    unless_at w.at (first (over ts upper lower ⇒ 13 ∷ rises w.before (bar_at s w.at) ⇒ 14 ∷ []))
    (Ok (record { at = after s w.at; before = bar_at s w.at; rows = barred_rows w.rows lower upper }))

abbrev pub bar_of : List ℕ → List Task → Barring → Option ℕ → Option ℕ → Answer Barring
bar_of s ts w None upper = Err (placed 12 w.at)
bar_of s ts w (Some l) None = Err (placed 12 w.at)
bar_of s ts w (Some l) (Some u) = bar_between s ts w l u

unfoldable pub bar_read : List ℕ → List Task → Barring → Answer Barring
bar_read s ts w = bar_of s ts w (index_of ts (bar_at s w.at).lower) (index_of ts (bar_at s w.at).upper)

unfoldable pub bars_walk : ℕ → List ℕ → List Task → Barring → Answer Barring
bars_walk zero s ts w = Err (placed 1 w.at)
bars_walk (suc n) s ts w =
    and_then (framed (bar_kind ∷ end_kind ∷ []) s w.at) (λ r.
    if r.kind == end_kind.kind then Ok (record { at = r.end; before = w.before; rows = w.rows })
    else and_then (bar_read s ts w) (λ next. bars_walk n s ts next))

-- The head's fields, and the whole sheet
abbrev pub at_first : List ℕ → Tasked
at_first s = record { at = after s 0; before = 0; tasks = [] }

abbrev pub no_bar_yet : Tasked → Barring
no_bar_yet w = record { at = w.at; before = no_bar; rows = free_rows w.tasks }

-- what a head says, once its rules have passed
pub record Head : Type 0 where
  pub alignment : ℕ
  pub area : ℕ
  pub count : ℕ
  pub end : ℕ

abbrev pub head_here : List ℕ → Head
head_here s = record { alignment = le16 s 4; area = le32 s 6; count = le16 s 10; end = after s 0 }

unfoldable pub head_read : List ℕ → Answer Head
head_read s =
    and_then (framed (head_kind ∷ []) s 0) (λ r.
    unless_at 0 (first (head_rules (le16 s 4) (le32 s 6) (le16 s 10))) (Ok (head_here s)))

abbrev pub sheet_of : Head → Tasked → Barring → Sheet
sheet_of head w v = record { alignment = head.alignment; area = head.area; tasks = record { items = w.tasks }; relation = v.rows }

unfoldable pub code_read : List ℕ → Answer Sheet
code_read s =
    and_then (head_read s) (λ head.
    and_then (tasks_walk head.count s (at_first s)) (λ w.
    and_then (bars_walk (length s) s w.tasks (no_bar_yet w)) (λ v.
    unless_at v.at (first (nothing_after s v.at)) (Ok (sheet_of head w v)))))
