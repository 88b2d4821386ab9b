-- "Sheet records": what a sheet says, its rules, reading, writing out, and where a task's name lies.
use Rattle.std.specs.Prelude.{Bool, if◌then◌else◌, ◌&&◌, ◌||◌, List, [], ◌∷◌, ◌++◌, map, ℕ, zero, suc, ◌+◌, nat_le, nat_lt, ◌==◌, length, Ok, Err}
use Rattle.paper.specs.Bytes.{le16, le32, put16, put32, Part, nowhere, part}
use Rattle.paper.specs.Words.{among, every, last, named, joined}
use Rattle.paper.specs.Limits.{most_level, most_need, most_area, in_name, is_alignment, is_count}
use Rattle.paper.specs.Records.{head_kind, task_kind, bar_kind, end_kind, before_name, kind_at, after, framing, record_of, end_record}
use Rattle.paper.specs.Refusals.{Rule, ◌⇒◌, first, Answer, unless_at, and_then, placed}

pub record Task : Type 0 where
  pub identity : ℕ
  pub priority : ℕ
  pub threshold : ℕ
  pub need : ℕ
  pub name : List ℕ

pub record Bar : Type 0 where
  pub lower : ℕ
  pub upper : ℕ

pub record Sheet : Type 0 where
  pub alignment : ℕ
  pub area : ℕ
  pub tasks : List Task
  pub bars : List Bar

-- no task, and no bar: what stands before the first one
abbrev pub no_task : Task
no_task = record { identity = 0; priority = 0; threshold = 0; need = 0; name = [] }

abbrev pub no_bar : Bar
no_bar = record { lower = 0; upper = 0 }

-- an identity names a task; the task that it names
abbrev pub is_task : List Task → ℕ → Bool
is_task ts id = among id (map (λ t. t.identity) ts)

abbrev pub task_of : List Task → ℕ → Task
task_of ts id = named (λ t. t.identity) no_task ts id

-- the priority of upper is greater than the threshold of lower
abbrev pub exceeds : Task → Task → Bool
exceeds upper lower = nat_lt lower.threshold upper.priority

-- "strictly rising order of (lower, upper)"
abbrev pub rises : Bar → Bar → Bool
rises a b = nat_lt a.lower b.lower || (a.lower == b.lower && nat_lt a.upper b.upper)

-- The rules of the fields, in order. Those of a task and of a bar take the sheet as read up to there.

-- "Head: 4, 5, 6." The alignment's and the count's hold for a map's head too
abbrev pub alignment_rule : ℕ → Rule ℕ
alignment_rule a = is_alignment a ⇒ 4

abbrev pub count_rule : ℕ → Rule ℕ
count_rule n = is_count n ⇒ 6

abbrev pub head_rules : ℕ → ℕ → ℕ → List (Rule ℕ)
head_rules alignment area count = alignment_rule alignment ∷ nat_le area most_area ⇒ 5 ∷ count_rule count ∷ []

-- "Task: 7 (zero, or not above the identity before it), 8, 9 (above 255 or below the priority), 10, 11."
abbrev pub task_rules : Sheet → Task → List (Rule ℕ)
task_rules sheet t =
    nat_lt (last no_task sheet.tasks).identity t.identity ⇒ 7
    ∷ nat_le t.priority most_level ⇒ 8
    ∷ (nat_le t.threshold most_level && nat_le t.priority t.threshold) ⇒ 9
    ∷ nat_le t.need most_need ⇒ 10
    ∷ every in_name t.name ⇒ 11
    ∷ []

-- "Bar: lower names a task, upper names a task (12); it bars something (13); rising order (14)."
abbrev pub bar_rules : Sheet → Bar → List (Rule ℕ)
bar_rules sheet b =
    (is_task sheet.tasks b.lower && is_task sheet.tasks b.upper) ⇒ 12
    ∷ exceeds (task_of sheet.tasks b.upper) (task_of sheet.tasks b.lower) ⇒ 13
    ∷ rises (last no_bar sheet.bars) b ⇒ 14
    ∷ []

-- Reading: the records' fields, and the walk over the records, which holds its place and the sheet as read so far.

abbrev pub task_at : List ℕ → ℕ → Task
task_at s at =
    record {
      identity = le16 s (at + 4);
      priority = le16 s (at + 6);
      threshold = le16 s (at + 8);
      need = le32 s (at + 10);
      name = part s (record { from = at + before_name; to = after s at });
    }

abbrev pub bar_at : List ℕ → ℕ → Bar
bar_at s at = record { lower = le16 s (at + 4); upper = le16 s (at + 6) }

pub record Walk : Type 0 where
  pub at : ℕ
  pub sheet : Sheet

abbrev pub past_head : List ℕ → ℕ → Walk
past_head s at = record { at = after s at; sheet = record { alignment = le16 s (at + 4); area = le32 s (at + 6); tasks = []; bars = [] } }

abbrev pub past_task : List ℕ → Walk → Walk
past_task s w =
    let sh = w.sheet in
    record { at = after s w.at; sheet = record { alignment = sh.alignment; area = sh.area; tasks = sh.tasks ++ (task_at s w.at ∷ []); bars = sh.bars } }

abbrev pub past_bar : List ℕ → Walk → Walk
past_bar s w =
    let sh = w.sheet in
    record { at = after s w.at; sheet = record { alignment = sh.alignment; area = sh.area; tasks = sh.tasks; bars = sh.bars ++ (bar_at s w.at ∷ []) } }

abbrev pub past_end : List ℕ → Walk → Walk
past_end s w = record { at = after s w.at; sheet = w.sheet }

-- bars up to the end record. There are fewer records than bytes, so that the number of those that may still come never runs out
unfoldable pub read_bars : ℕ → List ℕ → Walk → Answer Walk
read_bars zero s w = Err (placed 1 w.at)
read_bars (suc n) s w =
    let rest = read_bars n s (past_bar s w) in
    let this = unless_at w.at (first (bar_rules w.sheet (bar_at s w.at))) rest in
    unless_at w.at (first (framing (bar_kind ∷ end_kind ∷ []) s w.at)) (if kind_at s w.at == end_kind.kind then Ok (past_end s w) else this)

-- "exactly the counted task records", then the rest
unfoldable pub read_tasks : ℕ → List ℕ → Walk → Answer Walk
read_tasks zero s w = read_bars (length s) s w
read_tasks (suc n) s w =
    let rest = read_tasks n s (past_task s w) in
    unless_at w.at (first (framing (task_kind ∷ []) s w.at ++ task_rules w.sheet (task_at s w.at))) rest

-- the records from a place on, up to the end record and with it
unfoldable pub read_records : List ℕ → ℕ → Answer Walk
read_records s at =
    let count = le16 s (at + 10) in
    let rest = read_tasks count s (past_head s at) in
    unless_at at (first (framing (head_kind ∷ []) s at ++ head_rules (le16 s (at + 4)) (le32 s (at + 6)) count)) rest

-- "After the end record: 15."
abbrev pub nothing_after : List ℕ → ℕ → List (Rule ℕ)
nothing_after s at = nat_le (length s) at ⇒ 15 ∷ []

-- the sheet of a list of bytes, or the refusal, 1 to 15
unfoldable pub read_sheet : List ℕ → Answer Sheet
read_sheet s = and_then (read_records s 0) (λ w. unless_at w.at (first (nothing_after s w.at)) (Ok w.sheet))

-- Writing out

abbrev pub head_record : Sheet → List ℕ
head_record sheet = record_of head_kind (put16 sheet.alignment ++ (put32 sheet.area ++ put16 (length sheet.tasks)))

abbrev pub task_record : Task → List ℕ
task_record t = record_of task_kind (put16 t.identity ++ (put16 t.priority ++ (put16 t.threshold ++ (put32 t.need ++ t.name))))

abbrev pub bar_record : Bar → List ℕ
bar_record b = record_of bar_kind (put16 b.lower ++ put16 b.upper)

unfoldable pub write_sheet : Sheet → List ℕ
write_sheet sheet = head_record sheet ++ (joined task_record sheet.tasks ++ (joined bar_record sheet.bars ++ end_record))

-- "A task's name is handed out as that part of the sheet itself; for a sheet refused under 1 to 15, or a task it doesn't list, it is the empty part at the sheet's start." The first task's record begins after the head's
unfoldable pub name_from : ℕ → List Task → ℕ → Part
name_from at [] id = nowhere
name_from at (t ∷ ts) id =
    let next = at + length (task_record t) in
    let rest = name_from next ts id in
    if t.identity == id then record { from = at + before_name; to = next } else rest

abbrev pub name_in : Answer Sheet → ℕ → Part
name_in (Err r) id = nowhere
name_in (Ok sheet) id = name_from (length (head_record sheet)) sheet.tasks id

unfoldable pub name_of : List ℕ → ℕ → Part
name_of s id = name_in (read_sheet s) id
