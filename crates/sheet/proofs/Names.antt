-- Where a task's name lies: the paper's name by identity is that of the code's task at the index, and each name lies within the sheet.
use Rattle.std.proofs.Common.{◌≡◌, refl, sym, ap, ◌∙◌, ℕ, suc, zero, ◌+◌, ◌<◌, ◌≤◌, arith, Bool, true, false, ◌==◌, if◌then◌else◌, List, [], ◌∷◌, ◌++◌, length, slice_index_or, Some, None, Ok, length-append}
use Rattle.std.proofs.lemmas.Option.{none-some}
use Rattle.std.proofs.Math.ListN.{get_or-append}
use Rattle.std.proofs.Math.Seq.{get_or-append_seam}
use Rattle.std.specs.Option.{option_map, option_or}
use Rattle.frame.specs.Values.{part_value}
use Rattle.frame.specs.declared.part.Part.{Part}
use Rattle.laws.specs.Tables.{first_append, unless_at_given, and_then_given}
use Rattle.laws.specs.Tests.{last_or_below}
use Rattle.paper.specs.Bytes.{le16, le32, nowhere, part}
use Rattle.paper.specs.Records.{head_kind, task_kind, framing, before_name}
use Rattle.paper.specs.Refusals.{first}
use Rattle.paper.specs.Sheets.{Walk, head_record, task_record, head_rules, task_at, task_rules, nothing_after, past_head, past_task, read_bars, read_tasks, read_records, read_sheet, name_from}
use Rattle.paper.specs.Words.{joined}
use Rattle.sheet.proofs.Bars.{bars_keep}
use Rattle.sheet.proofs.Lookup.{no_suc, some_suc, tasks_from_length}
use Rattle.sheet.proofs.Reading.{head_placed, head_rising}
use Rattle.sheet.proofs.Tasks.{tasks_of, tasks_then_bars, tasks_read, tasks_within, tasks_from_snoc, placed_past, record_length, IsPlaced, FramedAs, FramedTask, framed_as, framed_task, else_none, else_rest}
use Rattle.sheet.specs.Values.{task_value, tasks_from}
use Rattle.sheet.specs.Walks.{index_of, no_task}
use Rattle.paper.specs.Sheets

-- By identity: no index, and the empty part at the start; else the name of the task at the index
pub name_missing : (at : ℕ) (ts : List Sheets.Task) (id : ℕ) → index_of (tasks_from at ts) id ≡ None → name_from at ts id ≡ nowhere
unfolding tasks_from index_of name_from
name_missing at [] id e = refl
name_missing at (t ∷ ts) id e = go (t.identity == id) e (name_missing (at + length (task_record t)) ts id)
  where
    go : (b : Bool) → (if b then Some 0 else option_map suc (index_of (tasks_from (at + length (task_record t)) ts) id)) ≡ None
        → (index_of (tasks_from (at + length (task_record t)) ts) id ≡ None → name_from (at + length (task_record t)) ts id ≡ nowhere)
        → (if b then record { from = at + before_name; to = at + length (task_record t) } else name_from (at + length (task_record t)) ts id) ≡ nowhere
    go true e r = absurd (none-some 0 (sym e))
    go false e r = r (no_suc (index_of (tasks_from (at + length (task_record t)) ts) id) e)

pub name_found : (at : ℕ) (ts : List Sheets.Task) (id i : ℕ) → index_of (tasks_from at ts) id ≡ Some i
    → part_value (name_from at ts id) ≡ (slice_index_or (tasks_from at ts) i no_task).name
unfolding tasks_from index_of name_from
name_found at [] id i e = absurd (none-some i e)
name_found at (t ∷ ts) id i e = go (t.identity == id) e (name_found (at + length (task_record t)) ts id)
  where
    go : (b : Bool) → (if b then Some 0 else option_map suc (index_of (tasks_from (at + length (task_record t)) ts) id)) ≡ Some i
        → ((k : ℕ) → index_of (tasks_from (at + length (task_record t)) ts) id ≡ Some k
        → part_value (name_from (at + length (task_record t)) ts id) ≡ (slice_index_or (tasks_from (at + length (task_record t)) ts) k no_task).name)
        → part_value (if b then record { from = at + before_name; to = at + length (task_record t) } else name_from (at + length (task_record t)) ts id)
        ≡ (slice_index_or (tasks_from at (t ∷ ts)) i no_task).name
    go true e r = let z : 0 ≡ i = cc in rw (← z) refl
    go false e r = let p = some_suc (index_of (tasks_from (at + length (task_record t)) ts) id) i e in rw p.next (r p.index p.was)

-- the first task's record begins behind the head's twelve bytes
pub length_head : (sheet : Sheets.Sheet) → length (head_record sheet) ≡ 12
length_head sheet = refl

-- Within the sheet: a name lies within its record, and so within the records of all tasks
name_in_records : (at : ℕ) (ts : List Sheets.Task) (i : ℕ) → i < length ts
    → ((slice_index_or (tasks_from at ts) i no_task).name.from ≤ (slice_index_or (tasks_from at ts) i no_task).name.to)
    × ((slice_index_or (tasks_from at ts) i no_task).name.to ≤ at + length (joined task_record ts))
unfolding tasks_from joined
name_in_records at [] i h = absurd (omega arith)
name_in_records at (t ∷ ts) zero h = let l = length-append (task_record t) (joined task_record ts) in (omega arith, omega arith)
name_in_records at (t ∷ ts) (suc i) h =
    let l = length-append (task_record t) (joined task_record ts) in
    let r = name_in_records (at + length (task_record t)) ts i (omega arith) in
    (r.0, omega (arith, r.1))

-- the head and the walk over the tasks of a sheet that was read
pub record Walked (s : List ℕ) (sheet : Sheets.Sheet) : Type 0 where
  pub framed : FramedAs head_kind s 0
  pub rules : first (head_rules (le16 s 4) (le32 s 6) (le16 s 10)) ≡ None
  pub walk : Walk
  pub was : tasks_of (le16 s 10) s (past_head s 0) ≡ Ok walk
  pub tasks : sheet.tasks ≡ walk.sheet.tasks
  pub alignment : sheet.alignment ≡ walk.sheet.alignment
  pub area : sheet.area ≡ walk.sheet.area

pub walked : (s : List ℕ) (sheet : Sheets.Sheet) → read_sheet s ≡ Ok sheet → Walked s sheet
unfolding read_sheet read_records
walked s sheet e =
    let o = first (framing (head_kind ∷ []) s 0) in
    let q = first (head_rules (le16 s 4) (le32 s 6) (le16 s 10)) in
    let records = and_then_given (read_records s 0) _ sheet e in
    let end = records.value in
    let read : Ok end.sheet ≡ Ok sheet = (unless_at_given end.at (first (nothing_after s end.at)) (Ok end.sheet) sheet records.then).goes_on in
    let head = unless_at_given 0 (first (framing (head_kind ∷ []) s 0 ++ head_rules (le16 s 4) (le32 s 6) (le16 s 10))) (read_tasks (le16 s 10) s (past_head s 0)) end records.was in
    let both = and_then_given (tasks_of (le16 s 10) s (past_head s 0)) (λ v. read_bars (length s) s v) end (sym (tasks_then_bars (le16 s 10) s (past_head s 0)) ∙ head.goes_on) in
    let same : sheet ≡ end.sheet = cc in
    let free : option_or o q ≡ None = sym (first_append (framing (head_kind ∷ []) s 0) (head_rules (le16 s 4) (le32 s 6) (le16 s 10))) ∙ head.free in
    let keeps = bars_keep (length s) s both.value end both.then in
    record {
      framed = framed_as head_kind s 0 (else_none o q free);
      rules = else_rest o q free;
      walk = both.value;
      was = both.was;
      tasks = ap (λ (x : Sheets.Sheet). x.tasks) same ∙ keeps.tasks;
      alignment = ap (λ (x : Sheets.Sheet). x.alignment) same ∙ keeps.alignment;
      area = ap (λ (x : Sheets.Sheet). x.area) same ∙ keeps.area;
    }

-- the records of the tasks lie within the bytes
records_inside : (s : List ℕ) (sheet : Sheets.Sheet) → read_sheet s ≡ Ok sheet → 12 + length (joined task_record sheet.tasks) ≤ length s
records_inside s sheet e =
    let w = walked s sheet e in
    let placed = (tasks_read (le16 s 10) s (past_head s 0) w.walk (head_placed s w.framed) (head_rising s) w.was).placed in
    let within = tasks_within (le16 s 10) s (past_head s 0) w.walk w.framed.whole w.was in
    rw w.tasks (omega arith)

pub name_inside : (s : List ℕ) (sheet : Sheets.Sheet) → read_sheet s ≡ Ok sheet → (i : ℕ) → i < length sheet.tasks
    → ((slice_index_or (tasks_from 12 sheet.tasks) i no_task).name.from ≤ (slice_index_or (tasks_from 12 sheet.tasks) i no_task).name.to)
    × ((slice_index_or (tasks_from 12 sheet.tasks) i no_task).name.to ≤ length s)
name_inside s sheet e i h = let r = name_in_records 12 sheet.tasks i h in let w = records_inside s sheet e in (r.0, omega (arith, r.1))

-- The bytes of a name: the paper's name of a task is the part of the sheet where the code's lies, and no longer than a name may be
pub record IsNamed (s : List ℕ) (t : Sheets.Task) (name : Part) : Type 0 where
  pub bytes : t.name ≡ part s (record { from = name.from; to = name.to })
  pub short : name.to ≤ name.from + 16

abbrev pub AreNamed : List ℕ → List Sheets.Task → Type 0
AreNamed s ts = (i : ℕ) → i < length ts → IsNamed s (slice_index_or ts i Sheets.no_task) (slice_index_or (tasks_from 12 ts) i no_task).name

-- a task more, where its record begins behind the others'
named_past : (s : List ℕ) (w : Walk) → IsPlaced w → FramedTask s w.at → AreNamed s w.sheet.tasks → AreNamed s (past_task s w).sheet.tasks
named_past s w p f named i h =
    let ts = w.sheet.tasks in
    let t = task_at s w.at in
    let l = length-append ts (t ∷ []) in
    let n = tasks_from_length 12 ts in
    let u = task_value (12 + length (joined task_record ts)) t in
    let long = f.longest in
    rw (tasks_from_snoc 12 ts t)
    (last_or_below i (length ts) (omega arith)
    (λ e.
    rw (e, get_or-append_seam ts t [] Sheets.no_task, ← n, get_or-append_seam (tasks_from 12 ts) u [] no_task, ← p, record_length s w.at f)
    (record { bytes = refl; short = omega arith }))
    (λ b. rw (get_or-append ts (t ∷ []) Sheets.no_task i b, get_or-append (tasks_from 12 ts) (u ∷ []) no_task i (omega arith)) (named i b)))

tasks_named : (n : ℕ) (s : List ℕ) (w v : Walk) → IsPlaced w → AreNamed s w.sheet.tasks → tasks_of n s w ≡ Ok v → AreNamed s v.sheet.tasks
unfolding tasks_of
tasks_named zero s w v p named e = let q : w ≡ v = cc in rw (← q) named
tasks_named (suc n) s w v p named e =
    let o = first (framing (task_kind ∷ []) s w.at) in
    let q = first (task_rules w.sheet (task_at s w.at)) in
    let given = unless_at_given w.at (first (framing (task_kind ∷ []) s w.at ++ task_rules w.sheet (task_at s w.at))) (tasks_of n s (past_task s w)) v e in
    let f = framed_task s w.at (else_none o q (sym (first_append (framing (task_kind ∷ []) s w.at) (task_rules w.sheet (task_at s w.at))) ∙ given.free)) in
    tasks_named n s (past_task s w) v (placed_past s w p f) (named_past s w p f named) given.goes_on

-- so it is for a sheet that was read
pub names : (s : List ℕ) (sheet : Sheets.Sheet) → read_sheet s ≡ Ok sheet → AreNamed s sheet.tasks
names s sheet e =
    let w = walked s sheet e in
    rw w.tasks (tasks_named (le16 s 10) s (past_head s 0) w.walk (head_placed s w.framed) (λ i h. absurd (omega arith)) w.was)

pub name_bytes : (s : List ℕ) (sheet : Sheets.Sheet) → read_sheet s ≡ Ok sheet → (i : ℕ) → i < length sheet.tasks
    → (slice_index_or sheet.tasks i Sheets.no_task).name
    ≡ part s (record {
      from = (slice_index_or (tasks_from 12 sheet.tasks) i no_task).name.from;
      to = (slice_index_or (tasks_from 12 sheet.tasks) i no_task).name.to;
    })
name_bytes s sheet e i h = (names s sheet e i h).bytes
