-- What every sheet that was read keeps: a listed alignment, 1 to 64 tasks, rising identities, and of each task the limits of its fields.
use Rattle.std.proofs.Common.{◌≡◌, sym, ◌∙◌, ℕ, suc, zero, ◌<◌, ◌≤◌, nat_le, nat_lt, arith, true, ◌&&◌, List, [], ◌∷◌, ◌++◌, length, slice_index_or, None, Ok, leb-true, ltb-true, length-append}
use Rattle.std.proofs.Math.ListN.{get_or-append}
use Rattle.std.proofs.Math.Seq.{get_or-append_seam}
use Rattle.std.specs.Option.{option_or}
use Rattle.laws.specs.Tables.{first_append, none_passes, unless_at_given}
use Rattle.laws.specs.Tests.{and_left, and_right, last_or_below}
use Rattle.paper.specs.Bytes.{le16, le32}
use Rattle.paper.specs.Limits.{most_tasks, most_level, most_need, most_area, in_name, is_alignment}
use Rattle.paper.specs.Preempting.{count}
use Rattle.paper.specs.Records.{task_kind, framing}
use Rattle.paper.specs.Refusals.{first}
use Rattle.paper.specs.Sheets.{Task, Sheet, Walk, no_task, task_at, task_rules, head_rules, past_head, past_task, read_sheet}
use Rattle.paper.specs.Words.{every, last}
use Rattle.sheet.proofs.Names.{walked}
use Rattle.sheet.proofs.Reading.{head_placed, head_rising}
use Rattle.sheet.proofs.Tasks.{tasks_of, tasks_read, AreRising, else_rest}

-- a task within the limits
pub record IsWithin (t : Task) : Type 0 where
  pub some : 0 < t.identity
  pub priority : t.priority ≤ most_level
  pub threshold : t.threshold ≤ most_level
  pub covers : t.priority ≤ t.threshold
  pub need : t.need ≤ most_need

abbrev pub AreWithin : List Task → Type 0
AreWithin ts = (i : ℕ) → i < length ts → IsWithin (slice_index_or ts i no_task)

-- the rules of a task passed
rules_within : (sheet : Sheet) (t : Task) → first (task_rules sheet t) ≡ None → IsWithin t
unfolding every
rules_within sheet t e =
    let id = nat_lt (last no_task sheet.tasks).identity t.identity in
    let p = nat_le t.priority most_level in
    let h = nat_le t.threshold most_level in
    let c = nat_le t.priority t.threshold in
    let n = nat_le t.need most_need in
    let a = every in_name t.name in
    let tests : (id && (p && ((h && c) && (n && (a && true))))) ≡ true = none_passes (task_rules sheet t) e in
    let above = ltb-true (last no_task sheet.tasks).identity t.identity (and_left id (p && ((h && c) && (n && (a && true)))) tests) in
    let levels = and_right id (p && ((h && c) && (n && (a && true)))) tests in
    let thresholds = and_right p ((h && c) && (n && (a && true))) levels in
    let both = and_left (h && c) (n && (a && true)) thresholds in
    record {
      some = omega arith;
      priority = leb-true t.priority most_level (and_left p ((h && c) && (n && (a && true))) levels);
      threshold = leb-true t.threshold most_level (and_left h c both);
      covers = leb-true t.priority t.threshold (and_right h c both);
      need = leb-true t.need most_need (and_left n (a && true) (and_right (h && c) (n && (a && true)) thresholds));
    }

within_snoc : (ts : List Task) (t : Task) → AreWithin ts → IsWithin t → AreWithin (ts ++ (t ∷ []))
within_snoc ts t before this i h =
    let l = length-append ts (t ∷ []) in
    last_or_below i (length ts) (omega arith)
    (λ e. rw (e, get_or-append_seam ts t [] no_task) this)
    (λ b. rw (get_or-append ts (t ∷ []) no_task i b) (before i b))

tasks_within_limits : (n : ℕ) (s : List ℕ) (w v : Walk) → AreWithin w.sheet.tasks → tasks_of n s w ≡ Ok v → AreWithin v.sheet.tasks
unfolding tasks_of
tasks_within_limits zero s w v h e = let q : w ≡ v = cc in rw (← q) h
tasks_within_limits (suc n) s w v h e =
    let t = task_at s w.at in
    let o = first (framing (task_kind ∷ []) s w.at) in
    let q = first (task_rules w.sheet t) in
    let given = unless_at_given w.at (first (framing (task_kind ∷ []) s w.at ++ task_rules w.sheet t)) (tasks_of n s (past_task s w)) v e in
    let free : option_or o q ≡ None = sym (first_append (framing (task_kind ∷ []) s w.at) (task_rules w.sheet t)) ∙ given.free in
    tasks_within_limits n s (past_task s w) v (within_snoc w.sheet.tasks t h (rules_within w.sheet t (else_rest o q free))) given.goes_on

-- the rules of the head passed
record HeadKept (alignment area tasks : ℕ) : Type 0 where
  aligned : is_alignment alignment ≡ true
  room : area ≤ most_area
  some : 0 < tasks
  few : tasks ≤ most_tasks

head_kept : (alignment area tasks : ℕ) → first (head_rules alignment area tasks) ≡ None → HeadKept alignment area tasks
unfolding every
head_kept alignment area tasks e =
    let a = is_alignment alignment in
    let r = nat_le area most_area in
    let l = nat_le 1 tasks in
    let h = nat_le tasks most_tasks in
    let tests : (a && (r && ((l && h) && true))) ≡ true = none_passes (head_rules alignment area tasks) e in
    let rest = and_right a (r && ((l && h) && true)) tests in
    let both = and_left (l && h) true (and_right r ((l && h) && true) rest) in
    record {
      aligned = and_left a (r && ((l && h) && true)) tests;
      room = leb-true area most_area (and_left r ((l && h) && true) rest);
      some = leb-true 1 tasks (and_left l h both);
      few = leb-true tasks most_tasks (and_right l h both);
    }

-- What reading keeps
pub record Kept (sheet : Sheet) : Type 0 where
  pub aligned : is_alignment sheet.alignment ≡ true
  pub area : sheet.area ≤ most_area
  pub some : 0 < count sheet
  pub few : count sheet ≤ most_tasks
  pub rising : AreRising sheet.tasks
  pub tasks : AreWithin sheet.tasks

pub kept : (s : List ℕ) (sheet : Sheet) → read_sheet s ≡ Ok sheet → Kept sheet
kept s sheet e =
    let w = walked s sheet e in
    let head = head_kept (le16 s 4) (le32 s 6) (le16 s 10) w.rules in
    let read = tasks_read (le16 s 10) s (past_head s 0) w.walk (head_placed s w.framed) (head_rising s) w.was in
    let counted : count w.walk.sheet ≡ le16 s 10 = let c = read.counted in omega arith in
    record {
      aligned = rw (w.alignment, read.alignment) head.aligned;
      area = rw (w.area, read.area) head.room;
      some = rw (w.tasks, counted) head.some;
      few = rw (w.tasks, counted) head.few;
      rising = rw w.tasks read.rising;
      tasks = rw w.tasks (tasks_within_limits (le16 s 10) s (past_head s 0) w.walk (λ i l. absurd (omega arith)) w.was);
    }
