-- The walk over tasks: in the code's terms it is the paper's. The paper's walk goes on with the bars, so that it is cut in two first; then what is known of a walk over tasks that succeeded.
use Rattle.std.proofs.Common.{◌≡◌, refl, sym, ap, ap₂, subst, ◌∙◌, ℕ, suc, zero, ◌+◌, ◌-◌, ◌<◌, ◌≤◌, nat_le, ◌==◌, ◌||◌, arith, Bool, true, false, ◌&&◌, List, [], ◌∷◌, ◌++◌, drop, length, slice_index_or, Option, Some, None, Ok, leb-true, ltb-true, length-append, length-drop, length-take-le}
use Rattle.std.proofs.lemmas.Option.{none-some}
use Rattle.std.proofs.Math.ListN.{get_or-append}
use Rattle.std.proofs.Math.Seq.{get_or-append_seam}
use Rattle.frame.specs.Values.{with_value}
use Rattle.frame.specs.Framing.{record_at}
use Rattle.laws.specs.Lists.{joined_snoc, last_snoc, last_get_or}
use Rattle.std.specs.Option.{option_or}
use Rattle.laws.specs.Tables.{first_append, none_passes, unless_at_given}
use Rattle.laws.specs.Tests.{and_left, and_right, last_or_below}
use Rattle.paper.specs.Bytes.{has}
use Rattle.paper.specs.Preempting.{count}
use Rattle.paper.specs.Records.{Kind, task_kind, before_name, kind_at, length_at, after, allowed, suits, framing}
use Rattle.paper.specs.Refusals.{first, Answer, unless_at, and_then}
use Rattle.paper.specs.Sheets.{Walk, no_task, task_at, task_record, task_rules, past_task, read_bars, read_tasks}
use Rattle.paper.specs.Words.{every, last, joined}
use Rattle.sheet.specs.Values.{task_value, tasks_from}
use Rattle.sheet.specs.Walks.{Tasked, task_here, task_read, with_task, tasks_walk}
use Rattle.sheet.specs.declared.task.Task.{Task}
use Rattle.paper.specs.Sheets

-- the paper's walk over the tasks alone
unfoldable pub tasks_of : ℕ → List ℕ → Walk → Answer Walk
tasks_of zero s w = Ok w
tasks_of (suc n) s w = unless_at w.at (first (framing (task_kind ∷ []) s w.at ++ task_rules w.sheet (task_at s w.at))) (tasks_of n s (past_task s w))

-- what follows an answer follows it behind a table of rules too
behind : {A B : Type 0} (at : ℕ) (o : Option ℕ) (x : Answer A) (f : A → Answer B) → unless_at at o (and_then x f) ≡ and_then (unless_at at o x) f
behind at None x f = refl
behind at (Some k) x f = refl

pub tasks_then_bars : (n : ℕ) (s : List ℕ) (w : Walk) → read_tasks n s w ≡ and_then (tasks_of n s w) (λ v. read_bars (length s) s v)
unfolding read_tasks tasks_of
tasks_then_bars zero s w = refl
tasks_then_bars (suc n) s w =
    let o = first (framing (task_kind ∷ []) s w.at ++ task_rules w.sheet (task_at s w.at)) in
    ap (unless_at w.at o) (tasks_then_bars n s (past_task s w)) ∙ behind w.at o (tasks_of n s (past_task s w)) (λ v. read_bars (length s) s v)

-- where the walk stands, in the code's terms: the tasks' records follow each other behind the head's twelve bytes
abbrev pub code_tasked : Walk → Tasked
code_tasked w = record { at = w.at; before = (last no_task w.sheet.tasks).identity; tasks = tasks_from 12 w.sheet.tasks }

abbrev pub IsPlaced : Walk → Type 0
IsPlaced w = w.at ≡ 12 + length (joined task_record w.sheet.tasks)

-- a record that is framed where one kind alone may stand: its length, and that it is there
pub record FramedAs (k : Kind) (s : List ℕ) (at : ℕ) : Type 0 where
  pub shortest : k.shortest ≤ length_at s at
  pub longest : length_at s at ≤ k.longest
  pub whole : at + length_at s at ≤ length s

pub framed_as : (k : Kind) (s : List ℕ) (at : ℕ) → first (framing (k ∷ []) s at) ≡ None → FramedAs k s at
unfolding every
framed_as k s at e =
    let l = length_at s at in
    let some = has s at 4 in
    let here = allowed (kind_at s at) (k ∷ []) in
    let suited = suits (kind_at s at) l (k ∷ []) in
    let all = has s at l in
    let tests : (some && (here && (suited && (all && true)))) ≡ true = none_passes (framing (k ∷ []) s at) e in
    let behind_kind = and_right here (suited && (all && true)) (and_right some (here && (suited && (all && true))) tests) in
    let lengths = one_kind (kind_at s at == k.kind) (nat_le k.shortest l && nat_le l k.longest) (and_left suited (all && true) behind_kind) in
    record {
      shortest = leb-true k.shortest l (and_left (nat_le k.shortest l) (nat_le l k.longest) lengths);
      longest = leb-true l k.longest (and_right (nat_le k.shortest l) (nat_le l k.longest) lengths);
      whole = leb-true (at + l) (length s) (and_left all true (and_right suited (all && true) behind_kind));
    }
  where
    one_kind : (a b : Bool) → ((a && b) || false) ≡ true → b ≡ true
    one_kind true true e = refl
    one_kind true false e = e
    one_kind false b e = cc

abbrev pub FramedTask : List ℕ → ℕ → Type 0
FramedTask s at = FramedAs task_kind s at

pub framed_task : (s : List ℕ) (at : ℕ) → first (framing (task_kind ∷ []) s at) ≡ None → FramedTask s at
framed_task s at e = framed_as task_kind s at e

-- so the record written out is as long as the one that was read
pub record_length : (s : List ℕ) (at : ℕ) → FramedTask s at → length (task_record (task_at s at)) ≡ length_at s at
record_length s at f =
    let rest : length (drop (at + before_name) s) ≡ length s - (at + before_name) = length-drop (at + before_name) s in
    let low = f.shortest in
    let high = f.whole in
    let name : length (task_at s at).name ≡ after s at - (at + before_name) = length-take-le (after s at - (at + before_name)) (drop (at + before_name) s) (omega arith) in
    omega arith

-- a task at the end begins where the records before it end
pub tasks_from_snoc : (a : ℕ) (ts : List Sheets.Task) (t : Sheets.Task) → tasks_from a (ts ++ (t ∷ [])) ≡ tasks_from a ts ++ (task_value (a + length (joined task_record ts)) t ∷ [])
unfolding tasks_from joined
tasks_from_snoc a [] t = ap (λ (b : ℕ). task_value b t ∷ []) (omega arith)
tasks_from_snoc a (u ∷ ts) t =
    let l = length-append (task_record u) (joined task_record ts) in
    let e : a + length (task_record u) + length (joined task_record ts) ≡ a + length (task_record u ++ joined task_record ts) = omega arith in
    ap (λ (r : List Task). task_value a u ∷ r) (tasks_from_snoc (a + length (task_record u)) ts t ∙ ap (λ (b : ℕ). tasks_from (a + length (task_record u)) ts ++ (task_value b t ∷ [])) e)

-- One task more: the walk stands behind its record
pub placed_past : (s : List ℕ) (w : Walk) → IsPlaced w → FramedTask s w.at → IsPlaced (past_task s w)
placed_past s w p f =
    let t = task_at s w.at in
    let e = ap length (joined_snoc task_record w.sheet.tasks t) ∙ length-append (joined task_record w.sheet.tasks) (task_record t) in
    let l = record_length s w.at f in
    omega (arith, e, l)

pub past_same : (s : List ℕ) (w : Walk) → IsPlaced w → FramedTask s w.at → code_tasked (past_task s w) ≡ with_task s (code_tasked w) (task_here s w.at)
past_same s w p f =
    let t = task_at s w.at in
    let here : task_value (12 + length (joined task_record w.sheet.tasks)) t ≡ task_here s w.at = rw (← p, record_length s w.at f) refl in
    ap₂ (λ (i : ℕ) (l : List Task). record { at = after s w.at; before = i; tasks = l })
    (ap (λ (u : Sheets.Task). u.identity) (last_snoc no_task w.sheet.tasks t))
    (tasks_from_snoc 12 w.sheet.tasks t ∙ ap (λ (u : Task). tasks_from 12 w.sheet.tasks ++ (u ∷ [])) here)

-- the code's walk is the paper's
pub same_tasks : (n : ℕ) (s : List ℕ) (w : Walk) → IsPlaced w → with_value code_tasked (tasks_of n s w) ≡ tasks_walk n s (code_tasked w)
unfolding tasks_of tasks_walk task_read
same_tasks zero s w p = refl
same_tasks (suc n) s w p =
    rw (first_append (framing (task_kind ∷ []) s w.at) (task_rules w.sheet (task_at s w.at)))
    (go (first (framing (task_kind ∷ []) s w.at)) (first (task_rules w.sheet (task_at s w.at))) refl (same_tasks n s (past_task s w)))
  where
    go : (o q : Option ℕ) → first (framing (task_kind ∷ []) s w.at) ≡ o
        → (IsPlaced (past_task s w) → with_value code_tasked (tasks_of n s (past_task s w)) ≡ tasks_walk n s (code_tasked (past_task s w)))
        → with_value code_tasked (unless_at w.at (option_or o q) (tasks_of n s (past_task s w)))
        ≡ and_then (unless_at w.at o (Ok (record_at s w.at))) (λ r.
        and_then (unless_at w.at q (Ok (task_here s w.at))) (λ t. tasks_walk n s (with_task s (code_tasked w) t)))
    go None None e r = let f = framed_task s w.at e in r (placed_past s w p f) ∙ ap (tasks_walk n s) (past_same s w p f)
    go None (Some k) e r = refl
    go (Some k) q e r = refl

-- What is known of a walk that succeeded

-- the identities rise strictly
abbrev pub AreRising : List Sheets.Task → Type 0
AreRising ts = (i j : ℕ) → i < j → j < length ts → (slice_index_or ts i no_task).identity < (slice_index_or ts j no_task).identity

abbrev pub IsRising : Walk → Type 0
IsRising w = AreRising w.sheet.tasks

pub record TasksRead (n : ℕ) (w v : Walk) : Type 0 where
  pub placed : IsPlaced v
  pub counted : count v.sheet ≡ count w.sheet + n
  pub alignment : v.sheet.alignment ≡ w.sheet.alignment
  pub area : v.sheet.area ≡ w.sheet.area
  pub bars : v.sheet.bars ≡ w.sheet.bars
  pub rising : IsRising v

-- so none is above the last one, and a task with an identity above that keeps the order
rising_last : (ts : List Sheets.Task) (i : ℕ) → AreRising ts → i < length ts → (slice_index_or ts i no_task).identity ≤ (last no_task ts).identity
rising_last ts i rising h =
    let m = length ts - 1 in
    let n : length ts ≡ suc m = omega arith in
    rw (last_get_or no_task ts m no_task n)
    (last_or_below i m (omega arith) (λ e. rw e (omega arith)) (λ l. let r = rising i m l (omega arith) in omega arith))

rising_snoc : (ts : List Sheets.Task) (t : Sheets.Task) → AreRising ts → (last no_task ts).identity < t.identity → AreRising (ts ++ (t ∷ []))
rising_snoc ts t rising above i j h k =
    let l = length-append ts (t ∷ []) in
    last_or_below j (length ts) (omega arith)
    (λ e. rw (e, get_or-append_seam ts t [] no_task, get_or-append ts (t ∷ []) no_task i (omega arith)) (let r = rising_last ts i rising (omega arith) in omega arith))
    (λ b. rw (get_or-append ts (t ∷ []) no_task i (omega arith), get_or-append ts (t ∷ []) no_task j b) (rising i j h b))

pub else_none : (o q : Option ℕ) → option_or o q ≡ None → o ≡ None
else_none None q e = refl
else_none (Some k) q e = e

pub else_rest : (o q : Option ℕ) → option_or o q ≡ None → q ≡ None
else_rest None q e = e
else_rest (Some k) q e = absurd (none-some k (sym e))

pub tasks_read : (n : ℕ) (s : List ℕ) (w v : Walk) → IsPlaced w → IsRising w → tasks_of n s w ≡ Ok v → TasksRead n w v
unfolding tasks_of every
tasks_read zero s w v p rising e =
    let q : w ≡ v = cc in
    subst (λ (x : Walk). TasksRead 0 w x) q (record { placed = p; counted = omega arith; alignment = refl; area = refl; bars = refl; rising = rising })
tasks_read (suc n) s w v p rising e =
    let t = task_at s w.at in
    let o = first (framing (task_kind ∷ []) s w.at) in
    let q = first (task_rules w.sheet t) in
    let given = unless_at_given w.at (first (framing (task_kind ∷ []) s w.at ++ task_rules w.sheet t)) (tasks_of n s (past_task s w)) v e in
    let free : option_or o q ≡ None = sym (first_append (framing (task_kind ∷ []) s w.at) (task_rules w.sheet t)) ∙ given.free in
    let f = framed_task s w.at (else_none o q free) in
    let above = ltb-true (last no_task w.sheet.tasks).identity t.identity (and_left _ _ (none_passes (task_rules w.sheet t) (else_rest o q free))) in
    let r = tasks_read n s (past_task s w) v (placed_past s w p f) (rising_snoc w.sheet.tasks t rising above) given.goes_on in
    let l = length-append w.sheet.tasks (t ∷ []) in
    record {
      placed = r.placed;
      counted = let c = r.counted in omega arith;
      alignment = r.alignment;
      area = r.area;
      bars = r.bars;
      rising = r.rising;
    }

-- the walk stays within the bytes, since each record that it stands behind does
pub tasks_within : (n : ℕ) (s : List ℕ) (w v : Walk) → w.at ≤ length s → tasks_of n s w ≡ Ok v → v.at ≤ length s
unfolding tasks_of
tasks_within zero s w v h e = let q : w ≡ v = cc in rw (← q) h
tasks_within (suc n) s w v h e =
    let o = first (framing (task_kind ∷ []) s w.at) in
    let q = first (task_rules w.sheet (task_at s w.at)) in
    let given = unless_at_given w.at (first (framing (task_kind ∷ []) s w.at ++ task_rules w.sheet (task_at s w.at))) (tasks_of n s (past_task s w)) v e in
    let f = framed_task s w.at (else_none o q (sym (first_append (framing (task_kind ∷ []) s w.at) (task_rules w.sheet (task_at s w.at))) ∙ given.free)) in
    tasks_within n s (past_task s w) v f.whole given.goes_on
