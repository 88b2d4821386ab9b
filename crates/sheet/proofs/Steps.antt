-- A step of the walk, for what a call on the way answers: a refusal ends it, and a record that was read leads on.
use Rattle.std.proofs.Common.{◌≡◌, refl, ap, sym, ℕ, suc, ◌<◌, ◌≤◌, length, le-leb, true, false, List, [], ◌∷◌, Option, Some, None, Result, Ok, Err, IsErr, IsErrAnd, ◌==◌}
use Rattle.std.proofs.lemmas.Bool.{false≢true, lt-leb}
use Rattle.std.specs.Result.{result_map_both}
use Rattle.frame.specs.Values.{values_of}
use Rattle.frame.specs.declared.refusal.Refusal as Code
use Rattle.frame.specs.Framing.{Framed, record_at}
use Rattle.laws.specs.Tables.{unless_at_given, unless_at_none, not_refused}
use Rattle.paper.specs.Records.{Kind, head_kind, task_kind, bar_kind, end_kind, after, framing}
use Rattle.paper.specs.Refusals.{Refusal, first, unless_at, placed}
use Rattle.paper.specs.Sheets.{head_rules}
use Rattle.paper.specs.Bytes.{le16, le32}
use Rattle.sheet.specs.Walks.{framed, Tasked, task_read, with_task, tasks_walk, Head, head_here, head_read, Barring, bar_read, bars_walk, at_first, no_bar_yet, sheet_of, code_read}
use Rattle.sheet.specs.declared.task.Task.{Task}

-- a refusal that `?` hands on
pub handed_on : {A B : Type 0} (f : A → B) (r : Result A Code.Refusal) (e : Code.Refusal) → IsErr r × IsErrAnd r (λ x. x ≡ e) → result_map_both f values_of r ≡ Err (values_of e)
handed_on f (Ok a) e h = absurd (false≢true h.0)
handed_on f (Err x) e h = ap (λ (y : Code.Refusal). Err (values_of y)) h.1

module _ (here : List Kind) (s : List ℕ) (at : ℕ) where
  -- a record that a function found framed, or refused
  pub framed_ok : (end : ℕ) → Ok end ≡ unless_at at (first (framing here s at)) (Ok (after s at)) → framed here s at ≡ Ok (record_at s at)
  framed_ok end e =
      let p = unless_at_given at (first (framing here s at)) (Ok (after s at)) end (sym e) in
      unless_at_none at (first (framing here s at)) (Ok (record_at s at)) p.free

  pub framed_err : {A B : Type 0} (a : A) (b : B) (r : Refusal) → Err r ≡ unless_at at (first (framing here s at)) (Ok a) → unless_at at (first (framing here s at)) (Ok b) ≡ Err r
  framed_err {A} {B} a b r e = go (first (framing here s at)) e
    where
      go : (o : Option ℕ) → Err r ≡ unless_at at o (Ok a) → unless_at at o (Ok b) ≡ Err r
      go None e = absurd (not_refused (Ok a) r a (sym e) refl)
      go (Some n) e = let q : placed n at ≡ r = cc in rw q refl

-- the head
module _ (s : List ℕ) where
  pub head_cut : (r : Refusal) → framed (head_kind ∷ []) s 0 ≡ Err r → head_read s ≡ Err r
  unfolding head_read
  head_cut r e = rw e refl

  pub head_framed : (x : Framed) → framed (head_kind ∷ []) s 0 ≡ Ok x → head_read s ≡ unless_at 0 (first (head_rules (le16 s 4) (le32 s 6) (le16 s 10))) (Ok (head_here s))
  unfolding head_read
  head_framed x e = rw e refl

pub tasks_done : (m : ℕ) (s : List ℕ) (w : Tasked) → m ≡ 0 → tasks_walk m s w ≡ Ok w
unfolding tasks_walk
tasks_done m s w e = rw e refl

-- tasks, where m is one more than n
module _ (m n : ℕ) (s : List ℕ) (w : Tasked) (more : m ≡ suc n) where
  pub task_cut : (r : Refusal) → framed (task_kind ∷ []) s w.at ≡ Err r → tasks_walk m s w ≡ Err r
  unfolding tasks_walk
  task_cut r e = rw (more, e) refl

  pub task_bad : (x : Framed) (r : Refusal) → framed (task_kind ∷ []) s w.at ≡ Ok x → task_read s w.at w.before ≡ Err r → tasks_walk m s w ≡ Err r
  unfolding tasks_walk
  task_bad x r e f = rw (more, e, f) refl

  pub task_more : (x : Framed) (t : Task) → framed (task_kind ∷ []) s w.at ≡ Ok x → task_read s w.at w.before ≡ Ok t → tasks_walk m s w ≡ tasks_walk n s (with_task s w t)
  unfolding tasks_walk
  task_more x t e f = rw (more, e, f) refl

pub bars_done : (m : ℕ) (s : List ℕ) (ts : List Task) (w : Barring) → m ≡ 0 → bars_walk m s ts w ≡ Err (placed 1 w.at)
unfolding bars_walk
bars_done m s ts w e = rw e refl

-- bars
module _ (m n : ℕ) (s : List ℕ) (ts : List Task) (w : Barring) (more : m ≡ suc n) where
  pub bar_cut : (r : Refusal) → framed (bar_kind ∷ end_kind ∷ []) s w.at ≡ Err r → bars_walk m s ts w ≡ Err r
  unfolding bars_walk
  bar_cut r e = rw (more, e) refl

  pub bar_end : (x : Framed) → framed (bar_kind ∷ end_kind ∷ []) s w.at ≡ Ok x → (x.kind == end_kind.kind) ≡ true
      → bars_walk m s ts w ≡ Ok (record { at = x.end; before = w.before; rows = w.rows })
  unfolding bars_walk
  bar_end x e f = rw (more, e, f) refl

  pub bar_bad : (x : Framed) (r : Refusal) → framed (bar_kind ∷ end_kind ∷ []) s w.at ≡ Ok x → (x.kind == end_kind.kind) ≡ false → bar_read s ts w ≡ Err r
      → bars_walk m s ts w ≡ Err r
  unfolding bars_walk
  bar_bad x r e f g = rw (more, e, f, g) refl

  pub bar_more : (x : Framed) (next : Barring) → framed (bar_kind ∷ end_kind ∷ []) s w.at ≡ Ok x → (x.kind == end_kind.kind) ≡ false → bar_read s ts w ≡ Ok next
      → bars_walk m s ts w ≡ bars_walk n s ts next
  unfolding bars_walk
  bar_more x next e f g = rw (more, e, f, g) refl

-- the whole reading, as far as each part of it answers
module _ (s : List ℕ) where
  pub read_no_head : (r : Refusal) → head_read s ≡ Err r → code_read s ≡ Err r
  unfolding code_read
  read_no_head r e = rw e refl

  module _ (h : Head) (head : head_read s ≡ Ok h) where
    pub read_no_tasks : (r : Refusal) → tasks_walk h.count s (at_first s) ≡ Err r → code_read s ≡ Err r
    unfolding code_read
    read_no_tasks r e = rw (head, e) refl

    module _ (w : Tasked) (tasks : tasks_walk h.count s (at_first s) ≡ Ok w) where
      pub read_no_bars : (r : Refusal) → bars_walk (length s) s w.tasks (no_bar_yet w) ≡ Err r → code_read s ≡ Err r
      unfolding code_read
      read_no_bars r e = rw (head, tasks, e) refl

      module _ (v : Barring) (bars : bars_walk (length s) s w.tasks (no_bar_yet w) ≡ Ok v) where
        pub read_more : v.at < length s → code_read s ≡ Err (placed 15 v.at)
        unfolding code_read
        read_more l = rw (head, tasks, bars, lt-leb (length s) v.at l) refl

        pub read_all : length s ≤ v.at → code_read s ≡ Ok (sheet_of h w v)
        unfolding code_read
        read_all l = rw (head, tasks, bars, le-leb (length s) v.at l) refl
