-- The code's reading of a sheet is the paper's: the head, then the tasks, then the bars, each the same with what is behind it.
use Rattle.std.proofs.Common.{◌≡◌, refl, ap, ap₂, ◌∙◌, ℕ, arith, List, [], ◌∷◌, length, Option, Some, None, Ok, Err}
use Rattle.std.specs.Option.{option_or}
use Rattle.frame.specs.Framing.{record_at}
use Rattle.frame.specs.Values.{with_value}
use Rattle.laws.specs.Tables.{first_append}
use Rattle.paper.specs.Bytes.{le16, le32}
use Rattle.paper.specs.Records.{head_kind, framing}
use Rattle.paper.specs.Refusals.{first, Answer, unless_at, and_then}
use Rattle.paper.specs.Sheets.{Bar, Walk, no_bar, head_rules, past_head, nothing_after, read_bars, read_tasks, read_records, read_sheet}
use Rattle.paper.specs.Words.{joined, last}
use Rattle.sheet.proofs.Bars.{code_barring, same_bars, free_same, bars_keep, Keeps}
use Rattle.sheet.proofs.Tasks.{tasks_of, tasks_then_bars, code_tasked, same_tasks, tasks_read, TasksRead, IsPlaced, IsRising, FramedAs, framed_as}
use Rattle.sheet.specs.Values.{tasks_from, sheet_value, sheet_read}
use Rattle.sheet.specs.Walks.{Head, Tasked, Barring, tasks_walk, bars_walk, at_first, no_bar_yet, head_here, head_read, sheet_of, code_read}
use Rattle.sheet.specs.declared.sheet.Sheet.{Sheet}
use Rattle.paper.specs.Sheets

-- What is behind the bars, and behind the tasks
abbrev paper_end : List ℕ → Walk → Answer Sheets.Sheet
paper_end s w = unless_at w.at (first (nothing_after s w.at)) (Ok w.sheet)

abbrev code_end : List ℕ → Head → Tasked → Barring → Answer Sheet
code_end s head w v = unless_at v.at (first (nothing_after s v.at)) (Ok (sheet_of head w v))

abbrev code_bars : List ℕ → Head → Tasked → Answer Sheet
code_bars s head w = and_then (bars_walk (length s) s w.tasks (no_bar_yet w)) (code_end s head w)

-- values that are the same are the same behind a table of rules
same_given : {A B : Type 0} (f : A → B) (at : ℕ) (o : Option ℕ) (a : A) (b : B) → f a ≡ b → with_value f (unless_at at o (Ok a)) ≡ unless_at at o (Ok b)
same_given f at None a b e = ap Ok e
same_given f at (Some k) a b e = refl

-- Behind the head the walk stands where the first task's record begins, and has no task yet
pub head_placed : (s : List ℕ) → FramedAs head_kind s 0 → IsPlaced (past_head s 0)
unfolding joined
head_placed s f = let low = f.shortest in let high = f.longest in omega arith

pub head_rising : (s : List ℕ) → IsRising (past_head s 0)
head_rising s i j h k = absurd (omega arith)

head_tasked : (s : List ℕ) → code_tasked (past_head s 0) ≡ at_first s
unfolding tasks_from last
head_tasked s = refl

-- Behind the tasks, where their walk ended in v
module _ (s : List ℕ) (n : ℕ) (v : Walk) (t : TasksRead n (past_head s 0) v) where
  no_bars : code_barring v ≡ no_bar_yet (code_tasked v)
  unfolding last
  no_bars = ap₂ (λ (b : Bar) (r : List ℕ). record { at = v.at; before = b; rows = r }) (ap (last no_bar) t.bars) (free_same 12 v.sheet t.bars)

  same_sheet : (u : Walk) → Keeps v u → sheet_value u.sheet ≡ sheet_of (head_here s) (code_tasked v) (code_barring u)
  unfolding sheet_value
  same_sheet u k = rw (k.alignment ∙ t.alignment, k.area ∙ t.area, k.tasks) refl

  same_end : (x : Answer Walk) → read_bars (length s) s v ≡ x
      → with_value sheet_value (and_then x (paper_end s)) ≡ and_then (with_value code_barring x) (code_end s (head_here s) (code_tasked v))
  same_end (Err r) e = refl
  same_end (Ok u) e =
      same_given sheet_value u.at (first (nothing_after s u.at)) u.sheet (sheet_of (head_here s) (code_tasked v) (code_barring u))
      (same_sheet u (bars_keep (length s) s v u e))

  bars_then_end : with_value sheet_value (and_then (read_bars (length s) s v) (paper_end s)) ≡ code_bars s (head_here s) (code_tasked v)
  bars_then_end =
      same_end (read_bars (length s) s v) refl
      ∙ ap (λ (x : Answer Barring). and_then x (code_end s (head_here s) (code_tasked v)))
      (same_bars (length s) s v t.rising ∙ ap (bars_walk (length s) s (tasks_from 12 v.sheet.tasks)) no_bars)

-- Behind the head
tasks_then_end : (s : List ℕ) (n : ℕ) → IsPlaced (past_head s 0)
    → with_value sheet_value (and_then (read_tasks n s (past_head s 0)) (paper_end s)) ≡ and_then (tasks_walk n s (at_first s)) (code_bars s (head_here s))
tasks_then_end s n p =
    rw (tasks_then_bars n s (past_head s 0), ← head_tasked s, ← same_tasks n s (past_head s 0) p) (go (tasks_of n s (past_head s 0)) refl)
  where
    go : (x : Answer Walk) → tasks_of n s (past_head s 0) ≡ x
        → with_value sheet_value (and_then (and_then x (λ v. read_bars (length s) s v)) (paper_end s))
        ≡ and_then (with_value code_tasked x) (code_bars s (head_here s))
    go (Err r) e = refl
    go (Ok v) e = bars_then_end s n v (tasks_read n s (past_head s 0) v p (head_rising s) e)

-- the whole sheet
pub reading : (s : List ℕ) → sheet_read (read_sheet s) ≡ code_read s
unfolding sheet_read read_sheet read_records code_read head_read
reading s =
    rw (first_append (framing (head_kind ∷ []) s 0) (head_rules (le16 s 4) (le32 s 6) (le16 s 10)))
    (go (first (framing (head_kind ∷ []) s 0)) (first (head_rules (le16 s 4) (le32 s 6) (le16 s 10))) refl)
  where
    go : (o q : Option ℕ) → first (framing (head_kind ∷ []) s 0) ≡ o
        → with_value sheet_value (and_then (unless_at 0 (option_or o q) (read_tasks (le16 s 10) s (past_head s 0))) (paper_end s))
        ≡ and_then (and_then (unless_at 0 o (Ok (record_at s 0))) (λ r. unless_at 0 q (Ok (head_here s)))) (λ head.
        and_then (tasks_walk head.count s (at_first s)) (code_bars s head))
    go None None e = tasks_then_end s (le16 s 10) (head_placed s (framed_as head_kind s 0 e))
    go None (Some k) e = refl
    go (Some k) q e = refl
