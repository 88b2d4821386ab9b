-- Priorities and thresholds: where each threshold is at least its priority, priority falls from a task to each task that it may preempt, and thresholds without bars are transitive.
use Rattle.std.specs.Prelude.{◌≡◌, refl, Bool, true, false, not, List, [], ℕ, ◌≤◌, ◌<◌, nat_lt}
use Rattle.std.proofs.Common.{sym, ◌∙◌, le_refl, arith, ltb-true, ltb-false, lt-ltb}
use Rattle.std.proofs.Math.Bool.{and-true}
use Rattle.std.proofs.Math.ListN.{get_or-eq_default}
use Rattle.laws.specs.Tests.{and_left, not_passed}
use Rattle.laws.specs.Relations.{IsIrreflexive, at_transitive}
use Rattle.paper.specs.Preempting.{barred, task_no, count, may_over, may, transitive}
use Rattle.paper.specs.Sheets.{Task, Bar, Sheet, no_task, exceeds}

-- "threshold at least the priority"
abbrev pub ThresholdsCover : Sheet → Type 0
ThresholdsCover sheet = (i : ℕ) → i < count sheet → (task_no sheet i).priority ≤ (task_no sheet i).threshold

-- past the tasks there is no task, and it has no priority
pub past_tasks : (sheet : Sheet) (i : ℕ) → count sheet ≤ i → task_no sheet i ≡ no_task
past_tasks sheet i h = get_or-eq_default sheet.tasks no_task h

pub levels : (sheet : Sheet) → ThresholdsCover sheet → (i : ℕ) → (task_no sheet i).priority ≤ (task_no sheet i).threshold
levels sheet h i = go (nat_lt i (count sheet)) refl
  where
    go : (b : Bool) → nat_lt i (count sheet) ≡ b → (task_no sheet i).priority ≤ (task_no sheet i).threshold
    go true e = h i (ltb-true i (count sheet) e)
    go false e = rw (past_tasks sheet i (ltb-false i (count sheet) e)) (le_refl 0)

-- a task that may preempt another has a priority above its threshold
pub may_exceeds : (bars : List Bar) (i j : Task) → may_over bars i j ≡ true → j.threshold < i.priority
unfolding may_over
may_exceeds bars i j e = ltb-true j.threshold i.priority (and_left (exceeds i j) (not (barred bars j.identity i.identity)) e)

pub priority_falls : (bars : List Bar) (i j : Task) → j.priority ≤ j.threshold → may_over bars i j ≡ true → j.priority < i.priority
priority_falls bars i j h e = let l = may_exceeds bars i j e in omega arith

pub may_falls : (sheet : Sheet) → ThresholdsCover sheet → (i j : ℕ) → may sheet i j ≡ true → (task_no sheet j).priority < (task_no sheet i).priority
unfolding may
may_falls sheet h i j e = priority_falls sheet.bars (task_no sheet i) (task_no sheet j) (levels sheet h j) e

-- so no task may preempt itself
pub may_irreflexive : (sheet : Sheet) → ThresholdsCover sheet → IsIrreflexive (count sheet) (may sheet)
may_irreflexive sheet h i l = not_passed (may sheet i i) (λ e. let f = may_falls sheet h i i e in omega arith)

-- without bars it is the levels alone that count
pub may_without_bars : (sheet : Sheet) → sheet.bars ≡ [] → (i j : ℕ) → may sheet i j ≡ nat_lt (task_no sheet j).threshold (task_no sheet i).priority
unfolding may may_over barred
may_without_bars sheet h i j = rw (h, barred) (and-true (nat_lt (task_no sheet j).threshold (task_no sheet i).priority))

-- "Thresholds without bars are always transitive."
pub without_bars : (sheet : Sheet) → ThresholdsCover sheet → sheet.bars ≡ [] → transitive (count sheet) (may sheet) ≡ true
without_bars sheet h e = at_transitive (count sheet) (may sheet) (λ i j k hi hj hk p q.
    let a = ltb-true (task_no sheet j).threshold (task_no sheet i).priority (sym (may_without_bars sheet e i j) ∙ p) in
    let b = ltb-true (task_no sheet k).threshold (task_no sheet j).priority (sym (may_without_bars sheet e j k) ∙ q) in
    let c = h j hj in
    may_without_bars sheet e i k ∙ lt-ltb (task_no sheet k).threshold (task_no sheet i).priority (omega arith))
