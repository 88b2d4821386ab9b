-- "Who may preempt whom". Tasks go by their index in the sheet, which rises with the identity; the tests of the relation are stated for any relation on the numbers below n.
use Rattle.std.specs.Prelude.{Bool, not, ◌&&◌, ◌||◌, false, List, [], ◌∷◌, ℕ, ◌==◌, slice_index_or, length}
use Rattle.paper.specs.Words.{any, least}
use Rattle.paper.specs.Refusals.{Refusal, Rule, ◌⇒◌, naming}
use Rattle.paper.specs.Sheets.{Task, Bar, Sheet, no_task, exceeds}

-- there is a bar (lower, upper)
unfoldable pub barred : List Bar → ℕ → ℕ → Bool
barred [] lower upper = false
barred (b ∷ bs) lower upper = (b.lower == lower && b.upper == upper) || barred bs lower upper

abbrev pub task_no : Sheet → ℕ → Task
task_no sheet i = slice_index_or sheet.tasks i no_task

abbrev pub count : Sheet → ℕ
count sheet = length sheet.tasks

-- "Task i may preempt task j when the priority of i is greater than the threshold of j and there is no bar (lower j, upper i)."
unfoldable pub may_over : List Bar → Task → Task → Bool
may_over bars i j = exceeds i j && not (barred bars j.identity i.identity)

unfoldable pub may : Sheet → ℕ → ℕ → Bool
may sheet i j = may_over sheet.bars (task_no sheet i) (task_no sheet j)

-- "whenever j may preempt k and i may preempt j, i may preempt k": (k, j, i) breaks this
abbrev pub breaks : (ℕ → ℕ → Bool) → ℕ → ℕ → ℕ → Bool
breaks rel k j i = rel j k && (rel i j && not (rel i k))

unfoldable pub breaks_over : ℕ → (ℕ → ℕ → Bool) → ℕ → ℕ → Bool
breaks_over n rel k j = any n (λ i. breaks rel k j i)

unfoldable pub breaks_above : ℕ → (ℕ → ℕ → Bool) → ℕ → Bool
breaks_above n rel k = any n (λ j. breaks_over n rel k j)

unfoldable pub transitive : ℕ → (ℕ → ℕ → Bool) → Bool
transitive n rel = not (any n (λ k. breaks_above n rel k))

-- "the smallest such triple by identity, k first"
pub record Triple : Type 0 where
  pub k : ℕ
  pub j : ℕ
  pub i : ℕ

unfoldable pub smallest : ℕ → (ℕ → ℕ → Bool) → Triple
smallest n rel =
    let k = least n (λ k. breaks_above n rel k) in
    let j = least n (λ j. breaks_over n rel k j) in
    let i = least n (λ i. breaks rel k j i) in
    record { k = k; j = j; i = i }

-- "Otherwise refusal 16 names (k, j, i)"
abbrev pub naming16 : Sheet → Triple → Refusal
naming16 sheet t = naming 16 (task_no sheet t.k).identity (task_no sheet t.j).identity (task_no sheet t.i).identity

unfoldable pub transitive_rule : Sheet → Rule Refusal
transitive_rule sheet = transitive (count sheet) (may sheet) ⇒ naming16 sheet (smallest (count sheet) (may sheet))
