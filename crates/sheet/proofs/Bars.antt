-- The walk over bars in the code's terms is the paper's: the last bar stands for all of them, and each bar takes its one pair from the relation, since it names its two tasks by identities, and identities rise. It needs no bound on the number of tasks.
use Rattle.std.specs.Prelude.{Bool, true, false, cond, not, ◌&&◌, ◌||◌, List, [], ◌∷◌, ◌++◌, ◌≡◌, ◌≢◌, ℕ, zero, suc, ◌-◌, ◌^◌, ◌<◌, nat_lt, ◌==◌, get_or, set, length, replicate, Option, Some, None, Ok}
use Rattle.std.proofs.Common.{refl, ap, ap₂, sym, ◌∙◌, arith, eq-eqb, eqb-true, ⊎_elim}
use Rattle.std.proofs.Math.Bool.{and-true, and-false, or-false, or_assoc}
use Rattle.std.proofs.lemmas.Bool.{cases_lt}
use Rattle.std.proofs.lemmas.List.{get_or_append_left, set-append_left}
use Rattle.frame.specs.Framing.{record_at}
use Rattle.frame.specs.Values.{with_value}
use Rattle.laws.specs.Lists.{length_listed, get_or_listed, listed_ext, last_snoc}
use Rattle.laws.proofs.Rows.{row_same, bit_row, row_without}
use Rattle.laws.specs.Tables.{unless_at_given}
use Rattle.laws.specs.Tests.{same_test, not_passed}
use Rattle.paper.specs.Dispatch.{bit, slots, row_of}
use Rattle.paper.specs.Limits.{most_tasks}
use Rattle.paper.specs.Preempting.{barred, task_no, count, may_over, may}
use Rattle.paper.specs.Records.{bar_kind, end_kind, kind_at, after, framing}
use Rattle.paper.specs.Refusals.{◌⇒◌, first, Answer, unless_at, and_then}
use Rattle.paper.specs.Sheets.{Bar, Sheet, Walk, no_task, no_bar, is_task, task_of, exceeds, rises, bar_rules, bar_at, past_bar, past_end, read_bars}
use Rattle.paper.specs.Words.{listed, last}
use Rattle.sheet.proofs.Lookup.{tasks_from_length, same_priority, same_threshold, Found, none_is_task, some_is_task}
use Rattle.sheet.specs.Values.{tasks_from, relation_row}
use Rattle.sheet.specs.Walks.{index_of, over, free_rows, without, barred_rows, Barring, bar_between, bar_of, bar_read, bars_walk}
use Rattle.sheet.specs.declared.task.Task.{Task}
use Rattle.paper.specs.Sheets

-- What the code keeps of a walk over bars: the last bar for all of them, and the relation that they leave
abbrev pub code_barring : Walk → Barring
code_barring w = record { at = w.at; before = last no_bar w.sheet.bars; rows = slots 0 (listed (count w.sheet) (relation_row w.sheet)) }

-- Identities rise strictly, so that each names one task at most
abbrev pub Rising : Sheet → Type 0
Rising sheet = (i j : ℕ) → i < j → j < count sheet → (task_no sheet i).identity < (task_no sheet j).identity

-- A list of rows, filled up with zeros: what stands at one of them, and another put in its place
pub slots_at : (n : ℕ) (f : ℕ → ℕ) (i : ℕ) → i < n → get_or (slots 0 (listed n f)) i 0 ≡ f i
slots_at n f i h = let l = length_listed n f in get_or_append_left (listed n f) _ 0 i (omega arith) ∙ get_or_listed n f i 0 h

set_listed : (n : ℕ) (f g : ℕ → ℕ) (u : ℕ) → u < n → ((i : ℕ) → i < n → i ≢ u → g i ≡ f i) → set (listed n f) u (g u) ≡ listed n g
unfolding listed
set_listed zero f g u h same = absurd (omega arith)
set_listed (suc n) f g zero h same = ap (λ (l : List ℕ). g 0 ∷ l) (listed_ext n (λ i. f (suc i)) (λ i. g (suc i)) (λ i l. sym (same (suc i) (omega arith) (omega arith))))
set_listed (suc n) f g (suc u) h same =
    ap₂ (λ (x : ℕ) (l : List ℕ). x ∷ l) (sym (same 0 (omega arith) (omega arith)))
    (set_listed n (λ i. f (suc i)) (λ i. g (suc i)) u (omega arith) (λ i l d. same (suc i) (omega arith) (omega arith)))

slots_set : (n : ℕ) (f g : ℕ → ℕ) (u : ℕ) → u < n → ((i : ℕ) → i < n → i ≢ u → g i ≡ f i) → set (slots 0 (listed n f)) u (g u) ≡ slots 0 (listed n g)
slots_set n f g u h same =
    let l = length_listed n f in
    set-append_left (listed n f) (replicate (most_tasks - length (listed n f)) 0) u (g u) (omega arith)
    ∙ ap₂ (λ (x : List ℕ) (k : ℕ). x ++ replicate (most_tasks - k) 0) (set_listed n f g u h same) (length_listed n f ∙ sym (length_listed n g))

-- A bar more: its test is one more, behind `or`
abbrev with_bar : Sheet → Bar → Sheet
with_bar sheet b = record { alignment = sheet.alignment; area = sheet.area; tasks = sheet.tasks; bars = sheet.bars ++ (b ∷ []) }

barred_snoc : (bs : List Bar) (b : Bar) (x y : ℕ) → barred (bs ++ (b ∷ [])) x y ≡ (barred bs x y || (b.lower == x && b.upper == y))
unfolding barred
barred_snoc [] b x y = or-false (b.lower == x && b.upper == y)
barred_snoc (a ∷ bs) b x y =
    let here = a.lower == x && a.upper == y in
    ap (λ (t : Bool). here || t) (barred_snoc bs b x y) ∙ sym (or_assoc here (barred bs x y) (b.lower == x && b.upper == y))

-- A test behind `not` and `or` changes nothing where it fails; where it is the test y, it takes the cases of y away
not_here : (e x y : Bool) → (e && not (x || (y && false))) ≡ (e && not x)
not_here e x y = rw (and-false y, or-false x)

here_too : (e x y : Bool) → (e && not (x || (y && true))) ≡ ((e && not x) && not y)
here_too false x y = refl
here_too true true y = refl
here_too true false true = refl
here_too true false false = refl

-- A test without a case in which it failed anyway is the same test
still_false : (p t : Bool) → (t ≡ true → p ≡ false) → (p && not t) ≡ p
still_false p false h = and-true p
still_false p true h = and-false p ∙ sym (h refl)

-- A row without a bit, whether it had it or not
row_less : (n : ℕ) (p : ℕ → Bool) (l : ℕ) → l < n → row_of n (λ j. p j && not (j == l)) ≡ without (row_of n p) l
row_less n p l low = go (bit (row_of n p) l) refl
  where
    go : (t : Bool) → bit (row_of n p) l ≡ t → row_of n (λ j. p j && not (j == l)) ≡ cond t (row_of n p - 2 ^ l) (row_of n p)
    go true e = let r = row_without n p l low (sym (bit_row n p l low) ∙ e) in omega arith
    go false e =
        row_same n (λ j. p j && not (j == l)) p
        (λ j h. still_false (p j) (j == l) (λ k. ap p (eqb-true j l k) ∙ sym (bit_row n p l low) ∙ e))

-- A bar between the tasks of index l and u of a sheet takes the pair (u, l) from the relation, and nothing else
module _ (sheet : Sheet) (b : Bar) (l u : ℕ) (rising : Rising sheet) (low : l < count sheet) (high : u < count sheet) (lower : (task_no sheet l).identity ≡ b.lower) (upper : (task_no sheet u).identity ≡ b.upper) where
  index_same : (i j : ℕ) → i < count sheet → j < count sheet → (task_no sheet i).identity ≡ (task_no sheet j).identity → i ≡ j
  index_same i j p q e =
      ⊎_elim (λ h. let r = rising i j h q in omega arith) (λ h. ⊎_elim (λ k. let r = rising j i k p in omega arith) (λ k. omega arith) (cases_lt j i)) (cases_lt i j)

  lower_same : (j : ℕ) → j < count sheet → (b.lower == (task_no sheet j).identity) ≡ (j == l)
  lower_same j h =
      same_test (b.lower == (task_no sheet j).identity) (j == l)
      (λ e. eq-eqb j l (index_same j l h low (sym (lower ∙ eqb-true b.lower (task_no sheet j).identity e))))
      (λ e. eq-eqb b.lower (task_no sheet j).identity (sym lower ∙ ap (λ (k : ℕ). (task_no sheet k).identity) (sym (eqb-true j l e))))

  upper_other : (i : ℕ) → i < count sheet → i ≢ u → (b.upper == (task_no sheet i).identity) ≡ false
  upper_other i h d =
      not_passed (b.upper == (task_no sheet i).identity) (λ e. d (index_same i u h high (sym (upper ∙ eqb-true b.upper (task_no sheet i).identity e))))

  may_other : (i j : ℕ) → i < count sheet → i ≢ u → may (with_bar sheet b) i j ≡ may sheet i j
  unfolding may may_over
  may_other i j h d =
      let x = (task_no sheet j).identity in
      let y = (task_no sheet i).identity in
      rw (barred_snoc sheet.bars b x y, upper_other i h d)
      (not_here (exceeds (task_no sheet i) (task_no sheet j)) (barred sheet.bars x y) (b.lower == x))

  may_upper : (j : ℕ) → j < count sheet → may (with_bar sheet b) u j ≡ (may sheet u j && not (j == l))
  unfolding may may_over
  may_upper j h =
      let x = (task_no sheet j).identity in
      let y = (task_no sheet u).identity in
      rw (barred_snoc sheet.bars b x y, eq-eqb b.upper y (sym upper), lower_same j h)
      (here_too (exceeds (task_no sheet u) (task_no sheet j)) (barred sheet.bars x y) (j == l))

  row_other : (i : ℕ) → i < count sheet → i ≢ u → relation_row (with_bar sheet b) i ≡ relation_row sheet i
  unfolding relation_row
  row_other i h d = row_same (count sheet) (may (with_bar sheet b) i) (may sheet i) (λ j k. may_other i j h d)

  row_upper : relation_row (with_bar sheet b) u ≡ without (relation_row sheet u) l
  unfolding relation_row
  row_upper = row_same (count sheet) (may (with_bar sheet b) u) (λ j. may sheet u j && not (j == l)) may_upper ∙ row_less (count sheet) (may sheet u) l low

  rows_after : barred_rows (slots 0 (listed (count sheet) (relation_row sheet))) l u ≡ slots 0 (listed (count sheet) (relation_row (with_bar sheet b)))
  rows_after =
      let rows = slots 0 (listed (count sheet) (relation_row sheet)) in
      ap (λ (x : ℕ). set rows u x) (ap (λ (x : ℕ). without x l) (slots_at (count sheet) (relation_row sheet) u high) ∙ sym row_upper)
      ∙ slots_set (count sheet) (relation_row sheet) (relation_row (with_bar sheet b)) u high row_other

-- An answer of the paper's walk and one of the code's, the same behind the same table of rules, and on both ways of a test
module _ {A : Type 0} where
  same_behind : (at : ℕ) (o : Option ℕ) (x : Answer Walk) (a : A) (next : A → Answer Barring)
      → with_value code_barring x ≡ next a → with_value code_barring (unless_at at o x) ≡ and_then (unless_at at o (Ok a)) next
  same_behind at None x a next e = e
  same_behind at (Some k) x a next e = refl

same_either : (t : Bool) (x y : Answer Walk) (u v : Answer Barring) → with_value code_barring x ≡ u → with_value code_barring y ≡ v → with_value code_barring (cond t x y) ≡ cond t u v
same_either true x y u v p q = p
same_either false x y u v p q = q

-- The test of the code's tasks is that of the paper's
over_from : (a : ℕ) (ts : List Sheets.Task) (i j : ℕ) → over (tasks_from a ts) i j ≡ exceeds (get_or ts i no_task) (get_or ts j no_task)
over_from a ts i j = ap₂ nat_lt (same_threshold a ts j) (same_priority a ts i)

-- A bar's record, by the tasks that it names: 12 where one of them is missing, then 13 and 14, then the bar
module _ (s : List ℕ) (w : Walk) where
  abbrev bar : Bar
  bar = bar_at s w.at

  abbrev tasks : List Task
  tasks = tasks_from 12 w.sheet.tasks

  barring_after : (l u : ℕ) → Rising w.sheet → Found w.sheet.tasks bar.lower l → Found w.sheet.tasks bar.upper u
      → code_barring (past_bar s w) ≡ record { at = after s w.at; before = bar; rows = barred_rows (code_barring w).rows l u }
  barring_after l u rising x y =
      ap₂ (λ (c : Bar) (r : List ℕ). record { at = after s w.at; before = c; rows = r }) (last_snoc no_bar w.sheet.bars bar)
      (sym (rows_after w.sheet bar l u rising x.below y.below x.named y.named))

  bar_same : (rest : Answer Walk) (next : Barring → Answer Barring) (lower upper : Option ℕ) → index_of tasks bar.lower ≡ lower → index_of tasks bar.upper ≡ upper
      → Rising w.sheet → with_value code_barring rest ≡ next (code_barring (past_bar s w))
      → with_value code_barring (unless_at w.at (first (bar_rules w.sheet bar)) rest) ≡ and_then (bar_of s tasks (code_barring w) lower upper) next
  unfolding bar_between
  bar_same rest next None upper p q rising e = rw (none_is_task 12 w.sheet.tasks bar.lower p)
  bar_same rest next (Some l) None p q rising e = let x = some_is_task 12 w.sheet.tasks bar.lower l p in rw (x.is, none_is_task 12 w.sheet.tasks bar.upper q)
  bar_same rest next (Some l) (Some u) p q rising e =
      let x = some_is_task 12 w.sheet.tasks bar.lower l p in
      let y = some_is_task 12 w.sheet.tasks bar.upper u q in
      let t = exceeds (task_no w.sheet u) (task_no w.sheet l) in
      rw (x.is, y.is, x.same, y.same, over_from 12 w.sheet.tasks u l)
      (same_behind w.at (first (t ⇒ 13 ∷ rises (last no_bar w.sheet.bars) bar ⇒ 14 ∷ [])) rest
      (record { at = after s w.at; before = bar; rows = barred_rows (code_barring w).rows l u }) next
      (e ∙ ap next (barring_after l u rising x y)))

-- The walk: a record that cannot be framed, the end record, or a bar and the walk behind it
pub same_bars : (n : ℕ) (s : List ℕ) (w : Walk) → Rising w.sheet → with_value code_barring (read_bars n s w) ≡ bars_walk n s (tasks_from 12 w.sheet.tasks) (code_barring w)
unfolding read_bars bars_walk bar_read
same_bars zero s w rising = refl
same_bars (suc n) s w rising =
    let ts = tasks_from 12 w.sheet.tasks in
    let b = bar_at s w.at in
    same_behind w.at (first (framing (bar_kind ∷ end_kind ∷ []) s w.at)) _ (record_at s w.at) _
    (same_either (kind_at s w.at == end_kind.kind) (Ok (past_end s w)) _ _ _ refl
    (bar_same s w (read_bars n s (past_bar s w)) (λ next. bars_walk n s ts next) (index_of ts b.lower) (index_of ts b.upper) refl refl rising
    (same_bars n s (past_bar s w) rising)))

-- Where the walk over bars begins, there are none, and the rows are the free ones
pub free_same : (a : ℕ) (sheet : Sheet) → sheet.bars ≡ [] → slots 0 (listed (count sheet) (relation_row sheet)) ≡ free_rows (tasks_from a sheet.tasks)
unfolding free_rows relation_row may may_over barred
free_same a sheet e =
    let ts = tasks_from a sheet.tasks in
    rw (tasks_from_length a sheet.tasks)
    (ap (slots 0) (listed_ext (count sheet) (λ i. row_of (count sheet) (may sheet i)) (λ i. row_of (count sheet) (over ts i))
    (λ i h. row_same (count sheet) (may sheet i) (over ts i) (λ j k. rw (e, over_from a sheet.tasks i j) (and-true (exceeds (task_no sheet i) (task_no sheet j)))))))

-- What a walk over bars leaves as it was
pub record Keeps (w v : Walk) : Type 0 where
  pub alignment : v.sheet.alignment ≡ w.sheet.alignment
  pub area : v.sheet.area ≡ w.sheet.area
  pub tasks : v.sheet.tasks ≡ w.sheet.tasks

pub bars_keep : (n : ℕ) (s : List ℕ) (w v : Walk) → read_bars n s w ≡ Ok v → Keeps w v
unfolding read_bars
bars_keep zero s w v e = absurd (let z : ◌≡◌ {A = ℕ} 0 1 = cc in omega arith)
bars_keep (suc n) s w v e =
    let f = unless_at_given w.at (first (framing (bar_kind ∷ end_kind ∷ []) s w.at)) _ v e in
    go (kind_at s w.at == end_kind.kind) (read_bars n s (past_bar s w)) f.goes_on (λ h. bars_keep n s (past_bar s w) v h)
  where
    go : (t : Bool) (rest : Answer Walk) → cond t (Ok (past_end s w)) (unless_at w.at (first (bar_rules w.sheet (bar_at s w.at))) rest) ≡ Ok v
        → (rest ≡ Ok v → Keeps (past_bar s w) v) → Keeps w v
    go true rest e k =
        let q : v ≡ past_end s w = cc in
        record { alignment = ap (λ (x : Walk). x.sheet.alignment) q; area = ap (λ (x : Walk). x.sheet.area) q; tasks = ap (λ (x : Walk). x.sheet.tasks) q }
    go false rest e k =
        let r = k (unless_at_given w.at (first (bar_rules w.sheet (bar_at s w.at))) rest v e).goes_on in
        record { alignment = r.alignment; area = r.area; tasks = r.tasks }
