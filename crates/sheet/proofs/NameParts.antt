-- Where the name of a task lies, for what reading the sheet and looking for the task answers.
use Rattle.std.proofs.Common.{◌≡◌, refl, ap, ap₂, sym, ◌∙◌, subst, ℕ, ◌≤◌, ◌<◌, List, length, slice_index_or, Some, None, Ok, Err}
use Rattle.frame.specs.Values.{part_value}
use Rattle.frame.specs.declared.part.Part.{Part}
use Rattle.laws.specs.Tables.{not_refused}
use Rattle.paper.specs.Bytes.{nowhere}
use Rattle.paper.specs.Refusals.{Refusal, Answer}
use Rattle.paper.specs.Sheets.{read_sheet, name_in, name_of, name_from, head_record}
use Rattle.sheet.proofs.Lookup.{tasks_from_length}
use Rattle.sheet.proofs.Names.{name_found, name_missing, name_inside}
use Rattle.sheet.specs.Values.{sheet_read, sheet_value, tasks_from}
use Rattle.sheet.specs.Walks.{index_of, no_task}
use Rattle.sheet.specs.declared.sheet.Sheet.{Sheet}
use Rattle.paper.specs.Sheets

-- the sheet that stands behind one that was read
pub record Behind (s : List ℕ) (code : Sheet) : Type 0 where
  pub sheet : Sheets.Sheet
  pub is : read_sheet s ≡ Ok sheet
  pub tasks : code.tasks.items ≡ tasks_from 12 sheet.tasks

ok_same : {A : Type 0} (a b : A) → ◌≡◌ {A = Answer A} (Ok a) (Ok b) → a ≡ b
ok_same a b e = cc

pub behind : (s : List ℕ) (code : Sheet) → Ok code ≡ sheet_read (read_sheet s) → Behind s code
unfolding sheet_read sheet_value
behind s code e = go (read_sheet s) refl e
  where
    go : (x : Answer Sheets.Sheet) → read_sheet s ≡ x → Ok code ≡ sheet_read x → Behind s code
    go (Err r) q e = absurd (not_refused (Ok code) r code e refl)
    go (Ok sheet) q e = record { sheet = sheet; is = q; tasks = ap (λ (x : Sheet). x.tasks.items) (ok_same code (sheet_value sheet) e) }

pub no_sheet : (s : List ℕ) (id : ℕ) (r : Refusal) → Err r ≡ sheet_read (read_sheet s) → name_of s id ≡ nowhere
unfolding name_of sheet_read
no_sheet s id r e = go (read_sheet s) e
  where
    go : (x : Answer Sheets.Sheet) → Err r ≡ sheet_read x → name_in x id ≡ nowhere
    go (Err q) e = refl
    go (Ok sheet) e = absurd (not_refused (Ok (sheet_value sheet)) r (sheet_value sheet) (sym e) refl)

named : (s : List ℕ) (id : ℕ) (sheet : Sheets.Sheet) → read_sheet s ≡ Ok sheet → name_of s id ≡ name_from 12 sheet.tasks id
unfolding name_of
named s id sheet e = rw e refl

pub not_listed : (s : List ℕ) (id : ℕ) (code : Sheet) → Behind s code → index_of code.tasks.items id ≡ None → name_of s id ≡ nowhere
not_listed s id code b e = named s id b.sheet b.is ∙ name_missing 12 b.sheet.tasks id (ap (λ (l : List _). index_of l id) (sym b.tasks) ∙ e)

pub listed_name : (s : List ℕ) (id i : ℕ) (code : Sheet) → Behind s code → index_of code.tasks.items id ≡ Some i
    → (slice_index_or code.tasks.items i no_task).name ≡ part_value (name_of s id)
listed_name s id i code b e =
    ap (λ (l : List _). (slice_index_or l i no_task).name) b.tasks
    ∙ (sym (name_found 12 b.sheet.tasks id i (ap (λ (l : List _). index_of l id) (sym b.tasks) ∙ e)) ∙ ap part_value (sym (named s id b.sheet b.is)))

pub record Inside (s : List ℕ) (from to : ℕ) : Type 0 where
  pub low : from ≤ to
  pub high : to ≤ length s

pub lies_inside : (s : List ℕ) (i : ℕ) (code : Sheet) → Behind s code → i < length code.tasks.items
    → Inside s (slice_index_or code.tasks.items i no_task).name.from (slice_index_or code.tasks.items i no_task).name.to
lies_inside s i code b l =
    let m : i < length b.sheet.tasks = subst (λ (n : ℕ). i < n) (ap length b.tasks ∙ tasks_from_length 12 b.sheet.tasks) l in
    let x = name_inside s b.sheet b.is i m in
    subst (λ (l : List _). Inside s (slice_index_or l i no_task).name.from (slice_index_or l i no_task).name.to) (sym b.tasks) (record { low = x.0; high = x.1 })

-- the default part
pub zeros : (p : Part) → (p.from ≡ 0) × (p.to ≡ 0) → p ≡ part_value nowhere
zeros p h = ap₂ (λ (a b : ℕ). record { from = a; to = b }) h.0 h.1
