-- The code's lines are the paper's: of a sheet that was read and laid out, and of a refusal.
use Rattle.std.proofs.Common.{◌≡◌, refl, sym, ap, ap₂, ◌∙◌, ℕ, suc, ◌+◌, ◌<◌, arith, List, [], ◌∷◌, ◌++◌, map, length, slice_index_or, Option, Some, None, Ok, Err, subst}
use Rattle.std.proofs.lemmas.List.{get_or_default, length-map}
use Rattle.frame.specs.Values.{with_value}
use Rattle.laws.specs.Layouts.{map_of_length}
use Rattle.layout.specs.Values.{place_value, layout_value, given_layout, laid_out}
use Rattle.layout.specs.declared.layout.LaidOut.{LaidOut}
use Rattle.paper.specs.Places.{Place, Map, map_of, layout_of, room_rule}
use Rattle.paper.specs.Preempting.{transitive_rule}
use Rattle.paper.specs.Printed.{line, decimal, task_lines, layout_lines, refusal_line, of_layout, of_sheet, printed}
use Rattle.paper.specs.Refusals.{Refusal, Answer, first, unless, and_then}
use Rattle.paper.specs.Sheets.{read_sheet, task_record}
use Rattle.sheet.proofs.Lookup.{tasks_from_length}
use Rattle.sheet.proofs.Names.{IsNamed, names, name_inside}
use Rattle.sheet.specs.Values.{sheet_value, tasks_from}
use Rattle.sheet.specs.Walks.{no_task}
use Rattle.text.specs.Lines.{task_lines_here, lines_here, IsPrintable}
use Rattle.paper.specs.Sheets

-- the lines of tasks whose records follow each other from a place on, and whose names are parts of the bytes
task_lines_same : (s : List ℕ) (at : ℕ) (ts : List Sheets.Task) (ps : List Place)
    → ((i : ℕ) → i < length ts → IsNamed s (slice_index_or ts i Sheets.no_task) (slice_index_or (tasks_from at ts) i no_task).name)
    → task_lines_here s (tasks_from at ts) (map place_value ps) ≡ task_lines ts ps
unfolding task_lines_here task_lines tasks_from
task_lines_same s at [] ps named = refl
task_lines_same s at (t ∷ ts) [] named = refl
task_lines_same s at (t ∷ ts) (p ∷ ps) named =
    ap₂ (λ (name l : List ℕ). line (decimal t.identity ∷ name ∷ decimal p.address ∷ decimal p.size ∷ []) ++ l)
    (sym (named 0 (omega arith)).bytes)
    (task_lines_same s (at + length (task_record t)) ts ps (λ i h. named (suc i) (omega arith)))

pub lines_same : (s : List ℕ) (sheet : Sheets.Sheet) → read_sheet s ≡ Ok sheet → (m : Map) → lines_here s (given_layout sheet m) ≡ layout_lines sheet m
unfolding lines_here given_layout layout_value sheet_value layout_lines
lines_same s sheet e m = rw (task_lines_same s 12 sheet.tasks m.places (names s sheet e)) refl

-- what printing needs of a layout that is handed back
pub printable : (s : List ℕ) (sheet : Sheets.Sheet) → read_sheet s ≡ Ok sheet → IsPrintable s (given_layout sheet (map_of sheet))
unfolding given_layout layout_value sheet_value
printable s sheet e =
    let ts = tasks_from 12 sheet.tasks in
    let n = tasks_from_length 12 sheet.tasks in
    record {
      paired = length-map (map_of sheet).places place_value ∙ (map_of_length sheet ∙ sym n);
      named = λ i d h.
          rw (get_or_default ts i d no_task h)
          (record {
            low = (name_inside s sheet e i (omega arith)).0;
            high = (name_inside s sheet e i (omega arith)).1;
            short = (names s sheet e i (omega arith)).short;
          });
    }

-- What is printed of a sheet's bytes, for what reading and laying them out answers
pub record IsPrinted (s : List ℕ) (laid : LaidOut) (text : List ℕ) : Type 0 where
  pub needs : IsPrintable s laid
  pub lines : text ≡ lines_here s laid

layout_printed : (s : List ℕ) (sheet : Sheets.Sheet) → read_sheet s ≡ Ok sheet → (o : Option Refusal) (laid : LaidOut)
    → with_value (given_layout sheet) (unless o (Ok (map_of sheet))) ≡ Ok laid → IsPrinted s laid (of_layout sheet (unless o (Ok (map_of sheet))))
layout_printed s sheet e None laid q =
    let same : given_layout sheet (map_of sheet) ≡ laid = cc in
    record {
      needs = subst (λ (x : LaidOut). IsPrintable s x) same (printable s sheet e);
      lines = sym (lines_same s sheet e (map_of sheet)) ∙ ap (lines_here s) same;
    }
layout_printed s sheet e (Some r) laid q = absurd (let z : ◌≡◌ {A = ℕ} 0 1 = cc in omega arith)

pub layout_is_printed : (s : List ℕ) (laid : LaidOut) → laid_out s ≡ Ok laid → IsPrinted s laid (printed s)
unfolding laid_out layout_of printed
layout_is_printed s laid q = go (read_sheet s) refl q
  where
    go : (x : Answer Sheets.Sheet) → read_sheet s ≡ x → and_then x (λ sheet. with_value (given_layout sheet) (layout_of sheet)) ≡ Ok laid → IsPrinted s laid (of_sheet x)
    go (Err r) e q = absurd (let z : ◌≡◌ {A = ℕ} 0 1 = cc in omega arith)
    go (Ok sheet) e q = layout_printed s sheet e (first (transitive_rule sheet ∷ room_rule sheet (map_of sheet) ∷ [])) laid q

pub refusal_is_printed : (s : List ℕ) (r : Refusal) → laid_out s ≡ Err r → printed s ≡ refusal_line r
unfolding laid_out layout_of printed
refusal_is_printed s r q = go (read_sheet s) q
  where
    go : (x : Answer Sheets.Sheet) → and_then x (λ sheet. with_value (given_layout sheet) (layout_of sheet)) ≡ Err r → of_sheet x ≡ refusal_line r
    go (Err q) e = let same : q ≡ r = cc in ap refusal_line same
    go (Ok sheet) e = refused (layout_of sheet) e
      where
        refused : (x : Answer Map) → with_value (given_layout sheet) x ≡ Err r → of_layout sheet x ≡ refusal_line r
        refused (Err q) e = let same : q ≡ r = cc in ap refusal_line same
        refused (Ok m) e = absurd (let z : ◌≡◌ {A = ℕ} 0 1 = cc in omega arith)
