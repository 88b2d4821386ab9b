-- The lines of a sheet that was read and laid out, in the code's terms: a task's name is a part of the sheet's bytes. The theorem in proofs/ says that these are the paper's lines.
use Rattle.std.specs.Prelude.{◌≡◌, List, [], ◌∷◌, ◌++◌, ℕ, ◌+◌, ◌≤◌, length}
use Rattle.std.specs.List.{All}
use Rattle.layout.specs.declared.layout.LaidOut.{LaidOut}
use Rattle.layout.specs.declared.layout.Place.{Place}
use Rattle.paper.specs.Bytes.{part}
use Rattle.paper.specs.Printed.{decimal, decimals, line}
use Rattle.paper.specs.Quoted.{text}
use Rattle.sheet.specs.declared.task.Task.{Task}

abbrev pub total_line_here : LaidOut → List ℕ
total_line_here laid =
    line
    (text "total"
    ∷ decimal laid.layout.total
    ∷ text "of"
    ∷ decimal laid.sheet.area
    ∷ text "align"
    ∷ decimal laid.sheet.alignment
    ∷ [])

abbrev pub name_here : List ℕ → Task → List ℕ
name_here s t = part s (record { from = t.name.from; to = t.name.to })

abbrev pub task_line_here : List ℕ → Task → Place → List ℕ
task_line_here s t p = line (decimal t.identity ∷ name_here s t ∷ decimal p.address ∷ decimal p.size ∷ [])

unfoldable pub task_lines_here : List ℕ → List Task → List Place → List ℕ
task_lines_here s [] ps = []
task_lines_here s (t ∷ ts) [] = []
task_lines_here s (t ∷ ts) (p ∷ ps) = task_line_here s t p ++ task_lines_here s ts ps

abbrev pub chain_line_here : List ℕ → List ℕ
chain_line_here l = line (text "chain" ∷ decimals l)

unfoldable pub lines_here : List ℕ → LaidOut → List ℕ
lines_here s laid =
    total_line_here laid ++ (task_lines_here s laid.sheet.tasks.items laid.layout.places.items ++ chain_line_here laid.layout.chain.items)

-- a task's name lies within the sheet's bytes, and is no longer than a name may be
pub record NameFits (s : List ℕ) (t : Task) : Type 0 where
  pub low : t.name.from ≤ t.name.to
  pub high : t.name.to ≤ length s
  pub short : t.name.to ≤ t.name.from + 16

-- what can be printed: as many places as tasks, whose names fit
pub record IsPrintable (s : List ℕ) (laid : LaidOut) : Type 0 where
  pub paired : length laid.layout.places.items ≡ length laid.sheet.tasks.items
  pub named : All (λ t. NameFits s t) laid.sheet.tasks.items
