-- What the functions of the walk hand back, in the terms of the definitions of the walk.
use Rattle.std.specs.Prelude.{List, ℕ}
use Rattle.paper.specs.Sheets.{no_bar}
use Rattle.sheet.specs.Walks.{free_rows}
use Rattle.sheet.specs.declared.bar.Bar.{Bar}
use Rattle.sheet.specs.declared.barring.Barring.{Barring}
use Rattle.sheet.specs.declared.head.Head.{Head}
use Rattle.sheet.specs.declared.task.Task.{Task}
use Rattle.sheet.specs.declared.tasked.Tasked.{Tasked}
use Rattle.paper.specs.Sheets
use Rattle.sheet.specs.Walks

abbrev pub head_value : Head → Walks.Head
head_value head = record { alignment = head.sheet.alignment; area = head.sheet.area; count = head.count; end = head.end }

abbrev pub tasked_value : Tasked → Walks.Tasked
tasked_value w = record { at = w.at; before = w.before; tasks = w.tasks.items }

abbrev pub bar_value : Bar → Sheets.Bar
bar_value bar = record { lower = bar.lower; upper = bar.upper }

abbrev pub barring_value : Barring → Walks.Barring
barring_value w = record { at = w.at; before = bar_value w.before; rows = w.rows }

-- before the first bar
abbrev pub no_bars : List Task → ℕ → Walks.Barring
no_bars ts from = record { at = from; before = no_bar; rows = free_rows ts }
