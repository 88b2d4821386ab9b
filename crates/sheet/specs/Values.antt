-- The paper's sheets, as the values that the code hands back.
use Rattle.std.specs.Prelude.{List, [], ◌∷◌, ℕ, ◌+◌, length}
use Rattle.frame.specs.Values.{part_value, with_value}
use Rattle.paper.specs.Dispatch.{slots, row_of}
use Rattle.paper.specs.Preempting.{count, may}
use Rattle.paper.specs.Records.{before_name}
use Rattle.paper.specs.Refusals.{Answer}
use Rattle.paper.specs.Sheets.{head_record, task_record}
use Rattle.paper.specs.Words.{listed}
use Rattle.sheet.specs.declared.sheet.Sheet.{Sheet}
use Rattle.sheet.specs.declared.task.Task.{Task}
use Rattle.paper.specs.Sheets

-- a task whose record begins at a place
abbrev pub task_value : ℕ → Sheets.Task → Task
task_value at t =
    record {
      identity = t.identity;
      priority = t.priority;
      threshold = t.threshold;
      need = t.need;
      name = part_value (record { from = at + before_name; to = at + length (task_record t) });
    }

-- tasks whose records begin at a place and follow each other
unfoldable pub tasks_from : ℕ → List Sheets.Task → List Task
tasks_from at [] = []
tasks_from at (t ∷ ts) = task_value at t ∷ tasks_from (at + length (task_record t)) ts

-- row i of the relation
unfoldable pub relation_row : Sheets.Sheet → ℕ → ℕ
relation_row sheet i = row_of (count sheet) (may sheet i)

unfoldable pub sheet_value : Sheets.Sheet → Sheet
sheet_value sheet =
    record {
      alignment = sheet.alignment;
      area = sheet.area;
      tasks = record { items = tasks_from (length (head_record sheet)) sheet.tasks };
      relation = slots 0 (listed (count sheet) (relation_row sheet));
    }

-- what reading a sheet answers
unfoldable pub sheet_read : Answer Sheets.Sheet → Answer Sheet
sheet_read answer = with_value sheet_value answer
