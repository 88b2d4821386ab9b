-- The limits of the code are the paper's.
use Rattle.std.proofs.Common.{◌≡◌, refl}
use Rattle.paper.specs.Limits.{most_tasks}
use Rattle.sheet.specs.declared.sheet.TheConstants.Sheet.{MOST_TASKS}

pub most_tasks_same : MOST_TASKS ≡ most_tasks
most_tasks_same = refl
