use Rattle.std.proofs.Common.{◌∙◌, rules, tests, ◌==◌}
use Rattle.std.proofs.lemmas.Iterator.{YieldsList-from_slice}
use Rattle.std.proofs.lemmas.Iterator.Search.{position_from_yields_List}
use Rattle.sheet.proofs.Words.{position_index}
use Rattle.sheet.proofs.index.index_of.Goals as goal
use Rattle.sheet.specs.declared.task.Task.{Task}

pub returns-clause-index : goal.returns-clause-index
returns-clause-index c =
    position_from_yields_List (λ (t : Task). t.identity == c.args.identity) _ _ _ c.position.ensures.ran (YieldsList-from_slice c.args.tasks.now cc) (λ x b q k. search (rules, tests))
    ∙ position_index c.args.tasks.now c.args.identity
