use Rattle.std.proofs.Common.{◌∙◌, rules, tests}
use Rattle.std.proofs.lemmas.Iterator.{YieldsList-from_slice}
use Rattle.std.proofs.lemmas.Iterator.Search.{all_from_yields_List}
use Rattle.paper.specs.Limits.{in_name}
use Rattle.sheet.proofs.Words.{all_every}
use Rattle.sheet.proofs.task.is_name.Goals as goal

pub returns : goal.returns
returns c =
    all_from_yields_List in_name _ _ _ c.all.ensures.ran (YieldsList-from_slice c.args.bytes.now cc) (λ x b q k. search (rules, tests))
    ∙ all_every in_name c.args.bytes.now
