use Rattle.std.proofs.Common.{sym, ◌∙◌}
use Rattle.frame.specs.Values.{values_of}
use Rattle.text.proofs.MapsSame.{map_is_shown, map_refusal_is_shown}
use Rattle.text.proofs.showing.map_text_of.Goals as goal

pub returns-in-Ok : goal.returns-in-Ok
returns-in-Ok c = c.map_lines.ensures ∙ map_is_shown c.args.bytes.now c.in-Ok.map (sym c.in-Ok.ensures)

pub returns-in-Err : goal.returns-in-Err
returns-in-Err c = c.refusal_line.ensures ∙ map_refusal_is_shown c.args.bytes.now (values_of c.in-Err.refusal) (sym c.in-Err.ensures)
