use Rattle.std.proofs.Common.{sym, ◌∙◌}
use Rattle.frame.specs.Values.{values_of}
use Rattle.text.proofs.Same.{layout_is_printed, refusal_is_printed}
use Rattle.text.proofs.printing.text_of.Goals as goal

pub layout_lines-requires : goal.layout_lines-requires
layout_lines-requires c = (layout_is_printed c.args.bytes.now c.in-Ok.laid (sym c.in-Ok.ensures)).needs

pub returns-in-Ok : goal.returns-in-Ok
returns-in-Ok c = c.layout_lines.ensures ∙ sym (layout_is_printed c.args.bytes.now c.in-Ok.laid (sym c.in-Ok.ensures)).lines

pub returns-in-Err : goal.returns-in-Err
returns-in-Err c = c.refusal_line.ensures ∙ sym (refusal_is_printed c.args.bytes.now (values_of c.in-Err.refusal) (sym c.in-Err.ensures))
