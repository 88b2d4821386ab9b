use Rattle.std.proofs.lemmas.Nat.{one_shl}
use Rattle.sheet.proofs.Rows.{bit_fits}
use Rattle.sheet.proofs.relation.without.Goals as goal

pub overflow_sub-result : goal.overflow_sub-result
overflow_sub-result c = rw (one_shl c.args.bit 64 c.requires) (bit_fits c.args.row c.args.bit c.if-row-bit-eq1.true)
