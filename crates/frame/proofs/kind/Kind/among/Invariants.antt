use Rattle.std.proofs.Common.{◌≡◌, drop}
use Rattle.frame.specs.Framing.{kind_among}
use Rattle.frame.proofs.kind.Kind.among.Given as goal

abbrev pub invariant-loop-kind : goal.invariant-loop-kind
invariant-loop-kind l = kind_among (drop l.kind-index l.here) l.number ≡ kind_among l.here l.number
