use Rattle.map.proofs.FromBare.{Linked}
use Rattle.map.proofs.writing.with_links.Given as goal

abbrev pub invariant-loop-link : goal.invariant-loop-link
invariant-loop-link l = Linked l.links l.fn.map l.link-index l.map
