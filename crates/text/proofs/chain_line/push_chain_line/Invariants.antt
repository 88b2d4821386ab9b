use Rattle.std.proofs.Common.{◌≡◌, ◌+◌, ◌*◌, ◌≤◌, ◌∷◌, ◌++◌, length, take}
use Rattle.paper.specs.Printed.{decimals, spaced}
use Rattle.paper.specs.Quoted.{text}
use Rattle.text.proofs.chain_line.push_chain_line.Given as goal

abbrev pub invariant-loop-identity : goal.invariant-loop-identity
invariant-loop-identity l =
    record {
      items : l.text.items ≡ l.fn.text.items ++ spaced (text "chain" ∷ decimals (take l.identity-index l.chain));
      len : length l.text.items ≤ length l.fn.text.items + 5 + 6 * l.identity-index;
    }
