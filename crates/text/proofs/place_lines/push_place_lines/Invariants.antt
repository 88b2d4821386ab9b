use Rattle.std.proofs.Common.{◌≡◌, ◌+◌, ◌*◌, ◌≤◌, ◌++◌, length, take}
use Rattle.paper.specs.Words.{joined}
use Rattle.text.proofs.place_lines.push_place_lines.Given as goal
use Rattle.text.specs.Shown.{place_line_here}

abbrev pub invariant-loop-place : goal.invariant-loop-place
invariant-loop-place l =
    record {
      items : l.text.items ≡ l.fn.text.items ++ joined place_line_here (take l.place-index l.places);
      len : length l.text.items ≤ length l.fn.text.items + 28 * l.place-index;
    }
