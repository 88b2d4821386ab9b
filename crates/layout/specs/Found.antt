-- What searches of the code answer: the smallest number that passes a test, and over a task the smallest pair that breaks the transitive rule.
use Rattle.std.specs.Prelude.{Bool, if◌then◌else◌, ℕ, Option, Some, None}
use Rattle.std.specs.Option.{option_map}
use Rattle.layout.specs.declared.transitive.Pair.{Pair}
use Rattle.paper.specs.Preempting.{breaks, breaks_over}
use Rattle.paper.specs.Words.{any, least}

-- the smallest number below n of which p holds, where it holds of any
unfoldable pub found : ℕ → (ℕ → Bool) → Option ℕ
found n p = if any n p then Some (least n p) else None

-- the smallest pair (j, i) by index that breaks the rule over k, j first
unfoldable pub pair_found : ℕ → (ℕ → ℕ → Bool) → ℕ → Option Pair
pair_found n rel k = option_map (λ j. record { j = j; i = least n (λ i. breaks rel k j i) }) (found n (λ j. breaks_over n rel k j))
