-- The ends of places that stand in a list, and the chain over them by index.
use Rattle.std.specs.Prelude.{Bool, ◌&&◌, List, ℕ, ◌^◌, ◌<◌, ◌==◌, slice_index_or, length, EachIndex}
use Rattle.layout.specs.Nests.{level_here, may_here, nest_here, address_here}
use Rattle.layout.specs.Placing.{no_place, end_at}
use Rattle.layout.specs.declared.layout.Place.{Place}
use Rattle.paper.specs.Places.{chain_to}
use Rattle.paper.specs.Words.{least, greatest}
use Rattle.sheet.specs.declared.sheet.Sheet.{Sheet}

abbrev pub place_at : List Place → ℕ → Place
place_at places i = slice_index_or places i no_place

-- each end is a number of 32 bits
abbrev pub EndsFit : List Place → Type 0
EndsFit places = EachIndex places (λ i. end_at places i < 2 ^ 32)

unfoldable pub greatest_end : List Place → ℕ
greatest_end places = greatest (length places) (end_at places)

-- the first that has the greatest end
unfoldable pub first_top : List Place → ℕ
first_top places = least (length places) (λ i. end_at places i == greatest_end places)

-- task i may preempt task j, and begins where j ends; the first j of which this holds
abbrev pub stands_on : Sheet → List Place → ℕ → ℕ → Bool
stands_on sheet places i j = may_here sheet i j && end_at places j == (place_at places i).address

unfoldable pub first_below : Sheet → List Place → ℕ → ℕ
first_below sheet places i = least (length places) (stands_on sheet places i)

-- the chain up to task i, as indices
abbrev pub chain_up : Sheet → ℕ → List ℕ
chain_up sheet i = chain_to (level_here sheet i) (nest_here sheet) (address_here sheet) i
