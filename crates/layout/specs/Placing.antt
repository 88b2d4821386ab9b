-- The places while addresses are given: the tasks that have theirs, and 0 for the others.
use Rattle.std.specs.Prelude.{Bool, if◌then◌else◌, List, ℕ, ◌+◌, nat_lt, slice_index_or, length}
use Rattle.layout.specs.Nests.{count_here, identity_here, level_here, may_here, size_here, address_here}
use Rattle.layout.specs.declared.layout.Place.{Place}
use Rattle.paper.specs.Places.{Nest}
use Rattle.paper.specs.Words.{listed}
use Rattle.sheet.specs.declared.sheet.Sheet.{Sheet}

-- The place of task i where it has its address, and where it has none yet
abbrev pub place_if : Sheet → Bool → ℕ → Place
place_if sheet done i =
    record { identity = identity_here sheet i; address = if done then address_here sheet i else 0; size = size_here sheet i }

-- the places where some of the tasks have their addresses
unfoldable pub placed : Sheet → (ℕ → Bool) → List Place
placed sheet done = listed (count_here sheet) (λ i. place_if sheet (done i) i)

-- the places where the tasks of a priority below a level have their addresses
abbrev pub placed_below : Sheet → ℕ → List Place
placed_below sheet level = placed sheet (λ i. nat_lt (level_here sheet i) level)

-- Some places as a nest
abbrev pub no_place : Place
no_place = record { identity = 0; address = 0; size = 0 }

abbrev pub address_at : List Place → ℕ → ℕ
address_at places i = (slice_index_or places i no_place).address

abbrev pub size_at : List Place → ℕ → ℕ
size_at places i = (slice_index_or places i no_place).size

abbrev pub end_at : List Place → ℕ → ℕ
end_at places i = address_at places i + size_at places i

abbrev pub nest_at : Sheet → List Place → Nest
nest_at sheet places = record { count = length places; may = may_here sheet; size = size_at places }
