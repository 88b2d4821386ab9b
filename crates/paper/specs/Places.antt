-- "Places and chain": sizes, addresses, total, chain, the layout of a sheet, and the lent lists.
use Rattle.std.specs.Prelude.{Bool, true, false, if◌then◌else◌, ◌&&◌, List, [], ◌∷◌, ◌++◌, map, ℕ, zero, suc, ◌+◌, ◌*◌, ◌-◌, ◌/◌, nat_le, ◌==◌, length, Ok, Err}
use Rattle.paper.specs.Bytes.{over}
use Rattle.paper.specs.Words.{least, greatest, listed}
use Rattle.paper.specs.Preempting.{task_no, count, may, transitive_rule}
use Rattle.paper.specs.Refusals.{Refusal, Rule, ◌⇒◌, first, Answer, unless, and_then, figured}
use Rattle.paper.specs.Sheets.{Sheet, read_sheet}

-- "Size is the need rounded up to a multiple of the alignment; 0 stays 0."
abbrev pub rounded_up : ℕ → ℕ → ℕ
rounded_up alignment need = (need + (alignment - 1)) / alignment * alignment

-- What places are worked out from: how many tasks there are, who may preempt whom, and the sizes.
pub record Nest : Type 0 where
  pub count : ℕ
  pub may : ℕ → ℕ → Bool
  pub size : ℕ → ℕ

unfoldable pub size_of : Sheet → ℕ → ℕ
size_of sheet i = rounded_up sheet.alignment (task_no sheet i).need

abbrev pub nest_of : Sheet → Nest
nest_of sheet = record { count = count sheet; may = may sheet; size = size_of sheet }

-- The rule, for addresses `a`. The end of j where it is to be counted, else 0
abbrev pub end_if : Bool → Nest → (ℕ → ℕ) → ℕ → ℕ
end_if true nest a j = a j + nest.size j
end_if false nest a j = 0

-- "The address of a task is 0 when it may preempt nobody, else the greatest address plus size among the tasks it may preempt."
unfoldable pub end_below : Nest → (ℕ → ℕ) → ℕ → ℕ
end_below nest a i = greatest nest.count (λ j. end_if (nest.may i j) nest a j)

-- "The total is the greatest address plus size of all."
unfoldable pub total_of : Nest → (ℕ → ℕ) → ℕ
total_of nest a = greatest nest.count (λ i. a i + nest.size i)

-- The addresses, by the rule itself. A task's priority is above that of each task it may preempt, so a number that is at least the priority bounds the depth
unfoldable pub address_within : ℕ → Nest → ℕ → ℕ
address_within zero nest i = 0
address_within (suc depth) nest i = end_below nest (λ j. address_within depth nest j) i

unfoldable pub address_of : Sheet → ℕ → ℕ
address_of sheet i = address_within (task_no sheet i).priority (nest_of sheet) i

-- The chain. "the task with the greatest end, smallest identity on ties"
unfoldable pub top_of : Nest → (ℕ → ℕ) → ℕ
top_of nest a = least nest.count (λ i. a i + nest.size i == total_of nest a)

-- "the smallest identity among tasks it may preempt whose end equals its address"
unfoldable pub below_of : Nest → (ℕ → ℕ) → ℕ → ℕ
below_of nest a i = least nest.count (λ j. nest.may i j && a j + nest.size j == a i)

-- "then, while the address isn't 0 ... It is listed from the bottom up"; the depth is bounded as above
unfoldable pub chain_to : ℕ → Nest → (ℕ → ℕ) → ℕ → List ℕ
chain_to zero nest a i = i ∷ []
chain_to (suc depth) nest a i =
    let below = chain_to depth nest a (below_of nest a i) in
    (if a i == 0 then [] else below) ++ (i ∷ [])

-- A place of a map, and a map: what a layout comes to
pub record Place : Type 0 where
  pub identity : ℕ
  pub address : ℕ
  pub size : ℕ

pub record Map : Type 0 where
  pub alignment : ℕ
  pub total : ℕ
  pub places : List Place
  pub links : List ℕ

-- the map of a sheet, whether it fits the area or not
unfoldable pub map_of : Sheet → Map
map_of sheet =
    let a = address_of sheet in
    let nest = nest_of sheet in
    let top = top_of nest a in
    record {
      alignment = sheet.alignment;
      total = total_of nest a;
      places = listed (count sheet) (λ i. record { identity = (task_no sheet i).identity; address = a i; size = size_of sheet i });
      links = map (λ i. (task_no sheet i).identity) (chain_to (task_no sheet top).priority nest a top);
    }

-- "Total above area: 17; equal fits."
abbrev pub room_rule : Sheet → Map → Rule Refusal
room_rule sheet m = nat_le m.total sheet.area ⇒ figured 17 m.total

unfoldable pub layout_of : Sheet → Answer Map
layout_of sheet = let m = map_of sheet in unless (first (transitive_rule sheet ∷ room_rule sheet m ∷ [])) (Ok m)

-- the layout of a sheet's bytes, or the refusal, 1 to 17
unfoldable pub layout : List ℕ → Answer Map
layout s = and_then (read_sheet s) layout_of

-- Lent output. "output or list too short": 18, with what is needed
abbrev pub length_rule : ℕ → List ℕ → Rule Refusal
length_rule needed lent = nat_le needed (length lent) ⇒ figured 18 needed

-- "The layout can also be had as lent lists of 32-bit numbers, addresses and sizes in task order." The answer is the task count; with it, what the two lists hold afterwards
pub record Lists : Type 0 where
  pub answer : Answer ℕ
  pub addresses : List ℕ
  pub sizes : List ℕ

-- "Entries past the task count are kept."
abbrev pub filled : Answer Map → List ℕ → List ℕ → Lists
filled (Err r) addresses sizes = record { answer = Err r; addresses = addresses; sizes = sizes }
filled (Ok m) addresses sizes =
    record {
      answer = Ok (length m.places);
      addresses = over (map (λ p. p.address) m.places) addresses;
      sizes = over (map (λ p. p.size) m.places) sizes;
    }

-- "A list shorter than the count: 18, after 16 and 17."
abbrev pub both_long : List ℕ → List ℕ → Map → Answer Map
both_long addresses sizes m =
    let n = length m.places in
    unless (first (length_rule n addresses ∷ length_rule n sizes ∷ [])) (Ok m)

unfoldable pub layout_lists : List ℕ → List ℕ → List ℕ → Lists
layout_lists s addresses sizes = filled (and_then (layout s) (both_long addresses sizes)) addresses sizes
