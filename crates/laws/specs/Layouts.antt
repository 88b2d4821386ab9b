-- The layout of a sheet whose thresholds are at least the priorities: the laws of nests and chains, for its own tasks and addresses.
use Rattle.std.specs.Prelude.{◌≡◌, refl, true, List, map, ℕ, ◌+◌, ◌≤◌, ◌<◌, slice_index_or, length}
use Rattle.std.proofs.Common.{◌∙◌, le_refl}
use Rattle.laws.specs.Chains.{Follow, Climb, sizes, top_below, top_end, chain_follows, chain_climbs, chain_sizes}
use Rattle.laws.specs.Levels.{ThresholdsCover, may_falls}
use Rattle.laws.specs.Lists.{length_listed, get_or_listed}
use Rattle.laws.specs.Nests.{Meets, IsFalling, within_meets, within_enough, one_solution, lies_above, address_multiple}
use Rattle.laws.specs.Rounding.{IsMultiple, alignment_cases, rounded_multiple, rounded_most}
use Rattle.paper.specs.Limits.{most_need, most_size, is_alignment}
use Rattle.paper.specs.Maps.{no_place}
use Rattle.paper.specs.Places.{nest_of, size_of, total_of, address_within, address_of, top_of, chain_to, map_of}
use Rattle.paper.specs.Preempting.{task_no, count, may}
use Rattle.paper.specs.Sheets.{Sheet}

abbrev pub priority_of : Sheet → ℕ → ℕ
priority_of sheet i = (task_no sheet i).priority

-- the chain of a sheet, as indices, the bottom first
abbrev pub chain_of : Sheet → List ℕ
chain_of sheet = let top = top_of (nest_of sheet) (address_of sheet) in chain_to (priority_of sheet top) (nest_of sheet) (address_of sheet) top

pub size_of_multiple : (sheet : Sheet) (i : ℕ) → IsMultiple sheet.alignment (size_of sheet i)
unfolding size_of
size_of_multiple sheet i = rounded_multiple sheet.alignment (task_no sheet i).need

pub size_of_most : (sheet : Sheet) (i : ℕ) → is_alignment sheet.alignment ≡ true → (task_no sheet i).need ≤ most_need → size_of sheet i ≤ most_size
unfolding size_of
size_of_most sheet i e h = rounded_most sheet.alignment (task_no sheet i).need e h

zero_multiple : (a : ℕ) → is_alignment a ≡ true → IsMultiple a 0
zero_multiple = alignment_cases (λ a. IsMultiple a 0) refl refl refl refl refl refl refl

module _ (sheet : Sheet) (levels : ThresholdsCover sheet) where
  pub sheet_falls : IsFalling (nest_of sheet) (priority_of sheet)
  sheet_falls i j hi hj e = may_falls sheet levels i j e

  -- the addresses meet the rule, and they are its only solution
  pub address_of_meets : Meets (nest_of sheet) (address_of sheet)
  unfolding address_of
  address_of_meets = within_meets (nest_of sheet) (priority_of sheet) sheet_falls

  pub address_of_only : (a : ℕ → ℕ) → Meets (nest_of sheet) a → (i : ℕ) → i < count sheet → a i ≡ address_of sheet i
  address_of_only a r i l = one_solution (nest_of sheet) (priority_of sheet) sheet_falls a (address_of sheet) r address_of_meets i l

  -- a bound of the depth that is at least the priority changes nothing
  pub address_of_enough : (f i : ℕ) → i < count sheet → priority_of sheet i ≤ f → address_within f (nest_of sheet) i ≡ address_of sheet i
  unfolding address_of
  address_of_enough f i l h = within_enough (nest_of sheet) (priority_of sheet) sheet_falls f (priority_of sheet i) i l h (le_refl (priority_of sheet i))

  pub address_of_multiple : is_alignment sheet.alignment ≡ true → (i : ℕ) → i < count sheet → IsMultiple sheet.alignment (address_of sheet i)
  address_of_multiple e i l =
      address_multiple (nest_of sheet) (priority_of sheet) sheet_falls sheet.alignment (zero_multiple sheet.alignment e)
      (λ j m. size_of_multiple sheet j) (address_of sheet) address_of_meets i l

  -- a task lies above each that it may preempt
  pub address_of_above : (i j : ℕ) → i < count sheet → j < count sheet → may sheet i j ≡ true → address_of sheet j + size_of sheet j ≤ address_of sheet i
  address_of_above i j hi hj e = lies_above (nest_of sheet) (address_of sheet) address_of_meets i j hi hj e

  module _ (some_task : 0 < count sheet) where
    top : top_of (nest_of sheet) (address_of sheet) < count sheet
    top = top_below (nest_of sheet) (address_of sheet) some_task

    -- the chain leads from address 0 to the total
    pub chain_of_follows : Follow (nest_of sheet) (address_of sheet) 0 (chain_of sheet) (total_of (nest_of sheet) (address_of sheet))
    chain_of_follows =
        rw (top_end (nest_of sheet) (address_of sheet) some_task) at
        (chain_follows (nest_of sheet) (address_of sheet) address_of_meets (priority_of sheet) sheet_falls (priority_of sheet (top_of (nest_of sheet) (address_of sheet))) (top_of (nest_of sheet) (address_of sheet)) top (le_refl _))

    pub chain_of_climbs : Climb (nest_of sheet) (chain_of sheet)
    chain_of_climbs =
        chain_climbs (nest_of sheet) (address_of sheet) address_of_meets (priority_of sheet) sheet_falls (priority_of sheet (top_of (nest_of sheet) (address_of sheet))) (top_of (nest_of sheet) (address_of sheet)) top (le_refl _)

    pub chain_of_sizes : sizes (nest_of sheet) (chain_of sheet) ≡ total_of (nest_of sheet) (address_of sheet)
    chain_of_sizes =
        chain_sizes (nest_of sheet) (address_of sheet) address_of_meets (priority_of sheet) sheet_falls (priority_of sheet (top_of (nest_of sheet) (address_of sheet))) (top_of (nest_of sheet) (address_of sheet)) top (le_refl _)
        ∙ top_end (nest_of sheet) (address_of sheet) some_task

-- The map of a sheet holds these
pub map_of_length : (sheet : Sheet) → length (map_of sheet).places ≡ count sheet
unfolding map_of
map_of_length sheet = length_listed (count sheet) _

pub map_of_place : (sheet : Sheet) (i : ℕ) → i < count sheet
    → slice_index_or (map_of sheet).places i no_place ≡ record { identity = (task_no sheet i).identity; address = address_of sheet i; size = size_of sheet i }
unfolding map_of
map_of_place sheet i l = get_or_listed (count sheet) _ i no_place l

pub map_of_total : (sheet : Sheet) → (map_of sheet).total ≡ total_of (nest_of sheet) (address_of sheet)
unfolding map_of
map_of_total sheet = refl

pub map_of_links : (sheet : Sheet) → (map_of sheet).links ≡ map (λ i. (task_no sheet i).identity) (chain_of sheet)
unfolding map_of
map_of_links sheet = refl
