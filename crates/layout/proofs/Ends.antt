-- The ends in the places of a sheet: each fits 32 bits, and the total, the top and the task below are the sheet's.
use Rattle.std.specs.Prelude.{◌≡◌, ◌&&◌, Bool, ℕ, ◌+◌, ◌^◌, ◌≤◌, ◌<◌, ◌==◌, length}
use Rattle.std.proofs.Common.{ap, ap₂, ◌∙◌, arith, mul-le-mul_right}
use Rattle.laws.specs.Greatest.{greatest_ext}
use Rattle.laws.specs.Least.{least_ext}
use Rattle.laws.specs.Lists.{length_listed, get_or_listed}
use Rattle.laws.specs.Rounding.{rounded_most}
use Rattle.layout.proofs.Sizes.{within_most}
use Rattle.layout.specs.Ends.{place_at, EndsFit, greatest_end, first_top, stands_on, first_below}
use Rattle.layout.specs.Nests.{IsOrderly, count_here, task_here, level_here, may_here, size_here, nest_here, address_here, place_here, places_here, total_here}
use Rattle.layout.specs.Placing.{no_place, end_at}
use Rattle.layout.specs.declared.layout.Place.{Place}
use Rattle.paper.specs.Limits.{most_size}
use Rattle.paper.specs.Places.{total_of, top_of, below_of}
use Rattle.paper.specs.Words.{greatest, least}
use Rattle.sheet.specs.declared.sheet.Sheet.{Sheet}

pub length_places : (sheet : Sheet) → length (places_here sheet) ≡ count_here sheet
unfolding places_here
length_places sheet = length_listed (count_here sheet) (place_here sheet)

pub place_same : (sheet : Sheet) (i : ℕ) → i < count_here sheet → place_at (places_here sheet) i ≡ place_here sheet i
unfolding places_here
place_same sheet i l = get_or_listed (count_here sheet) (place_here sheet) i no_place l

pub end_same : (sheet : Sheet) (i : ℕ) → i < count_here sheet → end_at (places_here sheet) i ≡ address_here sheet i + size_here sheet i
end_same sheet i l = ap (λ (p : Place). p.address + p.size) (place_same sheet i l)

-- a priority is at most 255, and a size at most 2 ^ 20
pub end_below_most : (sheet : Sheet) → IsOrderly sheet → (i : ℕ) → i < count_here sheet → address_here sheet i + size_here sheet i < 2 ^ 32
unfolding address_here
end_below_most sheet o i l =
    let size : (j : ℕ) → j < count_here sheet → size_here sheet j ≤ most_size = λ j m. rounded_most sheet.alignment (task_here sheet j).need o.aligned (o.needs j m) in
    let a = within_most (nest_here sheet) most_size size (level_here sheet i) i in
    let p = mul-le-mul_right most_size (o.levels i l) in
    let s = size i l in
    omega arith

pub ends_fit : (sheet : Sheet) → IsOrderly sheet → EndsFit (places_here sheet)
ends_fit sheet o i h =
    let l : i < count_here sheet = rw (length_places sheet) at h in
    rw (end_same sheet i l) (end_below_most sheet o i l)

pub total_same : (sheet : Sheet) → greatest_end (places_here sheet) ≡ total_here sheet
unfolding greatest_end total_here total_of
total_same sheet =
    ap (λ (n : ℕ). greatest n (end_at (places_here sheet))) (length_places sheet)
    ∙ greatest_ext (count_here sheet) (end_at (places_here sheet)) (λ i. address_here sheet i + size_here sheet i) (end_same sheet)

pub top_same : (sheet : Sheet) → first_top (places_here sheet) ≡ top_of (nest_here sheet) (address_here sheet)
unfolding first_top top_of total_here
top_same sheet =
    ap (λ (n : ℕ). least n (λ i. end_at (places_here sheet) i == greatest_end (places_here sheet))) (length_places sheet)
    ∙ least_ext (count_here sheet) _ _ (λ i l. ap₂ ◌==◌ (end_same sheet i l) (total_same sheet))

pub below_same : (sheet : Sheet) (i : ℕ) → i < count_here sheet → first_below sheet (places_here sheet) i ≡ below_of (nest_here sheet) (address_here sheet) i
unfolding first_below below_of
below_same sheet i h =
    ap (λ (n : ℕ). least n (stands_on sheet (places_here sheet) i)) (length_places sheet)
    ∙ least_ext (count_here sheet) _ _ (λ j l. ap (λ (b : Bool). may_here sheet i j && b) (ap₂ ◌==◌ (end_same sheet j l) (ap (λ (p : Place). p.address) (place_same sheet i h))))
