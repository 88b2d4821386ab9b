-- The places while addresses are given, level by level, and task by task within a level. Assumes nothing.
use Rattle.std.specs.Prelude.{◌≡◌, Bool, true, false, ◌&&◌, ◌||◌, List, ◌∷◌, ℕ, zero, suc, ◌+◌, ◌*◌, ◌^◌, ◌≤◌, ◌<◌, ◌==◌, nat_lt, length, set, slice_index_or}
use Rattle.std.proofs.Common.{refl, ap, ap₂, sym, subst, ◌∙◌, arith, lt-ltb, le-ltb}
use Rattle.std.proofs.lemmas.Bool.Decides.{nat_tests}
use Rattle.laws.specs.Greatest.{greatest_ext}
use Rattle.laws.specs.Lists.{length_listed, get_or_listed, listed_ext}
use Rattle.laws.specs.Nests.{within_meets}
use Rattle.laws.specs.Tests.{or_left}
use Rattle.laws.specs.Rounding.{rounded_most}
use Rattle.layout.proofs.Sizes.{within_most}
use Rattle.layout.specs.Nests.{IsOrderly, count_here, level_here, may_here, size_here, nest_here, address_here, place_here, places_here}
use Rattle.layout.specs.Placing.{place_if, placed, placed_below, no_place, address_at, size_at, end_at, nest_at}
use Rattle.layout.specs.declared.layout.Place.{Place}
use Rattle.paper.specs.Limits.{most_size}
use Rattle.paper.specs.Places.{end_if, end_below}
use Rattle.paper.specs.Words.{greatest, listed}
use Rattle.sheet.specs.declared.sheet.Sheet.{Sheet}

-- a list in which one place is written
listed_set : {A : Type 0} (n : ℕ) (f g : ℕ → A) (i : ℕ) → i < n → ((k : ℕ) → k < n → (k ≡ i → ⊥) → f k ≡ g k) → set (listed n f) i (g i) ≡ listed n g
unfolding listed
listed_set zero f g i h same = absurd (omega arith)
listed_set {A} (suc n) f g zero h same =
    ap (λ (l : List A). g 0 ∷ l) (listed_ext n (λ k. f (suc k)) (λ k. g (suc k)) (λ k l. same (suc k) (omega arith) (λ e. omega arith)))
listed_set (suc n) f g (suc i) h same =
    rw (same 0 (omega arith) (λ e. omega arith), listed_set n (λ k. f (suc k)) (λ k. g (suc k)) i (omega arith) (λ k l ne. same (suc k) (omega arith) (λ e. ne (omega arith)))) refl

-- task k of level a has had its turn, once the levels below have, and the tasks of the level itself up to i
abbrev pub in_turn : ℕ → ℕ → ℕ → ℕ → Bool
in_turn level i a k = nat_lt a level || (a == level && nat_lt k i)

turn_start : (level a k : ℕ) → in_turn level 0 a k ≡ nat_lt a level
turn_start level a k = grind (arith, nat_tests)

turn_end : (level n a k : ℕ) → k < n → in_turn level n a k ≡ nat_lt a (level + 1)
turn_end level n a k h = grind (arith, nat_tests)

turn_kept : (level i a k : ℕ) → (k ≡ i → a ≡ level → ⊥) → in_turn level i a k ≡ in_turn level (i + 1) a k
turn_kept level i a k h = grind (arith, nat_tests)

turn_here : (level i : ℕ) → in_turn level (i + 1) level i ≡ true
turn_here level i = grind (arith, nat_tests)

module _ (sheet : Sheet) where
  pub length_placed : (done : ℕ → Bool) → length (placed sheet done) ≡ count_here sheet
  unfolding placed
  length_placed done = length_listed (count_here sheet) (λ i. place_if sheet (done i) i)

  pub placed_at : (done : ℕ → Bool) (i : ℕ) (d : Place) → i < count_here sheet → slice_index_or (placed sheet done) i d ≡ place_if sheet (done i) i
  unfolding placed
  placed_at done i d h = get_or_listed (count_here sheet) (λ i. place_if sheet (done i) i) i d h

  placed_ext : (done also : ℕ → Bool) → ((i : ℕ) → i < count_here sheet → done i ≡ also i) → placed sheet done ≡ placed sheet also
  unfolding placed
  placed_ext done also h =
      listed_ext (count_here sheet) (λ i. place_if sheet (done i) i) (λ i. place_if sheet (also i) i) (λ i l. ap (λ (b : Bool). place_if sheet b i) (h i l))

  -- before the first level, and after the last
  pub placed_none : listed (count_here sheet) (place_if sheet false) ≡ placed_below sheet 0
  unfolding placed
  placed_none =
      listed_ext (count_here sheet) (place_if sheet false) (λ i. place_if sheet (nat_lt (level_here sheet i) 0) i) (λ i l. rw (le-ltb (level_here sheet i) 0 (omega arith)) refl)

  pub placed_all : IsOrderly sheet → placed_below sheet 256 ≡ places_here sheet
  unfolding placed places_here
  placed_all o =
      listed_ext (count_here sheet) (λ i. place_if sheet (nat_lt (level_here sheet i) 256) i) (place_here sheet) (λ i l. let h = o.levels i l in rw (lt-ltb (level_here sheet i) 256 (omega arith)) refl)

  -- within a level
  abbrev pub placed_within : ℕ → ℕ → List Place
  placed_within level i = placed sheet (λ k. in_turn level i (level_here sheet k) k)

  pub within_length : (level i : ℕ) (places : List Place) → places ≡ placed_within level i → length places ≡ count_here sheet
  within_length level i places e = ap length e ∙ length_placed (λ k. in_turn level i (level_here sheet k) k)

  pub within_start : (level : ℕ) → placed_below sheet level ≡ placed_within level 0
  within_start level =
      placed_ext (λ k. nat_lt (level_here sheet k) level) (λ k. in_turn level 0 (level_here sheet k) k) (λ k l. sym (turn_start level (level_here sheet k) k))

  pub within_end : (level : ℕ) → placed_within level (count_here sheet) ≡ placed_below sheet (level + 1)
  within_end level =
      placed_ext (λ k. in_turn level (count_here sheet) (level_here sheet k) k) (λ k. nat_lt (level_here sheet k) (level + 1)) (λ k l. turn_end level (count_here sheet) (level_here sheet k) k l)

  pub within_past : (level i : ℕ) → (level_here sheet i ≡ level → ⊥) → placed_within level i ≡ placed_within level (i + 1)
  within_past level i ne =
      placed_ext (λ k. in_turn level i (level_here sheet k) k) (λ k. in_turn level (i + 1) (level_here sheet k) k)
      (λ k l. turn_kept level i (level_here sheet k) k (λ e f. ne (sym (ap (level_here sheet) e) ∙ f)))

  pub within_here : (level i : ℕ) (p : Place) → i < count_here sheet → level_here sheet i ≡ level → p ≡ place_if sheet true i
      → set (placed_within level i) i p ≡ placed_within level (i + 1)
  unfolding placed
  within_here level i p h e q =
      ap (λ (p : Place). set (placed_within level i) i p) (q ∙ ap (λ (b : Bool). place_if sheet b i) (sym turn))
      ∙ listed_set (count_here sheet) (λ k. place_if sheet (in_turn level i (level_here sheet k) k) k) (λ k. place_if sheet (in_turn level (i + 1) (level_here sheet k) k) k) i h
      (λ k l ne. ap (λ (b : Bool). place_if sheet b k) (turn_kept level i (level_here sheet k) k (λ same f. ne same)))
    where
      turn : in_turn level (i + 1) (level_here sheet i) i ≡ true
      turn = rw e (turn_here level i)

  -- The end below a task whose turn it is, since those of the levels below have their addresses
  turn_lower : IsOrderly sheet → (i j : ℕ) → i < count_here sheet → j < count_here sheet → may_here sheet i j ≡ true → in_turn (level_here sheet i) i (level_here sheet j) j ≡ true
  turn_lower o i j h l e = or_left _ _ (lt-ltb (level_here sheet j) (level_here sheet i) (o.falls i j h l e))

  end_placed : IsOrderly sheet → (i : ℕ) → i < count_here sheet
      → end_below (nest_at sheet (placed_within (level_here sheet i) i)) (address_at (placed_within (level_here sheet i) i)) i ≡ address_here sheet i
  unfolding end_below address_here
  end_placed o i h =
      ap (λ (n : ℕ). greatest n (λ j. end_if (may_here sheet i j) (nest_at sheet places) (address_at places) j)) (length_placed turn)
      ∙ greatest_ext (count_here sheet) (λ j. end_if (may_here sheet i j) (nest_at sheet places) (address_at places) j)
      (λ j. end_if (may_here sheet i j) (nest_here sheet) (address_here sheet) j) (λ j l. go j l (may_here sheet i j) refl)
      ∙ sym (within_meets (nest_here sheet) (level_here sheet) o.falls i h)
    where
      turn : ℕ → Bool
      turn k = in_turn (level_here sheet i) i (level_here sheet k) k

      places : List Place
      places = placed sheet turn

      go : (j : ℕ) → j < count_here sheet → (t : Bool) → may_here sheet i j ≡ t → end_if t (nest_at sheet places) (address_at places) j ≡ end_if t (nest_here sheet) (address_here sheet) j
      go j l true e = ap (λ (p : Place). p.address + p.size) (placed_at turn j no_place l ∙ ap (λ (b : Bool). place_if sheet b j) (turn_lower o i j h l e))
      go j l false e = refl

  -- so it is written where it belongs
  pub placed_here : IsOrderly sheet → (level i : ℕ) (places : List Place) (x : ℕ) → i < count_here sheet → level_here sheet i ≡ level → places ≡ placed_within level i
      → x ≡ end_below (nest_at sheet places) (address_at places) i
      → set places i (record { identity = (slice_index_or places i no_place).identity; address = x; size = size_at places i }) ≡ placed_within level (i + 1)
  placed_here o level i places x h e q r = ap (λ (ps : List Place). set ps i (written ps x)) q ∙ within_here level i (written (placed_within level i) x) h e same
    where
      written : List Place → ℕ → Place
      written ps x = record { identity = (slice_index_or ps i no_place).identity; address = x; size = size_at ps i }

      below : x ≡ address_here sheet i
      below =
          r
          ∙ ap (λ (ps : List Place). end_below (nest_at sheet ps) (address_at ps) i) q
          ∙ ap (λ (l : ℕ). end_below (nest_at sheet (placed_within l i)) (address_at (placed_within l i)) i) (sym e)
          ∙ end_placed o i h

      same : written (placed_within level i) x ≡ place_if sheet true i
      same = ap₂ (λ (p : Place) (a : ℕ). record { identity = p.identity; address = a; size = p.size }) (placed_at (λ k. in_turn level i (level_here sheet k) k) i no_place h) below

  -- and none is too great
  size_most : IsOrderly sheet → (i : ℕ) → i < count_here sheet → size_here sheet i ≤ most_size
  size_most o i l = rounded_most sheet.alignment _ o.aligned (o.needs i l)

  address_most : IsOrderly sheet → (i : ℕ) → i < count_here sheet → address_here sheet i ≤ 255 * most_size
  unfolding address_here
  address_most o i l =
      let a = within_most (nest_here sheet) most_size (size_most o) (level_here sheet i) i in
      let b = o.levels i l in
      omega arith

  pub end_fits : IsOrderly sheet → (done : ℕ → Bool) (i : ℕ) → i < length (placed sheet done) → end_at (placed sheet done) i < 2 ^ 32
  end_fits o done i h =
      let l : i < count_here sheet = rw (length_placed done) at h in
      subst (λ (p : Place). p.address + p.size < 2 ^ 32) (sym (placed_at done i no_place l)) (go (done i) (address_most o i l) (size_most o i l))
    where
      go : (b : Bool) → address_here sheet i ≤ 255 * most_size → size_here sheet i ≤ most_size → (place_if sheet b i).address + size_here sheet i < 2 ^ 32
      go true a s = omega arith
      go false a s = omega arith
