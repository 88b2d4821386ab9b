-- The chain as it is written: nothing or the chain up to the task below, and then the task. It has no more tasks than the sheet.
use Rattle.std.specs.Prelude.{◌≡◌, refl, Bool, true, false, if◌then◌else◌, List, [], ◌∷◌, ◌++◌, ℕ, zero, suc, ◌+◌, ◌≤◌, ◌<◌, ◌==◌, nat_lt, length, map}
use Rattle.std.proofs.Common.{ap, sym, ◌∙◌, arith, le_refl, append_assoc, append-nil, length-append, eq-eqb, ne_eqb, lt-ltb, le-ltb, ltb-true}
use Rattle.std.proofs.lemmas.List.{map-append, length-map}
use borrow.Author.Tests.{eqb-false}
use Rattle.laws.specs.Chains.{top_below, found_below, chain_enough, low_zero}
use Rattle.laws.specs.Nests.{Meets, IsFalling, within_meets}
use Rattle.laws.specs.Relations.{tally, tally_less, tally_all}
use Rattle.layout.proofs.Ends.{length_places, ends_fit, place_same, total_same, top_same, below_same}
use Rattle.layout.specs.Ends.{place_at, EndsFit, greatest_end, first_top, first_below, chain_up}
use Rattle.layout.specs.Nests.{IsOrderly, count_here, identity_here, level_here, nest_here, address_here, place_here, places_here, total_here}
use Rattle.layout.specs.declared.layout.Place.{Place}
use Rattle.paper.specs.Places.{Nest, top_of, below_of, chain_to}
use Rattle.sheet.specs.declared.sheet.Sheet.{Sheet}

module _ (nest : Nest) (a : ℕ → ℕ) (rule : Meets nest a) (level : ℕ → ℕ) (falls : IsFalling nest level) where
  -- how many tasks have a level below that of task i
  abbrev lower : ℕ → ℕ
  lower i = tally nest.count (λ j. nat_lt (level j) (level i))

  lower_falls : (i j : ℕ) → i < nest.count → j < nest.count → level j < level i → lower j < lower i
  lower_falls i j hi hj d =
      tally_less nest.count (λ k. nat_lt (level k) (level j)) (λ k. nat_lt (level k) (level i)) (λ k l e. let m = ltb-true (level k) (level j) e in lt-ltb (level k) (level i) (omega arith)) j hj (lt-ltb (level j) (level i) d) (le-ltb (level j) (level j) (le_refl (level j)))

  lower_below : (i : ℕ) → i < nest.count → lower i < nest.count
  lower_below i h =
      let l = tally_less nest.count (λ k. nat_lt (level k) (level i)) (λ k. true) (λ k l e. refl) i h refl (le-ltb (level i) (level i) (le_refl (level i))) in
      let t = tally_all nest.count in
      omega arith

  -- each task of the chain has a lower level than the next, so there are no more than that below its top
  chain_lower : (f i : ℕ) → i < nest.count → level i ≤ f → length (chain_to f nest a i) ≤ suc (lower i)
  unfolding chain_to
  chain_lower zero i l h = omega arith
  chain_lower (suc f) i l h = go (a i == 0) refl (λ j m d. chain_lower f j m d)
    where
      go : (b : Bool) → (a i == 0) ≡ b → ((j : ℕ) → j < nest.count → level j ≤ f → length (chain_to f nest a j) ≤ suc (lower j))
          → length ((if b then [] else chain_to f nest a (below_of nest a i)) ++ (i ∷ [])) ≤ suc (lower i)
      go true e k = omega arith
      go false e k =
          let t = found_below nest a rule i l (eqb-false (a i) 0 e) in
          let d = falls i (below_of nest a i) l t.below t.over in
          let r = k (below_of nest a i) t.below (omega arith) in
          let m = lower_falls i (below_of nest a i) l t.below d in
          let n = length-append (chain_to f nest a (below_of nest a i)) (i ∷ []) in
          omega arith

  pub chain_few : (f i : ℕ) → i < nest.count → level i ≤ f → length (chain_to f nest a i) ≤ nest.count
  chain_few f i l h = let c = chain_lower f i l h in let b = lower_below i l in omega arith

  -- a task at address 0 is the bottom
  pub chain_bottom : (f i : ℕ) → a i ≡ 0 → chain_to f nest a i ≡ i ∷ []
  unfolding chain_to
  chain_bottom zero i e = refl
  chain_bottom (suc f) i e = rw (eq-eqb (a i) 0 e)

  -- any other stands on the task below, whose chain comes first
  pub chain_link : (f i : ℕ) → i < nest.count → level i ≤ f → (a i ≡ 0 → ⊥) → chain_to f nest a i ≡ chain_to (level (below_of nest a i)) nest a (below_of nest a i) ++ (i ∷ [])
  unfolding chain_to
  chain_link zero i l m h = absurd (h (low_zero nest a rule level falls i l m))
  chain_link (suc f) i l m h =
      let j = below_of nest a i in
      let t = found_below nest a rule i l h in
      let d = falls i j l t.below t.over in
      rw (ne_eqb (a i) 0 h) (ap (λ (c : List ℕ). c ++ (i ∷ [])) (chain_enough nest a rule level falls f (level j) j t.below (omega arith) (le_refl (level j))))

-- The chain of a sheet that was read
module _ (sheet : Sheet) (o : IsOrderly sheet) where
  meets : Meets (nest_here sheet) (address_here sheet)
  unfolding address_here
  meets = within_meets (nest_here sheet) (level_here sheet) o.falls

  pub chain_up_few : (i : ℕ) → i < count_here sheet → length (chain_up sheet i) ≤ 64
  chain_up_few i l =
      let c = chain_few (nest_here sheet) (address_here sheet) meets (level_here sheet) o.falls (level_here sheet i) i l (le_refl (level_here sheet i)) in
      let f = o.few in
      omega arith

  pub chain_up_bottom : (i : ℕ) → address_here sheet i ≡ 0 → chain_up sheet i ≡ i ∷ []
  chain_up_bottom i e = chain_bottom (nest_here sheet) (address_here sheet) meets (level_here sheet) o.falls (level_here sheet i) i e

  -- the task below i is a task of a lower priority, and the chain up to i is that up to it, and i
  pub record IsUnder (i j : ℕ) : Type 0 where
    pub below : j < count_here sheet
    pub lower : level_here sheet j < level_here sheet i
    pub up : chain_up sheet i ≡ chain_up sheet j ++ (i ∷ [])

  pub under : (i : ℕ) → i < count_here sheet → (address_here sheet i ≡ 0 → ⊥) → IsUnder i (below_of (nest_here sheet) (address_here sheet) i)
  under i l h =
      let t = found_below (nest_here sheet) (address_here sheet) meets i l h in
      record {
        below = t.below;
        lower = o.falls i (below_of (nest_here sheet) (address_here sheet) i) l t.below t.over;
        up = chain_link (nest_here sheet) (address_here sheet) meets (level_here sheet) o.falls (level_here sheet i) i l (le_refl (level_here sheet i)) h;
      }

  -- what stands written when task i is next: nothing new where it is a bottom, else the chain up to the task below
  pub record IsReady (i : ℕ) (old now : List ℕ) : Type 0 where
    pub rest : List ℕ
    pub up : chain_up sheet i ≡ rest ++ (i ∷ [])
    pub is : now ≡ old ++ map (identity_here sheet) rest

  pub ready_room : (i : ℕ) (old now : List ℕ) → IsReady i old now → length old + length (chain_up sheet i) ≤ 64 → length now < 64
  ready_room i old now r h =
      let u = ap length r.up ∙ length-append r.rest (i ∷ []) in
      let n = ap length r.is ∙ length-append old (map (identity_here sheet) r.rest) in
      let m = length-map r.rest (identity_here sheet) in
      omega arith

  pub ready_written : (i : ℕ) (old now : List ℕ) → IsReady i old now → now ++ (identity_here sheet i ∷ []) ≡ old ++ map (identity_here sheet) (chain_up sheet i)
  ready_written i old now r =
      rw (r.is, r.up, map-append (identity_here sheet) r.rest (i ∷ [])) (append_assoc old (map (identity_here sheet) r.rest) (identity_here sheet i ∷ []))

  -- The same, over its places in a list
  module _ (places : List Place) (e : places ≡ places_here sheet) where
    pub placed_length : length places ≡ count_here sheet
    placed_length = ap length e ∙ length_places sheet

    pub placed_fit : EndsFit places
    placed_fit = rw e (ends_fit sheet o)

    pub placed_total : greatest_end places ≡ total_here sheet
    placed_total = ap greatest_end e ∙ total_same sheet

    pub placed_at : (i : ℕ) → i < count_here sheet → place_at places i ≡ place_here sheet i
    placed_at i l = ap (λ (ps : List Place). place_at ps i) e ∙ place_same sheet i l

    -- the top of the chain is a task
    pub record IsTop (i : ℕ) : Type 0 where
      pub within : i < count_here sheet
      pub same : i ≡ top_of (nest_here sheet) (address_here sheet)

    pub placed_top : IsTop (first_top places)
    placed_top =
        let s = ap first_top e ∙ top_same sheet in
        record { within = rw s (top_below (nest_here sheet) (address_here sheet) o.some); same = s }

    pub placed_under : (i : ℕ) → i < count_here sheet → ((place_at places i).address ≡ 0 → ⊥) → IsUnder i (first_below sheet places i)
    placed_under i l h =
        rw (e, below_same sheet i l) (under i l (λ z. h (ap (λ (p : Place). p.address) (placed_at i l) ∙ z)))

    pub ready_bottom : (i : ℕ) (old now : List ℕ) → i < count_here sheet → (place_at places i).address ≡ 0 → now ≡ old → IsReady i old now
    ready_bottom i old now l z is =
        record {
          rest = [];
          up = chain_up_bottom i (sym (ap (λ (p : Place). p.address) (placed_at i l)) ∙ z);
          is = is ∙ sym (append-nil old);
        }

    pub ready_link : (i j : ℕ) (old now : List ℕ) → i < count_here sheet → ((place_at places i).address ≡ 0 → ⊥) → j ≡ first_below sheet places i
        → now ≡ old ++ map (identity_here sheet) (chain_up sheet j) → IsReady i old now
    ready_link i j old now l h q is = record { rest = chain_up sheet j; up = rw q (placed_under i l h).up; is = is }
