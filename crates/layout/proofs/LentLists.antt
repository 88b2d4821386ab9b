-- The lent lists, for what reading and laying out answered.
use Rattle.std.proofs.Common.{◌≡◌, refl, ap, sym, ◌∙◌, subst, ℕ, suc, ◌<◌, ◌≤◌, ◌⊎◌, inl, inr, Bool, true, false, nat_le, le-leb, List, [], ◌∷◌, map, length, Ok, Err}
use Rattle.std.proofs.lemmas.Bool.{lt-leb}
use Rattle.frame.specs.Values.{with_value}
use Rattle.laws.specs.Tables.{not_refused}
use Rattle.layout.specs.Values.{place_value, layout_value, given_layout, of_sheet, laid_out}
use Rattle.layout.specs.declared.layout.LaidOut.{LaidOut}
use Rattle.layout.specs.declared.layout.Layout.{Layout}
use Rattle.layout.specs.declared.layout.Place.{Place}
use Rattle.paper.specs.Bytes.{over}
use Rattle.paper.specs.Places.{Map, Lists, layout_of, layout, layout_lists, filled, both_long}
use Rattle.paper.specs.Refusals.{Refusal, Answer, and_then, figured}
use Rattle.paper.specs.Sheets.{Sheet, read_sheet}
use Rattle.paper.specs.Places

ok_same : {A : Type 0} (a b : A) → ◌≡◌ {A = Answer A} (Ok a) (Ok b) → a ≡ b
ok_same a b e = cc

err_same : {A : Type 0} (q r : Refusal) → ◌≡◌ {A = Answer A} (Err q) (Err r) → q ≡ r
err_same q r e = cc

-- the map that stands behind a layout
pub record LaidAs (s : List ℕ) (laid : LaidOut) : Type 0 where
  pub map : Map
  pub is : layout s ≡ Ok map
  pub same : laid.layout ≡ layout_value map

pub laid_as : (s : List ℕ) (laid : LaidOut) → Ok laid ≡ laid_out s → LaidAs s laid
unfolding laid_out layout given_layout
laid_as s laid e = go (read_sheet s) refl e
  where
    behind : (sheet : Sheet) → read_sheet s ≡ Ok sheet → (x : Answer Map) → layout_of sheet ≡ x → Ok laid ≡ with_value (given_layout sheet) x → LaidAs s laid
    behind sheet q (Err r) p e = absurd (not_refused (Ok laid) r laid e refl)
    behind sheet q (Ok m) p e = record { map = m; is = rw (q, p) refl; same = ap (λ (l : LaidOut). l.layout) (ok_same laid (given_layout sheet m) e) }

    go : (x : Answer Sheet) → read_sheet s ≡ x → Ok laid ≡ and_then x of_sheet → LaidAs s laid
    go (Err r) q e = absurd (not_refused (Ok laid) r laid e refl)
    go (Ok sheet) q e = behind sheet q (layout_of sheet) refl e

pub laid_not : (s : List ℕ) (r : Refusal) → Err r ≡ laid_out s → layout s ≡ Err r
unfolding laid_out layout
laid_not s r e = go (read_sheet s) refl e
  where
    behind : (sheet : Sheet) → read_sheet s ≡ Ok sheet → (x : Answer Map) → layout_of sheet ≡ x → Err r ≡ with_value (given_layout sheet) x → layout s ≡ Err r
    behind sheet q (Err p) z e = rw (q, z) (ap (λ (y : Refusal). Err y) (sym (err_same r p e)))
    behind sheet q (Ok m) z e = absurd (not_refused (Ok (given_layout sheet m)) r (given_layout sheet m) (sym e) refl)

    go : (x : Answer Sheet) → read_sheet s ≡ x → Err r ≡ and_then x of_sheet → layout s ≡ Err r
    go (Err p) q e = rw q (ap (λ (y : Refusal). Err y) (sym (err_same r p e)))
    go (Ok sheet) q e = behind sheet q (layout_of sheet) refl e

module _ (s addresses sizes : List ℕ) where
  pub lists_not : (r : Refusal) → layout s ≡ Err r → layout_lists s addresses sizes ≡ record { answer = Err r; addresses = addresses; sizes = sizes }
  unfolding layout_lists
  lists_not r e = rw e refl

  module _ (m : Map) (is : layout s ≡ Ok m) where
    pub lists_short : (length addresses < length m.places) ⊎ (length sizes < length m.places)
        → layout_lists s addresses sizes ≡ record { answer = Err (figured 18 (length m.places)); addresses = addresses; sizes = sizes }
    unfolding layout_lists
    lists_short (inl h) = rw (is, lt-leb (length m.places) (length addresses) h) refl
    lists_short (inr h) = go (nat_le (length m.places) (length addresses)) refl
      where
        go : (b : Bool) → nat_le (length m.places) (length addresses) ≡ b
            → layout_lists s addresses sizes ≡ record { answer = Err (figured 18 (length m.places)); addresses = addresses; sizes = sizes }
        go true e = rw (is, e, lt-leb (length m.places) (length sizes) h) refl
        go false e = rw (is, e) refl

    pub lists_filled : length m.places ≤ length addresses → length m.places ≤ length sizes
        → layout_lists s addresses sizes
        ≡ record { answer = Ok (length m.places); addresses = over (map (λ p. p.address) m.places) addresses; sizes = over (map (λ p. p.size) m.places) sizes }
    unfolding layout_lists
    lists_filled h k = rw (is, le-leb (length m.places) (length addresses) h, le-leb (length m.places) (length sizes) k) refl

-- places by value
pub length_values : (ps : List Places.Place) → length (map place_value ps) ≡ length ps
length_values [] = refl
length_values (p ∷ ps) = ap suc (length_values ps)

pub addresses_values : (ps : List Places.Place) → map (λ (p : Place). p.address) (map place_value ps) ≡ map (λ p. p.address) ps
addresses_values [] = refl
addresses_values (p ∷ ps) = ap (λ (l : List ℕ). p.address ∷ l) (addresses_values ps)

pub sizes_values : (ps : List Places.Place) → map (λ (p : Place). p.size) (map place_value ps) ≡ map (λ p. p.size) ps
sizes_values [] = refl
sizes_values (p ∷ ps) = ap (λ (l : List ℕ). p.size ∷ l) (sizes_values ps)

-- The same for a layout that was handed back
module _ (s addresses sizes : List ℕ) (laid : LaidOut) (behind : LaidAs s laid) (n : ℕ) (counts : n ≡ length laid.layout.places.items) where
  abbrev stands : List Place
  stands = map place_value behind.map.places

  items_same : laid.layout.places.items ≡ stands
  unfolding layout_value
  items_same = ap (λ (l : Layout). l.places.items) behind.same

  count_same : n ≡ length behind.map.places
  count_same = counts ∙ (ap length items_same ∙ length_values behind.map.places)

  pub short_as : (length addresses < n) ⊎ (length sizes < n) → layout_lists s addresses sizes ≡ record { answer = Err (figured 18 n); addresses = addresses; sizes = sizes }
  short_as h =
      subst (λ (k : ℕ). layout_lists s addresses sizes ≡ record { answer = Err (figured 18 k); addresses = addresses; sizes = sizes }) (sym count_same)
      (lists_short s addresses sizes behind.map behind.is (subst (λ (k : ℕ). (length addresses < k) ⊎ (length sizes < k)) count_same h))

  pub filled_as : n ≤ length addresses → n ≤ length sizes
      → layout_lists s addresses sizes
      ≡ record { answer = Ok n; addresses = over (map (λ p. p.address) laid.layout.places.items) addresses; sizes = over (map (λ p. p.size) laid.layout.places.items) sizes }
  filled_as h k =
      let l = lists_filled s addresses sizes behind.map behind.is (subst (λ (x : ℕ). x ≤ length addresses) count_same h) (subst (λ (x : ℕ). x ≤ length sizes) count_same k) in
      let a = ap (map (λ (p : Place). p.address)) items_same ∙ addresses_values behind.map.places in
      let z = ap (map (λ (p : Place). p.size)) items_same ∙ sizes_values behind.map.places in
      rw (a, z, count_same) l
