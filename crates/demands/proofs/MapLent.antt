-- What is put into a lent output, for a sheet or for bare values, is read there as the map that it was made of.
use Rattle.std.specs.List.{All}
use Rattle.std.proofs.Common.{◌≡◌, refl, ap, ◌∙◌, ℕ, ◌≤◌, nat_le, arith, Bool, true, false, List, [], ◌∷◌, take, drop, length, Ok, Err}
use Rattle.std.proofs.lemmas.List.{take_at}
use Rattle.demands.proofs.MapNumbers.{EachByte}
use Rattle.demands.proofs.MapOfSheet.{sheet_map_back}
use Rattle.demands.proofs.MapWritten.{written_back}
use Rattle.laws.specs.Tables.{and_then_given}
use Rattle.paper.specs.Limits.{most_identity}
use Rattle.paper.specs.Maps.{read_map, write_out, Bare, map_of_bare, into_output, write_into, write_map, build}
use Rattle.paper.specs.Places.{Map, layout_of, layout}
use Rattle.paper.specs.Refusals.{◌⇒◌, first, Answer, unless, figured}
use Rattle.paper.specs.Sheets.{read_sheet}

-- a number of bytes was answered: they are the map's, at the front of the output
into_back : (a : Answer Map) (output : List ℕ) (n : ℕ) → ((m : Map) → a ≡ Ok m → read_map (write_out m) ≡ Ok m) → (write_into a output).answer ≡ Ok n
    → read_map (take n (write_into a output).output) ≡ a
into_back (Err r) output n back e = absurd (let z : ◌≡◌ {A = ℕ} 0 1 = cc in omega arith)
into_back (Ok m) output n back e = go (nat_le (length (write_out m)) (length output)) e
  where
    go : (t : Bool) → (into_output (unless (first (t ⇒ figured 18 (length (write_out m)) ∷ [])) (Ok (write_out m))) output).answer ≡ Ok n
        → read_map (take n (into_output (unless (first (t ⇒ figured 18 (length (write_out m)) ∷ [])) (Ok (write_out m))) output).output) ≡ Ok m
    go true e =
        let long : length (write_out m) ≡ n = cc in
        ap read_map (take_at (write_out m) (drop (length (write_out m)) output) n long) ∙ back m refl
    go false e = absurd (let z : ◌≡◌ {A = ℕ} 0 1 = cc in omega arith)

-- The theorems
layout_back : (s : List ℕ) (m : Map) → EachByte s → layout s ≡ Ok m → read_map (write_out m) ≡ Ok m
unfolding layout
layout_back s m b e = let r = and_then_given (read_sheet s) layout_of m e in sheet_map_back s r.value m b r.was r.then

pub built_back : (s output : List ℕ) (n : ℕ) → EachByte s → (build s output).answer ≡ Ok n → read_map (take n (build s output).output) ≡ layout s
unfolding build
built_back s output n b e = into_back (layout s) output n (λ m q. layout_back s m b q) e

pub written_map_back : (b : Bare) (output : List ℕ) (n : ℕ) → All (λ i. i ≤ most_identity) b.identities → (write_map b output).answer ≡ Ok n
    → read_map (take n (write_map b output).output) ≡ map_of_bare b
unfolding write_map
written_map_back b output n short e = into_back (map_of_bare b) output n (λ m q. written_back b m short q) e
