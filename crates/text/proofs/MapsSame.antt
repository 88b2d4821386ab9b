-- The code's lines of a map are the paper's: of a map that was read, and of a refusal.
use Rattle.std.proofs.Common.{◌≡◌, refl, sym, ap, ◌∙◌, ℕ, arith, List, [], ◌∷◌, ◌++◌, map, Ok, Err}
use Rattle.frame.specs.Values.{with_value}
use Rattle.layout.specs.Values.{place_value, layout_value}
use Rattle.layout.specs.declared.layout.Layout.{Layout}
use Rattle.paper.specs.Maps.{read_map}
use Rattle.paper.specs.Places.{Place, Map}
use Rattle.paper.specs.Printed.{refusal_line}
use Rattle.paper.specs.Refusals.{Refusal, Answer}
use Rattle.paper.specs.Words.{joined}
use Rattle.text.specs.Shown.{place_line, place_line_here, map_lines, map_lines_here, of_map, shown}

place_lines_same : (ps : List Place) → joined place_line_here (map place_value ps) ≡ joined place_line ps
unfolding joined
place_lines_same [] = refl
place_lines_same (p ∷ ps) = ap (λ (l : List ℕ). place_line p ++ l) (place_lines_same ps)

pub map_lines_same : (m : Map) → map_lines_here (layout_value m) ≡ map_lines m
unfolding map_lines_here map_lines layout_value
map_lines_same m = rw (place_lines_same m.places) refl

pub map_is_shown : (s : List ℕ) (l : Layout) → with_value layout_value (read_map s) ≡ Ok l → map_lines_here l ≡ shown s
unfolding shown
map_is_shown s l e = go (read_map s) e
  where
    go : (x : Answer Map) → with_value layout_value x ≡ Ok l → map_lines_here l ≡ of_map x
    go (Ok m) e = let same : layout_value m ≡ l = cc in ap map_lines_here (sym same) ∙ map_lines_same m
    go (Err r) e = absurd (let z : ◌≡◌ {A = ℕ} 0 1 = cc in omega arith)

pub map_refusal_is_shown : (s : List ℕ) (r : Refusal) → with_value layout_value (read_map s) ≡ Err r → refusal_line r ≡ shown s
unfolding shown
map_refusal_is_shown s r e = go (read_map s) e
  where
    go : (x : Answer Map) → with_value layout_value x ≡ Err r → refusal_line r ≡ of_map x
    go (Ok m) e = absurd (let z : ◌≡◌ {A = ℕ} 0 1 = cc in omega arith)
    go (Err q) e = let same : q ≡ r = cc in ap refusal_line (sym same)
