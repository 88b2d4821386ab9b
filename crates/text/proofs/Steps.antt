-- One more of a line's words, and one more line.
use Rattle.std.proofs.Common.{◌≡◌, refl, ap, ◌∙◌, sym, ℕ, ◌+◌, ◌<◌, arith, List, [], ◌∷◌, ◌++◌, length, take, slice_index, slice_index_or, append_assoc, length-take-le}
use Rattle.std.proofs.lemmas.List.{append-nil, take_more}
use Rattle.laws.specs.Lists.{joined_snoc}
use Rattle.layout.specs.declared.layout.Place.{Place}
use Rattle.paper.specs.Printed.{decimal, decimals, spaced}
use Rattle.paper.specs.Words.{joined}
use Rattle.sheet.specs.declared.task.Task.{Task}
use Rattle.text.specs.Lines.{task_line_here, task_lines_here}
use Rattle.text.specs.Shown.{place_line_here}

pub spaced_push : (w : List ℕ) (l : List ℕ) (n : ℕ) → spaced (w ∷ decimals (l ++ (n ∷ []))) ≡ spaced (w ∷ decimals l) ++ (0x20 ∷ decimal n)
unfolding decimals
spaced_push w [] n = refl
spaced_push w (m ∷ l) n = ap (λ (x : List ℕ). w ++ (0x20 ∷ x)) (spaced_push (decimal m) l n) ∙ sym (append_assoc w (0x20 ∷ spaced (decimal m ∷ decimals l)) (0x20 ∷ decimal n))

pub spaced_more : (w : List ℕ) (l : List ℕ) (i n : ℕ) → i < length l → n ≡ slice_index l i
    → spaced (w ∷ decimals (take (i + 1) l)) ≡ spaced (w ∷ decimals (take i l)) ++ (0x20 ∷ decimal n)
spaced_more w l i n h e = rw (take_more l i 0 h, ← e) (spaced_push w (take i l) n)

pub task_lines_push : (s : List ℕ) (ts : List Task) (ps : List Place) (t : Task) (p : Place) → length ps ≡ length ts
    → task_lines_here s (ts ++ (t ∷ [])) (ps ++ (p ∷ [])) ≡ task_lines_here s ts ps ++ task_line_here s t p
unfolding task_lines_here
task_lines_push s [] [] t p e = append-nil (task_line_here s t p)
task_lines_push s [] (q ∷ ps) t p e = absurd (omega arith)
task_lines_push s (u ∷ ts) [] t p e = absurd (omega arith)
task_lines_push s (u ∷ ts) (q ∷ ps) t p e =
    ap (λ (x : List ℕ). task_line_here s u q ++ x) (task_lines_push s ts ps t p (omega arith)) ∙ sym (append_assoc (task_line_here s u q) (task_lines_here s ts ps) (task_line_here s t p))

-- the lines up to the one after i
pub task_lines_more : (s : List ℕ) (ts : List Task) (ps : List Place) (i j : ℕ) (t : Task) (p : Place) → length ps ≡ length ts → i < length ts → j ≡ i + 1
    → t ≡ slice_index_or ts i t → p ≡ slice_index_or ps i p
    → task_lines_here s (take j ts) (take j ps) ≡ task_lines_here s (take i ts) (take i ps) ++ task_line_here s t p
task_lines_more s ts ps i j t p e h n is_t is_p =
    rw (n, take_more ts i t h, take_more ps i p (omega arith), ← is_t, ← is_p)
    (task_lines_push s (take i ts) (take i ps) t p (length-take-le i ps (omega arith) ∙ sym (length-take-le i ts (omega arith))))

-- one more line of a map's places, behind what was there already
pub place_lines_step : (old now : List ℕ) (l : List Place) (i : ℕ) (d : Place) → i < length l → now ≡ old ++ joined place_line_here (take i l)
    → now ++ place_line_here (slice_index_or l i d) ≡ old ++ joined place_line_here (take (i + 1) l)
place_lines_step old now l i d h e =
    rw (e, take_more l i d h, joined_snoc place_line_here (take i l) (slice_index_or l i d))
    (append_assoc old (joined place_line_here (take i l)) (place_line_here (slice_index_or l i d)))
