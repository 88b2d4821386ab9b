-- Slots of which the first hold items and the others are blank.
use Rattle.std.proofs.Common.{ap, sym, ◌∙◌, arith}
use Rattle.std.proofs.lemmas.List.{drop-drop, drop-replicate, drop-set-lt}
use Rattle.std.specs.Prelude.{◌≡◌, ℕ, List, ◌+◌, ◌-◌, drop, replicate, slice_set}

-- a slot filled leaves those past it blank
pub blank_behind : {A : Type 0} (most n : ℕ) (l : List A) (b x : A) → drop n l ≡ replicate (most - n) b
    → drop (n + 1) (slice_set l n x) ≡ replicate (most - (n + 1)) b
blank_behind {A} most n l b x e =
    drop-set-lt (n + 1) l n x (omega arith)
    ∙ sym (drop-drop 1 n l)
    ∙ ap (λ (r : List A). drop 1 r) e
    ∙ drop-replicate 1 (most - n) b
    ∙ ap (λ (m : ℕ). replicate m b) (omega arith)
