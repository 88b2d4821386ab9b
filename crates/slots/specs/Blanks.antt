-- Slots of which the first hold items and the others are blank.
use Rattle.std.proofs.Common.{ap, sym, subst, ◌∙◌, length-take-le, take-append-drop}
use Rattle.std.specs.Prelude.{◌≡◌, ℕ, List, ◌-◌, ◌≤◌, ◌++◌, length, take, drop, replicate}

-- the items, with blanks behind them, are all the slots
pub whole : {A : Type 0} (most n : ℕ) (l : List A) (b : A) → n ≤ most → length l ≡ most → drop n l ≡ replicate (most - n) b
    → take n l ++ replicate (most - length (take n l)) b ≡ l
whole {A} most n l b h k e =
    ap (λ (m : ℕ). take n l ++ replicate (most - m) b) (length-take-le n l (subst (λ (m : ℕ). n ≤ m) (sym k) h))
    ∙ ap (λ (r : List A). take n l ++ r) (sym e)
    ∙ take-append-drop n l
