-- Sizes and multiples: a need rounded up is the least multiple of the alignment that is not below it. Assumes nothing.
use Rattle.std.specs.Prelude.{◌≡◌, Bool, true, false, ◌||◌, ◌⊎◌, ℕ, suc, ◌+◌, ◌*◌, ◌-◌, ◌/◌, ◌%◌, ◌≤◌, ◌<◌, ◌==◌}
use Rattle.std.proofs.Common.{ap, sym, ◌∙◌, inl, inr, mod-lt, div-add-mod', div-lt_iff_lt-mul, mul-le-mul_right, zero-add, arith, eqb-true, eq-eqb}
use Rattle.std.proofs.Math.Nat.{mul-mod_left, div-eq_of_lt, mod-add-mod}
use Rattle.laws.specs.Tests.{or_cases}
use Rattle.paper.specs.Limits.{most_need, most_size, is_alignment}
use Rattle.paper.specs.Maps.{is_multiple}
use Rattle.paper.specs.Places.{rounded_up}
use Rattle.paper.specs.Words.{among}

-- x is a multiple of g
abbrev pub IsMultiple : ℕ → ℕ → Type 0
IsMultiple g x = x % g ≡ 0

pub multiple_test : (g x : ℕ) → IsMultiple g x → is_multiple g x ≡ true
multiple_test g x h = eq-eqb (x % g) 0 h

pub test_multiple : (g x : ℕ) → is_multiple g x ≡ true → IsMultiple g x
test_multiple g x e = eqb-true (x % g) 0 e

pub multiple_sum : (g x y : ℕ) → IsMultiple g x → IsMultiple g y → IsMultiple g (x + y)
multiple_sum g x y p q = sym (mod-add-mod x g y) ∙ ap (λ (n : ℕ). (n + y) % g) p ∙ ap (λ (n : ℕ). n % g) (zero-add y) ∙ q

-- a listed alignment is one of seven numbers
one_of : (P : ℕ → Type 0) (a n : ℕ) (rest : Bool) → P n → (rest ≡ true → P a) → ((a == n) || rest) ≡ true → P a
one_of P a n rest p k e = go (or_cases (a == n) rest e)
  where
    go : ((a == n) ≡ true) ⊎ (rest ≡ true) → P a
    go (inl h) = rw (eqb-true a n h) p
    go (inr h) = k h

pub alignment_cases : (P : ℕ → Type 0) → P 1 → P 2 → P 4 → P 8 → P 16 → P 32 → P 64 → (a : ℕ) → is_alignment a ≡ true → P a
unfolding among
alignment_cases P p1 p2 p4 p8 p16 p32 p64 a =
    one_of P a 1 _ p1 (one_of P a 2 _ p2 (one_of P a 4 _ p4 (one_of P a 8 _ p8 (one_of P a 16 _ p16 (one_of P a 32 _ p32 (one_of P a 64 _ p64 (λ e. absurd (never e))))))))
  where
    never : false ≡ true → ⊥
    never e = let z : ◌≡◌ {A = ℕ} 0 1 = cc in omega arith

pub alignment_positive : (a : ℕ) → is_alignment a ≡ true → 0 < a
alignment_positive =
    alignment_cases (λ a. 0 < a) (omega arith) (omega arith) (omega arith) (omega arith) (omega arith) (omega arith) (omega arith)

pub alignment_most : (a : ℕ) → is_alignment a ≡ true → a ≤ 64
alignment_most =
    alignment_cases (λ a. a ≤ 64) (omega arith) (omega arith) (omega arith) (omega arith) (omega arith) (omega arith) (omega arith)

-- "Size is the need rounded up to a multiple of the alignment"
pub rounded_multiple : (a need : ℕ) → IsMultiple a (rounded_up a need)
rounded_multiple a need = mul-mod_left ((need + (a - 1)) / a) a

pub rounded_ge : (a need : ℕ) → 0 < a → need ≤ rounded_up a need
rounded_ge a need h =
    let d = div-add-mod' (need + (a - 1)) a in
    let m = mod-lt (need + (a - 1)) h in
    omega arith

pub rounded_lt : (a need : ℕ) → 0 < a → rounded_up a need < need + a
rounded_lt a need h =
    let d = div-add-mod' (need + (a - 1)) a in
    omega arith

-- "0 stays 0"
pub rounded_zero : (a : ℕ) → 0 < a → rounded_up a 0 ≡ 0
rounded_zero a h =
    let l : 0 + (a - 1) < a = omega arith in
    let d : (0 + (a - 1)) / a ≡ 0 = div-eq_of_lt l in
    rw d (omega arith)

-- the least such multiple: none between the need and it
pub rounded_least : (a need x : ℕ) → 0 < a → IsMultiple a x → need ≤ x → rounded_up a need ≤ x
rounded_least a need x h m l =
    let d = div-add-mod' x a in
    let k : need + (a - 1) < suc (x / a) * a = omega arith in
    let q : (need + (a - 1)) / a < suc (x / a) = (div-lt_iff_lt-mul h).1 k in
    let r : (need + (a - 1)) / a ≤ x / a = omega arith in
    let t = mul-le-mul_right a r in
    omega arith

-- each alignment divides the greatest need, so no size is above it
pub rounded_most : (a need : ℕ) → is_alignment a ≡ true → need ≤ most_need → rounded_up a need ≤ most_size
rounded_most a need e l =
    alignment_cases (λ g. rounded_up g need ≤ most_size) (omega arith) (omega arith) (omega arith) (omega arith) (omega arith) (omega arith) (omega arith) a e
