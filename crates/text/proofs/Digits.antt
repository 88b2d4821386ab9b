-- Numbers in decimal: the digits in front of the last one, and how many digits there are. The bound of the definition's recursion changes nothing where it is above the number.
use Rattle.std.proofs.Common.{◌≡◌, refl, sym, ap, ◌∙◌, ℕ, zero, suc, ◌+◌, ◌/◌, ◌%◌, ◌^◌, ◌<◌, ◌≤◌, arith, List, [], ◌∷◌, ◌++◌, length, length-append, lt-ltb, le-ltb, ◌⊎◌, inl, inr}
use Rattle.std.proofs.lemmas.Bool.{cases_lt}
use Rattle.std.proofs.Math.Nat.{pow-suc}
use Rattle.paper.specs.Printed.{digits, decimal}

abbrev last_digit : ℕ → List ℕ
last_digit n = (0x30 + n % 10) ∷ []

pub digits_few : (most n : ℕ) → n < 10 → digits (suc most) n ≡ last_digit n
unfolding digits
digits_few most n h = rw (lt-ltb n 10 h) refl

pub digits_more : (most n : ℕ) → 10 ≤ n → digits (suc most) n ≡ digits most (n / 10) ++ last_digit n
unfolding digits
digits_more most n h = rw (le-ltb n 10 h) refl

pub digits_enough : (f g n : ℕ) → n < f → n < g → digits f n ≡ digits g n
digits_enough zero g n h k = absurd (omega arith)
digits_enough (suc f) zero n h k = absurd (omega arith)
digits_enough (suc f) (suc g) n h k = go (cases_lt n 10) (λ l m. digits_enough f g (n / 10) l m)
  where
    go : (n < 10) ⊎ (10 ≤ n) → (n / 10 < f → n / 10 < g → digits f (n / 10) ≡ digits g (n / 10)) → digits (suc f) n ≡ digits (suc g) n
    go (inl l) r = digits_few f n l ∙ sym (digits_few g n l)
    go (inr l) r = digits_more f n l ∙ (ap (λ (d : List ℕ). d ++ last_digit n) (r (omega arith) (omega arith)) ∙ sym (digits_more g n l))

pub decimal_few : (n : ℕ) → n < 10 → decimal n ≡ (0x30 + n % 10) ∷ []
decimal_few n h = digits_few n n h

pub decimal_more : (n : ℕ) → 10 ≤ n → decimal n ≡ decimal (n / 10) ++ ((0x30 + n % 10) ∷ [])
decimal_more n h = digits_more n n h ∙ ap (λ (d : List ℕ). d ++ last_digit n) (digits_enough n (suc (n / 10)) (n / 10) (omega arith) (omega arith))

pub length_few : (n : ℕ) → n < 10 → length (decimal n) ≡ 1
length_few n h = ap length (decimal_few n h)

pub length_more : (n : ℕ) → 10 ≤ n → length (decimal n) ≡ length (decimal (n / 10)) + 1
length_more n h = ap length (decimal_more n h) ∙ length-append (decimal (n / 10)) (last_digit n)

-- a number below a power of ten has no more digits than the power
pub digits_most : (f k n : ℕ) → n < 10 ^ suc k → length (digits f n) ≤ suc k
unfolding digits
digits_most zero k n h = omega arith
digits_most (suc f) k n h = go (cases_lt n 10) k h (λ i l. digits_most f i (n / 10) l)
  where
    go : (n < 10) ⊎ (10 ≤ n) → (k : ℕ) → n < 10 ^ suc k → ((i : ℕ) → n / 10 < 10 ^ suc i → length (digits f (n / 10)) ≤ suc i) → length (digits (suc f) n) ≤ suc k
    go (inl l) k h r = rw (digits_few f n l) (omega arith)
    go (inr l) zero h r = absurd (omega arith)
    go (inr l) (suc k) h r =
        rw (digits_more f n l, length-append (digits f (n / 10)) (last_digit n))
        (let p = pow-suc 10 (suc k) in let q = r k (omega arith) in omega arith)

-- a number of the code's types has no more digits than the largest of its type
pub short16 : (n : ℕ) → n < 2 ^ 16 → length (decimal n) ≤ 5
short16 n h = digits_most (suc n) 4 n (omega arith)

pub short32 : (n : ℕ) → n < 2 ^ 32 → length (decimal n) ≤ 10
short32 n h = digits_most (suc n) 9 n (omega arith)

pub short64 : (n : ℕ) → n < 2 ^ 64 → length (decimal n) ≤ 20
short64 n h = digits_most (suc n) 19 n (omega arith)

pub ruleset short = (short16, short32, short64)
