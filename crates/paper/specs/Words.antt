-- The words in which the rules speak of numbers below n and of lists: each, some, the smallest, the greatest, the last, the one of an identity.
use Rattle.std.specs.Prelude.{Bool, true, false, if◌then◌else◌, ◌&&◌, ◌||◌, List, [], ◌∷◌, ◌++◌, ℕ, zero, suc, max, nat_lt, ◌==◌}

-- p holds of each number below n
unfoldable pub each : ℕ → (ℕ → Bool) → Bool
each zero p = true
each (suc n) p = each n p && p n

-- p holds of some number below n
unfoldable pub any : ℕ → (ℕ → Bool) → Bool
any zero p = false
any (suc n) p = any n p || p n

-- the smallest number below n of which p holds; n where there is none
unfoldable pub least : ℕ → (ℕ → Bool) → ℕ
least zero p = 0
least (suc n) p = let l = least n p in if nat_lt l n || p n then l else suc n

-- the greatest of f 0 .. f (n - 1); 0 where n is 0
unfoldable pub greatest : ℕ → (ℕ → ℕ) → ℕ
greatest zero f = 0
greatest (suc n) f = max (greatest n f) (f n)

-- f 0 .. f (n - 1), as a list
unfoldable pub listed : {A : Type 0} → ℕ → (ℕ → A) → List A
listed zero f = []
listed (suc n) f = f 0 ∷ listed n (λ i. f (suc i))

-- x stands in the list
unfoldable pub among : ℕ → List ℕ → Bool
among x [] = false
among x (y ∷ l) = x == y || among x l

-- p holds of each element
unfoldable pub every : {A : Type 0} → (A → Bool) → List A → Bool
every p [] = true
every p (x ∷ l) = p x && every p l

-- the last element, or what stands before the first
unfoldable pub last : {A : Type 0} → A → List A → A
last before [] = before
last before (x ∷ l) = last x l

-- the first element that has an identity, or nobody
unfoldable pub named : {A : Type 0} → (A → ℕ) → A → List A → ℕ → A
named identity nobody [] id = nobody
named identity nobody (x ∷ l) id = let rest = named identity nobody l id in if identity x == id then x else rest

-- the bytes of each element, one after the other
unfoldable pub joined : {A : Type 0} → (A → List ℕ) → List A → List ℕ
joined f [] = []
joined f (x ∷ l) = f x ++ joined f l
