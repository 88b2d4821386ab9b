-- The words of the rules and of the walk over lists are the library's.
use Rattle.std.proofs.Common.{◌≡◌, refl, ap, subst, ℕ, suc, ◌+◌, ltb-true, ltb-false, lt-ltb, le-ltb, arith, Bool, true, false, ◌&&◌, ◌==◌, nat_lt, if◌then◌else◌, Option, Some, None, List, [], ◌∷◌, length}
use Rattle.std.specs.List.{list_all, position_or_len}
use Rattle.std.specs.Option.{option_map}
use Rattle.paper.specs.Words.{every}
use Rattle.sheet.specs.Walks.{index_of}
use Rattle.sheet.specs.declared.task.Task.{Task}

pub all_every : {A : Type 0} (p : A → Bool) (l : List A) → list_all p l ≡ every p l
unfolding every
all_every p [] = refl
all_every p (x ∷ l) = ap (λ (b : Bool). p x && b) (all_every p l)

abbrev named : ℕ → Task → Bool
named id t = t.identity == id

-- one element before: every place is one further
further : (p n : ℕ) (o : Option ℕ) → (if nat_lt p n then Some p else None) ≡ o → (if nat_lt (1 + p) (suc n) then Some (1 + p) else None) ≡ option_map suc o
further p n o r = subst (λ (x : Option ℕ). (if nat_lt (1 + p) (suc n) then Some (1 + p) else None) ≡ option_map suc x) r (go (nat_lt p n) refl)
  where
    go : (b : Bool) → nat_lt p n ≡ b → (if nat_lt (1 + p) (suc n) then Some (1 + p) else None) ≡ option_map suc (if b then Some p else None)
    go true e = let l = ltb-true p n e in rw (lt-ltb (1 + p) (suc n) (omega arith)) (ap (λ (x : ℕ). Some x) (omega arith))
    go false e = let l = ltb-false p n e in rw (le-ltb (1 + p) (suc n) (omega arith)) refl

-- the position of the first that an identity names
pub position_index : (ts : List Task) (id : ℕ)
    → (if nat_lt (position_or_len (named id) ts) (length ts) then Some (position_or_len (named id) ts) else None) ≡ index_of ts id
unfolding index_of
position_index [] id = refl
position_index (t ∷ ts) id = go (t.identity == id) refl (position_index ts id)
  where
    go : (b : Bool) → (t.identity == id) ≡ b → (if nat_lt (position_or_len (named id) ts) (length ts) then Some (position_or_len (named id) ts) else None) ≡ index_of ts id
        → (if nat_lt (position_or_len (named id) (t ∷ ts)) (suc (length ts)) then Some (position_or_len (named id) (t ∷ ts)) else None)
        ≡ (if t.identity == id then Some 0 else option_map suc (index_of ts id))
    go true e r = rw (e, lt-ltb 0 (suc (length ts)) (omega arith)) refl
    go false e r = rw e (further (position_or_len (named id) ts) (length ts) (index_of ts id) r)
