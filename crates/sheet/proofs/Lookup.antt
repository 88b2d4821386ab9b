-- Looking a task up: the code's tasks at an index, and the index that an identity names, against the paper's tasks and the paper's look-ups.
use Rattle.std.proofs.Common.{◌≡◌, refl, sym, ap, ℕ, suc, zero, ◌+◌, ◌<◌, arith, Bool, true, false, ◌==◌, ◌||◌, if◌then◌else◌, List, [], ◌∷◌, length, slice_index_or, Option, Some, None, eqb-true, eq-eqb}
use Rattle.std.proofs.lemmas.Option.{none-some}
use Rattle.std.specs.Option.{option_map}
use Rattle.laws.specs.Tests.{same_test}
use Rattle.paper.specs.Sheets.{is_task, task_of, task_record}
use Rattle.paper.specs.Words.{among, named}
use Rattle.sheet.specs.Values.{tasks_from}
use Rattle.sheet.specs.Walks.{index_of, no_task}
use Rattle.paper.specs.Sheets

-- there are as many
pub tasks_from_length : (a : ℕ) (ts : List Sheets.Task) → length (tasks_from a ts) ≡ length ts
unfolding tasks_from
tasks_from_length a [] = refl
tasks_from_length a (t ∷ ts) = ap suc (tasks_from_length (a + length (task_record t)) ts)

-- At each index they say the same; past the end both say 0
pub same_identity : (a : ℕ) (ts : List Sheets.Task) (i : ℕ) → (slice_index_or (tasks_from a ts) i no_task).identity ≡ (slice_index_or ts i Sheets.no_task).identity
unfolding tasks_from
same_identity a [] i = refl
same_identity a (t ∷ ts) zero = refl
same_identity a (t ∷ ts) (suc i) = same_identity (a + length (task_record t)) ts i

pub same_priority : (a : ℕ) (ts : List Sheets.Task) (i : ℕ) → (slice_index_or (tasks_from a ts) i no_task).priority ≡ (slice_index_or ts i Sheets.no_task).priority
unfolding tasks_from
same_priority a [] i = refl
same_priority a (t ∷ ts) zero = refl
same_priority a (t ∷ ts) (suc i) = same_priority (a + length (task_record t)) ts i

pub same_threshold : (a : ℕ) (ts : List Sheets.Task) (i : ℕ) → (slice_index_or (tasks_from a ts) i no_task).threshold ≡ (slice_index_or ts i Sheets.no_task).threshold
unfolding tasks_from
same_threshold a [] i = refl
same_threshold a (t ∷ ts) zero = refl
same_threshold a (t ∷ ts) (suc i) = same_threshold (a + length (task_record t)) ts i

pub same_need : (a : ℕ) (ts : List Sheets.Task) (i : ℕ) → (slice_index_or (tasks_from a ts) i no_task).need ≡ (slice_index_or ts i Sheets.no_task).need
unfolding tasks_from
same_need a [] i = refl
same_need a (t ∷ ts) zero = refl
same_need a (t ∷ ts) (suc i) = same_need (a + length (task_record t)) ts i

-- the two sides of a test of equality may stand either way
turned : (x y : ℕ) → (x == y) ≡ (y == x)
turned x y = same_test (x == y) (y == x) (λ e. eq-eqb y x (sym (eqb-true x y e))) (λ e. eq-eqb x y (sym (eqb-true y x e)))

pub no_suc : (o : Option ℕ) → option_map suc o ≡ None → o ≡ None
no_suc None e = refl
no_suc (Some i) e = cc

-- no index: no task has the identity
pub none_is_task : (a : ℕ) (ts : List Sheets.Task) (id : ℕ) → index_of (tasks_from a ts) id ≡ None → is_task ts id ≡ false
unfolding tasks_from index_of among
none_is_task a [] id e = refl
none_is_task a (t ∷ ts) id e = rw (turned id t.identity) (go (t.identity == id) e (none_is_task (a + length (task_record t)) ts id))
  where
    go : (b : Bool) → (if b then Some 0 else option_map suc (index_of (tasks_from (a + length (task_record t)) ts) id)) ≡ None
        → (index_of (tasks_from (a + length (task_record t)) ts) id ≡ None → is_task ts id ≡ false) → (b || is_task ts id) ≡ false
    go true e r = absurd (none-some 0 (sym e))
    go false e r = r (no_suc (index_of (tasks_from (a + length (task_record t)) ts) id) e)

-- the index of a task: it is the task that the identity names
pub record Found (ts : List Sheets.Task) (id i : ℕ) : Type 0 where
  pub below : i < length ts
  pub is : is_task ts id ≡ true
  pub same : task_of ts id ≡ slice_index_or ts i Sheets.no_task
  pub named : (slice_index_or ts i Sheets.no_task).identity ≡ id

pub record Before (o : Option ℕ) (i : ℕ) : Type 0 where
  pub index : ℕ
  pub was : o ≡ Some index
  pub next : i ≡ suc index

pub some_suc : (o : Option ℕ) (i : ℕ) → option_map suc o ≡ Some i → Before o i
some_suc None i e = absurd (none-some i e)
some_suc (Some k) i e = record { index = k; was = refl; next = cc }

pub some_is_task : (a : ℕ) (ts : List Sheets.Task) (id i : ℕ) → index_of (tasks_from a ts) id ≡ Some i → Found ts id i
unfolding tasks_from index_of among named
some_is_task a [] id i e = absurd (none-some i e)
some_is_task a (t ∷ ts) id i e = go (t.identity == id) refl e (some_is_task (a + length (task_record t)) ts id)
  where
    go : (b : Bool) → (t.identity == id) ≡ b → (if b then Some 0 else option_map suc (index_of (tasks_from (a + length (task_record t)) ts) id)) ≡ Some i
        → ((k : ℕ) → index_of (tasks_from (a + length (task_record t)) ts) id ≡ Some k → Found ts id k) → Found (t ∷ ts) id i
    go true q e r =
        let z : 0 ≡ i = cc in
        rw (← z)
        (record {
          below = omega arith;
          is = rw (turned id t.identity, q) refl;
          same = rw q refl;
          named = eqb-true t.identity id q;
        })
    go false q e r =
        let p = some_suc (index_of (tasks_from (a + length (task_record t)) ts) id) i e in
        let f = r p.index p.was in
        rw p.next
        (record {
          below = let l = f.below in omega arith;
          is = rw (turned id t.identity, q) f.is;
          same = rw q f.same;
          named = f.named;
        })
