-- "Dispatch": the state, when it is sound, opening, start, write, finish, look. Each step says its answer, and what state and area are afterwards.
use Rattle.std.specs.Prelude.{Bool, if◌then◌else◌, not, ◌&&◌, ◌||◌, List, [], ◌∷◌, ◌++◌, map, ℕ, zero, suc, ◌+◌, ◌-◌, ◌/◌, ◌%◌, ◌^◌, nat_le, nat_lt, ◌==◌, slice_index, slice_index_or, length, set, replicate, Option, Some, None, Ok, Err}
use Rattle.paper.specs.Bytes.{Part, nowhere, put}
use Rattle.paper.specs.Words.{each, least, listed, every}
use Rattle.paper.specs.Limits.{most_tasks, most_size, most_area, is_alignment, is_count}
use Rattle.paper.specs.Maps.{is_multiple}
use Rattle.paper.specs.Places.{Nest, end_below, total_of, Map, layout_of}
use Rattle.paper.specs.Preempting.{count, may, transitive}
use Rattle.paper.specs.Refusals.{Refusal, Rule, ◌⇒◌, first, Answer, unless, and_then, plain, figured}
use Rattle.paper.specs.Sheets.{Sheet, read_sheet}

-- A held job: the index of its task, and its number
pub record Held : Type 0 where
  pub task : ℕ
  pub number : ℕ

-- "The state holds alignment, identities, relation, sizes, addresses, held jobs in nesting order, and the next job number." Each list has 64 slots. Row i of the relation is a number whose bit j says that task i may preempt task j
pub record State : Type 0 where
  pub alignment : ℕ
  pub count : ℕ
  pub identities : List ℕ
  pub relation : List ℕ
  pub sizes : List ℕ
  pub addresses : List ℕ
  pub held : List Held
  pub depth : ℕ
  pub next : ℕ

abbrev pub no_job : Held
no_job = record { task = 0; number = 0 }

abbrev pub bit : ℕ → ℕ → Bool
bit row j = row / 2 ^ j % 2 == 1

abbrev pub may_in : State → ℕ → ℕ → Bool
may_in d i j = bit (slice_index d.relation i) j

abbrev pub identity_at : State → ℕ → ℕ
identity_at d i = slice_index d.identities i

abbrev pub size_at : State → ℕ → ℕ
size_at d i = slice_index d.sizes i

abbrev pub address_at : State → ℕ → ℕ
address_at d i = slice_index d.addresses i

abbrev pub held_at : State → ℕ → Held
held_at d k = slice_index_or d.held k no_job

abbrev pub nest_in : State → Nest
nest_in d = record { count = d.count; may = may_in d; size = size_at d }

unfoldable pub total_in : State → ℕ
total_in d = total_of (nest_in d) (address_at d)

-- "A sound state", clause by clause. "Slots past the counts aren't looked at"

abbrev pub nonzero_at : State → ℕ → Bool
nonzero_at d i = nat_lt 0 (identity_at d i)

abbrev pub rises_at : State → ℕ → Bool
rises_at d i = nat_lt (identity_at d i) (identity_at d (i + 1))

abbrev pub not_over_itself : State → ℕ → Bool
not_over_itself d i = not (may_in d i i)

abbrev pub sized_at : State → ℕ → Bool
sized_at d i = is_multiple d.alignment (size_at d i) && nat_le (size_at d i) most_size

abbrev pub placed_by_rule : State → ℕ → Bool
placed_by_rule d i = address_at d i == end_below (nest_in d) (address_at d) i

abbrev pub held_is_task : State → ℕ → Bool
held_is_task d k = nat_lt (held_at d k).task d.count

abbrev pub over_below : State → ℕ → Bool
over_below d k = may_in d (held_at d (k + 1)).task (held_at d k).task

abbrev pub clauses : State → List Bool
clauses d =
    -- "1 to 64 tasks"
    is_count d.count
    -- "identities nonzero and strictly rising"
    ∷ each d.count (nonzero_at d)
    ∷ each (d.count - 1) (rises_at d)
    -- "relation irreflexive and transitive"
    ∷ each d.count (not_over_itself d)
    ∷ transitive d.count (may_in d)
    -- "a listed alignment, sizes that are its multiples and at most 1,048,576"
    ∷ is_alignment d.alignment
    ∷ each d.count (sized_at d)
    -- "addresses by the rule above, total at most 16,777,216"
    ∷ each d.count (placed_by_rule d)
    ∷ nat_le (total_in d) most_area
    -- "at most 64 held jobs, each of a listed task and allowed over the one below it"
    ∷ nat_le d.depth most_tasks
    ∷ each d.depth (held_is_task d)
    ∷ each (d.depth - 1) (over_below d)
    ∷ []

unfoldable pub sound : State → Bool
sound d = every (λ clause. clause) (clauses d)

-- "Each step checks 36, then 30, then its own numbers in table order." Opening checks 30 too
abbrev pub room_for : ℕ → List ℕ → Rule Refusal
room_for total area = nat_le total (length area) ⇒ figured 30 total

abbrev pub step_rules : State → List ℕ → List (Rule Refusal)
step_rules d area = sound d ⇒ plain 36 ∷ room_for (total_in d) area ∷ []

-- Opening. "opening sets them to 0": the slots past the counts
abbrev pub slots : {A : Type 0} → A → List A → List A
slots nothing l = l ++ replicate (most_tasks - length l) nothing

-- the number whose bits below n are those of p
unfoldable pub row_of : ℕ → (ℕ → Bool) → ℕ
row_of zero p = 0
row_of (suc n) p = row_of n p + (if p n then 2 ^ n else 0)

abbrev pub state_of : Sheet → Map → State
state_of sheet m =
    record {
      alignment = m.alignment;
      count = count sheet;
      identities = slots 0 (map (λ p. p.identity) m.places);
      relation = slots 0 (listed (count sheet) (λ i. row_of (count sheet) (may sheet i)));
      sizes = slots 0 (map (λ p. p.size) m.places);
      addresses = slots 0 (map (λ p. p.address) m.places);
      held = slots no_job [];
      depth = 0;
      next = 0;
    }

-- "Opening takes a sheet and an area. Sheet refusals come first, then 30. It writes nothing."
unfoldable pub opening : List ℕ → List ℕ → Answer State
opening s area =
    and_then (read_sheet s) (λ sheet.
    and_then (layout_of sheet) (λ m.
    unless (first (room_for m.total area ∷ [])) (Ok (state_of sheet m))))

-- "A refused opening hands back a state of zeros throughout, with no tasks, which every step refuses under 36."
abbrev pub no_state : State
no_state =
    record {
      alignment = 0;
      count = 0;
      identities = slots 0 [];
      relation = slots 0 [];
      sizes = slots 0 [];
      addresses = slots 0 [];
      held = slots no_job [];
      depth = 0;
      next = 0;
    }

abbrev pub opened : Answer State → State
opened (Err r) = no_state
opened (Ok d) = d

-- Steps
pub record Step (A : Type 0) : Type 0 where
  pub answer : Answer A
  pub state : State
  pub area : List ℕ

-- "Lent memory and state stay the same" where a step is refused
abbrev pub step : {A : Type 0} → Option Refusal → State → List ℕ → Step A → Step A
step None d area next = next
step (Some r) d area next = record { answer = Err r; state = d; area = area }

-- the running job, "the last held"
abbrev pub running : State → Held
running d = held_at d (d.depth - 1)

-- the task that an identity names; the count where it names none
unfoldable pub task_in : State → ℕ → ℕ
task_in d id = least d.count (λ i. identity_at d i == id)

-- Start. "Allowed when nothing is held, or when the task may preempt the task of the running job"
abbrev pub may_start : State → ℕ → Bool
may_start d i = d.depth == 0 || may_in d i (running d).task

abbrev pub start_rules : State → List ℕ → ℕ → List (Rule Refusal)
start_rules d area id = step_rules d area ++ (nat_lt (task_in d id) d.count ⇒ plain 31 ∷ may_start d (task_in d id) ⇒ plain 32 ∷ [])

-- "Job numbers run 0, 1, up to 65,535 and then 0 again, one for each accepted start."
abbrev pub number_after : ℕ → ℕ
number_after n = (n + 1) % 65536

abbrev pub with_job : State → ℕ → State
with_job d i =
    record {
      alignment = d.alignment;
      count = d.count;
      identities = d.identities;
      relation = d.relation;
      sizes = d.sizes;
      addresses = d.addresses;
      held = set d.held d.depth (record { task = i; number = d.next });
      depth = d.depth + 1;
      next = number_after d.next;
    }

-- "Its place is filled with zeros."
abbrev pub cleared : State → List ℕ → ℕ → List ℕ
cleared d area i = put area (address_at d i) (replicate (size_at d i) 0)

-- "Answer: address and job number."
pub record Started : Type 0 where
  pub address : ℕ
  pub number : ℕ

unfoldable pub start : State → List ℕ → ℕ → Step Started
start d area id =
    let i = task_in d id in
    step (first (start_rules d area id)) d area
    (record { answer = Ok (record { address = address_at d i; number = d.next }); state = with_job d i; area = cleared d area i })

-- Write and finish. "Only the running job's number is compared."
abbrev pub job_rules : State → List ℕ → ℕ → List (Rule Refusal)
job_rules d area number = step_rules d area ++ (nat_lt 0 d.depth ⇒ plain 33 ∷ ((running d).number == number) ⇒ plain 34 ∷ [])

-- "Write a byte at an offset below the size, for a job number."
abbrev pub write_rules : State → List ℕ → ℕ → ℕ → List (Rule Refusal)
write_rules d area number offset = job_rules d area number ++ (nat_lt offset (size_at d (running d).task) ⇒ plain 35 ∷ [])

unfoldable pub write : State → List ℕ → ℕ → ℕ → ℕ → Step (Unit {0})
write d area number offset byte =
    step (first (write_rules d area number offset)) d area
    (record { answer = Ok tt; state = d; area = set area (address_at d (running d).task + offset) byte })

-- "Finish a job number. The job leaves"; its slot becomes 0
abbrev pub without_job : State → State
without_job d =
    record {
      alignment = d.alignment;
      count = d.count;
      identities = d.identities;
      relation = d.relation;
      sizes = d.sizes;
      addresses = d.addresses;
      held = set d.held (d.depth - 1) no_job;
      depth = d.depth - 1;
      next = d.next;
    }

-- "the answer is the address and size of its place, contents untouched"
pub record Finished : Type 0 where
  pub address : ℕ
  pub size : ℕ

unfoldable pub finish : State → List ℕ → ℕ → Step Finished
finish d area number =
    let i = (running d).task in
    step (first (job_rules d area number)) d area
    (record { answer = Ok (record { address = address_at d i; size = size_at d i }); state = without_job d; area = area })

-- "Look, for a job number: hands out the running job's place as a part of the area. Where finish would be refused it is the empty part at the area's start"
abbrev pub place_of_finished : Answer Finished → Part
place_of_finished (Err r) = nowhere
place_of_finished (Ok f) = record { from = f.address; to = f.address + f.size }

unfoldable pub look : State → List ℕ → ℕ → Part
look d area number = place_of_finished (finish d area number).answer
