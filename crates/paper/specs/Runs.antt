-- A run: calls one after the other, each given the state and the area that the last left.
use Rattle.std.specs.Prelude.{List, [], ◌∷◌, ℕ, Ok, Err}
use Rattle.paper.specs.Bytes.{Part}
use Rattle.paper.specs.Dispatch.{State, Step, start, write, finish, look}
use Rattle.paper.specs.Refusals.{Refusal, Answer}

-- start a task; write a byte at an offset for a job; finish a job; look at a job's place
pub data Call : Type 0 where
  starts : ℕ → Call
  writes : ℕ → ℕ → ℕ → Call
  finishes : ℕ → Call
  looks : ℕ → Call

-- its answer: address and number; nothing more; address and size; a part of the area; or the refusal
pub data Reply : Type 0 where
  started : ℕ → ℕ → Reply
  wrote : Reply
  finished : ℕ → ℕ → Reply
  shown : Part → Reply
  denied : Refusal → Reply

-- the reply, and what is left
pub record Turn : Type 0 where
  pub reply : Reply
  pub state : State
  pub area : List ℕ

abbrev pub reply_of : {A : Type 0} → (A → Reply) → Answer A → Reply
reply_of f (Err r) = denied r
reply_of f (Ok a) = f a

abbrev pub turn_of : {A : Type 0} → (A → Reply) → Step A → Turn
turn_of f x = record { reply = reply_of f x.answer; state = x.state; area = x.area }

unfoldable pub turn : State → List ℕ → Call → Turn
turn d area (starts id) = turn_of (λ a. started a.address a.number) (start d area id)
turn d area (writes number offset byte) = turn_of (λ a. wrote) (write d area number offset byte)
turn d area (finishes number) = turn_of (λ a. finished a.address a.size) (finish d area number)
turn d area (looks number) = record { reply = shown (look d area number); state = d; area = area }

-- the replies in order, and what is left at the end
pub record Run : Type 0 where
  pub replies : List Reply
  pub state : State
  pub area : List ℕ

abbrev pub after : Reply → Run → Run
after r x = record { replies = r ∷ x.replies; state = x.state; area = x.area }

unfoldable pub run : State → List ℕ → List Call → Run
run d area [] = record { replies = []; state = d; area = area }
run d area (c ∷ cs) = let t = turn d area c in after t.reply (run t.state t.area cs)
