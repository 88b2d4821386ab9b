-- What the code's refusals and answers say, in the paper's numbers and values.
use Rattle.std.specs.Prelude.{ℕ, Result}
use Rattle.std.specs.Result.{result_map_both}
use Rattle.frame.specs.declared.refusal.Fault.{Fault}
use Rattle.frame.specs.declared.refusal.Refusal.{Refusal}
use Rattle.frame.specs.declared.part.Part.{Part}
use Rattle.paper.specs.Refusals.{Answer, plain, placed, naming, figured}
use Rattle.frame.specs.declared.refusal.Fault.TheVariants as fault
use Rattle.frame.specs.declared.refusal.Refusal.TheVariants as refusal
use Rattle.paper.specs.Bytes
use Rattle.paper.specs.Refusals

-- the number of each fault
abbrev pub fault_number : Fault → ℕ
fault_number fault.BytesRunOut = 1
fault_number fault.Length = 2
fault_number fault.Kind = 3
fault_number fault.Alignment = 4
fault_number fault.Area = 5
fault_number fault.TaskCount = 6
fault_number fault.Identity = 7
fault_number fault.Priority = 8
fault_number fault.Threshold = 9
fault_number fault.Need = 10
fault_number fault.NameByte = 11
fault_number fault.BarOfNoTask = 12
fault_number fault.BarsNothing = 13
fault_number fault.BarOrder = 14
fault_number fault.BytesAfterEnd = 15
fault_number fault.Place = 19
fault_number fault.Total = 20
fault_number fault.Chain = 21

-- the number of each refusal, and what else it says
abbrev pub values_of : Refusal → Refusals.Refusal
values_of (refusal.Record fault place) = placed (fault_number fault) place
values_of (refusal.NotTransitive k j i) = naming 16 k j i
values_of (refusal.TotalAboveArea total) = figured 17 total
values_of (refusal.TooShort needed) = figured 18 needed
values_of (refusal.AreaTooShort total) = figured 30 total
values_of refusal.NoSuchTask = plain 31
values_of refusal.NotAllowedNow = plain 32
values_of refusal.NothingRunning = plain 33
values_of refusal.NotTheRunning = plain 34
values_of refusal.OffsetPastSize = plain 35
values_of refusal.NotSound = plain 36

-- an answer of the code, with its refusal in the paper's values
abbrev pub answer_of : {A : Type 0} → Result A Refusal → Answer A
answer_of answer = result_map_both (λ a. a) values_of answer

-- an answer of the paper, with what was asked for in the code's values
abbrev pub with_value : {A B : Type 0} → (A → B) → Answer A → Answer B
with_value f answer = result_map_both f (λ r. r) answer

abbrev pub part_value : Bytes.Part → Part
part_value p = record { from = p.from; to = p.to }
