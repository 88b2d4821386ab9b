-- What a refusal says pins it: there is a way back from the values to the case. So a promise that says what an answer says leaves one answer only.
use Rattle.std.proofs.Common.{◌≡◌, refl, ap, sym, ◌∙◌, ℕ, ◌==◌, if◌then◌else◌, Result, Ok, Err}
use Rattle.std.specs.Result.{result_map_both}
use Rattle.frame.specs.Values.{values_of, answer_of}
use Rattle.frame.specs.declared.refusal.Fault.{Fault}
use Rattle.frame.specs.declared.refusal.Refusal.{Refusal}
use Rattle.paper.specs.Refusals.{Answer}
use Rattle.frame.specs.declared.refusal.Fault.TheVariants as fault
use Rattle.frame.specs.declared.refusal.Refusal.TheVariants as refusal
use Rattle.paper.specs.Refusals

abbrev fault_of : ℕ → Fault
fault_of n =
    if n == 1 then fault.BytesRunOut
    else if n == 2 then fault.Length
    else if n == 3 then fault.Kind
    else if n == 4 then fault.Alignment
    else if n == 5 then fault.Area
    else if n == 6 then fault.TaskCount
    else if n == 7 then fault.Identity
    else if n == 8 then fault.Priority
    else if n == 9 then fault.Threshold
    else if n == 10 then fault.Need
    else if n == 11 then fault.NameByte
    else if n == 12 then fault.BarOfNoTask
    else if n == 13 then fault.BarsNothing
    else if n == 14 then fault.BarOrder
    else if n == 15 then fault.BytesAfterEnd
    else if n == 19 then fault.Place
    else if n == 20 then fault.Total
    else fault.Chain

abbrev case_of : Refusals.Refusal → Refusal
case_of r =
    if r.number == 16 then refusal.NotTransitive r.id1 r.id2 r.id3
    else if r.number == 17 then refusal.TotalAboveArea r.figure
    else if r.number == 18 then refusal.TooShort r.figure
    else if r.number == 30 then refusal.AreaTooShort r.figure
    else if r.number == 31 then refusal.NoSuchTask
    else if r.number == 32 then refusal.NotAllowedNow
    else if r.number == 33 then refusal.NothingRunning
    else if r.number == 34 then refusal.NotTheRunning
    else if r.number == 35 then refusal.OffsetPastSize
    else if r.number == 36 then refusal.NotSound
    else refusal.Record (fault_of r.number) r.place

case_of_values : (r : Refusal) → case_of (values_of r) ≡ r
case_of_values (refusal.Record fault.BytesRunOut place) = refl
case_of_values (refusal.Record fault.Length place) = refl
case_of_values (refusal.Record fault.Kind place) = refl
case_of_values (refusal.Record fault.Alignment place) = refl
case_of_values (refusal.Record fault.Area place) = refl
case_of_values (refusal.Record fault.TaskCount place) = refl
case_of_values (refusal.Record fault.Identity place) = refl
case_of_values (refusal.Record fault.Priority place) = refl
case_of_values (refusal.Record fault.Threshold place) = refl
case_of_values (refusal.Record fault.Need place) = refl
case_of_values (refusal.Record fault.NameByte place) = refl
case_of_values (refusal.Record fault.BarOfNoTask place) = refl
case_of_values (refusal.Record fault.BarsNothing place) = refl
case_of_values (refusal.Record fault.BarOrder place) = refl
case_of_values (refusal.Record fault.BytesAfterEnd place) = refl
case_of_values (refusal.Record fault.Place place) = refl
case_of_values (refusal.Record fault.Total place) = refl
case_of_values (refusal.Record fault.Chain place) = refl
case_of_values (refusal.NotTransitive k j i) = refl
case_of_values (refusal.TotalAboveArea total) = refl
case_of_values (refusal.TooShort needed) = refl
case_of_values (refusal.AreaTooShort total) = refl
case_of_values refusal.NoSuchTask = refl
case_of_values refusal.NotAllowedNow = refl
case_of_values refusal.NothingRunning = refl
case_of_values refusal.NotTheRunning = refl
case_of_values refusal.OffsetPastSize = refl
case_of_values refusal.NotSound = refl

pub values_pin : (a b : Refusal) → values_of a ≡ values_of b → a ≡ b
values_pin a b e = sym (case_of_values a) ∙ (ap case_of e ∙ case_of_values b)

abbrev result_of : {A : Type 0} → Answer A → Result A Refusal
result_of answer = result_map_both (λ a. a) case_of answer

result_of_answer : {A : Type 0} (a : Result A Refusal) → result_of (answer_of a) ≡ a
result_of_answer (Ok a) = refl
result_of_answer (Err r) = ap Err (case_of_values r)

pub answers_pin : {A : Type 0} (a b : Result A Refusal) → answer_of a ≡ answer_of b → a ≡ b
answers_pin a b e = sym (result_of_answer a) ∙ (ap result_of e ∙ result_of_answer b)
