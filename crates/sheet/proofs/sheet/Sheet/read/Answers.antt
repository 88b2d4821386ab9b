use Rattle.std.proofs.Common.{◌≡◌, sym, ◌∙◌, ap, subst, ℕ, List, [], length, Ok, Err}
use Rattle.frame.specs.Values.{values_of}
use Rattle.frame.specs.declared.refusal.Refusal.{Refusal}
use Rattle.sheet.proofs.Reading.{reading}
use Rattle.sheet.proofs.Steps.{handed_on, read_no_head, read_no_tasks, read_no_bars, read_more, read_all}
use Rattle.sheet.proofs.sheet.Sheet.read.Goals as goal
use Rattle.sheet.specs.Steps.{head_value, tasked_value, barring_value, no_bars}
use Rattle.sheet.specs.Walks.{tasks_walk, bars_walk}
use Rattle.sheet.specs.declared.sheet.Sheet.{Sheet}
use Rattle.sheet.specs.declared.task.Task.{Task}

pub returns-in_err-head : goal.returns-in_err-head
returns-in_err-head c =
    let s = c.args.bytes.now in
    let r = c.in_err-head.field-0.0 in
    handed_on (λ (x : Sheet). x) _ r c.from_residual.ensures ∙ (sym (read_no_head s (values_of r) (sym c.in_err-head.ensures.read)) ∙ sym (reading s))

pub returns-in_err-tasked : goal.returns-in_err-tasked
returns-in_err-tasked c =
    let s = c.args.bytes.now in
    let head = c.in_ok-head.head in
    let r = c.in_err-tasked.field-0.0 in
    let bad = subst (λ (at : ℕ). Err (values_of r) ≡ tasks_walk head.count s (record { at = at; before = 0; tasks = [] })) c.in_ok-head.ensures.end c.in_err-tasked.ensures.read in
    handed_on (λ (x : Sheet). x) _ r c.from_residual-in_err-tasked.ensures
    ∙ (sym (read_no_tasks s (head_value head) (sym c.in_ok-head.ensures.read) (values_of r) (sym bad)) ∙ sym (reading s))

pub returns-in_err-barring : goal.returns-in_err-barring
returns-in_err-barring c =
    let s = c.args.bytes.now in
    let head = c.in_ok-head.head in
    let w = c.in_ok-tasked.tasked in
    let r = c.in_err-barring.field-0.0 in
    let good = subst (λ (at : ℕ). Ok (tasked_value w) ≡ tasks_walk head.count s (record { at = at; before = 0; tasks = [] })) c.in_ok-head.ensures.end c.in_ok-tasked.ensures.read in
    let bad = subst (λ (ts : List Task). Err (values_of r) ≡ bars_walk (length s) s ts (no_bars ts w.at)) c.deref.ensures.0 c.in_err-barring.ensures in
    handed_on (λ (x : Sheet). x) _ r c.from_residual-in_err-barring.ensures
    ∙ (sym (read_no_bars s (head_value head) (sym c.in_ok-head.ensures.read) (tasked_value w) (sym good) (values_of r) (sym bad)) ∙ sym (reading s))

pub returns-then-barring-bytes : goal.returns-then-barring-bytes
returns-then-barring-bytes c =
    let s = c.args.bytes.now in
    let head = c.in_ok-head.head in
    let w = c.in_ok-tasked.tasked in
    let v = c.in_ok-barring.barring in
    let good = subst (λ (at : ℕ). Ok (tasked_value w) ≡ tasks_walk head.count s (record { at = at; before = 0; tasks = [] })) c.in_ok-head.ensures.end c.in_ok-tasked.ensures.read in
    let bars = subst (λ (ts : List Task). Ok (barring_value v) ≡ bars_walk (length s) s ts (no_bars ts w.at)) c.deref.ensures.0 c.in_ok-barring.ensures in
    ap (λ (r : Refusal). Err (values_of r)) c.at.ensures
    ∙ (sym (read_more s (head_value head) (sym c.in_ok-head.ensures.read) (tasked_value w) (sym good) (barring_value v) (sym bars) c.if-barring-bytes.true) ∙ sym (reading s))

pub returns : goal.returns
returns c =
    let s = c.args.bytes.now in
    let head = c.in_ok-head.head in
    let w = c.in_ok-tasked.tasked in
    let v = c.in_ok-barring.barring in
    let good = subst (λ (at : ℕ). Ok (tasked_value w) ≡ tasks_walk head.count s (record { at = at; before = 0; tasks = [] })) c.in_ok-head.ensures.end c.in_ok-tasked.ensures.read in
    let bars = subst (λ (ts : List Task). Ok (barring_value v) ≡ bars_walk (length s) s ts (no_bars ts w.at)) c.deref.ensures.0 c.in_ok-barring.ensures in
    sym (read_all s (head_value head) (sym c.in_ok-head.ensures.read) (tasked_value w) (sym good) (barring_value v) (sym bars) c.if-barring-bytes.false) ∙ sym (reading s)
