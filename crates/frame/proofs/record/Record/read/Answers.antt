use Rattle.std.proofs.Common.{◌≡◌, sym, ◌∙◌, subst, ap, map, ℕ, ◌+◌, false, arith, Ok, Err}
use Rattle.frame.proofs.Framing.{Among, fits, none_allowed, some_allowed, not_here, unsuited, cut_off, whole, has_room, no_room, same_record}
use Rattle.frame.specs.Framing.{kind_value, record_at}
use Rattle.frame.proofs.record.Record.read.Goals as goal
use Rattle.frame.specs.Values.{values_of}
use Rattle.frame.specs.declared.refusal.Refusal.{Refusal}
use Rattle.laws.specs.Tables.{unless_at_none, unless_at_some}
use Rattle.paper.specs.Records.{framing, allowed, length_at}
use Rattle.paper.specs.Refusals.{first}

pub returns-in-None-clause-framed : goal.returns-in-None-clause-framed
returns-in-None-clause-framed c =
    let s = c.args.bytes.now in
    let at = c.args.at in
    let here = map kind_value c.args.here.now in
    let four = has_room here s at 4 (omega arith) in
    let bad = subst (λ (n : ℕ). allowed n here ≡ false) c.le16.ensures (none_allowed c.args.here.now c.le16.result (sym c.in-None.ensures)) in
    ap (λ (r : Refusal). Err (values_of r)) c.at-in-None.ensures ∙ sym (unless_at_some at 3 (first (framing here s at)) (Ok (record_at s at)) (not_here here s at four bad))

pub returns-then-not-suits-clause-framed : goal.returns-then-not-suits-clause-framed
returns-then-not-suits-clause-framed c =
    let s = c.args.bytes.now in
    let at = c.args.at in
    let here = map kind_value c.args.here.now in
    let four = has_room here s at 4 (omega arith) in
    let found = subst (λ (n : ℕ). Among c.args.here.now n c.in-Some.kind) c.le16.ensures (some_allowed c.args.here.now c.le16.result c.in-Some.kind (sym c.in-Some.ensures)) in
    let bad = found.lengths (length_at s at) ∙ (ap (fits c.in-Some.kind) (sym c.le16-length.ensures) ∙ (sym c.suits.ensures ∙ c.if-not-suits.true)) in
    ap (λ (r : Refusal). Err (values_of r)) c.at-then-not-suits.ensures ∙ sym (unless_at_some at 2 (first (framing here s at)) (Ok (record_at s at)) (unsuited here s at four found.allows bad))

pub returns-then-bytes-at-2-clause-framed : goal.returns-then-bytes-at-2-clause-framed
returns-then-bytes-at-2-clause-framed c =
    let s = c.args.bytes.now in
    let at = c.args.at in
    let here = map kind_value c.args.here.now in
    let four = has_room here s at 4 (omega arith) in
    let found = subst (λ (n : ℕ). Among c.args.here.now n c.in-Some.kind) c.le16.ensures (some_allowed c.args.here.now c.le16.result c.in-Some.kind (sym c.in-Some.ensures)) in
    let good = found.lengths (length_at s at) ∙ (ap (fits c.in-Some.kind) (sym c.le16-length.ensures) ∙ (sym c.suits.ensures ∙ c.if-not-suits.false)) in
    let short = no_room here s at (length_at s at) (omega arith) in
    ap (λ (r : Refusal). Err (values_of r)) c.at-then-bytes-at-2.ensures ∙ sym (unless_at_some at 1 (first (framing here s at)) (Ok (record_at s at)) (cut_off here s at four found.allows good short))

pub returns-clause-framed : goal.returns-clause-framed
returns-clause-framed c =
    let s = c.args.bytes.now in
    let at = c.args.at in
    let here = map kind_value c.args.here.now in
    let four = has_room here s at 4 (omega arith) in
    let found = subst (λ (n : ℕ). Among c.args.here.now n c.in-Some.kind) c.le16.ensures (some_allowed c.args.here.now c.le16.result c.in-Some.kind (sym c.in-Some.ensures)) in
    let good = found.lengths (length_at s at) ∙ (ap (fits c.in-Some.kind) (sym c.le16-length.ensures) ∙ (sym c.suits.ensures ∙ c.if-not-suits.false)) in
    let long = has_room here s at (length_at s at) (omega arith) in
    ap Ok (same_record here s at _ found.number (ap (λ (n : ℕ). at + n) (c.from-2.ensures ∙ c.le16-length.ensures)))
    ∙ sym (unless_at_none at (first (framing here s at)) (Ok (record_at s at)) (whole here s at four found.allows good long))
