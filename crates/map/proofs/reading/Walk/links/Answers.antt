use Rattle.std.proofs.Common.{◌≡◌, ◌∙◌, ◌-◌, ◌+◌, sym, ap, length, arith, ℕ, Err}
use Rattle.frame.proofs.Framing.{same_as_end}
use Rattle.frame.specs.Framing.{record_value}
use Rattle.frame.specs.Values.{values_of}
use Rattle.frame.specs.declared.refusal.Refusal.{Refusal}
use Rattle.map.proofs.Chained.{unlinked, chained_step}
use Rattle.map.proofs.Steps.{links_done, link_cut, link_end, link_bad, link_more, places_of_walk}
use Rattle.map.proofs.reading.Walk.links.Goals as goal
use Rattle.map.specs.Steps.{walk_value}
use Rattle.map.specs.Values.{paper_map}
use Rattle.paper.specs.Maps.{read_links}
use Rattle.sheet.proofs.Steps.{handed_on}

pub loop-i-init : goal.loop-i-init
loop-i-init c =
    let s = c.args.bytes.now in
    let n = places_of_walk c.args.self in
    let whole : length s - 0 ≡ length s = omega arith in
    record {
      read = ap (λ (k : ℕ). read_links k s (walk_value c.args.self)) whole;
      chained = unlinked (paper_map c.args.self.map) (omega arith) c.requires.unlinked;
    }

pub returns-in_err-record : goal.returns-in_err-record
returns-in_err-record c =
    let s = c.args.bytes.now in
    let e = c.in_err-record.field-0.0 in
    handed_on walk_value _ e c.from_residual.ensures
    ∙ (sym (link_cut (length s - c.loop-i.i) (length s - (c.loop-i.i + 1)) s (walk_value c.loop-i.walk) (omega arith) (values_of e) (sym c.in_err-record.ensures.framed))
    ∙ c.loop-i.invariant.read)

pub returns-then-eq : goal.returns-then-eq
returns-then-eq c =
    let s = c.args.bytes.now in
    let r = c.in_ok-record.record in
    c.past_end.ensures
    ∙ (sym (link_end (length s - c.loop-i.i) (length s - (c.loop-i.i + 1)) s (walk_value c.loop-i.walk) (omega arith) (record_value r) (sym c.in_ok-record.ensures.framed) (sym (same_as_end r.kind) ∙ sym c.if-eq.ensures))
    ∙ c.loop-i.invariant.read)

pub returns-in_err-walk : goal.returns-in_err-walk
returns-in_err-walk c =
    let s = c.args.bytes.now in
    let r = c.in_ok-record.record in
    let e = c.in_err-walk.field-0.0 in
    handed_on walk_value _ e c.from_residual-in_err-walk.ensures
    ∙ (sym (link_bad (length s - c.loop-i.i) (length s - (c.loop-i.i + 1)) s (walk_value c.loop-i.walk) (omega arith) (record_value r) (sym c.in_ok-record.ensures.framed) (values_of e) (sym (same_as_end r.kind) ∙ sym c.if-eq.ensures) (sym c.in_err-walk.ensures))
    ∙ c.loop-i.invariant.read)

pub loop-i-preserved : goal.loop-i-preserved
loop-i-preserved c =
    let s = c.args.bytes.now in
    let r = c.in_ok-record.record in
    let v = c.in_ok-walk.walk in
    let step = sym c.in_ok-walk.ensures in
    record {
      read =
          sym (link_more (length s - c.loop-i.i) (length s - (c.loop-i.i + 1)) s (walk_value c.loop-i.walk) (omega arith) (record_value r) (sym c.in_ok-record.ensures.framed) (walk_value v) (sym (same_as_end r.kind) ∙ sym c.if-eq.ensures) step)
          ∙ c.loop-i.invariant.read;
      chained = chained_step s (walk_value c.loop-i.walk) (walk_value v) c.loop-i.invariant.chained step;
    }

pub returns : goal.returns
returns c =
    let s = c.args.bytes.now in
    ap (λ (r : Refusal). Err (values_of r)) c.at.ensures
    ∙ (sym (links_done (length s - c.loop-i.i) s (walk_value c.loop-i.walk) (omega arith)) ∙ c.loop-i.invariant.read)
