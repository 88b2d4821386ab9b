use Rattle.std.proofs.Common.{◌≡◌, ◌∙◌, ◌==◌, sym, ap, true, false, ℕ, List}
use Rattle.std.specs.List.{list_any}
use Rattle.map.proofs.Found.{found_here, found_nowhere, among_any}
use Rattle.map.proofs.rules.is_link.Goals as goal
use Rattle.paper.specs.Words.{among}

pub returns-in_default : goal.returns-in_default
returns-in_default c =
    let f = found_nowhere c.args.map.now.places.items _ c.args.identity _ c.place_of.ensures c.deref.ensures.0 c.in_default.is in
    rw f.absent

pub returns-then-not-contains : goal.returns-then-not-contains
returns-then-not-contains c =
    let f = found_here c.args.map.now.places.items _ c.args.identity _ c.in-Some.place c.place_of.ensures c.deref.ensures.0 c.in-Some.is in
    let links = c.args.map.now.chain.items in
    let n : among c.args.identity links ≡ false =
    sym (among_any c.args.identity links) ∙ (ap (λ (l : List ℕ). list_any (λ y. y == c.args.identity) l) (sym c.deref-2.ensures.0) ∙ (sym c.contains.ensures.value ∙ c.if-not-contains.true)) in
    rw (f.present, n, f.same, c.from.ensures, c.linked_end.ensures)

pub returns-else-not-contains : goal.returns-else-not-contains
returns-else-not-contains c =
    let f = found_here c.args.map.now.places.items _ c.args.identity _ c.in-Some.place c.place_of.ensures c.deref.ensures.0 c.in-Some.is in
    let links = c.args.map.now.chain.items in
    let n : among c.args.identity links ≡ true =
    sym (among_any c.args.identity links) ∙ (ap (λ (l : List ℕ). list_any (λ y. y == c.args.identity) l) (sym c.deref-2.ensures.0) ∙ (sym c.contains.ensures.value ∙ c.if-not-contains.false)) in
    rw (f.present, n, c.if-not-contains.false)
