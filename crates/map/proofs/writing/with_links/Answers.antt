use Rattle.std.proofs.Common.{◌≡◌, refl, sym, ap, ℕ, ◌+◌, List, false, true, slice_index, subst}
use Rattle.map.proofs.FromBare.{Linked, linked_none, link_room, link_more, link_not}
use Rattle.map.proofs.writing.with_links.Goals as goal
use Rattle.map.specs.Values.{paper_map}
use Rattle.paper.specs.Maps.{is_link}
use Rattle.slots.specs.Items.{Items}

pub loop-link-init : goal.loop-link-init
loop-link-init c = linked_none c.args.links.now c.args.map c.requires.few c.requires.unlinked

pub returns-then-not-is_link : goal.returns-then-not-is_link
returns-then-not-is_link c =
    let i = c.loop-link.link-index in
    let id = slice_index c.args.links.now i in
    let no : is_link (paper_map c.loop-link.map) id ≡ false = cc in
    rw (c.at.ensures, c.next_at.ensures) (sym (link_not c.args.links.now c.args.map i c.loop-link.map c.loop-link.invariant id c.loop-link-test.true refl no))

pub loop-link-preserved : goal.loop-link-preserved
loop-link-preserved c =
    let i = c.loop-link.link-index in
    let id = slice_index c.args.links.now i in
    let m = c.loop-link.map in
    let yes : is_link (paper_map m) id ≡ true = cc in
    let same = ap (λ (l : List ℕ). let v : Items ℕ = record { items = l } in v) (c.push.ensures.room (link_room c.args.links.now c.args.map i m c.loop-link.invariant id yes)) in
    subst (λ (x : Items ℕ). Linked c.args.links.now c.args.map (i + 1) (record m { chain = x })) (sym same)
    (link_more c.args.links.now c.args.map i m c.loop-link.invariant id c.loop-link-test.true refl yes)
