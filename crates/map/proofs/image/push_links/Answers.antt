use Rattle.std.proofs.Common.{refl, arith, sym, append-nil, append_assoc, take, slice_index}
use Rattle.map.proofs.Records.{links_more}
use Rattle.map.proofs.image.push_links.Goals as goal
use Rattle.paper.specs.Maps.{link_record}
use Rattle.paper.specs.Words.{joined}

pub loop-link-init : goal.loop-link-init
unfolding joined
loop-link-init c = record { items = sym (append-nil c.args.image.now.items); len = omega arith }

pub loop-link-preserved : goal.loop-link-preserved
loop-link-preserved c =
    let l = c.args.links.now in
    let i = c.loop-link.link-index in
    let link = slice_index l i in
    record {
      items =
          rw (c.push_link.ensures.items, c.loop-link.invariant.items, links_more l i link c.loop-link-test.true refl)
          (append_assoc c.args.image.now.items (joined link_record (take i l)) (link_record link));
      len = omega arith;
    }
