use Rattle.std.proofs.Common.{◌≡◌, sym, ap, ◌+◌, List, [], ◌∷◌, length, length-append, false, true, arith, drop, slice_index, subst}
use Rattle.layout.specs.declared.layout.Place.{Place}
use Rattle.map.proofs.FromBare.{places_length, places_drop, places_more, places_not, places_done}
use Rattle.map.proofs.writing.with_places.Goals as goal
use Rattle.map.specs.Values.{paper_map, paper_place}
use Rattle.map.specs.Writing.{bare_value, walk_of, start_of, put_places}
use Rattle.paper.specs.Maps.{is_place, places_of}
use Rattle.slots.specs.Items.{Items}

pub returns-then-not-is_place-clause-places : goal.returns-then-not-is_place-clause-places
returns-then-not-is_place-clause-places c =
    let b = c.args.bare.now in
    let il = b.identities.now in
    let al = b.addresses.now in
    let zl = b.sizes.now in
    let i = c.loop-i.i in
    let m = c.loop-i.map in
    let p : Place = record { identity = slice_index il i; address = slice_index al i; size = slice_index zl i } in
    let no : is_place (paper_map m) (paper_place p) ≡ false = cc in
    rw (c.at.ensures, c.next_at.ensures)
    (sym (places_not (places_of il al zl) (start_of (bare_value b)) i m c.loop-i.invariant.goes (paper_place p) (places_drop il al zl i c.requires.addresses c.requires.sizes c.loop-i-test.true) no))

pub loop-i-preserved : goal.loop-i-preserved
loop-i-preserved c =
    let b = c.args.bare.now in
    let il = b.identities.now in
    let al = b.addresses.now in
    let zl = b.sizes.now in
    let i = c.loop-i.i in
    let m = c.loop-i.map in
    let p : Place = record { identity = slice_index il i; address = slice_index al i; size = slice_index zl i } in
    let yes : is_place (paper_map m) (paper_place p) ≡ true = cc in
    let more = c.push.ensures.room (omega arith) in
    let same = ap (λ (l : List Place). let v : Items Place = record { items = l } in v) more in
    record {
      goes =
          subst (λ (x : Items Place). put_places (places_of il al zl) (start_of (bare_value b)) ≡ put_places (drop (i + 1) (places_of il al zl)) (walk_of (record m { places = x }))) (sym same)
          (places_more (places_of il al zl) (start_of (bare_value b)) i m c.loop-i.invariant.goes p (places_drop il al zl i c.requires.addresses c.requires.sizes c.loop-i-test.true) yes);
      placed = omega (arith, ap length more, length-append m.places.items (p ∷ []));
      unlinked = c.loop-i.invariant.unlinked;
      alignment = c.loop-i.invariant.alignment;
    }

pub returns-clause-places : goal.returns-clause-places
returns-clause-places c =
    let b = c.args.bare.now in
    let il = b.identities.now in
    let al = b.addresses.now in
    let zl = b.sizes.now in
    sym (places_done (places_of il al zl) (start_of (bare_value b)) c.loop-i.i c.loop-i.map c.loop-i.invariant.goes
    (omega (arith, places_length il al zl c.requires.addresses c.requires.sizes)))
