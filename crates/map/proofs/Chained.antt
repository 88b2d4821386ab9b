-- No place is linked twice, so there are no more links than places.
use Rattle.std.proofs.Common.{◌≡◌, refl, sym, ◌∙◌, subst, ℕ, ◌<◌, ◌≤◌, arith, true, false, ◌&&◌, ◌==◌, Bool, not, List, [], ◌∷◌, length, length-append, Ok}
use Rattle.std.proofs.lemmas.List.{length-map}
use Rattle.laws.specs.Doubles.{apart, apart_snoc, no_longer}
use Rattle.laws.specs.Lists.{every_snoc}
use Rattle.laws.specs.Tables.{none_passes, unless_at_given}
use Rattle.laws.specs.Tests.{and_both, and_left, and_right}
use Rattle.map.specs.Steps.{IsChained, link_step}
use Rattle.paper.specs.Limits.{most_tasks}
use Rattle.paper.specs.Maps.{MapWalk, identities, place_of, linked_end, is_link, link_rules, link_at, plus_link, past_link}
use Rattle.paper.specs.Places.{Map}
use Rattle.paper.specs.Refusals.{first}
use Rattle.paper.specs.Words.{among, every}

not_true : (b : Bool) → not b ≡ true → b ≡ false
not_true true e = sym e
not_true false e = refl

pub unlinked : (m : Map) → length m.places ≤ most_tasks → m.links ≡ [] → IsChained m
unfolding apart every
unlinked m few e = record { apart = rw e refl; within = rw e refl; few = few }

-- one link more
pub chained_next : (m : Map) (id : ℕ) → IsChained m → is_link m id ≡ true → IsChained (plus_link m id)
unfolding every
chained_next m id c e =
    let names = among id (identities m.places) in
    let rest = not (among id m.links) && (place_of m.places id).address == linked_end m in
    let new = not_true (among id m.links) (and_left (not (among id m.links)) ((place_of m.places id).address == linked_end m) (and_right names rest e)) in
    record {
      apart = apart_snoc m.links id c.apart new;
      within = every_snoc (λ x. among x (identities m.places)) m.links id ∙ and_both (every (λ x. among x (identities m.places)) m.links) names c.within (and_left names rest e);
      few = c.few;
    }

pub few_links : (m : Map) → IsChained m → length m.links ≤ most_tasks
few_links m c =
    let l = no_longer m.links (identities m.places) c.apart c.within in
    let n : length (identities m.places) ≡ length m.places = length-map m.places (λ p. p.identity) in
    let f = c.few in
    omega arith

-- so there is room for a link
pub room_for : (m : Map) (id : ℕ) → IsChained m → is_link m id ≡ true → length m.links < most_tasks
room_for m id c e =
    let f = few_links (plus_link m id) (chained_next m id c e) in
    let n = length-append m.links (id ∷ []) in
    omega arith

pub chained_step : (s : List ℕ) (w v : MapWalk) → IsChained w.read → link_step s w ≡ Ok v → IsChained v.read
unfolding link_step every
chained_step s w v c e =
    let given = unless_at_given w.at (first (link_rules w.read (link_at s w.at))) (Ok (past_link s w)) v e in
    let passes = and_left (is_link w.read (link_at s w.at)) true (none_passes (link_rules w.read (link_at s w.at)) given.free) in
    let q : past_link s w ≡ v = cc (given.goes_on) in
    subst (λ (x : MapWalk). IsChained x.read) q (chained_next w.read (link_at s w.at) c passes)
