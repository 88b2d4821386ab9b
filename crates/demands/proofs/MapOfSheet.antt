-- The map of a good sheet is a map in plain terms, so that the reader accepts it and reads it back as it was laid out.
use Rattle.std.specs.Option.{option_or}
use Rattle.std.proofs.Common.{◌≡◌, refl, sym, ap, subst, ◌∙◌, ℕ, suc, zero, ◌+◌, ◌<◌, ◌≤◌, max, nat_le, add-one, arith, true, false, ◌&&◌, ◌==◌, List, [], ◌∷◌, ◌++◌, map, length, slice_index_or, Option, Some, None, Ok, ⊎_elim, leb-true, eqb-true, eq-eqb, length-append}
use Rattle.std.proofs.Math.ListN.{get_or-append}
use Rattle.std.proofs.Math.Seq.{get_or-append_seam}
use Rattle.std.proofs.lemmas.Bool.{cases_lt}
use Rattle.std.proofs.lemmas.List.{length-map}
use Rattle.std.proofs.lemmas.List.Elements.{All-from_get_or}
use Rattle.demands.proofs.IsMap.{RisingFrom, IsPlace, Chained, NoneTwice, IsMap}
use Rattle.demands.proofs.MapNumbers.{EachByte, le16_low}
use Rattle.demands.proofs.MapValues.{read_back}
use Rattle.laws.specs.Chains.{Follow, Climb, chain_split, under}
use Rattle.laws.specs.Layouts.{chain_of, priority_of, size_of_multiple, size_of_most, sheet_falls, address_of_multiple, chain_of_follows, chain_of_climbs, map_of_length, map_of_place}
use Rattle.laws.specs.Levels.{ThresholdsCover}
use Rattle.laws.specs.Lists.{listed_step}
use Rattle.laws.specs.Nests.{end_within}
use Rattle.laws.specs.Tables.{test, first_append, none_passes, unless_at_given}
use Rattle.laws.specs.Tests.{and_left, and_right, or_left, or_right, or_neither, not_passed, last_or_below}
use Rattle.paper.specs.Bytes.{le16}
use Rattle.paper.specs.Limits.{most_identity, most_area}
use Rattle.paper.specs.Maps.{end_of, no_place, identities, place_of, greatest_end, read_map, write_out}
use Rattle.paper.specs.Places.{Place, Map, nest_of, size_of, total_of, address_of, top_of, map_of, room_rule, layout_of}
use Rattle.paper.specs.Preempting.{task_no, count, transitive_rule}
use Rattle.paper.specs.Records.{task_kind, framing}
use Rattle.paper.specs.Refusals.{Refusal, first, Answer, unless}
use Rattle.paper.specs.Sheets.{Task, Sheet, Walk, no_task, task_at, task_rules, past_head, past_task, read_sheet}
use Rattle.paper.specs.Words.{among, every, greatest, listed, named}
use Rattle.sheet.proofs.Kept.{Kept, kept}
use Rattle.sheet.proofs.Names.{walked}
use Rattle.sheet.proofs.Tasks.{tasks_of, AreRising, framed_task, else_none}

-- The identities of a sheet of bytes fit two bytes
abbrev AreShort : List Task → Type 0
AreShort ts = (i : ℕ) → i < length ts → (slice_index_or ts i no_task).identity ≤ most_identity

short_snoc : (ts : List Task) (t : Task) → AreShort ts → t.identity ≤ most_identity → AreShort (ts ++ (t ∷ []))
short_snoc ts t before this i h =
    let l = length-append ts (t ∷ []) in
    last_or_below i (length ts) (omega arith)
    (λ e. rw (e, get_or-append_seam ts t [] no_task) this)
    (λ b. rw (get_or-append ts (t ∷ []) no_task i b) (before i b))

tasks_short : (n : ℕ) (s : List ℕ) (w v : Walk) → EachByte s → AreShort w.sheet.tasks → tasks_of n s w ≡ Ok v → AreShort v.sheet.tasks
unfolding tasks_of
tasks_short zero s w v b h e = let q : w ≡ v = cc in rw (← q) h
tasks_short (suc n) s w v b h e =
    let t = task_at s w.at in
    let o = first (framing (task_kind ∷ []) s w.at) in
    let q = first (task_rules w.sheet t) in
    let given = unless_at_given w.at (first (framing (task_kind ∷ []) s w.at ++ task_rules w.sheet t)) (tasks_of n s (past_task s w)) v e in
    let free : option_or o q ≡ None = sym (first_append (framing (task_kind ∷ []) s w.at) (task_rules w.sheet t)) ∙ given.free in
    let f = framed_task s w.at (else_none o q free) in
    let long = f.shortest in
    let whole = f.whole in
    let low = le16_low s b (w.at + 4) (omega arith) in
    tasks_short n s (past_task s w) v b (short_snoc w.sheet.tasks t h (omega arith)) given.goes_on

sheet_short : (s : List ℕ) (sheet : Sheet) → EachByte s → read_sheet s ≡ Ok sheet → AreShort sheet.tasks
sheet_short s sheet b e =
    let w = walked s sheet e in
    rw w.tasks (tasks_short (le16 s 10) s (past_head s 0) w.walk b (λ i h. absurd (omega arith)) w.was)

-- Places that are listed by index
module _ (n : ℕ) (f : ℕ → Place) where
  abbrev Rises : Type 0
  Rises = (i j : ℕ) → i < j → j < n → (f i).identity < (f j).identity

rising_listed : (n : ℕ) (f : ℕ → Place) (low : ℕ) → Rises n f → ((i : ℕ) → i < n → low < (f i).identity) → RisingFrom low (listed n f)
unfolding listed
rising_listed zero f low r h = tt
rising_listed (suc n) f low r h =
    (h 0 (omega arith), rising_listed n (λ i. f (suc i)) (f 0).identity (λ i j l m. r (suc i) (suc j) (omega arith) (omega arith)) (λ i l. r 0 (suc i) (omega arith) (omega arith)))

among_listed : (n : ℕ) (f : ℕ → Place) (i : ℕ) → i < n → among (f i).identity (identities (listed n f)) ≡ true
unfolding listed among
among_listed zero f i h = absurd (omega arith)
among_listed (suc n) f zero h = or_left ((f 0).identity == (f 0).identity) (among (f 0).identity (identities (listed n (λ i. f (suc i))))) (eq-eqb (f 0).identity (f 0).identity refl)
among_listed (suc n) f (suc i) h =
    or_right ((f (suc i)).identity == (f 0).identity) (among (f (suc i)).identity (identities (listed n (λ i. f (suc i))))) (among_listed n (λ i. f (suc i)) i (omega arith))

place_listed : (n : ℕ) (f : ℕ → Place) (i : ℕ) → Rises n f → i < n → place_of (listed n f) (f i).identity ≡ f i
unfolding listed named
place_listed zero f i r h = absurd (omega arith)
place_listed (suc n) f zero r h = rw (eq-eqb (f 0).identity (f 0).identity refl) refl
place_listed (suc n) f (suc i) r h =
    let less = r 0 (suc i) (omega arith) h in
    let other : ((f 0).identity == (f (suc i)).identity) ≡ false = not_passed ((f 0).identity == (f (suc i)).identity) (λ q. let e = eqb-true (f 0).identity (f (suc i)).identity q in omega arith) in
    rw other (place_listed n (λ i. f (suc i)) i (λ i j l m. r (suc i) (suc j) (omega arith) (omega arith)) (omega arith))

greatest_snoc : (ps : List Place) (p : Place) → greatest_end (ps ++ (p ∷ [])) ≡ max (greatest_end ps) (end_of p)
unfolding greatest_end
greatest_snoc [] p = omega arith
greatest_snoc (q ∷ ps) p = let r = greatest_snoc ps p in omega arith

greatest_listed : (n : ℕ) (f : ℕ → Place) → greatest_end (listed n f) ≡ greatest n (λ i. end_of (f i))
unfolding greatest_end greatest listed
greatest_listed zero f = refl
greatest_listed (suc n) f =
    let e : listed (suc n) f ≡ listed n f ++ (f n ∷ []) = rw add-one at (listed_step n f) in
    ap greatest_end e ∙ greatest_snoc (listed n f) (f n) ∙ ap (λ (x : ℕ). max x (end_of (f n))) (greatest_listed n f)

-- The chain
module _ (sheet : Sheet) (rising : AreRising sheet.tasks) where
  abbrev place_no : ℕ → Place
  place_no i = record { identity = (task_no sheet i).identity; address = address_of sheet i; size = size_of sheet i }

  abbrev identity_no : ℕ → ℕ
  identity_no i = (task_no sheet i).identity

  abbrev places : List Place
  places = listed (count sheet) place_no

  -- it leads on from place to place
  chained : (from : ℕ) (l : List ℕ) (to : ℕ) → Follow (nest_of sheet) (address_of sheet) from l to → Chained places from (map identity_no l) to
  chained from [] to h = h
  chained from (i ∷ l) to h =
      let p = place_listed (count sheet) place_no i rising h.0 in (
        among_listed (count sheet) place_no i h.0,
        ap (λ (x : Place). x.address) p ∙ h.1,
        subst (λ (x : Place). Chained places (end_of x) (map identity_no l) to) (sym p) (chained (address_of sheet i + size_of sheet i) l to h.2),
      )

  -- no task stands twice: priorities rise along it
  abbrev InSheet : List ℕ → Type 0
  InSheet [] = Unit {0}
  InSheet (i ∷ l) = (i < count sheet) × InSheet l

  in_sheet : (from : ℕ) (l : List ℕ) (to : ℕ) → Follow (nest_of sheet) (address_of sheet) from l to → InSheet l
  in_sheet from [] to h = tt
  in_sheet from (i ∷ l) to h = (h.0, in_sheet (address_of sheet i + size_of sheet i) l to h.2)

  index_same : (i j : ℕ) → i < count sheet → j < count sheet → identity_no i ≡ identity_no j → i ≡ j
  index_same i j p q e =
      ⊎_elim (λ h. let r = rising i j h q in omega arith) (λ h. ⊎_elim (λ k. let r = rising j i k p in omega arith) (λ k. omega arith) (cases_lt j i)) (cases_lt i j)

  module _ (levels : ThresholdsCover sheet) where
    abbrev Higher : ℕ → List ℕ → Type 0
    Higher x [] = Unit {0}
    Higher x (i ∷ l) = priority_of sheet x < priority_of sheet i

    climb_rest : (i : ℕ) (l : List ℕ) → Climb (nest_of sheet) (i ∷ l) → Climb (nest_of sheet) l
    climb_rest i [] h = tt
    climb_rest i (j ∷ l) h = h.1

    higher : (x i : ℕ) (l : List ℕ) → priority_of sheet x ≤ priority_of sheet i → i < count sheet → InSheet l → Climb (nest_of sheet) (i ∷ l) → Higher x l
    higher x i [] p h b c = tt
    higher x i (j ∷ l) p h b c = let f = sheet_falls sheet levels j i b.0 h c.0 in omega arith

    not_again : (x : ℕ) (l : List ℕ) → x < count sheet → InSheet l → Climb (nest_of sheet) l → Higher x l → among (identity_no x) (map identity_no l) ≡ false
    unfolding among
    not_again x [] h b c a = refl
    not_again x (i ∷ l) h b c a =
        or_neither (identity_no x == identity_no i) (among (identity_no x) (map identity_no l))
        (not_passed (identity_no x == identity_no i) (λ q.
        let e : priority_of sheet x ≡ priority_of sheet i = ap (priority_of sheet) (index_same x i h b.0 (eqb-true (identity_no x) (identity_no i) q)) in
        omega arith))
        (not_again x l h b.1 (climb_rest i l c) (higher x i l (omega arith) b.0 b.1 c))

    none_twice : (l : List ℕ) → InSheet l → Climb (nest_of sheet) l → NoneTwice (map identity_no l)
    none_twice [] b c = tt
    none_twice (i ∷ l) b c = (not_again i l b.0 b.1 (climb_rest i l c) (higher i i l (omega arith) b.0 b.1 c), none_twice l b.1 (climb_rest i l c))

-- a chain has its top at least
some_link : (sheet : Sheet) → 0 < length (chain_of sheet)
some_link sheet =
    let a = address_of sheet in
    let n = nest_of sheet in
    let top = top_of n a in
    let e : length (chain_of sheet) ≡ length (under n a (priority_of sheet top) top ++ (top ∷ [])) = ap length (chain_split n a (priority_of sheet top) top) in
    let l = length-append (under n a (priority_of sheet top) top) (top ∷ []) in
    omega arith

-- The map of a sheet whose total fits an area
map_of_is : (sheet : Sheet) → Kept sheet → AreShort sheet.tasks → (map_of sheet).total ≤ most_area → IsMap (map_of sheet)
unfolding map_of total_of
map_of_is sheet k short room =
    let levels : ThresholdsCover sheet = λ i h. (k.tasks i h).covers in
    let long = map_of_length sheet in
    let some = k.some in
    let few = k.few in
    let n = nest_of sheet in
    let a = address_of sheet in
    let follows = chain_of_follows sheet levels k.some in
    let link = some_link sheet in
    let links = length-map (chain_of sheet) (identity_no sheet k.rising) in
    record {
      aligned = k.aligned;
      room = room;
      some = omega arith;
      few = omega arith;
      rising = rising_listed (count sheet) (place_no sheet k.rising) 0 k.rising (λ i l. (k.tasks i l).some);
      places = All-from_get_or (IsPlace sheet.alignment (total_of n a)) (map_of sheet).places no_place (λ i l.
          let h : i < count sheet = omega arith in
          subst (λ (p : Place). IsPlace sheet.alignment (total_of n a) p) (sym (map_of_place sheet i h))
          (record {
            identity = short i h;
            address = address_of_multiple sheet levels k.aligned i h;
            size = size_of_multiple sheet i;
            small = size_of_most sheet i k.aligned (k.tasks i h).need;
            inside = end_within n a i h;
          }));
      greatest = sym (greatest_listed (count sheet) (place_no sheet k.rising));
      linked = omega arith;
      chain = chained sheet k.rising 0 (chain_of sheet) (total_of n a) follows;
      once = none_twice sheet k.rising levels (chain_of sheet) (in_sheet sheet k.rising 0 (chain_of sheet) (total_of n a) follows) (chain_of_climbs sheet levels k.some);
    }

-- an answer behind rules that pass
record Given {A : Type 0} (o : Option Refusal) (next : Answer A) (a : A) : Type 0 where
  free : o ≡ None
  goes_on : next ≡ Ok a

given : {A : Type 0} (o : Option Refusal) (next : Answer A) (a : A) → unless o next ≡ Ok a → Given o next a
given None next a e = record { free = refl; goes_on = e }
given (Some r) next a e = absurd (let z : ◌≡◌ {A = ℕ} 0 1 = cc in omega arith)

-- The theorems
pub sheet_maps : (s : List ℕ) (sheet : Sheet) (m : Map) → EachByte s → read_sheet s ≡ Ok sheet → layout_of sheet ≡ Ok m → IsMap m
unfolding layout_of every
sheet_maps s sheet m b e l =
    let k = kept s sheet e in
    let area = k.area in
    let g = given (first (transitive_rule sheet ∷ room_rule sheet (map_of sheet) ∷ [])) (Ok (map_of sheet)) m l in
    let fits = nat_le (map_of sheet).total sheet.area in
    let tests : (test (transitive_rule sheet) && (fits && true)) ≡ true = none_passes (transitive_rule sheet ∷ room_rule sheet (map_of sheet) ∷ []) g.free in
    let room = leb-true (map_of sheet).total sheet.area (and_left fits true (and_right (test (transitive_rule sheet)) (fits && true) tests)) in
    let is : Ok (map_of sheet) ≡ Ok m = g.goes_on in
    let same : map_of sheet ≡ m = cc in
    subst (λ (x : Map). IsMap x) same (map_of_is sheet k (sheet_short s sheet b e) (omega arith))

pub sheet_map_back : (s : List ℕ) (sheet : Sheet) (m : Map) → EachByte s → read_sheet s ≡ Ok sheet → layout_of sheet ≡ Ok m → read_map (write_out m) ≡ Ok m
sheet_map_back s sheet m b e l = read_back m (sheet_maps s sheet m b e l)
