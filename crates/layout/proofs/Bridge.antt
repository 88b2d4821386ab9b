-- The layout in the code's terms is the paper's: a sheet that was read says the same as the code's value of it, task by task and bit by bit, so that who may preempt whom, sizes, addresses, total and chain are the same, and so is what is handed back.
use Rattle.std.specs.Prelude.{◌≡◌, refl, Bool, true, false, List, [], ◌∷◌, map, ℕ, ◌<◌, nat_le, Option, Some, None, Ok}
use Rattle.std.proofs.Common.{ap, ap₂, sym, ◌∙◌}
use Rattle.frame.specs.Values.{with_value}
use Rattle.laws.proofs.Alike.{Alike, address_within_same, total_of_same, top_of_same, chain_to_same}
use Rattle.laws.proofs.Rows.{bit_row}
use Rattle.laws.specs.Chains.{top_below}
use Rattle.laws.specs.Layouts.{address_of_meets}
use Rattle.laws.specs.Levels.{ThresholdsCover, may_falls}
use Rattle.laws.specs.Lists.{listed_ext, map_listed}
use Rattle.laws.specs.Relations.{transitive_ext, smallest_ext}
use Rattle.layout.specs.Nests.{count_here, task_here, identity_here, level_here, may_here, size_here, nest_here, address_here, place_here, places_here, total_here, chain_here, naming_here, transitive_here, layout_here, rules_here, IsOrderly}
use Rattle.layout.specs.Values.{place_value, layout_value, given_layout, laid_out}
use Rattle.paper.specs.Dispatch.{bit}
use Rattle.paper.specs.Places.{rounded_up, nest_of, size_of, address_within, address_of, top_of, chain_to, map_of, layout_of}
use Rattle.paper.specs.Preempting.{Triple, task_no, count, may, transitive, naming16, smallest, transitive_rule}
use Rattle.paper.specs.Refusals.{Refusal, Rule, ◌⇒◌, first, unless, figured}
use Rattle.paper.specs.Sheets.{read_sheet}
use Rattle.paper.specs.Words.{listed}
use Rattle.sheet.proofs.Bars.{slots_at}
use Rattle.sheet.proofs.Kept.{Kept, kept}
use Rattle.sheet.proofs.Lookup.{tasks_from_length, same_identity, same_priority, same_need}
use Rattle.sheet.specs.Values.{relation_row, sheet_value}
use Rattle.paper.specs.Sheets

-- The code's sheet says what the paper's does. The tasks at every index, past the end too
module _ (sheet : Sheets.Sheet) where
  pub count_same : count_here (sheet_value sheet) ≡ count sheet
  unfolding sheet_value
  count_same = tasks_from_length 12 sheet.tasks

  pub identity_same : (i : ℕ) → identity_here (sheet_value sheet) i ≡ (task_no sheet i).identity
  unfolding sheet_value
  identity_same i = same_identity 12 sheet.tasks i

  pub level_same : (i : ℕ) → level_here (sheet_value sheet) i ≡ (task_no sheet i).priority
  unfolding sheet_value
  level_same i = same_priority 12 sheet.tasks i

  pub need_same : (i : ℕ) → (task_here (sheet_value sheet) i).need ≡ (task_no sheet i).need
  unfolding sheet_value
  need_same i = same_need 12 sheet.tasks i

  pub alignment_same : (sheet_value sheet).alignment ≡ sheet.alignment
  unfolding sheet_value
  alignment_same = refl

  pub area_same : (sheet_value sheet).area ≡ sheet.area
  unfolding sheet_value
  area_same = refl

  pub size_same : (i : ℕ) → size_here (sheet_value sheet) i ≡ size_of sheet i
  unfolding sheet_value size_of
  size_same i = ap (rounded_up sheet.alignment) (same_need 12 sheet.tasks i)

  -- the bits of the relation below the count
  pub may_same : (i j : ℕ) → i < count sheet → j < count sheet → may_here (sheet_value sheet) i j ≡ may sheet i j
  unfolding sheet_value relation_row
  may_same i j h k =
      ap (λ (row : ℕ). bit row j) (slots_at (count sheet) (relation_row sheet) i h) ∙ bit_row (count sheet) (may sheet i) j k

  pub nests_alike : Alike (nest_of sheet) (nest_here (sheet_value sheet))
  nests_alike =
      record {
        counts = sym count_same;
        mays = λ i j h k. sym (may_same i j h k);
        sizes = λ i h. sym (size_same i);
      }

-- What reading keeps, in the code's terms
pub levels_cover : (sheet : Sheets.Sheet) → Kept sheet → ThresholdsCover sheet
levels_cover sheet k i h = (k.tasks i h).covers

pub orderly_kept : (sheet : Sheets.Sheet) → Kept sheet → IsOrderly (sheet_value sheet)
orderly_kept sheet k =
    let n = count_same sheet in
    record {
      aligned = rw (alignment_same sheet) k.aligned;
      some = rw n k.some;
      few = rw n k.few;
      needs = λ i h. rw (need_same sheet i) (k.tasks i (rw n at h)).need;
      levels = λ i h. rw (level_same sheet i) (k.tasks i (rw n at h)).priority;
      falls = λ i j h l e.
          rw (level_same sheet i, level_same sheet j) (may_falls sheet (levels_cover sheet k) i j (sym (may_same sheet i j (rw n at h) (rw n at l)) ∙ e));
    }

pub orderly : (s : List ℕ) (sheet : Sheets.Sheet) → read_sheet s ≡ Ok sheet → IsOrderly (sheet_value sheet)
orderly s sheet e = orderly_kept sheet (kept s sheet e)

-- Transitive or not, and the smallest triple where not. Where it is transitive the triples need not be the same: past the tasks the paper's relation goes by levels of 0, and the code's rows have no bits
pub transitive_same : (sheet : Sheets.Sheet) → transitive (count_here (sheet_value sheet)) (may_here (sheet_value sheet)) ≡ transitive (count sheet) (may sheet)
transitive_same sheet =
    ap (λ (n : ℕ). transitive n (may_here (sheet_value sheet))) (count_same sheet)
    ∙ transitive_ext (count sheet) (may_here (sheet_value sheet)) (may sheet) (may_same sheet)

pub smallest_same : (sheet : Sheets.Sheet) → transitive (count sheet) (may sheet) ≡ false
    → smallest (count_here (sheet_value sheet)) (may_here (sheet_value sheet)) ≡ smallest (count sheet) (may sheet)
smallest_same sheet e =
    ap (λ (n : ℕ). smallest n (may_here (sheet_value sheet))) (count_same sheet)
    ∙ smallest_ext (count sheet) (may_here (sheet_value sheet)) (may sheet) (may_same sheet)
    (transitive_ext (count sheet) (may_here (sheet_value sheet)) (may sheet) (may_same sheet) ∙ e)

pub naming_same : (sheet : Sheets.Sheet) (t : Triple) → naming_here (sheet_value sheet) t ≡ naming16 sheet t
naming_same sheet t = rw (identity_same sheet t.k, identity_same sheet t.j, identity_same sheet t.i) refl

-- so the rule is broken alike, whatever rules follow it
pub rule_same : (sheet : Sheets.Sheet) (l : List (Rule Refusal)) → first (transitive_here (sheet_value sheet) ∷ l) ≡ first (transitive_rule sheet ∷ l)
unfolding transitive_here transitive_rule
rule_same sheet l = rw (transitive_same sheet) (go (transitive (count sheet) (may sheet)) refl)
  where
    go : (t : Bool) → transitive (count sheet) (may sheet) ≡ t
        → first (t ⇒ naming_here (sheet_value sheet) (smallest (count_here (sheet_value sheet)) (may_here (sheet_value sheet))) ∷ l)
        ≡ first (t ⇒ naming16 sheet (smallest (count sheet) (may sheet)) ∷ l)
    go true e = refl
    go false e = ap Some (ap (naming_here (sheet_value sheet)) (smallest_same sheet e) ∙ naming_same sheet (smallest (count sheet) (may sheet)))

-- The addresses of the tasks, and the total
module _ (sheet : Sheets.Sheet) where
  pub address_same : (i : ℕ) → i < count sheet → address_of sheet i ≡ address_here (sheet_value sheet) i
  unfolding address_of address_here
  address_same i h =
      address_within_same (nest_of sheet) (nest_here (sheet_value sheet)) (nests_alike sheet) (task_no sheet i).priority i h
      ∙ ap (λ (d : ℕ). address_within d (nest_here (sheet_value sheet)) i) (sym (level_same sheet i))

  pub total_same : total_here (sheet_value sheet) ≡ (map_of sheet).total
  unfolding total_here map_of
  total_same =
      sym (total_of_same (nest_of sheet) (nest_here (sheet_value sheet)) (nests_alike sheet) (address_of sheet) (address_here (sheet_value sheet)) address_same)

  pub places_same : places_here (sheet_value sheet) ≡ map place_value (map_of sheet).places
  unfolding places_here map_of
  places_same =
      ap (λ (n : ℕ). listed n (place_here (sheet_value sheet))) (count_same sheet)
      ∙ listed_ext (count sheet) (place_here (sheet_value sheet))
      (λ i. record { identity = (task_no sheet i).identity; address = address_of sheet i; size = size_of sheet i })
      (λ i h. place i h)
      ∙ sym (map_listed place_value (count sheet) (λ i. record { identity = (task_no sheet i).identity; address = address_of sheet i; size = size_of sheet i }))
    where
      place : (i : ℕ) → i < count sheet → place_here (sheet_value sheet) i ≡ record { identity = (task_no sheet i).identity; address = address_of sheet i; size = size_of sheet i }
      place i h = rw (identity_same sheet i, ← address_same i h, size_same sheet i) refl

-- The chain: its top, then the tasks below it, whose addresses meet the rule
map_ext : {A B : Type 0} (f g : A → B) (l : List A) → ((x : A) → f x ≡ g x) → map f l ≡ map g l
map_ext f g [] h = refl
map_ext f g (x ∷ l) h = ap₂ (λ (y : _) (m : List _). y ∷ m) (h x) (map_ext f g l h)

pub chain_same : (sheet : Sheets.Sheet) → Kept sheet → chain_here (sheet_value sheet) ≡ (map_of sheet).links
unfolding chain_here map_of
chain_same sheet k =
    let n = nest_of sheet in
    let m = nest_here (sheet_value sheet) in
    let a = address_of sheet in
    let b = address_here (sheet_value sheet) in
    let top = top_of n a in
    let tops : top_of m b ≡ top = sym (top_of_same n m (nests_alike sheet) a b (address_same sheet)) in
    map_ext (identity_here (sheet_value sheet)) (λ i. (task_no sheet i).identity) (chain_to (level_here (sheet_value sheet) (top_of m b)) m b (top_of m b)) (identity_same sheet)
    ∙ ap (map (λ i. (task_no sheet i).identity))
    (ap (λ (t : ℕ). chain_to (level_here (sheet_value sheet) t) m b t) tops
    ∙ ap (λ (d : ℕ). chain_to d m b top) (level_same sheet top)
    ∙ sym (chain_to_same n m (nests_alike sheet) a b (address_same sheet) (address_of_meets sheet (levels_cover sheet k)) (task_no sheet top).priority top (top_below n a k.some)))

-- What is handed back
alignment_of_map : (sheet : Sheets.Sheet) → (map_of sheet).alignment ≡ (sheet_value sheet).alignment
unfolding map_of sheet_value
alignment_of_map sheet = refl

pub layout_same : (sheet : Sheets.Sheet) → Kept sheet → layout_value (map_of sheet) ≡ layout_here (sheet_value sheet)
unfolding layout_value
layout_same sheet k = rw (total_same sheet, places_same sheet, chain_same sheet k, alignment_of_map sheet) refl

value_behind : {A B : Type 0} (f : A → B) (o : Option Refusal) (a : A) → with_value f (unless o (Ok a)) ≡ unless o (Ok (f a))
value_behind f None a = refl
value_behind f (Some r) a = refl

pub laid : (s : List ℕ) (sheet : Sheets.Sheet) → read_sheet s ≡ Ok sheet
    → let c = sheet_value sheet in laid_out s ≡ unless (first (rules_here c)) (Ok (record { sheet = c; layout = layout_here c }))
unfolding laid_out layout_of given_layout
laid s sheet e =
    let room = nat_le (map_of sheet).total sheet.area ⇒ figured 17 (map_of sheet).total ∷ [] in
    rw (e, value_behind (given_layout sheet) (first (transitive_rule sheet ∷ room)) (map_of sheet), ← rule_same sheet room, layout_same sheet (kept s sheet e), total_same sheet, area_same sheet) refl
