-- The first 34,709 bytes of an input decide what is read of it as a sheet: records of a sheet are short, tasks are at most 64, and bars rise strictly among their pairs. So a program with a buffer of that size, or more, gives every input its right answer.
use Rattle.std.specs.Prelude.{◌≡◌, Bool, true, false, if◌then◌else◌, ◌&&◌, ◌||◌, nat_le, nat_lt, take, drop, refl, List, [], ◌∷◌, ◌++◌, map, ℕ, zero, suc, ◌+◌, ◌*◌, ◌-◌, ◌≤◌, ◌<◌, ◌==◌, length, Option, Some, None, Ok, Err}
use Rattle.std.proofs.Common.{ap, sym, subst, ap₂, ◌∙◌, leb-true, leb-false, le-leb, ltb-true, ltb-false, length-drop, take-append-drop, length-take-le, take_all, get_or-take, mul-le-mul, arith, length-append}
use Rattle.std.proofs.lemmas.Bool.{false≢true, lt-leb}
use Rattle.std.proofs.lemmas.Option.{none-some}
use Rattle.std.proofs.Math.ListN.{length-map}
use Rattle.std.proofs.lemmas.List.{drop-append-le, take-append-le}
use Rattle.laws.specs.Lists.{last_snoc}
use Rattle.std.specs.Option.{option_or}
use Rattle.laws.specs.Tables.{first_append, none_passes}
use Rattle.laws.specs.Tests.{and_left, and_right}
use Rattle.prefix.specs.Bars.{left, left_most, left_falls}
use Rattle.paper.specs.Words.{last, every}
use Rattle.paper.specs.Bytes.{has, le16, le32, part}
use Rattle.paper.specs.Limits.{most_area, is_alignment}
use Rattle.paper.specs.Maps.{write_into, build}
use Rattle.paper.specs.Places.{layout_of, layout}
use Rattle.paper.specs.Printed.{printed, of_sheet}
use Rattle.paper.specs.Records.{Kind, length_at, kind_at, after, allowed, suits, framing, head_kind, task_kind, bar_kind, end_kind}
use Rattle.paper.specs.Refusals.{Rule, ◌⇒◌, first, Answer, unless_at, and_then}
use Rattle.paper.specs.Sheets.{Task, Bar, Sheet, Walk, task_at, bar_at, task_rules, bar_rules, head_rules, past_head, past_task, past_bar, read_bars, read_tasks, read_records, nothing_after, read_sheet, no_bar, is_task, task_of, exceeds, rises}

-- kinds of at most m bytes
abbrev short : ℕ → List Kind → Bool
short m [] = true
short m (k ∷ l) = nat_le k.longest m && short m l

suits_short : (m k l : ℕ) (here : List Kind) → short m here ≡ true → suits k l here ≡ true → l ≤ m
suits_short m k l [] h e = absurd (false≢true e)
suits_short m k l (a ∷ here) h e =
    go (k == a.kind) (nat_le a.shortest l) (nat_le l a.longest) refl (suits_short m k l here (and_right (nat_le a.longest m) (short m here) h)) e
  where
    go : (x y z : Bool) → nat_le l a.longest ≡ z → (suits k l here ≡ true → l ≤ m) → ((x && (y && z)) || suits k l here) ≡ true → l ≤ m
    go true true true q rest e =
        let u = leb-true l a.longest q in
        let v = leb-true a.longest m (and_left (nat_le a.longest m) (short m here) h) in
        omega arith
    go true true false q rest e = rest e
    go true false z q rest e = rest e
    go false y z q rest e = rest e

framed_short : (m : ℕ) (here : List Kind) (s : List ℕ) (at : ℕ) → short m here ≡ true → first (framing here s at) ≡ None → length_at s at ≤ m
framed_short m here s at h e = go (has s at 4) (allowed (kind_at s at) here) (suits (kind_at s at) (length_at s at) here) (has s at (length_at s at)) refl e
  where
    go : (x y z v : Bool) → suits (kind_at s at) (length_at s at) here ≡ z → first {A = ℕ} (x ⇒ 1 ∷ y ⇒ 3 ∷ z ⇒ 2 ∷ v ⇒ 1 ∷ []) ≡ None → length_at s at ≤ m
    go true true true v q e = suits_short m (kind_at s at) (length_at s at) here h q
    go true true false v q e = absurd (none-some _ (sym e))
    go true false z v q e = absurd (none-some _ (sym e))
    go false y z v q e = absurd (none-some _ (sym e))

abbrev EndsBefore : ℕ → Answer Walk → Type 0
EndsBefore n (Err r) = Unit {0}
EndsBefore n (Ok w) = w.at < n

else_none : (o p : Option ℕ) → option_or o p ≡ None → o ≡ None
else_none None p e = refl
else_none (Some k) p e = e

else_rest : (o p : Option ℕ) → option_or o p ≡ None → p ≡ None
else_rest None p e = e
else_rest (Some k) p e = absurd (none-some k (sym e))

count_kept : (s : List ℕ) → first (head_rules (le16 s (0 + 4)) (le32 s (0 + 6)) (le16 s (0 + 10))) ≡ None → le16 s (0 + 10) ≤ 64
count_kept s e = go (is_alignment (le16 s (0 + 4))) (nat_le (le32 s (0 + 6)) most_area) (nat_le 1 (le16 s (0 + 10))) (nat_le (le16 s (0 + 10)) 64) refl e
  where
    go : (x y z v : Bool) → nat_le (le16 s (0 + 10)) 64 ≡ v → first {A = ℕ} (x ⇒ 4 ∷ y ⇒ 5 ∷ (z && v) ⇒ 6 ∷ []) ≡ None → le16 s (0 + 10) ≤ 64
    go true true true true q e = leb-true (le16 s (0 + 10)) 64 q
    go true true true false q e = absurd (none-some 6 (sym e))
    go true true false v q e = absurd (none-some 6 (sym e))
    go true false z v q e = absurd (none-some 5 (sym e))
    go false y z v q e = absurd (none-some 4 (sym e))

-- Two answers are the same, and where a walk is given it ends before n
record Agree (n : ℕ) (x y : Answer Walk) : Type 0 where
  same : x ≡ y
  ends : EndsBefore n y

agree_unless : (n at : ℕ) (o p : Option ℕ) (x y : Answer Walk) → o ≡ p → (p ≡ None → Agree n x y) → Agree n (unless_at at o x) (unless_at at p y)
agree_unless n at o p x y e h = rw e (go p h)
  where
    go : (p : Option ℕ) → (p ≡ None → Agree n x y) → Agree n (unless_at at p x) (unless_at at p y)
    go None h = h refl
    go (Some k) h = record { same = refl; ends = tt }

agree_cond : (n : ℕ) (b c : Bool) (x y u v : Answer Walk) → b ≡ c → Agree n x u → Agree n y v → Agree n (if b then x else y) (if c then u else v)
agree_cond n b c x y u v e p q = rw e (go c)
  where
    go : (c : Bool) → Agree n (if c then x else y) (if c then u else v)
    go true = p
    go false = q

-- a bar that keeps its rules
record Kept (sheet : Sheet) (b : Bar) : Type 0 where
  lower : is_task sheet.tasks b.lower ≡ true
  upper : is_task sheet.tasks b.upper ≡ true
  rising : rises (last no_bar sheet.bars) b ≡ true

bar_kept : (sheet : Sheet) (b : Bar) → first (bar_rules sheet b) ≡ None → Kept sheet b
unfolding every
bar_kept sheet b e =
    let l = is_task sheet.tasks b.lower in
    let u = is_task sheet.tasks b.upper in
    let x = exceeds (task_of sheet.tasks b.upper) (task_of sheet.tasks b.lower) in
    let r = rises (last no_bar sheet.bars) b in
    let tests : ((l && u) && (x && (r && true))) ≡ true = none_passes (bar_rules sheet b) e in
    let both = and_left (l && u) (x && (r && true)) tests in
    record { lower = and_left l u both; upper = and_right l u both; rising = and_left r true (and_right x (r && true) (and_right (l && u) (x && (r && true)) tests)) }

-- An input s longer than n bytes, beside its first n.
module _ (n : ℕ) (s : List ℕ) (long : n < length s) where
  abbrev pub front : List ℕ
  front = take n s

  front_length : length front ≡ n
  front_length = length-take-le n s (omega arith)

  -- numbers that lie in the front
  le16_same : (at : ℕ) → at + 2 ≤ n → le16 front at ≡ le16 s at
  le16_same at h = ap₂ (λ (x y : ℕ). x + 256 * y) (get_or-take n s at 0 (omega arith)) (get_or-take n s (at + 1) 0 (omega arith))

  le32_same : (at : ℕ) → at + 4 ≤ n → le32 front at ≡ le32 s at
  le32_same at h = ap₂ (λ (x y : ℕ). x + 65536 * y) (le16_same at (omega arith)) (le16_same (at + 2) (omega arith))

  has_front : (at k : ℕ) → at + k ≤ n → has front at k ≡ true
  has_front at k h = le-leb (at + k) (length front) (rw front_length h)

  has_whole : (at k : ℕ) → at + k ≤ n → has s at k ≡ true
  has_whole at k h = le-leb (at + k) (length s) (omega arith)

  -- a part that ends in the front
  part_same : (from to : ℕ) → to ≤ n → part front (record { from = from; to = to }) ≡ part s (record { from = from; to = to })
  part_same from to high = go (nat_le from to) refl
    where
      go : (b : Bool) → nat_le from to ≡ b → take (to - from) (drop from front) ≡ take (to - from) (drop from s)
      go true e =
          let low = leb-true from to e in
          let l = front_length in
          let cut : take (to - from) (drop from (front ++ drop n s)) ≡ take (to - from) (drop from front) =
          (rw (drop-append-le from front (drop n s) (omega arith)) (take-append-le (to - from) (drop from front) (drop n s) (simp length-drop (omega arith)))) in
          sym (rw (take-append-drop n s) at cut)
      go false e =
          let low = leb-false from to e in
          let empty : to - from ≡ 0 = omega arith in
          rw empty refl

  -- A record that lies in the front is framed alike, and says the same
  framing_same : (m : ℕ) (here : List Kind) (at : ℕ) → 4 ≤ m → short m here ≡ true → at + m ≤ n → first (framing here front at) ≡ first (framing here s at)
  framing_same m here at four h room =
      rw (has_front at 4 (omega arith), has_whole at 4 (omega arith), le16_same (at + 2) (omega arith), le16_same at (omega arith))
      (go (allowed (kind_at s at) here) (suits (kind_at s at) (length_at s at) here) refl)
    where
      go : (x y : Bool) → suits (kind_at s at) (length_at s at) here ≡ y
          → first {A = ℕ} (x ⇒ 3 ∷ y ⇒ 2 ∷ has front at (length_at s at) ⇒ 1 ∷ []) ≡ first {A = ℕ} (x ⇒ 3 ∷ y ⇒ 2 ∷ has s at (length_at s at) ⇒ 1 ∷ [])
      go false y q = refl
      go true false q = refl
      go true true q =
          let l = suits_short m (kind_at s at) (length_at s at) here h q in
          rw (has_front at (length_at s at) (omega arith), has_whole at (length_at s at) (omega arith))

  bar_at_same : (at : ℕ) → at + 8 ≤ n → bar_at front at ≡ bar_at s at
  bar_at_same at h = rw (le16_same (at + 4) (omega arith), le16_same (at + 6) (omega arith))

  past_bar_same : (w : Walk) → w.at + 8 ≤ n → past_bar front w ≡ past_bar s w
  past_bar_same w h = rw (le16_same w.at (omega arith), le16_same (w.at + 4) (omega arith), le16_same (w.at + 6) (omega arith))

  -- Bars: m pairs are left at most
  abbrev pairs_left : Walk → ℕ
  pairs_left w = left (map (λ t. t.identity) w.sheet.tasks) (last no_bar w.sheet.bars)

  bars_same : (m f g : ℕ) (w : Walk) → pairs_left w ≤ m → m < f → m < g → w.at + 8 * m + 8 < n → Agree n (read_bars f front w) (read_bars g s w)
  unfolding read_bars
  bars_same m zero g w h p q room = absurd (omega arith)
  bars_same m (suc f) zero w h p q room = absurd (omega arith)
  bars_same m (suc f) (suc g) w h p q room =
      agree_unless n w.at (first (framing (bar_kind ∷ end_kind ∷ []) front w.at)) (first (framing (bar_kind ∷ end_kind ∷ []) s w.at)) _ _
      (framing_same 8 (bar_kind ∷ end_kind ∷ []) w.at (omega arith) refl (omega arith)) (λ framed.
      let length8 = framed_short 8 (bar_kind ∷ end_kind ∷ []) s w.at refl framed in
      agree_cond n (kind_at front w.at == 9) (kind_at s w.at == 9) _ _ _ _ (ap (λ (k : ℕ). (k == 9)) (le16_same (w.at + 2) (omega arith)))
      (record { same = ap (λ (l : ℕ). Ok (record { at = w.at + l; sheet = w.sheet })) (le16_same w.at (omega arith)); ends = omega arith })
      (agree_unless n w.at (first (bar_rules w.sheet (bar_at front w.at))) (first (bar_rules w.sheet (bar_at s w.at))) _ _
      (ap (λ (b : Bar). first (bar_rules w.sheet b)) (bar_at_same w.at (omega arith))) (λ kept.
      let k = bar_kept w.sheet (bar_at s w.at) kept in
      let fewer = left_falls (map (λ t. t.identity) w.sheet.tasks) (last no_bar w.sheet.bars) (bar_at s w.at) k.lower k.upper k.rising in
      let now : pairs_left (past_bar s w) ≡ left (map (λ t. t.identity) w.sheet.tasks) (bar_at s w.at) =
      ap (left (map (λ t. t.identity) w.sheet.tasks)) (last_snoc no_bar w.sheet.bars (bar_at s w.at)) in
      subst (λ (v : Walk). Agree n (read_bars f front v) (read_bars g s (past_bar s w))) (sym (past_bar_same w (omega arith)))
      (bars_same (m - 1) f g (past_bar s w) (omega arith) (omega arith) (omega arith) (omega arith)))))

  -- Tasks: c more, with those so far at most 64
  task_at_same : (at : ℕ) → at + 14 ≤ n → after s at ≤ n → task_at front at ≡ task_at s at
  task_at_same at low high =
      rw (le16_same at (omega arith), le16_same (at + 4) (omega arith), le16_same (at + 6) (omega arith), le16_same (at + 8) (omega arith), le32_same (at + 10) (omega arith), part_same (at + 14) (after s at) high)

  past_task_same : (w : Walk) → w.at + 14 ≤ n → after s w.at ≤ n → past_task front w ≡ past_task s w
  past_task_same w low high =
      ap₂ (λ (l : ℕ) (t : Task). record { at = w.at + l; sheet = record { alignment = w.sheet.alignment; area = w.sheet.area; tasks = w.sheet.tasks ++ (t ∷ []); bars = w.sheet.bars } })
      (le16_same w.at (omega arith)) (task_at_same w.at low high)

  abbrev task_tests : List ℕ → Walk → Option ℕ
  task_tests t w = first (framing (task_kind ∷ []) t w.at ++ task_rules w.sheet (task_at t w.at))

  task_tests_same : (w : Walk) → w.at + 30 ≤ n → task_tests front w ≡ task_tests s w
  task_tests_same w room =
      first_append (framing (task_kind ∷ []) front w.at) (task_rules w.sheet (task_at front w.at))
      ∙ rw (framing_same 30 (task_kind ∷ []) w.at (omega arith) refl room) (go (first (framing (task_kind ∷ []) s w.at)) refl)
      ∙ sym (first_append (framing (task_kind ∷ []) s w.at) (task_rules w.sheet (task_at s w.at)))
    where
      go : (o : Option ℕ) → first (framing (task_kind ∷ []) s w.at) ≡ o
          → option_or o (first (task_rules w.sheet (task_at front w.at))) ≡ option_or o (first (task_rules w.sheet (task_at s w.at)))
      go None e =
          let l = framed_short 30 (task_kind ∷ []) s w.at refl e in
          ap (λ (t : Task). first (task_rules w.sheet t)) (task_at_same w.at (omega arith) (omega arith))
      go (Some k) e = refl

  tasks_same : (c : ℕ) (w : Walk) → length w.sheet.tasks + c ≤ 64 → w.at + 30 * c + 8 * 4096 + 8 < n → Agree n (read_tasks c front w) (read_tasks c s w)
  unfolding read_tasks
  tasks_same zero w few room =
      let l = front_length in
      let ids = map (λ t. t.identity) w.sheet.tasks in
      let many : length ids ≡ length w.sheet.tasks = length-map w.sheet.tasks (λ t. t.identity) in
      let square : length ids * length ids ≤ 64 * 64 = mul-le-mul {n₂ = 64} {m₂ = 64} (omega arith) (omega arith) in
      let most = left_most ids (last no_bar w.sheet.bars) in
      bars_same 4096 (length front) (length s) w (omega arith) (omega arith) (omega arith) (omega arith)
  tasks_same (suc c) w few room =
      agree_unless n w.at (task_tests front w) (task_tests s w) _ _ (task_tests_same w (omega arith)) (λ kept.
      let framed : first (framing (task_kind ∷ []) s w.at) ≡ None = else_none _ _ (sym (first_append (framing (task_kind ∷ []) s w.at) (task_rules w.sheet (task_at s w.at))) ∙ kept) in
      let l = framed_short 30 (task_kind ∷ []) s w.at refl framed in
      let more = length-append w.sheet.tasks (task_at s w.at ∷ []) in
      subst (λ (v : Walk). Agree n (read_tasks c front v) (read_tasks c s (past_task s w))) (sym (past_task_same w (omega arith) (omega arith)))
      (tasks_same c (past_task s w) (omega arith) (omega arith)))

  -- The head, and then all records
  abbrev field_rules : List ℕ → List (Rule ℕ)
  field_rules t = head_rules (le16 t (0 + 4)) (le32 t (0 + 6)) (le16 t (0 + 10))

  abbrev head_tests : List ℕ → Option ℕ
  head_tests t = first (framing (head_kind ∷ []) t 0 ++ field_rules t)

  head_tests_same : 12 ≤ n → head_tests front ≡ head_tests s
  head_tests_same room =
      first_append (framing (head_kind ∷ []) front 0) (field_rules front)
      ∙ ap₂ option_or (framing_same 12 (head_kind ∷ []) 0 (omega arith) refl (omega arith)) fields
      ∙ sym (first_append (framing (head_kind ∷ []) s 0) (field_rules s))
    where
      fields : first (field_rules front) ≡ first (field_rules s)
      fields =
          ap (λ (t : ℕ). first (head_rules t (le32 front (0 + 6)) (le16 front (0 + 10)))) (le16_same (0 + 4) (omega arith))
          ∙ ap₂ (λ (x y : ℕ). first (head_rules (le16 s (0 + 4)) x y)) (le32_same (0 + 6) (omega arith)) (le16_same (0 + 10) (omega arith))

  past_head_same : 12 ≤ n → past_head front 0 ≡ past_head s 0
  past_head_same room =
      ap (λ (l : ℕ). record { at = 0 + l; sheet = record { alignment = le16 front (0 + 4); area = le32 front (0 + 6); tasks = []; bars = [] } }) (le16_same 0 (omega arith))
      ∙ ap₂ (λ (x y : ℕ). record { at = 0 + le16 s 0; sheet = record { alignment = x; area = y; tasks = []; bars = [] } }) (le16_same (0 + 4) (omega arith)) (le32_same (0 + 6) (omega arith))

  records_same : 12 + 30 * 64 + 8 * 4096 + 8 < n → Agree n (read_records front 0) (read_records s 0)
  unfolding read_records
  records_same room =
      agree_unless n 0 (head_tests front) (head_tests s) _ _ (head_tests_same (omega arith)) (λ kept.
      let split = sym (first_append (framing (head_kind ∷ []) s 0) (field_rules s)) ∙ kept in
      let l = framed_short 12 (head_kind ∷ []) s 0 refl (else_none (first (framing (head_kind ∷ []) s 0)) (first (field_rules s)) split) in
      let c = count_kept s (else_rest (first (framing (head_kind ∷ []) s 0)) (first (field_rules s)) split) in
      subst (λ (v : Walk). Agree n (read_tasks (le16 front (0 + 10)) front v) (read_tasks (le16 s (0 + 10)) s (past_head s 0))) (sym (past_head_same (omega arith)))
      (subst (λ (k : ℕ). Agree n (read_tasks k front (past_head s 0)) (read_tasks (le16 s (0 + 10)) s (past_head s 0))) (sym (le16_same (0 + 10) (omega arith)))
      (tasks_same (le16 s (0 + 10)) (past_head s 0) (omega arith) (omega arith))))

-- The first 34,709 bytes decide: what is read of a longer input is what is read of that many of its bytes, or more.
abbrev pub enough : ℕ
enough = 12 + 30 * 64 + 8 * (64 * 64) + 9

pub prefix_decides : (s : List ℕ) (n : ℕ) → enough ≤ n → read_sheet (take n s) ≡ read_sheet s
unfolding read_sheet
prefix_decides s n room = go (nat_lt n (length s)) refl
  where
    ending : (long : n < length s) (x y : Answer Walk) → Agree n x y
        → and_then x (λ w. unless_at w.at (first (nothing_after (take n s) w.at)) (Ok w.sheet))
        ≡ and_then y (λ w. unless_at w.at (first (nothing_after s w.at)) (Ok w.sheet))
    ending long x y a = rw a.same (last_step y a.ends)
      where
        last_step : (y : Answer Walk) → EndsBefore n y
            → and_then y (λ w. unless_at w.at (first (nothing_after (take n s) w.at)) (Ok w.sheet))
            ≡ and_then y (λ w. unless_at w.at (first (nothing_after s w.at)) (Ok w.sheet))
        last_step (Err r) e = refl
        last_step (Ok w) e =
            let l = front_length n s long in
            rw (lt-leb (length (take n s)) w.at (omega arith), lt-leb (length s) w.at (omega arith))

    go : (b : Bool) → nat_lt n (length s) ≡ b
        → and_then (read_records (take n s) 0) (λ w. unless_at w.at (first (nothing_after (take n s) w.at)) (Ok w.sheet))
        ≡ and_then (read_records s 0) (λ w. unless_at w.at (first (nothing_after s w.at)) (Ok w.sheet))
    go true e = let long = ltb-true n (length s) e in ending long (read_records (take n s) 0) (read_records s 0) (records_same n s long (omega arith))
    go false e = let fits = ltb-false n (length s) e in rw (take_all n s fits)

-- so what is printed of it, too
pub prefix_prints : (s : List ℕ) (n : ℕ) → enough ≤ n → printed (take n s) ≡ printed s
unfolding printed
prefix_prints s n room = ap of_sheet (prefix_decides s n room)

-- and the map that is built of it
pub prefix_builds : (s output : List ℕ) (n : ℕ) → enough ≤ n → build (take n s) output ≡ build s output
unfolding build layout
prefix_builds s output n room = ap (λ (x : Answer Sheet). write_into (and_then x layout_of) output) (prefix_decides s n room)
