use Rattle.std.proofs.Common.{◌≡◌, sym, ◌∙◌, ap, subst, ℕ, ◌+◌, ◌-◌, ◌≤◌, length, take, drop, List, ◌++◌, append_assoc, Option, Some, None, rules}
use Rattle.std.proofs.Math.Seq.{take-append-add}
use Rattle.std.proofs.lemmas.List.{length-take-le, take-append-le}
use Rattle.std.specs.Io.KnownBytes.{Consumes}
use Rattle.input.proofs.fill.Goals as goal
use borrow.Rule.Slice.PartMut.{put_mid}

-- one read after another
consumed : (a b c : Option (List ℕ)) (x y : List ℕ) → Consumes a b x → Consumes b c y → Consumes a c (x ++ y)
consumed None b c x y p q = tt
consumed (Some xs) None c x y p q = absurd p
consumed (Some xs) (Some ys) None x y p q = absurd q
consumed (Some xs) (Some ys) (Some zs) x y p q = p ∙ (ap (λ (l : List ℕ). x ++ l) q ∙ sym (append_assoc x y zs))

-- what is filled once more was read behind what was filled
filled_more : (f m k : ℕ) (xs ys : List ℕ) → f ≤ length xs → m ≤ length ys → take (f + m) (put_mid f k xs ys) ≡ take f xs ++ take m ys
filled_more f m k xs ys h j =
    subst (λ (n : ℕ). take (n + m) (put_mid f k xs ys) ≡ take f xs ++ take m ys) (length-take-le f xs h)
    (take-append-add (take f xs) (ys ++ drop k (drop f xs)) m ∙ ap (λ (l : List ℕ). take f xs ++ l) (take-append-le m ys (drop k (drop f xs)) j))

pub loop-filled-preserved : goal.loop-filled-preserved
loop-filled-preserved g c =
    let f = c.loop-filled.filled in
    let m = c.in_ok-more.more in
    let xs = c.loop-filled.buffer in
    let ys = c.read.new.buf in
    let same = filled_more f m (length xs - f) xs ys c.loop-filled.invariant.within c.in_ok-more.ensures.bound.0 in
    record {
      within = search rules;
      bytes =
          subst (λ (l : List ℕ). Consumes (g.R.Read.remaining c.args.input.now) (g.R.Read.remaining c.read.new.self) l) (sym same)
          (consumed (g.R.Read.remaining c.args.input.now) (g.R.Read.remaining c.loop-filled.input) (g.R.Read.remaining c.read.new.self) (take f xs) (take m ys) c.loop-filled.invariant.bytes c.in_ok-more.ensures.bytes.0);
    }
