use Rattle.std.proofs.Common.{arith, ap, ◌∙◌, ◌∷◌, [], ℕ, append_assoc, length, ◌+◌, ◌/◌, ◌%◌}
use Rattle.arrayvec.specs.ArrayVec.{ArrayVec}
use Rattle.paper.specs.Printed.{decimal}
use Rattle.text.proofs.Digits.{decimal_few, decimal_more, length_few, length_more}
use Rattle.text.proofs.decimal.+push_decimal.Goals as goal
use Rattle.text.proofs.decimal.+push_decimal.Goals.{then-n-ge10, else-n-ge10}

pub push_decimal-requires : goal.push_decimal-requires
push_decimal-requires t c = let l = length_more c.args.n c.if-n-ge10.true in (omega arith, omega arith)

pub push-requires : goal.push-requires
push-requires t c =
    elim c.if-n-ge10.branch [
      | then-n-ge10 w ↦ let l = length_more c.args.n w.if-n-ge10.true in rw w.text-is (omega arith, omega arith)
      | else-n-ge10 w ↦ let l = length_few c.args.n w.if-n-ge10.false in rw w.text-is (omega arith, omega arith)
    ]

pub returns-clause-items : goal.returns-clause-items
returns-clause-items t c =
    let old = c.args.text.now.items in
    let digit = (48 + c.args.n % 10) ∷ [] in
    c.push.ensures.items
    ∙ elim c.if-n-ge10.branch [
      | then-n-ge10 w ↦ rw (w.text-is, w.push_decimal.ensures.items, decimal_more c.args.n w.if-n-ge10.true) (append_assoc old (decimal (c.args.n / 10)) digit)
      | else-n-ge10 w ↦ rw (w.text-is, decimal_few c.args.n w.if-n-ge10.false)
    ]

pub returns-clause-len : goal.returns-clause-len
returns-clause-len t c =
    elim c.if-n-ge10.branch [
      | then-n-ge10 w ↦
          let l = length_more c.args.n w.if-n-ge10.true in
          let e = ap (λ (v : ArrayVec ℕ). length v.items) w.text-is in
          omega arith
      | else-n-ge10 w ↦
          let l = length_few c.args.n w.if-n-ge10.false in
          let e = ap (λ (v : ArrayVec ℕ). length v.items) w.text-is in
          omega arith
    ]
