-- A sheet that reading handed back is orderly, and its layout is the paper's.
use Rattle.std.specs.Prelude.{◌≡◌, refl, List, ℕ, Ok, Err}
use Rattle.std.proofs.Common.{sym, subst}
use Rattle.laws.specs.Tables.{not_refused}
use Rattle.layout.proofs.Bridge.{orderly, laid}
use Rattle.layout.specs.Nests.{layout_here, rules_here, IsOrderly}
use Rattle.layout.specs.Values.{laid_out}
use Rattle.paper.specs.Refusals.{Refusal, Answer, first, unless}
use Rattle.paper.specs.Sheets.{read_sheet}
use Rattle.sheet.specs.Values.{sheet_value, sheet_read}
use Rattle.sheet.specs.declared.sheet.Sheet.{Sheet}
use Rattle.paper.specs.Sheets

-- the sheet that stands behind one that was read
pub record ReadAs (s : List ℕ) (code : Sheet) : Type 0 where
  pub sheet : Sheets.Sheet
  pub is : read_sheet s ≡ Ok sheet
  pub same : code ≡ sheet_value sheet

ok_same : {A : Type 0} (a b : A) → ◌≡◌ {A = Answer A} (Ok a) (Ok b) → a ≡ b
ok_same a b e = cc

pub read_as : (s : List ℕ) (code : Sheet) → Ok code ≡ sheet_read (read_sheet s) → ReadAs s code
unfolding sheet_read
read_as s code e = go (read_sheet s) refl e
  where
    go : (x : Answer Sheets.Sheet) → read_sheet s ≡ x → Ok code ≡ sheet_read x → ReadAs s code
    go (Err r) q e = absurd (not_refused (Ok code) r code e refl)
    go (Ok sheet) q e = record { sheet = sheet; is = q; same = ok_same code (sheet_value sheet) e }

pub orderly_read : (s : List ℕ) (code : Sheet) → Ok code ≡ sheet_read (read_sheet s) → IsOrderly code
orderly_read s code e = let r = read_as s code e in subst IsOrderly (sym r.same) (orderly s r.sheet r.is)

pub laid_read : (s : List ℕ) (code : Sheet) → Ok code ≡ sheet_read (read_sheet s)
    → laid_out s ≡ unless (first (rules_here code)) (Ok (record { sheet = code; layout = layout_here code }))
laid_read s code e =
    let r = read_as s code e in
    subst (λ (c : Sheet). laid_out s ≡ unless (first (rules_here c)) (Ok (record { sheet = c; layout = layout_here c }))) (sym r.same) (laid s r.sheet r.is)

pub laid_refused : (s : List ℕ) (r : Refusal) → Err r ≡ sheet_read (read_sheet s) → laid_out s ≡ Err r
unfolding sheet_read laid_out
laid_refused s r e = go (read_sheet s) refl e
  where
    go : (x : Answer Sheets.Sheet) → read_sheet s ≡ x → Err r ≡ sheet_read x → laid_out s ≡ Err r
    go (Err q) p e = let z : q ≡ r = cc in rw (p, z) refl
    go (Ok sheet) p e = absurd (not_refused (Ok (sheet_value sheet)) r (sheet_value sheet) (sym e) refl)
