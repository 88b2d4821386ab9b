-- What the layout program prints, as bytes: the lines of a layout, or the line of a refusal.
use Rattle.std.specs.Prelude.{if◌then◌else◌, List, [], ◌∷◌, ◌++◌, ℕ, zero, suc, ◌+◌, ◌/◌, ◌%◌, nat_lt, Ok, Err}
use Rattle.paper.specs.Places.{Place, Map, layout_of}
use Rattle.paper.specs.Quoted.{text}
use Rattle.paper.specs.Refusals.{Refusal, Answer}
use Rattle.paper.specs.Sheets.{Task, Sheet, read_sheet}

-- a number in decimal digits, none of them a leading zero; a number has fewer digits than its value plus one
unfoldable pub digits : ℕ → ℕ → List ℕ
digits zero n = []
digits (suc most) n =
    let front = digits most (n / 10) in
    (if nat_lt n 10 then [] else front) ++ ((0x30 + n % 10) ∷ [])

abbrev pub decimal : ℕ → List ℕ
decimal n = digits (suc n) n

-- the words of a line, a space between two
abbrev pub spaced : List (List ℕ) → List ℕ
spaced [] = []
spaced (w ∷ []) = w
spaced (w ∷ (v ∷ ws)) = w ++ (0x20 ∷ spaced (v ∷ ws))

abbrev pub line : List (List ℕ) → List ℕ
line ws = spaced ws ++ (0x0A ∷ [])

-- `total 136 of 512 align 8`
abbrev pub total_line : Sheet → Map → List ℕ
total_line sheet m =
    line (text "total" ∷ decimal m.total ∷ text "of" ∷ decimal sheet.area ∷ text "align" ∷ decimal sheet.alignment ∷ [])

-- "Task lines: identity, name, address, size."
abbrev pub task_line : Task → Place → List ℕ
task_line t p = line (decimal t.identity ∷ t.name ∷ decimal p.address ∷ decimal p.size ∷ [])

unfoldable pub task_lines : List Task → List Place → List ℕ
task_lines [] ps = []
task_lines (t ∷ ts) [] = []
task_lines (t ∷ ts) (p ∷ ps) = task_line t p ++ task_lines ts ps

-- `chain 1 3`
unfoldable pub decimals : List ℕ → List (List ℕ)
decimals [] = []
decimals (n ∷ l) = decimal n ∷ decimals l

abbrev pub chain_line : Map → List ℕ
chain_line m = line (text "chain" ∷ decimals m.links)

unfoldable pub layout_lines : Sheet → Map → List ℕ
layout_lines sheet m = total_line sheet m ++ (task_lines sheet.tasks m.places ++ chain_line m)

-- "A refusal prints one line, as `refused 17 at 0 ids 0 0 0 figure 136`."
unfoldable pub refusal_line : Refusal → List ℕ
refusal_line r =
    line
    (text "refused"
    ∷ decimal r.number
    ∷ text "at"
    ∷ decimal r.place
    ∷ text "ids"
    ∷ decimal r.id1
    ∷ decimal r.id2
    ∷ decimal r.id3
    ∷ text "figure"
    ∷ decimal r.figure
    ∷ [])

-- what is printed of a sheet that was read, and of a list of bytes
abbrev pub of_layout : Sheet → Answer Map → List ℕ
of_layout sheet (Err r) = refusal_line r
of_layout sheet (Ok m) = layout_lines sheet m

abbrev pub of_sheet : Answer Sheet → List ℕ
of_sheet (Err r) = refusal_line r
of_sheet (Ok sheet) = of_layout sheet (layout_of sheet)

unfoldable pub printed : List ℕ → List ℕ
printed s = of_sheet (read_sheet s)
