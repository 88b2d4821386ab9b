-- "Figures to check against": the rows that the rules mark (P), one table under one theorem, computed from the bytes to the answers.
use Rattle.std.specs.Prelude.{◌≡◌, refl, List, [], ◌∷◌, ◌++◌, map, ℕ, length, replicate}
use Prim.Native.String.{String}
use Rattle.paper.specs.Computing.{computed}
use Rattle.paper.specs.Dispatch.{opening, opened}
use Rattle.paper.specs.Maps.{build}
use Rattle.paper.specs.Printed.{printed}
use Rattle.paper.specs.Quoted.{text, hex}
use Rattle.paper.specs.Refusals.{plain}
use Rattle.paper.specs.Runs.{Call, starts, Reply, started, denied, run}
use Rattle.paper.specs.Words.{joined}

-- What is asked: how many bytes there are, what the layout program prints of a sheet, the map image of a sheet in an output of that length, and the replies to calls after an opening with a sheet and an area of zeros.
pub data Question : Type 0 where
  counts : List String → Question
  prints : List String → Question
  images : ℕ → List String → Question
  replies : ℕ → List String → List Call → Question

-- The answers: a number, bytes, replies.
pub data Outcome : Type 0 where
  number : ℕ → Outcome
  bytes : List ℕ → Outcome
  said : List Reply → Outcome

-- a record on each line
abbrev pub records : List String → List ℕ
records lines = joined hex lines

unfoldable pub outcome : Question → Outcome
outcome (counts lines) = number (length (records lines))
outcome (prints lines) = bytes (printed (records lines))
outcome (images n lines) = bytes (build (records lines) (replicate n 0)).output
outcome (replies n lines calls) =
    let area : List ℕ = replicate n 0 in
    said (run (opened (opening (records lines) area)) area calls).replies

pub data Row : Type 0 where
  ◌gives◌ : Question → Outcome → Row

infix 68 ◌gives◌
abbrev pub question : Row → Question
question (q gives o) = q

abbrev pub answer : Row → Outcome
answer (q gives o) = o

-- LABEL, PRINT, WEIGH and TICK at alignment 8, behind a head with some area
abbrev pub scale_tasks : List String
scale_tasks =
    "13 00 02 00 01 00 01 00 02 00 64 00 00 00 4C 41 42 45 4C"
    ∷ "13 00 02 00 02 00 02 00 02 00 3C 00 00 00 50 52 49 4E 54"
    ∷ "13 00 02 00 03 00 05 00 05 00 1E 00 00 00 57 45 49 47 48"
    ∷ "12 00 02 00 04 00 07 00 07 00 00 00 00 00 54 49 43 4B"
    ∷ "04 00 09 00"
    ∷ []

abbrev pub scale : List String
scale = "0C 00 01 00 08 00 00 02 00 00 04 00" ∷ scale_tasks

abbrev pub scale_map : List String
scale_map =
    "0C 00 11 00 08 00 88 00 00 00 04 00"
    ∷ "0E 00 12 00 01 00 00 00 00 00 68 00 00 00"
    ∷ "0E 00 12 00 02 00 00 00 00 00 40 00 00 00"
    ∷ "0E 00 12 00 03 00 68 00 00 00 20 00 00 00"
    ∷ "0E 00 12 00 04 00 88 00 00 00 00 00 00 00"
    ∷ "06 00 13 00 01 00"
    ∷ "06 00 13 00 03 00"
    ∷ "04 00 09 00"
    ∷ []

-- tasks 1, 2 and 3 with priorities and thresholds 1, 2, 3, one byte each, at alignment 1
abbrev pub three : List String
three =
    "0C 00 01 00 01 00 03 00 00 00 03 00"
    ∷ "0F 00 02 00 01 00 01 00 01 00 01 00 00 00 41"
    ∷ "0F 00 02 00 02 00 02 00 02 00 01 00 00 00 42"
    ∷ "0F 00 02 00 03 00 03 00 03 00 01 00 00 00 43"
    ∷ []

-- task 1 with priority 1 and threshold 2, behind a head for two tasks
abbrev pub beside : List String
beside = "0C 00 01 00 08 00 10 00 00 00 02 00" ∷ "0F 00 02 00 01 00 01 00 02 00 01 00 00 00 41" ∷ []

abbrev pub table : List Row
table =
    counts scale gives number 91
    ∷ prints scale gives bytes (text "total 136 of 512 align 8\n1 LABEL 0 104\n2 PRINT 0 64\n3 WEIGH 104 32\n4 TICK 136 0\nchain 1 3\n")
    ∷ counts scale_map gives number 84
    ∷ images 84 scale gives bytes (records scale_map)
    -- "The same with area 136 fits; with area 135: 17, figure 136."
    ∷ prints ("0C 00 01 00 08 00 88 00 00 00 04 00" ∷ scale_tasks)
    gives bytes (text "total 136 of 136 align 8\n1 LABEL 0 104\n2 PRINT 0 64\n3 WEIGH 104 32\n4 TICK 136 0\nchain 1 3\n")
    ∷ prints ("0C 00 01 00 08 00 87 00 00 00 04 00" ∷ scale_tasks) gives bytes (text "refused 17 at 0 ids 0 0 0 figure 136\n")
    -- "Two nested tasks of need 1, alignment 8: total 16."
    ∷ prints
    ("0C 00 01 00 08 00 10 00 00 00 02 00"
    ∷ "0F 00 02 00 01 00 01 00 01 00 01 00 00 00 41"
    ∷ "0F 00 02 00 02 00 02 00 02 00 01 00 00 00 42"
    ∷ "04 00 09 00"
    ∷ [])
    gives bytes (text "total 16 of 16 align 8\n1 A 0 8\n2 B 8 8\nchain 1 2\n")
    -- "One task, need 0, area 0: total 0, chain of that task."
    ∷ prints ("0C 00 01 00 08 00 00 00 00 00 01 00" ∷ "0F 00 02 00 07 00 01 00 01 00 00 00 00 00 41" ∷ "04 00 09 00" ∷ [])
    gives bytes (text "total 0 of 0 align 8\n7 A 0 0\nchain 7\n")
    -- "bar (1, 3) gives 16 with 1, 2, 3; bar (1, 2) is accepted; bar (3, 1) gives 13."
    ∷ prints (three ++ ("08 00 03 00 01 00 03 00" ∷ "04 00 09 00" ∷ [])) gives bytes (text "refused 16 at 0 ids 1 2 3 figure 0\n")
    ∷ prints (three ++ ("08 00 03 00 01 00 02 00" ∷ "04 00 09 00" ∷ [])) gives bytes (text "total 2 of 3 align 1\n1 A 0 1\n2 B 0 1\n3 C 1 1\nchain 1 3\n")
    ∷ prints (three ++ ("08 00 03 00 03 00 01 00" ∷ "04 00 09 00" ∷ [])) gives bytes (text "refused 13 at 57 ids 0 0 0 figure 0\n")
    -- "Priority equal to another's threshold: not allowed over it; one more: allowed."
    ∷ replies 16 (beside ++ ("0F 00 02 00 02 00 02 00 02 00 01 00 00 00 42" ∷ "04 00 09 00" ∷ [])) (starts 1 ∷ starts 2 ∷ [])
    gives said (started 0 0 ∷ denied (plain 32) ∷ [])
    ∷ replies 16 (beside ++ ("0F 00 02 00 02 00 03 00 03 00 01 00 00 00 42" ∷ "04 00 09 00" ∷ [])) (starts 1 ∷ starts 2 ∷ [])
    gives said (started 0 0 ∷ started 8 1 ∷ [])
    -- "Start PRINT while LABEL runs: 32. WEIGH over LABEL: address 104."
    ∷ replies 136 scale (starts 1 ∷ starts 2 ∷ starts 3 ∷ []) gives said (started 0 0 ∷ denied (plain 32) ∷ started 104 1 ∷ [])
    ∷ []

-- Each row gives what it says.
pub figures : map (λ row. outcome (question row)) table ≡ map answer table
unfolding computed outcome
figures = refl
