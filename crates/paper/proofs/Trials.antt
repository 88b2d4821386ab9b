-- The definitions tried on small cases that the figures of the rules leave open: the order of the checks, names, lent lists, bare values, and a nested run beside the same jobs run whole. All of it is computed.
use Rattle.std.proofs.Common.{◌≡◌, refl, List, [], ◌∷◌, ◌++◌, map, ℕ, replicate, set, Ok, Err}
use Prim.Native.String.{String}
use Rattle.paper.specs.Bytes.{Part, nowhere}
use Rattle.paper.specs.Computing.{computed}
use Rattle.paper.specs.Dispatch.{opening, opened}
use Rattle.paper.specs.Figures.{records, scale, scale_tasks, scale_map, three}
use Rattle.paper.specs.Maps.{Bare, write_map, read_map, write_out}
use Rattle.paper.specs.Places.{layout_lists, Map}
use Rattle.paper.specs.Printed.{printed}
use Rattle.paper.specs.Quoted.{text, hex}
use Rattle.paper.specs.Refusals.{Refusal, Answer, plain, placed, figured}
use Rattle.paper.specs.Runs.{Call, starts, writes, finishes, looks, started, wrote, finished, shown, denied, run}
use Rattle.paper.specs.Sheets.{Sheet, read_sheet, write_sheet, name_of}

-- the refusal of an answer, where it is one
verdict : {A : Type 0} → Answer A → List Refusal
verdict (Err r) = r ∷ []
verdict (Ok a) = []

-- a sheet of one task and some records after it
one : List String → List String
one rest = "0C 00 01 00 08 00 08 00 00 00 01 00" ∷ "0F 00 02 00 05 00 01 00 01 00 01 00 00 00 41" ∷ rest

-- Records at fault, and the rule that each breaks first.
broken : List (List String)
broken =
    []
    ∷ ("0C 00 01" ∷ [])
    ∷ ("0D 00 02 00" ∷ [])
    ∷ ("0D 00 01 00" ∷ [])
    ∷ ("0C 00 01 00 03 00 01 00 00 01 00" ∷ [])
    ∷ ("0C 00 01 00 03 00 01 00 00 01 00 00" ∷ [])
    ∷ ("0C 00 01 00 40 00 01 00 00 01 00 00" ∷ [])
    ∷ ("0C 00 01 00 40 00 00 00 00 01 41 00" ∷ [])
    ∷ ("0C 00 01 00 40 00 00 00 00 01 40 00" ∷ "04 00 09 00" ∷ [])
    ∷ one []
    ∷ one ("0F 00 02 00 06 00 01 00 01 00 01 00 00 00 41" ∷ [])
    ∷ one ("08 00 03 00 05 00 06 00" ∷ [])
    ∷ one ("08 00 03 00 05 00 05 00" ∷ [])
    ∷ one ("04 00 09 00" ∷ "00" ∷ [])
    ∷ (three ++ ("08 00 03 00 02 00 03 00" ∷ "08 00 03 00 02 00 03 00" ∷ []))
    ∷ (three ++ ("08 00 03 00 02 00 03 00" ∷ "08 00 03 00 01 00 03 00" ∷ []))
    ∷ (three ++ ("08 00 03 00 01 00 03 00" ∷ "08 00 03 00 02 00 03 00" ∷ "04 00 09 00" ∷ []))
    ∷ []

first_broken : map (λ lines. verdict (read_sheet (records lines))) broken
    ≡ ((placed 1 0 ∷ [])
    ∷ (placed 1 0 ∷ [])
    ∷ (placed 3 0 ∷ [])
    ∷ (placed 2 0 ∷ [])
    ∷ (placed 1 0 ∷ [])
    ∷ (placed 4 0 ∷ [])
    ∷ (placed 5 0 ∷ [])
    ∷ (placed 6 0 ∷ [])
    ∷ (placed 3 12 ∷ [])
    ∷ (placed 1 27 ∷ [])
    ∷ (placed 3 27 ∷ [])
    ∷ (placed 12 27 ∷ [])
    ∷ (placed 13 27 ∷ [])
    ∷ (placed 15 31 ∷ [])
    ∷ (placed 14 65 ∷ [])
    ∷ (placed 14 65 ∷ [])
    ∷ []
    ∷ [])
unfolding computed verdict one broken
first_broken = refl

-- A task's fields at fault: zero identity, priority 256, threshold below the priority, need 1,048,577, a space in the name.
faults : List String
faults =
    "0F 00 02 00 00 00 00 01 00 00 01 00 10 00 20"
    ∷ "0F 00 02 00 01 00 00 01 00 00 01 00 10 00 20"
    ∷ "0F 00 02 00 01 00 FF 00 FE 00 01 00 10 00 20"
    ∷ "0F 00 02 00 01 00 FF 00 FF 00 01 00 10 00 20"
    ∷ "0F 00 02 00 01 00 FF 00 FF 00 00 00 10 00 20"
    ∷ "0F 00 02 00 01 00 FF 00 FF 00 00 00 10 00 7E"
    ∷ []

first_fault : map (λ line. verdict (read_sheet (hex "0C 00 01 00 01 00 00 00 00 01 01 00" ++ hex line))) faults
    ≡ ((placed 7 12 ∷ []) ∷ (placed 8 12 ∷ []) ∷ (placed 9 12 ∷ []) ∷ (placed 10 12 ∷ []) ∷ (placed 11 12 ∷ []) ∷ (placed 1 27 ∷ []) ∷ [])
unfolding computed verdict faults
first_fault = refl

-- Reading gives back what was written out: the sheets of the figures are the writing-out of what is read of them, and so is the map.
rewritten : Answer Sheet → List ℕ
rewritten (Err r) = []
rewritten (Ok sheet) = write_sheet sheet

same_sheets : map (λ lines. rewritten (read_sheet (records lines))) (scale ∷ (three ++ ("08 00 03 00 01 00 02 00" ∷ "04 00 09 00" ∷ [])) ∷ [])
    ≡ map records (scale ∷ (three ++ ("08 00 03 00 01 00 02 00" ∷ "04 00 09 00" ∷ [])) ∷ [])
unfolding computed rewritten
same_sheets = refl

rewritten_map : Answer Map → List ℕ
rewritten_map (Err r) = []
rewritten_map (Ok m) = write_out m

same_map : rewritten_map (read_map (records scale_map)) ≡ records scale_map
unfolding computed rewritten_map
same_map = refl

-- Names: WEIGH's, one of a task that isn't listed, and one of a refused sheet; a sheet refused under 17 still gives names.
weigh : Part
weigh = record { from = 64; to = 69 }

names : name_of (records scale) 3 ∷ name_of (records scale) 5 ∷ name_of (records scale ++ (0 ∷ [])) 3 ∷ name_of (records ("0C 00 01 00 08 00 00 00 00 00 04 00" ∷ scale_tasks)) 3 ∷ []
    ≡ weigh ∷ nowhere ∷ nowhere ∷ weigh ∷ []
unfolding computed weigh
names = refl

-- Lent lists: filled up to the count, too short, and a refusal, which changes neither.
lists : layout_lists (records scale) (replicate 5 7) (replicate 6 9) ∷ layout_lists (records scale) (replicate 5 7) (replicate 3 9) ∷ layout_lists [] (7 ∷ []) (9 ∷ []) ∷ []
    ≡ record { answer = Ok 4; addresses = 0 ∷ 0 ∷ 104 ∷ 136 ∷ 7 ∷ []; sizes = 104 ∷ 64 ∷ 32 ∷ 0 ∷ 9 ∷ 9 ∷ [] }
    ∷ record { answer = Err (figured 18 4); addresses = replicate 5 7; sizes = replicate 3 9 }
    ∷ record { answer = Err (placed 1 0); addresses = 7 ∷ []; sizes = 9 ∷ [] }
    ∷ []
unfolding computed
lists = refl

-- Bare values: the map of the first figure; lists that differ; no links; a link that does not follow; an end past the total; a chain that stops short; an output too short; a link twice, to an empty place.
bare : List ℕ → List ℕ → List ℕ → Bare
bare identities sizes links =
    record { alignment = 8; total = 136; identities = identities; addresses = 0 ∷ 0 ∷ 104 ∷ 136 ∷ []; sizes = sizes; links = links }

four : List ℕ
four = 1 ∷ 2 ∷ 3 ∷ 4 ∷ []

their_sizes : List ℕ
their_sizes = 104 ∷ 64 ∷ 32 ∷ 0 ∷ []

written : write_map (bare four their_sizes (1 ∷ 3 ∷ [])) (replicate 85 7)
    ∷ write_map (bare (1 ∷ 2 ∷ 3 ∷ []) their_sizes (1 ∷ 3 ∷ [])) (7 ∷ [])
    ∷ write_map (bare four their_sizes []) (7 ∷ [])
    ∷ write_map (bare four their_sizes (1 ∷ 1 ∷ [])) (7 ∷ [])
    ∷ write_map (bare four (104 ∷ 64 ∷ 40 ∷ 0 ∷ []) (1 ∷ 3 ∷ [])) (7 ∷ [])
    ∷ write_map (bare four (104 ∷ 64 ∷ 24 ∷ 0 ∷ []) (1 ∷ 3 ∷ [])) (7 ∷ [])
    ∷ write_map (bare four their_sizes (1 ∷ 3 ∷ [])) (replicate 83 7)
    ∷ write_map (record { alignment = 1; total = 0; identities = 1 ∷ []; addresses = 0 ∷ []; sizes = 0 ∷ []; links = 1 ∷ 1 ∷ [] }) []
    ∷ []
    ≡ record { answer = Ok 84; output = records scale_map ++ (7 ∷ []) }
    ∷ record { answer = Err (placed 6 0); output = 7 ∷ [] }
    ∷ record { answer = Err (placed 3 68); output = 7 ∷ [] }
    ∷ record { answer = Err (placed 21 74); output = 7 ∷ [] }
    ∷ record { answer = Err (placed 19 40); output = 7 ∷ [] }
    ∷ record { answer = Err (placed 21 80); output = 7 ∷ [] }
    ∷ record { answer = Err (figured 18 84); output = replicate 83 7 }
    ∷ record { answer = Err (placed 21 32); output = [] }
    ∷ []
unfolding computed bare four their_sizes
written = refl

-- Both sets of Table II of the EMPRESS paper. In the second, the chain goes through T8, which has no bytes, since 8 is the smallest identity with its end.
fly_by_wire : List String
fly_by_wire =
    "0C 00 01 00 04 00 00 02 00 00 05 00"
    ∷ "10 00 02 00 01 00 05 00 05 00 30 00 00 00 54 31"
    ∷ "10 00 02 00 02 00 04 00 05 00 18 00 00 00 54 32"
    ∷ "10 00 02 00 03 00 03 00 03 00 30 00 00 00 54 33"
    ∷ "10 00 02 00 04 00 02 00 02 00 10 00 00 00 54 34"
    ∷ "10 00 02 00 05 00 01 00 02 00 30 00 00 00 54 35"
    ∷ "04 00 09 00"
    ∷ []

autopilot : List String
autopilot =
    "0C 00 01 00 04 00 00 02 00 00 08 00"
    ∷ "10 00 02 00 06 00 08 00 08 00 78 00 00 00 54 36"
    ∷ "10 00 02 00 07 00 07 00 07 00 48 00 00 00 54 37"
    ∷ "10 00 02 00 08 00 06 00 06 00 00 00 00 00 54 38"
    ∷ "10 00 02 00 09 00 04 00 04 00 80 00 00 00 54 39"
    ∷ "11 00 02 00 0A 00 03 00 04 00 BC 00 00 00 54 31 30"
    ∷ "11 00 02 00 0B 00 02 00 04 00 38 00 00 00 54 31 31"
    ∷ "11 00 02 00 0C 00 01 00 04 00 48 00 00 00 54 31 32"
    ∷ "11 00 02 00 0D 00 05 00 05 00 2C 00 00 00 54 31 33"
    ∷ "04 00 09 00"
    ∷ []

table_two : printed (records fly_by_wire) ∷ printed (records autopilot) ∷ []
    ≡ text "total 144 of 512 align 4\n1 T1 96 48\n2 T2 96 24\n3 T3 48 48\n4 T4 0 16\n5 T5 0 48\nchain 5 3 1\n"
    ∷ text "total 424 of 512 align 4\n6 T6 304 120\n7 T7 232 72\n8 T8 232 0\n9 T9 0 128\n10 T10 0 188\n11 T11 0 56\n12 T12 0 72\n13 T13 188 44\nchain 10 13 8 7 6\n"
    ∷ []
unfolding computed fly_by_wire autopilot
table_two = refl

-- A nested run and the same jobs run whole: same addresses, numbers and finish contents, same area. WEIGH writes into its place while LABEL sleeps, and LABEL goes on afterwards.
area : List ℕ
area = replicate 140 7

afterwards : List Call → List ℕ
afterwards calls = (run (opened (opening (records scale) area)) area calls).area

nested : List Call
nested = starts 1 ∷ writes 0 0 1 ∷ starts 3 ∷ writes 1 31 2 ∷ writes 0 1 3 ∷ finishes 1 ∷ writes 0 103 4 ∷ looks 0 ∷ finishes 0 ∷ []

whole : List Call
whole = starts 1 ∷ writes 0 0 1 ∷ writes 0 103 4 ∷ finishes 0 ∷ starts 3 ∷ writes 1 31 2 ∷ finishes 1 ∷ []

left_behind : List ℕ
left_behind = set (replicate 103 0) 0 1 ++ (4 ∷ (replicate 31 0 ++ (2 ∷ replicate 4 7)))

left_by_nested : afterwards nested ≡ left_behind
unfolding computed area afterwards nested left_behind
left_by_nested = refl

left_by_whole : afterwards whole ≡ left_behind
unfolding computed area afterwards whole left_behind
left_by_whole = refl

heard : (run (opened (opening (records scale) area)) area nested).replies
    ≡ started 0 0
    ∷ wrote
    ∷ started 104 1
    ∷ wrote
    ∷ denied (plain 34)
    ∷ finished 104 32
    ∷ wrote
    ∷ shown (record { from = 0; to = 104 })
    ∷ finished 0 104
    ∷ []
unfolding computed area nested
heard = refl

-- A refused opening leaves zeros, and every step refuses them under 36, though the area is too short as well.
after_refusal : (run (opened (opening [] [])) [] (starts 1 ∷ writes 0 0 0 ∷ finishes 0 ∷ looks 0 ∷ [])).replies
    ≡ denied (plain 36) ∷ denied (plain 36) ∷ denied (plain 36) ∷ shown nowhere ∷ []
unfolding computed
after_refusal = refl
