-- "Numbers to hold to": each limit, once.
use Rattle.std.specs.Prelude.{Bool, ◌&&◌, List, [], ◌∷◌, ℕ, nat_le}
use Rattle.paper.specs.Words.{among}

-- "Tasks 1 to 64."
abbrev pub most_tasks : ℕ
most_tasks = 64

-- "Identity 1 to 65,535; 0 means "no task" in answers only."
abbrev pub most_identity : ℕ
most_identity = 65535

-- "Priority and threshold 0 to 255"
abbrev pub most_level : ℕ
most_level = 255

-- "Need 0 to 1,048,576 bytes."
abbrev pub most_need : ℕ
most_need = 1048576

-- the greatest size of a place: that of the greatest need, since each alignment divides it
abbrev pub most_size : ℕ
most_size = most_need

-- "Alignment 1, 2, 4, 8, 16, 32 or 64."
abbrev pub alignments : List ℕ
alignments = 1 ∷ 2 ∷ 4 ∷ 8 ∷ 16 ∷ 32 ∷ 64 ∷ []

-- "Area 0 to 16,777,216."
abbrev pub most_area : ℕ
most_area = 16777216

-- "Name 1 to 16 bytes, each 0x21 to 0x7E"
abbrev pub shortest_name : ℕ
shortest_name = 1

abbrev pub longest_name : ℕ
longest_name = 16

abbrev pub in_name : ℕ → Bool
in_name b = nat_le 0x21 b && nat_le b 0x7E

-- a listed alignment; a number of tasks
abbrev pub is_alignment : ℕ → Bool
is_alignment a = among a alignments

abbrev pub is_count : ℕ → Bool
is_count n = nat_le 1 n && nat_le n most_tasks
