-- "A record is a two-byte length of the whole record, a two-byte kind, then fields." The kinds, with the lengths that suit them, and the checks on each record of a sheet or a map, one definition for both.
use Rattle.std.specs.Prelude.{Bool, false, ◌&&◌, ◌||◌, List, [], ◌∷◌, ◌++◌, ℕ, ◌+◌, nat_le, ◌==◌, length}
use Rattle.paper.specs.Bytes.{has, le16, put16}
use Rattle.paper.specs.Limits.{shortest_name, longest_name}
use Rattle.paper.specs.Refusals.{Rule, ◌⇒◌}

pub record Kind : Type 0 where
  pub kind : ℕ
  pub shortest : ℕ
  pub longest : ℕ

abbrev pub of_length : ℕ → ℕ → Kind
of_length k n = record { kind = k; shortest = n; longest = n }

-- the length of a task's record before its name
abbrev pub before_name : ℕ
before_name = 14

-- the kinds of a sheet
abbrev pub head_kind : Kind
head_kind = of_length 1 12

abbrev pub task_kind : Kind
task_kind = record { kind = 2; shortest = before_name + shortest_name; longest = before_name + longest_name }

abbrev pub bar_kind : Kind
bar_kind = of_length 3 8

abbrev pub end_kind : Kind
end_kind = of_length 9 4

-- the kinds of a map; its end is a sheet's
abbrev pub map_head_kind : Kind
map_head_kind = of_length 17 12

abbrev pub place_kind : Kind
place_kind = of_length 18 14

abbrev pub link_kind : Kind
link_kind = of_length 19 6

-- the length and the kind of the record at a place, and the place after it
abbrev pub length_at : List ℕ → ℕ → ℕ
length_at s at = le16 s at

abbrev pub kind_at : List ℕ → ℕ → ℕ
kind_at s at = le16 s (at + 2)

abbrev pub after : List ℕ → ℕ → ℕ
after s at = at + length_at s at

-- a kind is one of those allowed; a length suits a kind
abbrev pub allowed : ℕ → List Kind → Bool
allowed k [] = false
allowed k (a ∷ l) = k == a.kind || allowed k l

abbrev pub suits : ℕ → ℕ → List Kind → Bool
suits k n [] = false
suits k n (a ∷ l) = (k == a.kind && (nat_le a.shortest n && nat_le n a.longest)) || suits k n l

-- "Checks on each record, in this order: four bytes are left (1); the kind is allowed here (3); the length suits the kind (2); the whole record is there (1)". The fields' own rules follow
abbrev pub framing : List Kind → List ℕ → ℕ → List (Rule ℕ)
framing here s at =
    has s at 4 ⇒ 1
    ∷ allowed (kind_at s at) here ⇒ 3
    ∷ suits (kind_at s at) (length_at s at) here ⇒ 2
    ∷ has s at (length_at s at) ⇒ 1
    ∷ []

-- a record written out: its length, its kind, its fields
abbrev pub record_of : Kind → List ℕ → List ℕ
record_of k fields = put16 (4 + length fields) ++ (put16 k.kind ++ fields)

abbrev pub end_record : List ℕ
end_record = record_of end_kind []
