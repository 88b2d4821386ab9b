-- Bytes and little-endian numbers, read and written; a part of a list; lent lists. A byte is a number below 256, a list of bytes a `List ℕ`.
use Rattle.std.specs.Prelude.{Bool, List, [], ◌∷◌, ◌++◌, ℕ, ◌+◌, ◌*◌, ◌-◌, ◌/◌, ◌%◌, nat_le, slice_index, take, drop, length}

-- n bytes are left from a place on
abbrev pub has : List ℕ → ℕ → ℕ → Bool
has s at n = nat_le (at + n) (length s)

-- "All numbers little-endian": the numbers of two and of four bytes at a place; bytes past the end count as 0
abbrev pub le16 : List ℕ → ℕ → ℕ
le16 s at = slice_index s at + 256 * slice_index s (at + 1)

abbrev pub le32 : List ℕ → ℕ → ℕ
le32 s at = le16 s at + 65536 * le16 s (at + 2)

-- the two and the four bytes of a number
abbrev pub put16 : ℕ → List ℕ
put16 n = n % 256 ∷ n / 256 % 256 ∷ []

abbrev pub put32 : ℕ → List ℕ
put32 n = put16 n ++ put16 (n / 65536)

-- a part, by its bounds: from the first byte up to the byte after the last
pub record Part : Type 0 where
  pub from : ℕ
  pub to : ℕ

-- the empty part at the start
abbrev pub nowhere : Part
nowhere = record { from = 0; to = 0 }

-- the bytes of a part
abbrev pub part : List ℕ → Part → List ℕ
part s p = take (p.to - p.from) (drop p.from s)

-- a lent list after `new` is written to its front; what is past it is kept
abbrev pub over : List ℕ → List ℕ → List ℕ
over new old = new ++ drop (length new) old

-- the same at a place; what stands elsewhere is kept
abbrev pub put : List ℕ → ℕ → List ℕ → List ℕ
put old at new = take at old ++ (new ++ drop (at + length new) old)
