-- Bytes written as a text in quotes: the text's own characters, or pairs of hexadecimal digits.
use Rattle.std.specs.Prelude.{if◌then◌else◌, List, [] as none, ◌∷◌ as ◌then◌, ℕ, ◌+◌, ◌*◌, ◌-◌, nat_lt}
use Prim.Native.Char.{Char, code}
use Prim.Native.String.{String, [], ◌∷◌}

-- the bytes of a text of ASCII characters
unfoldable pub text : String → List ℕ
text [] = none
text (c ∷ s) = code c then text s

-- the value of a digit, 0 to 9 or A to F
unfoldable pub digit : Char → ℕ
digit c = if nat_lt (code c) 0x41 then code c - 0x30 else code c - 0x41 + 10

-- "0C 00 01": a byte for each two digits, with spaces between them
unfoldable pub hex : String → List ℕ
hex [] = none
hex (a ∷ []) = none
hex (a ∷ (b ∷ [])) = (16 * digit a + digit b) then none
hex (a ∷ (b ∷ (c ∷ s))) = (16 * digit a + digit b) then hex s
