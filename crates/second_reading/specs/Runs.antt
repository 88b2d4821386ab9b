-- Runs: a sheet, an area, calls with their replies, and the area afterwards.
use Rattle.std.specs.Prelude.{◌≡◌, refl, List, [], ◌∷◌, ◌++◌, map, ℕ, Ok, Err}
use Prim.Native.String.{String}
use Rattle.paper.specs.Bytes.{part}
use Rattle.paper.specs.Computing.{computed}
use Rattle.paper.specs.Dispatch.{State, opening, opened}
use Rattle.paper.specs.Printed.{decimal, line, refusal_line}
use Rattle.paper.specs.Quoted.{text, hex}
use Rattle.paper.specs.Refusals.{Answer}
use Rattle.paper.specs.Runs.{Call, starts, writes, finishes, looks, Reply, started, wrote, finished, shown, denied, turn}

-- what is heard: a line, or the bytes looked at
data Heard : Type 0 where
  said : String → Heard
  seen : String → Heard

record Case : Type 0 where
  sheet : String
  area : String
  calls : List Call
  heard : List Heard
  left : String

bytes_of : Heard → List ℕ
bytes_of (said s) = text s
bytes_of (seen s) = hex s

-- a reply as bytes, by the area that it speaks of
reply : List ℕ → Reply → List ℕ
reply area (started address number) = line (decimal address ∷ decimal number ∷ [])
reply area wrote = line (text "ok" ∷ [])
reply area (finished address size) = line (decimal address ∷ decimal size ∷ [])
reply area (shown p) = part area p
reply area (denied r) = refusal_line r

-- the replies one after the other, and at last the area
play : State → List ℕ → List Call → List (List ℕ)
play d area [] = area ∷ []
play d area (c ∷ cs) = let t = turn d area c in reply area t.reply ∷ play t.state t.area cs

opens : Answer State → List (List ℕ)
opens (Err r) = refusal_line r ∷ []
opens (Ok d) = []

ours : Case → List (List ℕ)
ours c =
    let area = hex c.area in
    let answer = opening (hex c.sheet) area in
    opens answer ++ play (opened answer) area c.calls

theirs : Case → List (List ℕ)
theirs c = map bytes_of c.heard ++ (hex c.left ∷ [])

cases : List Case
cases =
    record {
      sheet = "0C 00 01 00 01 00 65 00 00 00 01 00 14 00 02 00 07 00 08 00 08 00 01 00 00 00 4E 7E 6D 25 76 28 04 00 09 00";
      area = "0E 4F";
      calls = starts 7 ∷ starts 7 ∷ looks 0 ∷ finishes 0 ∷ starts 7 ∷ writes 1 1 52 ∷ writes 1 1 43 ∷ starts 7 ∷ writes 1 1 96 ∷ writes 1 0 82 ∷ writes 1 1 67 ∷ starts 7 ∷ looks 1 ∷ finishes 1 ∷ starts 7 ∷ writes 2 1 107 ∷ starts 7 ∷ starts 7 ∷ looks 2 ∷ finishes 2 ∷ looks 0 ∷ finishes 0 ∷ starts 7 ∷ writes 3 1 201 ∷ writes 3 0 151 ∷ writes 3 0 120 ∷ writes 3 0 155 ∷ writes 3 1 99 ∷ looks 0 ∷ finishes 0 ∷ starts 7 ∷ starts 7 ∷ writes 3 1 24 ∷ looks 3 ∷ finishes 3 ∷ starts 7 ∷ writes 65535 1 183 ∷ writes 4 0 89 ∷ looks 4 ∷ finishes 4 ∷ looks 2 ∷ finishes 2 ∷ looks 65535 ∷ finishes 65535 ∷ writes 0 3 224 ∷ writes 0 4 83 ∷ writes 0 4 40 ∷ starts 7 ∷ looks 65535 ∷ finishes 65535 ∷ [];
      heard = said "0 0\n" ∷ said "refused 32 at 0 ids 0 0 0 figure 0\n" ∷ seen "00" ∷ said "0 1\n" ∷ said "0 1\n" ∷ said "refused 35 at 0 ids 0 0 0 figure 0\n" ∷ said "refused 35 at 0 ids 0 0 0 figure 0\n" ∷ said "refused 32 at 0 ids 0 0 0 figure 0\n" ∷ said "refused 35 at 0 ids 0 0 0 figure 0\n" ∷ said "ok\n" ∷ said "refused 35 at 0 ids 0 0 0 figure 0\n" ∷ said "refused 32 at 0 ids 0 0 0 figure 0\n" ∷ seen "52" ∷ said "0 1\n" ∷ said "0 2\n" ∷ said "refused 35 at 0 ids 0 0 0 figure 0\n" ∷ said "refused 32 at 0 ids 0 0 0 figure 0\n" ∷ said "refused 32 at 0 ids 0 0 0 figure 0\n" ∷ seen "00" ∷ said "0 1\n" ∷ seen "" ∷ said "refused 33 at 0 ids 0 0 0 figure 0\n" ∷ said "0 3\n" ∷ said "refused 35 at 0 ids 0 0 0 figure 0\n" ∷ said "ok\n" ∷ said "ok\n" ∷ said "ok\n" ∷ said "refused 35 at 0 ids 0 0 0 figure 0\n" ∷ seen "" ∷ said "refused 34 at 0 ids 0 0 0 figure 0\n" ∷ said "refused 32 at 0 ids 0 0 0 figure 0\n" ∷ said "refused 32 at 0 ids 0 0 0 figure 0\n" ∷ said "refused 35 at 0 ids 0 0 0 figure 0\n" ∷ seen "9B" ∷ said "0 1\n" ∷ said "0 4\n" ∷ said "refused 34 at 0 ids 0 0 0 figure 0\n" ∷ said "ok\n" ∷ seen "59" ∷ said "0 1\n" ∷ seen "" ∷ said "refused 33 at 0 ids 0 0 0 figure 0\n" ∷ seen "" ∷ said "refused 33 at 0 ids 0 0 0 figure 0\n" ∷ said "refused 33 at 0 ids 0 0 0 figure 0\n" ∷ said "refused 33 at 0 ids 0 0 0 figure 0\n" ∷ said "refused 33 at 0 ids 0 0 0 figure 0\n" ∷ said "0 5\n" ∷ seen "" ∷ said "refused 34 at 0 ids 0 0 0 figure 0\n" ∷ [];
      left = "00 4F";
    }
    ∷ record {
      sheet = "0C 00 01 00 02 00 02 00 00 00 02 00 14 00 02 00 23 00 00 00 00 00 01 00 00 00 5A 44 52 4D 33 59 15 00 02 00 48 00 00 00 00 00 02 00 00 00 57 2E 66 54 4D 7D 5B 04 00 09 00";
      area = "78";
      calls = writes 1 0 249 ∷ looks 0 ∷ finishes 0 ∷ looks 1 ∷ finishes 1 ∷ starts 35 ∷ starts 35 ∷ looks 0 ∷ finishes 0 ∷ writes 65535 0 213 ∷ starts 35 ∷ writes 0 4 89 ∷ starts 35 ∷ writes 2 3 169 ∷ writes 65535 0 186 ∷ writes 0 4 168 ∷ writes 1 2 14 ∷ writes 0 3 21 ∷ writes 65535 3 208 ∷ looks 1 ∷ finishes 1 ∷ writes 0 0 83 ∷ looks 2 ∷ finishes 2 ∷ writes 1 5 74 ∷ starts 72 ∷ writes 65535 5 50 ∷ looks 1 ∷ finishes 1 ∷ writes 1 1 72 ∷ writes 0 1 35 ∷ writes 0 1 43 ∷ writes 0 4294967295 19 ∷ writes 0 4 212 ∷ starts 72 ∷ looks 1 ∷ finishes 1 ∷ writes 1 4 249 ∷ starts 0 ∷ looks 0 ∷ finishes 0 ∷ starts 35 ∷ writes 65535 2 109 ∷ starts 72 ∷ writes 2 3 40 ∷ starts 35 ∷ writes 65535 4 146 ∷ starts 72 ∷ [];
      heard = said "refused 30 at 0 ids 0 0 0 figure 2\n" ∷ said "refused 36 at 0 ids 0 0 0 figure 0\n" ∷ seen "" ∷ said "refused 36 at 0 ids 0 0 0 figure 0\n" ∷ seen "" ∷ said "refused 36 at 0 ids 0 0 0 figure 0\n" ∷ said "refused 36 at 0 ids 0 0 0 figure 0\n" ∷ said "refused 36 at 0 ids 0 0 0 figure 0\n" ∷ seen "" ∷ said "refused 36 at 0 ids 0 0 0 figure 0\n" ∷ said "refused 36 at 0 ids 0 0 0 figure 0\n" ∷ said "refused 36 at 0 ids 0 0 0 figure 0\n" ∷ said "refused 36 at 0 ids 0 0 0 figure 0\n" ∷ said "refused 36 at 0 ids 0 0 0 figure 0\n" ∷ said "refused 36 at 0 ids 0 0 0 figure 0\n" ∷ said "refused 36 at 0 ids 0 0 0 figure 0\n" ∷ said "refused 36 at 0 ids 0 0 0 figure 0\n" ∷ said "refused 36 at 0 ids 0 0 0 figure 0\n" ∷ said "refused 36 at 0 ids 0 0 0 figure 0\n" ∷ said "refused 36 at 0 ids 0 0 0 figure 0\n" ∷ seen "" ∷ said "refused 36 at 0 ids 0 0 0 figure 0\n" ∷ said "refused 36 at 0 ids 0 0 0 figure 0\n" ∷ seen "" ∷ said "refused 36 at 0 ids 0 0 0 figure 0\n" ∷ said "refused 36 at 0 ids 0 0 0 figure 0\n" ∷ said "refused 36 at 0 ids 0 0 0 figure 0\n" ∷ said "refused 36 at 0 ids 0 0 0 figure 0\n" ∷ seen "" ∷ said "refused 36 at 0 ids 0 0 0 figure 0\n" ∷ said "refused 36 at 0 ids 0 0 0 figure 0\n" ∷ said "refused 36 at 0 ids 0 0 0 figure 0\n" ∷ said "refused 36 at 0 ids 0 0 0 figure 0\n" ∷ said "refused 36 at 0 ids 0 0 0 figure 0\n" ∷ said "refused 36 at 0 ids 0 0 0 figure 0\n" ∷ said "refused 36 at 0 ids 0 0 0 figure 0\n" ∷ seen "" ∷ said "refused 36 at 0 ids 0 0 0 figure 0\n" ∷ said "refused 36 at 0 ids 0 0 0 figure 0\n" ∷ said "refused 36 at 0 ids 0 0 0 figure 0\n" ∷ seen "" ∷ said "refused 36 at 0 ids 0 0 0 figure 0\n" ∷ said "refused 36 at 0 ids 0 0 0 figure 0\n" ∷ said "refused 36 at 0 ids 0 0 0 figure 0\n" ∷ said "refused 36 at 0 ids 0 0 0 figure 0\n" ∷ said "refused 36 at 0 ids 0 0 0 figure 0\n" ∷ said "refused 36 at 0 ids 0 0 0 figure 0\n" ∷ said "refused 36 at 0 ids 0 0 0 figure 0\n" ∷ said "refused 36 at 0 ids 0 0 0 figure 0\n" ∷ [];
      left = "78";
    }
    ∷ record {
      sheet = "0C 00 01 00 01 00 02 00 00 00 01 00 10 00 02 00 5E E9 07 00 08 00 01 00 00 00 77 2D 04 00 09 00";
      area = "A0 4C";
      calls = writes 1 2 250 ∷ starts 59742 ∷ writes 0 4294967295 23 ∷ starts 59742 ∷ writes 0 1 154 ∷ starts 59742 ∷ writes 0 1 71 ∷ writes 0 0 209 ∷ starts 59742 ∷ looks 0 ∷ finishes 0 ∷ starts 0 ∷ starts 59742 ∷ looks 1 ∷ finishes 1 ∷ starts 7 ∷ writes 1 2 85 ∷ writes 1 0 249 ∷ writes 2 5 147 ∷ writes 2 2 158 ∷ starts 59742 ∷ starts 59742 ∷ looks 2 ∷ finishes 2 ∷ writes 65535 1 38 ∷ starts 59742 ∷ looks 3 ∷ finishes 3 ∷ writes 2 3 1 ∷ writes 0 1 235 ∷ starts 59742 ∷ starts 59742 ∷ starts 59742 ∷ starts 59742 ∷ starts 59742 ∷ starts 59742 ∷ writes 4 0 133 ∷ writes 2 2 77 ∷ writes 4 0 155 ∷ starts 59742 ∷ writes 4 0 81 ∷ starts 59742 ∷ starts 59742 ∷ writes 1 0 43 ∷ [];
      heard = said "refused 33 at 0 ids 0 0 0 figure 0\n" ∷ said "0 0\n" ∷ said "refused 35 at 0 ids 0 0 0 figure 0\n" ∷ said "refused 32 at 0 ids 0 0 0 figure 0\n" ∷ said "refused 35 at 0 ids 0 0 0 figure 0\n" ∷ said "refused 32 at 0 ids 0 0 0 figure 0\n" ∷ said "refused 35 at 0 ids 0 0 0 figure 0\n" ∷ said "ok\n" ∷ said "refused 32 at 0 ids 0 0 0 figure 0\n" ∷ seen "D1" ∷ said "0 1\n" ∷ said "refused 31 at 0 ids 0 0 0 figure 0\n" ∷ said "0 1\n" ∷ seen "00" ∷ said "0 1\n" ∷ said "refused 31 at 0 ids 0 0 0 figure 0\n" ∷ said "refused 33 at 0 ids 0 0 0 figure 0\n" ∷ said "refused 33 at 0 ids 0 0 0 figure 0\n" ∷ said "refused 33 at 0 ids 0 0 0 figure 0\n" ∷ said "refused 33 at 0 ids 0 0 0 figure 0\n" ∷ said "0 2\n" ∷ said "refused 32 at 0 ids 0 0 0 figure 0\n" ∷ seen "00" ∷ said "0 1\n" ∷ said "refused 33 at 0 ids 0 0 0 figure 0\n" ∷ said "0 3\n" ∷ seen "00" ∷ said "0 1\n" ∷ said "refused 33 at 0 ids 0 0 0 figure 0\n" ∷ said "refused 33 at 0 ids 0 0 0 figure 0\n" ∷ said "0 4\n" ∷ said "refused 32 at 0 ids 0 0 0 figure 0\n" ∷ said "refused 32 at 0 ids 0 0 0 figure 0\n" ∷ said "refused 32 at 0 ids 0 0 0 figure 0\n" ∷ said "refused 32 at 0 ids 0 0 0 figure 0\n" ∷ said "refused 32 at 0 ids 0 0 0 figure 0\n" ∷ said "ok\n" ∷ said "refused 34 at 0 ids 0 0 0 figure 0\n" ∷ said "ok\n" ∷ said "refused 32 at 0 ids 0 0 0 figure 0\n" ∷ said "ok\n" ∷ said "refused 32 at 0 ids 0 0 0 figure 0\n" ∷ said "refused 32 at 0 ids 0 0 0 figure 0\n" ∷ said "refused 34 at 0 ids 0 0 0 figure 0\n" ∷ [];
      left = "51 4C";
    }
    ∷ record {
      sheet = "0C 00 01 00 08 00 08 00 00 00 01 00 18 00 02 00 3C 00 03 00 03 00 01 00 00 00 4E 55 78 5F 6A 68 76 32 75 56 04 00 09 00";
      area = "48 F0 78 8E 73 64 12 51";
      calls = writes 65535 4 76 ∷ looks 1 ∷ finishes 1 ∷ starts 60 ∷ starts 60 ∷ writes 0 5 58 ∷ starts 60 ∷ writes 0 6 218 ∷ starts 60 ∷ writes 0 3 222 ∷ writes 0 5 110 ∷ looks 0 ∷ finishes 0 ∷ looks 1 ∷ finishes 1 ∷ writes 2 4 251 ∷ looks 0 ∷ finishes 0 ∷ starts 60 ∷ looks 1 ∷ finishes 1 ∷ looks 65535 ∷ finishes 65535 ∷ starts 60 ∷ looks 2 ∷ finishes 2 ∷ writes 65535 4294967295 220 ∷ starts 60 ∷ writes 3 3 112 ∷ writes 3 5 255 ∷ looks 3 ∷ finishes 3 ∷ looks 65535 ∷ finishes 65535 ∷ starts 60 ∷ writes 65535 8 114 ∷ starts 60 ∷ looks 4 ∷ finishes 4 ∷ looks 0 ∷ finishes 0 ∷ writes 2 4 81 ∷ writes 2 0 125 ∷ starts 60 ∷ looks 5 ∷ finishes 5 ∷ starts 60 ∷ starts 60 ∷ writes 6 1 199 ∷ writes 6 7 252 ∷ looks 6 ∷ finishes 6 ∷ starts 60 ∷ [];
      heard = said "refused 33 at 0 ids 0 0 0 figure 0\n" ∷ seen "" ∷ said "refused 33 at 0 ids 0 0 0 figure 0\n" ∷ said "0 0\n" ∷ said "refused 32 at 0 ids 0 0 0 figure 0\n" ∷ said "ok\n" ∷ said "refused 32 at 0 ids 0 0 0 figure 0\n" ∷ said "ok\n" ∷ said "refused 32 at 0 ids 0 0 0 figure 0\n" ∷ said "ok\n" ∷ said "ok\n" ∷ seen "00 00 00 DE 00 6E DA 00" ∷ said "0 8\n" ∷ seen "" ∷ said "refused 33 at 0 ids 0 0 0 figure 0\n" ∷ said "refused 33 at 0 ids 0 0 0 figure 0\n" ∷ seen "" ∷ said "refused 33 at 0 ids 0 0 0 figure 0\n" ∷ said "0 1\n" ∷ seen "00 00 00 00 00 00 00 00" ∷ said "0 8\n" ∷ seen "" ∷ said "refused 33 at 0 ids 0 0 0 figure 0\n" ∷ said "0 2\n" ∷ seen "00 00 00 00 00 00 00 00" ∷ said "0 8\n" ∷ said "refused 33 at 0 ids 0 0 0 figure 0\n" ∷ said "0 3\n" ∷ said "ok\n" ∷ said "ok\n" ∷ seen "00 00 00 70 00 FF 00 00" ∷ said "0 8\n" ∷ seen "" ∷ said "refused 33 at 0 ids 0 0 0 figure 0\n" ∷ said "0 4\n" ∷ said "refused 34 at 0 ids 0 0 0 figure 0\n" ∷ said "refused 32 at 0 ids 0 0 0 figure 0\n" ∷ seen "00 00 00 00 00 00 00 00" ∷ said "0 8\n" ∷ seen "" ∷ said "refused 33 at 0 ids 0 0 0 figure 0\n" ∷ said "refused 33 at 0 ids 0 0 0 figure 0\n" ∷ said "refused 33 at 0 ids 0 0 0 figure 0\n" ∷ said "0 5\n" ∷ seen "00 00 00 00 00 00 00 00" ∷ said "0 8\n" ∷ said "0 6\n" ∷ said "refused 32 at 0 ids 0 0 0 figure 0\n" ∷ said "ok\n" ∷ said "ok\n" ∷ seen "00 C7 00 00 00 00 00 FC" ∷ said "0 8\n" ∷ said "0 7\n" ∷ [];
      left = "00 00 00 00 00 00 00 00";
    }
    ∷ record {
      sheet = "0C 00 01 00 04 00 04 00 00 00 03 00 12 00 02 00 18 00 00 00 00 00 00 00 00 00 2E 5B 40 48 18 00 02 00 31 00 01 00 01 00 00 00 00 00 21 6F 2A 76 6A 65 2E 54 7E 2A 13 00 02 00 32 00 02 00 FF 00 04 00 00 00 34 23 64 73 70 04 00 09 00";
      area = "BD 8A 7C 4D";
      calls = writes 0 4 132 ∷ writes 2 0 231 ∷ looks 0 ∷ finishes 0 ∷ looks 1 ∷ finishes 1 ∷ looks 1 ∷ finishes 1 ∷ starts 50 ∷ writes 0 3 110 ∷ starts 24 ∷ starts 49 ∷ starts 50 ∷ writes 0 2 166 ∷ starts 24 ∷ writes 0 0 199 ∷ writes 0 3 218 ∷ looks 0 ∷ finishes 0 ∷ looks 2 ∷ finishes 2 ∷ writes 2 1 56 ∷ writes 2 3 230 ∷ starts 50 ∷ starts 50 ∷ looks 1 ∷ finishes 1 ∷ looks 65535 ∷ finishes 65535 ∷ writes 65535 1 100 ∷ starts 49 ∷ looks 2 ∷ finishes 2 ∷ starts 49 ∷ looks 3 ∷ finishes 3 ∷ looks 0 ∷ finishes 0 ∷ starts 50 ∷ writes 4 2 129 ∷ starts 49 ∷ looks 4 ∷ finishes 4 ∷ starts 49 ∷ writes 5 0 35 ∷ starts 24 ∷ writes 5 0 221 ∷ starts 50 ∷ writes 6 1 172 ∷ looks 6 ∷ finishes 6 ∷ starts 50 ∷ [];
      heard = said "refused 33 at 0 ids 0 0 0 figure 0\n" ∷ said "refused 33 at 0 ids 0 0 0 figure 0\n" ∷ seen "" ∷ said "refused 33 at 0 ids 0 0 0 figure 0\n" ∷ seen "" ∷ said "refused 33 at 0 ids 0 0 0 figure 0\n" ∷ seen "" ∷ said "refused 33 at 0 ids 0 0 0 figure 0\n" ∷ said "0 0\n" ∷ said "ok\n" ∷ said "refused 32 at 0 ids 0 0 0 figure 0\n" ∷ said "refused 32 at 0 ids 0 0 0 figure 0\n" ∷ said "refused 32 at 0 ids 0 0 0 figure 0\n" ∷ said "ok\n" ∷ said "refused 32 at 0 ids 0 0 0 figure 0\n" ∷ said "ok\n" ∷ said "ok\n" ∷ seen "C7 00 A6 DA" ∷ said "0 4\n" ∷ seen "" ∷ said "refused 33 at 0 ids 0 0 0 figure 0\n" ∷ said "refused 33 at 0 ids 0 0 0 figure 0\n" ∷ said "refused 33 at 0 ids 0 0 0 figure 0\n" ∷ said "0 1\n" ∷ said "refused 32 at 0 ids 0 0 0 figure 0\n" ∷ seen "00 00 00 00" ∷ said "0 4\n" ∷ seen "" ∷ said "refused 33 at 0 ids 0 0 0 figure 0\n" ∷ said "refused 33 at 0 ids 0 0 0 figure 0\n" ∷ said "0 2\n" ∷ seen "" ∷ said "0 0\n" ∷ said "0 3\n" ∷ seen "" ∷ said "0 0\n" ∷ seen "" ∷ said "refused 33 at 0 ids 0 0 0 figure 0\n" ∷ said "0 4\n" ∷ said "ok\n" ∷ said "refused 32 at 0 ids 0 0 0 figure 0\n" ∷ seen "00 00 81 00" ∷ said "0 4\n" ∷ said "0 5\n" ∷ said "refused 35 at 0 ids 0 0 0 figure 0\n" ∷ said "refused 32 at 0 ids 0 0 0 figure 0\n" ∷ said "refused 35 at 0 ids 0 0 0 figure 0\n" ∷ said "0 6\n" ∷ said "ok\n" ∷ seen "00 AC 00 00" ∷ said "0 4\n" ∷ said "0 7\n" ∷ [];
      left = "00 00 00 00";
    }
    ∷ record {
      sheet = "0C 00 01 00 04 00 05 00 00 00 03 00 16 00 02 00 21 00 06 00 06 00 01 00 00 00 7E 77 7A 3F 4F 40 2C 27 16 00 02 00 34 00 03 00 08 00 04 00 00 00 40 25 30 3B 3E 4C 41 7E 1C 00 02 00 35 00 06 00 06 00 00 00 00 00 72 2C 51 6D 3B 4E 47 56 75 43 5E 61 3F 32 04 00 09 00";
      area = "8C D9 80 FA";
      calls = starts 53 ∷ looks 0 ∷ finishes 0 ∷ starts 33 ∷ writes 1 0 66 ∷ writes 1 4 150 ∷ looks 1 ∷ finishes 1 ∷ starts 53 ∷ starts 52 ∷ starts 33 ∷ writes 2 0 163 ∷ starts 33 ∷ writes 2 0 163 ∷ looks 2 ∷ finishes 2 ∷ writes 65535 4 196 ∷ writes 0 4 163 ∷ looks 65535 ∷ finishes 65535 ∷ starts 52 ∷ writes 3 0 137 ∷ looks 3 ∷ finishes 3 ∷ starts 33 ∷ starts 53 ∷ writes 0 0 117 ∷ writes 4 4294967295 111 ∷ writes 4 2 111 ∷ writes 4 4 17 ∷ writes 65535 4 208 ∷ writes 4 3 206 ∷ starts 33 ∷ writes 4 2 51 ∷ starts 33 ∷ writes 2 4 193 ∷ looks 4 ∷ finishes 4 ∷ looks 1 ∷ finishes 1 ∷ starts 52 ∷ looks 5 ∷ finishes 5 ∷ looks 1 ∷ finishes 1 ∷ starts 52 ∷ starts 33 ∷ writes 6 1 126 ∷ writes 6 1 176 ∷ [];
      heard = said "0 0\n" ∷ seen "" ∷ said "0 0\n" ∷ said "0 1\n" ∷ said "ok\n" ∷ said "refused 35 at 0 ids 0 0 0 figure 0\n" ∷ seen "42 00 00 00" ∷ said "0 4\n" ∷ said "0 2\n" ∷ said "refused 32 at 0 ids 0 0 0 figure 0\n" ∷ said "refused 32 at 0 ids 0 0 0 figure 0\n" ∷ said "refused 35 at 0 ids 0 0 0 figure 0\n" ∷ said "refused 32 at 0 ids 0 0 0 figure 0\n" ∷ said "refused 35 at 0 ids 0 0 0 figure 0\n" ∷ seen "" ∷ said "0 0\n" ∷ said "refused 33 at 0 ids 0 0 0 figure 0\n" ∷ said "refused 33 at 0 ids 0 0 0 figure 0\n" ∷ seen "" ∷ said "refused 33 at 0 ids 0 0 0 figure 0\n" ∷ said "0 3\n" ∷ said "ok\n" ∷ seen "89 00 00 00" ∷ said "0 4\n" ∷ said "0 4\n" ∷ said "refused 32 at 0 ids 0 0 0 figure 0\n" ∷ said "refused 34 at 0 ids 0 0 0 figure 0\n" ∷ said "refused 35 at 0 ids 0 0 0 figure 0\n" ∷ said "ok\n" ∷ said "refused 35 at 0 ids 0 0 0 figure 0\n" ∷ said "refused 34 at 0 ids 0 0 0 figure 0\n" ∷ said "ok\n" ∷ said "refused 32 at 0 ids 0 0 0 figure 0\n" ∷ said "ok\n" ∷ said "refused 32 at 0 ids 0 0 0 figure 0\n" ∷ said "refused 34 at 0 ids 0 0 0 figure 0\n" ∷ seen "00 00 33 CE" ∷ said "0 4\n" ∷ seen "" ∷ said "refused 33 at 0 ids 0 0 0 figure 0\n" ∷ said "0 5\n" ∷ seen "00 00 00 00" ∷ said "0 4\n" ∷ seen "" ∷ said "refused 33 at 0 ids 0 0 0 figure 0\n" ∷ said "0 6\n" ∷ said "refused 32 at 0 ids 0 0 0 figure 0\n" ∷ said "ok\n" ∷ said "ok\n" ∷ [];
      left = "00 B0 00 00";
    }
    ∷ record {
      sheet = "0C 00 01 00 10 00 00 00 00 00 01 00 1A 00 02 00 22 00 02 00 02 00 00 00 00 00 27 65 36 4B 25 66 37 42 6B 64 6F 4A 04 00 09 00";
      area = "D5 E7 FC FE B7 DD F2 5D 85 A9 73 C9 67 21 76 F6 05";
      calls = writes 0 2 26 ∷ starts 34 ∷ looks 0 ∷ finishes 0 ∷ writes 2 1 210 ∷ looks 65535 ∷ finishes 65535 ∷ starts 34 ∷ starts 34 ∷ writes 1 0 234 ∷ writes 1 0 198 ∷ writes 0 0 46 ∷ starts 34 ∷ starts 34 ∷ starts 65535 ∷ looks 1 ∷ finishes 1 ∷ writes 1 4 64 ∷ writes 1 1 139 ∷ starts 34 ∷ looks 2 ∷ finishes 2 ∷ starts 34 ∷ writes 3 0 66 ∷ looks 3 ∷ finishes 3 ∷ writes 0 4 4 ∷ starts 34 ∷ writes 4 0 12 ∷ writes 0 0 223 ∷ starts 34 ∷ starts 34 ∷ looks 1 ∷ finishes 1 ∷ starts 34 ∷ writes 4 0 75 ∷ looks 4 ∷ finishes 4 ∷ starts 34 ∷ starts 34 ∷ writes 5 0 250 ∷ starts 34 ∷ starts 34 ∷ looks 5 ∷ finishes 5 ∷ starts 34 ∷ looks 6 ∷ finishes 6 ∷ starts 34 ∷ [];
      heard = said "refused 33 at 0 ids 0 0 0 figure 0\n" ∷ said "0 0\n" ∷ seen "" ∷ said "0 0\n" ∷ said "refused 33 at 0 ids 0 0 0 figure 0\n" ∷ seen "" ∷ said "refused 33 at 0 ids 0 0 0 figure 0\n" ∷ said "0 1\n" ∷ said "refused 32 at 0 ids 0 0 0 figure 0\n" ∷ said "refused 35 at 0 ids 0 0 0 figure 0\n" ∷ said "refused 35 at 0 ids 0 0 0 figure 0\n" ∷ said "refused 34 at 0 ids 0 0 0 figure 0\n" ∷ said "refused 32 at 0 ids 0 0 0 figure 0\n" ∷ said "refused 32 at 0 ids 0 0 0 figure 0\n" ∷ said "refused 31 at 0 ids 0 0 0 figure 0\n" ∷ seen "" ∷ said "0 0\n" ∷ said "refused 33 at 0 ids 0 0 0 figure 0\n" ∷ said "refused 33 at 0 ids 0 0 0 figure 0\n" ∷ said "0 2\n" ∷ seen "" ∷ said "0 0\n" ∷ said "0 3\n" ∷ said "refused 35 at 0 ids 0 0 0 figure 0\n" ∷ seen "" ∷ said "0 0\n" ∷ said "refused 33 at 0 ids 0 0 0 figure 0\n" ∷ said "0 4\n" ∷ said "refused 35 at 0 ids 0 0 0 figure 0\n" ∷ said "refused 34 at 0 ids 0 0 0 figure 0\n" ∷ said "refused 32 at 0 ids 0 0 0 figure 0\n" ∷ said "refused 32 at 0 ids 0 0 0 figure 0\n" ∷ seen "" ∷ said "refused 34 at 0 ids 0 0 0 figure 0\n" ∷ said "refused 32 at 0 ids 0 0 0 figure 0\n" ∷ said "refused 35 at 0 ids 0 0 0 figure 0\n" ∷ seen "" ∷ said "0 0\n" ∷ said "0 5\n" ∷ said "refused 32 at 0 ids 0 0 0 figure 0\n" ∷ said "refused 35 at 0 ids 0 0 0 figure 0\n" ∷ said "refused 32 at 0 ids 0 0 0 figure 0\n" ∷ said "refused 32 at 0 ids 0 0 0 figure 0\n" ∷ seen "" ∷ said "0 0\n" ∷ said "0 6\n" ∷ seen "" ∷ said "0 0\n" ∷ said "0 7\n" ∷ [];
      left = "D5 E7 FC FE B7 DD F2 5D 85 A9 73 C9 67 21 76 F6 05";
    }
    ∷ record {
      sheet = "0C 00 01 00 20 00 40 42 0F 00 01 00 14 00 02 00 45 4A B8 00 B8 00 00 00 00 00 60 2B 39 63 4B 4B 04 00 09 00";
      area = "";
      calls = looks 1 ∷ finishes 1 ∷ looks 2 ∷ finishes 2 ∷ starts 19013 ∷ looks 0 ∷ finishes 0 ∷ looks 65535 ∷ finishes 65535 ∷ starts 19013 ∷ starts 19013 ∷ looks 1 ∷ finishes 1 ∷ writes 1 2 102 ∷ writes 65535 0 1 ∷ starts 19013 ∷ starts 19013 ∷ starts 19013 ∷ starts 19013 ∷ starts 19013 ∷ looks 2 ∷ finishes 2 ∷ starts 19013 ∷ starts 19013 ∷ looks 3 ∷ finishes 3 ∷ looks 2 ∷ finishes 2 ∷ looks 2 ∷ finishes 2 ∷ starts 19013 ∷ looks 4 ∷ finishes 4 ∷ starts 19013 ∷ looks 5 ∷ finishes 5 ∷ looks 0 ∷ finishes 0 ∷ writes 0 3 161 ∷ looks 1 ∷ finishes 1 ∷ starts 19013 ∷ starts 0 ∷ writes 6 0 204 ∷ starts 19013 ∷ looks 6 ∷ finishes 6 ∷ writes 1 0 181 ∷ starts 19013 ∷ writes 7 0 108 ∷ writes 7 0 151 ∷ starts 19013 ∷ starts 19013 ∷ looks 7 ∷ finishes 7 ∷ [];
      heard = seen "" ∷ said "refused 33 at 0 ids 0 0 0 figure 0\n" ∷ seen "" ∷ said "refused 33 at 0 ids 0 0 0 figure 0\n" ∷ said "0 0\n" ∷ seen "" ∷ said "0 0\n" ∷ seen "" ∷ said "refused 33 at 0 ids 0 0 0 figure 0\n" ∷ said "0 1\n" ∷ said "refused 32 at 0 ids 0 0 0 figure 0\n" ∷ seen "" ∷ said "0 0\n" ∷ said "refused 33 at 0 ids 0 0 0 figure 0\n" ∷ said "refused 33 at 0 ids 0 0 0 figure 0\n" ∷ said "0 2\n" ∷ said "refused 32 at 0 ids 0 0 0 figure 0\n" ∷ said "refused 32 at 0 ids 0 0 0 figure 0\n" ∷ said "refused 32 at 0 ids 0 0 0 figure 0\n" ∷ said "refused 32 at 0 ids 0 0 0 figure 0\n" ∷ seen "" ∷ said "0 0\n" ∷ said "0 3\n" ∷ said "refused 32 at 0 ids 0 0 0 figure 0\n" ∷ seen "" ∷ said "0 0\n" ∷ seen "" ∷ said "refused 33 at 0 ids 0 0 0 figure 0\n" ∷ seen "" ∷ said "refused 33 at 0 ids 0 0 0 figure 0\n" ∷ said "0 4\n" ∷ seen "" ∷ said "0 0\n" ∷ said "0 5\n" ∷ seen "" ∷ said "0 0\n" ∷ seen "" ∷ said "refused 33 at 0 ids 0 0 0 figure 0\n" ∷ said "refused 33 at 0 ids 0 0 0 figure 0\n" ∷ seen "" ∷ said "refused 33 at 0 ids 0 0 0 figure 0\n" ∷ said "0 6\n" ∷ said "refused 31 at 0 ids 0 0 0 figure 0\n" ∷ said "refused 35 at 0 ids 0 0 0 figure 0\n" ∷ said "refused 32 at 0 ids 0 0 0 figure 0\n" ∷ seen "" ∷ said "0 0\n" ∷ said "refused 33 at 0 ids 0 0 0 figure 0\n" ∷ said "0 7\n" ∷ said "refused 35 at 0 ids 0 0 0 figure 0\n" ∷ said "refused 35 at 0 ids 0 0 0 figure 0\n" ∷ said "refused 32 at 0 ids 0 0 0 figure 0\n" ∷ said "refused 32 at 0 ids 0 0 0 figure 0\n" ∷ seen "" ∷ said "0 0\n" ∷ [];
      left = "";
    }
    ∷ record {
      sheet = "0C 00 01 00 20 00 00 00 00 00 02 00 19 00 02 00 1B 00 08 00 08 00 00 00 00 00 71 28 30 67 5B 56 54 6F 56 41 35 12 00 02 00 1C 00 03 00 03 00 00 00 00 00 79 63 60 4D 04 00 09 00";
      area = "";
      calls = starts 28 ∷ writes 0 0 29 ∷ starts 27 ∷ writes 1 0 215 ∷ writes 65535 0 236 ∷ writes 2 0 176 ∷ starts 27 ∷ writes 1 0 181 ∷ starts 28 ∷ starts 27 ∷ starts 28 ∷ writes 1 4294967295 212 ∷ looks 1 ∷ finishes 1 ∷ looks 0 ∷ finishes 0 ∷ starts 65535 ∷ writes 65535 4 4 ∷ starts 28 ∷ starts 65535 ∷ looks 65535 ∷ finishes 65535 ∷ looks 2 ∷ finishes 2 ∷ starts 28 ∷ writes 3 0 26 ∷ writes 3 4294967295 170 ∷ starts 28 ∷ starts 28 ∷ writes 3 0 113 ∷ looks 3 ∷ finishes 3 ∷ starts 28 ∷ looks 4 ∷ finishes 4 ∷ writes 0 4 69 ∷ writes 1 3 190 ∷ starts 27 ∷ starts 28 ∷ starts 27 ∷ looks 5 ∷ finishes 5 ∷ writes 2 1 79 ∷ writes 1 4 24 ∷ starts 27 ∷ writes 6 0 176 ∷ looks 6 ∷ finishes 6 ∷ [];
      heard = said "0 0\n" ∷ said "refused 35 at 0 ids 0 0 0 figure 0\n" ∷ said "0 1\n" ∷ said "refused 35 at 0 ids 0 0 0 figure 0\n" ∷ said "refused 34 at 0 ids 0 0 0 figure 0\n" ∷ said "refused 34 at 0 ids 0 0 0 figure 0\n" ∷ said "refused 32 at 0 ids 0 0 0 figure 0\n" ∷ said "refused 35 at 0 ids 0 0 0 figure 0\n" ∷ said "refused 32 at 0 ids 0 0 0 figure 0\n" ∷ said "refused 32 at 0 ids 0 0 0 figure 0\n" ∷ said "refused 32 at 0 ids 0 0 0 figure 0\n" ∷ said "refused 35 at 0 ids 0 0 0 figure 0\n" ∷ seen "" ∷ said "0 0\n" ∷ seen "" ∷ said "0 0\n" ∷ said "refused 31 at 0 ids 0 0 0 figure 0\n" ∷ said "refused 33 at 0 ids 0 0 0 figure 0\n" ∷ said "0 2\n" ∷ said "refused 31 at 0 ids 0 0 0 figure 0\n" ∷ seen "" ∷ said "refused 34 at 0 ids 0 0 0 figure 0\n" ∷ seen "" ∷ said "0 0\n" ∷ said "0 3\n" ∷ said "refused 35 at 0 ids 0 0 0 figure 0\n" ∷ said "refused 35 at 0 ids 0 0 0 figure 0\n" ∷ said "refused 32 at 0 ids 0 0 0 figure 0\n" ∷ said "refused 32 at 0 ids 0 0 0 figure 0\n" ∷ said "refused 35 at 0 ids 0 0 0 figure 0\n" ∷ seen "" ∷ said "0 0\n" ∷ said "0 4\n" ∷ seen "" ∷ said "0 0\n" ∷ said "refused 33 at 0 ids 0 0 0 figure 0\n" ∷ said "refused 33 at 0 ids 0 0 0 figure 0\n" ∷ said "0 5\n" ∷ said "refused 32 at 0 ids 0 0 0 figure 0\n" ∷ said "refused 32 at 0 ids 0 0 0 figure 0\n" ∷ seen "" ∷ said "0 0\n" ∷ said "refused 33 at 0 ids 0 0 0 figure 0\n" ∷ said "refused 33 at 0 ids 0 0 0 figure 0\n" ∷ said "0 6\n" ∷ said "refused 35 at 0 ids 0 0 0 figure 0\n" ∷ seen "" ∷ said "0 0\n" ∷ [];
      left = "";
    }
    ∷ []

agree : map ours cases ≡ map theirs cases
unfolding computed bytes_of reply play opens ours theirs cases
agree = refl
