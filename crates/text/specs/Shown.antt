-- What people read of a map, as bytes: its lines, or the line of its refusal. First in the paper's terms, then in the code's; the theorem in proofs/ says that they are the same.
use Rattle.std.specs.Prelude.{List, [], ◌∷◌, ◌++◌, ℕ, Ok, Err}
use Rattle.layout.specs.declared.layout.Layout.{Layout}
use Rattle.layout.specs.declared.layout.Place.{Place}
use Rattle.paper.specs.Maps.{read_map}
use Rattle.paper.specs.Places.{Map}
use Rattle.paper.specs.Printed.{decimal, line, chain_line, refusal_line}
use Rattle.paper.specs.Quoted.{text}
use Rattle.paper.specs.Refusals.{Answer}
use Rattle.paper.specs.Words.{joined}
use Rattle.text.specs.Lines.{chain_line_here}
use Rattle.paper.specs.Places

-- `total 136 align 8`
abbrev pub map_total_line : Map → List ℕ
map_total_line m = line (text "total" ∷ decimal m.total ∷ text "align" ∷ decimal m.alignment ∷ [])

-- `3 104 32`: identity, address, size
abbrev pub place_line : Places.Place → List ℕ
place_line p = line (decimal p.identity ∷ decimal p.address ∷ decimal p.size ∷ [])

-- the total, the places in the map's order, and the chain as a layout's
unfoldable pub map_lines : Map → List ℕ
map_lines m = map_total_line m ++ (joined place_line m.places ++ chain_line m)

-- what is shown of a map that was read, and of a list of bytes
abbrev pub of_map : Answer Map → List ℕ
of_map (Err r) = refusal_line r
of_map (Ok m) = map_lines m

unfoldable pub shown : List ℕ → List ℕ
shown s = of_map (read_map s)

-- the same lines of a map as the code holds it
abbrev pub map_total_line_here : Layout → List ℕ
map_total_line_here m = line (text "total" ∷ decimal m.total ∷ text "align" ∷ decimal m.alignment ∷ [])

abbrev pub place_line_here : Place → List ℕ
place_line_here p = line (decimal p.identity ∷ decimal p.address ∷ decimal p.size ∷ [])

unfoldable pub map_lines_here : Layout → List ℕ
map_lines_here m = map_total_line_here m ++ (joined place_line_here m.places.items ++ chain_line_here m.chain.items)
