-- The paper's maps, as the layout that the code hands back.
use Rattle.std.specs.Prelude.{List, map, ℕ}
use Rattle.frame.specs.Values.{with_value}
use Rattle.layout.specs.declared.layout.LaidOut.{LaidOut}
use Rattle.layout.specs.declared.layout.Layout.{Layout}
use Rattle.layout.specs.declared.layout.Place.{Place}
use Rattle.paper.specs.Places.{Map, layout_of}
use Rattle.paper.specs.Refusals.{Answer, and_then}
use Rattle.paper.specs.Sheets.{Sheet, read_sheet}
use Rattle.sheet.specs.Values.{sheet_value}
use Rattle.paper.specs.Places

abbrev pub place_value : Places.Place → Place
place_value p = record { identity = p.identity; address = p.address; size = p.size }

unfoldable pub layout_value : Map → Layout
layout_value m =
    record {
      alignment = m.alignment;
      total = m.total;
      places = record { items = map place_value m.places };
      chain = record { items = m.links };
    }

-- what is handed back where a sheet has a layout
unfoldable pub given_layout : Sheet → Map → LaidOut
given_layout sheet m = record { sheet = sheet_value sheet; layout = layout_value m }

abbrev pub of_sheet : Sheet → Answer LaidOut
of_sheet sheet = with_value (given_layout sheet) (layout_of sheet)

-- a sheet's bytes, read and laid out
unfoldable pub laid_out : List ℕ → Answer LaidOut
laid_out s = and_then (read_sheet s) of_sheet
