-- A key to compute with: a declaration that says `unfolding computed` opens every definition of this crate. It says nothing.
use Rattle.paper.specs.Words.{each, any, least, greatest, listed, among, every, last, named, joined}
use Rattle.paper.specs.Dispatch.{total_in, sound, row_of, opening, task_in, start, write, finish, look}
use Rattle.paper.specs.Maps.{greatest_end, read_links, read_places, read_map_records, read_map, write_out, places_of, write_links, write_places, map_of_bare, write_map, build}
use Rattle.paper.specs.Places.{size_of, end_below, total_of, address_within, address_of, top_of, below_of, chain_to, map_of, layout_of, layout, layout_lists}
use Rattle.paper.specs.Preempting.{barred, may_over, may, breaks_over, breaks_above, transitive, smallest, transitive_rule}
use Rattle.paper.specs.Printed.{digits, task_lines, decimals, layout_lines, refusal_line, printed}
use Rattle.paper.specs.Quoted.{text, digit, hex}
use Rattle.paper.specs.Runs.{turn, run}
use Rattle.paper.specs.Sheets.{read_bars, read_tasks, read_records, read_sheet, write_sheet, name_from, name_of}

unfoldable pub computed : Unit {0}
unfolding each any least greatest listed among every last named joined total_in sound row_of opening task_in start write finish look greatest_end read_links read_places read_map_records read_map write_out places_of write_links write_places map_of_bare write_map build size_of end_below total_of address_within address_of top_of below_of chain_to map_of layout_of layout layout_lists barred may_over may breaks_over breaks_above transitive smallest transitive_rule digits task_lines decimals layout_lines refusal_line printed text digit hex turn run read_bars read_tasks read_records read_sheet write_sheet name_from name_of
computed = tt
