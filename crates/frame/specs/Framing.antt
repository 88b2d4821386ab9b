-- The code's kinds and framed records, in the paper's values.
use Rattle.std.specs.Prelude.{List, [], ◌∷◌, ℕ, Option, Some, None, if◌then◌else◌, ◌==◌}
use Rattle.frame.specs.declared.kind.Kind.{Kind}
use Rattle.frame.specs.declared.record.Record.{Record}
use Rattle.paper.specs.Records.{head_kind, task_kind, bar_kind, end_kind, map_head_kind, place_kind, link_kind, kind_at, after}
use Rattle.frame.specs.declared.kind.Kind.TheVariants as kind
use Rattle.paper.specs.Records

-- the number of each kind, with the lengths that suit it
abbrev pub kind_value : Kind → Records.Kind
kind_value kind.Head = head_kind
kind_value kind.Task = task_kind
kind_value kind.Bar = bar_kind
kind_value kind.End = end_kind
kind_value kind.MapHead = map_head_kind
kind_value kind.Place = place_kind
kind_value kind.Link = link_kind

-- the first of some kinds that has a number
unfoldable pub kind_among : List Kind → ℕ → Option Kind
kind_among [] n = None
kind_among (k ∷ ks) n = if n == (kind_value k).kind then Some k else kind_among ks n

-- what a framed record says: the number of its kind, and where the next record starts
pub record Framed : Type 0 where
  pub kind : ℕ
  pub end : ℕ

abbrev pub record_value : Record → Framed
record_value r = record { kind = (kind_value r.kind).kind; end = r.end }

abbrev pub record_at : List ℕ → ℕ → Framed
record_at s at = record { kind = kind_at s at; end = after s at }
