-- Which label keeps an open one open.
use Rattle.std.specs.Prelude.{ℕ, List, Option, Some, None}
use Rattle.std.specs.List.{find}
use Rattle.dd_graph.specs.declared.node.Entry.{Entry}
use Rattle.dd_graph.specs.declared.node.Node.{Node}
use Rattle.dd_graph.specs.declared.node.Node.TheVariants as node
use Rattle.dd_graph.specs.Right.{open_at}

-- the larger label, or the first open one of those that a step gave; none for a label at which all is decided
abbrev pub open_child : List Entry → Node → Option ℕ
open_child entries node.Fresh = None
open_child entries (node.Clash c) = None
open_child entries (node.Larger t) = Some t
open_child entries (node.Split s to) = find (open_at entries) to
open_child entries (node.Done to) = None
