use Rattle.std.proofs.Common.{◌≡◌, drop, vec_len}
use Rattle.dd_graph.specs.Trail.{open_all}
use Rattle.dd_graph.proofs.confirm.open_each.Given as goal

abbrev pub invariant-loop-id : goal.invariant-loop-id
invariant-loop-id l = record {
  size : vec_len l.entries ≡ vec_len l.fn.entries;
  opened : open_all l.fn.entries.items l.ids ≡ open_all l.entries.items (drop l.id-index l.ids);
}
