use Rattle.std.proofs.Common.{◌≡◌, ◌<◌, ℕ, true, length, []}
use Rattle.std.specs.List.{slice_index_or}
use Rattle.dd_rules.specs.Index.{Lists, is_among, is_named}
use Rattle.dd_rules.proofs.Walks.{EachBelow}
use Rattle.dd_rules.proofs.index.note_names.Given as goal

abbrev pub invariant-loop-i : goal.invariant-loop-i
invariant-loop-i l = record {
  named : (n : ℕ) → n < length l.initial.lists.items → EachBelow (λ m x. is_named n x ≡ true → is_among (slice_index_or l.lists.items n []) l.k ≡ true) l.names l.i;
  lists : Lists l.initial.lists.items l.lists.items;
  count : length l.lists.items ≡ length l.initial.lists.items;
}
