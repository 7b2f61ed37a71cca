use Rattle.std.proofs.Common.{◌≡◌, ◌<◌, ℕ, true, length, [], List, Option, Some}
use Rattle.std.specs.List.{list_any, slice_index_or}
use Rattle.dd_rules.specs.Index.{is_among, is_named}
use Rattle.dd_rules.proofs.Walks.{EachBelow}
use Rattle.dd_rules.proofs.index.note_all.Given as goal

abbrev pub invariant-loop-k : goal.invariant-loop-k
invariant-loop-k l = record {
  named : (n : ℕ) → n < length l.initial.lists.items → EachBelow (λ k a. (names : List (Option ℕ)) → a.joined ≡ Some names → list_any (is_named n) names ≡ true
      → is_among (slice_index_or l.lists.items n []) k ≡ true) l.axioms l.k;
  unnamed : EachBelow (λ k a. a.joined ≡ Some [] → is_among l.plain k ≡ true) l.axioms l.k;
  count : length l.lists.items ≡ length l.initial.lists.items;
}
