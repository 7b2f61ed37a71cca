use Rattle.std.proofs.Common.{◌≡◌, true, [], List, ℕ, Option, Some, arith}
use Rattle.std.specs.List.{list_any, slice_index_or}
use Rattle.dd_rules.specs.Index.{is_among, is_named}
use Rattle.dd_rules.proofs.Walks.{each-all}
use Rattle.dd_rules.proofs.index.note_all.Goals as goal

pub returns-clause-index : goal.returns-clause-index
returns-clause-index c = record {
  named = λ k n a names at is there low.
      each-all (λ j b. (ms : List (Option ℕ)) → b.joined ≡ Some ms → list_any (is_named n) ms ≡ true → is_among (slice_index_or c.loop-k.lists.items n []) j ≡ true)
      c.args.axioms.now c.loop-k.k (omega arith) (c.loop-k.invariant.named n (omega (arith, low, c.loop-k.invariant.count))) k a at names is there;
  unnamed = λ k a at is. each-all (λ j b. b.joined ≡ Some [] → is_among c.loop-k.plain j ≡ true) c.args.axioms.now c.loop-k.k (omega arith) c.loop-k.invariant.unnamed k a at is;
}
