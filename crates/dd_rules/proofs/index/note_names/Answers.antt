use Rattle.std.proofs.Common.{◌≡◌, true, [], arith}
use Rattle.std.specs.List.{slice_index_or}
use Rattle.dd_rules.specs.Index.{is_among, is_named}
use Rattle.dd_rules.proofs.Walks.{each-all, list_any-some}
use Rattle.dd_rules.proofs.index.note_names.Goals as goal

pub returns-clause-named : goal.returns-clause-named
returns-clause-named c n there low =
    let found = list_any-some (is_named n) c.args.names.now there in
    each-all (λ m x. is_named n x ≡ true → is_among (slice_index_or c.loop-i.lists.items n []) c.args.k ≡ true) c.args.names.now c.loop-i.i (omega arith)
    (c.loop-i.invariant.named n low) found.0 found.1 found.2 found.3
