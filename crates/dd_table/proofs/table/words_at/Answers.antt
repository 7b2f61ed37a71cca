use Rattle.std.proofs.Common.{sym}
use Rattle.dd_table.proofs.Numbering.{get-map}
use Rattle.dd_table.proofs.table.words_at.Goals as goal

pub returns-clause-packed : goal.returns-clause-packed
returns-clause-packed c =
    c.requires.packed c.args.id _ (get-map (λ v. v.now) c.args.labels.now.keys c.args.id c.in-Some.words.now (sym c.in-Some.ensures.key))
