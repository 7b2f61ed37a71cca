use Rattle.std.proofs.Common.{rules, refl, get_or, false, length}
use Rattle.std.proofs.lemmas.Option.{slice_get_read}
use Rattle.dd_trim.specs.Marked.{number_at}
use Rattle.dd_trim.proofs.Kept.{kept-step}
use Rattle.dd_trim.proofs.copies.keep.Goals as goal

pub loop-k-preserved : goal.loop-k-preserved
loop-k-preserved c = kept-step (number_at c.args.places.now) c.args.marks.now c.args.lines.now c.loop-k.k c.index-lines-k.result (get_or c.args.marks.now c.loop-k.k false) c.loop-k.kept.items c.add.new.kept.items
    (search rules) refl
    (slice_get_read c.args.lines.now (length c.args.lines.now) c.loop-k.k c.index-lines-k.result refl (search rules) c.index-lines-k.is) c.loop-k.invariant c.in_ok-add.ensures
