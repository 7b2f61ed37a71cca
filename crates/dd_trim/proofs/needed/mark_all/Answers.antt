use Rattle.std.proofs.Common.{arith, get_or, ◌-◌}
use Rattle.std.proofs.lemmas.Option.{slice_get-get_or}
use Rattle.dd_trim.proofs.Marking.{marks-back}
use Rattle.dd_trim.proofs.needed.mark_all.Goals as goal

pub loop-k-preserved : goal.loop-k-preserved
loop-k-preserved c =
    let le = c.loop-k.invariant.0 in
    let some = c.loop-k-test.true in (
      omega (arith, le),
      marks-back c.args.lines.now c.loop-k.k (get_or c.args.lines.now (c.loop-k.k - 1) c.index-lines-k.result) c.loop-k.marks c.visit.new.marks some
          c.loop-k.invariant.1 (slice_get-get_or c.args.lines.now (c.loop-k.k - 1) c.index-lines-k.result (omega (arith, le, some))) c.visit.ensures,
    )
