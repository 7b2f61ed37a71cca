use Rattle.std.proofs.Common.{◌∙◌, ◌+◌, ap, sym, subst, arith, length, List}
use Rattle.std.specs.List.{slice_get}
use Rattle.dd_board.specs.declared.session.Slot.{Slot}
use Rattle.dd_board.specs.Flags.{Changes, Reaches, raised_at}
use Rattle.dd_board.proofs.Marked.{reach-next, raised-same}
use Rattle.dd_board.proofs.flags.spread_from.Goals as goal

pub raised_to-u-requires : goal.raised_to-u-requires
raised_to-u-requires c =
    let here = ap (λ (xs : List Slot). length (raised_at xs c.args.k)) c.as_slice-in-loop-j.ensures in
    let same = ap length (raised-same c.args.tasks.now c.loop-j.tasks c.args.k c.loop-j.invariant.spread.same) in
    let was = ap (λ (xs : List Slot). length (raised_at xs c.args.k)) c.as_slice.ensures in
    let count = ap length c.raised_in-count.ensures in
    omega (arith, here, same, was, count, c.loop-j-test.true)

pub loop-j-preserved : goal.loop-j-preserved
loop-j-preserved c =
    let r = reach-next c.args.tasks.now c.loop-j.tasks c.want-more.new.tasks c.args.k c.loop-j.j c.raised_to-u.result c.loop-j.has_more c.want-more.result c.requires
    (ap (λ (xs : List Slot). slice_get (raised_at xs c.args.k) c.loop-j.j) (sym c.as_slice-in-loop-j.ensures) ∙ c.raised_to-u.ensures)
    c.loop-j.invariant.spread c.loop-j.invariant.changes c.loop-j.invariant.reaches c.want-more.ensures.changed c.want-more.ensures.same in
    record {
      spread = r.0;
      changes = subst (λ b. Changes b c.args.tasks.now c.want-more.new.tasks) (sym c.either-has_more.ensures) r.1;
      reaches = subst (λ b. Reaches b c.want-more.new.tasks c.args.k (c.loop-j.j + 1)) (sym c.either-has_more.ensures) r.2;
    }
