use Rattle.std.proofs.Common.{◌+◌, true, false}
use Rattle.dd_wire.proofs.Distinct.{in_rest, once_so_far, twice_is_told}
use Rattle.dd_wire.proofs.lookup.are_distinct.Goals as goal

pub returns-then-has_text : goal.returns-then-has_text
returns-then-has_text c =
    let names = c.args.names.now in
    let i = c.loop-i.i in
    let x = c.index-names-i.result in
    twice_is_told names i x c.loop-i-test.true c.index-names-i.is c.loop-i.invariant
    (in_rest names (i + 1) x c.as_slice.result.now c.has_text.result true c.as_slice.ensures c.has_text.ensures c.if-has_text.true)

pub loop-i-preserved : goal.loop-i-preserved
loop-i-preserved c =
    let names = c.args.names.now in
    let i = c.loop-i.i in
    let x = c.index-names-i.result in
    once_so_far names i x c.loop-i-test.true c.index-names-i.is c.loop-i.invariant
    (in_rest names (i + 1) x c.as_slice.result.now c.has_text.result false c.as_slice.ensures c.has_text.ensures c.if-has_text.false)
