use Rattle.std.proofs.Common.{arith}
use Rattle.dd_set.proofs.Looking.{found, found-within, skipped-start, skipped-more, skipped-all}
use Rattle.dd_set.proofs.words.next_number.Goals as goal

pub loop-place-init : goal.loop-place-init
loop-place-init c = skipped-start c.args.words.now c.args.n

pub overflow_cast-result-then-rest-ne0 : goal.overflow_cast-result-then-rest-ne0
overflow_cast-result-then-rest-ne0 c =
    let within = found-within c.args.words.now c.loop-place.place (omega arith) (omega arith) in
    omega arith

pub returns-then-rest-ne0 : goal.returns-then-rest-ne0
returns-then-rest-ne0 c = found c.args.words.now c.loop-place.place (omega arith) c.args.n c.loop-place.invariant (omega arith)

pub loop-place-preserved : goal.loop-place-preserved
loop-place-preserved c = skipped-more c.args.words.now c.loop-place.place (omega arith) c.args.n c.loop-place.invariant (omega arith)

pub returns : goal.returns
returns c = skipped-all c.args.words.now c.args.n c.loop-place.place c.loop-place.invariant (omega arith)
