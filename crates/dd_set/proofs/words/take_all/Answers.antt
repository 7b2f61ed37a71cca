use Rattle.std.proofs.Common.{◌&&◌, get_or, refl, arith, w64}
use Rattle.std.specs.Prelude.{bit_and}
use Rattle.std.proofs.lemmas.Nat.{and_le_l}
use Rattle.std.specs.Int.{bit_not}
use Rattle.dd_set.proofs.Mixing.{mixed-start, mixed-more, mixed-has, mixed-packed, bits-without, left_of_without, without}
use Rattle.dd_set.proofs.words.take_all.Goals as goal

pub loop-i-init : goal.loop-i-init
loop-i-init c = mixed-start without c.args.a.now c.args.b.now

pub loop-i-preserved : goal.loop-i-preserved
loop-i-preserved c = mixed-more without c.args.a.now c.args.b.now c.loop-i.a c.loop-i.i (bit_and (get_or c.loop-i.a c.loop-i.i 0) (bit_not w64 (get_or c.args.b.now c.loop-i.i 0)))
    (omega arith) (omega (arith, and_le_l (get_or c.loop-i.a c.loop-i.i 0) (bit_not w64 (get_or c.args.b.now c.loop-i.i 0)))) (λ t lt. bits-without (get_or c.loop-i.a c.loop-i.i 0) (get_or c.args.b.now c.loop-i.i 0) t (omega arith) lt) c.loop-i.invariant

pub returns-clause-rest : goal.returns-clause-rest
returns-clause-rest c = mixed-has without c.args.a.now c.args.b.now refl c.loop-i.a c.loop-i.i c.requires (omega arith) c.loop-i.invariant

pub returns-clause-packed : goal.returns-clause-packed
returns-clause-packed c = mixed-packed without c.args.a.now c.args.b.now refl c.loop-i.a c.loop-i.i c.requires (omega arith) c.loop-i.invariant left_of_without
