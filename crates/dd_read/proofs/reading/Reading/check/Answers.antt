use Rattle.dd_read.specs.ReadingState.{state_of}
use Rattle.dd_read.proofs.Keeping.{sound_later}
use Rattle.dd_read.proofs.reading.Reading.check.Goals as goal

pub invariant_of-self : goal.invariant_of-self
invariant_of-self c =
    let r = c.args.self.now in
    record { within = r.within; counted = r.counted; sound = sound_later (state_of r) c.judge.new.symbols r.kept.items c.judge.ensures.grows r.sound }
