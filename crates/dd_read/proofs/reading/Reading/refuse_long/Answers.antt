use Rattle.std.proofs.Common.{◌+◌}
use Rattle.dd_read.specs.ReadingState.{standing_of, state_of}
use Rattle.dd_read.specs.declared.kept.Kept.TheVariants.{Finished}
use Rattle.dd_read.proofs.Obeying.{long_refused}
use Rattle.dd_read.proofs.Taking.{both_ok, long_not_blank, read_takes}
use Rattle.dd_read.proofs.reading.Reading.refuse_long.Goals as goal

pub returns-clause-takes : goal.returns-clause-takes
returns-clause-takes c =
    let old = c.args.self.now in
    let new = c.keep.new.self in
    both_ok c.keep.result (λ answer kept due line long.
    read_takes old.options (standing_of old) (standing_of new) line (state_of old) (Finished c.refused.result) answer (long_not_blank line long)
    (long_refused old.options (state_of old) (old.requests + 1) line c.refused.result long c.refused.ensures) kept due) c.keep.ensures.kept c.keep.ensures.answer
