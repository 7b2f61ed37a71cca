use Rattle.dd_trim.proofs.Trimming.{trimmed}
use Rattle.dd_trim.proofs.whole.trim.Goals as goal

pub returns-clause-derives : goal.returns-clause-derives
returns-clause-derives c = (trimmed c.args.lines.now c.in_ok-kept.kept.items c.in_ok-needed.needed.items c.as_slice-marks.result.now c.in_ok-places.places.items c.as_slice.result.now
    c.in_ok-needed.ensures c.as_slice-marks.ensures.value c.in_ok-places.ensures c.as_slice.ensures.value c.in_ok-kept.ensures).derives

pub returns-clause-from : goal.returns-clause-from
returns-clause-from c = (trimmed c.args.lines.now c.in_ok-kept.kept.items c.in_ok-needed.needed.items c.as_slice-marks.result.now c.in_ok-places.places.items c.as_slice.result.now
    c.in_ok-needed.ensures c.as_slice-marks.ensures.value c.in_ok-places.ensures c.as_slice.ensures.value c.in_ok-kept.ensures).from

pub returns-clause-needed : goal.returns-clause-needed
returns-clause-needed c = (trimmed c.args.lines.now c.in_ok-kept.kept.items c.in_ok-needed.needed.items c.as_slice-marks.result.now c.in_ok-places.places.items c.as_slice.result.now
    c.in_ok-needed.ensures c.as_slice-marks.ensures.value c.in_ok-places.ensures c.as_slice.ensures.value c.in_ok-kept.ensures).needed
