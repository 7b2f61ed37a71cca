-- The byte past the limit was taken.
use Rattle.std.proofs.Common.{◌+◌, ◌<◌, ◌≤◌, true, length, ap, arith}
use Rattle.dd_lines.specs.Reading.{Reading}
use Rattle.dd_lines.proofs.Readings.{takes_one}
use Rattle.dd_lines.proofs.reader.LineReader.probe.Goals as goal

pub returns-in-Ok-clause-fills : goal.returns-in-Ok-clause-fills
returns-in-Ok-clause-fills g c =
    let n = c.in-Ok.field-0 in
    let some : 0 < n = omega arith in
    let one : length c.take.new.room ≤ 1 = omega arith in
    let byte = takes_one (g.S.Source.left c.args.source.now) (g.S.Source.left c.take.new.self) n c.take.new.room c.in-Ok.ensures.bytes some c.in-Ok.ensures.bound one in
    (ap (λ (r : Reading). record r { taken = r.taken + 1; too_much = true }) c.self.view_is, c.requires.none, byte.0, byte.1)
