use Rattle.std.proofs.Common.{drop, ◌+◌, Err, ap}
use Rattle.dd_text.proofs.Building.{Grows-trans}
use Rattle.dd_cert.specs.Derivations.{SpellsLine, line_by, with_line}
use Rattle.dd_cert.specs.Steps.{line_fits}
use Rattle.dd_cert.proofs.Adding.{passes-here, passes-later}
use Rattle.dd_cert.proofs.Certain.{lines_parse}
use Rattle.dd_cert.proofs.Gathering.{Grows-with_line, built-all, built-next, full-next, where_done}
use Rattle.dd_cert.proofs.LinesBuilt.{added-same, line-readable}
use Rattle.dd_cert.proofs.lines.add_lines.Goals as goal

pub add_line-requires-clause-readable : goal.add_line-requires-clause-readable
add_line-requires-clause-readable c =
    (line-readable c.args.forms.now c.loop-form.form-index c.form-item.result c.loop-form-test.true c.form-item.is c.loop-form.invariant.readable).0

pub add_line-requires-clause-fit : goal.add_line-requires-clause-fit
add_line-requires-clause-fit c = passes-here line_fits c.args.forms.now c.loop-form.form-index c.form-item.result c.loop-form-test.true c.form-item.is c.loop-form.invariant.fit

pub returns-in-Err-clause-full : goal.returns-in-Err-clause-full
returns-in-Err-clause-full c full =
    let s = c.loop-form.symbols in
    let i = c.loop-form.form-index in
    let x = c.form-item.result in
    let readable = line-readable c.args.forms.now i x c.loop-form-test.true c.form-item.is c.loop-form.invariant.readable in
    full-next SpellsLine with_line line_by Grows-with_line c.args.symbols.now s c.args.forms.now i x c.loop-form.built c.loop-form-test.true c.form-item.is c.loop-form.invariant.lines
    (c.in-Err.ensures.full (ap Err (added-same c.in-Err.e full))) (lines_parse (drop (i + 1) c.args.forms.now) readable.1)

pub loop-form-preserved : goal.loop-form-preserved
loop-form-preserved c =
    let old = c.args.symbols.now in
    let s = c.loop-form.symbols in
    let t = c.add_line.new.symbols in
    let i = c.loop-form.form-index in
    let x = c.form-item.result in
    record {
      lines = built-next SpellsLine with_line line_by Grows-with_line old s t c.args.forms.now i x c.loop-form.built c.push.new.self c.in-Ok.line c.loop-form-test.true c.form-item.is c.loop-form.invariant.lines
          c.in-Ok.ensures.line (where_done c.push.result c.is_err.result c.is_err.ensures.value c.if-is_err.false c.push.ensures.ok);
      readable = (line-readable c.args.forms.now i x c.loop-form-test.true c.form-item.is c.loop-form.invariant.readable).1;
      fit = passes-later line_fits c.args.forms.now i x c.loop-form-test.true c.form-item.is c.loop-form.invariant.fit;
      grows = Grows-trans old s t c.loop-form.invariant.grows c.in-Ok.ensures.grows;
    }

pub returns-clause-lines : goal.returns-clause-lines
returns-clause-lines c = built-all SpellsLine with_line line_by Grows-with_line c.args.symbols.now c.loop-form.symbols c.args.forms.now c.loop-form.form-index c.loop-form.built c.loop-form-test.false c.loop-form.invariant.lines
