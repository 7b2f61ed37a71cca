use Rattle.std.proofs.Common.{Err, ap, refl, subst, sym}
use Rattle.dd_text.specs.Symbols.{Grows}
use Rattle.dd_text.proofs.Building.{Grows-refl}
use Rattle.dd_cert.specs.declared.form.CertForm.TheVariants as form
use Rattle.dd_cert.specs.Certificates.{Certified, IsEvidence, Tells, Tried}
use Rattle.dd_cert.proofs.Certifying.{line-number-told, line-text-told, lines-found, lines-full}
use Rattle.dd_cert.proofs.Gathering.{Grows-with_lines}
use Rattle.dd_cert.proofs.Passing.{lines-passed}
use Rattle.dd_cert.proofs.read.read_lines.Goals as goal

pub returns-in-Err-clause-reads : goal.returns-in-Err-clause-reads
returns-in-Err-clause-reads c = let t = line-number-told c.args.symbols.now c.args.forms.now c.in-Err.e c.in-Err.ensures in (refl, t.0, t.1, t.2)

pub returns-in-Err-clause-grows : goal.returns-in-Err-clause-grows
returns-in-Err-clause-grows c = Grows-refl c.args.symbols.now

pub returns-in-Err-pass_texts_of-clause-reads : goal.returns-in-Err-pass_texts_of-clause-reads
returns-in-Err-pass_texts_of-clause-reads c =
    let t = line-text-told c.args.symbols.now c.args.forms.now c.in_default.field-0 c.in-Err-pass_texts_of.e c.in_default.ensures c.in-Err-pass_texts_of.ensures in
    (refl, t.0, t.1, t.2)

pub returns-in-Err-pass_texts_of-clause-grows : goal.returns-in-Err-pass_texts_of-clause-grows
returns-in-Err-pass_texts_of-clause-grows c = Grows-refl c.args.symbols.now

pub certify_lines-requires-clause-readable : goal.certify_lines-requires-clause-readable
certify_lines-requires-clause-readable c = c.in_default-pass_texts_of.ensures.0

pub certify_lines-requires-clause-fit : goal.certify_lines-requires-clause-fit
certify_lines-requires-clause-fit c = lines-passed c.args.forms.now c.in_default.field-0 c.in_default.ensures

pub returns-in-Ok-clause-reads : goal.returns-in-Ok-clause-reads
returns-in-Ok-clause-reads c =
    lines-found c.args.symbols.now c.certify_lines.new.symbols c.args.forms.now c.in_default.field-0 c.in-Ok.lines c.in_default.ensures c.in-Ok.ensures.lines c.in-Ok.ensures.few

pub returns-in-Ok-clause-grows : goal.returns-in-Ok-clause-grows
returns-in-Ok-clause-grows c = subst (Grows c.args.symbols.now) (sym c.in-Ok.ensures.lines.symbols) (Grows-with_lines c.args.symbols.now c.in-Ok.ensures.lines.trees)

pub returns-in-Err-certify_lines-clause-reads : goal.returns-in-Err-certify_lines-clause-reads
returns-in-Err-certify_lines-clause-reads c =
    let failed = c.in-Err-certify_lines.ensures in
    let t = subst (λ e. (found : Tried Certified) × IsEvidence c.args.symbols.now (form.Yes c.args.forms.now) found × Tells e found) (sym c.refused.ensures)
    (lines-full c.args.symbols.now c.args.forms.now c.in_default.field-0 c.in-Err-certify_lines.e c.in_default.ensures (λ is. failed.full (ap Err is))) in
    (failed.err, t.0, t.1, t.2)

pub returns-in-Err-certify_lines-clause-grows : goal.returns-in-Err-certify_lines-clause-grows
returns-in-Err-certify_lines-clause-grows c = subst (Grows c.args.symbols.now) (sym c.in-Err-certify_lines.ensures.err) (Grows-refl c.args.symbols.now)
