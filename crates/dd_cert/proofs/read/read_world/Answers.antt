use Rattle.std.proofs.Common.{ap, refl, subst, sym, Err}
use Rattle.dd_cert.specs.Certificates.{Tells, certified_world}
use Rattle.dd_text.specs.Symbols.{Grows}
use Rattle.dd_text.proofs.Building.{Grows-refl}
use Rattle.dd_cert.proofs.Adding.{Grows-with_locals}
use Rattle.dd_cert.proofs.Certifying.{cert-found, full-told, number-told, refused-told, text-told}
use Rattle.dd_cert.proofs.Passing.{numbers-passed, texts-passed}
use Rattle.dd_cert.proofs.read.read_world.Goals as goal

pub returns-in-Err-clause-reads : goal.returns-in-Err-clause-reads
returns-in-Err-clause-reads c = (refl, number-told c.args.symbols.now c.args.form.now c.in-Err.e c.in-Err.ensures)

pub returns-in-Err-pass_texts-clause-reads : goal.returns-in-Err-pass_texts-clause-reads
returns-in-Err-pass_texts-clause-reads c =
    (refl, text-told c.args.symbols.now c.args.form.now c.in_default.field-0 c.in-Err-pass_texts.e c.in_default.ensures c.in-Err-pass_texts.ensures)

pub certify-requires-clause-named : goal.certify-requires-clause-named
certify-requires-clause-named c = texts-passed c.args.form.now c.in_default-pass_texts.field-0 c.in_default-pass_texts.ensures

pub certify-requires-clause-fit : goal.certify-requires-clause-fit
certify-requires-clause-fit c = numbers-passed c.args.form.now c.in_default.field-0 c.in_default.ensures

pub returns-in-Ok-clause-reads : goal.returns-in-Ok-clause-reads
returns-in-Ok-clause-reads c =
    let made = c.in-Ok.ensures in
    cert-found c.args.symbols.now c.certify.new.symbols c.args.form.now c.in_default.field-0 c.in_default-pass_texts.field-0 c.in-Ok.world
    c.in_default.ensures c.in_default-pass_texts.ensures made.symbols made.few made.world

pub returns-in-Err-certify-clause-reads : goal.returns-in-Err-certify-clause-reads
returns-in-Err-certify-clause-reads c =
    let old = c.args.symbols.now in
    let w = c.args.form.now in
    let failed = c.in-Err-certify.ensures in (
      failed.err,
      subst (λ e. Tells e (certified_world old w)) (sym c.refused.ensures)
          (refused-told c.in-Err-certify.e (certified_world old w) (λ is. full-told old w c.in_default.field-0 c.in_default-pass_texts.field-0
          c.in_default.ensures c.in_default-pass_texts.ensures (failed.full (ap Err is)))),
    )

pub returns-in-Err-clause-grows : goal.returns-in-Err-clause-grows
returns-in-Err-clause-grows c = Grows-refl c.args.symbols.now

pub returns-in-Err-pass_texts-clause-grows : goal.returns-in-Err-pass_texts-clause-grows
returns-in-Err-pass_texts-clause-grows c = Grows-refl c.args.symbols.now

pub returns-in-Ok-clause-grows : goal.returns-in-Ok-clause-grows
returns-in-Ok-clause-grows c = subst (Grows c.args.symbols.now) (sym c.in-Ok.ensures.symbols) (Grows-with_locals c.args.symbols.now c.args.form.now.locals)

pub returns-in-Err-certify-clause-grows : goal.returns-in-Err-certify-clause-grows
returns-in-Err-certify-clause-grows c = subst (Grows c.args.symbols.now) (sym c.in-Err-certify.ensures.err) (Grows-refl c.args.symbols.now)
