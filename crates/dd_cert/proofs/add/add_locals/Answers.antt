use Rattle.dd_text.proofs.Building.{Grows-trans}
use Rattle.dd_cert.specs.Steps.{has_names, with_local}
use Rattle.dd_cert.proofs.Adding.{Grows-with_local, full-at, gather-all, gather-next, passes-later}
use Rattle.dd_cert.proofs.add.add_locals.Goals as goal

pub returns-in-Err-clause-full : goal.returns-in-Err-clause-full
returns-in-Err-clause-full c e = full-at with_local Grows-with_local c.args.symbols.now c.loop-local.symbols c.args.locals.now c.loop-local.local-index c.local-item.result
    c.loop-local-test.true c.local-item.is c.loop-local.invariant.same (c.in-Err.ensures.full e)

pub loop-local-preserved : goal.loop-local-preserved
loop-local-preserved c =
    let s = c.loop-local.symbols in
    let i = c.loop-local.local-index in
    let x = c.local-item.result in
    let before = c.loop-local.invariant in
    let added = c.in_default.ensures in
    record {
      same = gather-next with_local c.args.symbols.now s c.add_local.new.symbols c.args.locals.now i x c.loop-local-test.true c.local-item.is before.same added.ok;
      named = passes-later has_names c.args.locals.now i x c.loop-local-test.true c.local-item.is before.named;
      few = added.few;
      grows = Grows-trans c.args.symbols.now s c.add_local.new.symbols before.grows added.grows;
    }

pub returns-clause-ok : goal.returns-clause-ok
returns-clause-ok c = gather-all with_local c.args.symbols.now c.loop-local.symbols c.args.locals.now c.loop-local.local-index c.loop-local.invariant.same c.loop-local-test.false
