use Rattle.dd_cert.specs.Steps.{with_name, has_name}
use Rattle.dd_text.proofs.Building.{Grows-trans}
use Rattle.dd_cert.proofs.Adding.{Grows-with_name, full-at, gather-all, gather-next, passes-here, passes-later}
use Rattle.dd_cert.proofs.add.add_names.Goals as goal

pub add_name-requires : goal.add_name-requires
add_name-requires c = passes-here has_name c.args.names.now c.loop-name.name-index c.name-item.result c.loop-name-test.true c.name-item.is c.loop-name.invariant.named

pub returns-in-Err-clause-full : goal.returns-in-Err-clause-full
returns-in-Err-clause-full c e = full-at with_name Grows-with_name c.args.symbols.now c.loop-name.symbols c.args.names.now c.loop-name.name-index c.name-item.result
    c.loop-name-test.true c.name-item.is c.loop-name.invariant.same (c.in-Err.ensures.full e)

pub loop-name-preserved : goal.loop-name-preserved
loop-name-preserved c =
    let s = c.loop-name.symbols in
    let i = c.loop-name.name-index in
    let x = c.name-item.result in
    let before = c.loop-name.invariant in
    let added = c.in_default.ensures in
    record {
      same = gather-next with_name c.args.symbols.now s c.add_name.new.symbols c.args.names.now i x c.loop-name-test.true c.name-item.is before.same added.ok;
      named = passes-later has_name c.args.names.now i x c.loop-name-test.true c.name-item.is before.named;
      few = added.few;
      grows = Grows-trans c.args.symbols.now s c.add_name.new.symbols before.grows added.grows;
    }

pub returns-clause-ok : goal.returns-clause-ok
returns-clause-ok c = gather-all with_name c.args.symbols.now c.loop-name.symbols c.args.names.now c.loop-name.name-index c.loop-name.invariant.same c.loop-name-test.false
