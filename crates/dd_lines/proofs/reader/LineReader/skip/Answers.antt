-- What was dropped has no line feed and is longer than a line.
use Rattle.std.proofs.Common.{◌++◌, [], arith}
use Rattle.std.proofs.lemmas.Option.{slice_get_within}
use Rattle.dd_lines.proofs.Readings.{passes-start, passes-more}
use Rattle.dd_lines.proofs.Stopping.{cleared, budget-falls, skips-clear, skips-more, skips-empty, skips-ended, skips-feed, stops-over, stops-broken}
use Rattle.dd_lines.proofs.reader.LineReader.skip.Goals as goal

pub loop-self-init : goal.loop-self-init
loop-self-init g c = (
  [],
  record {
    passes = passes-start c.args.self.now (g.S.Source.left c.args.source.now) c.requires.can;
    none = c.requires.no_feed;
    long = c.requires.long;
  },
  omega arith,
)

pub more-requires-clause-can : goal.more-requires-clause-can
more-requires-clause-can g c =
    (skips-clear c.args.self.now (g.S.Source.left c.args.source.now) c.loop-self.self (g.S.Source.left c.loop-self.source) c.clear.new.self c.loop-self.invariant.0 c.loop-self.invariant.1 c.clear.ensures).passes.can

pub returns-in-Ended-clause-answer : goal.returns-in-Ended-clause-answer
returns-in-Ended-clause-answer g c =
    let old = c.args.self.now in
    let left = g.S.Source.left c.args.source.now in
    let l = g.S.Source.left c.loop-self.source in
    let s = skips-clear old left c.loop-self.self l c.clear.new.self c.loop-self.invariant.0 c.loop-self.invariant.1 c.clear.ensures in
    skips-ended old left c.clear.new.self l c.more.new.self (g.S.Source.left c.more.new.source) (c.loop-self.invariant.0 ++ c.loop-self.self.held)
    (g.S.Source.fault_count c.loop-self.source) (g.S.Source.fault_count c.more.new.source)
    s (cleared c.loop-self.self c.clear.new.self c.clear.ensures).0 c.in-Ended.ensures.fills

pub returns-in-Over-clause-stops : goal.returns-in-Over-clause-stops
returns-in-Over-clause-stops g c =
    let old = c.args.self.now in
    let left = g.S.Source.left c.args.source.now in
    let l = g.S.Source.left c.loop-self.source in
    let s = skips-clear old left c.loop-self.self l c.clear.new.self c.loop-self.invariant.0 c.loop-self.invariant.1 c.clear.ensures in
    (stops-over old left c.clear.new.self l c.more.new.self (g.S.Source.left c.more.new.source) (c.loop-self.invariant.0 ++ c.loop-self.self.held)
    (g.S.Source.fault_count c.args.source.now) (g.S.Source.fault_count c.loop-self.source) (g.S.Source.fault_count c.more.new.source)
    s.passes s.none c.in-Over.ensures.fills).1

pub returns-in-Broken-clause-stops : goal.returns-in-Broken-clause-stops
returns-in-Broken-clause-stops g c =
    let old = c.args.self.now in
    let left = g.S.Source.left c.args.source.now in
    let l = g.S.Source.left c.loop-self.source in
    let s = skips-clear old left c.loop-self.self l c.clear.new.self c.loop-self.invariant.0 c.loop-self.invariant.1 c.clear.ensures in
    (stops-broken old left c.clear.new.self l c.more.new.self (g.S.Source.left c.more.new.source) (c.loop-self.invariant.0 ++ c.loop-self.self.held)
    (g.S.Source.fault_count c.args.source.now) (g.S.Source.fault_count c.loop-self.source) (g.S.Source.fault_count c.more.new.source)
    s.passes s.none c.loop-self.invariant.2 c.in-Broken.ensures.fills).1

pub pass-requires : goal.pass-requires
pass-requires g c = slice_get_within c.more.new.self.held c.in-Some.size 10 c.in-Some.ensures.0

pub returns-in-Some-clause-answer : goal.returns-in-Some-clause-answer
returns-in-Some-clause-answer g c =
    let old = c.args.self.now in
    let left = g.S.Source.left c.args.source.now in
    let l = g.S.Source.left c.loop-self.source in
    let rest = g.S.Source.left c.more.new.source in
    let passed = c.loop-self.invariant.0 ++ c.loop-self.self.held in
    let s = skips-clear old left c.loop-self.self l c.clear.new.self c.loop-self.invariant.0 c.loop-self.invariant.1 c.clear.ensures in
    let e = skips-empty old left c.clear.new.self l passed s (cleared c.loop-self.self c.clear.new.self c.clear.ensures).0 in
    let p = passes-more old left c.clear.new.self l c.more.new.self rest passed (g.S.Source.fault_count c.loop-self.source) (g.S.Source.fault_count c.more.new.source) s.passes c.in-More.ensures.fills in
    skips-feed old left c.more.new.self c.pass.new.self rest passed c.in-Some.size p e.0 e.1 c.in-Some.ensures c.pass.ensures

pub loop-self-smaller : goal.loop-self-smaller
loop-self-smaller g c =
    let f = budget-falls c.clear.new.self (g.S.Source.left c.loop-self.source) c.more.new.self (g.S.Source.left c.more.new.source)
    (g.S.Source.fault_count c.loop-self.source) (g.S.Source.fault_count c.more.new.source) c.in-More.ensures.fills in
    omega (arith, f, cleared c.loop-self.self c.clear.new.self c.clear.ensures)

pub loop-self-preserved : goal.loop-self-preserved
loop-self-preserved g c =
    let old = c.args.self.now in
    let left = g.S.Source.left c.args.source.now in
    let l = g.S.Source.left c.loop-self.source in
    let passed = c.loop-self.invariant.0 ++ c.loop-self.self.held in
    let s = skips-clear old left c.loop-self.self l c.clear.new.self c.loop-self.invariant.0 c.loop-self.invariant.1 c.clear.ensures in
    let held = (cleared c.loop-self.self c.clear.new.self c.clear.ensures).0 in (
      passed,
      skips-more old left c.clear.new.self l c.more.new.self (g.S.Source.left c.more.new.source) passed (g.S.Source.fault_count c.loop-self.source) (g.S.Source.fault_count c.more.new.source)
          s held c.in-More.ensures.fills c.in_default.ensures,
      omega (arith, c.loop-self.invariant.2, c.in-More.ensures.counts),
    )
