-- Each read adds to what is held; nothing is dropped before the line ends.
use Rattle.std.proofs.Common.{◌≤◌, [], length, refl, arith, rules}
use Rattle.dd_lines.proofs.Readings.{passes-start, passes-more}
use Rattle.dd_lines.proofs.Stopping.{budget-falls, searched-more, gathers-ended, stops-over, stops-broken}
use Rattle.dd_lines.proofs.reader.LineReader.gather.Goals as goal

pub loop-size-init : goal.loop-size-init
loop-size-init g c = record {
  passes = passes-start c.args.self.now (g.S.Source.left c.args.source.now) c.requires;
  within = omega arith;
  none = refl;
  counts = omega arith;
}

pub loop-size-preserved : goal.loop-size-preserved
loop-size-preserved g c =
    let old = c.args.self.now in
    let left = g.S.Source.left c.args.source.now in
    let mid = c.loop-size.self in
    let l = g.S.Source.left c.loop-size.source in
    let new = c.more.new.self in
    let rest = g.S.Source.left c.more.new.source in
    let before = g.S.Source.fault_count c.loop-size.source in
    let after = g.S.Source.fault_count c.more.new.source in
    let f = c.in-More.ensures.fills in
    let searched = searched-more mid l new rest before after c.held_len-searched.result f c.held_len-searched.ensures c.in_default.ensures in
    record {
      passes = passes-more old left mid l new rest [] before after c.loop-size.invariant.passes f;
      within = searched.0;
      none = searched.1;
      counts = omega (arith, c.loop-size.invariant.counts, c.in-More.ensures.counts);
    }

pub loop-size-smaller : goal.loop-size-smaller
loop-size-smaller g c =
    budget-falls c.loop-size.self (g.S.Source.left c.loop-size.source) c.more.new.self (g.S.Source.left c.more.new.source)
    (g.S.Source.fault_count c.loop-size.source) (g.S.Source.fault_count c.more.new.source) c.in-More.ensures.fills

pub returns-in-Ended-clause-stop : goal.returns-in-Ended-clause-stop
returns-in-Ended-clause-stop g c =
    let short : length c.loop-size.self.held ≤ c.loop-size.self.max_line = search rules in
    gathers-ended c.args.self.now (g.S.Source.left c.args.source.now) c.loop-size.self (g.S.Source.left c.loop-size.source)
    c.more.new.self (g.S.Source.left c.more.new.source) (g.S.Source.fault_count c.args.source.now)
    (g.S.Source.fault_count c.loop-size.source) (g.S.Source.fault_count c.more.new.source) c.loop-size.invariant.passes
    c.in_default.ensures short c.in-Ended.ensures.fills

pub returns-in-Over-clause-stop : goal.returns-in-Over-clause-stop
returns-in-Over-clause-stop g c =
    stops-over c.args.self.now (g.S.Source.left c.args.source.now) c.loop-size.self (g.S.Source.left c.loop-size.source)
    c.more.new.self (g.S.Source.left c.more.new.source) [] (g.S.Source.fault_count c.args.source.now)
    (g.S.Source.fault_count c.loop-size.source) (g.S.Source.fault_count c.more.new.source) c.loop-size.invariant.passes
    c.in_default.ensures c.in-Over.ensures.fills

pub returns-in-Broken-clause-stop : goal.returns-in-Broken-clause-stop
returns-in-Broken-clause-stop g c =
    stops-broken c.args.self.now (g.S.Source.left c.args.source.now) c.loop-size.self (g.S.Source.left c.loop-size.source)
    c.more.new.self (g.S.Source.left c.more.new.source) [] (g.S.Source.fault_count c.args.source.now)
    (g.S.Source.fault_count c.loop-size.source) (g.S.Source.fault_count c.more.new.source) c.loop-size.invariant.passes
    c.in_default.ensures c.loop-size.invariant.counts c.in-Broken.ensures.fills
