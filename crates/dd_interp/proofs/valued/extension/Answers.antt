use Rattle.std.proofs.Common.{sym, subst, List, ℕ}
use Rattle.dd_interp.specs.Meaning.{meaning}
use Rattle.dd_interp.specs.Places.{HaveSame}
use Rattle.dd_interp.specs.Seen.{IsSeenAt}
use Rattle.dd_interp.proofs.Charts.{ends_listed, each_listed, chart_values}
use Rattle.dd_interp.proofs.Results.{if_ok}
use Rattle.dd_interp.proofs.valued.extension.Goals as goal

pub new-requires-clause-ends : goal.new-requires-clause-ends
new-requires-clause-ends c = ends_listed c.args.elements.now c.as_slice.result.now c.args.i.now.roles
    (subst (λ (l : List ℕ). HaveSame c.args.elements.now l) (sym c.as_slice.ensures.value) c.in_ok-places.ensures.same) c.requires

pub returns : goal.returns
returns c =
    let i = c.args.i.now in
    let es = c.args.elements.now in
    let places = c.as_slice-2.result.now in
    let seen = subst (λ (l : List ℕ). IsSeenAt i l c.in_ok-chart.chart) c.as_slice.ensures.value c.in_ok-chart.ensures in
    let seen_here = subst (λ (l : List ℕ). IsSeenAt i l c.in_ok-chart.chart) (sym c.as_slice-2.ensures.value) seen in
    let same = subst (λ (l : List ℕ). HaveSame es l) (sym c.as_slice-2.ensures.value) c.in_ok-places.ensures.same in
    if_ok c.values.result (λ v h. h (meaning i c.args.c.now) (chart_values i c.in_ok-chart.chart places c.args.c.now c.in_ok-row.row seen_here c.in_ok-row.ensures) (each_listed es places same)) c.values.ensures
