use Rattle.std.proofs.Common.{◌≡◌, ◌∙◌, ℕ, ◌<◌, true, List, [], length, get_or, All, refl, subst, sym}
use Rattle.dd_interp.specs.declared.interp.Interp.{Interp}
use Rattle.dd_interp.specs.Places.{is_listed}
use Rattle.dd_interp.specs.Seen.{IsSeenAt}
use Rattle.dd_set.specs.Sets.{IsRising}
use Rattle.dd_world.proofs.SketchLists.{item_is, same_length, role_ends, charts_more}
use Rattle.dd_world.proofs.sketch.charts.Goals as goal

pub new-requires-clause-rising : goal.new-requires-clause-rising
new-requires-clause-rising c =
    let n = c.loop-peer.peer in
    let i = c.index-locals-peer.result in
    let lt = same_length _ c.args.w.now.locals n c.as_slice-locals.ensures c.loop-peer-test.true in
    let h = c.requires.each n i lt in
    let count = c.requires.count in
    let es = c.as_slice.ensures ∙ item_is c.args.elements.now c.args.elements.now n c.index-elements-peer.result [] refl c.index-elements-peer.is (subst (λ m. n < m) (sym count) lt) in
    subst IsRising (sym es) h.rising

pub new-requires-clause-ends : goal.new-requires-clause-ends
new-requires-clause-ends c =
    let n = c.loop-peer.peer in
    let i = c.index-locals-peer.result in
    let lt = same_length _ c.args.w.now.locals n c.as_slice-locals.ensures c.loop-peer-test.true in
    let count = c.requires.count in
    let es = c.as_slice.ensures ∙ item_is c.args.elements.now c.args.elements.now n c.index-elements-peer.result [] refl c.index-elements-peer.is (subst (λ m. n < m) (sym count) lt) in
    let local = item_is _ c.args.w.now.locals n i i c.as_slice-locals.ensures c.index-locals-peer.is c.loop-peer-test.true in
    subst (λ (l : List ℕ). All (λ (t : ℕ × ℕ × ℕ). is_listed l t.2 ≡ true) i.roles) (sym es)
    (subst (λ (j : Interp). All (λ (t : ℕ × ℕ × ℕ). is_listed (get_or c.args.elements.now n []) t.2 ≡ true) j.roles) (sym local)
    (role_ends c.args.w.now c.args.elements.now (length c.args.w.now.locals) n i c.requires lt))

pub loop-peer-preserved : goal.loop-peer-preserved
loop-peer-preserved c =
    let n = c.loop-peer.peer in
    let i = c.index-locals-peer.result in
    let lt = same_length _ c.args.w.now.locals n c.as_slice-locals.ensures c.loop-peer-test.true in
    let count = c.requires.count in
    let es = c.as_slice.ensures ∙ item_is c.args.elements.now c.args.elements.now n c.index-elements-peer.result [] refl c.index-elements-peer.is (subst (λ m. n < m) (sym count) lt) in
    charts_more c.args.w.now c.args.elements.now c.loop-peer.charts c.push.new.self c.in_ok-chart.chart n c.in_ok-push.ensures.ok c.loop-peer.invariant
    (λ d. subst (λ (j : Interp). IsSeenAt j (get_or c.args.elements.now n []) c.in_ok-chart.chart) (item_is _ c.args.w.now.locals n i d c.as_slice-locals.ensures c.index-locals-peer.is c.loop-peer-test.true)
    (subst (λ (l : List ℕ). IsSeenAt i l c.in_ok-chart.chart) es c.in_ok-chart.ensures))
