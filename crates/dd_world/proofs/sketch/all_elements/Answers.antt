use Rattle.std.proofs.Common.{◌≡◌, ℕ, ◌<◌, List, All, subst, sym}
use Rattle.dd_interp.specs.declared.interp.Interp.{Interp}
use Rattle.dd_interp.specs.Satisfies.{IsShaped}
use Rattle.dd_world.specs.Mentions.{AreSeen, mentions_of}
use Rattle.dd_world.proofs.SketchLists.{item_is, same_length, ends_below, seen_more}
use Rattle.dd_world.proofs.sketch.all_elements.Goals as goal

pub elements_of-requires-clause-shaped : goal.elements_of-requires-clause-shaped
elements_of-requires-clause-shaped c =
    let i = c.index-locals-peer.result in
    subst IsShaped (sym (item_is _ c.args.w.now.locals c.loop-peer.peer i i c.as_slice-locals.ensures c.index-locals-peer.is c.loop-peer-test.true))
    (c.requires.shaped c.loop-peer.peer i (same_length _ c.args.w.now.locals c.loop-peer.peer c.as_slice-locals.ensures c.loop-peer-test.true))

pub elements_of-requires-clause-ends : goal.elements_of-requires-clause-ends
elements_of-requires-clause-ends c =
    let n = c.loop-peer.peer in
    let i = c.index-locals-peer.result in
    let local = item_is _ c.args.w.now.locals n i i c.as_slice-locals.ensures c.index-locals-peer.is c.loop-peer-test.true in
    subst (λ (l : List (ℕ × ℕ × ℕ × ℕ)). All (λ (l : ℕ × ℕ × ℕ × ℕ). (l.0 ≡ n → l.2 < i.size) × (l.1 ≡ n → l.3 < i.size)) l) (sym c.as_slice.ensures)
    (subst (λ (j : Interp). All (λ (l : ℕ × ℕ × ℕ × ℕ). (l.0 ≡ n → l.2 < j.size) × (l.1 ≡ n → l.3 < j.size)) c.args.w.now.links) (sym local)
    (ends_below c.args.w.now c.requires.links n i (same_length _ c.args.w.now.locals n c.as_slice-locals.ensures c.loop-peer-test.true)))

pub loop-peer-preserved : goal.loop-peer-preserved
loop-peer-preserved c =
    let n = c.loop-peer.peer in
    let i = c.index-locals-peer.result in
    let links = c.args.w.now.links in
    seen_more c.args.w.now c.loop-peer.elements c.push.new.self c.in_ok-seen.seen n c.in_ok-push.ensures.ok c.loop-peer.invariant
    (λ d. subst (λ (j : Interp). AreSeen j.size (mentions_of n j links) c.in_ok-seen.seen) (item_is _ c.args.w.now.locals n i d c.as_slice-locals.ensures c.index-locals-peer.is c.loop-peer-test.true)
    (subst (λ (l : List (ℕ × ℕ × ℕ × ℕ)). AreSeen i.size (mentions_of n i l) c.in_ok-seen.seen) c.as_slice.ensures c.in_ok-seen.ensures))
