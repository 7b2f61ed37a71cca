use Rattle.std.proofs.Common.{◌≡◌, ℕ, ◌<◌, ◌^◌, true, List, [], length, get_or, subst, sym, arith}
use Rattle.dd_interp.specs.Places.{is_listed}
use Rattle.dd_set.specs.Sets.{IsRising}
use Rattle.dd_world.proofs.SketchLists.{none, same_length, from_listed, to_listed, link_from, link_to}
use Rattle.dd_world.proofs.sketch.seen_links.Goals as goal

pub place_at-from-requires-clause-rising : goal.place_at-from-requires-clause-rising
place_at-from-requires-clause-rising c =
    let lt = same_length _ c.args.w.now.links c.loop-link.link-index c.as_slice-link-items.ensures (omega (arith, c.loop-link-test.true)) in
    subst (λ (l : List (ℕ × ℕ × ℕ × ℕ)). IsRising (get_or c.args.elements.now (get_or l c.loop-link.link-index (0, 0, 0, 0)).0 [])) (sym c.as_slice-link-items.ensures)
    (c.requires.seen.each (get_or c.args.w.now.links c.loop-link.link-index (0, 0, 0, 0)).0 none (link_from c.args.w.now c.requires.links c.loop-link.link-index (0, 0, 0, 0) lt)).rising

pub place_at-from-requires-clause-few : goal.place_at-from-requires-clause-few
place_at-from-requires-clause-few c =
    let lt = same_length _ c.args.w.now.links c.loop-link.link-index c.as_slice-link-items.ensures (omega (arith, c.loop-link-test.true)) in
    subst (λ (l : List (ℕ × ℕ × ℕ × ℕ)). length (get_or c.args.elements.now (get_or l c.loop-link.link-index (0, 0, 0, 0)).0 []) < 2 ^ 32) (sym c.as_slice-link-items.ensures)
    (c.requires.seen.each (get_or c.args.w.now.links c.loop-link.link-index (0, 0, 0, 0)).0 none (link_from c.args.w.now c.requires.links c.loop-link.link-index (0, 0, 0, 0) lt)).few

pub place_at-from-requires-clause-listed : goal.place_at-from-requires-clause-listed
place_at-from-requires-clause-listed c =
    let lt = same_length _ c.args.w.now.links c.loop-link.link-index c.as_slice-link-items.ensures (omega (arith, c.loop-link-test.true)) in
    subst (λ (l : List (ℕ × ℕ × ℕ × ℕ)). is_listed (get_or c.args.elements.now (get_or l c.loop-link.link-index (0, 0, 0, 0)).0 []) (get_or l c.loop-link.link-index (0, 0, 0, 0)).2 ≡ true) (sym c.as_slice-link-items.ensures)
    (from_listed c.args.w.now c.requires.links c.args.elements.now c.requires.seen none c.loop-link.link-index (0, 0, 0, 0) lt)

pub place_at-to-requires-clause-rising : goal.place_at-to-requires-clause-rising
place_at-to-requires-clause-rising c =
    let lt = same_length _ c.args.w.now.links c.loop-link.link-index c.as_slice-link-items.ensures (omega (arith, c.loop-link-test.true)) in
    subst (λ (l : List (ℕ × ℕ × ℕ × ℕ)). IsRising (get_or c.args.elements.now (get_or l c.loop-link.link-index (0, 0, 0, 0)).1 [])) (sym c.as_slice-link-items.ensures)
    (c.requires.seen.each (get_or c.args.w.now.links c.loop-link.link-index (0, 0, 0, 0)).1 none (link_to c.args.w.now c.requires.links c.loop-link.link-index (0, 0, 0, 0) lt)).rising

pub place_at-to-requires-clause-few : goal.place_at-to-requires-clause-few
place_at-to-requires-clause-few c =
    let lt = same_length _ c.args.w.now.links c.loop-link.link-index c.as_slice-link-items.ensures (omega (arith, c.loop-link-test.true)) in
    subst (λ (l : List (ℕ × ℕ × ℕ × ℕ)). length (get_or c.args.elements.now (get_or l c.loop-link.link-index (0, 0, 0, 0)).1 []) < 2 ^ 32) (sym c.as_slice-link-items.ensures)
    (c.requires.seen.each (get_or c.args.w.now.links c.loop-link.link-index (0, 0, 0, 0)).1 none (link_to c.args.w.now c.requires.links c.loop-link.link-index (0, 0, 0, 0) lt)).few

pub place_at-to-requires-clause-listed : goal.place_at-to-requires-clause-listed
place_at-to-requires-clause-listed c =
    let lt = same_length _ c.args.w.now.links c.loop-link.link-index c.as_slice-link-items.ensures (omega (arith, c.loop-link-test.true)) in
    subst (λ (l : List (ℕ × ℕ × ℕ × ℕ)). is_listed (get_or c.args.elements.now (get_or l c.loop-link.link-index (0, 0, 0, 0)).1 []) (get_or l c.loop-link.link-index (0, 0, 0, 0)).3 ≡ true) (sym c.as_slice-link-items.ensures)
    (to_listed c.args.w.now c.requires.links c.args.elements.now c.requires.seen none c.loop-link.link-index (0, 0, 0, 0) lt)
