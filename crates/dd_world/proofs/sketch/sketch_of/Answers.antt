use Rattle.std.proofs.Common.{◌≡◌, ℕ, List, map, length, subst}
use Rattle.dd_world.specs.Sketches.{AreCharts, seen_link}
use Rattle.dd_world.proofs.SketchLists.{none}
use Rattle.dd_world.proofs.SketchWorlds.{sees}
use Rattle.dd_world.proofs.sketch.sketch_of.Goals as goal

pub returns : goal.returns
returns c =
    let w = c.args.w.now in
    let elements = c.in_ok-elements.elements in
    sees w (record { locals = c.in_ok-charts.charts; links = c.in_ok-links.links }) elements c.requires.shaped c.requires.links c.in_ok-elements.ensures
    (subst (λ (l : List (List ℕ)). AreCharts w l c.in_ok-charts.charts (length w.locals)) c.as_slice.ensures c.in_ok-charts.ensures)
    (subst (λ (l : List (List ℕ)). c.in_ok-links.links ≡ map (seen_link l) w.links) c.as_slice-2.ensures c.in_ok-links.ensures) none
