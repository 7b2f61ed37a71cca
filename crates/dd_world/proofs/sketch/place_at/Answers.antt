use Rattle.std.proofs.Common.{◌≡◌, ◌∙◌, ℕ, ◌<◌, List, [], length, get_or, subst}
use Rattle.dd_world.proofs.SketchLists.{place_is}
use Rattle.dd_world.proofs.sketch.place_at.Goals as goal

pub returns-in-Some-place_of : goal.returns-in-Some-place_of
returns-in-Some-place_of c =
    let es : List ℕ = get_or c.args.elements.now c.args.peer [] in
    let same : c.as_slice.result.now ≡ es = c.as_slice.ensures ∙ c.in-Some.ensures.lookup.3.1 [] in
    place_is es c.args.x c.in-Some-place_of.place c.requires.rising
    (subst (λ (l : List ℕ). c.in-Some-place_of.place < length l) same c.in-Some-place_of.ensures.0)
    (subst (λ (l : List ℕ). get_or l c.in-Some-place_of.place 0 ≡ c.args.x) same c.in-Some-place_of.ensures.1)
