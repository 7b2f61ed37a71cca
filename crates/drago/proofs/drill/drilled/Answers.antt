use Rattle.std.proofs.Common.{◌∙◌, ◌++◌, ◌∷◌, [], ℕ, List, ap, sym, subst}
use Rattle.dd_gen.specs.Made.{lines_of_make}
use Rattle.drago.specs.Drilled.{IsDrilled}
use Rattle.drago.specs.Drills.{AreKinds}
use Rattle.drago.proofs.Drilling as drilling
use Rattle.drago.proofs.drill.drilled.Goals as goal

pub returns : goal.returns
returns c =
    let lines = lines_of_make c.args.from.seed c.args.from.peers c.args.from.size in
    let kinds = c.as_slice.result.now in
    let told = subst (λ (ls : List (List ℕ)). AreKinds ls c.in_ok-kinds.kinds.items) c.in_ok-lines.ensures c.in_ok-kinds.ensures in
    let seen = subst (AreKinds lines) (sym c.as_slice.ensures.value) told in
    subst (IsDrilled c.args.from) (sym (c.in_ok-push.ensures.items ∙ ap (λ (t : List ℕ). t ++ 10 ∷ []) c.in_ok-text.ensures))
    (drilling.drilled c.args.from kinds c.requires seen)
