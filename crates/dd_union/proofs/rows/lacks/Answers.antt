use Rattle.std.proofs.Common.{ℕ, List, ◌∙◌, ◌++◌, ◌∷◌, [], ap₂, false}
use Rattle.dd_task.specs.Tables.{places_of}
use Rattle.dd_task.proofs.Tabled.{mapped-next}
use Rattle.dd_union.proofs.rows.lacks.Goals as goal

pub loop-y-preserved : goal.loop-y-preserved
loop-y-preserved c =
    c.in_ok-push.ensures.ok
    ∙ ap₂ (λ (ls : List (List ℕ)) (l : List ℕ). ls ++ l ∷ []) c.loop-y.invariant c.in_ok-places.ensures
    ∙ mapped-next (λ y. places_of false y c.args.rows.now) c.loop-y.y
