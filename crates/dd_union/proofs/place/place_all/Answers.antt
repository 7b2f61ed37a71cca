use Rattle.std.proofs.Common.{◌∙◌, ◌+◌, ◌∷◌, [], length, ap, subst, sym}
use Rattle.std.proofs.lemmas.List.{length-append}
use Rattle.dd_union.proofs.Gathered.{there-at}
use Rattle.dd_union.proofs.Placing.{place-next}
use Rattle.dd_union.specs.Pieces.{ArePlaced, PutsPart}
use Rattle.dd_union.proofs.place.place_all.Goals as goal

pub loop-t-init : goal.loop-t-init
loop-t-init c = (ap length c.new-places.ensures.items, λ s at. subst (λ ps. ArePlaced s ps c.args.locals.now.items) (sym c.new-places.ensures.items) (c.requires.none s at))

pub place_task-requires-clause-shaped : goal.place_task-requires-clause-shaped
place_task-requires-clause-shaped c =
    let s = there-at c.args.b.now c.args.session c.requires.there in (c.loop-t.invariant.1 s.0 s.1).shaped

pub loop-t-preserved : goal.loop-t-preserved
loop-t-preserved c = (
  ap length c.in_ok-push.ensures.items ∙ length-append c.loop-t.places.items (c.in_ok-place_task.field-0 ∷ []) ∙ ap (λ n. n + 1) c.loop-t.invariant.0,
  λ s at. subst (λ ps. ArePlaced s ps c.place_task.new.locals.items) (sym c.in_ok-push.ensures.items)
      (place-next s c.loop-t.places.items c.loop-t.locals.items c.place_task.new.locals.items (c.loop-t.invariant.1 s at) c.in_ok-place_task.field-0
      (subst (λ n. PutsPart s n c.loop-t.locals.items c.place_task.new.locals.items c.in_ok-place_task.field-0) (sym c.loop-t.invariant.0) (c.in_ok-place_task.ensures s at))),
)
