use Rattle.std.proofs.Common.{rules, ◌+◌, subst, sym}
use Rattle.dd_trim.proofs.Kept.{PlacesTo, places-start, places-more}
use Rattle.dd_trim.proofs.places.places_of.Goals as goal

pub loop-mark-init : goal.loop-mark-init
loop-mark-init c = subst (λ xs. PlacesTo c.args.marks.now 0 xs 0) (sym c.new-places.ensures.items) (places-start c.args.marks.now)

pub loop-mark-preserved : goal.loop-mark-preserved
loop-mark-preserved c = subst (λ xs. PlacesTo c.args.marks.now (c.loop-mark.mark-index + 1) xs c.in_ok-next.next) (sym c.in_ok-push.ensures.items)
    (places-more c.args.marks.now c.loop-mark.mark-index c.loop-mark.places.items c.loop-mark.next c.in_ok-next.next (search rules) c.loop-mark.invariant (search rules))
