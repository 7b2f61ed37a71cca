use Rattle.std.proofs.Common.{sym}
use Rattle.dd_union.proofs.Gathered.{there-at}
use Rattle.dd_union.proofs.links.join_at.Goals as goal

pub join_part-requires-clause-shaped : goal.join_part-requires-clause-shaped
join_part-requires-clause-shaped c =
    let s = there-at c.args.b.now c.args.session c.requires.there in
    c.requires.shaped s.0 s.1 c.args.t c.in-Some.to (c.in-Some-opening.model.now, c.in-Some-opening.field-0-1)
    (sym c.in-Some.ensures.value) (sym (c.in-Some-opening.ensures s.0 s.1))
