use Rattle.std.proofs.Common.{◌<◌, sym, subst}
use Rattle.dd_close.proofs.choose.add_premise.Goals as goal

pub insert-requires : goal.insert-requires
insert-requires c = subst (λ w. c.in-Some.n < w) (sym c.requires.width) (c.width-width.ensures.packed.within c.in-Some.n (c.requires.inside c.in-Some.n c.in-Some.is))
