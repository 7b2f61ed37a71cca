-- What is asked of the whole role is what is asked of the rest.
use Rattle.std.proofs.Common.{◌≡◌, drop}
use Rattle.dd_interp.specs.Meaning.{all_along, meaning, some_along}
use Rattle.dd_interp.proofs.meaning.+holds.Given as goal

abbrev pub invariant-has_all-loop-t : goal.invariant-has_all-loop-t
invariant-has_all-loop-t l =
    all_along l.i.roles l.r (meaning l.i l.c) l.x ≡ all_along (drop l.t-index l.t-items) l.r (meaning l.i l.c) l.x

abbrev pub invariant-has_some-loop-t : goal.invariant-has_some-loop-t
invariant-has_some-loop-t l =
    some_along l.i.roles l.r (meaning l.i l.c) l.x ≡ some_along (drop l.t-index l.t-items) l.r (meaning l.i l.c) l.x
