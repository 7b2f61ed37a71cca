use Rattle.std.proofs.Common.{arith, Some, slice_get, ◌<◌, ◌≤◌, ◌∙◌, ap, sym, subst, List, ℕ, length}
use Rattle.std.proofs.lemmas.List.{get_or_read}
use Rattle.std.proofs.lemmas.Option.{slice_get-get_or, slice_get_past}
use Rattle.dd_set.specs.Marked.{Arrivals}
use Rattle.dd_set.proofs.Arrivals.{among-at}
use Rattle.dd_set.proofs.marked.Marked.get.Goals as goal

pub returns-then-at-len-clause-number : goal.returns-then-at-len-clause-number
returns-then-at-len-clause-number c =
    let list : List ℕ = c.self.inside.list.items in
    let inside : c.args.index < length list = omega arith in
    let read = get_or_read list c.args.index c.index.result.now inside c.index.ensures 0 in
    let same = ap (λ (a : Arrivals). a.list) c.self.view_is in
    ap Some read ∙ sym (slice_get-get_or list c.args.index 0 inside) ∙ ap (λ (l : List ℕ). slice_get l c.args.index) same

pub returns-then-at-len-clause-below : goal.returns-then-at-len-clause-below
returns-then-at-len-clause-below c =
    let list : List ℕ = c.self.inside.list.items in
    let inside : c.args.index < length list = omega arith in
    let read = get_or_read list c.args.index c.index.result.now inside c.index.ensures 0 in
    let bound = ap (λ (a : Arrivals). a.bound) c.self.view_is in
    let low = c.self.invariant.0.once.below _ (among-at list c.args.index inside) in
    subst (λ n. n < c.args.self.now.bound) (sym read) (omega (arith, low, bound))

pub returns-else-at-len-clause-number : goal.returns-else-at-len-clause-number
returns-else-at-len-clause-number c =
    let same = ap (λ (a : Arrivals). a.list) c.self.view_is in
    sym (slice_get_past c.args.self.now.list c.args.index (subst (λ (l : List ℕ). length l ≤ c.args.index) same (omega arith)))
