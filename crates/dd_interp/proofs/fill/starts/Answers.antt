use Rattle.std.proofs.Common.{ℕ, ◌<◌, List, get_or, All, nat_eq, subst, sym, arith}
use Rattle.std.proofs.lemmas.List.{take_all}
use Rattle.std.proofs.lemmas.List.Elements.{All-filter}
use Rattle.dd_set.specs.Words.{has}
use Rattle.dd_interp.proofs.Filling.{HasStarts, starts-end}
use Rattle.dd_interp.proofs.fill.starts.Goals as goal

pub insert-requires : goal.insert-requires
insert-requires c =
    let shaped = subst (λ (l : List (ℕ × ℕ × ℕ)). All (λ (t : ℕ × ℕ × ℕ). (t.1 < c.args.size) × (t.2 < c.args.size)) l) (sym c.of_role-t-items.ensures) (All-filter (λ t. nat_eq t.0 c.args.r) (λ (t : ℕ × ℕ × ℕ). (t.1 < c.args.size) × (t.2 < c.args.size)) c.args.roles.now c.requires.shaped) in
    subst (λ n. (get_or c.of_role-t-items.result.now c.loop-t.t-index (0, 0, 0)).1 < n) (sym c.loop-t.invariant.width) ((shaped c.loop-t.t-index (0, 0, 0) (omega (arith, c.loop-t-test.true))).0)

pub returns : goal.returns
returns c = starts-end c.args.size c.args.r (has c.args.ends.now.words) c.args.roles.now c.of_role-t-items.result.now c.loop-t.row c.requires.shaped c.of_role-t-items.ensures
    (subst (λ (l : List (ℕ × ℕ × ℕ)). HasStarts c.args.size (has c.args.ends.now.words) l c.loop-t.row) (take_all c.loop-t.t-index c.of_role-t-items.result.now (omega (arith, c.loop-t-test.false))) c.loop-t.invariant)
