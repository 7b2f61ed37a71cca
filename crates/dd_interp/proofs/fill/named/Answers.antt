use Rattle.std.proofs.Common.{ℕ, ◌<◌, List, get_or, All, nat_eq, subst, sym, arith}
use Rattle.std.proofs.lemmas.List.{take_all}
use Rattle.std.proofs.lemmas.List.Elements.{All-filter}
use Rattle.dd_interp.proofs.Filling.{HasNamed, named-end}
use Rattle.dd_interp.proofs.fill.named.Goals as goal

pub insert-requires : goal.insert-requires
insert-requires c =
    let shaped = subst (λ (l : List (ℕ × ℕ)). All (λ (p : ℕ × ℕ). p.1 < c.args.size) l) (sym c.of_name-p-items.ensures) (All-filter (λ p. nat_eq p.0 c.args.a) (λ (p : ℕ × ℕ). p.1 < c.args.size) c.args.names.now c.requires.shaped) in
    subst (λ n. (get_or c.of_name-p-items.result.now c.loop-p.p-index (0, 0)).1 < n) (sym c.loop-p.invariant.width) ((shaped c.loop-p.p-index (0, 0) (omega (arith, c.loop-p-test.true))))

pub returns : goal.returns
returns c = named-end c.args.size c.args.a c.args.names.now c.of_name-p-items.result.now c.loop-p.row c.requires.shaped c.of_name-p-items.ensures
    (subst (λ (l : List (ℕ × ℕ)). HasNamed c.args.size l c.loop-p.row) (take_all c.loop-p.p-index c.of_name-p-items.result.now (omega (arith, c.loop-p-test.false))) c.loop-p.invariant)
