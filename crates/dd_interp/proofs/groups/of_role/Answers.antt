use Rattle.std.proofs.Common.{◌≡◌, ◌∙◌, ℕ, ◌≤◌, List, length, take, drop, filter, true, false, rules, leb, nat_lt, nat_eq, subst, sym}
use Rattle.std.specs.List.Sorted.{IsNonDecreasingBy, IsPartitionPoint}
use Rattle.std.proofs.lemmas.List.Sorted.{IsPartitionPoint-from_clause, IsPartitionedBy-leb, IsPartitionedBy-ltb, IsNonDecreasingBy-drop}
use Rattle.dd_interp.proofs.Symbols.{symbol_between}
use Rattle.dd_interp.proofs.groups.of_role.Goals as goal

pub returns : goal.returns
returns c =
    let xs = c.args.roles.now in
    let low = c.partition_point.result in
    let count = c.partition_point-2.result in
    let rest : c.split_at.result.1.now ≡ drop low xs = c.split_at.ensures.back in
    let first = IsPartitionPoint-from_clause (λ (x : ℕ × ℕ × ℕ). nat_lt x.0 c.args.r) xs low c.partition_point.ensures.partitioned
    (IsPartitionedBy-ltb (λ x. x.0) xs c.args.r c.requires) (λ a r q k. search rules) in
    let second = IsPartitionPoint-from_clause (λ (x : ℕ × ℕ × ℕ). leb x.0 c.args.r) c.split_at.result.1.now count c.partition_point-2.ensures.partitioned
    (IsPartitionedBy-leb (λ x. x.0) c.split_at.result.1.now c.args.r
    (subst (λ (l : List (ℕ × ℕ × ℕ)). IsNonDecreasingBy (λ x. x.0) l) (sym rest) (IsNonDecreasingBy-drop (λ x. x.0) low xs c.requires))) (λ a r q k. search rules) in
    c.split_at-2.ensures.front
    ∙ subst (λ (l : List (ℕ × ℕ × ℕ)). take count l ≡ filter (λ x. nat_eq x.0 c.args.r) xs) (sym rest)
    (symbol_between (λ x. x.0) c.args.r xs low count c.partition_point.ensures.bound
    (subst (λ (l : List (ℕ × ℕ × ℕ)). count ≤ length l) rest c.partition_point-2.ensures.bound) first
    (subst (λ (l : List (ℕ × ℕ × ℕ)). IsPartitionPoint (λ x. leb x.0 c.args.r ≡ true) (λ x. leb x.0 c.args.r ≡ false) l count) rest second))
