-- How large a normal form is beside its concept, and that it is in normal form.
use Rattle.std.proofs.Common.{◌≡◌, ℕ, ◌+◌, ◌*◌, ◌≤◌, max, subst, sym, arith}
use Rattle.dd_concept.specs.declared.concept.Concept.{Concept}
use Rattle.dd_concept.specs.declared.concept.Concept.TheVariants.{Top, Bottom, Name, Not, And, Or, HasSome, HasAll}
use Rattle.dd_concept.specs.Counts.{node_count, node_count_at, depth_of, depth_at}
use Rattle.dd_concept.specs.Normal.{normal, normal_at, nnf_of, nnf_not_of, IsSmallFor}
use Rattle.dd_concept.proofs.Folds.{fold-Top, fold-Bottom, fold-Name, fold-Not, fold-And, fold-Or, fold-HasSome, fold-HasAll}
use Rattle.dd_concept.proofs.Induction.{induct}

-- two concepts of at most twice the nodes and one level more
pub record IsBeside (c : Concept) (p : Concept × Concept) : Type 0 where
  pub nodes : node_count p.0 ≤ 2 * node_count c
  pub nodes_not : node_count p.1 ≤ 2 * node_count c
  pub depth : depth_of p.0 ≤ depth_of c + 1
  pub depth_not : depth_of p.1 ≤ depth_of c + 1

-- by the numbers of nodes and the depths: of a concept without parts, whose normal forms have at most one part
beside-none : (w : Concept) (v : Concept × Concept) → node_count w ≡ 1 → depth_of w ≡ 1
    → node_count v.0 ≤ 2 → depth_of v.0 ≤ 2 → node_count v.1 ≤ 2 → depth_of v.1 ≤ 2 → IsBeside w v
beside-none w v n d n0 d0 n1 d1 = record {
  nodes = omega arith;
  nodes_not = omega arith;
  depth = omega arith;
  depth_not = omega arith;
}

-- of one with one part
beside-one : (w c : Concept) (p v : Concept × Concept) → IsBeside c p → node_count w ≡ node_count c + 1 → depth_of w ≡ depth_of c + 1
    → node_count v.0 ≡ node_count p.0 + 1 → depth_of v.0 ≡ depth_of p.0 + 1
    → node_count v.1 ≡ node_count p.1 + 1 → depth_of v.1 ≡ depth_of p.1 + 1 → IsBeside w v
beside-one w c p v h n d n0 d0 n1 d1 = record {
  nodes = omega (arith, h.nodes);
  nodes_not = omega (arith, h.nodes_not);
  depth = omega (arith, h.depth);
  depth_not = omega (arith, h.depth_not);
}

-- of one with two parts
beside-two : (w c d : Concept) (p q v : Concept × Concept) → IsBeside c p → IsBeside d q
    → node_count w ≡ node_count c + node_count d + 1 → depth_of w ≡ max (depth_of c) (depth_of d) + 1
    → node_count v.0 ≡ node_count p.0 + node_count q.0 + 1 → depth_of v.0 ≡ max (depth_of p.0) (depth_of q.0) + 1
    → node_count v.1 ≡ node_count p.1 + node_count q.1 + 1 → depth_of v.1 ≡ max (depth_of p.1) (depth_of q.1) + 1 → IsBeside w v
beside-two w c d p q v h k n e n0 d0 n1 d1 = record {
  nodes = omega (arith, h.nodes, k.nodes);
  nodes_not = omega (arith, h.nodes_not, k.nodes_not);
  depth = omega (arith, h.depth, k.depth);
  depth_not = omega (arith, h.depth_not, k.depth_not);
}

beside-Top : IsBeside Top (Top, Bottom)
beside-Top = beside-none Top (Top, Bottom) (fold-Top ℕ node_count_at) (fold-Top ℕ depth_at)
    (omega (arith, fold-Top ℕ node_count_at)) (omega (arith, fold-Top ℕ depth_at)) (omega (arith, fold-Bottom ℕ node_count_at)) (omega (arith, fold-Bottom ℕ depth_at))

beside-Bottom : IsBeside Bottom (Bottom, Top)
beside-Bottom = beside-none Bottom (Bottom, Top) (fold-Bottom ℕ node_count_at) (fold-Bottom ℕ depth_at)
    (omega (arith, fold-Bottom ℕ node_count_at)) (omega (arith, fold-Bottom ℕ depth_at)) (omega (arith, fold-Top ℕ node_count_at)) (omega (arith, fold-Top ℕ depth_at))

beside-Name : (a : ℕ) → IsBeside (Name a) (Name a, Not (Name a))
beside-Name a = beside-none (Name a) (Name a, Not (Name a)) (fold-Name ℕ node_count_at a) (fold-Name ℕ depth_at a)
    (omega (arith, fold-Name ℕ node_count_at a)) (omega (arith, fold-Name ℕ depth_at a))
    (omega (arith, fold-Name ℕ node_count_at a, fold-Not ℕ node_count_at (Name a))) (omega (arith, fold-Name ℕ depth_at a, fold-Not ℕ depth_at (Name a)))

-- the part's two normal forms are the whole's, in the other order
beside-Not : (c : Concept) (p : Concept × Concept) → IsBeside c p → IsBeside (Not c) (p.1, p.0)
beside-Not c p h = let n = fold-Not ℕ node_count_at c in let d = fold-Not ℕ depth_at c in record {
  nodes = omega (arith, n, h.nodes_not);
  nodes_not = omega (arith, n, h.nodes);
  depth = omega (arith, d, h.depth_not);
  depth_not = omega (arith, d, h.depth);
}

beside-And : (c d : Concept) (p q : Concept × Concept) → IsBeside c p → IsBeside d q → IsBeside (And c d) (And p.0 q.0, Or p.1 q.1)
beside-And c d p q h k = beside-two (And c d) c d p q (And p.0 q.0, Or p.1 q.1) h k (fold-And ℕ node_count_at c d) (fold-And ℕ depth_at c d)
    (fold-And ℕ node_count_at p.0 q.0) (fold-And ℕ depth_at p.0 q.0) (fold-Or ℕ node_count_at p.1 q.1) (fold-Or ℕ depth_at p.1 q.1)

beside-Or : (c d : Concept) (p q : Concept × Concept) → IsBeside c p → IsBeside d q → IsBeside (Or c d) (Or p.0 q.0, And p.1 q.1)
beside-Or c d p q h k = beside-two (Or c d) c d p q (Or p.0 q.0, And p.1 q.1) h k (fold-Or ℕ node_count_at c d) (fold-Or ℕ depth_at c d)
    (fold-Or ℕ node_count_at p.0 q.0) (fold-Or ℕ depth_at p.0 q.0) (fold-And ℕ node_count_at p.1 q.1) (fold-And ℕ depth_at p.1 q.1)

beside-HasSome : (r : ℕ) (c : Concept) (p : Concept × Concept) → IsBeside c p → IsBeside (HasSome r c) (HasSome r p.0, HasAll r p.1)
beside-HasSome r c p h = beside-one (HasSome r c) c p (HasSome r p.0, HasAll r p.1) h (fold-HasSome ℕ node_count_at r c) (fold-HasSome ℕ depth_at r c)
    (fold-HasSome ℕ node_count_at r p.0) (fold-HasSome ℕ depth_at r p.0) (fold-HasAll ℕ node_count_at r p.1) (fold-HasAll ℕ depth_at r p.1)

beside-HasAll : (r : ℕ) (c : Concept) (p : Concept × Concept) → IsBeside c p → IsBeside (HasAll r c) (HasAll r p.0, HasSome r p.1)
beside-HasAll r c p h = beside-one (HasAll r c) c p (HasAll r p.0, HasSome r p.1) h (fold-HasAll ℕ node_count_at r c) (fold-HasAll ℕ depth_at r c)
    (fold-HasAll ℕ node_count_at r p.0) (fold-HasAll ℕ depth_at r p.0) (fold-HasSome ℕ node_count_at r p.1) (fold-HasSome ℕ depth_at r p.1)

-- a concept's two normal forms are beside it
pub normal_is_beside : (c : Concept) → IsBeside c (normal c)
normal_is_beside = induct (λ c. IsBeside c (normal c)) (record {
  top = subst (IsBeside Top) (sym (fold-Top (Concept × Concept) normal_at)) beside-Top;
  bottom = subst (IsBeside Bottom) (sym (fold-Bottom (Concept × Concept) normal_at)) beside-Bottom;
  name = λ a. subst (IsBeside (Name a)) (sym (fold-Name (Concept × Concept) normal_at a)) (beside-Name a);
  not = λ c h. subst (IsBeside (Not c)) (sym (fold-Not (Concept × Concept) normal_at c)) (beside-Not c (normal c) h);
  and = λ c d h k. subst (IsBeside (And c d)) (sym (fold-And (Concept × Concept) normal_at c d)) (beside-And c d (normal c) (normal d) h k);
  or = λ c d h k. subst (IsBeside (Or c d)) (sym (fold-Or (Concept × Concept) normal_at c d)) (beside-Or c d (normal c) (normal d) h k);
  has_some = λ r c h. subst (IsBeside (HasSome r c)) (sym (fold-HasSome (Concept × Concept) normal_at r c)) (beside-HasSome r c (normal c) h);
  has_all = λ r c h. subst (IsBeside (HasAll r c)) (sym (fold-HasAll (Concept × Concept) normal_at r c)) (beside-HasAll r c (normal c) h);
})

pub nnf_of-IsSmallFor : (c : Concept) → IsSmallFor c (nnf_of c)
nnf_of-IsSmallFor c n d = (omega (arith, (normal_is_beside c).nodes, n), omega (arith, (normal_is_beside c).depth, d))

pub nnf_not_of-IsSmallFor : (c : Concept) → IsSmallFor c (nnf_not_of c)
nnf_not_of-IsSmallFor c n d = (omega (arith, (normal_is_beside c).nodes_not, n), omega (arith, (normal_is_beside c).depth_not, d))
