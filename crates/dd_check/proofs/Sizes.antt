-- Where there is room, there was enough; and a concept is no deeper than it is large.
use Rattle.std.proofs.Common.{◌≡◌, ◌∙◌, ◌≤◌, ◌-◌, ℕ, nat_le, cond, None, Some, sym, ap, inl, inr, arith}
use Rattle.std.proofs.lemmas.Bool.{cases_Bool, leb-true}
use Rattle.std.proofs.lemmas.Option.{none-some}
use Rattle.dd_concept.specs.declared.concept.Concept.{Concept}
use Rattle.dd_concept.specs.Counts.{node_count, node_count_at, depth_of, depth_at}
use Rattle.dd_concept.proofs.Folds.{fold-Top, fold-Bottom, fold-Name, fold-Not, fold-And, fold-Or, fold-HasSome, fold-HasAll}
use Rattle.dd_concept.proofs.Induction.{induct}
use Rattle.dd_check.specs.Room.{room_after}

pub room-there : (most n k : ℕ) → room_after most n ≡ Some k → n ≤ most
room-there most n k e = elim (cases_Bool (nat_le n most)) [
  | inl t ↦ leb-true n most t
  | inr f ↦ absurd (none-some k (sym (ap (λ b. cond b (Some (most - n)) None) f) ∙ e))
]

-- a concept has at most as many levels as nodes
pub depth_of-le : (c : Concept) → depth_of c ≤ node_count c
depth_of-le = induct (λ c. depth_of c ≤ node_count c) (record {
  top = omega (arith, fold-Top ℕ node_count_at, fold-Top ℕ depth_at);
  bottom = omega (arith, fold-Bottom ℕ node_count_at, fold-Bottom ℕ depth_at);
  name = λ a. omega (arith, fold-Name ℕ node_count_at a, fold-Name ℕ depth_at a);
  not = λ c h. omega (arith, fold-Not ℕ node_count_at c, fold-Not ℕ depth_at c);
  and = λ c d h k. omega (arith, fold-And ℕ node_count_at c d, fold-And ℕ depth_at c d);
  or = λ c d h k. omega (arith, fold-Or ℕ node_count_at c d, fold-Or ℕ depth_at c d);
  has_some = λ r c h. omega (arith, fold-HasSome ℕ node_count_at r c, fold-HasSome ℕ depth_at r c);
  has_all = λ r c h. omega (arith, fold-HasAll ℕ node_count_at r c, fold-HasAll ℕ depth_at r c);
})
