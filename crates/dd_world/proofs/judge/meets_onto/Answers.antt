use Rattle.std.proofs.Common.{◌≡◌, ℕ, List, subst}
use Rattle.std.specs.List.{list_any}
use Rattle.dd_set.specs.Words.{has}
use Rattle.dd_world.specs.Kinds.{leads_by}
use Rattle.dd_world.specs.Sketches.{world_of}
use Rattle.dd_world.proofs.Judging.{onto_by_rows}
use Rattle.dd_world.proofs.judge.meets_onto.Goals as goal

pub returns : goal.returns
returns c = onto_by_rows (world_of c.args.s.now) c.requires c.args.peer c.args.rule.now c.in_ok-source.source c.in_ok-source.ensures c.in_ok-target.target c.in_ok-ends.ends c.in_ok-target.ensures
    (subst (λ (l : List (ℕ × ℕ × ℕ × ℕ)). (k : ℕ) → has c.in_ok-ends.ends.words k ≡ list_any (leads_by c.args.peer c.args.rule.now c.in_ok-source.source.words k) l) c.as_slice.ensures c.in_ok-ends.ensures.ends)
    c.is_subset.result c.is_subset.ensures
