use Rattle.std.proofs.Common.{◌≡◌, subst, true}
use Rattle.dd_graph.specs.View.{rules_at, view_of}
use Rattle.dd_rules.specs.Forced.{is_clash}
use Rattle.dd_close.proofs.Lefts.{clash-bottom, clash-name}
use Rattle.dd_close.proofs.left.clash_label.Goals as goal

pub bottom_label-requires : goal.bottom_label-requires
bottom_label-requires c = record {
  there = (clash-bottom (view_of c.args.g.now) c.known.ensures.distinct c.known.ensures.closed.parts (λ k. true)
      (subst (λ x. is_clash (rules_at (view_of c.args.g.now)) (λ k. true) x ≡ true) c.in-Bottom.is c.requires.there)).0;
}

pub name_label-requires-clause-there : goal.name_label-requires-clause-there
name_label-requires-clause-there c = (clash-name (view_of c.args.g.now) c.known.ensures.distinct c.known.ensures.closed.parts (λ k. true) c.in-Name.name
    (subst (λ x. is_clash (rules_at (view_of c.args.g.now)) (λ k. true) x ≡ true) c.in-Name.is c.requires.there)).0.0

pub name_label-requires-clause-complement : goal.name_label-requires-clause-complement
name_label-requires-clause-complement c = (clash-name (view_of c.args.g.now) c.known.ensures.distinct c.known.ensures.closed.parts (λ k. true) c.in-Name.name
    (subst (λ x. is_clash (rules_at (view_of c.args.g.now)) (λ k. true) x ≡ true) c.in-Name.is c.requires.there)).1.0
