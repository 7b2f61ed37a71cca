use Rattle.std.proofs.Common.{◌∙◌, sym, subst, [], arith, length, ◌<◌}
use Rattle.std.proofs.lemmas.List.{append-nil}
use Rattle.std.proofs.lemmas.Option.{same_Some}
use Rattle.dd_rules.specs.Compiled.{concept_at}
use Rattle.dd_rules.specs.Concepts.{IsCollected}
use Rattle.dd_rules.specs.Numbers.{number_of}
use Rattle.dd_rules.specs.Trees.{trees}
use Rattle.dd_rules.proofs.Growing.{length-trees}
use Rattle.dd_rules.proofs.Keeping.{collected-Top, collected-name, collected-other, collected-left, collected-next, number-there}
use Rattle.dd_rules.proofs.concepts.+collect.Goals as goal

pub returns-in-Top : goal.returns-in-Top
returns-in-Top t c xs e = ([], collected-Top xs (concept_at (trees c.args.rows.now.keys) c.args.n) c.in-Top.ensures.concept, sym (append-nil c.args.list.now.items))

pub returns-in_ok-push-in-Name : goal.returns-in_ok-push-in-Name
returns-in_ok-push-in-Name t c xs e =
    let low : c.args.n < length (trees c.args.rows.now.keys) = omega (arith, length-trees c.args.rows.now.keys, c.requires.within) in
    let is = same_Some c.number_at.result (number_of xs (concept_at (trees c.args.rows.now.keys) c.args.n)) (sym c.number_at.ensures ∙ number-there xs (trees c.args.rows.now.keys) c.args.numbers.now c.args.n e low) in
    collected-name xs (concept_at (trees c.args.rows.now.keys) c.args.n) c.in-Name.field-0 c.number_at.result c.args.list.now.items c.push.new.self.items c.in-Name.ensures.concept is c.in_ok-push-in-Name.ensures.items

pub returns-in_default : goal.returns-in_default
returns-in_default t c xs e = collected-other xs (trees c.args.rows.now.keys) (concept_at (trees c.args.rows.now.keys) c.args.n) c.row_at.result c.row_at.ensures.concept c.in_default.not-Top c.in_default.not-Name c.in_default.not-And

pub returns-then-not-branch : goal.returns-then-not-branch
returns-then-not-branch t c xs e =
    collected-left xs (concept_at (trees c.args.rows.now.keys) c.args.n) (concept_at (trees c.args.rows.now.keys) c.in-And.left) (concept_at (trees c.args.rows.now.keys) c.in-And.right) c.in-And.ensures.concept
    (subst (IsCollected xs (concept_at (trees c.args.rows.now.keys) c.in-And.left) c.args.list.now.items c.collect.new.list.items) c.if-not-branch.true (c.in_ok-collect-in-And.ensures xs e))

pub returns-else-not-branch : goal.returns-else-not-branch
returns-else-not-branch t c xs e =
    collected-next xs (concept_at (trees c.args.rows.now.keys) c.args.n) (concept_at (trees c.args.rows.now.keys) c.in-And.left) (concept_at (trees c.args.rows.now.keys) c.in-And.right) c.args.list.now.items c.collect.new.list.items c.collect-in-And.new.list.items c.collect-in-And.result c.in-And.ensures.concept
    (subst (IsCollected xs (concept_at (trees c.args.rows.now.keys) c.in-And.left) c.args.list.now.items c.collect.new.list.items) c.if-not-branch.false (c.in_ok-collect-in-And.ensures xs e)) (c.collect-in-And.ensures xs e)
