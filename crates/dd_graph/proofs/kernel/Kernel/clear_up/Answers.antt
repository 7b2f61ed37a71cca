use Rattle.std.proofs.Common.{◌≡◌, ◌∙◌, sym, subst, ap, refl, true, false, List, ℕ, slice_get, Some, ◌≢◌}
use Rattle.std.proofs.lemmas.Bool.{false≢true}
use Rattle.dd_rules.specs.Least.{IsLeastSaturated}
use Rattle.dd_rules.specs.Numbers.{has_clash}
use Rattle.dd_set.specs.Words.{Label, has}
use Rattle.dd_graph.specs.Right.{IsClear, IsLeastAt}
use Rattle.dd_graph.specs.View.{kernel_view, rules_at}
use Rattle.dd_graph.proofs.Leading.{reached-saturated, rules-kept}
use Rattle.dd_graph.proofs.Stepping.{at-label, clash-goes, clash-less, cleared-goes, cleared-fresh, clear-same, larger-facts, larger-goes, larger-less}
use Rattle.dd_graph.proofs.kernel.Kernel.clear_up.Goals as goal
use Rattle.dd_graph.proofs.kernel.Kernel.clear_up.Goals.{After-saturate, Then-same}

least : (c : After-saturate) → IsLeastSaturated (rules_at (kernel_view c.args.self.now)) (has c.args.label.now.words) (has c.saturate.new.label.words)
least c = subst (λ (l : Label). IsLeastSaturated (rules_at (kernel_view c.args.self.now)) (has l.words) (has c.saturate.new.label.words)) c.in-Ok.ensures c.saturate.ensures.least

pub returns-in-Some-clause-goes : goal.returns-in-Some-clause-goes
returns-in-Some-clause-goes c = clash-goes c.args.self.now c.note_clash.new.self c.args.id c.args.label.now.words c.requires.fresh c.requires.begun c.in-Some.clash c.args.self.now.closed c.note_clash.ensures

pub returns-in-Some-clause-less : goal.returns-in-Some-clause-less
returns-in-Some-clause-less c t = clash-less c.args.self.now c.note_clash.new.self c.args.id c.args.label.now.words c.requires.fresh c.requires.begun c.in-Some.clash c.args.self.now.closed c.note_clash.ensures

pub returns-then-same-clause-goes : goal.returns-then-same-clause-goes
returns-then-same-clause-goes c = cleared-goes c.args.self.now c.note_clear.new.self c.args.id c.args.label.now.words c.requires.fresh c.requires.begun c.note_clear.ensures

pub returns-then-same-clause-fresh : goal.returns-then-same-clause-fresh
returns-then-same-clause-fresh c t = cleared-fresh c.args.self.now c.note_clear.new.self c.args.id c.args.label.now.words c.requires.fresh c.requires.begun c.note_clear.ensures

pub returns-then-same-clause-clear : goal.returns-then-same-clause-clear
returns-then-same-clause-clear c t =
    let clear = clear-same (rules_at (kernel_view c.args.self.now)) c.args.label.now.words c.saturate.new.label.words (least (goal.at.returns-then-same-clause-clear c).After-saturate) (c.if-same.ensures.words.0 refl)
    ((c.in_default.ensures.none c.args.self.now.props).0 refl) in
    subst (λ r. IsClear r (has c.args.label.now.words)) (sym (rules-kept c.args.self.now c.note_clear.new.self
    (cleared-goes c.args.self.now c.note_clear.new.self c.args.id c.args.label.now.words c.requires.fresh c.requires.begun c.note_clear.ensures).keeps)) clear

pub put-requires-clause-reached : goal.put-requires-clause-reached
put-requires-clause-reached c = reached-saturated c.args.self.now (has c.args.label.now.words) (has c.saturate.new.label.words) c.requires.fresh.reached (least (goal.at.put-requires-clause-reached c).After-saturate)

pub note_larger-requires-clause-larger : goal.note_larger-requires-clause-larger
note_larger-requires-clause-larger c =
    at-label c.put.new.self c.args.id c.args.label.now.words
    (λ l. IsLeastAt (rules_at (kernel_view c.put.new.self)) c.put.new.self.table.list (has l) c.in_ok-to.to × (slice_get c.put.new.self.table.list c.in_ok-to.to ≢ Some l))
    (c.in_ok-to.ensures.puts.goes.keeps.labels c.args.id c.args.label.now.words c.requires.fresh.label)
    (larger-facts c.args.self.now c.put.new.self c.args.label.now.words c.saturate.new.label.words c.in_ok-to.to c.in_ok-to.ensures.puts
    (least (goal.at.note_larger-requires-clause-larger c).After-saturate) (λ e. false≢true (c.if-same.ensures.words.1 e)) c.in_ok-to.ensures.found)

pub returns-clause-goes : goal.returns-clause-goes
returns-clause-goes c = larger-goes c.args.self.now c.put.new.self c.note_larger.new.self c.args.id c.args.label.now.words c.requires.fresh c.in_ok-to.ensures.puts c.in_ok-to.to c.note_larger.ensures

pub returns-clause-less : goal.returns-clause-less
returns-clause-less c t = larger-less c.args.self.now c.put.new.self c.note_larger.new.self c.args.id c.args.label.now.words c.requires.fresh c.in_ok-to.ensures.puts c.in_ok-to.to c.note_larger.ensures
