use Rattle.std.proofs.Common.{◌≡◌, ◌∙◌, sym, ap, Some, slice_get, length, replicate, true, false}
use Rattle.dd_rules.specs.Compiled.{rules_in}
use Rattle.dd_table.specs.Labels.{Labels}
use Rattle.dd_graph.proofs.Beginning.{reached-goal, reached-first, begins-there}
use Rattle.dd_graph.proofs.Lists.{same_Some}
use Rattle.dd_graph.proofs.kernel.Kernel.begin.Goals as goal

pub mark-requires-clause-reached : goal.mark-requires-clause-reached
mark-requires-clause-reached c g l is_l is_g = reached-goal _ g l (same_Some g l (sym is_g ∙ ap (slice_get c.restart.new.self.table.list) c.in_ok-restart.ensures.ok.goal ∙ is_l))

pub returns-in-Some-clause-begins : goal.returns-in-Some-clause-begins
returns-in-Some-clause-begins c =
    begins-there c.in-Some.id c.args.budget c.args.label.now.words c.args.self.now c.restart.new.self c.mark.new.self c.in_ok-restart.ensures.ok c.mark.ensures c.in-Some.ensures.found

pub add-requires-clause-reached : goal.add-requires-clause-reached
add-requires-clause-reached c =
    let starts = c.in_ok-restart-2.ensures.ok in
    let same = ap (λ (t : Labels). length t.list) starts.table in
    reached-first _ c.restart-2.new.self.table.list c.restart-2.new.self.reached.items c.restart-2.new.self.goal c.args.label.now.words
    (starts.reached ∙ ap (λ n. replicate n false) (sym same)) (starts.goal ∙ c.len-goal.ensures.len ∙ sym same)
