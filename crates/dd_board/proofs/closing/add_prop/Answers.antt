use Rattle.std.proofs.Common.{◌∙◌, ◌++◌, ◌∷◌, [], ap, sym, set, length, arith, List}
use Rattle.dd_task.specs.declared.line.Prop.{Prop}
use Rattle.dd_board.specs.View.{change_at}
use Rattle.dd_board.proofs.Slots.{set-changes, past-end}
use Rattle.dd_board.proofs.closing.add_prop.Goals as goal

pub returns-then-i-len-clause-ok : goal.returns-then-i-len-clause-ok
returns-then-i-len-clause-ok c = sym (past-end (λ (list : List Prop). list ++ c.args.prop ∷ []) c.args.props.now c.args.i (omega (arith, c.if-i-len.true, c.len.ensures)))

pub returns-clause-ok : goal.returns-clause-ok
returns-clause-ok c = ap (λ (x : List Prop). set c.props.inside.list.items c.args.i x) c.in_ok-push.ensures.ok
    ∙ (ap (λ (x : List Prop). set c.props.inside.list.items c.args.i (x ++ c.args.prop ∷ [])) c.index_mut.ensures.value
    ∙ (set-changes (λ (list : List Prop). list ++ c.args.prop ∷ []) c.props.inside.list.items c.args.i c.index_mut.result.now
    (omega (arith, c.if-i-len.false, c.len.ensures, ap length c.props.view_is))
    ∙ ap (λ xs. change_at (λ (list : List Prop). list ++ c.args.prop ∷ []) xs c.args.i) c.props.view_is))
