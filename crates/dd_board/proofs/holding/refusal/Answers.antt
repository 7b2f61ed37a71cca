use Rattle.std.proofs.Common.{◌∙◌, ap, sym, subst, subst₂, arith, map, length, List}
use Rattle.std.proofs.lemmas.Bool.{false≢true}
use Rattle.std.proofs.lemmas.Option.{same_Some}
use Rattle.dd_task.specs.declared.line.Prop.{Prop}
use Rattle.dd_board.specs.Posts.{IsFirstDifference}
use Rattle.dd_board.specs.Holders.{NotTakenAs}
use Rattle.dd_board.specs.Sessions.{session_view}
use Rattle.dd_board.proofs.Taken.{taken-all, not-held, not-all}
use Rattle.dd_board.proofs.holding.refusal.Goals as goal

pub returns-then-not-is_held-clause-refused : goal.returns-then-not-is_held-clause-refused
returns-then-not-is_held-clause-refused c p e =
    subst (NotTakenAs (map session_view c.args.sessions.now) c.args.t.now) (sym c.not_taken.ensures ∙ same_Some c.not_taken.result p e)
    (not-held (map session_view c.args.sessions.now) c.args.t.now c.difference-view.result
    (subst₂ (λ (a b : List Prop). IsFirstDifference a b c.difference-view.result) c.props_at.ensures c.view.ensures.value c.difference-view.ensures)
    (λ h. false≢true (sym c.if-not-is_held.true ∙ c.is_held.ensures.1 h)))

pub returns-then-view-clause-refused : goal.returns-then-view-clause-refused
returns-then-view-clause-refused c p e =
    subst (NotTakenAs (map session_view c.args.sessions.now) c.args.t.now) (sym c.not_taken-then-view.ensures ∙ same_Some c.not_taken-then-view.result p e)
    (not-all (map session_view c.args.sessions.now) c.args.t.now c.difference-view.result
    (subst₂ (λ (a b : List Prop). IsFirstDifference a b c.difference-view.result) c.props_at.ensures c.view.ensures.value c.difference-view.ensures)
    (omega (arith, c.if-view.true, ap length c.view-2.ensures.value)))

pub returns-clause-taken : goal.returns-clause-taken
returns-clause-taken c none =
    taken-all (map session_view c.args.sessions.now) c.args.t.now c.difference-view.result
    (subst₂ (λ (a b : List Prop). IsFirstDifference a b c.difference-view.result) c.props_at.ensures c.view.ensures.value c.difference-view.ensures)
    (c.is_held.ensures.0 c.if-not-is_held.false) (omega (arith, c.if-view.false, ap length c.view-2.ensures.value))
