use Rattle.std.proofs.Common.{Bool, ◌≡◌, ◌∙◌, ℕ, Option, false, true, Err, Ok, ap, refl, subst, sym}
use Rattle.dd_peer.specs.declared.version.Query.{Query}
use Rattle.dd_task.specs.declared.job.Budget.{Budget}
use Rattle.dd_interp.proofs.Results.{if_ok}
use Rattle.dd_wire.specs.Refusal.{Tested, bad_budget, demand, refused}
use Rattle.dd_wire.specs.declared.request.Request.TheVariants as request
use Rattle.dd_read.specs.Asks.{budget_of, is_budget}
use Rattle.dd_read.specs.Does.{AskBy, DoesRequest}
use Rattle.dd_read.specs.ReadingState.{state_of}
use Rattle.dd_read.specs.State.{State}
use Rattle.dd_read.specs.Tests.{AfterBudget}
use Rattle.dd_read.specs.declared.obeyed.Obeyed.{Obeyed}
use Rattle.dd_read.specs.declared.obeyed.Obeyed.TheVariants.{Stays, Cut}
use Rattle.dd_read.specs.declared.options.Options.{Options}
use Rattle.dd_read.proofs.reading.Reading.ask.Goals as goal

does : (options : Options) (s : State) (id : ℕ) (q : Query) (x v : Option ℕ) → is_budget (budget_of options x v) ≡ true → (o : Obeyed)
    → AskBy s id q (budget_of options x v) o → DoesRequest options s id (request.Ask q x v) s o
does options s id q x v within (Stays kept) by = (
  refl,
  subst (λ (t : Tested Bool). AfterBudget t s q (budget_of options x v) (Ok true)) (sym (ap (demand bad_budget) within)) (by.0, by.1, sym by.2),
  (by.0, by.1, by.3),
)
does options s id q x v within (Cut kept) by = (
  refl,
  (
    by.2,
    subst (λ (t : Tested Bool). AfterBudget t s q (budget_of options x v) (Err by.2)) (sym (ap (demand bad_budget) within)) (by.0, by.1, sym by.3),
    by.4,
    by.5,
    by.6,
  ),
)

pub returns-in-Some-clause-does : goal.returns-in-Some-clause-does
returns-in-Some-clause-does c =
    let options = c.args.self.now.options in
    let s = state_of c.args.self.now in
    let is = c.in-Some.ensures.0 in
    if_ok c.ask_within.result (λ o by. does options s c.args.id c.args.query c.args.expansions c.args.verdicts
    (subst (λ (b : Budget). is_budget b ≡ true) is c.in-Some.ensures.1) o
    (subst (λ (b : Budget). AskBy s c.args.id c.args.query b o) is by)) c.ask_within.ensures.asks

pub returns-in-None-clause-does : goal.returns-in-None-clause-does
returns-in-None-clause-does c =
    let options = c.args.self.now.options in
    let s = state_of c.args.self.now in (
      refl,
      (
        refused bad_budget,
        subst (λ (t : Tested Bool). AfterBudget t s c.args.query (budget_of options c.args.expansions c.args.verdicts) (Err (refused bad_budget)))
            (sym (ap (demand bad_budget) c.in-None.ensures)) refl,
        c.refused.result,
        refl,
        c.refused.ensures,
      ),
    )
