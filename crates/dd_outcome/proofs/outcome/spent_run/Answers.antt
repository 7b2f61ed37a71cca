use Rattle.std.proofs.Common.{◌∙◌, ◌≡◌, ap, subst, sym}
use Rattle.std.specs.Option.{option_map}
use Rattle.std.proofs.lemmas.Option.{same_Some}
use Rattle.dd_board.specs.View.{SessionView}
use Rattle.dd_outcome.specs.Runs.{TellsRun}
use Rattle.dd_outcome.proofs.Spent.{spent-run}
use Rattle.dd_outcome.proofs.outcome.spent_run.Goals as goal

pub returns : goal.returns
returns c s at =
    let same : s.journal ≡ c.journal.result.now = same_Some s.journal c.journal.result.now (sym (ap (option_map (λ (v : SessionView). v.journal)) at) ∙ c.journal.ensures) in
    spent-run s (c.requires.from_nothing s at) (c.sessions-legal.ensures.legal c.args.session s at) (c.requires.spent s at) c.posted_run.result
    (subst (λ journal. TellsRun journal c.posted_run.result) (sym same) c.posted_run.ensures)
