use Rattle.std.proofs.Common.{◌≡◌, ◌∙◌, ap, subst, map, List}
use Rattle.dd_task.specs.Demands.{raised_by}
use Rattle.dd_task.specs.declared.job.Job.{Job}
use Rattle.dd_task.specs.declared.job.Key.{Key}
use Rattle.dd_board.specs.Settling.{place_in, with_slots}
use Rattle.dd_board.proofs.posting.raised_by_model.Goals as goal

pub returns-clause-raised : goal.returns-clause-raised
returns-clause-raised c = subst (λ (ks : List Key). c.in_ok-raised.raised ≡ map (place_in (with_slots c.args.s.now.tasks ks)) ks)
    (c.as_slice.ensures.value ∙ (c.in_ok-keys.ensures ∙ ap (λ (j : Job). raised_by j.pinned c.args.peer c.args.model.now) c.get.ensures)) c.in_ok-raised.ensures.numbers
