use Rattle.std.proofs.Common.{ap, subst, sym}
use Rattle.dd_read.specs.Standing.{Standing}
use Rattle.dd_read.specs.State.{State}
use Rattle.dd_server.specs.Held.{AreEntries}
use Rattle.dd_server.proofs.server.finish.Goals as goal

pub answer_all-requires-clause-entries : goal.answer_all-requires-clause-entries
answer_all-requires-clause-entries g c =
    subst (λ (s : State). AreEntries s c.args.cache.now.list) (sym (ap (λ (s : Standing). s.state) c.take_window-kept.ensures.standing)) c.requires.entries
