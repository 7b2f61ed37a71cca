use Rattle.std.proofs.Common.{◌∙◌, ◌≤◌, ap, subst, sym}
use Rattle.dd_interp.proofs.Results.{if_ok}
use Rattle.dd_peer.specs.Versions.{AreNumbered}
use Rattle.dd_pin.specs.History.{pinned_by}
use Rattle.dd_read.specs.ReadingState.{state_of}
use Rattle.dd_read.specs.State.{peer_count}
use Rattle.dd_read.proofs.Keeping.{pinned_numbered}
use Rattle.dd_read.proofs.reading.Reading.pinned.Goals as goal

pub returns-clause-numbered : goal.returns-clause-numbered
returns-clause-numbered c =
    let s = state_of c.args.self.now in
    let pin = c.args.pin.now.versions in
    if_ok c.pinned.result (λ p is. subst AreNumbered (sym (is ∙ ap (pinned_by pin) c.registry-registry.ensures.history))
    (pinned_numbered s.symbols (peer_count s) pin s.history (subst (λ n. n ≤ 64) c.registry-registry.ensures.peers c.peers-count.ensures.history.most)
    c.requires.has c.args.self.now.sound.puts)) c.pinned.ensures.pinned
