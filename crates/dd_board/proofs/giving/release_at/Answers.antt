use Rattle.std.proofs.Common.{refl, length}
use Rattle.std.proofs.lemmas.Option.{slice_get_read}
use Rattle.dd_board.specs.Releases.{released}
use Rattle.dd_board.proofs.Boarding.{set-view, set-kept}
use Rattle.dd_board.proofs.giving.release_at.Goals as goal

pub release-requires : goal.release-requires
release-requires c = c.requires.kept c.args.n c.index_mut.result.now
    (slice_get_read c.args.sessions.now.items (length c.args.sessions.now.items) c.args.n c.index_mut.result.now refl c.requires.low c.index_mut.ensures.value)

pub returns-clause-released : goal.returns-clause-released
returns-clause-released c = set-view released c.args.sessions.now.items c.args.n c.index_mut.result.now c.release.new.s
    (slice_get_read c.args.sessions.now.items (length c.args.sessions.now.items) c.args.n c.index_mut.result.now refl c.requires.low c.index_mut.ensures.value) c.release.ensures.released

pub returns-clause-kept : goal.returns-clause-kept
returns-clause-kept c = set-kept c.args.sessions.now.items c.args.n c.release.new.s c.requires.kept c.release.ensures.kept
