use Rattle.std.proofs.Common.{length, refl}
use Rattle.std.proofs.lemmas.Option.{slice_get_read}
use Rattle.dd_interp.specs.declared.interp.Interp.{Interp}
use Rattle.dd_interp.specs.Satisfies.{IsShaped}
use Rattle.dd_task.proofs.Places.{All-at}
use Rattle.dd_union.proofs.Placing.{put-behind}
use Rattle.dd_union.proofs.place.put_behind.Goals as goal

pub append-requires-clause-shaped : goal.append-requires-clause-shaped
append-requires-clause-shaped c =
    All-at Interp IsShaped c.args.locals.now.items c.args.peer c.index_mut-local.result.now c.requires.shaped
    (slice_get_read c.args.locals.now.items (length c.args.locals.now.items) c.args.peer c.index_mut-local.result.now refl c.requires.within c.index_mut-local.ensures.value)

pub returns-clause-behind : goal.returns-clause-behind
returns-clause-behind c =
    put-behind c.args.locals.now.items c.args.peer c.index_mut-local.result.now c.args.model.now c.append.new.i
    (slice_get_read c.args.locals.now.items (length c.args.locals.now.items) c.args.peer c.index_mut-local.result.now refl c.requires.within c.index_mut-local.ensures.value)
    c.requires.shaped c.in_ok-append.ensures.union c.in_ok-append.ensures.shaped c.in_ok-append.ensures.kept
