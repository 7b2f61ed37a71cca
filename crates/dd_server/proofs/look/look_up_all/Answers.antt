use Rattle.std.proofs.Common.{◌∙◌, subst, All}
use Rattle.std.proofs.lemmas.List.Elements.{All-tail}
use Rattle.dd_read.specs.Fit.{IsFitKept}
use Rattle.dd_read.specs.ReadingState.{state_of}
use Rattle.dd_server.proofs.Looking.{look-next, open-next}
use Rattle.dd_server.proofs.look.look_up_all.Goals as goal

pub loop-item-preserved : goal.loop-item-preserved
loop-item-preserved c =
    let l = c.loop-item in
    let s = c.args.reading.now.symbols in
    let state = state_of c.args.reading.now in
    let e = c.look_up.ensures in
    record {
      looks = look-next s l.board c.look_up.new.board e.opens l.looked.items _ c.look_up.result c.in_ok-push.ensures.items l.yielded c.in-Some.item c.args.cache.now.list l.cache.list
          c.look_up.new.cache.list l.invariant.looks e.looks;
      named = open-next s l.board c.look_up.new.board e.opens l.looked.items _ c.look_up.result c.in_ok-push.ensures.items l.invariant.named e.open;
      sessions = e.sessions;
      entries = e.entries;
      fit = All-tail (IsFitKept state) c.in-Some.item _ (subst (All (IsFitKept state)) c.in-Some.ensures.steps.0 l.invariant.fit);
      capacity = e.capacity ∙ l.invariant.capacity;
    }
