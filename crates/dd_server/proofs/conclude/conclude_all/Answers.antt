use Rattle.std.proofs.Common.{◌≡◌, ◌∙◌, ◌++◌, ◌∷◌, ℕ, [], All, subst}
use Rattle.std.proofs.lemmas.List.Elements.{All-tail}
use Rattle.dd_server.specs.Windows.{Concludes, IsOpen}
use Rattle.dd_server.proofs.Looking.{texts-next}
use Rattle.dd_server.proofs.Windowed.{conclude-more}
use Rattle.dd_server.proofs.conclude.conclude_all.Goals as goal

pub loop-item-preserved : goal.loop-item-preserved
loop-item-preserved c =
    let l = c.loop-item in
    let s = c.args.symbols.now in
    let board = c.args.board.now in
    let so_far = l.invariant.concludes in
    let next = c.in_ok-conclude_line.ensures.concludes in
    record {
      concludes = (
        so_far.0 ++ next.0 ∷ [],
        conclude-more c.args.cache.now.capacity s board l.yielded c.in-Some.item c.args.cache.now.list l.cache.list c.conclude_line.new.cache.list so_far.0 next.0 so_far.1
            (subst (λ (n : ℕ). Concludes n s board c.in-Some.item l.cache.list c.conclude_line.new.cache.list next.0) l.invariant.capacity next.1),
        texts-next l.lines.items _ _ so_far.0 next.0 c.in_ok-push.ensures.items so_far.2 next.2,
      );
      named = All-tail (IsOpen board) c.in-Some.item _ (subst (All (IsOpen board)) c.in-Some.ensures.steps.0 l.invariant.named);
      capacity = c.conclude_line.ensures.capacity ∙ l.invariant.capacity;
    }
