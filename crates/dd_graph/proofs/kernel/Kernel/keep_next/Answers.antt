use Rattle.std.proofs.Common.{◌≡◌, ◌∙◌, refl, sym, ap, subst, ℕ, List, true, Some, slice_get}
use Rattle.dd_set.specs.Words.{Label, has}
use Rattle.dd_graph.specs.Goes.{IsFull, IsReachedNow}
use Rattle.dd_graph.proofs.Lists.{same_Some}
use Rattle.dd_graph.proofs.Putting.{absent-nowhere, some_is}
use Rattle.dd_graph.proofs.kernel.Kernel.keep_next.Goals as goal

pub returns-in-Ok-clause-full : goal.returns-in-Ok-clause-full
returns-in-Ok-clause-full c t =
    let same : (next : Label) → Some c.in-Ok.next ≡ Some next → next ≡ c.args.label.now = λ next is. sym (same_Some c.in-Ok.next next is) ∙ c.in-Ok.ensures in
    record {
      none_left = c.requires.room;
      there = some_is c.in-Ok.next;
      reached = λ next is. subst (λ (x : Label). IsReachedNow c.args.self.now (has x.words)) (sym (same next is)) c.requires.reached;
      packed = λ next is. ap (λ (x : Label). x.width) (same next is) ∙ c.requires.width;
      absent = λ next n is at. absent-nowhere c.args.self.now.table.list c.args.label.now.words n c.requires.absent (at ∙ ap (λ (x : Label). Some x.words) (same next is));
    }
