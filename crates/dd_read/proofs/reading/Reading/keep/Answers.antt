use Rattle.std.proofs.Common.{[], ◌∷◌, All, subst, sym}
use Rattle.std.proofs.lemmas.List.Elements.{All-append, All-cons, All-nil}
use Rattle.dd_read.specs.Fit.{IsFitKept}
use Rattle.dd_read.specs.ReadingState.{state_of}
use Rattle.dd_read.proofs.reading.Reading.keep.Goals as goal

pub invariant_of-self-2 : goal.invariant_of-self-2
invariant_of-self-2 c =
    let r = c.args.self.now in
    let s = state_of r in
    let one = All-cons (IsFitKept s) c.args.kept [] c.requires.fit (All-nil (IsFitKept s)) in
    record {
      within = r.within;
      counted = r.counted;
      sound = record {
        puts = r.sound.puts;
        fit = subst (All (IsFitKept s)) (sym c.in_ok-push.ensures.items) (All-append (IsFitKept s) r.kept.items (c.args.kept ∷ []) r.sound.fit one);
      };
    }
