use Rattle.std.proofs.Common.{◌∙◌, ℕ, ◌+◌, ap, sym, subst, arith, take}
use Rattle.std.specs.Global.{Vec}
use Rattle.dd_interp.specs.SeenLists.{AreNamesSeen}
use Rattle.dd_interp.proofs.SeenAt.{names-push, names-skip}
use Rattle.dd_interp.proofs.seen.placed_names.Goals as goal
use Rattle.dd_interp.proofs.seen.placed_names.Goals.{in-Some+in_ok-push, in_default}

pub loop-p-preserved : goal.loop-p-preserved
loop-p-preserved c =
    let es = c.args.elements.now in
    let names = c.args.names.now in
    let at = c.loop-p.p-index in
    elim c.match-place_of.branch [
      | in-Some+in_ok-push w ↦
          subst (λ v. AreNamesSeen es (take (at + 1) names) v) (sym (ap (λ (v : Vec (ℕ × ℕ)). v.items) w.seen-is ∙ w.in_ok-push.ensures.items))
          (names-push es c.requires.rising names c.loop-p.seen.items at (0, 0) (omega (arith, c.loop-p-test.true)) c.loop-p.invariant w.in-Some.place w.in-Some.ensures.0 w.in-Some.ensures.1)
      | in_default w ↦
          subst (λ (v : Vec (ℕ × ℕ)). AreNamesSeen es (take (at + 1) names) v.items) (sym w.seen-is)
          (names-skip es c.requires.rising names c.loop-p.seen.items at (0, 0) (omega (arith, c.loop-p-test.true)) c.loop-p.invariant w.in_default.ensures)
    ]
