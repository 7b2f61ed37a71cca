use Rattle.std.proofs.Common.{◌∙◌, ℕ, ◌+◌, ap, sym, subst, arith, take}
use Rattle.std.specs.Global.{Vec}
use Rattle.dd_interp.specs.SeenLists.{AreRolesSeen}
use Rattle.dd_interp.proofs.SeenAt.{roles-push, roles-skip}
use Rattle.dd_interp.proofs.seen.placed_roles.Goals as goal
use Rattle.dd_interp.proofs.seen.placed_roles.Goals.{in-Some+in_ok-push, in_default}

pub loop-t-preserved : goal.loop-t-preserved
loop-t-preserved c =
    let es = c.args.elements.now in
    let roles = c.args.roles.now in
    let at = c.loop-t.t-index in
    elim c.match-places_of.branch [
      | in-Some+in_ok-push w ↦
          subst (λ v. AreRolesSeen es (take (at + 1) roles) v) (sym (ap (λ (v : Vec (ℕ × ℕ × ℕ)). v.items) w.seen-is ∙ w.in_ok-push.ensures.items))
          (roles-push es c.requires.rising roles c.loop-t.seen.items at (0, 0, 0) (omega (arith, c.loop-t-test.true)) c.loop-t.invariant
          w.in-Some.pair.0 w.in-Some.pair.1 w.in-Some.ensures.0 w.in-Some.ensures.1 w.in-Some.ensures.2 w.in-Some.ensures.3)
      | in_default w ↦
          subst (λ (v : Vec (ℕ × ℕ × ℕ)). AreRolesSeen es (take (at + 1) roles) v.items) (sym w.seen-is)
          (roles-skip es c.requires.rising roles c.loop-t.seen.items at (0, 0, 0) (omega (arith, c.loop-t-test.true)) c.loop-t.invariant w.in_default.ensures)
    ]
