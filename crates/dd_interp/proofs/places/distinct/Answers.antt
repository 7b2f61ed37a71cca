use Rattle.std.proofs.Common.{◌∙◌, ℕ, ◌+◌, ◌<◌, ◌≤◌, ap, sym, subst, arith, get_or, length, List}
use Rattle.std.specs.Global.{Vec}
use Rattle.dd_interp.proofs.RisingLists.{AreDistinctOf, distinct-push, distinct-skip}
use Rattle.dd_interp.proofs.places.distinct.Goals as goal
use Rattle.dd_interp.proofs.places.distinct.Goals.{then-is_above+in_ok-push, else-is_above}

pub loop-x-preserved : goal.loop-x-preserved
loop-x-preserved c =
    let sorted = c.args.sorted.now in
    let once = c.loop-x.once.items in
    let at = c.loop-x.x-index in
    elim c.if-is_above.branch [
      | then-is_above+in_ok-push w ↦
          subst (λ v. AreDistinctOf sorted v (at + 1)) (sym (ap (λ (v : Vec ℕ). v.items) w.once-is ∙ w.in_ok-push.ensures.items))
          (distinct-push sorted once at c.requires (omega (arith, c.loop-x-test.true)) c.loop-x.invariant
          (subst (λ (v : List ℕ). (k : ℕ) → k < length v → get_or v k 0 < get_or sorted at 0) c.as_slice.ensures.value w.if-is_above.ensures))
      | else-is_above w ↦
          subst (λ (v : Vec ℕ). AreDistinctOf sorted v.items (at + 1)) (sym w.once-is)
          (let found = subst (λ (v : List ℕ). (k : ℕ) × (k < length v) × (get_or sorted at 0 ≤ get_or v k 0)) c.as_slice.ensures.value w.if-is_above.ensures in
          distinct-skip sorted once at c.requires (omega (arith, c.loop-x-test.true)) c.loop-x.invariant found.0 found.1 found.2)
    ]
