use Rattle.std.proofs.Common.{◌≡◌, ◌<◌, ◌≤◌, ℕ, Err, Result, ap, refl, inr, arith, ◌↔◌}
use Rattle.std.proofs.lemmas.Bool.{cases_lt}
use Rattle.std.proofs.Common.{inl}
use Rattle.dd_answer.specs.Weight.{weight_of}
use Rattle.dd_server.proofs.conclude.keep.Goals as goal

not-above : (n : ℕ) → (10000 < n → ⊥) → n ≤ 10000
not-above n h = elim (cases_lt 10000 n) [ inl lt ↦ absurd (h lt) | inr other ↦ omega (arith, other) ]

pub returns-in-Ok-clause-keeps : goal.returns-in-Ok-clause-keeps
returns-in-Ok-clause-keeps c =
    let weight = weight_of c.args.answer in
    inr (
      record {
        searched = refl;
        decided = c.is_verdict.ensures c.if-is_verdict.true;
        light = not-above weight (λ above. let refused = (c.keep.ensures.heavy weight).1 (refl, above) in cc (refused, c.in-Ok.is));
      },
      ap (λ e. e.list) c.in-Ok.ensures.kept,
    )
