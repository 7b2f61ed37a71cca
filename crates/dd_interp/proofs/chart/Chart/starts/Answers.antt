use Rattle.std.proofs.Common.{◌∙◌, ℕ, Bool, List, IfOk, ap, subst}
use Rattle.dd_set.specs.Words.{has}
use Rattle.dd_interp.specs.declared.interp.Interp.{Interp}
use Rattle.dd_interp.specs.Meaning.{some_along}
use Rattle.dd_interp.specs.Seen.{IsExtension}
use Rattle.dd_interp.proofs.Charts.{starts_by_test}
use Rattle.dd_interp.proofs.Results.{if_ok}
use Rattle.dd_interp.proofs.chart.Chart.starts.Goals as goal

pub returns-clause-width : goal.returns-clause-width
returns-clause-width c = if_ok c.starts.result (λ made h. h.width ∙ ap (λ (i : Interp). i.size) c.self.view_is) c.starts.ensures

pub returns-clause-starts : goal.returns-clause-starts
returns-clause-starts c =
    let v = c.self.inside in
    let i : Interp = record { size = v.size; names = v.names.items; roles = v.roles.items } in
    let ends = c.args.ends.now in
    subst (λ (j : Interp). IfOk c.starts.result (λ row. (test : ℕ → Bool) → IsExtension j.size test ends → IsExtension j.size (some_along j.roles c.args.r test) row)) c.self.view_is
    (if_ok c.starts.result (λ made h test e. starts_by_test i c.self.invariant.shaped c.args.r test ends made e
    (subst (λ (l : List (ℕ × ℕ × ℕ)). IsExtension v.size (some_along l c.args.r (has ends.words)) made) c.as_slice.ensures.value h)) c.starts.ensures)
