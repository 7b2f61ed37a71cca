use Rattle.std.proofs.Common.{◌∙◌, ap, sym, subst}
use Rattle.dd_concept.specs.declared.concept.Concept.{Concept}
use Rattle.dd_interp.specs.Meaning.{meaning, some_along, all_along}
use Rattle.dd_interp.specs.Seen.{IsExtension}
use Rattle.dd_interp.proofs.Charts.{same_test}
use Rattle.dd_interp.proofs.Meanings.{meaning-HasSome, meaning-HasAll}
use Rattle.dd_interp.proofs.Results.{if_ok}
use Rattle.dd_interp.proofs.chart.Chart.+row.Goals as goal

pub returns-in_ok-ends-in-HasSome : goal.returns-in_ok-ends-in-HasSome
returns-in_ok-ends-in-HasSome t c =
    let i = c.args.self.now in
    let r = c.in-HasSome.r in
    let d = c.in-HasSome.d in
    let ends = subst (λ (k : Concept). IsExtension i.size (meaning i k) c.in_ok-ends-in-HasSome.ends) c.get-in-HasSome.ensures c.in_ok-ends-in-HasSome.ensures in
    if_ok c.starts.result (λ made h. same_test i.size (some_along i.roles r (meaning i d)) (meaning i c.args.c.now) made
    (λ k. sym (ap (λ e. meaning i e k) c.in-HasSome.is ∙ meaning-HasSome i r d k)) (h (meaning i d) ends)) c.starts.ensures.starts

pub returns-in_ok-ends-in-HasAll : goal.returns-in_ok-ends-in-HasAll
returns-in_ok-ends-in-HasAll t c =
    let i = c.args.self.now in
    let r = c.in-HasAll.r in
    let d = c.in-HasAll.d in
    let ends = subst (λ (k : Concept). IsExtension i.size (meaning i k) c.in_ok-ends-in-HasAll.ends) c.get-in-HasAll.ensures c.in_ok-ends-in-HasAll.ensures in
    if_ok c.all_starts.result (λ made h. same_test i.size (all_along i.roles r (meaning i d)) (meaning i c.args.c.now) made
    (λ k. sym (ap (λ e. meaning i e k) c.in-HasAll.is ∙ meaning-HasAll i r d k)) (h (meaning i d) ends)) c.all_starts.ensures
