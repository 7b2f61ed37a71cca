use Rattle.std.proofs.Common.{◌∙◌, ap, subst, sym, take}
use Rattle.dd_trim.specs.Trimmed.{AreFrom, DeriveAlike}
use Rattle.dd_trace.proofs.Shown.{there-at, has-root, derived}
use Rattle.dd_trace.proofs.derivation.derivation_of.Goals as goal

pub state-requires : goal.state-requires
state-requires c =
    let s = there-at c.args.b.now c.args.session c.requires.there in
    has-root c.args.b.now c.args.session s.0 s.1 (c.requires.proved s.0 s.1)

pub returns : goal.returns
returns c s at =
    let same = c.first_of.ensures ∙ ap (λ k. take k c.lines.result.now) c.proof_of-count.ensures in
    derived c.args.b.now c.args.session s at (c.requires.proved s at) (c.sessions-legal.ensures.legal c.args.session s at) (c.requires.fit s at)
    c.state.result.now c.lines.result.now c.state.ensures c.lines.ensures c.in_ok-kept.kept.items
    (subst (λ ls. DeriveAlike ls c.in_ok-kept.kept.items) same c.in_ok-kept.ensures.derives)
    (subst (λ ls. AreFrom ls c.in_ok-kept.kept.items) same c.in_ok-kept.ensures.from) c.in_ok-kept.ensures.needed
