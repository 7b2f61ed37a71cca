use Rattle.std.proofs.Common.{◌<◌, length, refl, subst, sym, arith}
use Rattle.dd_union.proofs.Gathered.{there-at}
use Rattle.dd_union.proofs.Reading.{legal-part}
use Rattle.dd_union.specs.Pieces.{peer_at}
use Rattle.dd_union.specs.Union.{IsPart}
use Rattle.dd_union.proofs.place.place_task.Goals as goal

pub put_behind-requires-clause-within : goal.put_behind-requires-clause-within
put_behind-requires-clause-within c =
    let s = there-at c.args.b.now c.args.session c.requires.there in
    let fit = legal-part s.0 (c.requires.legal s.0 s.1) c.args.t (peer_at s.0 c.args.t) c.in-Some.model.now c.in-Some.at (c.in-Some.ensures s.0 s.1) in
    subst (λ n. n < length c.args.locals.now.items) (sym (c.peer-peer.ensures s.0 s.1))
    (subst (λ n. peer_at s.0 c.args.t < n) (sym (c.requires.one_each s.0 s.1)) fit.declared)

pub put_behind-requires-clause-model : goal.put_behind-requires-clause-model
put_behind-requires-clause-model c =
    let s = there-at c.args.b.now c.args.session c.requires.there in
    (legal-part s.0 (c.requires.legal s.0 s.1) c.args.t (peer_at s.0 c.args.t) c.in-Some.model.now c.in-Some.at (c.in-Some.ensures s.0 s.1)).shaped

pub overflow_add-result : goal.overflow_add-result
overflow_add-result c =
    let s = there-at c.args.b.now c.args.session c.requires.there in
    let fit = legal-part s.0 (c.requires.legal s.0 s.1) c.args.t (peer_at s.0 c.args.t) c.in-Some.model.now c.in-Some.at (c.in-Some.ensures s.0 s.1) in
    let within = fit.element in
    omega (arith, within, c.in_ok-start.ensures.below)

pub returns : goal.returns
returns c s at = (
  c.in-Some.model.now,
  c.in-Some.at,
  subst (λ i. IsPart s c.args.t i c.in-Some.model.now c.in-Some.at) (sym (c.peer-peer.ensures s at)) (c.in-Some.ensures s at),
  refl,
  refl,
  c.in_ok-start.ensures.behind,
)
