use Rattle.std.proofs.Common.{◌≡◌, ◌∙◌, ◌<◌, get_or, [], ap, length, arith, refl, subst, sym}
use Rattle.std.proofs.lemmas.List.{get_or_read_under}
use Rattle.dd_peer.specs.Versions.{empty_version}
use Rattle.dd_pin.proofs.Pins.{place-within, places-pushed}
use Rattle.dd_pin.proofs.registry.shared_at.Goals as goal

pub shared-requires : goal.shared-requires
shared-requires c =
    let row : c.index-versions-peer.result ≡ get_or c.args.versions.now c.loop-peer.peer [] =
    get_or_read_under c.args.versions.now c.loop-peer.peer (length c.args.versions.now) c.index-versions-peer.result [] c.index-versions-peer.is
    (omega (arith, c.loop-peer-test.true, c.requires.size)) refl in
    subst (λ vs. get_or c.args.numbers.now c.loop-peer.peer 0 < length vs) (sym (c.as_slice.ensures ∙ row))
    (place-within c.args.numbers.now c.args.versions.now c.loop-peer.peer c.requires.places (omega (arith, c.loop-peer-test.true, c.requires.size)))

pub loop-peer-preserved : goal.loop-peer-preserved
loop-peer-preserved c =
    let row : c.index-versions-peer.result ≡ get_or c.args.versions.now c.loop-peer.peer [] =
    get_or_read_under c.args.versions.now c.loop-peer.peer (length c.args.versions.now) c.index-versions-peer.result [] c.index-versions-peer.is
    (omega (arith, c.loop-peer-test.true, c.requires.size)) refl in
    places-pushed c.args.numbers.now c.args.versions.now c.loop-peer.peer c.loop-peer.peers c.push.new.self c.in_ok-shared.field-0
    c.loop-peer.invariant c.in_ok-push.ensures.ok
    (c.in_ok-shared.ensures ∙ ap (λ vs. get_or vs (get_or c.args.numbers.now c.loop-peer.peer 0) empty_version) (c.as_slice.ensures ∙ row))
