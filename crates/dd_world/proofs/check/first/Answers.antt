use Rattle.std.proofs.Common.{◌≡◌, ◌∙◌, List, get_or, length, ap, subst, sym, arith}
use Rattle.dd_peer.specs.declared.version.PeerVersion.{PeerVersion}
use Rattle.dd_world.specs.Kinds.{failing}
use Rattle.dd_world.proofs.Judging.{kind-next}
use Rattle.dd_world.proofs.check.first.Goals as goal

pub loop-peer-preserved : goal.loop-peer-preserved
loop-peer-preserved c =
    let v : PeerVersion = c.version-item.result in
    let item : v ≡ get_or c.args.p.now.peers c.loop-peer.peer v =
    subst (λ (vs : List PeerVersion). v ≡ get_or vs c.loop-peer.peer v) c.as_slice-version-items.ensures c.version-item.is in
    let none = sym c.in_default.is ∙ c.first_in.ensures ∙ ap (failing c.args.kind c.args.w.now c.loop-peer.peer) c.get.ensures in
    c.loop-peer.invariant
    ∙ kind-next c.args.kind c.args.w.now c.loop-peer.peer c.args.p.now.peers v item
    (omega (arith, ap length c.as_slice-version-items.ensures)) none
