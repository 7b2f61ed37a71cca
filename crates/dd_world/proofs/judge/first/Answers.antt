use Rattle.std.proofs.Common.{◌≡◌, ◌∙◌, List, get_or, length, ap, subst, sym, arith}
use Rattle.dd_peer.specs.declared.version.PeerVersion.{PeerVersion}
use Rattle.dd_world.specs.Kinds.{failing}
use Rattle.dd_world.specs.Sketches.{world_of}
use Rattle.dd_world.proofs.Judging.{kind-next}
use Rattle.dd_world.proofs.judge.first.Goals as goal

pub loop-peer-preserved : goal.loop-peer-preserved
loop-peer-preserved c =
    let v : PeerVersion = c.version-item.result in
    let item : v ≡ get_or c.args.p.now.peers c.loop-peer.peer v =
    subst (λ (vs : List PeerVersion). v ≡ get_or vs c.loop-peer.peer v) c.as_slice-version-items.ensures c.version-item.is in
    let none = sym c.in_default.is ∙ c.in_ok-index.ensures ∙ ap (failing c.args.kind (world_of c.args.s.now) c.loop-peer.peer) c.get.ensures in
    c.loop-peer.invariant
    ∙ kind-next c.args.kind (world_of c.args.s.now) c.loop-peer.peer c.args.p.now.peers v item
    (omega (arith, ap length c.as_slice-version-items.ensures)) none
