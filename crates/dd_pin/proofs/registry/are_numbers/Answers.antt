use Rattle.std.proofs.Common.{◌≡◌, get_or, [], ap, length, arith, refl}
use Rattle.std.proofs.lemmas.List.{get_or_read_under}
use Rattle.dd_pin.proofs.Pins.{places-stop, places-next}
use Rattle.dd_pin.proofs.registry.are_numbers.Goals as goal

pub returns-then-numbers-peer : goal.returns-then-numbers-peer
returns-then-numbers-peer c =
    let row : c.index-versions-peer.result ≡ get_or c.args.versions.now c.loop-peer.peer [] =
    get_or_read_under c.args.versions.now c.loop-peer.peer (length c.args.versions.now) c.index-versions-peer.result [] c.index-versions-peer.is c.loop-peer-test.true refl in
    places-stop c.args.numbers.now c.args.versions.now c.loop-peer.peer c.loop-peer-test.true
    (omega (arith, c.if-numbers-peer.true, c.len.ensures, ap length row))

pub loop-peer-preserved : goal.loop-peer-preserved
loop-peer-preserved c =
    let row : c.index-versions-peer.result ≡ get_or c.args.versions.now c.loop-peer.peer [] =
    get_or_read_under c.args.versions.now c.loop-peer.peer (length c.args.versions.now) c.index-versions-peer.result [] c.index-versions-peer.is c.loop-peer-test.true refl in
    places-next c.args.numbers.now c.args.versions.now c.loop-peer.peer c.loop-peer.invariant
    (omega (arith, c.if-numbers-peer.false, c.len.ensures, ap length row))
