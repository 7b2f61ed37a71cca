use Rattle.std.proofs.Common.{nat_le, rules, tests}
use Rattle.std.proofs.lemmas.Iterator.{YieldsList-from_slice}
use Rattle.std.proofs.lemmas.Iterator.Consumers.{YieldsList-from_chain}
use Rattle.std.proofs.lemmas.Iterator.Search.{position_from_yields_List}
use Rattle.dd_peer.proofs.check.first_beyond.Goals as goal

pub returns : goal.returns
returns c =
    position_from_yields_List (λ r. nat_le c.args.peers r.from) _ _ _ c.position.ensures.ran
    (YieldsList-from_chain (YieldsList-from_slice c.args.v.now.into cc) (YieldsList-from_slice c.args.v.now.onto cc) (cc) cc)
    (λ x b q k. search (rules, tests))
