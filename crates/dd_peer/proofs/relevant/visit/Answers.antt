use Rattle.std.proofs.Common.{sym, subst, ◌<◌, All, length}
use Rattle.dd_peer.specs.declared.version.Rule.{Rule}
use Rattle.dd_peer.proofs.Accepted.{All-right}
use Rattle.dd_peer.proofs.relevant.visit.Goals as goal

pub mark_each-requires-2 : goal.mark_each-requires-2
mark_each-requires-2 c = subst (λ rules. All (λ (r : Rule). r.from < length c.mark_each.new.marks) rules) (sym c.as_slice-2.ensures)
    (subst (λ n. All (λ (r : Rule). r.from < n) c.args.v.now.onto) (sym c.in_ok-mark_each.ensures.size)
    (All-right (λ (r : Rule). r.from < length c.args.marks.now) c.args.v.now.into c.args.v.now.onto c.requires))
