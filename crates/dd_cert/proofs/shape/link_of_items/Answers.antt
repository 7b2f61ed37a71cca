use Rattle.std.proofs.Common.{arith}
use Rattle.dd_cert.proofs.Entries.{link_found}
use Rattle.dd_cert.proofs.OtherLengths.{link_other}
use Rattle.dd_cert.proofs.shape.link_of_items.Goals as goal

pub returns-in_default : goal.returns-in_default
returns-in_default c = link_other c.args.list.now (λ e. omega (arith, e))

pub returns-in_default-2 : goal.returns-in_default-2
returns-in_default-2 c = link_other c.args.list.now (λ e. omega (arith, e))

pub returns : goal.returns
returns c =
    link_found c.args.list.now c.from-item.result c.to-item.result c.start-item.result c.end-item.result c.in_ok-from.from c.in_ok-to.to c.in_ok-start.start c.in_ok-end.end (omega (arith, c.in-len4.len_at_least, c.in-len4.len_below))
    c.from-item.is c.to-item.is c.start-item.is c.end-item.is c.in_ok-from.ensures.gives c.in_ok-to.ensures.gives c.in_ok-start.ensures.gives c.in_ok-end.ensures.gives
