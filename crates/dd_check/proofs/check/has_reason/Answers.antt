use Rattle.std.proofs.Common.{map, sym}
use Rattle.dd_task.specs.Claims.{claim_of}
use Rattle.dd_task.specs.declared.line.Why.TheVariants as reason
use Rattle.dd_check.proofs.ByReason.{reason-at}
use Rattle.dd_check.proofs.check.has_reason.Goals as goal

pub returns-in-And : goal.returns-in-And
returns-in-And c =
    reason-at c.args.p.now (map claim_of c.args.before.now) c.args.line.now.peer c.args.v.now c.as_slice-label.result.now c.args.line.now.label
    (reason.And c.in-And.at c.in-And.cite) c.args.line.now.why c.by_and.result (c.by_and.ensures c.args.p.now c.args.v.now) c.as_slice-label.ensures c.in-And.is

pub returns-in-Or : goal.returns-in-Or
returns-in-Or c =
    reason-at c.args.p.now (map claim_of c.args.before.now) c.args.line.now.peer c.args.v.now c.as_slice-label.result.now c.args.line.now.label
    (reason.Or c.in-Or.at c.in-Or.left c.in-Or.right) c.args.line.now.why c.by_or.result (c.by_or.ensures c.args.p.now c.args.v.now) c.as_slice-label.ensures c.in-Or.is

pub returns-in-Axiom : goal.returns-in-Axiom
returns-in-Axiom c =
    reason-at c.args.p.now (map claim_of c.args.before.now) c.args.line.now.peer c.args.v.now c.as_slice-label.result.now c.args.line.now.label
    (reason.Axiom c.in-Axiom.index c.in-Axiom.left c.in-Axiom.right) c.args.line.now.why c.by_axiom.result (c.by_axiom.ensures c.args.p.now c.args.v.now (sym c.as_slice.ensures)) c.as_slice-label.ensures c.in-Axiom.is

pub returns-in-Cut : goal.returns-in-Cut
returns-in-Cut c =
    reason-at c.args.p.now (map claim_of c.args.before.now) c.args.line.now.peer c.args.v.now c.as_slice-label.result.now c.args.line.now.label
    (reason.Cut c.in-Cut.on c.in-Cut.yes c.in-Cut.no) c.args.line.now.why c.by_cut.result (c.by_cut.ensures c.args.p.now c.args.v.now) c.as_slice-label.ensures c.in-Cut.is

pub returns-in-Successor : goal.returns-in-Successor
returns-in-Successor c =
    reason-at c.args.p.now (map claim_of c.args.before.now) c.args.line.now.peer c.args.v.now c.as_slice-label.result.now c.args.line.now.label
    (reason.Successor c.in-Successor.at c.in-Successor.cite) c.args.line.now.why c.by_successor.result (c.by_successor.ensures c.args.p.now c.args.v.now) c.as_slice-label.ensures c.in-Successor.is
