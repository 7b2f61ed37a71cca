use Rattle.std.proofs.Common.{◌<◌, ◌^◌, ap, sym, subst, length, Ok}
use Rattle.dd_set.specs.Words.{Label, IsPacked}
use Rattle.dd_graph.specs.Decided.{IsSpent}
use Rattle.dd_graph.specs.Goes.{Begins}
use Rattle.dd_graph.specs.Last.{IsLast}
use Rattle.dd_graph.specs.View.{kernel_view}
use Rattle.dd_graph.proofs.Deciding.{decided-enough, decided-reached, decided-spent, on_spent, same-reached, some-claim, unbegun-spent}
use Rattle.dd_graph.proofs.kernel.Kernel.decide.Goals as goal

pub returns-in_err-decided-in-Some-clause-reached : goal.returns-in_err-decided-in-Some-clause-reached
returns-in_err-decided-in-Some-clause-reached c =
    let l = c.args.label.now.words in
    let begins = some-claim c.in_ok-id.field-0 c.in-Some.id (λ id. Begins id l c.args.budget c.args.self.now c.begin.new.self) c.in-Some.is c.in_ok-id.ensures.begins in
    decided-reached c.args.self.now c.begin.new.self c.settle.new.self c.in-Some.id c.args.budget l begins c.settle.ensures.goes
    (record { distinct = c.known.ensures.distinct; closed = c.known.ensures.closed }) (subst (λ w. IsPacked w l) c.requires.width c.width.ensures.packed)

pub returns-in_ok-decided-in-Some-clause-reached : goal.returns-in_ok-decided-in-Some-clause-reached
returns-in_ok-decided-in-Some-clause-reached c =
    let l = c.args.label.now.words in
    let begins = some-claim c.in_ok-id.field-0 c.in-Some.id (λ id. Begins id l c.args.budget c.args.self.now c.begin.new.self) c.in-Some.is c.in_ok-id.ensures.begins in
    decided-reached c.args.self.now c.begin.new.self c.settle.new.self c.in-Some.id c.args.budget l begins c.settle.ensures.goes
    (record { distinct = c.known.ensures.distinct; closed = c.known.ensures.closed }) (subst (λ w. IsPacked w l) c.requires.width c.width.ensures.packed)

pub returns-in_ok-decided-in-Some-clause-spent : goal.returns-in_ok-decided-in-Some-clause-spent
returns-in_ok-decided-in-Some-clause-spent c =
    let l = c.args.label.now.words in
    let begins = some-claim c.in_ok-id.field-0 c.in-Some.id (λ id. Begins id l c.args.budget c.args.self.now c.begin.new.self) c.in-Some.is c.in_ok-id.ensures.begins in
    on_spent (IsLast c.settle.new.self) (λ next. IsSpent (kernel_view c.args.self.now) (kernel_view c.settle.new.self) l c.args.budget next)
    (decided-spent c.args.self.now c.begin.new.self c.settle.new.self c.in-Some.id c.args.budget l begins c.settle.ensures.goes
    (record { distinct = c.known.ensures.distinct; closed = c.known.ensures.closed }) (subst (λ w. IsPacked w l) c.requires.width c.width.ensures.packed))
    c.in_ok-decided-in-Some.decided c.in_ok-decided-in-Some.ensures.spent

pub returns-in_ok-decided-in-Some-clause-enough : goal.returns-in_ok-decided-in-Some-clause-enough
returns-in_ok-decided-in-Some-clause-enough c =
    let l = c.args.label.now.words in
    let begins = some-claim c.in_ok-id.field-0 c.in-Some.id (λ id. Begins id l c.args.budget c.args.self.now c.begin.new.self) c.in-Some.is c.in_ok-id.ensures.begins in
    on_spent (IsLast c.settle.new.self) (λ next. c.args.budget < 2 ^ length c.args.self.now.compiled.concepts)
    (λ next last. decided-enough c.args.self.now c.begin.new.self c.settle.new.self c.in-Some.id c.args.budget l begins c.settle.ensures.goes
    (record { distinct = c.known.ensures.distinct; closed = c.known.ensures.closed }) (subst (λ w. IsPacked w l) c.requires.width c.width.ensures.packed) next last
    c.len.ensures.packed c.len.ensures.distinct)
    c.in_ok-decided-in-Some.decided c.in_ok-decided-in-Some.ensures.spent

pub returns-in_err-copy-in-None-clause-reached : goal.returns-in_err-copy-in-None-clause-reached
returns-in_err-copy-in-None-clause-reached c = same-reached c.args.self.now c.begin.new.self c.args.label.now.words (c.in_ok-id.ensures.full (ap Ok c.in-None.is)).2.table

pub returns-in_ok-copy-in-None-clause-reached : goal.returns-in_ok-copy-in-None-clause-reached
returns-in_ok-copy-in-None-clause-reached c = same-reached c.args.self.now c.begin.new.self c.args.label.now.words (c.in_ok-id.ensures.full (ap Ok c.in-None.is)).2.table

pub returns-in_ok-copy-in-None-clause-spent : goal.returns-in_ok-copy-in-None-clause-spent
returns-in_ok-copy-in-None-clause-spent c =
    let l = c.args.label.now.words in
    let full = c.in_ok-id.ensures.full (ap Ok c.in-None.is) in
    subst (IsSpent (kernel_view c.args.self.now) (kernel_view c.begin.new.self) l c.args.budget) (sym (ap (λ (b : Label). b.words) c.in_ok-copy-in-None.ensures))
    (unbegun-spent c.args.self.now c.begin.new.self l c.args.budget full.0 full.1 full.2
    (record { distinct = c.known.ensures.distinct; closed = c.known.ensures.closed }) (subst (λ w. IsPacked w l) c.requires.width c.width.ensures.packed))
