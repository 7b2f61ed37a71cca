use Rattle.std.proofs.Common.{refl}
use Rattle.dd_task.specs.declared.line.Why.TheVariants as why
use Rattle.dd_cert.specs.Derivations.{bottom, bridge, conjunction, disjunction, implication, successor}
use Rattle.dd_cert.proofs.LinesBuilt.{bridge-spelt, plain-built, spelt-by}
use Rattle.dd_cert.proofs.lines.add_why.Goals as goal

pub returns-in-Bottom-clause-why : goal.returns-in-Bottom-clause-why
returns-in-Bottom-clause-why c = plain-built c.args.symbols.now c.args.why.now bottom why.Bottom (spelt-by c.args.why.now _ bottom c.in-Bottom.is refl) refl (λ q. refl)

pub returns-in-And-clause-why : goal.returns-in-And-clause-why
returns-in-And-clause-why c = let i = c.in-And in
    plain-built c.args.symbols.now c.args.why.now (conjunction i.at i.cite) (why.And i.at i.cite) (spelt-by c.args.why.now _ (conjunction i.at i.cite) i.is refl) refl (λ q. refl)

pub returns-in-Or-clause-why : goal.returns-in-Or-clause-why
returns-in-Or-clause-why c = let i = c.in-Or in
    plain-built c.args.symbols.now c.args.why.now (disjunction i.at i.left i.right) (why.Or i.at i.left i.right) (spelt-by c.args.why.now _ (disjunction i.at i.left i.right) i.is refl) refl (λ q. refl)

pub returns-in-Axiom-clause-why : goal.returns-in-Axiom-clause-why
returns-in-Axiom-clause-why c = let i = c.in-Axiom in
    plain-built c.args.symbols.now c.args.why.now (implication i.index i.left i.right) (why.Axiom i.index i.left i.right) (spelt-by c.args.why.now _ (implication i.index i.left i.right) i.is refl) refl (λ q. refl)

pub returns-in-Successor-clause-why : goal.returns-in-Successor-clause-why
returns-in-Successor-clause-why c = let i = c.in-Successor in
    plain-built c.args.symbols.now c.args.why.now (successor i.at i.cite) (why.Successor i.at i.cite) (spelt-by c.args.why.now _ (successor i.at i.cite) i.is refl) refl (λ q. refl)

pub returns-in-Ok-clause-why : goal.returns-in-Ok-clause-why
returns-in-Ok-clause-why c = let i = c.in-Bridge in
    plain-built c.args.symbols.now c.args.why.now (bridge i.from i.onto i.into_set i.cite i.each) c.in-Ok.why (spelt-by c.args.why.now _ (bridge i.from i.onto i.into_set i.cite i.each) i.is refl) refl
    (λ q. bridge-spelt i.from i.onto c.as_slice-in-Bridge.result.now i.into_set i.cite c.as_slice-in-Bridge-2.result.now i.each c.in-Ok.why c.as_slice-in-Bridge.ensures c.as_slice-in-Bridge-2.ensures c.in-Ok.ensures)
