use Rattle.std.proofs.Common.{◌≡◌, arith, subst, None}
use Rattle.dd_rules.specs.Compiled.{Closure}
use Rattle.dd_rules.specs.Numbers.{number_of}
use Rattle.dd_rules.proofs.Forming.{number-low}
use Rattle.dd_rules.proofs.Kept.{numbers-count, number-found, number-missed}
use Rattle.dd_rules.proofs.concepts.Concepts.number.Goals as goal

pub number_at-requires : goal.number_at-requires
number_at-requires c =
    let s = c.self.inside in
    omega (arith, number-low s.rows.keys c.in-Some.n c.args.c.now c.in-Some.ensures, numbers-count s.rows.keys s.order.items s.numbers.items s.axioms.items c.self.invariant c.deref.result.now c.deref.ensures.value)

pub returns-in-Some : goal.returns-in-Some
returns-in-Some c =
    let s = c.self.inside in
    subst (λ (v : Closure). c.number_at.result ≡ number_of v.concepts c.args.c.now) c.self.view_is
    (number-found s.rows.keys s.order.items s.numbers.items s.axioms.items c.self.invariant c.args.c.now c.in-Some.n c.deref.result.now c.number_at.result c.in-Some.ensures c.deref.ensures.value c.number_at.ensures)

pub returns-in-None : goal.returns-in-None
returns-in-None c =
    let s = c.self.inside in
    subst (λ (v : Closure). None ≡ number_of v.concepts c.args.c.now) c.self.view_is
    (number-missed s.rows.keys s.order.items s.numbers.items s.axioms.items c.self.invariant c.args.c.now c.in-None.ensures)
