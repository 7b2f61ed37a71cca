use Rattle.std.proofs.Common.{arith, subst}
use Rattle.std.proofs.lemmas.List.{length-map}
use Rattle.dd_text.specs.Symbols.{IsNumbering}
use Rattle.dd_text.proofs.Numbering.{IsWithoutRepeats-from_IsDistinct}
use Rattle.dd_text.proofs.symbols.Symbols.mark.Goals as goal

pub returns-clause-numbering : goal.returns-clause-numbering
returns-clause-numbering c =
    let s = c.self.inside in
    subst IsNumbering c.self.view_is (record {
      few = omega (arith, c.self.invariant.0, length-map s.names.value.keys (λ v. v.items), length-map s.roles.value.keys (λ v. v.items));
      names = IsWithoutRepeats-from_IsDistinct (λ v. v.items) s.names.value.keys c.self.invariant.1;
      roles = IsWithoutRepeats-from_IsDistinct (λ v. v.items) s.roles.value.keys c.self.invariant.2;
      names_named = c.self.invariant.3;
      roles_named = c.self.invariant.4;
    })
