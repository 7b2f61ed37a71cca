use Rattle.std.proofs.Common.{◌≡◌, ◌≤◌, drop, map, Result, ℕ}
use Rattle.dd_cert.specs.declared.read.CertErr.{CertErr}
use Rattle.dd_cert.specs.Derivations.{concept}
use Rattle.dd_cert.specs.Steps.{Passes, no_symbols}
use Rattle.dd_cert.proofs.line_texts.pass_label.Given as goal

abbrev pub invariant-loop-text : goal.invariant-loop-text
invariant-loop-text l = record {
  small : l.place ≤ 4294967295;
  stays : l.scratch ≡ no_symbols;
  passes : (r : Result ℕ CertErr) → Passes l.place (map concept (drop l.text-index l.texts)) r → Passes l.initial.place (map concept l.texts) r;
}
