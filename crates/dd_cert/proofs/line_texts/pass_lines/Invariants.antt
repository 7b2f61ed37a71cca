use Rattle.std.proofs.Common.{◌≡◌, ◌≤◌, drop, Result, ℕ}
use Rattle.dd_cert.specs.declared.read.CertErr.{CertErr}
use Rattle.dd_cert.specs.Derivations.{pieces_of}
use Rattle.dd_cert.specs.Steps.{Passes, no_symbols}
use Rattle.dd_cert.proofs.line_texts.pass_lines.Given as goal

abbrev pub invariant-loop-line : goal.invariant-loop-line
invariant-loop-line l = record {
  small : l.place ≤ 4294967295;
  stays : l.scratch ≡ no_symbols;
  passes : (r : Result ℕ CertErr) → Passes l.place (pieces_of (drop l.line-index l.lines)) r → Passes l.initial.place (pieces_of l.lines) r;
}
