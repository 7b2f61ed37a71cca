-- What is read of a certificate that was printed is the certificate.
use Rattle.std.proofs.Common.{◌≡◌, Some, Result, Ok, Err, refl, sym, ap, ◌∙◌}
use Rattle.dd_text.specs.Symbols.{IsNumbering, SymbolLists}
use Rattle.dd_answer.specs.declared.answer.Answer.{Answer}
use Rattle.dd_answer.specs.declared.answer.Answer.TheVariants as answer
use Rattle.dd_cert.specs.declared.read.Cert.{Cert}
use Rattle.dd_cert.specs.declared.read.Cert.TheVariants as cert
use Rattle.dd_cert.specs.declared.read.CertErr.{CertErr}
use Rattle.dd_cert.specs.declared.read.CertErr.TheVariants as err
use Rattle.dd_cert.specs.Certificates.{Certified, IsCertIn, ReadsCert, Tells, Tried}
use Rattle.dd_cert.specs.Laws.{ReadsBack}
use Rattle.dd_cert.specs.Printed.{HasIndexes, IsPrintable, IsSmallAnswer, cert_of, cert_value}
use Rattle.dd_cert.proofs.ReadBack.{lines-read-back}
use Rattle.dd_cert.proofs.Single.{cert-single}
use Rattle.dd_cert.proofs.WorldBack.{world-reads-back}

abbrev certified : Cert → SymbolLists → Tried Certified
certified c s = Ok (record { cert = c; symbols = s })

-- the value is this certificate under symbols that stay
pub record IsCertOf (s : SymbolLists) (a : Answer) : Type 0 where
  pub evidence : Cert
  pub is : cert_of a ≡ Some evidence
  pub reads : IsCertIn s (cert_value s a) (certified evidence s)

cert-of : (s : SymbolLists) (a : Answer) → IsNumbering s → IsPrintable s a → IsSmallAnswer a → HasIndexes a → IsCertOf s a
cert-of s (answer.Yes lines) numbering there small fit = record { evidence = cert.Yes lines; is = refl; reads = lines-read-back s numbering lines there small fit }
cert-of s (answer.No w) numbering there small fit = record { evidence = cert.No w; is = refl; reads = world-reads-back s numbering w there fit }
cert-of s (answer.RunSpent run) numbering there small fit = absurd there
cert-of s (answer.VerdictsSpent n) numbering there small fit = absurd there
cert-of s answer.Memory numbering there small fit = absurd there

-- an error of what was read can only be want of memory
memory-alone : (e : CertErr) (c : Certified) (found : Tried Certified) → found ≡ Ok c → Tells e found → e ≡ err.NoMemory
memory-alone (err.Shape name) c found is told = let never : Ok c ≡ Err _ = sym is ∙ told in cc
memory-alone (err.Index at value) c found is told = let never : Ok c ≡ Err _ = sym is ∙ told.1 in cc
memory-alone (err.Text index) c found is told = let never : Ok c ≡ Err _ = sym is ∙ told.1 in cc
memory-alone err.SymbolsFull c found is told = let never : Ok c ≡ Err _ = sym is ∙ told in cc
memory-alone err.NoMemory c found is told = refl

inside : (c d : Certified) → (let t : Tried Certified = Ok c in t) ≡ Ok d → c ≡ d
inside c d e = cc

by-cert : (s : SymbolLists) (a : Answer) (new : SymbolLists) (result : Result Cert CertErr) → IsCertOf s a → ReadsCert s new (cert_value s a) result → (new ≡ s) × ReadsBack a result
by-cert s a new (Ok c) h reads =
    let same : certified c new ≡ certified h.evidence s = cert-single s (cert_value s a) (certified c new) (certified h.evidence s) reads h.reads in
    let both = inside (record { cert = c; symbols = new }) (record { cert = h.evidence; symbols = s }) same in
    let symbols : new ≡ s = ap (λ (z : Certified). z.symbols) both in
    let evidence : c ≡ h.evidence = ap (λ (z : Certified). z.cert) both in
    (symbols, h.is ∙ ap (λ (k : Cert). Some k) (sym evidence))
by-cert s a new (Err e) h reads =
    let c : Certified = record { cert = h.evidence; symbols = s } in
    (reads.0, memory-alone e c reads.1 (cert-single s (cert_value s a) reads.1 (Ok c) reads.2 h.reads) reads.3)

pub printed-reads : (s : SymbolLists) (a : Answer) (new : SymbolLists) (result : Result Cert CertErr) → IsNumbering s → IsPrintable s a → IsSmallAnswer a → HasIndexes a
    → ReadsCert s new (cert_value s a) result → (new ≡ s) × ReadsBack a result
printed-reads s a new result numbering there small fit reads = by-cert s a new result (cert-of s a numbering there small fit) reads
