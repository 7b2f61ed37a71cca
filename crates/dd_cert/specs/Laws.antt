-- What is read of a certificate that was printed.
use Rattle.std.specs.Prelude.{◌≡◌, Some, Result, Ok, Err}
use Rattle.dd_text.specs.Symbols.{IsNumbering, SymbolLists}
use Rattle.dd_answer.specs.declared.answer.Answer.{Answer}
use Rattle.dd_cert.specs.declared.read.Cert.{Cert}
use Rattle.dd_cert.specs.declared.read.CertErr.{CertErr}
use Rattle.dd_cert.specs.declared.read.CertErr.TheVariants as err
use Rattle.serde_json.specs.Data.{Data}
use Rattle.dd_cert.specs.Certificates.{Certified, IsCertIn, ReadsCert, Tried}
use Rattle.dd_cert.specs.Printed.{HasIndexes, IsPrintable, IsSmallAnswer, cert_of, cert_value}

-- the answer's certificate was read, or there was no memory
abbrev pub ReadsBack : Answer → Result Cert CertErr → Type 0
ReadsBack a (Ok c) = cert_of a ≡ Some c
ReadsBack a (Err e) = e ≡ err.NoMemory

-- what is read of the certificate that is printed of an answer is the answer's certificate, and the symbols stay
abbrev pub PrintedCertsRead : Type 0
PrintedCertsRead = (s : SymbolLists) (a : Answer) (new : SymbolLists) (result : Result Cert CertErr) → IsNumbering s → IsPrintable s a → IsSmallAnswer a → HasIndexes a
    → ReadsCert s new (cert_value s a) result → (new ≡ s) × ReadsBack a result

-- what a value is evidence of is one thing
abbrev pub CertsAreUnique : Type 0
CertsAreUnique = (s : SymbolLists) (d : Data) (found other : Tried Certified) → IsCertIn s d found → IsCertIn s d other → found ≡ other
