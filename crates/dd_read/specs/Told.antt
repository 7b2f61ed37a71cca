-- For private clauses: what the parts of a reading answer, and how it is told.
use Rattle.std.specs.Prelude.{◌≡◌, ℕ, Option, Some, Result, Ok, Err, ⊤}
use Rattle.dd_check.specs.declared.check.LineFault.{LineFault}
use Rattle.dd_world.specs.declared.world.WorldFault.{WorldFault}
use Rattle.dd_cert.specs.Certificates.{Tried, Certified}
use Rattle.dd_pin.specs.declared.registry.PutErr.{PutErr}
use Rattle.dd_pin.specs.declared.registry.PutErr.TheVariants as put
use Rattle.dd_run.specs.declared.closures.ClosureErr.{ClosureErr}
use Rattle.dd_run.specs.declared.closures.ClosureErr.TheVariants as closure
use Rattle.dd_wire.specs.Refusal.{Refusal, refused, versions_full}
use Rattle.dd_wire.specs.declared.reply.Reply.{Reply}
use Rattle.dd_wire.specs.declared.reply.Reply.TheVariants as reply
use Rattle.dd_wire.specs.declared.request.WireErr.{WireErr}
use Rattle.dd_wire.specs.declared.request.WireErr.TheVariants as wire
use Rattle.dd_read.specs.Judged.{fault_replied, IsUnread}
use Rattle.dd_read.specs.Tests.{refused_version}

-- the reply is this refusal
abbrev pub Refuses : ℕ → Refusal → Reply → Type 0
Refuses id e given = given ≡ reply.Refused id e.code e.n

-- the reply tells of the refusal that a reader answered
abbrev pub RefusesLine : ℕ → WireErr → Reply → Type 0
RefusesLine id (wire.Code code n) given = given ≡ reply.Refused id code n
RefusesLine id wire.NoMemory given = ⊥

-- the reply tells why a put was refused
abbrev pub RefusesPut : ℕ → PutErr → Reply → Type 0
RefusesPut id (put.Peer e) given = Refuses id (refused_version e) given
RefusesPut id put.VersionsFull given = Refuses id (refused versions_full) given
RefusesPut id put.NoMemory given = ⊥

-- the number that an error counts is told
abbrev pub TellsCount : ClosureErr → Option ℕ → Type 0
TellsCount (closure.Full peer n) count = count ≡ Some n
TellsCount closure.NoMemory count = ⊥

-- the reply tells what a judge answered
abbrev pub JudgedBy : ℕ → Result (Unit {0}) WorldFault → Reply → Type 0
JudgedBy id (Ok u) given = given ≡ reply.Valid id
JudgedBy id (Err f) given = given ≡ reply.InvalidWorld id (fault_replied f)

-- the reply tells what a judge of lines answered
abbrev pub LinesBy : ℕ → Result (Unit {0}) LineFault → Reply → Type 0
LinesBy id (Ok u) given = given ≡ reply.Valid id
LinesBy id (Err f) given = given ≡ reply.InvalidLines id f.at

-- the reply tells where a value stops to be a certificate
abbrev pub Unreads : ℕ → Tried Certified → Reply → Type 0
Unreads id (Ok c) given = ⊥
Unreads id (Err e) given = IsUnread id e given
