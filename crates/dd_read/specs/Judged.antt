-- What is replied to a check: whether its certificate is evidence of what is asked.
use Rattle.std.specs.Prelude.{◌≡◌, ℕ, ◌⊎◌, List, None, Ok, Err}
use denote.Bor.{Bor}
use Rattle.serde_json.specs.Data.{Data}
use Rattle.dd_text.specs.Reads.{told}
use Rattle.dd_text.specs.Symbols.{SymbolLists}
use Rattle.dd_peer.specs.Question.{Question}
use Rattle.dd_task.specs.declared.line.Line.{Line}
use Rattle.dd_task.specs.Derives.{Derives}
use Rattle.dd_world.specs.Faults.{IsFirstFault}
use Rattle.dd_world.specs.World.{IsCounter}
use Rattle.dd_world.specs.declared.world.World.{World}
use Rattle.dd_world.specs.declared.world.WorldFault.{WorldFault}
use Rattle.dd_world.specs.declared.world.WorldFault.TheVariants as fault
use Rattle.dd_cert.specs.declared.read.Cert.{Cert}
use Rattle.dd_cert.specs.declared.read.Cert.TheVariants as cert
use Rattle.dd_cert.specs.Certificates.{Tried, Certified, Unreadable, field, place, text, full, IsCertIn}
use Rattle.dd_check.specs.Faults.{IsFault}
use Rattle.dd_wire.specs.Refusal.{symbols_full}
use Rattle.dd_wire.specs.declared.reply.BadWorld.{BadWorld}
use Rattle.dd_wire.specs.declared.reply.BadWorld.TheVariants as bad
use Rattle.dd_wire.specs.declared.reply.Unread.TheVariants as unread
use Rattle.dd_wire.specs.declared.reply.Reply.{Reply}
use Rattle.dd_wire.specs.declared.reply.Reply.TheVariants as reply

-- why a world is no countermodel, as it is replied
abbrev pub fault_replied : WorldFault → BadWorld
fault_replied fault.Shape = bad.Shape
fault_replied (fault.Axiom peer index) = bad.Axiom index peer
fault_replied (fault.Into peer index) = bad.Into index peer
fault_replied (fault.Onto peer index) = bad.Onto index peer
fault_replied fault.NotCounter = bad.NotCounter

-- a check of a world is valid exactly where the world is a countermodel, and else its first fault is replied
abbrev pub JudgesWorld : ℕ → Question → World → Reply → Type 0
JudgesWorld id q w given = ((given ≡ reply.Valid id) × IsCounter q.pinned q.query w)
    ⊎ ((f : WorldFault) × IsFirstFault q.pinned q.query w f × (given ≡ reply.InvalidWorld id (fault_replied f)))

-- a check of lines is valid exactly where they derive the query, and else the place is replied at which they fail to
abbrev pub JudgesLines : ℕ → Question → List Line → Reply → Type 0
JudgesLines id q lines given = ((given ≡ reply.Valid id) × Derives q.pinned q.query lines)
    ⊎ ((at : ℕ) × IsFault q.pinned q.query lines at × (given ≡ reply.InvalidLines id at))

-- the reply tells of what a certificate is evidence of, by its kind
abbrev pub JudgesCert : ℕ → Question → Cert → Reply → Type 0
JudgesCert id q (cert.Yes lines) given = JudgesLines id q lines given
JudgesCert id q (cert.No w) given = JudgesWorld id q w given

-- where a value stops to be a certificate, as it is replied; where it brings too many symbols the request is refused
abbrev pub IsUnread : ℕ → Unreadable → Reply → Type 0
IsUnread id (field name) given = (what : Bor (List ℕ)) × (what.now ≡ name) × (given ≡ reply.Unreadable id (unread.Field what))
IsUnread id (place at value) given = given ≡ reply.Unreadable id (unread.Place (told at) value)
IsUnread id (text at) given = given ≡ reply.Unreadable id (unread.Text (told at))
IsUnread id full given = given ≡ reply.Refused id symbols_full None

-- what is replied to a check, by the evidence that its certificate is, or where the certificate stops to be one
abbrev pub Judges : ℕ → Question → Tried Certified → Reply → Type 0
Judges id q (Ok c) given = JudgesCert id q c.cert given
Judges id q (Err e) given = IsUnread id e given

-- what is replied to a check whose certificate is this value, read with these symbols
abbrev pub JudgesValue : ℕ → Question → SymbolLists → Data → Reply → Type 0
JudgesValue id q s d given = (found : Tried Certified) × IsCertIn s d found × Judges id q found given
