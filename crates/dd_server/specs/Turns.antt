-- For private clauses: one turn of a session: a line is read, and the replies of the window that it ends are given.
use Rattle.std.specs.Prelude.{◌≡◌, ℕ, List, Option, ⊤}
use Rattle.dd_lines.specs.Outside.{Gives, GivesFront, Rose}
use Rattle.dd_lines.specs.declared.reader.LineStep.{LineStep}
use Rattle.dd_lines.specs.declared.reader.LineStep.TheVariants as step
use Rattle.dd_wire.specs.declared.reply.Reply.{Reply}
use Rattle.dd_read.specs.declared.options.Options.{Options}
use Rattle.dd_server.specs.Finish.{Entries}
use Rattle.dd_server.specs.Session.{Standing, FinishesAt, Turn, written}
use Rattle.dd_server.specs.declared.status.Status.{Status}
use Rattle.dd_server.specs.declared.status.Status.TheVariants as status

-- it stands for a line, and not for the end
abbrev pub IsLine : LineStep → Type 0
IsLine (step.Line v) = ⊤
IsLine step.TooLong = ⊤
IsLine step.End = ⊥

-- the line was taken, and all replies that it brings were given
abbrev pub Turned : Options → Standing → List ℕ → Standing → Option (List ℕ) → Option (List ℕ) → Type 0
Turned options old line new before given = (replies : List Reply) × Turn options old line new replies × Gives before given (written replies)

-- the line was taken, and a front of the replies that it brings was given
abbrev pub BreaksOff : Options → Standing → List ℕ → Standing → Option (List ℕ) → Option (List ℕ) → Type 0
BreaksOff options old line new before given = (replies : List Reply) × Turn options old line new replies × GivesFront before given (written replies)

-- the window was finished, and all its replies were given
abbrev pub IsFinished : Options → Standing → Entries → Option (List ℕ) → Option (List ℕ) → Type 0
IsFinished options old new before given = (replies : List Reply) × FinishesAt options old new replies × Gives before given (written replies)

-- the window was finished, and a front of its replies was given
abbrev pub IsHalfFinished : Options → Standing → Entries → Option (List ℕ) → Option (List ℕ) → Type 0
IsHalfFinished options old new before given = (replies : List Reply) × FinishesAt options old new replies × GivesFront before given (written replies)

-- how the last window ended
abbrev pub EndsAs : Options → Standing → Status → Option (List ℕ) → Option (List ℕ) → (write write' : ℕ) → Type 0
EndsAs options old status.Done before given write write' = (entries : Entries) × IsFinished options old entries before given
EndsAs options old status.Memory before given write write' = given ≡ before
EndsAs options old status.WriteFault before given write write' = (entries : Entries) × IsHalfFinished options old entries before given × Rose write write'
EndsAs options old status.Words before given write write' = ⊥
EndsAs options old status.ReadFault before given write write' = ⊥
EndsAs options old status.TooMuch before given write write' = ⊥
