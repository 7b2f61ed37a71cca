-- What a session promises, from the bytes read to the bytes given.
use Rattle.std.specs.Prelude.{◌≡◌, ℕ, ◌+◌, ◌<◌, ◌≤◌, ◌⊎◌, List, [], ◌++◌, length, take, Option, Some, IfSome, ⊤}
use Rattle.dd_lines.specs.Lines.{lines_of, ended_lines}
use Rattle.dd_lines.specs.Outside.{Rose, Gives, GivesFront}
use Rattle.dd_wire.specs.declared.reply.Reply.{Reply}
use Rattle.dd_server.specs.Session.{Standing, Through, opening, Session, written}
use Rattle.dd_read.specs.declared.options.Options.{Options}
use Rattle.dd_server.specs.declared.status.Status.{Status}
use Rattle.dd_server.specs.declared.status.Status.TheVariants as status

-- how many bytes a session reads
abbrev pub most_bytes : ℕ
most_bytes = 4294967296

-- What was given is the whole output of a session for the input.
abbrev pub GivesAll : Options → List ℕ → Option (List ℕ) → Option (List ℕ) → Type 0
GivesAll options input before given = (replies : List Reply) × Session options input replies × Gives before given (written replies)

-- What was given is the first replies of a session's output, each one whole.
abbrev pub GivesFirst : Options → List ℕ → Option (List ℕ) → Option (List ℕ) → Type 0
GivesFirst options input before given = (replies : List Reply) × (more : List Reply) × Session options input (replies ++ more)
    × Gives before given (written replies)

-- What was given is a front of a session's output, byte by byte.
abbrev pub GivesSome : Options → List ℕ → Option (List ℕ) → Option (List ℕ) → Type 0
GivesSome options input before given = (replies : List Reply) × Session options input replies × GivesFront before given (written replies)

-- What was given is exactly the replies of the windows that these lines ended.
abbrev pub GivesEnded : Options → List (List ℕ) → Option (List ℕ) → Option (List ℕ) → Type 0
GivesEnded options lines before given = (last : Standing) × (replies : List Reply) × Through options opening lines last replies
    × Gives before given (written replies)

-- The lines that were read of the bytes that were taken, where the source has these left: each one whose line feed was
-- taken and no other, but for a last one without a line feed, which may have been read where nothing is left.
abbrev pub WereRead : (taken left : List ℕ) → List (List ℕ) → Type 0
WereRead taken left lines = (lines ≡ ended_lines taken) ⊎ ((left ≡ []) × (lines ≡ lines_of taken))

-- Where the source failed: the replies of the windows that had ended.
abbrev pub GivesRead : Options → (input : List ℕ) → (new before given : Option (List ℕ)) → Type 0
GivesRead options input new before given = (taken : List ℕ) × (left : List ℕ) × (input ≡ taken ++ left) × (new ≡ Some left)
    × (lines : List (List ℕ)) × WereRead taken left lines × GivesEnded options lines before given

-- Where the source gave too much: the replies of the windows that had ended, by the lines whose line feed is within the
-- limit of bytes.
abbrev pub GivesWithin : Options → (input : List ℕ) → (new before given : Option (List ℕ)) → Type 0
GivesWithin options input new before given = (taken : List ℕ) × (left : List ℕ) × (input ≡ taken ++ left) × (new ≡ Some left)
    × (length taken ≡ most_bytes + 1) × GivesEnded options (ended_lines (take most_bytes taken)) before given

-- What a status says of the input, which the source had left (`old`) and of which it has a rest left (`new`), and of what
-- the sink had been given (`before`) and has been given now (`given`), where the two tell it.
abbrev pub Output : Options → Status → (old new before given : Option (List ℕ)) → Type 0
Output options status.Done old new before given = IfSome old (λ input. (new ≡ Some []) × GivesAll options input before given)
Output options status.Words old new before given = (new ≡ old) × (given ≡ before)
Output options status.ReadFault old new before given = IfSome old (λ input. GivesFirst options input before given × GivesRead options input new before given)
Output options status.WriteFault old new before given = IfSome old (λ input. GivesSome options input before given)
Output options status.Memory old new before given = IfSome old (λ input. GivesFirst options input before given)
Output options status.TooMuch old new before given = IfSome old (λ input. GivesFirst options input before given × GivesWithin options input new before given)

-- why a status comes, by the counts of faults of the source and of the sink before and after; `Memory` is free
abbrev pub Cause : Status → (read read' write write' : ℕ) → Type 0
Cause status.Done read read' write write' = ⊤
Cause status.Words read read' write write' = (read' ≡ read) × (write' ≡ write)
Cause status.ReadFault read read' write write' = Rose read read'
Cause status.WriteFault read read' write write' = Rose write write'
Cause status.Memory read read' write write' = ⊤
Cause status.TooMuch read read' write write' = ⊤

-- what a status says of the length of the input, where the source tells it
abbrev pub Limit : Status → Option (List ℕ) → Type 0
Limit status.Done old = IfSome old (λ input. length input ≤ most_bytes)
Limit status.Words old = ⊤
Limit status.ReadFault old = ⊤
Limit status.WriteFault old = ⊤
Limit status.Memory old = ⊤
Limit status.TooMuch old = IfSome old (λ input. most_bytes < length input)

-- the session came to its end, or memory was wanting
abbrev pub Ends : Status → Type 0
Ends s = (s ≡ status.Done) ⊎ (s ≡ status.Memory)
