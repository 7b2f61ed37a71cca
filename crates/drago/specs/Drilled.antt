-- What is given of a session over made requests: one line that sums it up.
use Rattle.std.specs.Prelude.{◌≡◌, ℕ, List, [], ◌∷◌, ◌++◌, map, Option}
use Rattle.dd_read.specs.Options.{defaults}
use Rattle.dd_server.specs.Session.{Session}
use Rattle.dd_lines.specs.Outside.{Gives, GivesFront}
use Rattle.dd_server.specs.declared.status.Status.{Status}
use Rattle.dd_server.specs.declared.status.Status.TheVariants as status
use Rattle.dd_wire.specs.declared.reply.Reply.{Reply}
use Rattle.dd_wire.specs.Replies.{reply_text}
use Rattle.dd_words.specs.declared.command.Generated.{Generated}
use Rattle.drago.specs.Made.{made_text}
use Rattle.drago.specs.Summary.{kind_of, summary_text}
use Rattle.drago.specs.declared.summary.Kind.{Kind}

-- what the replies tell, by their lines as they are written
abbrev pub kinds_of : List Reply → List Kind
kinds_of replies = map (λ r. kind_of (reply_text r ++ 10 ∷ [])) replies

-- the text sums up the replies of a session with the usual options whose input is the requests that are made from these numbers
abbrev pub IsDrilled : Generated → List ℕ → Type 0
IsDrilled g text = (replies : List Reply) × Session defaults (made_text g) replies × (text ≡ summary_text (kinds_of replies) ++ 10 ∷ [])

-- With Done such a line was given, with WriteFault a front of one, and else nothing. No input is read, so no status tells of one.
abbrev pub GivesDrilled : Generated → Status → (before given : Option (List ℕ)) → Type 0
GivesDrilled g status.Done before given = (text : List ℕ) × IsDrilled g text × Gives before given text
GivesDrilled g status.Words before given = given ≡ before
GivesDrilled g status.ReadFault before given = ⊥
GivesDrilled g status.WriteFault before given = (text : List ℕ) × IsDrilled g text × GivesFront before given text
GivesDrilled g status.Memory before given = given ≡ before
GivesDrilled g status.TooMuch before given = ⊥
