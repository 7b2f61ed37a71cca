-- What a command does that waits for nobody.
use Rattle.std.specs.Prelude.{◌≡◌, ℕ, List, Option, ⊤}
use Rattle.dd_read.specs.declared.options.Options.{Options}
use Rattle.dd_server.specs.Headline.{Limit, Output}
use Rattle.dd_server.specs.declared.status.Status.{Status}
use Rattle.dd_words.specs.declared.command.Command.{Command}
use Rattle.dd_words.specs.declared.command.Command.TheVariants as command
use Rattle.dd_words.specs.declared.command.Options.{Options as Numbers}
use Rattle.dd_words.specs.Numbers.{IsGenerated, IsSession}
use Rattle.drago.specs.Made.{GivesMade}
use Rattle.drago.specs.Drilled.{GivesDrilled}

-- the options of a session by the numbers of the words
abbrev pub options_of : Numbers → Options
options_of n = record { workers = n.workers; window = n.window; expansions = n.expansions; verdicts = n.verdicts; cache = n.cache }

-- For private clauses: what a command does, and whether its numbers are in their ranges. A session with workers waits for others.
abbrev pub Obeys : Command → Status → (old new before given : Option (List ℕ)) → Type 0
Obeys (command.Serve n) s old new before given = ⊥
Obeys (command.Alone n) s old new before given = Output (options_of n) s old new before given
Obeys (command.Make g) s old new before given = (new ≡ old) × GivesMade g s before given
Obeys (command.Drill g) s old new before given = (new ≡ old) × GivesDrilled g s before given

abbrev pub IsObeyed : Command → Type 0
IsObeyed (command.Serve n) = ⊥
IsObeyed (command.Alone n) = IsSession n
IsObeyed (command.Make g) = IsGenerated g
IsObeyed (command.Drill g) = IsGenerated g

-- what is promised of the end where nothing fails, and of the length of the input
abbrev pub LimitBy : Command → Status → Option (List ℕ) → Type 0
LimitBy (command.Alone n) s old = Limit s old
LimitBy _ s old = ⊤
