-- Words as a command.
use Rattle.std.specs.Prelude.{⊤, ◌≡◌, true, false, List, [], ◌∷◌, codes, if◌then◌else◌, Option, Some, None}
use Rattle.std.specs.Str.{bytes_eq}
use Rattle.clap.specs.Words.{App, Text, fault_of, takes}
use Rattle.dd_words.specs.declared.command.Command.{Command}
use Rattle.dd_words.specs.declared.command.Command.TheVariants as command
use Rattle.dd_words.specs.Apps.{alone_app, generator_app, serve_app}
use Rattle.dd_words.specs.Numbers.{IsGenerated, IsSession, generated_of, session_of}

-- the command of this name, as clap is told of it
abbrev pub app_named : Text → Option App
app_named name =
    if bytes_eq name (codes "serve") then Some serve_app
    else (if bytes_eq name (codes "alone") then Some alone_app
    else (if bytes_eq name (codes "make") then Some (generator_app (codes "make"))
    else (if bytes_eq name (codes "drill") then Some (generator_app (codes "drill"))
    else None)))

-- the first word is this name
abbrev pub Begins : Text → List Text → Type 0
Begins name [] = ⊥
Begins name (w ∷ ws) = bytes_eq w name ≡ true

-- The command is that of the words: the first one is its name, clap finds no fault, and the numbers are those that clap finds, each in its
-- range.
abbrev pub IsCommand : Command → List Text → Type 0
IsCommand (command.Serve o) words = Begins (codes "serve") words × (fault_of serve_app words ≡ []) × (o ≡ session_of serve_app words) × IsSession o
IsCommand (command.Alone o) words = Begins (codes "alone") words × (fault_of alone_app words ≡ []) × (o ≡ session_of alone_app words) × IsSession o
IsCommand (command.Make g) words = Begins (codes "make") words × (fault_of (generator_app (codes "make")) words ≡ []) × (g ≡ generated_of (generator_app (codes "make")) words) × IsGenerated g
IsCommand (command.Drill g) words = Begins (codes "drill") words × (fault_of (generator_app (codes "drill")) words ≡ []) × (g ≡ generated_of (generator_app (codes "drill")) words) × IsGenerated g

abbrev pub DoesNotTake : Option App → List Text → Type 0
DoesNotTake None words = ⊤
DoesNotTake (Some a) words = takes a words ≡ false

-- the words give no command: there is no first word, it names no command, or its command does not take the words
abbrev pub IsNoCommand : List Text → Type 0
IsNoCommand [] = ⊤
IsNoCommand (w ∷ ws) = DoesNotTake (app_named w) (w ∷ ws)

-- there is no first word, or it names no command
abbrev pub NamesNone : List Text → Type 0
NamesNone [] = ⊤
NamesNone (w ∷ ws) = app_named w ≡ None
