-- A session: what its lines do, one after another, and the replies that are given where windows end.
use Rattle.std.specs.Prelude.{◌≡◌, ℕ, List, [], ◌∷◌, ◌++◌}
use Rattle.std.specs.List.{flat_map}
use Rattle.dd_lines.specs.Lines.{lines_of}
use Rattle.dd_wire.specs.Replies.{reply_text}
use Rattle.dd_wire.specs.declared.reply.Reply.{Reply}
use Rattle.dd_read.specs.declared.options.Options.{Options}
use Rattle.dd_read.specs.Standing as reading
use Rattle.dd_read.specs.declared.accepted.Accepted.{Accepted}
use Rattle.dd_read.specs.declared.accepted.Accepted.TheVariants.{More, Due}
use Rattle.dd_server.specs.Finish.{Entries, Finish}

-- where a session stands: where its reading stands, and the entries of its cache
pub record Standing : Type 0 where
  pub reading : reading.Standing
  pub entries : Entries

-- before the first line
abbrev pub opening : Standing
opening = record { reading = reading.opening; entries = [] }

-- the window that is open is finished
abbrev pub FinishesAt : Options → Standing → Entries → List Reply → Type 0
FinishesAt options at new replies = Finish options.cache at.reading.state.symbols at.reading.kept at.entries new replies

-- the window ends here, or goes on
abbrev pub Closes : Accepted → Options → Standing → Standing → List Reply → Type 0
Closes Due options old new replies = FinishesAt options old new.entries replies × (new.reading ≡ record old.reading { kept = [] })
Closes More options old new replies = (new ≡ old) × (replies ≡ [])

-- what one line does, and the replies that are given where it ends a window
abbrev pub Turn : Options → Standing → List ℕ → Standing → List Reply → Type 0
Turn options old line new replies = (mid : reading.Standing) × (answer : Accepted) × reading.TakesLine options old.reading line mid answer
    × Closes answer options (record { reading = mid; entries = old.entries }) new replies

-- the replies of the windows that these lines end, and where the session stands behind them
abbrev pub Through : Options → Standing → List (List ℕ) → Standing → List Reply → Type 0
Through options old [] new replies = (new ≡ old) × (replies ≡ [])
Through options old (line ∷ lines) new replies = (mid : Standing) × (first : List Reply) × (more : List Reply)
    × Turn options old line mid first × Through options mid lines new more × (replies ≡ first ++ more)

-- the replies that may be given for an input: those of the windows that its lines end, and of the last one
abbrev pub Session : Options → List ℕ → List Reply → Type 0
Session options input replies = (last : Standing) × (ended : List Reply) × (entries : Entries) × (more : List Reply)
    × Through options opening (lines_of input) last ended × FinishesAt options last entries more × (replies ≡ ended ++ more)

-- the replies as they are written, each with a line feed
abbrev pub written : List Reply → List ℕ
written replies = flat_map (λ r. reply_text r ++ 10 ∷ []) replies
