-- For private clauses: a session over made requests so far.
use Rattle.std.specs.Prelude.{◌≡◌, ℕ, List, ◌++◌}
use Rattle.dd_read.specs.Options.{defaults}
use Rattle.dd_server.specs.Finish.{Entries}
use Rattle.dd_server.specs.Session.{FinishesAt, Standing, Through, Turn, opening}
use Rattle.dd_wire.specs.declared.reply.Reply.{Reply}
use Rattle.drago.specs.Drilled.{kinds_of}
use Rattle.drago.specs.declared.summary.Kind.{Kind}

-- these lines led here, and what the replies tell that they brought is this
pub record HasDrilled (lines : List (List ℕ)) (at : Standing) (kinds : List Kind) : Type 0 where
  pub replies : List Reply
  pub through : Through defaults opening lines at replies
  pub told : kinds ≡ kinds_of replies

-- the window was finished, and what its replies tell was added
abbrev pub AddsWindow : Standing → Entries → (old new : List Kind) → Type 0
AddsWindow at entries old new = (replies : List Reply) × FinishesAt defaults at entries replies × (new ≡ old ++ kinds_of replies)

-- the line was taken, and what the replies tell that it brings was added
abbrev pub AddsTurn : Standing → List ℕ → Standing → (old new : List Kind) → Type 0
AddsTurn at line next old new = (replies : List Reply) × Turn defaults at line next replies × (new ≡ old ++ kinds_of replies)

-- what the replies tell to a session over these lines
abbrev pub AreKinds : List (List ℕ) → List Kind → Type 0
AreKinds lines kinds = (last : Standing) × (entries : Entries) × (mid : List Kind) × HasDrilled lines last mid × AddsWindow last entries mid kinds
