-- Where a session stands while it reads a window, and what a line does to that.
use Rattle.std.specs.Prelude.{◌≡◌, ℕ, ◌+◌, ◌==◌, Bool, true, false, List, [], ◌∷◌, ◌++◌, length}
use Rattle.dd_read.specs.Read.{Read}
use Rattle.dd_read.specs.State.{State, start}
use Rattle.dd_read.specs.declared.kept.Kept.{Kept}
use Rattle.dd_read.specs.declared.options.Options.{Options}
use Rattle.dd_read.specs.declared.accepted.Accepted.{Accepted}
use Rattle.dd_read.specs.declared.accepted.Accepted.TheVariants.{More, Due}

-- the state, how many requests were read so far, and what the window keeps of its own, in their order
pub record Standing : Type 0 where
  pub state : State
  pub requests : ℕ
  pub kept : List Kept

-- before the first line
abbrev pub opening : Standing
opening = record { state = start; requests = 0; kept = [] }

-- a line without a byte, or with one carriage return alone, is no request and ends a window
abbrev pub is_blank : List ℕ → Bool
is_blank [] = true
is_blank (b ∷ []) = b == 13
is_blank (b ∷ c ∷ bs) = false

-- a window is due where it has as many requests as it may, and takes more before
abbrev pub due_at : Bool → Accepted
due_at true = Due
due_at false = More

-- one more request was read: it left this state, and this is kept of it
abbrev pub and_kept : Standing → State → Kept → Standing
and_kept old state kept = record { state = state; requests = old.requests + 1; kept = old.kept ++ kept ∷ [] }

-- A blank line changes nothing, and the window is due. Every other line is read as the next request.
abbrev pub TakesBy : Bool → Options → Standing → List ℕ → Standing → Accepted → Type 0
TakesBy true options old line new answer = (new ≡ old) × (answer ≡ Due)
TakesBy false options old line new answer = (state : State) × (kept : Kept) × Read options old.state (old.requests + 1) line state kept
    × (new ≡ and_kept old state kept) × (answer ≡ due_at (length new.kept == options.window))

-- a line is taken into the window
abbrev pub TakesLine : Options → Standing → List ℕ → Standing → Accepted → Type 0
TakesLine options old line new answer = TakesBy (is_blank line) options old line new answer
