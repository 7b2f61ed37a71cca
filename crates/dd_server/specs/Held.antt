-- What holds of the entries of a session's cache.
use Rattle.std.specs.Prelude.{◌≡◌, All}
use Rattle.dd_cache.specs.Entries.{IsVerdict}
use Rattle.dd_cache.specs.Keys.{Key}
use Rattle.dd_cache.specs.declared.cache.Kept.{Kept as Entry}
use Rattle.dd_outcome.specs.Answers.{Answers}
use Rattle.dd_read.specs.Fit.{IsFitAsk}
use Rattle.dd_read.specs.State.{State}
use Rattle.dd_read.specs.declared.kept.Ask.{Ask}
use Rattle.dd_server.specs.Finish.{Entries, key_of_ask}

-- an entry is a yes or a no to some ask, under the key of that ask; the ask is fit, so its pin is one of the history
pub record IsEntry (state : State) (entry : Key × Entry) : Type 0 where
  pub ask : Ask
  pub fit : IsFitAsk state ask
  pub key : entry.0 ≡ key_of_ask state.symbols ask
  pub decided : IsVerdict entry.1.answer
  pub answers : Answers ask.job entry.1.answer

-- so are all; which asks they answer is left open
abbrev pub AreEntries : State → Entries → Type 0
AreEntries state entries = ∥ All (IsEntry state) entries ∥₁
