-- The numbers that the options give.
use Rattle.std.specs.Prelude.{ℕ, ◌≡◌, ◌≤◌, List, codes, Option, Some}
use Rattle.std.specs.Option.{option_map_or}
use Rattle.std.specs.Str.Parse.{digits_value, without_leading_plus}
use Rattle.clap.specs.Words.{App, IsUnsignedIn, Text, first_of, first_value, matches_of}
use Rattle.clap.specs.declared.parser.matches.Found.{Found}
use Rattle.dd_words.specs.declared.command.Generated.{Generated}
use Rattle.dd_words.specs.declared.command.Options.{Options}

-- the number that a value's text writes, or another where there is no value
abbrev pub number_or : ℕ → Option Text → ℕ
number_or other text = option_map_or (λ t. digits_value 10 (without_leading_plus t)) text other

-- the numbers of a session, where each option has this value: 4 workers, windows of 16 requests, 20,000 expansions, 10,000 verdicts and
-- 64 kept answers where it has none
abbrev pub session_by : (Text → Option Text) → Options
session_by value = record {
  workers = number_or 4 (value (codes "workers"));
  window = number_or 16 (value (codes "window"));
  expansions = number_or 20000 (value (codes "expansions"));
  verdicts = number_or 10000 (value (codes "verdicts"));
  cache = number_or 64 (value (codes "cache"));
}

-- the numbers of a session, by the values that clap finds in the words
abbrev pub session_of : App → List Text → Options
session_of a words = session_by (λ id. first_of id (matches_of a words))

-- the numbers that requests are made from, where each option has this value, which none lacks
abbrev pub generated_by : (Text → Option Text) → Generated
generated_by value = record {
  seed = number_or 0 (value (codes "seed"));
  peers = number_or 2 (value (codes "peers"));
  size = number_or 1 (value (codes "size"));
}

-- the numbers that requests are made from, by the values that clap finds in the words
abbrev pub generated_of : App → List Text → Generated
generated_of a words = generated_by (λ id. first_of id (matches_of a words))

-- each number of a session is in its range
pub record IsSession (o : Options) : Type 0 where
  pub workers : (1 ≤ o.workers) × (o.workers ≤ 16)
  pub window : (1 ≤ o.window) × (o.window ≤ 64)
  pub expansions : (1 ≤ o.expansions) × (o.expansions ≤ 200000)
  pub verdicts : (1 ≤ o.verdicts) × (o.verdicts ≤ 20000)
  pub cache : (1 ≤ o.cache) × (o.cache ≤ 1024)

-- each number that requests are made from is in its range
pub record IsGenerated (g : Generated) : Type 0 where
  pub peers : (2 ≤ g.peers) × (g.peers ≤ 64)
  pub size : (1 ≤ g.size) × (g.size ≤ 1000)

-- the option's value, if it has one, is a number from least to most
abbrev pub Fit : Found → Text → ℕ → ℕ → Type 0
Fit f id least most = (t : Text) → first_value f id ≡ Some t → IsUnsignedIn least most t

abbrev pub FitsSession : Found → Type 0
FitsSession f = Fit f (codes "workers") 1 16 × Fit f (codes "window") 1 64 × Fit f (codes "expansions") 1 200000 × Fit f (codes "verdicts") 1 20000 × Fit f (codes "cache") 1 1024

abbrev pub FitsGenerator : Found → Type 0
FitsGenerator f = Fit f (codes "seed") 0 4294967295 × Fit f (codes "peers") 2 64 × Fit f (codes "size") 1 1000
