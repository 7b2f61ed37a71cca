-- The options of a session, and those that it has where the words name none.
use Rattle.std.specs.Prelude.{◌≤◌}
use Rattle.dd_read.specs.declared.options.Options.{Options}

abbrev pub defaults : Options
defaults = record { workers = 4; window = 16; expansions = 20000; verdicts = 10000; cache = 64 }

-- each number is from 1 up to what a session may use
pub record AreWithin (o : Options) : Type 0 where
  pub some_workers : 1 ≤ o.workers
  pub workers : o.workers ≤ 16
  pub some_requests : 1 ≤ o.window
  pub window : o.window ≤ 64
  pub some_expansions : 1 ≤ o.expansions
  pub expansions : o.expansions ≤ 200000
  pub some_verdicts : 1 ≤ o.verdicts
  pub verdicts : o.verdicts ≤ 20000
  pub some_entries : 1 ≤ o.cache
  pub cache : o.cache ≤ 1024
