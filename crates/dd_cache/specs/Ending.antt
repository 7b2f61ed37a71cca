-- What a cache is, once what was lent of it has come back.
use Rattle.std.specs.Prelude.{◌≡◌, ⊤}
use Rattle.std.specs.Borrow.{Fml, MutBor, follows_so}
use mathlib.Core.Option.{none}
use Rattle.dd_cache.specs.Keys.{Key}
use Rattle.dd_cache.specs.Entries.{Entries, to_front}
use Rattle.dd_cache.specs.contracts.cache.Cache.{the_row}

-- the entry of this key comes first
abbrev pub ends_first : MutBor Entries → Key → Fml
ends_first c k = follows_so the_row the_row c.ghost_name none (λ _ _. ⊤) (λ v. v ≡ record { list = to_front k c.now.list; capacity = c.now.capacity })
