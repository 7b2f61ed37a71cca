use Rattle.std.proofs.Common.{refl, subst}
use Rattle.lru.specs.LruCache.{LruCache}
use Rattle.dd_cache.specs.declared.key.CacheKey.{CacheKey}
use Rattle.dd_cache.specs.declared.cache.Kept.{Kept}
use Rattle.dd_cache.specs.Entries.{Entries, entries_of}
use Rattle.dd_cache.specs.Keys.{seen_key, same_key}
use Rattle.std.specs.Map.{keys_of}
use Rattle.std.specs.List.{IsDistinct}
use Rattle.dd_cache.proofs.Seeing.{distinct-seen}
use Rattle.dd_cache.proofs.cache.Cache.len.Goals as goal

pub returns-clause-distinct : goal.returns-clause-distinct
returns-clause-distinct c =
    subst (λ (v : Entries). IsDistinct same_key (keys_of v.list)) c.self.view_is
    (subst (λ (l : LruCache CacheKey Kept). IsDistinct same_key (keys_of (entries_of l.entries))) c.deref.ensures
    (distinct-seen seen_key _ same_key (λ i j. refl) c.deref.result.now.entries c.len.ensures.valid.0))
