use Rattle.std.proofs.Common.{refl, ◌∙◌, ap}
use Rattle.lru.specs.LruCache.{LruCache}
use Rattle.std.specs.Map.{lookup}
use Rattle.dd_cache.specs.declared.key.CacheKey.{CacheKey}
use Rattle.dd_cache.specs.declared.cache.Kept.{Kept}
use Rattle.dd_cache.specs.Entries.{Entries, entries_of, to_front}
use Rattle.dd_cache.specs.Keys.{seen_key, same_key}
use Rattle.dd_cache.proofs.Seeing.{lookup-seen, promoted-seen}
use Rattle.dd_cache.proofs.EqualKeys.{one_key}
use Rattle.dd_cache.proofs.cache.Cache.look.Goals as goal

pub returns : goal.returns
returns c =
    let k = seen_key c.args.key.now in
    let after : Entries → Entries = λ v. record { list = to_front k v.list; capacity = v.capacity } in
    let order =
    ap (λ (l : LruCache CacheKey Kept). record { list = entries_of l.entries; capacity = l.cap }) c.get.follows.holds-at-none
    ∙ ap (λ l. record { list = l; capacity = c.deref_mut.result.now.cap }) (promoted-seen seen_key _ (same_key k) k (λ j. refl) (one_key k) c.deref_mut.result.now.entries)
    ∙ ap (λ (l : LruCache CacheKey Kept). after (record { list = entries_of l.entries; capacity = l.cap })) c.deref_mut.ensures.value
    ∙ ap after c.self.view_is in
    let found =
    c.get.ensures.value
    ∙ lookup-seen seen_key _ (same_key k) (λ j. refl) c.deref_mut.result.now.entries
    ∙ ap (λ (l : LruCache CacheKey Kept). lookup (same_key k) (entries_of l.entries)) c.deref_mut.ensures.value
    ∙ ap (λ (v : Entries). lookup (same_key k) v.list) c.self.view_is in
    ((refl, λ _. tt, order), record { order = tt; found = found })
