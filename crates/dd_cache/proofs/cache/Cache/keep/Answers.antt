use Rattle.std.proofs.Common.{refl, ◌∙◌, ap, ◌-◌}
use Rattle.lru.specs.LruCache.{LruCache}
use Rattle.dd_cache.specs.declared.key.CacheKey.{CacheKey}
use Rattle.dd_cache.specs.declared.cache.Kept.{Kept}
use Rattle.dd_cache.specs.Entries.{Entries, entries_of, kept, with_first}
use Rattle.dd_cache.specs.Keys.{seen_key, same_key}
use Rattle.dd_cache.proofs.Seeing.{put-seen}
use Rattle.dd_cache.proofs.EqualKeys.{one_key}
use Rattle.dd_cache.proofs.cache.Cache.keep.Goals as goal

pub returns-clause-kept : goal.returns-clause-kept
returns-clause-kept c =
    let k = seen_key c.args.key in
    let was = c.deref_mut.result.now in
    let after : Entries → Entries = λ v. record { list = with_first v.capacity k c.args.answer v.list; capacity = v.capacity } in
    ap (λ (l : LruCache CacheKey Kept). record { list = entries_of l.entries; capacity = l.cap }) c.in-Ok.ensures.entries
    ∙ ap (λ l. record { list = l; capacity = was.cap }) (put-seen seen_key _ (same_key k) k (λ j. refl) (one_key k) c.args.key (kept c.args.answer) (was.cap - 1) refl was.entries)
    ∙ ap (λ (l : LruCache CacheKey Kept). after (record { list = entries_of l.entries; capacity = l.cap })) c.deref_mut.ensures.value
    ∙ ap after c.self.view_is
