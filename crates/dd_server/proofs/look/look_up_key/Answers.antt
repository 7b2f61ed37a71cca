use Rattle.std.proofs.Common.{◌≡◌, ◌∙◌, None, Some, sym, subst, ap}
use Rattle.std.specs.Map.{lookup}
use Rattle.std.specs.Option.{option_copied}
use Rattle.dd_cache.specs.Entries.{Entries, to_front}
use Rattle.dd_cache.specs.Keys.{same_key, seen_key}
use Rattle.dd_read.specs.ReadingState.{state_of}
use Rattle.dd_server.specs.Held.{AreEntries}
use Rattle.dd_server.proofs.Holding.{front-entries}
use Rattle.dd_server.proofs.Looking.{found-told, found-writable, missing-same, searched-looks, searched-new, searched-open, searched-opens}
use Rattle.dd_server.proofs.look.look_up_key.Goals as goal

pub found-requires : goal.found-requires
found-requires c = found-writable (state_of c.args.reading.now) c.requires.numbering c.args.ask c.requires.fit (seen_key c.args.key) c.requires.key c.args.cache.now.list c.requires.entries
    c.in-Some.entry.now (sym c.look.ensures.found ∙ ap option_copied c.in-Some.is)

pub returns-in-Some-clause-looks : goal.returns-in-Some-clause-looks
returns-in-Some-clause-looks c = found-told (state_of c.args.reading.now) c.requires.numbering c.args.ask c.requires.fit (seen_key c.args.key) c.requires.key c.args.cache.now.list
    c.requires.entries c.in-Some.entry.now (sym c.look.ensures.found ∙ ap option_copied c.in-Some.is) _ _ c.found.result (ap (λ (v : Entries). v.list) c.look.follows.holds-at-none)
    c.found.ensures.replies

pub returns-in-None-clause-looks : goal.returns-in-None-clause-looks
returns-in-None-clause-looks c =
    let key = seen_key c.args.key in
    let missing : lookup (same_key key) c.args.cache.now.list ≡ None = sym c.look.ensures.found ∙ ap option_copied c.in-None.is in
    searched-looks c.args.reading.now.symbols c.args.ask c.args.key _ _ c.search_for.result c.args.cache.now.list _ c.requires.key missing
    (missing-same key c.args.cache.now.list _ missing (ap (λ (v : Entries). v.list) c.look.follows.holds-at-none)) c.search_for.ensures

pub returns-in-None-clause-open : goal.returns-in-None-clause-open
returns-in-None-clause-open c = searched-open c.args.reading.now.symbols c.args.ask c.args.key _ _ c.search_for.result c.search_for.ensures

pub returns-in-None-clause-opens : goal.returns-in-None-clause-opens
returns-in-None-clause-opens c = searched-opens c.args.reading.now.symbols c.args.ask c.args.key _ _ c.search_for.result c.search_for.ensures

pub returns-in-None-clause-sessions : goal.returns-in-None-clause-sessions
returns-in-None-clause-sessions c = searched-new c.args.reading.now.symbols c.args.ask c.args.key _ _ c.search_for.result c.requires.fit.job c.requires.sessions c.search_for.ensures

pub returns-in-Some-clause-entries : goal.returns-in-Some-clause-entries
returns-in-Some-clause-entries c =
    let state = state_of c.args.reading.now in
    subst (λ (v : Entries). AreEntries state v.list) (sym c.look.follows.holds-at-none) (front-entries state (seen_key c.args.key) c.args.cache.now.list c.requires.entries)

pub returns-in-None-clause-entries : goal.returns-in-None-clause-entries
returns-in-None-clause-entries c =
    let state = state_of c.args.reading.now in
    subst (λ (v : Entries). AreEntries state v.list) (sym c.look.follows.holds-at-none) (front-entries state (seen_key c.args.key) c.args.cache.now.list c.requires.entries)
