-- What a model of a peer asks of other peers.
use Rattle.std.specs.Prelude.{◌≡◌, ℕ, ◌<◌, ◌++◌, not, if◌then◌else◌, List, [], ◌∷◌, map, length, fold, flat_map, IsTrue}
use Rattle.std.specs.List.{list_any, range_with_len}
use Rattle.dd_interp.specs.declared.interp.Interp.{Interp}
use Rattle.dd_peer.specs.declared.version.Pinned.{Pinned}
use Rattle.dd_task.specs.declared.job.Key.{Key}
use Rattle.dd_task.specs.declared.job.Key.TheVariants.{Asked}
use Rattle.dd_task.specs.Rules.{into_rules, onto_rules}
use Rattle.dd_task.specs.Keys.{is_same_key}
use Rattle.dd_task.specs.Targets.{positions, in_target, in_onto}

-- the into rules from peer h whose targets the element x of peer i is not in, by their positions, rising
abbrev pub false_into : Pinned → ℕ → ℕ → Interp → ℕ → List ℕ
false_into p h i m x = positions (λ r. not (in_target m x r)) (into_rules p h i)

-- the keys that the element x of peer i raises at peer h: one for each onto rule from h whose target it is in
abbrev pub raised_from : Pinned → ℕ → Interp → ℕ → ℕ → List Key
raised_from p i m x h = map (λ o. Asked h i o (false_into p h i m x)) (positions (in_target m x) (onto_rules p h i))

-- the keys that the element x raises, by peers, rising
abbrev pub raised_at : Pinned → ℕ → Interp → ℕ → List Key
raised_at p i m x = flat_map (raised_from p i m x) (range_with_len 0 (length p.peers))

-- the keys with one more, where it is not there yet
abbrev pub with_key : List Key → Key → List Key
with_key found k = if list_any (is_same_key k) found then found else found ++ k ∷ []

-- each key at its first place
abbrev pub without_repeats : List Key → List Key
without_repeats keys = fold with_key [] keys

-- the keys that the model of peer i raises, by elements, rising
abbrev pub raised_by : Pinned → ℕ → Interp → List Key
raised_by p i m = without_repeats (flat_map (raised_at p i m) (range_with_len 0 m.size))

-- the element x of peer i is in the target of the onto rule o from peer h, and the key says so
pub record IsRaised (p : Pinned) (i : ℕ) (m : Interp) (x h o : ℕ) (key : Key) : Type 0 where
  pub declared : h < length p.peers
  pub in_target : IsTrue (in_onto p h i m x o)
  pub asked : key ≡ Asked h i o (false_into p h i m x)
