-- The keys of a cache, by what they hold.
use Rattle.std.specs.Prelude.{ℕ, Bool, true, false, ◌&&◌, ◌==◌, List, [], ◌∷◌, map}
use Rattle.std.specs.List.{slice_index}
use Rattle.std.specs.Str.{bytes_eq}
use Rattle.dd_peer.specs.declared.version.Pin.{Pin}
use Rattle.dd_peer.specs.declared.version.Query.{Query}
use Rattle.dd_text.specs.Symbols.{SymbolLists}
use Rattle.dd_text.specs.Text.{concept_text}
use Rattle.dd_cache.specs.declared.key.CacheKey.{CacheKey}

-- a key: a peer, the texts of two concepts, and peers with their versions
pub record Key : Type 0 where
  pub peer : ℕ
  pub left : List ℕ
  pub right : List ℕ
  pub versions : List (ℕ × ℕ)

-- what a key of the program holds
abbrev pub seen_key : CacheKey → Key
seen_key k = record { peer = k.peer; left = k.left.items; right = k.right.items; versions = k.versions.items }

-- each of these peers with its version
abbrev pub versions_at : List ℕ → List ℕ → List (ℕ × ℕ)
versions_at versions relevant = map (λ peer. (peer, slice_index versions peer)) relevant

-- the key of a query that rests on the relevant peers: where it is asked, its two texts, and the versions of the relevant peers in the pin
abbrev pub key_of_query : SymbolLists → Query → List ℕ → Pin → Key
key_of_query symbols q relevant pin = record {
  peer = q.peer;
  left = concept_text symbols q.left;
  right = concept_text symbols q.right;
  versions = versions_at pin.versions relevant;
}

-- whether two lists have the same peers with the same versions, in the same order
abbrev pub same_versions : List (ℕ × ℕ) → List (ℕ × ℕ) → Bool
same_versions [] [] = true
same_versions [] (w ∷ ws) = false
same_versions (v ∷ vs) [] = false
same_versions (v ∷ vs) (w ∷ ws) = ((v.0 == w.0) && (v.1 == w.1)) && same_versions vs ws

-- whether two keys are equal
abbrev pub same_key : Key → Key → Bool
same_key k j = (k.peer == j.peer) && (bytes_eq k.left j.left && (bytes_eq k.right j.right && same_versions k.versions j.versions))
