-- The entries of a cache, the one that was used last first.
use Rattle.std.specs.Prelude.{⊤, ℕ, ◌-◌, if◌then◌else◌, List, ◌∷◌, take, map, is_some}
use Rattle.std.specs.Option.{option_map_or}
use Rattle.std.specs.Map.{lookup, remove_entry}
use Rattle.dd_answer.specs.declared.answer.Answer.{Answer}
use Rattle.dd_answer.specs.declared.answer.Answer.TheVariants.{Yes, No, RunSpent, VerdictsSpent, Memory}
use Rattle.dd_cache.specs.declared.cache.Kept.{Kept}
use Rattle.dd_cache.specs.declared.key.CacheKey.{CacheKey}
use Rattle.dd_cache.specs.Keys.{Key, seen_key, same_key}

-- the entries, and how many there may be
pub record Entries : Type 0 where
  pub list : List (Key × Kept)
  pub capacity : ℕ

-- the entries of the program, by what their keys hold
abbrev pub entries_of : List (CacheKey × Kept) → List (Key × Kept)
entries_of es = map (λ e. (seen_key e.0, e.1)) es

-- an answer that is kept
abbrev pub kept : Answer → Kept
kept a = record { answer = a }

-- the entry of this key goes first, where there is one
abbrev pub to_front : Key → List (Key × Kept) → List (Key × Kept)
to_front k es = option_map_or (λ a. (k, a) ∷ remove_entry (same_key k) es) (lookup (same_key k) es) es

-- The key with its answer goes first. It takes the place of the entry with an equal key, or, in a cache for so many that is full, of the
-- last one.
abbrev pub with_first : ℕ → Key → Answer → List (Key × Kept) → List (Key × Kept)
with_first capacity k a es = (k, kept a) ∷ (if is_some (lookup (same_key k) es) then remove_entry (same_key k) es else take (capacity - 1) es)

-- yes or no: what is kept
abbrev pub IsVerdict : Answer → Type 0
IsVerdict (Yes lines) = ⊤
IsVerdict (No world) = ⊤
IsVerdict (RunSpent run) = ⊥
IsVerdict (VerdictsSpent n) = ⊥
IsVerdict Memory = ⊥
