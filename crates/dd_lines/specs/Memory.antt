-- What a source and a sink in memory are seen as, and which of their calls fail.
use Rattle.std.specs.Prelude.{◌≡◌, ℕ, ◌+◌, ◌-◌, ◌<◌, ◌≤◌, ◌==◌, ◌⊎◌, Bool, true, false, List, ◌++◌, length, take, drop, min}
use Rattle.std.specs.List.{list_any}

-- left: the bytes that are left to take. piece: how many a call takes at the most. fails: the numbers of the calls that
-- fail. calls: how many calls there were, which is the number of the next one. faults: how many of them failed.
pub record Feeding : Type 0 where
  pub left : List ℕ
  pub piece : ℕ
  pub fails : List ℕ
  pub calls : ℕ
  pub faults : ℕ

-- bytes: what was given so far. capacity: how many bytes it takes in all. The others are as those of a source.
pub record Filling : Type 0 where
  pub bytes : List ℕ
  pub capacity : ℕ
  pub piece : ℕ
  pub fails : List ℕ
  pub calls : ℕ
  pub faults : ℕ

-- is the call with this number one of those that fail
abbrev pub is_failing : List ℕ → ℕ → Bool
is_failing fails call = list_any (λ n. n == call) fails

-- one more; a count stands still at its last value, the largest number of 64 bits
abbrev pub one_more : ℕ → ℕ
one_more n = min (n + 1) 18446744073709551615

-- the call is none of those that fail: it took n bytes, as many as are left, as a piece has and as the room has
pub record Feeds (old new : Feeding) (room n : ℕ) : Type 0 where
  pub passes : is_failing old.fails old.calls ≡ false
  pub size : n ≡ min (min (length old.left) old.piece) room
  pub after : new ≡ record old { left = drop n old.left; calls = one_more old.calls }

-- the call is one of those that fail: it took nothing
pub record FeedFails (old new : Feeding) : Type 0 where
  pub cause : is_failing old.fails old.calls ≡ true
  pub after : new ≡ record old { calls = one_more old.calls; faults = one_more old.faults }

-- the call is none of those that fail and there was room: it took n bytes, as many as there were, as a piece has and as
-- there was room for
pub record Accepts (old new : Filling) (bytes : List ℕ) (n : ℕ) : Type 0 where
  pub passes : is_failing old.fails old.calls ≡ false
  pub space : length old.bytes < old.capacity
  pub size : n ≡ min (min (length bytes) old.piece) (old.capacity - length old.bytes)
  pub after : new ≡ record old { bytes = old.bytes ++ take n bytes; calls = one_more old.calls }

-- the call is one of those that fail, or the capacity was used up: it took nothing
pub record Rejects (old new : Filling) : Type 0 where
  pub cause : (is_failing old.fails old.calls ≡ true) ⊎ (old.capacity ≤ length old.bytes)
  pub after : new ≡ record old { calls = one_more old.calls; faults = one_more old.faults }
