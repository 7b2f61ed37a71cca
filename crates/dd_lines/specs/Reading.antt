-- What a reader of lines is seen as.
use Rattle.std.specs.Prelude.{ℕ, ◌+◌, ◌-◌, Bool, Option, Some, None, List, ◌++◌, length}

-- held: the bytes that were taken and neither handed on nor dropped. taken: how many bytes were taken, the one past the
-- limit included. too_much: whether that one was seen. failed: the source's count of faults when it failed.
pub record Reading : Type 0 where
  pub held : List ℕ
  pub taken : ℕ
  pub too_much : Bool
  pub failed : Option ℕ
  pub max_line : ℕ
  pub max_bytes : ℕ

-- how many bytes, from the first held one on, lie within the limit of bytes
abbrev pub room : Reading → ℕ
room r = length r.held + (r.max_bytes - r.taken)

-- the bytes ahead of the reader, where the source tells what it has left
abbrev pub ahead : Reading → Option (List ℕ) → Option (List ℕ)
ahead r None = None
ahead r (Some left) = Some (r.held ++ left)
