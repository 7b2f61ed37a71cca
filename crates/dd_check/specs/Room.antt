-- Room for a number of things, of which some are taken.
use Rattle.std.specs.Prelude.{ℕ, ◌-◌, nat_le, if◌then◌else◌, Option, None, Some}

-- what is left, where there is room
abbrev pub room_after : ℕ → ℕ → Option ℕ
room_after most n = if nat_le n most then Some (most - n) else None
