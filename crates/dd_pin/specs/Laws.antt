-- The law of pins.
use Rattle.std.specs.Prelude.{◌≡◌, ℕ, ◌++◌, List, true}
use Rattle.dd_pin.specs.declared.registry.Accepted.{Accepted}
use Rattle.dd_pin.specs.History.{is_pin, pinned_by}

-- however a history goes on, a pin of it stays one
abbrev pub StaysPin : ℕ → List ℕ → List Accepted → List Accepted → Type 0
StaysPin peers pin history later = is_pin peers pin (history ++ later) ≡ true

-- and names the same versions
abbrev pub NamesSame : List ℕ → List Accepted → List Accepted → Type 0
NamesSame pin history later = pinned_by pin (history ++ later) ≡ pinned_by pin history

-- Later puts change nothing that a pin names.
abbrev pub PinsStay : Type 0
PinsStay = (peers : ℕ) (pin : List ℕ) (history later : List Accepted) → is_pin peers pin history ≡ true
    → StaysPin peers pin history later × NamesSame pin history later
