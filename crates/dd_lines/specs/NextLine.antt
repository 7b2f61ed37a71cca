-- What the next line of a reader is, and why there may be none.
use Rattle.std.specs.Prelude.{◌≡◌, ℕ, ◌+◌, ◌<◌, ◌≤◌, ◌⊎◌, true, false, Option, Some, None, IfSome, List, [], ◌∷◌, length, take, ◌++◌}
use Rattle.dd_lines.specs.Lines.{lines_of, has_feed, IsCut}
use Rattle.dd_lines.specs.Outside.{Rose, TakesFront}
use Rattle.dd_lines.specs.Reading.{Reading, room, ahead}
use Rattle.dd_lines.specs.declared.reader.LineStep.{LineStep}
use Rattle.dd_lines.specs.declared.reader.LineStep.TheVariants as step
use Rattle.dd_lines.specs.declared.reader.ReadErr.{ReadErr}
use Rattle.dd_lines.specs.declared.reader.ReadErr.TheVariants as err

-- this answer stands for a line of these bytes
abbrev pub StandsFor : ℕ → LineStep → List ℕ → Type 0
StandsFor max (step.Line v) bytes = (v.items ≡ bytes) × (length bytes ≤ max)
StandsFor max step.TooLong bytes = max < length bytes
StandsFor max step.End bytes = ⊥

-- the answer stands for the first line of all these bytes, and the rest is what is behind it, with the other lines. Of
-- all, `more` bytes lay within the limit of bytes, and of the rest `less` do.
abbrev pub IsFirst : ℕ → LineStep → (all rest : List ℕ) → (more less : ℕ) → Type 0
IsFirst max answer all rest more less = (bytes : List ℕ) × StandsFor max answer bytes × IsCut all bytes rest × (lines_of all ≡ bytes ∷ lines_of rest)
    × (more + length rest ≡ less + length all)

-- the answer is the next line of what was ahead, and the rest is ahead now
abbrev pub Next : ℕ → LineStep → (all rest : List ℕ) → (more less : ℕ) → Type 0
Next max step.End all rest more less = (all ≡ []) × (rest ≡ []) × (less ≡ more)
Next max answer all rest more less = IsFirst max answer all rest more less

-- the next line does not end within the first `more` bytes, and there is a byte past them
abbrev pub Over : (more : ℕ) → (all : List ℕ) → Type 0
Over more all = (more < length all) × (has_feed (take more all) ≡ false)

-- a line takes at least one of the bytes within the limit, and the end takes none
abbrev pub Uses : LineStep → (more less : ℕ) → Type 0
Uses step.End more less = less ≡ more
Uses (step.Line v) more less = less < more
Uses step.TooLong more less = less < more

-- the reader has met neither its limit of bytes nor a fault of its source
abbrev pub IsGoing : Reading → Type 0
IsGoing r = (r.too_much ≡ false) × (r.failed ≡ None)

-- the limits that a reader was made with stay
abbrev pub KeepsLimits : (old new : Reading) → Type 0
KeepsLimits old new = (new.max_line ≡ old.max_line) × (new.max_bytes ≡ old.max_bytes)

-- what the source had left was taken up to here, and the reader counts these bytes
abbrev pub Advances : (old : Reading) → (left : Option (List ℕ)) → (new : Reading) → (rest : Option (List ℕ)) → (bytes : List ℕ) → Type 0
Advances old left new rest bytes = TakesFront left rest bytes × (new.taken ≡ old.taken + length bytes)

-- bytes were taken, and with those that were held before they have no line feed
abbrev pub TakesNoFeed : (old : Reading) → (left : Option (List ℕ)) → (new : Reading) → (rest : Option (List ℕ)) → Type 0
TakesNoFeed old left new rest = (bytes : List ℕ) × Advances old left new rest bytes × (has_feed (old.held ++ bytes) ≡ false)

-- bytes were taken up to the one past the limit, and with those that were held before they have no line feed within it
abbrev pub TakesTooMuch : (old : Reading) → (left : Option (List ℕ)) → (new : Reading) → (rest : Option (List ℕ)) → Type 0
TakesTooMuch old left new rest = (bytes : List ℕ) × Advances old left new rest bytes × (new.taken ≡ new.max_bytes + 1)
    × (length (old.held ++ bytes) ≡ room old + 1) × (has_feed (take (room old) (old.held ++ bytes)) ≡ false)

-- no line was answered, for this reason: `left` is what the source had left and `rest` what it has left now, `before` and
-- `after` are its counts of faults
abbrev pub Stops : ReadErr → (old : Reading) → (left : Option (List ℕ)) → (new : Reading) → (rest : Option (List ℕ)) → (before after : ℕ) → Type 0
-- the line feed of the next line was not taken
Stops err.ReadFault old left new rest before after = Rose before after × (new.failed ≡ Some after) × TakesNoFeed old left new rest
-- the source failed in an earlier call
Stops (err.Failed faults) old left new rest before after = old.failed ≡ Some faults
-- the limit of bytes was met in an earlier call, or the next line ends past it
Stops err.TooMuch old left new rest before after = (new.too_much ≡ true)
    × ((old.too_much ≡ true) ⊎ (IfSome (ahead old left) (Over (room old)) × TakesTooMuch old left new rest))
-- the line stays in the reader, so that the next call answers it
Stops err.NoMemory old left new rest before after = (ahead new rest ≡ ahead old left) × (room new ≡ room old) × IsGoing new
