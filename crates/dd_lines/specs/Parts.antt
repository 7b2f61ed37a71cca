-- For private clauses: what the parts of a reader promise each other.
use Rattle.std.specs.Prelude.{◌≡◌, ℕ, ◌+◌, ◌<◌, ◌≤◌, true, false, Option, Some, None, IfSome, List, [], ◌∷◌, ◌++◌, length, take, slice_get}
use Rattle.dd_lines.specs.Lines.{has_feed}
use Rattle.dd_lines.specs.Outside.{Rose, TakesFront}
use Rattle.dd_lines.specs.Reading.{Reading, ahead}
use Rattle.dd_lines.specs.NextLine.{KeepsLimits, IsGoing, Over, Next, Uses, Advances, Stops, StandsFor}
use Rattle.dd_lines.specs.declared.reader.LineStep.{LineStep}
use Rattle.dd_lines.specs.declared.reader.LineStep.TheVariants as step
use Rattle.dd_lines.specs.declared.reader.ReadErr.TheVariants as err
use Rattle.dd_lines.specs.declared.reader.Fill.{Fill}
use Rattle.dd_lines.specs.declared.reader.Fill.TheVariants as fill
use Rattle.dd_lines.specs.declared.reader.Stop.{Stop}
use Rattle.dd_lines.specs.declared.reader.Stop.TheVariants as stop

-- the reader can go on: it has met neither its limit of bytes nor a fault
pub record CanGoOn (r : Reading) : Type 0 where
  pub going : IsGoing r
  pub within : r.taken ≤ r.max_bytes

-- what one read of the source did to the reader and to what the source has left
abbrev pub Fills : Fill → (old : Reading) → (left : Option (List ℕ)) → (new : Reading) → (rest : Option (List ℕ)) → (before after : ℕ) → Type 0
-- some bytes within the limit were taken, and are held
Fills fill.More old left new rest before after = (bytes : List ℕ) × (0 < length bytes) × (old.taken + length bytes ≤ old.max_bytes) × (new ≡ record old { held = old.held ++ bytes; taken = old.taken + length bytes }) × TakesFront left rest bytes
-- nothing was left
Fills fill.Ended old left new rest before after = (new ≡ old) × (rest ≡ left) × IfSome left (λ xs. xs ≡ [])
-- a byte past the limit was taken and dropped
Fills fill.Over old left new rest before after = (new ≡ record old { taken = old.taken + 1; too_much = true }) × (old.taken ≡ old.max_bytes)
    × (byte : ℕ) × TakesFront left rest (byte ∷ [])
-- the source failed
Fills fill.Broken old left new rest before after = (new ≡ record old { failed = Some after }) × (rest ≡ left) × Rose before after

-- of what was ahead of the reader these bytes were dropped, and it can go on
pub record Moves (old : Reading) (left : Option (List ℕ)) (new : Reading) (rest : Option (List ℕ)) (passed : List ℕ) : Type 0 where
  pub front : TakesFront (ahead old left) (ahead new rest) passed
  pub bytes : List ℕ
  pub takes : Advances old left new rest bytes
  pub seen : passed ++ new.held ≡ old.held ++ bytes
  pub counted : length passed + length new.held + old.taken ≡ length old.held + new.taken
  pub grows : old.taken ≤ new.taken
  pub can : CanGoOn new
  pub limits : KeepsLimits old new

-- the first line feed of these bytes is behind n of them
abbrev pub IsFeedAt : ℕ → List ℕ → Type 0
IsFeedAt n bytes = (slice_get bytes n ≡ Some 10) × (has_feed (take n bytes) ≡ false)

-- where the search for the end of a line stopped
abbrev pub Gathers : Stop → (old : Reading) → (left : Option (List ℕ)) → (new : Reading) → (rest : Option (List ℕ)) → (before after : ℕ) → Type 0
-- the first line feed is behind n of the held bytes
Gathers (stop.Feed n) old left new rest before after = Moves old left new rest [] × IsFeedAt n new.held
-- no line feed is among the held bytes, and they are too many for a line
Gathers stop.Long old left new rest before after = Moves old left new rest [] × (has_feed new.held ≡ false) × (new.max_line < length new.held)
-- the held bytes are the last
Gathers stop.Ended old left new rest before after = Moves old left new rest [] × (has_feed new.held ≡ false) × (length new.held ≤ new.max_line) × IfSome rest (λ xs. xs ≡ [])
-- the line ends past the limit of bytes
Gathers stop.Over old left new rest before after = KeepsLimits old new × Stops err.TooMuch old left new rest before after
-- the source failed
Gathers stop.Broken old left new rest before after = KeepsLimits old new × Stops err.ReadFault old left new rest before after

-- the held bytes up to a line feed were handed on or dropped as a line
abbrev pub HandsOn : LineStep → (old new : Reading) → Type 0
HandsOn answer old new = (bytes : List ℕ) × StandsFor old.max_line answer bytes × (has_feed bytes ≡ false) × (old.held ≡ bytes ++ 10 ∷ new.held) × (new ≡ record old { held = new.held })

-- the held bytes, which are the last, were handed on as a line, if there were any
abbrev pub HandsLast : LineStep → (old new : Reading) → Type 0
HandsLast step.End old new = (old.held ≡ []) × (new ≡ old)
HandsLast answer old new = (0 < length old.held) × StandsFor old.max_line answer old.held × (new ≡ record old { held = [] })

-- the answer is the next line of what was ahead, where that is told
pub record IsAnswer (answer : LineStep) (max : ℕ) (ahead_old ahead_new : Option (List ℕ)) (more less : ℕ) : Type 0 where
  pub next : IfSome ahead_old (λ all. (rest : List ℕ) × (ahead_new ≡ Some rest) × Next max answer all rest more less)
  pub within : IfSome ahead_old (λ all. ¬ (Over more all))
  pub uses : Uses answer more less
