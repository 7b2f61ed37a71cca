-- How a reader stops on its way through a line: at the end of the line, at the limit of bytes or at a fault.
use Rattle.std.proofs.Common.{◌≡◌, ℕ, ◌+◌, ◌-◌, ◌<◌, ◌≤◌, true, false, Option, Some, None, IfSome, List, [], ◌∷◌, ◌++◌, length, take, drop, sym, ap, subst, ◌∙◌, inr, arith, length-append, append_assoc}
use Rattle.std.proofs.lemmas.List.{append-nil, take_at}
use Rattle.dd_lines.specs.Lines.{has_feed}
use Rattle.dd_lines.specs.Reading.{Reading, room, ahead}
use Rattle.dd_lines.specs.NextLine.{KeepsLimits, Over, Advances, TakesNoFeed, TakesTooMuch, Stops}
use Rattle.dd_lines.specs.Outside.{TakesFront}
use Rattle.dd_lines.specs.Parts.{Fills, Gathers, Moves, IsFeedAt, IsAnswer}
use Rattle.dd_lines.specs.declared.reader.LineStep.TheVariants as step
use Rattle.dd_lines.specs.declared.reader.ReadErr.TheVariants as err
use Rattle.dd_lines.specs.declared.reader.Fill.TheVariants as fill
use Rattle.dd_lines.specs.declared.reader.Stop.TheVariants as stop
use Rattle.dd_lines.proofs.Feeds.{no_feed-append, feed_cuts}
use Rattle.dd_lines.proofs.Pieces.{rose-after, takes-both}
use Rattle.dd_lines.proofs.Readings.{passes-clear, passes-more, passes-room, answers-feed, answers-last}

told-over : (a l : Option (List ℕ)) (rest : Option (List ℕ)) (mid : Reading) (passed : List ℕ) (byte more : ℕ)
    → TakesFront a (ahead mid l) passed → has_feed (passed ++ mid.held) ≡ false → TakesFront l rest (byte ∷ [])
    → more ≡ length (passed ++ mid.held) → IfSome a (Over more)
told-over None l rest mid passed byte more h none some m = tt
told-over (Some xs) None rest mid passed byte more h none some m = absurd h
told-over (Some xs) (Some ys) None mid passed byte more h none some m = absurd some
told-over (Some xs) (Some ys) (Some zs) mid passed byte more h none some m =
    let all : xs ≡ (passed ++ mid.held) ++ ys = h ∙ sym (append_assoc passed mid.held ys) in
    let size : length xs ≡ length (passed ++ mid.held) + length ys = ap length all ∙ length-append (passed ++ mid.held) ys in
    let one : length ys ≡ 1 + length zs = ap length some ∙ length-append (byte ∷ []) zs in
    let front : take more xs ≡ passed ++ mid.held = ap (take more) all ∙ take_at (passed ++ mid.held) ys more (sym m) in
    (omega arith, ap has_feed front ∙ none)

-- the bytes that were taken, with one past the limit
much-over : (old : Reading) (left : Option (List ℕ)) (mid : Reading) (l : Option (List ℕ)) (new : Reading) (rest : Option (List ℕ)) (passed : List ℕ) (byte : ℕ)
    → Moves old left mid l passed → has_feed (passed ++ mid.held) ≡ false → TakesFront l rest (byte ∷ [])
    → new.taken ≡ mid.taken + 1 → new.max_bytes ≡ old.max_bytes → mid.taken ≡ old.max_bytes
    → room old ≡ length (passed ++ mid.held) → TakesTooMuch old left new rest
much-over old left mid l new rest passed byte p none one count limit full more =
    let bytes = p.bytes ++ byte ∷ [] in
    let whole : old.held ++ bytes ≡ (passed ++ mid.held) ++ byte ∷ [] = sym (append_assoc old.held p.bytes (byte ∷ [])) ∙ ap (λ v. v ++ byte ∷ []) (sym p.seen) in
    let front : take (room old) (old.held ++ bytes) ≡ passed ++ mid.held = ap (take (room old)) whole ∙ take_at (passed ++ mid.held) (byte ∷ []) (room old) (sym more) in (
      bytes,
      (takes-both left l rest p.bytes (byte ∷ []) p.takes.0 one, omega (arith, count, p.takes.1, length-append p.bytes (byte ∷ []))),
      omega (arith, count, limit, full),
      ap length whole ∙ omega (arith, length-append (passed ++ mid.held) (byte ∷ []), more),
      ap has_feed front ∙ none,
    )

-- a byte past the limit was met before a line feed
pub stops-over : (old : Reading) (left : Option (List ℕ)) (mid : Reading) (l : Option (List ℕ)) (new : Reading) (rest : Option (List ℕ)) (passed : List ℕ) (first before after : ℕ)
    → Moves old left mid l passed → has_feed (passed ++ mid.held) ≡ false → Fills fill.Over mid l new rest before after
    → KeepsLimits old new × Stops err.TooMuch old left new rest first after
stops-over old left mid l new rest passed first before after p none f =
    let lines : new.max_line ≡ old.max_line = ap (λ (r : Reading). r.max_line) f.0 ∙ p.limits.0 in
    let bytes : new.max_bytes ≡ old.max_bytes = ap (λ (r : Reading). r.max_bytes) f.0 ∙ p.limits.1 in
    let much : new.too_much ≡ true = ap (λ (r : Reading). r.too_much) f.0 in
    let count : new.taken ≡ mid.taken + 1 = ap (λ (r : Reading). r.taken) f.0 in
    let full : mid.taken ≡ old.max_bytes = f.1 ∙ p.limits.1 in
    let more : room old ≡ length (passed ++ mid.held) = omega (arith, passes-room old left mid l passed p, length-append passed mid.held, f.1) in (
      (lines, bytes),
      (
        much,
        inr (
          told-over (ahead old left) l rest mid passed f.2 (room old) p.front none f.3 more,
          much-over old left mid l new rest passed f.2 p none f.3 count bytes full more,
        ),
      ),
    )

-- a fault was met before a line feed
pub stops-broken : (old : Reading) (left : Option (List ℕ)) (mid : Reading) (l : Option (List ℕ)) (new : Reading) (rest : Option (List ℕ)) (passed : List ℕ) (first before after : ℕ)
    → Moves old left mid l passed → has_feed (passed ++ mid.held) ≡ false → first ≤ before → Fills fill.Broken mid l new rest before after
    → KeepsLimits old new × Stops err.ReadFault old left new rest first after
stops-broken old left mid l new rest passed first before after p none counts f =
    let lines : new.max_line ≡ old.max_line = ap (λ (r : Reading). r.max_line) f.0 ∙ p.limits.0 in
    let bytes : new.max_bytes ≡ old.max_bytes = ap (λ (r : Reading). r.max_bytes) f.0 ∙ p.limits.1 in
    let failed : new.failed ≡ Some after = ap (λ (r : Reading). r.failed) f.0 in
    let taken : new.taken ≡ mid.taken = ap (λ (r : Reading). r.taken) f.0 in
    let takes : Advances old left new rest p.bytes = (subst (λ o. TakesFront left o p.bytes) (sym f.1) p.takes.0, taken ∙ p.takes.1) in
    ((lines, bytes), (rose-after first before after counts f.2, failed, (p.bytes, takes, ap has_feed (sym p.seen) ∙ none)))

-- what was searched stays searched when more bytes are held
pub searched-more : (mid : Reading) (l : Option (List ℕ)) (new : Reading) (rest : Option (List ℕ)) (before after n : ℕ)
    → Fills fill.More mid l new rest before after → n ≡ length mid.held → has_feed mid.held ≡ false
    → (n ≤ length new.held) × (has_feed (take n new.held) ≡ false)
searched-more mid l new rest before after n f e none =
    let held : new.held ≡ mid.held ++ f.0 = ap (λ (r : Reading). r.held) f.3 in
    let size : length new.held ≡ length mid.held + length f.0 = ap length held ∙ length-append mid.held f.0 in
    (omega arith, ap (λ xs. has_feed (take n xs)) held ∙ ap has_feed (take_at mid.held f.0 n (sym e)) ∙ none)

-- the budget falls with each read that brings bytes
pub budget-falls : (mid : Reading) (l : Option (List ℕ)) (new : Reading) (rest : Option (List ℕ)) (before after : ℕ)
    → Fills fill.More mid l new rest before after → new.max_bytes - new.taken < mid.max_bytes - mid.taken
budget-falls mid l new rest before after f =
    let taken : new.taken ≡ mid.taken + length f.0 = ap (λ (r : Reading). r.taken) f.3 in
    let limit : new.max_bytes ≡ mid.max_bytes = ap (λ (r : Reading). r.max_bytes) f.3 in
    omega (arith, f.1, f.2)

-- the search met the end of the input
pub gathers-ended : (old : Reading) (left : Option (List ℕ)) (mid : Reading) (l : Option (List ℕ)) (new : Reading) (rest : Option (List ℕ)) (first before after : ℕ)
    → Moves old left mid l [] → has_feed mid.held ≡ false → length mid.held ≤ mid.max_line
    → Fills fill.Ended mid l new rest before after → Gathers stop.Ended old left new rest first after
gathers-ended old left mid l new rest first before after p none short f =
    let P : Reading → Option (List ℕ) → Type 0 = λ r o. Gathers stop.Ended old left r o first after in
    subst (P new) (sym f.1) (subst (λ r. P r l) (sym f.0) (p, none, short, f.2))

-- no more is held, and the budget stays
pub cleared : (mid new : Reading) → new ≡ record mid { held = [] }
    → (new.held ≡ []) × (new.taken ≡ mid.taken) × (new.max_bytes ≡ mid.max_bytes)
cleared mid new e = (ap (λ (r : Reading). r.held) e, ap (λ (r : Reading). r.taken) e, ap (λ (r : Reading). r.max_bytes) e)

-- a line that is too long is dropped: no line feed was met in it
pub record Skips (old : Reading) (left : Option (List ℕ)) (new : Reading) (rest : Option (List ℕ)) (passed : List ℕ) : Type 0 where
  pub passes : Moves old left new rest passed
  pub none : has_feed (passed ++ new.held) ≡ false
  pub long : old.max_line < length (passed ++ new.held)

pub skips-clear : (old : Reading) (left : Option (List ℕ)) (mid : Reading) (l : Option (List ℕ)) (new : Reading) (passed : List ℕ)
    → Skips old left mid l passed → new ≡ record mid { held = [] } → Skips old left new l (passed ++ mid.held)
skips-clear old left mid l new passed s e =
    let held : new.held ≡ [] = ap (λ (r : Reading). r.held) e in
    let same : (passed ++ mid.held) ++ new.held ≡ passed ++ mid.held = ap (λ v. (passed ++ mid.held) ++ v) held ∙ append-nil (passed ++ mid.held) in
    record {
      passes = passes-clear old left mid l new passed s.passes e;
      none = ap has_feed same ∙ s.none;
      long = omega (arith, s.long, ap length same);
    }

-- the input ended in a line that is too long
pub skips-ended : (old : Reading) (left : Option (List ℕ)) (mid : Reading) (l : Option (List ℕ)) (new : Reading) (rest : Option (List ℕ)) (passed : List ℕ) (before after : ℕ)
    → Skips old left mid l passed → mid.held ≡ [] → Fills fill.Ended mid l new rest before after
    → IsAnswer step.TooLong old.max_line (ahead old left) (ahead new rest) (room old) (room new)
skips-ended old left mid l new rest passed before after s held f =
    let some : 0 < length (passed ++ mid.held) = omega (arith, s.long) in
    let same : new ≡ record mid { held = [] } = f.0 ∙ ap (λ v. record mid { held = v }) held in
    let a = answers-last step.TooLong old left mid new l passed s.passes s.none some f.2 same s.long in
    subst (λ o. IsAnswer step.TooLong old.max_line (ahead old left) (ahead new o) (room old) (room new)) (sym f.1) a

-- a line feed was met in a line that is too long
pub skips-feed : (old : Reading) (left : Option (List ℕ)) (mid new : Reading) (l : Option (List ℕ)) (passed : List ℕ) (n : ℕ)
    → Moves old left mid l passed → has_feed passed ≡ false → old.max_line < length passed
    → IsFeedAt n mid.held → new ≡ record mid { held = drop (n + 1) mid.held }
    → IsAnswer step.TooLong old.max_line (ahead old left) (ahead new l) (room old) (room new)
skips-feed old left mid new l passed n p none long at e =
    let bytes = take n mid.held in
    let held : new.held ≡ drop (n + 1) mid.held = ap (λ (r : Reading). r.held) e in
    let cut : mid.held ≡ bytes ++ 10 ∷ new.held = feed_cuts n mid.held at.0 ∙ ap (λ v. bytes ++ 10 ∷ v) (sym held) in
    let same : new ≡ record mid { held = new.held } = e ∙ ap (λ v. record mid { held = v }) (sym held) in
    let size : old.max_line < length (passed ++ bytes) = omega (arith, length-append passed bytes) in
    answers-feed step.TooLong old left mid new l passed bytes p (no_feed-append passed bytes none at.1) cut same size

-- nothing is held: all that was passed has no line feed and is longer than a line
pub skips-empty : (old : Reading) (left : Option (List ℕ)) (mid : Reading) (l : Option (List ℕ)) (passed : List ℕ)
    → Skips old left mid l passed → mid.held ≡ [] → (has_feed passed ≡ false) × (old.max_line < length passed)
skips-empty old left mid l passed s e =
    let same : passed ++ mid.held ≡ passed = ap (λ v. passed ++ v) e ∙ append-nil passed in
    (sym (ap has_feed same) ∙ s.none, omega (arith, s.long, ap length same))

-- more bytes without a line feed were taken
pub skips-more : (old : Reading) (left : Option (List ℕ)) (mid : Reading) (l : Option (List ℕ)) (new : Reading) (rest : Option (List ℕ)) (passed : List ℕ) (before after : ℕ)
    → Skips old left mid l passed → mid.held ≡ [] → Fills fill.More mid l new rest before after → has_feed new.held ≡ false
    → Skips old left new rest passed
skips-more old left mid l new rest passed before after s e f none =
    let clean = skips-empty old left mid l passed s e in
    record {
      passes = passes-more old left mid l new rest passed before after s.passes f;
      none = no_feed-append passed new.held clean.0 none;
      long = omega (arith, clean.1, length-append passed new.held);
    }
