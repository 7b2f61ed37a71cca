-- How a reader comes from one reading to the next, and what then follows of the lines ahead of it.
use Rattle.std.proofs.Common.{◌≡◌, ℕ, ◌+◌, ◌<◌, ◌≤◌, true, false, Option, Some, None, IfSome, List, [], ◌∷◌, ◌++◌, length, take, refl, sym, ap, subst, ◌∙◌, inl, inr, arith, length-append, append_assoc}
use Rattle.std.proofs.lemmas.List.{append-nil}
use Rattle.dd_lines.specs.Lines.{lines_of, has_feed, IsCut}
use Rattle.dd_lines.specs.Outside.{Takes, TakesFront}
use Rattle.dd_lines.specs.Reading.{Reading, room, ahead}
use Rattle.dd_lines.specs.NextLine.{Next, Over, Uses, StandsFor}
use Rattle.dd_lines.specs.Parts.{Fills, Moves, CanGoOn, IsAnswer}
use Rattle.dd_lines.specs.declared.reader.LineStep.{LineStep}
use Rattle.dd_lines.specs.declared.reader.LineStep.TheVariants as step
use Rattle.dd_lines.specs.declared.reader.Fill.TheVariants as fill
use Rattle.dd_lines.proofs.Feeds.{lines_of-feed, lines_of-last, feed_seen}
use Rattle.dd_lines.proofs.Pieces.{takes-both}

-- the room's front was taken from the front
pub takes_front : (old new : Option (List ℕ)) (n : ℕ) (bytes : List ℕ) → Takes old new n bytes → TakesFront old new (take n bytes)
takes_front None new n bytes t = t
takes_front (Some xs) None n bytes t = absurd t
takes_front (Some xs) (Some ys) n bytes t = t.0

-- the one byte of a room was taken
pub takes_one : (old new : Option (List ℕ)) (n : ℕ) (bytes : List ℕ) → Takes old new n bytes → 0 < n → n ≤ length bytes → length bytes ≤ 1
    → (byte : ℕ) × TakesFront old new (byte ∷ [])
takes_one old new n [] t some fits one = absurd (omega arith)
takes_one old new n (b ∷ c ∷ bytes) t some fits one = absurd (omega arith)
takes_one old new n (b ∷ []) t some fits one =
    let is : n ≡ 1 = omega arith in
    (b, subst (λ k. TakesFront old new (take k (b ∷ []))) is (takes_front old new n (b ∷ []) t))

takes_none : (a : Option (List ℕ)) → TakesFront a a []
takes_none None = refl
takes_none (Some xs) = refl

-- a reader that does nothing
pub passes-start : (r : Reading) (left : Option (List ℕ)) → CanGoOn r → Moves r left r left []
passes-start r left can = record {
  front = takes_none (ahead r left);
  bytes = [];
  takes = (takes_none left, omega arith);
  seen = sym (append-nil r.held);
  counted = omega arith;
  grows = omega arith;
  can = can;
  limits = (refl, refl);
}

front-more : (a l rest : Option (List ℕ)) (mid new : Reading) (passed bytes : List ℕ)
    → TakesFront a (ahead mid l) passed → TakesFront l rest bytes → new.held ≡ mid.held ++ bytes
    → TakesFront a (ahead new rest) passed
front-more None None rest mid new passed bytes h k e = ap (ahead new) k
front-more None (Some ys) rest mid new passed bytes h k e = cc
front-more (Some xs) None rest mid new passed bytes h k e = absurd h
front-more (Some xs) (Some ys) None mid new passed bytes h k e = absurd k
front-more (Some xs) (Some ys) (Some zs) mid new passed bytes h k e =
    h ∙ ap (λ v. passed ++ (mid.held ++ v)) k ∙ ap (λ v. passed ++ v) (sym (append_assoc mid.held bytes zs))
    ∙ ap (λ v. passed ++ (v ++ zs)) (sym e)

-- more bytes are held
pub passes-more : (old : Reading) (left : Option (List ℕ)) (mid : Reading) (l : Option (List ℕ)) (new : Reading) (rest : Option (List ℕ)) (passed : List ℕ) (before after : ℕ)
    → Moves old left mid l passed → Fills fill.More mid l new rest before after → Moves old left new rest passed
passes-more old left mid l new rest passed before after p f =
    let next : Reading = record mid { held = mid.held ++ f.0; taken = mid.taken + length f.0 } in
    subst (λ r. Moves old left r rest passed) (sym f.3) (record {
      front = front-more (ahead old left) l rest mid next passed f.0 p.front f.4 refl;
      bytes = p.bytes ++ f.0;
      takes = (takes-both left l rest p.bytes f.0 p.takes.0 f.4, omega (arith, p.takes.1, length-append p.bytes f.0));
      seen = sym (append_assoc passed mid.held f.0) ∙ ap (λ v. v ++ f.0) p.seen ∙ append_assoc old.held p.bytes f.0;
      counted = omega (arith, p.counted, length-append mid.held f.0);
      grows = omega (arith, p.grows);
      can = record { going = p.can.going; within = f.2 };
      limits = p.limits;
    })

front-clear : (a l : Option (List ℕ)) (mid new : Reading) (passed : List ℕ)
    → TakesFront a (ahead mid l) passed → new.held ≡ [] → TakesFront a (ahead new l) (passed ++ mid.held)
front-clear None None mid new passed h e = refl
front-clear None (Some ys) mid new passed h e = cc
front-clear (Some xs) None mid new passed h e = absurd h
front-clear (Some xs) (Some ys) mid new passed h e =
    h ∙ sym (append_assoc passed mid.held ys) ∙ ap (λ v. (passed ++ mid.held) ++ (v ++ ys)) (sym e)

-- the held bytes are dropped
pub passes-clear : (old : Reading) (left : Option (List ℕ)) (mid : Reading) (l : Option (List ℕ)) (new : Reading) (passed : List ℕ)
    → Moves old left mid l passed → new ≡ record mid { held = [] } → Moves old left new l (passed ++ mid.held)
passes-clear old left mid l new passed p e =
    let next : Reading = record mid { held = [] } in
    subst (λ r. Moves old left r l (passed ++ mid.held)) (sym e) (record {
      front = front-clear (ahead old left) l mid next passed p.front refl;
      bytes = p.bytes;
      takes = p.takes;
      seen = append-nil (passed ++ mid.held) ∙ p.seen;
      counted = omega (arith, p.counted, length-append passed mid.held);
      grows = p.grows;
      can = record { going = p.can.going; within = p.can.within };
      limits = p.limits;
    })

-- bytes that were passed no longer lie ahead within the limit
pub passes-room : (old : Reading) (left : Option (List ℕ)) (new : Reading) (rest : Option (List ℕ)) (passed : List ℕ)
    → Moves old left new rest passed → room old ≡ length passed + room new
passes-room old left new rest passed p = omega (arith, p.counted, p.grows, p.can.within, p.limits.1)

next-first : (max : ℕ) (answer : LineStep) (all rest bytes : List ℕ) (more less : ℕ) → StandsFor max answer bytes
    → IsCut all bytes rest → lines_of all ≡ bytes ∷ lines_of rest → more + length rest ≡ less + length all → Next max answer all rest more less
next-first max (step.Line v) all rest bytes more less s c e f = (bytes, s, c, e, f)
next-first max step.TooLong all rest bytes more less s c e f = (bytes, s, c, e, f)
next-first max step.End all rest bytes more less s c e f = absurd s

uses-first : (max : ℕ) (answer : LineStep) (bytes : List ℕ) (more less : ℕ) → StandsFor max answer bytes → less < more → Uses answer more less
uses-first max (step.Line v) bytes more less s h = h
uses-first max step.TooLong bytes more less s h = h
uses-first max step.End bytes more less s h = absurd s

-- the bytes of a line with its line feed were passed, and all the rest is ahead
told-feed : (max : ℕ) (answer : LineStep) (a l : Option (List ℕ)) (mid new : Reading) (passed bytes : List ℕ) (more less : ℕ)
    → TakesFront a (ahead mid l) passed → has_feed (passed ++ bytes) ≡ false → mid.held ≡ bytes ++ 10 ∷ new.held
    → StandsFor max answer (passed ++ bytes) → more ≡ length (passed ++ bytes) + 1 + less
    → IfSome a (λ all. (rest : List ℕ) × (ahead new l ≡ Some rest) × Next max answer all rest more less) × IfSome a (λ all. ¬ (Over more all))
told-feed max answer None l mid new passed bytes more less h none e s m = (tt, tt)
told-feed max answer (Some xs) None mid new passed bytes more less h none e s m = absurd h
told-feed max answer (Some xs) (Some ys) mid new passed bytes more less h none e s m =
    let rest = new.held ++ ys in
    let all : xs ≡ (passed ++ bytes) ++ 10 ∷ rest =
    h ∙ ap (λ v. passed ++ (v ++ ys)) e ∙ ap (λ v. passed ++ v) (append_assoc bytes (10 ∷ new.held) ys) ∙ sym (append_assoc passed bytes (10 ∷ rest)) in
    let lines : lines_of xs ≡ (passed ++ bytes) ∷ lines_of rest = ap lines_of all ∙ lines_of-feed (passed ++ bytes) rest none in
    let size : length xs ≡ length (passed ++ bytes) + (1 + length rest) = ap length all ∙ length-append (passed ++ bytes) (10 ∷ rest) ∙ omega arith in
    let seen : has_feed (take more xs) ≡ true = ap (λ v. has_feed (take more v)) all ∙ feed_seen (passed ++ bytes) rest more (omega arith) in
    ((rest, refl, next-first max answer xs rest (passed ++ bytes) more less s (none, inl all) lines (omega arith)), λ o. cc (o.1, seen))

-- a line feed ends the line
pub answers-feed : (answer : LineStep) (old : Reading) (left : Option (List ℕ)) (mid new : Reading) (l : Option (List ℕ)) (passed bytes : List ℕ)
    → Moves old left mid l passed → has_feed (passed ++ bytes) ≡ false → mid.held ≡ bytes ++ 10 ∷ new.held
    → new ≡ record mid { held = new.held } → StandsFor old.max_line answer (passed ++ bytes)
    → IsAnswer answer old.max_line (ahead old left) (ahead new l) (room old) (room new)
answers-feed answer old left mid new l passed bytes p none e same s =
    let taken : new.taken ≡ mid.taken = ap (λ (r : Reading). r.taken) same in
    let limit : new.max_bytes ≡ mid.max_bytes = ap (λ (r : Reading). r.max_bytes) same in
    let held : length mid.held ≡ length bytes + (1 + length new.held) = ap length e ∙ length-append bytes (10 ∷ new.held) ∙ omega arith in
    let more : room old ≡ length (passed ++ bytes) + 1 + room new =
    omega (arith, passes-room old left mid l passed p, length-append passed bytes, taken, limit, held) in
    let told = told-feed old.max_line answer (ahead old left) l mid new passed bytes (room old) (room new) p.front none e s more in
    record { next = told.0; within = told.1; uses = uses-first old.max_line answer (passed ++ bytes) (room old) (room new) s (omega arith) }

-- the bytes of the last line were passed, and nothing is ahead
told-last : (max : ℕ) (answer : LineStep) (a l : Option (List ℕ)) (mid new : Reading) (passed : List ℕ) (more less : ℕ)
    → TakesFront a (ahead mid l) passed → has_feed (passed ++ mid.held) ≡ false → 0 < length (passed ++ mid.held)
    → IfSome l (λ xs. xs ≡ []) → new.held ≡ []
    → StandsFor max answer (passed ++ mid.held) → more ≡ length (passed ++ mid.held) + less
    → IfSome a (λ all. (rest : List ℕ) × (ahead new l ≡ Some rest) × Next max answer all rest more less) × IfSome a (λ all. ¬ (Over more all))
told-last max answer None l mid new passed more less h none some end e s m = (tt, tt)
told-last max answer (Some xs) None mid new passed more less h none some end e s m = absurd h
told-last max answer (Some xs) (Some ys) mid new passed more less h none some end e s m =
    let all : xs ≡ passed ++ mid.held = h ∙ ap (λ v. passed ++ (mid.held ++ v)) end ∙ ap (λ v. passed ++ v) (append-nil mid.held) in
    let lines : lines_of xs ≡ (passed ++ mid.held) ∷ lines_of [] = ap lines_of all ∙ lines_of-last (passed ++ mid.held) none some in
    let size : length xs ≡ length (passed ++ mid.held) = ap length all in
    let rest : ahead new (Some ys) ≡ Some [] = ap (λ v. Some (v ++ ys)) e ∙ ap Some end in
    (([], rest, next-first max answer xs [] (passed ++ mid.held) more less s (none, inr (all, refl, some)) lines (omega arith)), λ o. absurd (omega (arith, o.0)))

-- the end of the input ends the line
pub answers-last : (answer : LineStep) (old : Reading) (left : Option (List ℕ)) (mid new : Reading) (l : Option (List ℕ)) (passed : List ℕ)
    → Moves old left mid l passed → has_feed (passed ++ mid.held) ≡ false → 0 < length (passed ++ mid.held)
    → IfSome l (λ xs. xs ≡ []) → new ≡ record mid { held = [] } → StandsFor old.max_line answer (passed ++ mid.held)
    → IsAnswer answer old.max_line (ahead old left) (ahead new l) (room old) (room new)
answers-last answer old left mid new l passed p none some end same s =
    let taken : new.taken ≡ mid.taken = ap (λ (r : Reading). r.taken) same in
    let limit : new.max_bytes ≡ mid.max_bytes = ap (λ (r : Reading). r.max_bytes) same in
    let held : new.held ≡ [] = ap (λ (r : Reading). r.held) same in
    let empty : length new.held ≡ 0 = ap length held in
    let more : room old ≡ length (passed ++ mid.held) + room new =
    omega (arith, passes-room old left mid l passed p, length-append passed mid.held, taken, limit, empty) in
    let told = told-last old.max_line answer (ahead old left) l mid new passed (room old) (room new) p.front none some end held s more in
    record { next = told.0; within = told.1; uses = uses-first old.max_line answer (passed ++ mid.held) (room old) (room new) s (omega arith) }
