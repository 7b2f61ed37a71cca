-- What a call answers, once the search has stopped: seen from where the call began.
use Rattle.std.proofs.Common.{◌≡◌, ℕ, ◌+◌, ◌-◌, ◌≤◌, false, Option, Some, None, IfSome, Result, Ok, Err, IfOk, IfErr, OnOk, List, [], ◌++◌, length, length-append, append_assoc, take, refl, sym, ap, subst, ◌∙◌, inl, inr, arith}
use Rattle.dd_lines.specs.Lines.{has_feed}
use Rattle.dd_lines.specs.Reading.{Reading, room, ahead}
use Rattle.dd_lines.specs.NextLine.{KeepsLimits, Next, Over, StandsFor, Advances, Stops, IsGoing}
use Rattle.dd_lines.specs.Outside.{TakesFront}
use Rattle.dd_lines.specs.Parts.{Moves, IsAnswer, HandsOn, HandsLast}
use Rattle.dd_lines.specs.declared.reader.LineStep.{LineStep}
use Rattle.dd_lines.specs.declared.reader.LineStep.TheVariants as step
use Rattle.dd_lines.specs.declared.reader.ReadErr.{ReadErr}
use Rattle.dd_lines.specs.declared.reader.ReadErr.TheVariants as err
use Rattle.dd_lines.proofs.Pieces.{rose-after, takes-both}
use Rattle.dd_lines.proofs.Readings.{passes-room, answers-feed, answers-last}

-- what a call that went on from a reading promises
pub record Replies (r : Result LineStep ReadErr) (old : Reading) (left : Option (List ℕ)) (new : Reading) (rest : Option (List ℕ)) (before after : ℕ) : Type 0 where
  pub answer : IfOk r (λ s. IsAnswer s old.max_line (ahead old left) (ahead new rest) (room old) (room new))
  pub going : OnOk r (IsGoing new)
  pub stops : IfErr r (λ e. Stops e old left new rest before after)
  pub limits : KeepsLimits old new

front_same : (a b : Option (List ℕ)) → TakesFront a b [] → b ≡ a
front_same None b h = h
front_same (Some xs) None h = absurd h
front_same (Some xs) (Some ys) h = ap Some (sym h)

room_same : (old : Reading) (left : Option (List ℕ)) (mid : Reading) (l : Option (List ℕ)) → Moves old left mid l [] → room mid ≡ room old
room_same old left mid l p = omega (arith, passes-room old left mid l [] p)

kept_by : (mid new : Reading) → new ≡ record mid { held = new.held } → KeepsLimits mid new × (IsGoing mid → IsGoing new)
kept_by mid new e = (
  (ap (λ (r : Reading). r.max_line) e, ap (λ (r : Reading). r.max_bytes) e),
  λ h. (ap (λ (r : Reading). r.too_much) e ∙ h.0, ap (λ (r : Reading). r.failed) e ∙ h.1),
)

limits_both : (old mid new : Reading) → KeepsLimits old mid → KeepsLimits mid new → KeepsLimits old new
limits_both old mid new h k = (k.0 ∙ h.0, k.1 ∙ h.1)

no_memory : (old : Reading) (left : Option (List ℕ)) (mid new : Reading) (l : Option (List ℕ)) (e : ReadErr) (before after : ℕ)
    → Moves old left mid l [] → e ≡ err.NoMemory → new ≡ mid → Stops e old left new l before after × KeepsLimits old new
no_memory old left mid new l e before after p is same =
    let stops : Stops err.NoMemory old left mid l before after = (front_same (ahead old left) (ahead mid l) p.front, room_same old left mid l p, p.can.going) in
    subst (λ r. Stops e old left r l before after × KeepsLimits old r) (sym same) (subst (λ x. Stops x old left mid l before after) (sym is) stops, p.limits)

-- a line that a line feed ends is handed on
pub replies-feed : (r : Result LineStep ReadErr) (old : Reading) (left : Option (List ℕ)) (mid new : Reading) (l : Option (List ℕ)) (before after : ℕ)
    → Moves old left mid l [] → IfOk r (λ s. HandsOn s mid new) → IfErr r (λ e. (e ≡ err.NoMemory) × (new ≡ mid))
    → Replies r old left new l before after
replies-feed (Ok s) old left mid new l before after p h m =
    let keeps = kept_by mid new h.4 in
    record {
      answer = answers-feed s old left mid new l [] h.0 p h.2 h.3 h.4 (subst (λ max. StandsFor max s h.0) p.limits.0 h.1);
      going = keeps.1 p.can.going;
      stops = tt;
      limits = limits_both old mid new p.limits keeps.0;
    }
replies-feed (Err e) old left mid new l before after p h m =
    let stops = no_memory old left mid new l e before after p m.0 m.1 in
    record { answer = tt; going = tt; stops = stops.0; limits = stops.1 }

at_end : (a l : Option (List ℕ)) (mid : Reading) (max more less : ℕ) → TakesFront a (ahead mid l) [] → mid.held ≡ [] → IfSome l (λ xs. xs ≡ [])
    → less ≡ more → more ≡ less
    → IfSome a (λ all. (rest : List ℕ) × (ahead mid l ≡ Some rest) × Next max step.End all rest more less) × IfSome a (λ all. ¬ (Over more all))
at_end None l mid max more less h e end same back = (tt, tt)
at_end (Some xs) None mid max more less h e end same back = absurd h
at_end (Some xs) (Some ys) mid max more less h e end same back =
    let none : mid.held ++ ys ≡ [] = ap (λ v. v ++ ys) e ∙ end in
    let all : xs ≡ [] = h ∙ none in
    ((mid.held ++ ys, refl, (all, none, same)), λ o. absurd (omega (arith, o.0, ap length all)))

last-line : (s : LineStep) (old : Reading) (left : Option (List ℕ)) (mid new : Reading) (l : Option (List ℕ))
    → Moves old left mid l [] → has_feed mid.held ≡ false → IfSome l (λ xs. xs ≡ []) → HandsLast s mid new
    → IsAnswer s old.max_line (ahead old left) (ahead new l) (room old) (room new) × (new ≡ record mid { held = new.held })
last-line step.End old left mid new l p none end h =
    let same : room mid ≡ room old = room_same old left mid l p in
    let told = at_end (ahead old left) l mid old.max_line (room old) (room mid) p.front h.0 end same (sym same) in
    let answer : IsAnswer step.End old.max_line (ahead old left) (ahead mid l) (room old) (room mid) = record { next = told.0; within = told.1; uses = same } in
    (subst (λ r. IsAnswer step.End old.max_line (ahead old left) (ahead r l) (room old) (room r)) (sym h.1) answer, h.1 ∙ ap (λ (r : Reading). record mid { held = r.held }) (sym h.1))
last-line (step.Line v) old left mid new l p none end h =
    let s : StandsFor old.max_line (step.Line v) mid.held = subst (λ max. StandsFor max (step.Line v) mid.held) p.limits.0 h.1 in
    (answers-last (step.Line v) old left mid new l [] p none h.0 end h.2 s, h.2 ∙ ap (λ (r : Reading). record mid { held = r.held }) (sym h.2))
last-line step.TooLong old left mid new l p none end h =
    let s : StandsFor old.max_line step.TooLong mid.held = subst (λ max. StandsFor max step.TooLong mid.held) p.limits.0 h.1 in
    (answers-last step.TooLong old left mid new l [] p none h.0 end h.2 s, h.2 ∙ ap (λ (r : Reading). record mid { held = r.held }) (sym h.2))

-- the last line is handed on, if there is one
pub replies-last : (r : Result LineStep ReadErr) (old : Reading) (left : Option (List ℕ)) (mid new : Reading) (l : Option (List ℕ)) (before after : ℕ)
    → Moves old left mid l [] → has_feed mid.held ≡ false → IfSome l (λ xs. xs ≡ [])
    → IfOk r (λ s. HandsLast s mid new) → IfErr r (λ e. (e ≡ err.NoMemory) × (new ≡ mid))
    → Replies r old left new l before after
replies-last (Ok s) old left mid new l before after p none end h m =
    let answer = last-line s old left mid new l p none end h in
    let keeps = kept_by mid new answer.1 in
    record { answer = answer.0; going = keeps.1 p.can.going; stops = tt; limits = limits_both old mid new p.limits keeps.0 }
replies-last (Err e) old left mid new l before after p none end h m =
    let stops = no_memory old left mid new l e before after p m.0 m.1 in
    record { answer = tt; going = tt; stops = stops.0; limits = stops.1 }

-- bytes that were taken, seen from before
advances_before : (old : Reading) (left : Option (List ℕ)) (mid : Reading) (l : Option (List ℕ)) (new : Reading) (rest : Option (List ℕ)) (bytes : List ℕ)
    → (p : Moves old left mid l []) → Advances mid l new rest bytes → Advances old left new rest (p.bytes ++ bytes) × (old.held ++ (p.bytes ++ bytes) ≡ mid.held ++ bytes)
advances_before old left mid l new rest bytes p a = (
  (takes-both left l rest p.bytes bytes p.takes.0 a.0, omega (arith, p.takes.1, a.1, length-append p.bytes bytes)),
  sym (append_assoc old.held p.bytes bytes) ∙ ap (λ v. v ++ bytes) (sym p.seen),
)

-- the same reason, seen from before
stops_before : (e : ReadErr) (old : Reading) (left : Option (List ℕ)) (mid : Reading) (l : Option (List ℕ)) (new : Reading) (rest : Option (List ℕ)) (first before after : ℕ)
    → Moves old left mid l [] → first ≤ before
    → Stops e mid l new rest before after → Stops e old left new rest first after
stops_before err.ReadFault old left mid l new rest first before after p counts s =
    let t = s.2 in
    let a = advances_before old left mid l new rest t.0 p t.1 in
    (rose-after first before after counts s.0, s.1, (p.bytes ++ t.0, a.0, ap has_feed a.1 ∙ t.2))
stops_before (err.Failed f) old left mid l new rest first before after p counts s = cc (p.can.going.1)
stops_before err.TooMuch old left mid l new rest first before after p counts s =
    let same = front_same (ahead old left) (ahead mid l) p.front in
    let space = room_same old left mid l p in
    elim (s.1) as (λ v. Stops err.TooMuch old left new rest first after) [
      | inl k ↦ cc (p.can.going.0)
      | inr k ↦
          let t = k.1 in
          let a = advances_before old left mid l new rest t.0 p t.1 in
          let over = subst (λ n. IfSome (ahead old left) (Over n)) space (subst (λ o. IfSome o (Over (room mid))) same k.0) in (
            s.0,
            inr (
              over,
              (
                p.bytes ++ t.0,
                a.0,
                t.2,
                ap length a.1 ∙ omega (arith, t.3, space),
                ap (λ v. has_feed (take (room old) v)) a.1 ∙ ap (λ n. has_feed (take n (mid.held ++ t.0))) (sym space) ∙ t.4,
              ),
            ),
          )
    ]
stops_before err.NoMemory old left mid l new rest first before after p counts s =
    (s.0 ∙ front_same (ahead old left) (ahead mid l) p.front, s.1 ∙ room_same old left mid l p, s.2)

-- the rest of a line that is too long is dropped
pub replies-long : (r : Result LineStep ReadErr) (old : Reading) (left : Option (List ℕ)) (mid : Reading) (l : Option (List ℕ)) (new : Reading) (rest : Option (List ℕ)) (first before after : ℕ)
    → Moves old left mid l [] → first ≤ before → Replies r mid l new rest before after
    → Replies r old left new rest first after
replies-long (Ok s) old left mid l new rest first before after p counts h =
    let same = front_same (ahead old left) (ahead mid l) p.front in
    let one = subst (λ max. IsAnswer s max (ahead mid l) (ahead new rest) (room mid) (room new)) p.limits.0 h.answer in
    let two = subst (λ o. IsAnswer s old.max_line o (ahead new rest) (room mid) (room new)) same one in
    record {
      answer = subst (λ n. IsAnswer s old.max_line (ahead old left) (ahead new rest) n (room new)) (room_same old left mid l p) two;
      going = h.going;
      stops = tt;
      limits = limits_both old mid new p.limits h.limits;
    }
replies-long (Err e) old left mid l new rest first before after p counts h = record {
  answer = tt;
  going = tt;
  stops = stops_before e old left mid l new rest first before after p counts h.stops;
  limits = limits_both old mid new p.limits h.limits;
}
