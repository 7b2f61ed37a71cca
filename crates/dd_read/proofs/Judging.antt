-- What a judge answers of a world, or of lines, is what is replied to its check.
use Rattle.std.proofs.Common.{inl, inr, ◌≡◌, ◌⊎◌, ◌==◌, ℕ, zero, suc, ◌<◌, ◌≤◌, ◌-◌, List, [], ◌∷◌, length, map, take, Bool, true, false, refl, ap, sym, ◌∙◌, arith, Option, None, Some, Result, Ok, Err, IfOk}
use Rattle.std.proofs.lemmas.Bool.{and_parts, and_from, cases_lt, eq-eqb, eqb-true}
use Rattle.std.specs.Prelude.{IsOk, ◌↔◌, slice_get}
use Rattle.serde_json.specs.Data.{Data}
use Rattle.dd_concept.specs.Same.{is_within}
use Rattle.dd_peer.specs.Question.{Question}
use Rattle.dd_peer.specs.declared.version.Pinned.{Pinned}
use Rattle.dd_peer.specs.declared.version.Query.{Query}
use Rattle.dd_task.specs.Claims.{claim_of}
use Rattle.dd_task.specs.Derives.{Derives, EndsWithin}
use Rattle.dd_task.specs.Goals.{root_label}
use Rattle.dd_task.specs.Lines.{is_there, is_right, AreRight}
use Rattle.dd_task.specs.declared.line.Line.{Line}
use Rattle.dd_text.specs.Symbols.{SymbolLists}
use Rattle.dd_world.specs.Faults.{IsFirstFault, fault_of, judged_by}
use Rattle.dd_world.specs.World.{IsCounter}
use Rattle.dd_world.specs.declared.world.World.{World}
use Rattle.dd_world.specs.declared.world.WorldFault.{WorldFault}
use Rattle.dd_world.proofs.Counters.{judged_err, judged_ok}
use Rattle.dd_check.specs.Faults as Faults
use Rattle.dd_check.specs.Faults.{is_right_at, IsFirstWrong, IsFault, says_root}
use Rattle.dd_check.specs.declared.check.LineFault.{LineFault}
use Rattle.dd_cert.specs.Certificates.{Tried, Certified, IsCertIn, Tells, ReadsCert}
use Rattle.dd_cert.specs.declared.read.Cert.{Cert}
use Rattle.dd_cert.specs.declared.read.Cert.TheVariants.{Yes, No}
use Rattle.dd_cert.specs.declared.read.CertErr.{CertErr}
use Rattle.dd_wire.specs.declared.reply.Reply.{Reply}
use Rattle.dd_wire.specs.declared.reply.Reply.TheVariants as reply
use Rattle.dd_read.specs.Told.{JudgedBy, LinesBy, Unreads}
use Rattle.dd_read.specs.Judged.{JudgesWorld, JudgesLines, JudgesCert, Judges, JudgesValue, fault_replied}

off : false ≡ true → ⊥
off e = cc e

-- the answer of a judge, as it is replied
pub judged_world : (id : ℕ) (q : Question) (w : World) (r : Result (Unit {0}) WorldFault) (given : Reply) → (IsOk r ↔ IsCounter q.pinned q.query w)
    → ((f : WorldFault) → (r ≡ Err f) ↔ IsFirstFault q.pinned q.query w f) → JudgedBy id r given → JudgesWorld id q w given
judged_world id q w (Ok u) given counter fault by = inl (by, counter.0 refl)
judged_world id q w (Err f) given counter fault by = inr (f, (fault f).0 refl, by)

-- some reply tells of each world
judges_some_world : (id : ℕ) (q : Question) (w : World) → (given : Reply) × JudgesWorld id q w given
judges_some_world id q w = by_judge (judged_by (fault_of q.pinned q.query w)) refl
  where
    by_judge : (r : Result (Unit {0}) WorldFault) → r ≡ judged_by (fault_of q.pinned q.query w) → (given : Reply) × JudgesWorld id q w given
    by_judge (Ok u) is = (reply.Valid id, judged_world id q w (Ok u) (reply.Valid id) (judged_ok q.pinned q.query w (Ok u) is) (judged_err q.pinned q.query w (Ok u) is) refl)
    by_judge (Err f) is = (
      reply.InvalidWorld id (fault_replied f),
      judged_world id q w (Err f) (reply.InvalidWorld id (fault_replied f)) (judged_ok q.pinned q.query w (Err f) is) (judged_err q.pinned q.query w (Err f) is) refl,
    )

-- the answer of a judge of lines, as it is replied
pub judged_lines : (id : ℕ) (q : Question) (lines : List Line) (r : Result (Unit {0}) LineFault) (given : Reply) → (IsOk r ↔ Derives q.pinned q.query lines)
    → ((f : LineFault) → (r ≡ Err f) ↔ IsFault q.pinned q.query lines f.at) → LinesBy id r given → JudgesLines id q lines given
judged_lines id q lines (Ok u) given derives fault by = inl (by, derives.0 refl)
judged_lines id q lines (Err f) given derives fault by = inr (f.at, (fault f).0 refl, by)

-- ---- some reply tells of each list of lines

module _ (p : Pinned) (q : Query) (lines : List Line) where
  -- the lines below a number are right, or one of them is the first that is not
  first_below : (n : ℕ) → n ≤ length lines → ((k : ℕ) → k < n → is_right_at p lines k ≡ true) ⊎ ((at : ℕ) × IsFirstWrong p lines at)
  first_below zero few = inl (λ k less. absurd (nothing k less))
    where
      nothing : (k : ℕ) → k < 0 → ⊥
      nothing k less = omega (arith, less)
  first_below (suc n) few = elim (first_below n (lower n few)) [
    | inl all ↦ by_test n (within n few) all (is_right_at p lines n) refl
    | inr wrong ↦ inr wrong
  ]
    where
      lower : (n : ℕ) → suc n ≤ length lines → n ≤ length lines
      lower n h = omega (arith, h)

      within : (n : ℕ) → suc n ≤ length lines → n < length lines
      within n h = omega (arith, h)

      by_test : (n : ℕ) → n < length lines → ((k : ℕ) → k < n → is_right_at p lines k ≡ true) → (b : Bool) → is_right_at p lines n ≡ b
          → ((k : ℕ) → k < suc n → is_right_at p lines k ≡ true) ⊎ ((at : ℕ) × IsFirstWrong p lines at)
      by_test n less all false e = inr (n, record { within = less; wrong = e; before = all })
      by_test n less all true e = inl (λ k below. elim (up_to k n below) [
        | inl lower ↦ all k lower
        | inr same ↦ ap (is_right_at p lines) same ∙ e
      ])
        where
          up_to : (k n : ℕ) → k < suc n → (k < n) ⊎ (k ≡ n)
          up_to k n h = elim (cases_lt k n) [
            | inl lower ↦ inl lower
            | inr other ↦ inr (omega (arith, h, other))
          ]

  there : (o : Option Line) (test : Line → Bool) (line : Line) → o ≡ Some line → is_there o test ≡ test line
  there o test line e = ap (λ (x : Option Line). is_there x test) e

  within_get : (ls : List Line) (k : ℕ) (line : Line) → slice_get ls k ≡ Some line → k < length ls
  within_get [] k line e = absurd (never k e)
    where
      never : (k : ℕ) → slice_get [] k ≡ Some line → ⊥
      never zero e = cc e
      never (suc k) e = cc e
  within_get (l ∷ ls) zero line e = omega arith
  within_get (l ∷ ls) (suc k) line e = let less = within_get ls k line e in omega (arith, less)

  are_right : ((k : ℕ) → k < length lines → is_right_at p lines k ≡ true) → AreRight p lines
  are_right all k line e = sym (there (slice_get lines k) (is_right p (map claim_of (take k lines))) line e) ∙ all k (within_get lines k line e)

  -- whether the last line says what is asked
  ends : (o : Option Line) → slice_get lines (length lines - 1) ≡ o → (b : Bool) → is_there o (says_root q) ≡ b
      → EndsWithin q.peer (root_label q) lines ⊎ (EndsWithin q.peer (root_label q) lines → ⊥)
  ends None is b e = inr (λ (w : EndsWithin q.peer (root_label q) lines). none w.line (sym is ∙ w.is_last))
    where
      none : (line : Line) → None ≡ Some line → ⊥
      none line e = cc e
  ends (Some line) is true e =
      let both = and_parts (line.peer == q.peer) (is_within line.label (root_label q)) e in
      inl (record { line = line; is_last = is; at_peer = eqb-true line.peer q.peer both.0; within = both.1 })
  ends (Some line) is false e = inr (λ (w : EndsWithin q.peer (root_label q) lines). differs w)
    where
      same : (l m : Line) → Some l ≡ Some m → l ≡ m
      same l m e = cc e

      says : (w : EndsWithin q.peer (root_label q) lines) → says_root q w.line ≡ true
      says w = and_from (w.line.peer == q.peer) (is_within w.line.label (root_label q)) (eq-eqb w.line.peer q.peer w.at_peer) w.within

      differs : EndsWithin q.peer (root_label q) lines → ⊥
      differs w = off (sym e ∙ ap (says_root q) (same line w.line (sym is ∙ w.is_last)) ∙ says w)

  some_judged : (r : Result (Unit {0}) LineFault) × Faults.Judges p q lines r
  some_judged = elim (first_below (length lines) (all_of (length lines))) [
    | inr wrong ↦ (Err (record { at = wrong.0 }), inl wrong.1)
    | inl all ↦ elim (ends (slice_get lines (length lines - 1)) refl (is_there (slice_get lines (length lines - 1)) (says_root q)) refl) [
      | inl last ↦ (Ok tt, record { right = are_right all; last = last })
      | inr elsewhere ↦ (Err (record { at = length lines }), inr (record { at_end = refl; right = are_right all; elsewhere = elsewhere }))
    ]
  ]
    where
      all_of : (n : ℕ) → n ≤ n
      all_of n = omega arith

judges_some_lines : (id : ℕ) (q : Question) (lines : List Line) → (given : Reply) × JudgesLines id q lines given
judges_some_lines id q lines = let judged = some_judged q.pinned q.query lines in by_result judged.0 judged.1
  where
    by_result : (r : Result (Unit {0}) LineFault) → Faults.Judges q.pinned q.query lines r → (given : Reply) × JudgesLines id q lines given
    by_result (Ok u) derives = (reply.Valid id, inl (refl, derives))
    by_result (Err f) fault = (reply.InvalidLines id f.at, inr (f.at, fault, refl))

-- some reply tells of each certificate
pub judges_some_cert : (id : ℕ) (q : Question) (k : Cert) → (given : Reply) × JudgesCert id q k given
judges_some_cert id q (Yes lines) = judges_some_lines id q lines
judges_some_cert id q (No w) = judges_some_world id q w

-- the certificate that was read is the one that is judged
pub read_judged : (id : ℕ) (q : Question) (s new : SymbolLists) (d : Data) (k : Cert) (given : Reply) → (let r : Result Cert CertErr = Ok k in ReadsCert s new d r)
    → JudgesCert id q k given → JudgesValue id q s d given
read_judged id q s new d k given reads judged = (Ok (record { cert = k; symbols = new }), reads, judged)

-- where the value stops to be a certificate, that is replied
pub unread_judged : {E : Type 0} (r : Result Reply E) (id : ℕ) (q : Question) (s : SymbolLists) (d : Data) (e : CertErr) → (found : Tried Certified) × IsCertIn s d found × Tells e found
    → IfOk r (λ given. (found : Tried Certified) → Tells e found → Unreads id found given) → IfOk r (JudgesValue id q s d)
unread_judged (Err x) id q s d e told by = tt
unread_judged (Ok given) id q s d e told by = (told.0, told.1, as_judged told.0 (by told.0 told.2))
  where
    as_judged : (found : Tried Certified) → Unreads id found given → Judges id q found given
    as_judged (Ok c) h = absurd h
    as_judged (Err u) h = h
