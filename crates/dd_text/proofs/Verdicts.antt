-- What follows from how far the automaton came: the text is one of the grammar, or the place where it leaves it.
use Rattle.std.proofs.Common.{◌≡◌, ℕ, suc, ◌+◌, ◌<◌, ◌≤◌, max, true, List, [], ◌∷◌, ◌++◌, length, map, take, drop, refl, sym, ap, ◌∙◌, subst, arith, append_assoc, length-append, inr}
use Rattle.std.specs.Prelude.{Some, None, ◌&&◌, codes}
use Rattle.std.proofs.lemmas.Bool.{false≢true}
use Rattle.std.proofs.lemmas.List.{append-nil, take-append-le, take-append-drop}
use Rattle.dd_text.specs.Grammar.{Term, top, atomic, existential, universal, term_text, term_depth, is_written, IsConceptText, Begins, IsBadAt}
use Rattle.dd_text.specs.declared.grammar.Mode.{Mode}
use Rattle.dd_text.specs.declared.grammar.Mode.TheVariants as mode
use Rattle.dd_text.specs.declared.grammar.Frame.{Frame}
use Rattle.dd_text.specs.declared.grammar.Sign.{Sign}
use Rattle.dd_text.specs.declared.grammar.Scan.{Scan}
use Rattle.dd_text.specs.Automaton.{finished, is_whole, reach, signs_of, start, step}
use Rattle.dd_text.proofs.Steps.{reach-none}
use Rattle.dd_text.proofs.Reading.{EndsWord, state, reach-step, reach-term}
use Rattle.dd_text.proofs.Contexts.{Form, frame_of, before, viable, completes}
use Rattle.dd_text.proofs.Seen.{Seen, seen-step, seen-finished}

-- how far the automaton came from a state, and that the byte after that is what stopped it
pub record ScanReached (s : Scan) (text front : List ℕ) : Type 0 where
  pub read : List ℕ
  pub text_is : text ≡ read ++ (reach s text).1
  pub seen : Seen (reach s text).0 (front ++ read)
  pub stuck : (b : ℕ) (bs more : List ℕ) → (reach s text).1 ≡ b ∷ bs → reach s (read ++ b ∷ more) ≡ ((reach s text).0, b ∷ more)

pub reached : (text : List ℕ) (s : Scan) (front : List ℕ) → Seen s front → ScanReached s text front
reached [] s front h = record {
  read = [];
  text_is = refl;
  seen = subst (Seen (finished s)) (sym (append-nil front)) (seen-finished s.mode s.word s.stack s.signs s.depth front h);
  stuck = λ b bs more e. cc;
}
reached (b ∷ bs) s front h =
    (elim (step s b) as (λ o. step s b ≡ o → ScanReached s (b ∷ bs) front) [
      | None ↦ λ e.
          let at = reach-none s b bs e in
          record {
            read = [];
            text_is = ap (λ (p : Scan × List ℕ). p.1) (sym at);
            seen = subst (λ (p : Scan × List ℕ). Seen p.0 (front ++ [])) (sym at) (subst (Seen (finished s)) (sym (append-nil front)) (seen-finished s.mode s.word s.stack s.signs s.depth front h));
            stuck = λ c cs more k.
                let whole : b ∷ bs ≡ c ∷ cs = ap (λ (p : Scan × List ℕ). p.1) (sym at) ∙ k in
                let same : b ≡ c = cc in
                reach-none s c more (subst (λ x. step s x ≡ None) same e) ∙ ap (λ (p : Scan × List ℕ). (p.0, c ∷ more)) (sym at);
          }
      | Some next ↦ λ e.
          let at = reach-step s next b bs e in
          let r = reached bs next (front ++ b ∷ []) (seen-step s.mode s.word s.stack s.signs s.depth b next front h e) in
          record {
            read = b ∷ r.read;
            text_is = ap (λ (l : List ℕ). b ∷ l) (r.text_is ∙ ap (λ (p : Scan × List ℕ). r.read ++ p.1) (sym at));
            seen = subst (λ (p : Scan × List ℕ). Seen p.0 (front ++ b ∷ r.read)) (sym at) (subst (Seen (reach next bs).0) (append_assoc front (b ∷ []) r.read) r.seen);
            stuck = λ c cs more k.
                reach-step s next b (r.read ++ c ∷ more) e ∙ r.stuck c cs more (ap (λ (p : Scan × List ℕ). p.1) (sym at) ∙ k) ∙ ap (λ (p : Scan × List ℕ). (p.0, c ∷ more)) (sym at);
          }
    ]) refl

pub Seen-start : Seen start []
Seen-start = record { forms = []; frames = refl; valid = refl; shown = (refl, refl) }

-- what was read is the beginning of a concept's text
pub seen-begins : (m : Mode) (w : List ℕ) (stack : List Frame) (sg : List Sign) (d : ℕ) (front : List ℕ) → Seen (state m w stack sg d) front → Begins IsConceptText front
seen-begins mode.Concept w stack sg d front h = viable h.forms top front [] (codes "top") h.valid refl (h.shown.1 ∙ sym (append-nil (before h.forms))) refl
seen-begins mode.Word w stack sg d front h =
    let c = completes w (inr h.shown.0) in
    viable h.forms (atomic (w ++ c.more)) front w c.more h.valid c.named h.shown.1 refl
seen-begins mode.Keyword w stack sg d front h =
    let k = h.shown.0 in
    viable h.forms k.sample front (40 ∷ w) k.more h.valid k.written h.shown.1 k.text_is
seen-begins mode.SomeRole w stack sg d front h =
    let c = completes w h.shown.0 in
    viable h.forms (existential (w ++ c.more) top) front (codes "(some " ++ w) (c.more ++ codes " top)") h.valid (ap (λ t. t && true) c.named) h.shown.1
    (ap (λ l. codes "(some " ++ l) (append_assoc (w ++ c.more) (codes " top") (41 ∷ []) ∙ append_assoc w c.more (codes " top)")))
seen-begins mode.AllRole w stack sg d front h =
    let c = completes w h.shown.0 in
    viable h.forms (universal (w ++ c.more) top) front (codes "(all " ++ w) (c.more ++ codes " top)") h.valid (ap (λ t. t && true) c.named) h.shown.1
    (ap (λ l. codes "(all " ++ l) (append_assoc (w ++ c.more) (codes " top") (41 ∷ []) ∙ append_assoc w c.more (codes " top)")))
seen-begins mode.Done w stack sg d front h =
    viable h.forms h.shown.1 front (term_text h.shown.1) [] h.valid h.shown.2 h.shown.3 (sym (append-nil (term_text h.shown.1)))

-- a concept was read
pub record IsTermOf (front : List ℕ) : Type 0 where
  pub term : Term
  pub written : is_written term ≡ true
  pub text_is : front ≡ term_text term

no-frames : (fs : List Form) → map frame_of fs ≡ [] → before fs ≡ []
no-frames [] h = refl
no-frames (f ∷ fs) h = cc

pub whole-term : (m : Mode) (w : List ℕ) (stack : List Frame) (sg : List Sign) (d : ℕ) (front : List ℕ) → Seen (state m w stack sg d) front → is_whole (state m w stack sg d) ≡ true → IsTermOf front
whole-term mode.Concept w stack sg d front h e = absurd (false≢true e)
whole-term mode.Word w stack sg d front h e = absurd (false≢true e)
whole-term mode.Keyword w stack sg d front h e = absurd (false≢true e)
whole-term mode.SomeRole w stack sg d front h e = absurd (false≢true e)
whole-term mode.AllRole w stack sg d front h e = absurd (false≢true e)
whole-term mode.Done w (f ∷ fs) sg d front h e = absurd (false≢true e)
whole-term mode.Done w [] sg d front h e = record {
  term = h.shown.1;
  written = h.shown.2;
  text_is = h.shown.3 ∙ ap (λ l. l ++ term_text h.shown.1) (no-frames h.forms h.frames);
}

-- the state after a whole concept
abbrev pub whole_state : Term → Scan
whole_state t = state mode.Done [] [] (signs_of t) (term_depth t)

stays-whole : (t : Term) (rest : List ℕ) → reach (whole_state t) rest ≡ (whole_state t, rest)
stays-whole t [] = refl
stays-whole t (b ∷ bs) = refl

-- the automaton stops after each concept
pub reach-whole : (t : Term) (rest : List ℕ) → is_written t ≡ true → EndsWord rest → reach start (term_text t ++ rest) ≡ (whole_state t, rest)
reach-whole t rest h ends =
    reach-term t h [] [] 0 rest ends
    ∙ ap (λ n. reach (state mode.Done [] [] (signs_of t) n) rest) (let e : max 0 (0 + term_depth t) ≡ term_depth t = omega arith in e)
    ∙ stays-whole t rest

-- a shorter beginning
pub Begins-take : (G : List ℕ → Type 0) (n : ℕ) (front : List ℕ) → Begins G front → Begins G (take n front)
Begins-take G n front h =
    (drop n front ++ h.0, subst G (ap (λ l. l ++ h.0) (sym (take-append-drop n front)) ∙ append_assoc (take n front) (drop n front) h.0) h.1)

take_one : (read : List ℕ) (b : ℕ) (bs : List ℕ) → take (length read + 1) (read ++ b ∷ bs) ≡ read ++ b ∷ []
take_one [] b bs = refl
take_one (a ∷ rest) b bs = rw add_one_suc (ap (λ (l : List ℕ). a ∷ l) (take_one rest b bs))
  where
    add_one_suc : suc (length rest) + 1 ≡ suc (length rest + 1)
    add_one_suc = omega arith

-- the place where a text leaves a grammar
pub bad-at : (G : List ℕ → Type 0) (text read rest : List ℕ) → text ≡ read ++ rest → Begins G read → (G text → ⊥) → ((b : ℕ) (bs : List ℕ) → rest ≡ b ∷ bs → Begins G (read ++ b ∷ []) → ⊥) → IsBadAt G text (length read + 1)
bad-at G text read rest is begins outside stuck = record {
  outside = outside;
  within = omega (arith, ap length is, length-append read rest);
  before = λ n lt.
      let short : n ≤ length read = omega arith in
      subst (Begins G) (sym (take-append-le n read rest short) ∙ ap (take n) (sym is)) (Begins-take G n read begins);
  here = λ long begun. next rest is stuck (omega (arith, ap length is, length-append read rest, long)) begun;
}
  where
    next : (rest : List ℕ) → text ≡ read ++ rest → ((b : ℕ) (bs : List ℕ) → rest ≡ b ∷ bs → Begins G (read ++ b ∷ []) → ⊥) → 0 < length rest → Begins G (take (length read + 1) text) → ⊥
    next [] is stuck long begun = omega (arith, long)
    next (b ∷ bs) is stuck long begun =
        stuck b bs refl (subst (Begins G) (ap (take (length read + 1)) is ∙ take_one read b bs) begun)
