-- A byte that does not fit, and how far the automaton comes.
use Rattle.std.proofs.Common.{◌≡◌, ◌≢◌, ℕ, suc, ◌<◌, ◌≤◌, Bool, true, false, List, [], ◌∷◌, ◌++◌, length, get_or, drop, refl, sym, ap, ◌∙◌, subst}
use Rattle.std.specs.Prelude.{Result, Ok, Err, IfOk, Option, Some, None, ◌&&◌, ◌==◌, codes, if◌then◌else◌}
use Rattle.std.specs.declared.alloc.AllocError.{AllocError}
use Rattle.std.proofs.lemmas.Bool.{false≢true, ne_eqb}
use Rattle.std.proofs.Math.Seq.{drop-cons}
use Rattle.std.specs.Str.{bytes_eq}
use Rattle.dd_text.specs.Names.{names_a_thing}
use Rattle.dd_text.specs.declared.grammar.Mode.TheVariants as mode
use Rattle.dd_text.specs.declared.grammar.Frame.{Frame}
use Rattle.dd_text.specs.declared.grammar.Frame.TheVariants as frame
use Rattle.dd_text.specs.declared.grammar.Scan.{Scan}
use Rattle.dd_text.specs.declared.grammar.Scanned.{Scanned}
use Rattle.dd_text.specs.Automaton.{Scans, Steps, after, after_keyword, continues_keyword, extends, finished, is_whole, reach, role_step, role_sign, start, step, step_in, with_byte, with_form}

if_false : {A : Type 0} (b : Bool) (x y : A) → b ≡ false → (if b then x else y) ≡ y
if_false b x y e = ap (λ t. if t then x else y) e

pub stays : (o : Option Scan) (s : Scan) → o ≡ None → Steps o s s false
stays o s e = subst (λ p. Steps p s s false) (sym e) (refl, refl)

pub goes : (o : Option Scan) (next old new : Scan) → o ≡ Some next → new ≡ next → Steps o old new true
goes o next old new e h = subst (λ p. Steps p old new true) (sym e) (refl, h)

-- after a concept, where another part is to come, and where the form ends
module _ (s : Scan) (fs : List Frame) (b : ℕ) where
  pub first_goes : (frames : List Frame) → s.stack ≡ frame.First ∷ fs → b ≡ 32 → frames ≡ frame.Last ∷ fs → Steps (after s s.stack b) s (record s { mode = mode.Concept; stack = frames }) true
  first_goes frames is space put =
      goes _ (record s { mode = mode.Concept; stack = frame.Last ∷ fs }) s _ (ap (λ l. after s l b) is ∙ ap (after s (frame.First ∷ fs)) space) (ap (λ l. record s { mode = mode.Concept; stack = l }) put)

  pub last_goes : s.stack ≡ frame.Last ∷ fs → b ≡ 41 → Steps (after s s.stack b) s (record s { stack = fs }) true
  last_goes is bracket = goes _ (record s { stack = fs }) s _ (ap (λ l. after s l b) is ∙ ap (after s (frame.Last ∷ fs)) bracket) refl

  pub first_stays : (frames : List Frame) → s.stack ≡ frame.First ∷ fs → b ≢ 32 → frames ≡ s.stack → Steps (after s s.stack b) s (record s { stack = frames }) false
  first_stays frames is apart put =
      subst (λ p. Steps p s (record s { stack = frames }) false) (sym (ap (λ l. after s l b) is ∙ if_false _ _ _ (ne_eqb b 32 apart))) (refl, ap (λ l. finished (record s { stack = l })) put)

  pub last_stays : (frames : List Frame) → s.stack ≡ frame.Last ∷ fs → b ≢ 41 → frames ≡ s.stack → Steps (after s s.stack b) s (record s { stack = frames }) false
  last_stays frames is apart put =
      subst (λ p. Steps p s (record s { stack = frames }) false) (sym (ap (λ l. after s l b) is ∙ if_false _ _ _ (ne_eqb b 41 apart))) (refl, ap (λ l. finished (record s { stack = l })) put)

pub concept_stays : (s : Scan) (b : ℕ) → b ≢ 40 → extends s.word b ≡ false → step_in mode.Concept s b ≡ None
concept_stays s b apart short =
    ap (λ t. if t then Some (record s { mode = mode.Keyword }) else (if extends s.word b then Some (record s { mode = mode.Word; word = s.word ++ b ∷ [] }) else None)) (ne_eqb b 40 apart)
    ∙ ap (λ t. if t then Some (record s { mode = mode.Word; word = s.word ++ b ∷ [] }) else None) short

pub is_not : {word text : List ℕ} {told : Bool} (form : List ℕ) → text ≡ word → told ≡ bytes_eq text form → told ≡ false → bytes_eq word form ≡ false
is_not form same is other = ap (λ w. bytes_eq w form) (sym same) ∙ sym is ∙ other

pub end_stays : (s : Scan) → bytes_eq s.word (codes "not") ≡ false → bytes_eq s.word (codes "and") ≡ false → bytes_eq s.word (codes "or") ≡ false
    → bytes_eq s.word (codes "some") ≡ false → bytes_eq s.word (codes "all") ≡ false → after_keyword s ≡ None
end_stays s no_not no_and no_or no_some no_all = if_false _ _ _ no_not ∙ if_false _ _ _ no_and ∙ if_false _ _ _ no_or ∙ if_false _ _ _ no_some ∙ if_false _ _ _ no_all

pub keyword_stays : (s : Scan) (b : ℕ) → b ≢ 32 → continues_keyword s.word b ≡ false → step_in mode.Keyword s b ≡ None
keyword_stays s b apart short = if_false (b == 32) (after_keyword s) _ (ne_eqb b 32 apart) ∙ if_false (continues_keyword s.word b) (Some (with_byte s b)) None short

pub keyword_goes : (s : Scan) (b : ℕ) → b ≢ 32 → continues_keyword s.word b ≡ true → step_in mode.Keyword s b ≡ Some (with_byte s b)
keyword_goes s b apart long =
    if_false (b == 32) (after_keyword s) _ (ne_eqb b 32 apart)
    ∙ ap (λ t. if t then Some (with_byte s b) else None) long

pub role_stays : (s : Scan) (b : ℕ) → extends s.word b ≡ false → (b == 32) && names_a_thing s.word ≡ false → role_step s b ≡ None
role_stays s b short no_end =
    ap (λ t. if t then Some (with_byte s b) else (if (b == 32) && names_a_thing s.word then Some (with_form s (role_sign s.mode s.word) frame.Last) else None)) short
    ∙ ap (λ t. if t then Some (with_form s (role_sign s.mode s.word) frame.Last) else None) no_end

-- where a byte does not fit, the automaton stops before it
pub reach-none : (s : Scan) (b : ℕ) (bs : List ℕ) → step s b ≡ None → reach s (b ∷ bs) ≡ (finished s, b ∷ bs)
reach-none s b bs stuck =
    ap (λ (o : Option Scan). (elim o as (λ _. Scan × List ℕ) [ None ↦ (finished s, b ∷ bs) | Some next ↦ reach next bs ])) stuck

pub record Stops (o : Option Scan) (old new : Scan) : Type 0 where
  pub stuck : o ≡ None
  pub same : finished new ≡ finished old

pub stops : (o : Option Scan) (old new : Scan) (fits : Bool) → fits ≡ false → Steps o old new fits → Stops o old new
stops None old new fits e h = record { stuck = refl; same = h.1 }
stops (Some next) old new fits e h = absurd (false≢true (sym e ∙ h.0))

-- what a text was read to, where the byte at `n` did not fit
pub reach-stops : (s : Scan) (text : List ℕ) (n : ℕ) → n < length text → reach start text ≡ reach s (drop n text) → step s (get_or text n 0) ≡ None → reach start text ≡ (finished s, drop n text)
reach-stops s text n within so_far stuck =
    let next = drop-cons text n 0 within in
    so_far ∙ ap (reach s) next ∙ reach-none s (get_or text n 0) (drop (suc n) text) stuck ∙ ap (λ l. (finished s, l)) (sym next)

-- what is told of it
pub scans_from : (r : Result Scanned AllocError) (s t : Scan) (text : List ℕ) (n : ℕ) → n ≤ length text → reach start text ≡ (finished s, drop n text) → finished t ≡ finished s
    → IfOk r (λ r. r.read ≡ n) → IfOk r (λ r. r.whole ≡ is_whole (finished t)) → IfOk r (λ r. r.signs ≡ (finished t).signs) → IfOk r (λ r. r.depth ≡ (finished t).depth) → IfOk r (Scans text)
scans_from (Ok r) s t text n within reached same read whole signs depth =
    let first : (reach start text).0 ≡ finished t = ap (λ (p : Scan × List ℕ). p.0) reached ∙ sym same in
    record {
      within = subst (λ k. k ≤ length text) (sym read) within;
      rest = ap (λ k. drop k text) read ∙ sym (ap (λ (p : Scan × List ℕ). p.1) reached);
      whole = whole ∙ ap is_whole (sym first);
      signs = signs ∙ ap (λ (q : Scan). q.signs) (sym first);
      depth = depth ∙ ap (λ (q : Scan). q.depth) (sym first);
    }
scans_from (Err e) s t text n within reached same read whole signs depth = tt
