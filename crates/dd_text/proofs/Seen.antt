-- What the automaton has read: its state shows which forms stand open, and the bytes before each of its stops.
use Rattle.std.proofs.Common.{◌≡◌, ℕ, Bool, true, false, List, [], ◌∷◌, ◌++◌, map, refl, sym, ap, ◌∙◌, subst, append_assoc, inl, inr}
use Rattle.std.specs.Prelude.{Option, Some, None, ◌&&◌, ◌==◌, if◌then◌else◌, codes}
use Rattle.std.specs.Str.{bytes_eq}
use Rattle.std.proofs.lemmas.Bool.{eqb-true}
use Rattle.std.proofs.lemmas.List.{append-nil}
use Rattle.std.proofs.lemmas.Slice.Eq.{bytes_eq-Decides}
use Rattle.dd_text.specs.Names.{names_a_thing}
use Rattle.dd_text.specs.Grammar.{Term, term_text, is_written}
use Rattle.dd_text.specs.declared.grammar.Mode.{Mode}
use Rattle.dd_text.specs.declared.grammar.Mode.TheVariants as mode
use Rattle.dd_text.specs.declared.grammar.Frame.{Frame}
use Rattle.dd_text.specs.declared.grammar.Frame.TheVariants as frame
use Rattle.dd_text.specs.declared.grammar.Sign.{Sign}
use Rattle.dd_text.specs.declared.grammar.Sign.TheVariants as sign
use Rattle.dd_text.specs.declared.grammar.Scan.{Scan}
use Rattle.dd_text.specs.Automaton.{after, after_keyword, continues_keyword, extends, finished, is_leaf, step, with_form, with_leaf}
use Rattle.dd_text.proofs.Reading.{IsNamelike, both_of, left_of, right_of, state}
use Rattle.dd_text.proofs.Contexts.{Form, negated, first_part, second_part, filler, frame_of, is_form, are_forms, plug_one, plug_one-text, plug_one-written, join_word, fill_word, opening, before, IsFront, IsNamelike-extends, IsKeywordFront, IsKeywordFront-nil, IsKeywordFront-continues, leaf_of}

-- what was read where the automaton is in this mode, within these forms
abbrev pub Shows : Mode → List Form → List ℕ → List ℕ → Type 0
Shows mode.Concept fs w front = (w ≡ []) × (front ≡ before fs)
Shows mode.Word fs w front = IsNamelike w × (front ≡ before fs ++ w)
Shows mode.Keyword fs w front = IsKeywordFront w × (front ≡ before fs ++ 40 ∷ w)
Shows mode.SomeRole fs w front = IsFront w × (front ≡ before fs ++ (fill_word true ++ w))
Shows mode.AllRole fs w front = IsFront w × (front ≡ before fs ++ (fill_word false ++ w))
Shows mode.Done fs w front = (w ≡ []) × (t : Term) × (is_written t ≡ true) × (front ≡ before fs ++ term_text t)

pub record Seen (s : Scan) (front : List ℕ) : Type 0 where
  pub forms : List Form
  pub frames : map frame_of forms ≡ s.stack
  pub valid : are_forms forms ≡ true
  pub shown : Shows s.mode forms s.word front

-- where a test chose between two outcomes
when : (P : Scan → Type 0) (t : Bool) (x : Scan) (o : Option Scan) (next : Scan) → (if t then Some x else o) ≡ Some next → (t ≡ true → P x) → (t ≡ false → o ≡ Some next → P next) → P next
when P true x o next e hit miss = let same : x ≡ next = cc in subst P same (hit refl)
when P false x o next e hit miss = miss refl e

never : (P : Scan → Type 0) (next : Scan) → None ≡ Some next → P next
never P next e = cc

-- one byte more, at the end of a part
push-part : (xs ys : List ℕ) (b : ℕ) (front : List ℕ) → front ≡ xs ++ ys → front ++ b ∷ [] ≡ xs ++ (ys ++ b ∷ [])
push-part xs ys b front is = ap (λ l. l ++ b ∷ []) is ∙ append_assoc xs ys (b ∷ [])

-- a form closes
closes : (fs : List Form) (f : Form) (t : Term) (front : List ℕ) → term_text (plug_one f t) ≡ opening f ++ (term_text t ++ 41 ∷ []) → front ≡ (before fs ++ opening f) ++ term_text t → front ++ 41 ∷ [] ≡ before fs ++ term_text (plug_one f t)
closes fs f t front text is =
    push-part (before fs ++ opening f) (term_text t) 41 front is
    ∙ append_assoc (before fs) (opening f) (term_text t ++ 41 ∷ [])
    ∙ ap (λ l. before fs ++ l) (sym text)

module _ (sg : List Sign) (d : ℕ) (t : Term) (b : ℕ) (next : Scan) (front : List ℕ) (written : is_written t ≡ true) where
  -- after a concept within a form that it completes
  after-last : (f : Form) (fs : List Form) → frame_of f ≡ frame.Last → term_text (plug_one f t) ≡ opening f ++ (term_text t ++ 41 ∷ []) → are_forms (f ∷ fs) ≡ true → front ≡ before (f ∷ fs) ++ term_text t
      → (if b == 41 then Some (state mode.Done [] (map frame_of fs) sg d) else None) ≡ Some next → Seen next (front ++ b ∷ [])
  after-last f fs last text valid is e =
      when (λ n. Seen n (front ++ b ∷ [])) (b == 41) (state mode.Done [] (map frame_of fs) sg d) None next e
      (λ bracket. record {
        forms = fs;
        frames = refl;
        valid = right_of (is_form f) (are_forms fs) valid;
        shown = (
          refl,
          plug_one f t,
          plug_one-written f t (left_of (is_form f) (are_forms fs) valid) written,
          ap (λ c. front ++ c ∷ []) (eqb-true b 41 bracket) ∙ closes fs f t front text is,
        );
      })
      (λ _ e'. never (λ n. Seen n (front ++ b ∷ [])) next e')

  after-seen : (fs : List Form) → are_forms fs ≡ true → front ≡ before fs ++ term_text t → after (state mode.Done [] (map frame_of fs) sg d) (map frame_of fs) b ≡ Some next → Seen next (front ++ b ∷ [])
  after-seen [] valid is e = never (λ n. Seen n (front ++ b ∷ [])) next e
  after-seen (negated ∷ fs) valid is e = after-last negated fs refl refl valid is e
  after-seen (second_part k c ∷ fs) valid is e = after-last (second_part k c) fs refl (plug_one-text (second_part k c) t) valid is e
  after-seen (filler k r ∷ fs) valid is e = after-last (filler k r) fs refl (plug_one-text (filler k r) t) valid is e
  after-seen (first_part k ∷ fs) valid is e =
      when (λ n. Seen n (front ++ b ∷ [])) (b == 32) (state mode.Concept [] (frame.Last ∷ map frame_of fs) sg d) None next e
      (λ space. record {
        forms = second_part k t ∷ fs;
        frames = refl;
        valid = both_of (is_written t) (are_forms fs) written valid;
        shown = (
          refl,
          ap (λ c. front ++ c ∷ []) (eqb-true b 32 space)
              ∙ push-part (before fs ++ join_word k) (term_text t) 32 front is
              ∙ append_assoc (before fs) (join_word k) (term_text t ++ 32 ∷ []),
        );
      })
      (λ _ e'. never (λ n. Seen n (front ++ b ∷ [])) next e')

after-of : (sg : List Sign) (d : ℕ) (t : Term) (b : ℕ) (next : Scan) (front : List ℕ) (fs : List Form) (stack : List Frame) → is_written t ≡ true → map frame_of fs ≡ stack → are_forms fs ≡ true → front ≡ before fs ++ term_text t
    → after (state mode.Done [] stack sg d) stack b ≡ Some next → Seen next (front ++ b ∷ [])
after-of sg d t b next front fs stack written frames valid is e =
    after-seen sg d t b next front written fs valid is (subst (λ l. after (state mode.Done [] l sg d) l b ≡ Some next) (sym frames) e)

-- a form opens at the space after its word
opens : (w word : List ℕ) (fs : List Form) (front : List ℕ) (b : ℕ) → b ≡ 32 → bytes_eq w word ≡ true → front ≡ before fs ++ 40 ∷ w → front ++ b ∷ [] ≡ before fs ++ (40 ∷ (word ++ 32 ∷ []))
opens w word fs front b space same is =
    ap (λ c. front ++ c ∷ []) space ∙ push-part (before fs) (40 ∷ w) 32 front is
    ∙ ap (λ v. before fs ++ 40 ∷ (v ++ 32 ∷ [])) ((bytes_eq-Decides w word).0 same)

-- what a byte adds, by the mode
pub seen-step : (m : Mode) (w : List ℕ) (stack : List Frame) (sg : List Sign) (d : ℕ) (b : ℕ) (next : Scan) (front : List ℕ) → Seen (state m w stack sg d) front → step (state m w stack sg d) b ≡ Some next → Seen next (front ++ b ∷ [])
seen-step mode.Concept w stack sg d b next front h e =
    when (λ n. Seen n (front ++ b ∷ [])) (b == 40) (state mode.Keyword w stack sg d) _ next e
    (λ bracket. record {
      forms = h.forms;
      frames = h.frames;
      valid = h.valid;
      shown = (
        subst IsKeywordFront (sym h.shown.0) IsKeywordFront-nil,
        ap (λ c. front ++ c ∷ []) (eqb-true b 40 bracket) ∙ ap (λ l. l ++ 40 ∷ []) h.shown.1 ∙ ap (λ v. before h.forms ++ 40 ∷ v) (sym h.shown.0),
      );
    })
    (λ _ e'. when (λ n. Seen n (front ++ b ∷ [])) (extends w b) (state mode.Word (w ++ b ∷ []) stack sg d) None next e'
    (λ more. record {
      forms = h.forms;
      frames = h.frames;
      valid = h.valid;
      shown = (
        IsNamelike-extends w b (inl h.shown.0) more,
        ap (λ l. l ++ b ∷ []) h.shown.1 ∙ ap (λ v. before h.forms ++ (v ++ b ∷ [])) (sym h.shown.0),
      );
    })
    (λ _ e''. never (λ n. Seen n (front ++ b ∷ [])) next e''))
seen-step mode.Word w stack sg d b next front h e =
    when (λ n. Seen n (front ++ b ∷ [])) (extends w b) (state mode.Word (w ++ b ∷ []) stack sg d) _ next e
    (λ more. record {
      forms = h.forms;
      frames = h.frames;
      valid = h.valid;
      shown = (IsNamelike-extends w b (inr h.shown.0) more, push-part (before h.forms) w b front h.shown.1);
    })
    (λ _ e'. (elim (is_leaf w) as (λ t. is_leaf w ≡ t → (if t then after (with_leaf (state mode.Word w stack sg d)) stack b else None) ≡ Some next → Seen next (front ++ b ∷ [])) [
      | true ↦ λ leaf e''. let l = leaf_of w leaf in after-of _ _ l.leaf b next front h.forms stack l.written h.frames h.valid (h.shown.1 ∙ ap (λ v. before h.forms ++ v) l.text_is) e''
      | false ↦ λ _ e''. never (λ n. Seen n (front ++ b ∷ [])) next e''
    ]) refl e')
seen-step mode.Keyword w stack sg d b next front h e =
    (elim (b == 32) as (λ t. (b == 32) ≡ t → (if t then after_keyword (state mode.Keyword w stack sg d) else (if continues_keyword w b then Some (state mode.Keyword (w ++ b ∷ []) stack sg d) else None)) ≡ Some next → Seen next (front ++ b ∷ [])) [
      | true ↦ λ space e'. keyword-ends w stack sg d b next front h (eqb-true b 32 space) e'
      | false ↦ λ _ e'. when (λ n. Seen n (front ++ b ∷ [])) (continues_keyword w b) (state mode.Keyword (w ++ b ∷ []) stack sg d) None next e'
          (λ more. record {
            forms = h.forms;
            frames = h.frames;
            valid = h.valid;
            shown = (IsKeywordFront-continues w b more, push-part (before h.forms) (40 ∷ w) b front h.shown.1);
          })
          (λ _ e''. never (λ n. Seen n (front ++ b ∷ [])) next e'')
    ]) refl e
  where
    opened : (w word : List ℕ) (stack : List Frame) (sg : List Sign) (d b : ℕ) (front : List ℕ) (h : Seen (state mode.Keyword w stack sg d) front) → b ≡ 32 → bytes_eq w word ≡ true → (f : Form) → opening f ≡ 40 ∷ (word ++ 32 ∷ []) → is_form f ≡ true → (form : Sign) → Seen (state mode.Concept [] (frame_of f ∷ stack) (sg ++ form ∷ []) d) (front ++ b ∷ [])
    opened w word stack sg d b front h space same f word_is good form = record {
      forms = f ∷ h.forms;
      frames = ap (λ (l : List Frame). frame_of f ∷ l) h.frames;
      valid = both_of (is_form f) (are_forms h.forms) good h.valid;
      shown = (refl, opens w word h.forms front b space same h.shown.1 ∙ ap (λ l. before h.forms ++ l) (sym word_is));
    }

    keyword-ends : (w : List ℕ) (stack : List Frame) (sg : List Sign) (d : ℕ) (b : ℕ) (next : Scan) (front : List ℕ) → Seen (state mode.Keyword w stack sg d) front → b ≡ 32 → after_keyword (state mode.Keyword w stack sg d) ≡ Some next → Seen next (front ++ b ∷ [])
    keyword-ends w stack sg d b next front h space e =
        let P = λ (n : Scan). Seen n (front ++ b ∷ []) in
        when P (bytes_eq w (codes "not")) _ _ next e (λ same. opened w (codes "not") stack sg d b front h space same negated refl refl sign.Not)
        (λ _ e. when P (bytes_eq w (codes "and")) _ _ next e (λ same. opened w (codes "and") stack sg d b front h space same (first_part true) refl refl sign.And)
        (λ _ e. when P (bytes_eq w (codes "or")) _ _ next e (λ same. opened w (codes "or") stack sg d b front h space same (first_part false) refl refl sign.Or)
        (λ _ e. when P (bytes_eq w (codes "some")) _ _ next e
        (λ same. record { forms = h.forms; frames = h.frames; valid = h.valid; shown = (inl refl, opens w (codes "some") h.forms front b space same h.shown.1 ∙ ap (λ l. before h.forms ++ l) (sym (append-nil (codes "(some ")))) })
        (λ _ e. when P (bytes_eq w (codes "all")) _ _ next e
        (λ same. record { forms = h.forms; frames = h.frames; valid = h.valid; shown = (inl refl, opens w (codes "all") h.forms front b space same h.shown.1 ∙ ap (λ l. before h.forms ++ l) (sym (append-nil (codes "(all ")))) })
        (λ _ e. never P next e)))))
seen-step mode.SomeRole w stack sg d b next front h e =
    when (λ n. Seen n (front ++ b ∷ [])) (extends w b) (state mode.SomeRole (w ++ b ∷ []) stack sg d) _ next e
    (λ more. record {
      forms = h.forms;
      frames = h.frames;
      valid = h.valid;
      shown = (inr (IsNamelike-extends w b h.shown.0 more), push-part (before h.forms) (fill_word true ++ w) b front h.shown.1);
    })
    (λ _ e'. when (λ n. Seen n (front ++ b ∷ [])) ((b == 32) && names_a_thing w) (with_form (state mode.SomeRole w stack sg d) (sign.HasSome w) frame.Last) None next e'
    (λ ends. record {
      forms = filler true w ∷ h.forms;
      frames = ap (λ (l : List Frame). frame.Last ∷ l) h.frames;
      valid = both_of (names_a_thing w) (are_forms h.forms) (right_of (b == 32) (names_a_thing w) ends) h.valid;
      shown = (refl, ap (λ c. front ++ c ∷ []) (eqb-true b 32 (left_of (b == 32) (names_a_thing w) ends)) ∙ push-part (before h.forms) (fill_word true ++ w) 32 front h.shown.1);
    })
    (λ _ e''. never (λ n. Seen n (front ++ b ∷ [])) next e''))
seen-step mode.AllRole w stack sg d b next front h e =
    when (λ n. Seen n (front ++ b ∷ [])) (extends w b) (state mode.AllRole (w ++ b ∷ []) stack sg d) _ next e
    (λ more. record {
      forms = h.forms;
      frames = h.frames;
      valid = h.valid;
      shown = (inr (IsNamelike-extends w b h.shown.0 more), push-part (before h.forms) (fill_word false ++ w) b front h.shown.1);
    })
    (λ _ e'. when (λ n. Seen n (front ++ b ∷ [])) ((b == 32) && names_a_thing w) (with_form (state mode.AllRole w stack sg d) (sign.HasAll w) frame.Last) None next e'
    (λ ends. record {
      forms = filler false w ∷ h.forms;
      frames = ap (λ (l : List Frame). frame.Last ∷ l) h.frames;
      valid = both_of (names_a_thing w) (are_forms h.forms) (right_of (b == 32) (names_a_thing w) ends) h.valid;
      shown = (refl, ap (λ c. front ++ c ∷ []) (eqb-true b 32 (left_of (b == 32) (names_a_thing w) ends)) ∙ push-part (before h.forms) (fill_word false ++ w) 32 front h.shown.1);
    })
    (λ _ e''. never (λ n. Seen n (front ++ b ∷ [])) next e''))
seen-step mode.Done w stack sg d b next front h e =
    after-of sg d h.shown.1 b next front h.forms stack h.shown.2 h.frames h.valid h.shown.3 (subst (λ v. after (state mode.Done v stack sg d) stack b ≡ Some next) h.shown.0 e)

-- the end of a word that is a concept
pub seen-finished : (m : Mode) (w : List ℕ) (stack : List Frame) (sg : List Sign) (d : ℕ) (front : List ℕ) → Seen (state m w stack sg d) front → Seen (finished (state m w stack sg d)) front
seen-finished mode.Concept w stack sg d front h = h
seen-finished mode.Keyword w stack sg d front h = h
seen-finished mode.SomeRole w stack sg d front h = h
seen-finished mode.AllRole w stack sg d front h = h
seen-finished mode.Done w stack sg d front h = h
seen-finished mode.Word w stack sg d front h =
    (elim (is_leaf w) as (λ t. is_leaf w ≡ t → Seen (if t then with_leaf (state mode.Word w stack sg d) else state mode.Word w stack sg d) front) [
      | true ↦ λ leaf. let l = leaf_of w leaf in record {
        forms = h.forms;
        frames = h.frames;
        valid = h.valid;
        shown = (refl, l.leaf, l.written, h.shown.1 ∙ ap (λ v. before h.forms ++ v) l.text_is);
      }
      | false ↦ λ _. h
    ]) refl
