-- Each text is in the grammar, with its tree, or it is not.
use Rattle.std.proofs.Common.{◌≡◌, ℕ, true, false, List, [], ◌∷◌, ◌++◌, take, drop, refl, sym, ap, ◌∙◌, inl, inr}
use Rattle.std.specs.Prelude.{◌⊎◌, ◌==◌}
use Rattle.std.specs.Str.{bytes_eq}
use Rattle.std.proofs.lemmas.Bool.{false≢true, eq-eqb, eqb-true}
use Rattle.std.proofs.lemmas.List.{append-nil, take-append-drop}
use Rattle.std.proofs.lemmas.Slice.Eq.{bytes_eq-Decides}
use Rattle.dd_text.specs.Names.{is_byte_of_name}
use Rattle.dd_text.specs.Grammar.{IsAxiomText, IsConceptText, Spells, SpellsAxiom, Term, axiom_text, is_written, term_text}
use Rattle.dd_text.specs.declared.grammar.Scan.{Scan}
use Rattle.dd_text.specs.Automaton.{is_whole, reach, start}
use Rattle.dd_text.specs.Parts.{axiom_head}
use Rattle.dd_text.proofs.AxiomReads.{axiom-split, sides_of, split-unique}
use Rattle.dd_text.proofs.Verdicts.{IsTermOf, ScanReached, Seen-start, reach-whole, reached, whole-term, whole_state}

-- a concept, a byte that ends it, and what is left
pub record IsLed (end : ℕ) (text : List ℕ) : Type 0 where
  pub term : Term
  pub rest : List ℕ
  pub written : is_written term ≡ true
  pub text_is : text ≡ term_text term ++ end ∷ rest

module _ (text : List ℕ) where
  way : ScanReached start text []
  way = reached text start [] Seen-start

  -- what was read is a concept
  front : is_whole (reach start text).0 ≡ true → IsTermOf way.read
  front w =
      let s = (reach start text).0 in
      whole-term s.mode s.word s.stack s.signs s.depth way.read way.seen w

  -- where the text is a concept's, the automaton reads it to the end
  spelt-reach : (t : Term) → Spells text t → reach start text ≡ (whole_state t, [])
  spelt-reach t spelt =
      ap (reach start) (spelt.text_is ∙ sym (append-nil (term_text t))) ∙ reach-whole t [] spelt.written tt

  concept-not-whole : is_whole (reach start text).0 ≡ false → IsConceptText text → ⊥
  concept-not-whole w (t, spelt) =
      false≢true (sym w ∙ ap (λ (p : Scan × List ℕ). is_whole p.0) (spelt-reach t spelt))

  concept-by-rest : is_whole (reach start text).0 ≡ true → (rest : List ℕ) → (reach start text).1 ≡ rest → IsConceptText text ⊎ (IsConceptText text → ⊥)
  concept-by-rest w [] none =
      let f = front w in
      inl (
        f.term,
        record {
          written = f.written;
          text_is = way.text_is ∙ ap (λ l. way.read ++ l) none ∙ append-nil way.read ∙ f.text_is;
        },
      )
  concept-by-rest w (b ∷ bs) some =
      inr (λ (t, spelt).
      let both : b ∷ bs ≡ [] = sym some ∙ ap (λ (p : Scan × List ℕ). p.1) (spelt-reach t spelt) in
      cc)

  -- every text is a concept's, with its tree, or no concept's
  pub decide_concept : IsConceptText text ⊎ (IsConceptText text → ⊥)
  decide_concept =
      elim (is_whole (reach start text).0) as (λ b. is_whole (reach start text).0 ≡ b → IsConceptText text ⊎ (IsConceptText text → ⊥)) [
        | true ↦ λ w. concept-by-rest w (reach start text).1 refl
        | false ↦ λ w. inr (concept-not-whole w)
      ] refl

  module _ (end : ℕ) (ends : is_byte_of_name end ≡ false) where
    -- where the text is a concept's with the byte after it, the automaton stops before the byte
    led-reach : (h : IsLed end text) → reach start text ≡ (whole_state h.term, end ∷ h.rest)
    led-reach h = ap (reach start) h.text_is ∙ reach-whole h.term (end ∷ h.rest) h.written ends

    led-not-whole : is_whole (reach start text).0 ≡ false → IsLed end text → ⊥
    led-not-whole w h = false≢true (sym w ∙ ap (λ (p : Scan × List ℕ). is_whole p.0) (led-reach h))

    led-by-rest : is_whole (reach start text).0 ≡ true → (rest : List ℕ) → (reach start text).1 ≡ rest → IsLed end text ⊎ (IsLed end text → ⊥)
    led-by-rest w [] none =
        inr (λ h.
        let both : [] ≡ end ∷ h.rest = sym none ∙ ap (λ (p : Scan × List ℕ). p.1) (led-reach h) in
        cc)
    led-by-rest w (b ∷ bs) some =
        elim (b == end) as (λ t. (b == end) ≡ t → IsLed end text ⊎ (IsLed end text → ⊥)) [
          | true ↦ λ e.
              let f = front w in
              inl (record {
                term = f.term;
                rest = bs;
                written = f.written;
                text_is = way.text_is ∙ ap (λ l. l ++ (reach start text).1) f.text_is ∙ ap (λ l. term_text f.term ++ l) (some ∙ ap (λ (c : ℕ). c ∷ bs) (eqb-true b end e));
              })
          | false ↦ λ e.
              inr (λ h.
              let both : b ∷ bs ≡ end ∷ h.rest = sym some ∙ ap (λ (p : Scan × List ℕ). p.1) (led-reach h) in
              let same : b ≡ end = cc in
              false≢true (sym e ∙ eq-eqb b end same))
        ] refl

    -- a text has a concept and the byte for its front, or it has not
    decide_led : IsLed end text ⊎ (IsLed end text → ⊥)
    decide_led =
        elim (is_whole (reach start text).0) as (λ b. is_whole (reach start text).0 ≡ b → IsLed end text ⊎ (IsLed end text → ⊥)) [
          | true ↦ λ w. led-by-rest w (reach start text).1 refl
          | false ↦ λ w. inr (led-not-whole w)
        ] refl

-- an axiom's text is the head, a side and a space, a side and the last bracket
made_of : (text left right : List ℕ) (l r : Term) → text ≡ axiom_head ++ left → left ≡ term_text l ++ 32 ∷ right → right ≡ term_text r ++ 41 ∷ [] → text ≡ axiom_text l r
made_of text left right l r head first second =
    head ∙ ap (λ x. axiom_head ++ x) (first ∙ ap (λ x. term_text l ++ 32 ∷ x) second) ∙ sym (axiom-split l r)

-- the sides of an axiom's text, where its head is known
sides_from : (text left : List ℕ) (l r : Term) → text ≡ axiom_head ++ left → SpellsAxiom text l r → left ≡ term_text l ++ 32 ∷ (term_text r ++ 41 ∷ [])
sides_from text left l r head spelt = sides_of left l r (sym head ∙ spelt.text_is)

axiom-by-end : (text left : List ℕ) → text ≡ axiom_head ++ left → (a : IsLed 32 left) (b : IsLed 41 a.rest) (rest : List ℕ) → b.rest ≡ rest → IsAxiomText text ⊎ (IsAxiomText text → ⊥)
axiom-by-end text left head a b [] none =
    inl (
      a.term,
      b.term,
      record {
        left_written = a.written;
        right_written = b.written;
        text_is = made_of text left a.rest a.term b.term head a.text_is (b.text_is ∙ ap (λ (l : List ℕ). term_text b.term ++ 41 ∷ l) none);
      },
    )
axiom-by-end text left head a b (c ∷ cs) some =
    inr (λ (l, r, spelt).
    let first = split-unique 32 refl a.term l a.written spelt.left_written a.rest (term_text r ++ 41 ∷ []) (sym a.text_is ∙ sides_from text left l r head spelt) in
    let second : c ∷ cs ≡ [] = sym some ∙ split-unique 41 refl b.term r b.written spelt.right_written b.rest [] (sym b.text_is ∙ first) in
    cc)

axiom-by-right : (text left : List ℕ) → text ≡ axiom_head ++ left → (a : IsLed 32 left) → IsLed 41 a.rest ⊎ (IsLed 41 a.rest → ⊥) → IsAxiomText text ⊎ (IsAxiomText text → ⊥)
axiom-by-right text left head a (inl b) = axiom-by-end text left head a b b.rest refl
axiom-by-right text left head a (inr none) =
    inr (λ (l, r, spelt).
    let first = split-unique 32 refl a.term l a.written spelt.left_written a.rest (term_text r ++ 41 ∷ []) (sym a.text_is ∙ sides_from text left l r head spelt) in
    none (record { term = r; rest = []; written = spelt.right_written; text_is = first }))

axiom-by-left : (text left : List ℕ) → text ≡ axiom_head ++ left → IsLed 32 left ⊎ (IsLed 32 left → ⊥) → IsAxiomText text ⊎ (IsAxiomText text → ⊥)
axiom-by-left text left head (inl a) = axiom-by-right text left head a (decide_led a.rest 41 refl)
axiom-by-left text left head (inr none) =
    inr (λ (l, r, spelt). none (record { term = l; rest = term_text r ++ 41 ∷ []; written = spelt.left_written; text_is = sides_from text left l r head spelt }))

-- every text is an axiom's, with its sides, or no axiom's
pub decide_axiom : (text : List ℕ) → IsAxiomText text ⊎ (IsAxiomText text → ⊥)
decide_axiom text =
    elim (bytes_eq (take 9 text) axiom_head) as (λ t. bytes_eq (take 9 text) axiom_head ≡ t → IsAxiomText text ⊎ (IsAxiomText text → ⊥)) [
      | true ↦ λ e.
          axiom-by-left text (drop 9 text) (sym (take-append-drop 9 text) ∙ ap (λ x. x ++ drop 9 text) ((bytes_eq-Decides (take 9 text) axiom_head).0 e)) (decide_led (drop 9 text) 32 refl)
      | false ↦ λ e.
          inr (λ (l, r, spelt).
          let same : take 9 text ≡ axiom_head = ap (take 9) (spelt.text_is ∙ axiom-split l r) in
          false≢true (sym e ∙ (bytes_eq-Decides (take 9 text) axiom_head).1 same))
    ] refl
