-- A text is that of one term, or of one pair of sides.
use Rattle.std.proofs.Common.{◌≡◌, ℕ, List, [], ◌∷◌, ◌++◌, true, refl, sym, ap, ◌∙◌}
use Rattle.std.proofs.lemmas.List.{append-nil}
use Rattle.dd_text.specs.Grammar.{Term, Spells, SpellsAxiom, is_written, term_text}
use Rattle.dd_text.specs.declared.grammar.Scan.{Scan}
use Rattle.dd_text.specs.Automaton.{reach, start}
use Rattle.dd_text.proofs.Reading.{EndsWord}
use Rattle.dd_text.proofs.Verdicts.{reach-whole, whole_state}
use Rattle.dd_text.proofs.Building.{signs_of-unique}
use Rattle.dd_text.proofs.AxiomReads.{axiom-split, sides_of, split-unique}

front-unique : (t u : Term) (x y : List ℕ) → is_written t ≡ true → is_written u ≡ true → EndsWord x → EndsWord y → term_text t ++ x ≡ term_text u ++ y → t ≡ u
front-unique t u x y ht hu ex ey e =
    let both : ◌≡◌ {A = Scan × List ℕ} (whole_state t, x) (whole_state u, y) = sym (reach-whole t x ht ex) ∙ ap (reach start) e ∙ reach-whole u y hu ey in
    signs_of-unique t u (ap (λ (p : Scan × List ℕ). p.0.signs) both)

pub Spells-unique : (text : List ℕ) (t u : Term) → Spells text t → Spells text u → t ≡ u
Spells-unique text t u ht hu =
    front-unique t u [] [] ht.written hu.written tt tt (append-nil (term_text t) ∙ sym ht.text_is ∙ hu.text_is ∙ sym (append-nil (term_text u)))

pub SpellsAxiom-unique : (text : List ℕ) (l r l' r' : Term) → SpellsAxiom text l r → SpellsAxiom text l' r' → (l ≡ l') × (r ≡ r')
SpellsAxiom-unique text l r l' r' h h' =
    let sides = sides_of (term_text l ++ 32 ∷ (term_text r ++ 41 ∷ [])) l' r' (sym (axiom-split l r) ∙ sym h.text_is ∙ h'.text_is) in
    let rights = split-unique 32 refl l l' h.left_written h'.left_written (term_text r ++ 41 ∷ []) (term_text r' ++ 41 ∷ []) sides in (
      front-unique l l' (32 ∷ (term_text r ++ 41 ∷ [])) (32 ∷ (term_text r' ++ 41 ∷ [])) h.left_written h'.left_written refl refl sides,
      front-unique r r' (41 ∷ []) (41 ∷ []) h.right_written h'.right_written refl refl rights,
    )
