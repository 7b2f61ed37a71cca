-- What is printed part by part is the text of the concept.
use Rattle.std.proofs.Common.{◌≡◌, ◌∙◌, ℕ, List, [], ◌∷◌, ◌++◌, ap, sym, append_assoc, Ok, Err}
use Rattle.std.specs.Prelude.{OnOk, Result, codes}
use Rattle.std.proofs.lemmas.List.{append-nil}
use Rattle.dd_concept.specs.declared.concept.Concept.{Concept}
use Rattle.dd_concept.specs.declared.concept.Concept.TheVariants.{Not, And, Or, HasSome, HasAll}
use Rattle.dd_concept.proofs.Folds.{fold-Not, fold-And, fold-Or, fold-HasSome, fold-HasAll}
use Rattle.dd_text.specs.Symbols.{SymbolLists}
use Rattle.dd_text.specs.Grammar.{Term, term_text}
use Rattle.dd_text.specs.Text.{concept_text, term_at, text_at}

pub on_ok : {T E P Q : Type 0} (r : Result T E) → (P → Q) → OnOk r P → OnOk r Q
on_ok (Ok x) f h = f h
on_ok (Err e) f h = tt

joined : (old front x back : List ℕ) → old ++ front ++ x ++ back ≡ old ++ (front ++ (x ++ back))
joined old front x back = append_assoc (old ++ front) x back ∙ append_assoc old front (x ++ back)

-- two parts, the second of which nothing stands before
two : (old front x mid y new : List ℕ) → mid ≡ old ++ front ++ x ++ 32 ∷ [] → new ≡ mid ++ [] ++ y ++ 41 ∷ [] → new ≡ old ++ (front ++ (x ++ 32 ∷ y ++ 41 ∷ []))
two old front x mid y new first second =
    let end = y ++ 41 ∷ [] in
    second ∙ ap (λ m. m ++ y ++ 41 ∷ []) (append-nil mid) ∙ append_assoc mid y (41 ∷ []) ∙ ap (λ m. m ++ end) (first ∙ joined old front x (32 ∷ []))
    ∙ append_assoc old (front ++ (x ++ 32 ∷ [])) end
    ∙ ap (λ l. old ++ l) (append_assoc front (x ++ 32 ∷ []) end ∙ ap (λ l. front ++ l) (append_assoc x (32 ∷ []) end ∙ sym (append_assoc x (32 ∷ y) (41 ∷ []))))

-- a role and a part
restricted : (old front role mid x new : List ℕ) → mid ≡ old ++ front ++ role → new ≡ mid ++ 32 ∷ [] ++ x ++ 41 ∷ [] → new ≡ old ++ (front ++ (role ++ 32 ∷ x ++ 41 ∷ []))
restricted old front role mid x new first second =
    let end = 32 ∷ (x ++ 41 ∷ []) in
    second ∙ joined mid (32 ∷ []) x (41 ∷ []) ∙ ap (λ m. m ++ end) first ∙ append_assoc (old ++ front) role end ∙ append_assoc old front (role ++ end)
    ∙ ap (λ l. old ++ (front ++ l)) (sym (append_assoc role (32 ∷ x) (41 ∷ [])))

module _ (s : SymbolLists) (c : Concept) (old : List ℕ) where
  pub prints-Not : (d d' : Concept) (new : List ℕ) → c ≡ Not d → d' ≡ d → new ≡ old ++ codes "(not " ++ concept_text s d' ++ codes ")" → new ≡ old ++ concept_text s c
  prints-Not d d' new is same put =
      put ∙ ap (λ x. old ++ codes "(not " ++ concept_text s x ++ codes ")") same ∙ joined old (codes "(not ") (concept_text s d) (codes ")")
      ∙ ap (λ t. old ++ term_text t) (sym (fold-Not Term (term_at s) d)) ∙ ap (λ x. old ++ concept_text s x) (sym is)

  pub prints-And : (d e d' e' : Concept) (mid new : List ℕ) → c ≡ And d e → d' ≡ d → e' ≡ e → mid ≡ old ++ codes "(and " ++ concept_text s d' ++ codes " " → new ≡ mid ++ [] ++ concept_text s e' ++ codes ")"
      → new ≡ old ++ concept_text s c
  prints-And d e d' e' mid new is same_d same_e first second =
      two old (codes "(and ") (concept_text s d) mid (concept_text s e) new (first ∙ ap (λ x. old ++ codes "(and " ++ concept_text s x ++ codes " ") same_d) (second ∙ ap (λ x. mid ++ [] ++ concept_text s x ++ codes ")") same_e)
      ∙ ap (λ t. old ++ term_text t) (sym (fold-And Term (term_at s) d e)) ∙ ap (λ x. old ++ concept_text s x) (sym is)

  pub prints-Or : (d e d' e' : Concept) (mid new : List ℕ) → c ≡ Or d e → d' ≡ d → e' ≡ e → mid ≡ old ++ codes "(or " ++ concept_text s d' ++ codes " " → new ≡ mid ++ [] ++ concept_text s e' ++ codes ")"
      → new ≡ old ++ concept_text s c
  prints-Or d e d' e' mid new is same_d same_e first second =
      two old (codes "(or ") (concept_text s d) mid (concept_text s e) new (first ∙ ap (λ x. old ++ codes "(or " ++ concept_text s x ++ codes " ") same_d) (second ∙ ap (λ x. mid ++ [] ++ concept_text s x ++ codes ")") same_e)
      ∙ ap (λ t. old ++ term_text t) (sym (fold-Or Term (term_at s) d e)) ∙ ap (λ x. old ++ concept_text s x) (sym is)

  pub prints-HasSome : (r : ℕ) (d d' : Concept) (mid new : List ℕ) → c ≡ HasSome r d → d' ≡ d → mid ≡ old ++ codes "(some " ++ text_at s.roles r → new ≡ mid ++ codes " " ++ concept_text s d' ++ codes ")"
      → new ≡ old ++ concept_text s c
  prints-HasSome r d d' mid new is same first second =
      restricted old (codes "(some ") (text_at s.roles r) mid (concept_text s d) new first (second ∙ ap (λ x. mid ++ codes " " ++ concept_text s x ++ codes ")") same)
      ∙ ap (λ t. old ++ term_text t) (sym (fold-HasSome Term (term_at s) r d)) ∙ ap (λ x. old ++ concept_text s x) (sym is)

  pub prints-HasAll : (r : ℕ) (d d' : Concept) (mid new : List ℕ) → c ≡ HasAll r d → d' ≡ d → mid ≡ old ++ codes "(all " ++ text_at s.roles r → new ≡ mid ++ codes " " ++ concept_text s d' ++ codes ")"
      → new ≡ old ++ concept_text s c
  prints-HasAll r d d' mid new is same first second =
      restricted old (codes "(all ") (text_at s.roles r) mid (concept_text s d) new first (second ∙ ap (λ x. mid ++ codes " " ++ concept_text s x ++ codes ")") same)
      ∙ ap (λ t. old ++ term_text t) (sym (fold-HasAll Term (term_at s) r d)) ∙ ap (λ x. old ++ concept_text s x) (sym is)
