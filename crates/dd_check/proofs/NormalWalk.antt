-- A walk over a concept and the form that another is to have, by the parts of both.
use Rattle.std.proofs.Common.{◌≡◌, ◌∙◌, ◌&&◌, ◌==◌, sym, ap, ℕ, Bool, true, false, not, Option, None, Some, Bor}
use Rattle.std.specs.Option.{option_map}
use Rattle.std.proofs.lemmas.Bool.{eq-eqb, ne_eqb}
use Rattle.dd_concept.specs.declared.concept.Concept.{Concept}
use Rattle.dd_concept.specs.declared.concept.Concept.TheVariants.{And, Or, HasSome, HasAll}
use Rattle.dd_concept.specs.Normal.{nnf_of, nnf_not_of}
use Rattle.dd_concept.specs.Same.{is_same}
use Rattle.dd_concept.proofs.Equations.{nnf_of-And, nnf_of-Or, nnf_of-HasSome, nnf_of-HasAll, nnf_not_of-And, nnf_not_of-Or, nnf_not_of-HasSome, nnf_not_of-HasAll}
use Rattle.dd_task.specs.Lines.{is_there}
use Rattle.dd_check.specs.Parts.{pair_of, along_of, are_parts, is_along, normal_by, joined_of, quantified_of}
use Rattle.dd_check.proofs.PartForms.{and-at, or-at, some-at, all-at}

-- ---- what is asked of the whole is asked of the parts

pub and-walk : (kept : Bool) (d e c a : Concept) → c ≡ And d e
    → is_there (joined_of kept a) (are_parts (normal_by kept d) (normal_by kept e)) ≡ is_same (normal_by kept c) a
and-walk true d e c a is = and-at (nnf_of d) (nnf_of e) a ∙ sym (ap (λ n. is_same n a) (ap nnf_of is ∙ nnf_of-And d e))
and-walk false d e c a is = or-at (nnf_not_of d) (nnf_not_of e) a ∙ sym (ap (λ n. is_same n a) (ap nnf_not_of is ∙ nnf_not_of-And d e))

pub or-walk : (kept : Bool) (d e c a : Concept) → c ≡ Or d e
    → is_there (joined_of (not kept) a) (are_parts (normal_by kept d) (normal_by kept e)) ≡ is_same (normal_by kept c) a
or-walk true d e c a is = or-at (nnf_of d) (nnf_of e) a ∙ sym (ap (λ n. is_same n a) (ap nnf_of is ∙ nnf_of-Or d e))
or-walk false d e c a is = and-at (nnf_not_of d) (nnf_not_of e) a ∙ sym (ap (λ n. is_same n a) (ap nnf_not_of is ∙ nnf_not_of-Or d e))

pub some-walk : (kept : Bool) (r : ℕ) (d c a : Concept) → c ≡ HasSome r d
    → is_there (quantified_of kept a) (is_along r (normal_by kept d)) ≡ is_same (normal_by kept c) a
some-walk true r d c a is = some-at r (nnf_of d) a ∙ sym (ap (λ n. is_same n a) (ap nnf_of is ∙ nnf_of-HasSome r d))
some-walk false r d c a is = all-at r (nnf_not_of d) a ∙ sym (ap (λ n. is_same n a) (ap nnf_not_of is ∙ nnf_not_of-HasSome r d))

pub all-walk : (kept : Bool) (r : ℕ) (d c a : Concept) → c ≡ HasAll r d
    → is_there (quantified_of (not kept) a) (is_along r (normal_by kept d)) ≡ is_same (normal_by kept c) a
all-walk true r d c a is = all-at r (nnf_of d) a ∙ sym (ap (λ n. is_same n a) (ap nnf_of is ∙ nnf_of-HasAll r d))
all-walk false r d c a is = some-at r (nnf_not_of d) a ∙ sym (ap (λ n. is_same n a) (ap nnf_not_of is ∙ nnf_not_of-HasAll r d))

-- ---- the answers of a walk over two parts, and over one along a role

module _ (kept : Bool) (d e : Concept) (j : Option (Concept × Concept)) (whole : Bool) (asks : is_there j (are_parts (normal_by kept d) (normal_by kept e)) ≡ whole)
    (r : Option (Bor Concept × Bor Concept)) (is_j : option_map pair_of r ≡ j) where
  at-parts : (o : Option (Bor Concept × Bor Concept)) → r ≡ o → is_there (option_map pair_of o) (are_parts (normal_by kept d) (normal_by kept e)) ≡ whole
  at-parts o at = ap (λ o. is_there (option_map pair_of o) (are_parts (normal_by kept d) (normal_by kept e))) (sym at)
      ∙ ap (λ o. is_there o (are_parts (normal_by kept d) (normal_by kept e))) is_j ∙ asks

  pub both-then : (x y : Bor Concept) → r ≡ Some (x, y) → (d' e' : Concept) → d' ≡ d → e' ≡ e → (first second : Bool)
      → first ≡ is_same (normal_by kept d') x.now → first ≡ true → second ≡ is_same (normal_by kept e') y.now → second ≡ whole
  both-then x y at d' e' is_d is_e first second f t s =
      s ∙ ap (λ z. is_same (normal_by kept z) y.now) is_e
      ∙ sym (ap (λ v. v && is_same (normal_by kept e) y.now) (sym (f ∙ ap (λ z. is_same (normal_by kept z) x.now) is_d) ∙ t)) ∙ at-parts (Some (x, y)) at

  pub both-else : (x y : Bor Concept) → r ≡ Some (x, y) → (d' : Concept) → d' ≡ d → (first : Bool)
      → first ≡ is_same (normal_by kept d') x.now → first ≡ false → first ≡ whole
  both-else x y at d' is_d first f n =
      n ∙ sym (ap (λ v. v && is_same (normal_by kept e) y.now) (sym (f ∙ ap (λ z. is_same (normal_by kept z) x.now) is_d) ∙ n)) ∙ at-parts (Some (x, y)) at

  pub both-none : r ≡ None → false ≡ whole
  both-none at = at-parts None at

module _ (kept : Bool) (role : ℕ) (d : Concept) (j : Option (ℕ × Concept)) (whole : Bool) (asks : is_there j (is_along role (normal_by kept d)) ≡ whole)
    (r : Option (ℕ × Bor Concept)) (is_j : option_map along_of r ≡ j) where
  at-along : (o : Option (ℕ × Bor Concept)) → r ≡ o → is_there (option_map along_of o) (is_along role (normal_by kept d)) ≡ whole
  at-along o at = ap (λ o. is_there (option_map along_of o) (is_along role (normal_by kept d))) (sym at)
      ∙ ap (λ o. is_there o (is_along role (normal_by kept d))) is_j ∙ asks

  pub along-then : (s : ℕ) (x : Bor Concept) → r ≡ Some (s, x) → (d' : Concept) → d' ≡ d → (second : Bool)
      → role ≡ s → second ≡ is_same (normal_by kept d') x.now → second ≡ whole
  along-then s x at d' is_d second t f =
      f ∙ ap (λ z. is_same (normal_by kept z) x.now) is_d ∙ sym (ap (λ v. v && is_same (normal_by kept d) x.now) (eq-eqb role s t)) ∙ at-along (Some (s, x)) at

  pub along-else : (s : ℕ) (x : Bor Concept) → r ≡ Some (s, x) → (role ≡ s → ⊥) → (role == s) ≡ whole
  along-else s x at n = ne_eqb role s n ∙ sym (ap (λ v. v && is_same (normal_by kept d) x.now) (ne_eqb role s n)) ∙ at-along (Some (s, x)) at

  pub along-none : r ≡ None → false ≡ whole
  along-none at = at-along None at
