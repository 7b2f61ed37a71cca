-- The concepts of a closure are in normal form where the further concepts are.
use Rattle.std.proofs.Common.{◌≡◌, ◌∙◌, Bool, true, List, [], ◌∷◌, ◌++◌, flat_map, All, sym, ap, subst, inl, inr}
use Rattle.std.proofs.lemmas.Bool.{false≢true, or_cases, and_parts}
use Rattle.dd_concept.specs.declared.concept.Axiom.{Axiom}
use Rattle.dd_concept.specs.declared.concept.Concept.{Concept}
use Rattle.dd_concept.specs.declared.concept.Concept.TheVariants.{Top, Bottom, Name, Not, And, Or, HasSome, HasAll}
use Rattle.dd_concept.specs.Normal.{IsNormal, stands, stands_at, nnf_of, nnf_not_of}
use Rattle.dd_concept.specs.Same.{has}
use Rattle.dd_concept.proofs.Folds.{fold-And, fold-Or, fold-HasSome, fold-HasAll}
use Rattle.dd_concept.proofs.Induction.{induct}
use Rattle.dd_concept.proofs.NormalForms.{nnf_of-IsNormal, nnf_not_of-IsNormal}
use Rattle.dd_concept.proofs.Sets.{has-append, has-cases, has-contains, has-head, has-tail}
use Rattle.dd_concept.specs.Parts.{parts_in_order}
use Rattle.dd_rules.specs.Closure.{sides_of, sources_of, closure_of}
use Rattle.dd_rules.proofs.Once.{once-has}
use Rattle.dd_rules.proofs.Parts.{parts-Top, parts-Bottom, parts-Name, parts-Not, parts-And, parts-Or, parts-HasSome, parts-HasAll}

AllNormal : List Concept → Type 0
AllNormal cs = (d : Concept) → has cs d ≡ true → IsNormal d

normal-cons : (c : Concept) (cs : List Concept) → IsNormal c → AllNormal cs → AllNormal (c ∷ cs)
unfolding AllNormal
normal-cons c cs h k d t = elim (has-cases d c cs t) [ inl e ↦ subst IsNormal e h | inr m ↦ k d m ]

normal-append : (xs ys : List Concept) → AllNormal xs → AllNormal ys → AllNormal (xs ++ ys)
unfolding AllNormal
normal-append xs ys h k d t = elim (or_cases (has xs d) (has ys d) (sym (has-append xs ys d) ∙ t)) [ inl m ↦ h d m | inr m ↦ k d m ]

normal-nil : AllNormal []
unfolding AllNormal
normal-nil d t = absurd (false≢true t)

alone : (c : Concept) (cs : List Concept) → cs ≡ c ∷ [] → IsNormal c → AllNormal cs
alone c cs e h = subst AllNormal (sym e) (normal-cons c [] h normal-nil)

-- the subconcepts of a concept in normal form are in normal form
parts-normal : (c : Concept) → IsNormal c → AllNormal (parts_in_order c)
parts-normal = induct (λ c. IsNormal c → AllNormal (parts_in_order c)) (record {
  top = alone Top (parts_in_order Top) parts-Top;
  bottom = alone Bottom (parts_in_order Bottom) parts-Bottom;
  name = λ a. alone (Name a) (parts_in_order (Name a)) (parts-Name a);
  not = λ c _. alone (Not c) (parts_in_order (Not c)) (parts-Not c);
  and = λ c d h k n. let both = and_parts (stands c).1 (stands d).1 (sym (ap (λ (v : Bool × Bool). v.1) (fold-And (Bool × Bool) stands_at c d)) ∙ n) in
      subst AllNormal (sym (parts-And c d)) (normal-cons (And c d) (parts_in_order c ++ parts_in_order d) n (normal-append (parts_in_order c) (parts_in_order d) (h both.0) (k both.1)));
  or = λ c d h k n. let both = and_parts (stands c).1 (stands d).1 (sym (ap (λ (v : Bool × Bool). v.1) (fold-Or (Bool × Bool) stands_at c d)) ∙ n) in
      subst AllNormal (sym (parts-Or c d)) (normal-cons (Or c d) (parts_in_order c ++ parts_in_order d) n (normal-append (parts_in_order c) (parts_in_order d) (h both.0) (k both.1)));
  has_some = λ r c h n. subst AllNormal (sym (parts-HasSome r c)) (normal-cons (HasSome r c) (parts_in_order c) n (h (sym (ap (λ (v : Bool × Bool). v.1) (fold-HasSome (Bool × Bool) stands_at r c)) ∙ n)));
  has_all = λ r c h n. subst AllNormal (sym (parts-HasAll r c)) (normal-cons (HasAll r c) (parts_in_order c) n (h (sym (ap (λ (v : Bool × Bool). v.1) (fold-HasAll (Bool × Bool) stands_at r c)) ∙ n)));
})

all-parts : (cs : List Concept) → AllNormal cs → AllNormal (flat_map parts_in_order cs)
unfolding AllNormal
all-parts [] h = normal-nil
all-parts (c ∷ cs) h = normal-append (parts_in_order c) (flat_map parts_in_order cs) (parts-normal c (h c (has-head c cs))) (all-parts cs (λ d t. h d (has-tail d c cs t)))

sides-normal : (axioms : List Axiom) → AllNormal (flat_map sides_of axioms)
sides-normal [] = normal-nil
sides-normal (a ∷ as') = normal-cons (nnf_not_of a.left) (nnf_of a.right ∷ flat_map sides_of as') (nnf_not_of-IsNormal a.left)
    (normal-cons (nnf_of a.right) (flat_map sides_of as') (nnf_of-IsNormal a.right) (sides-normal as'))

extra-normal : (cs : List Concept) → All IsNormal cs → AllNormal cs
unfolding AllNormal
extra-normal cs h d t = let at = has-contains cs d t in subst IsNormal at.2 (h at.0 d at.1)

pub closure-normal : (axioms : List Axiom) (extra : List Concept) → All IsNormal extra → (c : Concept) → has (closure_of axioms extra) c ≡ true → IsNormal c
unfolding AllNormal
closure-normal axioms extra h c t =
    all-parts (sources_of axioms extra) (normal-append (flat_map sides_of axioms) extra (sides-normal axioms) (extra-normal extra h)) c
    (sym (once-has (flat_map parts_in_order (sources_of axioms extra)) c) ∙ t)
