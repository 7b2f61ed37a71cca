-- The closure of a peer for a job is the least list that has what it has to have.
use Rattle.std.proofs.Common.{◌≡◌, ◌∙◌, ℕ, true, List, [], ◌∷◌, ◌++◌, All, sym, subst, ap, inl, inr}
use Rattle.std.specs.List.{flat_map}
use Rattle.std.proofs.lemmas.Bool.{false≢true, or_cases}
use Rattle.std.proofs.lemmas.List.Elements.{All-nil, All-head, All-tail}
use Rattle.dd_concept.specs.declared.concept.Axiom.{Axiom}
use Rattle.dd_concept.specs.declared.concept.Concept.{Concept}
use Rattle.dd_concept.specs.declared.concept.Concept.TheVariants.{Top, Bottom, Name, Not, And, Or, HasSome, HasAll}
use Rattle.dd_concept.specs.Closed.{HasParts, HasSides, HasTargets}
use Rattle.dd_concept.specs.Normal.{nnf_of, nnf_not_of}
use Rattle.dd_concept.specs.Parts.{parts_in_order}
use Rattle.dd_concept.specs.Same.{has}
use Rattle.dd_concept.proofs.Induction.{induct}
use Rattle.dd_concept.proofs.Sets.{has-append, has-cases, has-get_item, has-head, has-tail, within-from}
use Rattle.dd_rules.specs.Closure.{sides_of, sources_of, closure_of}
use Rattle.dd_rules.proofs.Closing.{closure-closed, closure-extra}
use Rattle.dd_rules.proofs.Once.{once-has}
use Rattle.dd_rules.proofs.Parts.{parts-Top, parts-Bottom, parts-Name, parts-Not, parts-And, parts-Or, parts-HasSome, parts-HasAll}
use Rattle.dd_task.specs.declared.job.Job.{Job}
use Rattle.dd_task.specs.Closure.{IsClosedOver, IsClosure, IsClosureFor, extra_for}
use Rattle.dd_task.specs.Rules.{axioms_of}
use Rattle.dd_task.proofs.Places.{All-from}
use Rattle.dd_run.specs.Fit.{closure_for}

-- what is among the lists made of some items is in that of one of them
pub record IsOf (f : Concept → List Concept) (xs : List Concept) (c : Concept) : Type 0 where
  pub source : Concept
  pub there : has xs source ≡ true
  pub part : has (f source) c ≡ true

pub flat-has : (f : Concept → List Concept) (xs : List Concept) (c : Concept) → has (flat_map f xs) c ≡ true → IsOf f xs c
flat-has f [] c h = absurd (false≢true h)
flat-has f (d ∷ ds) c h = elim (or_cases (has (f d) c) (has (flat_map f ds) c) (sym (has-append (f d) (flat_map f ds) c) ∙ h)) [
  | inl t ↦ record { source = d; there = has-head d ds; part = t }
  | inr t ↦ let found = flat-has f ds c t in record { source = found.source; there = has-tail found.source d ds found.there; part = found.part }
]

-- a concept of the closure is a part of one of the sources
pub closure-source : (axioms : List Axiom) (extra : List Concept) (c : Concept) → has (closure_of axioms extra) c ≡ true → IsOf parts_in_order (sources_of axioms extra) c
closure-source axioms extra c h = flat-has parts_in_order (sources_of axioms extra) c (sym (once-has (flat_map parts_in_order (sources_of axioms extra)) c) ∙ h)

module _ (other : List Concept) (parts : HasParts other) where
  Inside : Concept → Type 0
  Inside c = has other c ≡ true → (d : Concept) → has (parts_in_order c) d ≡ true → has other d ≡ true

  alone : (c : Concept) → parts_in_order c ≡ c ∷ [] → Inside c
  unfolding Inside
  alone c e h d m = elim (has-cases d c [] (sym (ap (λ l. has l d) e) ∙ m)) [
    | inl is ↦ subst (λ x. has other x ≡ true) is h
    | inr none ↦ absurd (false≢true none)
  ]

  single : (c e : Concept) → parts_in_order c ≡ c ∷ parts_in_order e → (has other c ≡ true → has other e ≡ true) → Inside e → Inside c
  unfolding Inside
  single c e is down rest h d m = elim (has-cases d c (parts_in_order e) (sym (ap (λ l. has l d) is) ∙ m)) [
    | inl same ↦ subst (λ x. has other x ≡ true) same h
    | inr t ↦ rest (down h) d t
  ]

  both : (c e g : Concept) → parts_in_order c ≡ c ∷ (parts_in_order e ++ parts_in_order g) → (has other c ≡ true → (has other e ≡ true) × (has other g ≡ true))
      → Inside e → Inside g → Inside c
  unfolding Inside
  both c e g is down left right h d m = elim (has-cases d c (parts_in_order e ++ parts_in_order g) (sym (ap (λ l. has l d) is) ∙ m)) [
    | inl same ↦ subst (λ x. has other x ≡ true) same h
    | inr t ↦ elim (or_cases (has (parts_in_order e) d) (has (parts_in_order g) d) (sym (has-append (parts_in_order e) (parts_in_order g) d) ∙ t)) [
      | inl u ↦ left (down h).0 d u
      | inr u ↦ right (down h).1 d u
    ]
  ]

  -- with a concept the list has all its subconcepts
  all-inside : (c : Concept) → Inside c
  all-inside = induct Inside (record {
    top = alone Top parts-Top;
    bottom = alone Bottom parts-Bottom;
    name = λ a. alone (Name a) (parts-Name a);
    not = λ c h. alone (Not c) (parts-Not c);
    and = λ c d h k. both (And c d) c d (parts-And c d) (parts.ands c d) h k;
    or = λ c d h k. both (Or c d) c d (parts-Or c d) (parts.ors c d) h k;
    has_some = λ r c h. single (HasSome r c) c (parts-HasSome r c) (parts.somes r c) h;
    has_all = λ r c h. single (HasAll r c) c (parts-HasAll r c) (parts.alls r c) h;
  })

  sides-inside : (axioms : List Axiom) → All (HasSides other) axioms → (c : Concept) → has (flat_map sides_of axioms) c ≡ true → has other c ≡ true
  sides-inside [] all c h = absurd (false≢true h)
  sides-inside (a ∷ as') all c h =
      let first = All-head (HasSides other) a as' all in
      elim (has-cases c (nnf_not_of a.left) (nnf_of a.right ∷ flat_map sides_of as') h) [
        | inl e ↦ subst (λ x. has other x ≡ true) e first.left
        | inr t ↦ elim (has-cases c (nnf_of a.right) (flat_map sides_of as') t) [
          | inl e ↦ subst (λ x. has other x ≡ true) e first.right
          | inr u ↦ sides-inside as' (All-tail (HasSides other) a as' all) c u
        ]
      ]

extra-inside : (other extra : List Concept) → All (λ c. has other c ≡ true) extra → (c : Concept) → has extra c ≡ true → has other c ≡ true
extra-inside other [] all c h = absurd (false≢true h)
extra-inside other (d ∷ ds) all c h = elim (has-cases c d ds h) [
  | inl e ↦ subst (λ x. has other x ≡ true) e (All-head (λ x. has other x ≡ true) d ds all)
  | inr t ↦ extra-inside other ds (All-tail (λ x. has other x ≡ true) d ds all) c t
]

module _ (axioms : List Axiom) (extra : List Concept) where
  source-inside : (other : List Concept) → IsClosedOver axioms extra other → (c : Concept) → has (sources_of axioms extra) c ≡ true → has other c ≡ true
  source-inside other closed c h = elim (or_cases (has (flat_map sides_of axioms) c) (has extra c) (sym (has-append (flat_map sides_of axioms) extra c) ∙ h)) [
    | inl t ↦ sides-inside other closed.parts axioms closed.sides c t
    | inr t ↦ extra-inside other extra closed.extras c t
  ]

  pub closure-is : IsClosure axioms extra (closure_of axioms extra)
  unfolding Inside
  closure-is =
      let closed = closure-closed axioms extra [] (All-nil (HasTargets (closure_of axioms extra))) in
      record {
        is_closed = record {
          sides = closed.sides;
          extras = All-from Concept (λ c. has (closure_of axioms extra) c ≡ true) extra (λ k c e. closure-extra axioms extra c (has-get_item extra k c e));
          parts = closed.parts;
        };
        least = λ other over. within-from (closure_of axioms extra) other (λ c h.
            let found = closure-source axioms extra c h in
            all-inside other over.parts found.source (source-inside other over found.source found.there) c found.part);
      }

pub closure-for-is : (job : Job) (i : ℕ) → IsClosureFor job i (closure_for job i)
closure-for-is job i = closure-is (axioms_of job.pinned i) (extra_for job i)
