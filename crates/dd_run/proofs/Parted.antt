-- Normal forms and parts of a concept have no more names, roles and nodes than the concept.
use Rattle.std.proofs.Common.{◌≡◌, ◌∙◌, ◌≤◌, ◌+◌, ◌==◌, ℕ, true, max, List, [], ◌∷◌, ◌++◌, ap, ap₂, refl, sym, subst, arith, inl, inr}
use Rattle.std.proofs.lemmas.Bool.{false≢true, or_cases, or_left, or_right}
use Rattle.dd_concept.specs.declared.concept.Concept.{Concept}
use Rattle.dd_concept.specs.declared.concept.Concept.TheFolds.{fold-Concept}
use Rattle.dd_concept.specs.declared.concept.Concept.TheOpen.{Concept-F}
use Rattle.dd_concept.specs.declared.concept.Concept.TheVariants.{Top, Bottom, Name, Not, And, Or, HasSome, HasAll}
use Rattle.dd_concept.specs.Counts.{node_count, node_count_at, depth_of, depth_at}
use Rattle.dd_concept.specs.Names.{names_in, names_in_at, roles_in, roles_in_at}
use Rattle.dd_concept.specs.Normal.{nnf_of, nnf_not_of}
use Rattle.dd_concept.specs.Parts.{parts_in_order}
use Rattle.dd_concept.specs.Same.{has}
use Rattle.dd_concept.proofs.Equations.{nnf_of-Top, nnf_of-Bottom, nnf_of-Name, nnf_of-Not, nnf_of-And, nnf_of-Or, nnf_of-HasSome, nnf_of-HasAll, nnf_not_of-Top, nnf_not_of-Bottom, nnf_not_of-Name, nnf_not_of-Not, nnf_not_of-And, nnf_not_of-Or, nnf_not_of-HasSome, nnf_not_of-HasAll, depth_of-And, depth_of-Or}
use Rattle.dd_concept.proofs.Folds.{fold-Top, fold-Bottom, fold-Not, fold-And, fold-Or, fold-HasSome, fold-HasAll}
use Rattle.dd_concept.proofs.Induction.{induct}
use Rattle.dd_concept.proofs.Sets.{has-append, has-cases}
use Rattle.dd_rules.proofs.Parts.{parts-Top, parts-Bottom, parts-Name, parts-Not, parts-And, parts-Or, parts-HasSome, parts-HasAll}
use Rattle.dd_task.specs.Keys.{is_among}

-- ---- symbols of normal forms

module _ (f : Concept-F (List ℕ) → List ℕ) (tops : f Concept-F.Top ≡ f Concept-F.Bottom) (nots : (l : List ℕ) → f (Concept-F.Not l) ≡ l)
    (flips : (l m : List ℕ) → f (Concept-F.And l m) ≡ f (Concept-F.Or l m)) (turns : (r : ℕ) (l : List ℕ) → f (Concept-F.HasSome r l) ≡ f (Concept-F.HasAll r l)) where
  symbols : Concept → List ℕ
  symbols = fold-Concept (List ℕ) f

  abbrev X : Type 0
  X = List ℕ

  record Stay (c : Concept) : Type 0 where
    form : symbols (nnf_of c) ≡ symbols c
    other : symbols (nnf_not_of c) ≡ symbols c

  stay : (c : Concept) → Stay c
  unfolding symbols
  stay = induct Stay (record {
    top = record { form = ap symbols nnf_of-Top; other = ap symbols nnf_not_of-Top ∙ fold-Bottom X f ∙ sym tops ∙ sym (fold-Top X f) };
    bottom = record { form = ap symbols nnf_of-Bottom; other = ap symbols nnf_not_of-Bottom ∙ fold-Top X f ∙ tops ∙ sym (fold-Bottom X f) };
    name = λ a. record { form = ap symbols (nnf_of-Name a); other = ap symbols (nnf_not_of-Name a) ∙ fold-Not X f (Name a) ∙ nots (symbols (Name a)) };
    not = λ c h. record {
      form = ap symbols (nnf_of-Not c) ∙ h.other ∙ sym (fold-Not X f c ∙ nots (symbols c));
      other = ap symbols (nnf_not_of-Not c) ∙ h.form ∙ sym (fold-Not X f c ∙ nots (symbols c));
    };
    and = λ c d h k. record {
      form = ap symbols (nnf_of-And c d) ∙ fold-And X f (nnf_of c) (nnf_of d) ∙ ap₂ (λ l m. f (Concept-F.And l m)) h.form k.form ∙ sym (fold-And X f c d);
      other = ap symbols (nnf_not_of-And c d) ∙ fold-Or X f (nnf_not_of c) (nnf_not_of d) ∙ ap₂ (λ l m. f (Concept-F.Or l m)) h.other k.other
          ∙ sym (flips (symbols c) (symbols d)) ∙ sym (fold-And X f c d);
    };
    or = λ c d h k. record {
      form = ap symbols (nnf_of-Or c d) ∙ fold-Or X f (nnf_of c) (nnf_of d) ∙ ap₂ (λ l m. f (Concept-F.Or l m)) h.form k.form ∙ sym (fold-Or X f c d);
      other = ap symbols (nnf_not_of-Or c d) ∙ fold-And X f (nnf_not_of c) (nnf_not_of d) ∙ ap₂ (λ l m. f (Concept-F.And l m)) h.other k.other
          ∙ flips (symbols c) (symbols d) ∙ sym (fold-Or X f c d);
    };
    has_some = λ r c h. record {
      form = ap symbols (nnf_of-HasSome r c) ∙ fold-HasSome X f r (nnf_of c) ∙ ap (λ l. f (Concept-F.HasSome r l)) h.form ∙ sym (fold-HasSome X f r c);
      other = ap symbols (nnf_not_of-HasSome r c) ∙ fold-HasAll X f r (nnf_not_of c) ∙ ap (λ l. f (Concept-F.HasAll r l)) h.other ∙ sym (turns r (symbols c)) ∙ sym (fold-HasSome X f r c);
    };
    has_all = λ r c h. record {
      form = ap symbols (nnf_of-HasAll r c) ∙ fold-HasAll X f r (nnf_of c) ∙ ap (λ l. f (Concept-F.HasAll r l)) h.form ∙ sym (fold-HasAll X f r c);
      other = ap symbols (nnf_not_of-HasAll r c) ∙ fold-HasSome X f r (nnf_not_of c) ∙ ap (λ l. f (Concept-F.HasSome r l)) h.other ∙ turns r (symbols c) ∙ sym (fold-HasAll X f r c);
    };
  })

  pub form-stays : (c : Concept) → fold-Concept (List ℕ) f (nnf_of c) ≡ fold-Concept (List ℕ) f c
  unfolding symbols
  form-stays c = (stay c).form

  pub other-stays : (c : Concept) → fold-Concept (List ℕ) f (nnf_not_of c) ≡ fold-Concept (List ℕ) f c
  unfolding symbols
  other-stays c = (stay c).other

pub names-form : (c : Concept) → names_in (nnf_of c) ≡ names_in c
names-form = form-stays names_in_at refl (λ l. refl) (λ l m. refl) (λ r l. refl)

pub names-other : (c : Concept) → names_in (nnf_not_of c) ≡ names_in c
names-other = other-stays names_in_at refl (λ l. refl) (λ l m. refl) (λ r l. refl)

pub roles-form : (c : Concept) → roles_in (nnf_of c) ≡ roles_in c
roles-form = form-stays roles_in_at refl (λ l. refl) (λ l m. refl) (λ r l. refl)

pub roles-other : (c : Concept) → roles_in (nnf_not_of c) ≡ roles_in c
roles-other = other-stays roles_in_at refl (λ l. refl) (λ l m. refl) (λ r l. refl)

-- ---- parts

-- the first concept has no more symbols, nodes and depth than the second
pub record IsUnder (c d : Concept) : Type 0 where
  pub names : (a : ℕ) → is_among (names_in c) a ≡ true → is_among (names_in d) a ≡ true
  pub roles : (r : ℕ) → is_among (roles_in c) r ≡ true → is_among (roles_in d) r ≡ true
  pub nodes : node_count c ≤ node_count d
  pub depth : depth_of c ≤ depth_of d

under-itself : (c : Concept) → IsUnder c c
under-itself c = record { names = λ a h. h; roles = λ r h. h; nodes = omega arith; depth = omega arith }

under-trans : (c d e : Concept) → IsUnder c d → IsUnder d e → IsUnder c e
under-trans c d e h k = record {
  names = λ a m. k.names a (h.names a m);
  roles = λ r m. k.roles r (h.roles r m);
  nodes = omega (arith, h.nodes, k.nodes);
  depth = omega (arith, h.depth, k.depth);
}

among-left : (ls ms : List ℕ) (a : ℕ) → is_among ls a ≡ true → is_among (ls ++ ms) a ≡ true
among-left [] ms a h = absurd (false≢true h)
among-left (l ∷ ls) ms a h = elim (or_cases (l == a) (is_among ls a) h) [
  | inl t ↦ or_left (l == a) (is_among (ls ++ ms) a) t
  | inr t ↦ or_right (l == a) (is_among (ls ++ ms) a) (among-left ls ms a t)
]

among-right : (ls ms : List ℕ) (a : ℕ) → is_among ms a ≡ true → is_among (ls ++ ms) a ≡ true
among-right [] ms a h = h
among-right (l ∷ ls) ms a h = or_right (l == a) (is_among (ls ++ ms) a) (among-right ls ms a h)

-- the two parts of a concept
left-under : (c d e : Concept) → names_in e ≡ names_in c ++ names_in d → roles_in e ≡ roles_in c ++ roles_in d → node_count e ≡ node_count c + node_count d + 1
    → depth_of e ≡ max (depth_of c) (depth_of d) + 1 → IsUnder c e
left-under c d e ns rs n k = record {
  names = λ a h. ap (λ l. is_among l a) ns ∙ among-left (names_in c) (names_in d) a h;
  roles = λ r h. ap (λ l. is_among l r) rs ∙ among-left (roles_in c) (roles_in d) r h;
  nodes = omega (arith, n);
  depth = omega (arith, k);
}

right-under : (c d e : Concept) → names_in e ≡ names_in c ++ names_in d → roles_in e ≡ roles_in c ++ roles_in d → node_count e ≡ node_count c + node_count d + 1
    → depth_of e ≡ max (depth_of c) (depth_of d) + 1 → IsUnder d e
right-under c d e ns rs n k = record {
  names = λ a h. ap (λ l. is_among l a) ns ∙ among-right (names_in c) (names_in d) a h;
  roles = λ r h. ap (λ l. is_among l r) rs ∙ among-right (roles_in c) (roles_in d) r h;
  nodes = omega (arith, n);
  depth = omega (arith, k);
}

-- the one part of a concept
only-under : (c e : Concept) (r : ℕ) → names_in e ≡ names_in c → roles_in e ≡ r ∷ roles_in c → node_count e ≡ node_count c + 1 → depth_of e ≡ depth_of c + 1 → IsUnder c e
only-under c e r ns rs n k = record {
  names = λ a h. ap (λ l. is_among l a) ns ∙ h;
  roles = λ s h. ap (λ l. is_among l s) rs ∙ or_right (r == s) (is_among (roles_in c) s) h;
  nodes = omega (arith, n);
  depth = omega (arith, k);
}

IsOver : Concept → Type 0
IsOver d = (c : Concept) → has (parts_in_order d) c ≡ true → IsUnder c d

alone : (d : Concept) → parts_in_order d ≡ d ∷ [] → IsOver d
unfolding IsOver
alone d is c h = elim (has-cases c d [] (sym (ap (λ l. has l c) is) ∙ h)) [
  | inl e ↦ subst (λ x. IsUnder x d) e (under-itself d)
  | inr none ↦ absurd (false≢true none)
]

single : (d e : Concept) → parts_in_order d ≡ d ∷ parts_in_order e → IsUnder e d → IsOver e → IsOver d
unfolding IsOver
single d e is under rest c h = elim (has-cases c d (parts_in_order e) (sym (ap (λ l. has l c) is) ∙ h)) [
  | inl same ↦ subst (λ x. IsUnder x d) same (under-itself d)
  | inr t ↦ under-trans c e d (rest c t) under
]

both : (d e g : Concept) → parts_in_order d ≡ d ∷ (parts_in_order e ++ parts_in_order g) → IsUnder e d → IsUnder g d → IsOver e → IsOver g → IsOver d
unfolding IsOver
both d e g is first second left right c h = elim (has-cases c d (parts_in_order e ++ parts_in_order g) (sym (ap (λ l. has l c) is) ∙ h)) [
  | inl same ↦ subst (λ x. IsUnder x d) same (under-itself d)
  | inr t ↦ elim (or_cases (has (parts_in_order e) c) (has (parts_in_order g) c) (sym (has-append (parts_in_order e) (parts_in_order g) c) ∙ t)) [
    | inl u ↦ under-trans c e d (left c u) first
    | inr u ↦ under-trans c g d (right c u) second
  ]
]

is-over : (d : Concept) → IsOver d
is-over = induct IsOver (record {
  top = alone Top parts-Top;
  bottom = alone Bottom parts-Bottom;
  name = λ a. alone (Name a) (parts-Name a);
  not = λ c h. alone (Not c) (parts-Not c);
  and = λ c d h k.
      let ns = fold-And (List ℕ) names_in_at c d in let rs = fold-And (List ℕ) roles_in_at c d in let n = fold-And ℕ node_count_at c d in let m = depth_of-And c d in
      both (And c d) c d (parts-And c d) (left-under c d (And c d) ns rs n m) (right-under c d (And c d) ns rs n m) h k;
  or = λ c d h k.
      let ns = fold-Or (List ℕ) names_in_at c d in let rs = fold-Or (List ℕ) roles_in_at c d in let n = fold-Or ℕ node_count_at c d in let m = depth_of-Or c d in
      both (Or c d) c d (parts-Or c d) (left-under c d (Or c d) ns rs n m) (right-under c d (Or c d) ns rs n m) h k;
  has_some = λ r c h. single (HasSome r c) c (parts-HasSome r c)
      (only-under c (HasSome r c) r (fold-HasSome (List ℕ) names_in_at r c) (fold-HasSome (List ℕ) roles_in_at r c) (fold-HasSome ℕ node_count_at r c) (fold-HasSome ℕ depth_at r c)) h;
  has_all = λ r c h. single (HasAll r c) c (parts-HasAll r c)
      (only-under c (HasAll r c) r (fold-HasAll (List ℕ) names_in_at r c) (fold-HasAll (List ℕ) roles_in_at r c) (fold-HasAll ℕ node_count_at r c) (fold-HasAll ℕ depth_at r c)) h;
})

pub part-under : (d c : Concept) → has (parts_in_order d) c ≡ true → IsUnder c d
unfolding IsOver
part-under d c h = is-over d c h
