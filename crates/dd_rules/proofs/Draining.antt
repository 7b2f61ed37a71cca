-- What a saturation keeps while it handles one number after the other.
use Rattle.std.proofs.Common.{◌≡◌, ◌∙◌, ◌||◌, ◌&&◌, ◌==◌, ◌<◌, ◌+◌, ◌++◌, sym, refl, ap, subst, ℕ, Bool, true, false, List, [], ◌∷◌, length, take, get_or, slice_get, Option, None, Some, inl, inr}
use Rattle.std.specs.Prelude.{◌⊎◌}
use Rattle.std.specs.List.{list_any, list_all, slice_index_or}
use Rattle.std.proofs.lemmas.List.{take_more}
use Rattle.std.proofs.lemmas.Option.{same_Some}
use Rattle.std.proofs.lemmas.Bool.{false≢true, or_cases, or_left, or_right, and_from, and_parts, eqb-true, eq-eqb}
use Rattle.dd_rules.specs.declared.shape.Shape.{Shape}
use Rattle.dd_rules.specs.declared.shape.Shape.TheVariants as shape
use Rattle.dd_rules.specs.declared.tables.AxiomNumbers.{AxiomNumbers}
use Rattle.dd_rules.specs.Forced.{IsForcedFrom}
use Rattle.dd_rules.specs.Handled.{IsFired, IsHandled, IsHandledAt}
use Rattle.dd_rules.specs.Index.{IsIndex, is_named, is_among}
use Rattle.dd_rules.specs.Least.{Implies, IsLeastSaturated}
use Rattle.dd_rules.specs.Numbers.{Rules, all_at, has_all, has_joined, is_saturated, keeps_and, keeps_axiom}
use Rattle.dd_rules.proofs.Lifting.{implied, implies}
use Rattle.dd_rules.proofs.Numbered.{all_at-each, all_at-from}
use Rattle.dd_rules.proofs.Walks.{list_all-each, list_all-from}

-- ---- names

pub all-more : (p q : ℕ → Bool) → Implies p q → (names : List (Option ℕ)) → has_all p names ≡ true → has_all q names ≡ true
all-more p q up [] h = refl
all-more p q up (None ∷ ns) h = absurd (false≢true h)
all-more p q up (Some m ∷ ns) h = let both = and_parts (p m) (has_all p ns) h in and_from (q m) (has_all q ns) (up m both.0) (all-more p q up ns both.1)

pub joined-more : (p q : ℕ → Bool) → Implies p q → (o : Option (List (Option ℕ))) → has_joined p o ≡ true → has_joined q o ≡ true
joined-more p q up None h = h
joined-more p q up (Some names) h = all-more p q up names h

-- one number more: it is among the names, or they were all there
split : (d new : ℕ → Bool) (n : ℕ) → ((k : ℕ) → new k ≡ ((k == n) || d k)) → (names : List (Option ℕ)) → has_all new names ≡ true
    → (list_any (is_named n) names ≡ true) ⊎ (has_all d names ≡ true)
split d new n with [] h = inr refl
split d new n with (None ∷ ns) h = absurd (false≢true h)
split d new n with (Some m ∷ ns) h =
    let both = and_parts (new m) (has_all new ns) h in
    elim (split d new n with ns both.1) [
      | inl later ↦ inl (or_right (m == n) (list_any (is_named n) ns) later)
      | inr all ↦ elim (or_cases (m == n) (d m) (sym (with m) ∙ both.0)) [
        | inl here ↦ inl (or_left (m == n) (list_any (is_named n) ns) here)
        | inr had ↦ inr (and_from (d m) (has_all d ns) had all)
      ]
    ]

-- ---- what is forced

pub forced-refl : (r : Rules) (p : ℕ → Bool) → IsForcedFrom r p p
forced-refl r p = record { above = λ n t. t; least = λ other h s. h }

pub forced-trans : (r : Rules) (p q s : ℕ → Bool) → IsForcedFrom r p q → IsForcedFrom r q s → IsForcedFrom r p s
forced-trans r p q s a b = record { above = λ n t. b.above n (a.above n t); least = λ other h sat. b.least other (a.least other h sat) sat }

pub least-after : (r : Rules) (p q s : ℕ → Bool) → IsForcedFrom r p q → IsLeastSaturated r q s → IsLeastSaturated r p s
least-after r p q s a b = record { above = λ n t. b.above n (a.above n t); saturated = b.saturated; least = λ other h sat. b.least other (a.least other h sat) sat }

pub fired-forced : (r : Rules) (ks : List ℕ) (p q : ℕ → Bool) → IsFired r.axioms ks p q → IsForcedFrom r p q
fired-forced r ks p q f = record {
  above = f.above;
  least = λ other h sat. f.least other h (and_parts (all_at (keeps_and other) r.shapes) (list_all (keeps_axiom other) r.axioms) sat).1;
}

-- the parts of a conjunction of a saturated label
pub saturated-parts : (r : Rules) (p : ℕ → Bool) (n a b : ℕ) → is_saturated r p ≡ true → slice_get r.shapes n ≡ Some (shape.And a b) → p n ≡ true → (p a ≡ true) × (p b ≡ true)
saturated-parts r p n a b sat at t =
    and_parts (p a) (p b) (implied (p n) (p a && p b) t (all_at-each (keeps_and p) r.shapes n (shape.And a b)
    (and_parts (all_at (keeps_and p) r.shapes) (list_all (keeps_axiom p) r.axioms) sat).0 at))

saturated-right : (r : Rules) (p : ℕ → Bool) (k : ℕ) (a : AxiomNumbers) → is_saturated r p ≡ true → slice_get r.axioms k ≡ Some a → has_joined p a.joined ≡ true → p a.right ≡ true
saturated-right r p k a sat at t = implied (has_joined p a.joined) (p a.right) t
    (list_all-each (keeps_axiom p) r.axioms (and_parts (all_at (keeps_and p) r.shapes) (list_all (keeps_axiom p) r.axioms) sat).1 k a at)

-- ---- handled numbers

-- no number is handled yet, and the axioms without a name have fired
pub handled-start : (r : Rules) (p d : ℕ → Bool) → ((k : ℕ) → d k ≡ false)
    → ((k : ℕ) (a : AxiomNumbers) → slice_get r.axioms k ≡ Some a → a.joined ≡ Some [] → p a.right ≡ true) → IsHandled r p d
handled-start r p d none unnamed = record {
  within = λ n t. absurd (false≢true (sym (none n) ∙ t));
  ands = λ n a b at t. absurd (false≢true (sym (none n) ∙ t));
  rights = λ k a at t. by-names a.joined (λ is. unnamed k a at is) t;
}
  where
    by-names : {X : Type 0} (o : Option (List (Option ℕ))) → (o ≡ Some [] → X) → has_joined d o ≡ true → X
    by-names None h t = absurd (false≢true t)
    by-names (Some []) h t = h refl
    by-names (Some (None ∷ ns)) h t = absurd (false≢true t)
    by-names (Some (Some m ∷ ns)) h t = absurd (false≢true (sym (none m) ∙ (and_parts (d m) (has_all d ns) t).0))

-- all of a saturated label is handled, and one number came in
pub handled-added : (r : Rules) (old p d : ℕ → Bool) (n : ℕ) → is_saturated r old ≡ true → ((k : ℕ) → d k ≡ old k) → ((k : ℕ) → p k ≡ ((k == n) || old k)) → IsHandled r p d
handled-added r old p d n sat same with = record {
  within = λ k t. up k (sym (same k) ∙ t);
  ands = λ m a b at t. let both = saturated-parts r old m a b sat at (sym (same m) ∙ t) in (up a both.0, up b both.1);
  rights = λ k a at t. up a.right (saturated-right r old k a sat at (joined-more d old (λ m e. sym (same m) ∙ e) a.joined t));
}
  where
    up : Implies old p
    up k t = with k ∙ or_right (k == n) (old k) t

pub handled-next : (r : Rules) (p q d new : ℕ → Bool) (n : ℕ) → IsHandled r p d → p n ≡ true → Implies p q → IsHandledAt r n p q → ((k : ℕ) → new k ≡ ((k == n) || d k)) → IsHandled r q new
handled-next r p q d new n h there up at with = record {
  within = λ k t. up k (old k t);
  ands = λ m a b e t. elim (or_cases (m == n) (d m) (sym (with m) ∙ t)) [
    | inl here ↦ at.ands a b (ap (slice_get r.shapes) (sym (eqb-true m n here)) ∙ e)
    | inr had ↦ let both = h.ands m a b e had in (up a both.0, up b both.1)
  ];
  rights = λ k a e t. by-names k a e a.joined refl t;
}
  where
    old : Implies new p
    old k t = elim (or_cases (k == n) (d k) (sym (with k) ∙ t)) [
      | inl here ↦ subst (λ m. p m ≡ true) (sym (eqb-true k n here)) there
      | inr had ↦ h.within k had
    ]

    by-names : (k : ℕ) (a : AxiomNumbers) → slice_get r.axioms k ≡ Some a → (o : Option (List (Option ℕ))) → a.joined ≡ o → has_joined new o ≡ true → q a.right ≡ true
    by-names k a e None is t = absurd (false≢true t)
    by-names k a e (Some names) is t = elim (split d new n with names t) [
      | inl among ↦ at.rights k a names e is among (all-more new p old names t)
      | inr all ↦ up a.right (h.rights k a e (subst (λ o. has_joined d o ≡ true) (sym is) all))
    ]

-- where all is handled the label is saturated
pub handled-end : (r : Rules) (p d : ℕ → Bool) → IsHandled r p d → Implies p d → is_saturated r p ≡ true
handled-end r p d h all = and_from (all_at (keeps_and p) r.shapes) (list_all (keeps_axiom p) r.axioms)
    (all_at-from (keeps_and p) r.shapes ands)
    (list_all-from (keeps_axiom p) r.axioms (λ k a e. implies (has_joined p a.joined) (p a.right) (λ t. h.rights k a e (joined-more p d all a.joined t))))
  where
    ands : (n : ℕ) (s : Shape) → slice_get r.shapes n ≡ Some s → keeps_and p n s ≡ true
    ands n (shape.And a b) e = implies (p n) (p a && p b) (λ t. let both = h.ands n a b e (all n t) in and_from (p a) (p b) both.0 both.1)
    ands n _ e = refl

pub drained : (r : Rules) (start p d : ℕ → Bool) → IsForcedFrom r start p → IsHandled r p d → Implies p d → IsLeastSaturated r start p
drained r start p d f h all = record { above = f.above; saturated = handled-end r p d h all; least = f.least }

-- ---- firing

among-here : (k j : ℕ) → is_among (k ∷ []) j ≡ true → k ≡ j
among-here k j h = elim (or_cases (k == j) false h) [
  | inl e ↦ eqb-true k j e
  | inr e ↦ absurd (false≢true e)
]

pub fired-none : (axioms : List AxiomNumbers) (k : ℕ) (p : ℕ → Bool) → ((a : AxiomNumbers) → slice_get axioms k ≡ Some a → has_joined p a.joined ≡ true → p a.right ≡ true) → IsFired axioms (k ∷ []) p p
fired-none axioms k p h = record {
  above = λ n t. t;
  fired = λ j a m e t. h a (ap (slice_get axioms) (among-here k j m) ∙ e) t;
  least = λ other up sat. up;
}

pub fired-one : (axioms : List AxiomNumbers) (k : ℕ) (row : AxiomNumbers) (p q : ℕ → Bool) → slice_get axioms k ≡ Some row → has_joined p row.joined ≡ true
    → ((n : ℕ) → q n ≡ ((n == row.right) || p n)) → IsFired axioms (k ∷ []) p q
fired-one axioms k row p q e t with = record {
  above = λ n h. with n ∙ or_right (n == row.right) (p n) h;
  fired = λ j a m at _. subst (λ (b : AxiomNumbers). q b.right ≡ true) (same row a (sym e ∙ ap (slice_get axioms) (among-here k j m) ∙ at))
      (with row.right ∙ or_left (row.right == row.right) (p row.right) (eq-eqb row.right row.right refl));
  least = λ other up sat n h. elim (or_cases (n == row.right) (p n) (sym (with n) ∙ h)) [
    | inl here ↦ subst (λ m. other m ≡ true) (sym (eqb-true n row.right here))
        (implied (has_joined other row.joined) (other row.right) (joined-more p other up row.joined t) (list_all-each (keeps_axiom other) axioms sat k row e))
    | inr had ↦ up n had
  ];
}
  where
    same : (a b : AxiomNumbers) → Some a ≡ Some b → a ≡ b
    same a b h = cc

-- no axiom yet
pub fired-start : (axioms : List AxiomNumbers) (p : ℕ → Bool) → IsFired axioms [] p p
fired-start axioms p = record { above = λ n t. t; fired = λ k a m e t. absurd (false≢true m); least = λ other up sat. up }

-- after some axioms one more
pub fired-more : (axioms : List AxiomNumbers) (ks more : List ℕ) (k : ℕ) (p q s : ℕ → Bool) → ((j : ℕ) → is_among more j ≡ true → (is_among ks j ≡ true) ⊎ (is_among (k ∷ []) j ≡ true))
    → IsFired axioms ks p q → IsFired axioms (k ∷ []) q s → IsFired axioms more p s
fired-more axioms ks more k p q s cases f g = record {
  above = λ n t. g.above n (f.above n t);
  fired = λ j a m e t. elim (cases j m) [
    | inl before ↦ g.above a.right (f.fired j a before e t)
    | inr here ↦ g.fired j a here e (joined-more p q f.above a.joined t)
  ];
  least = λ other up sat. g.least other (f.least other up sat) sat;
}

-- ---- one number

-- its parts, and then the axioms with its name
pub handle-forced : (r : Rules) (ks : List ℕ) (p m q : ℕ → Bool) (n : ℕ) (s : Shape) → slice_get r.shapes n ≡ Some s → p n ≡ true → Implies p m
    → ((other : ℕ → Bool) → Implies p other → ((a b : ℕ) → s ≡ shape.And a b → (other a ≡ true) × (other b ≡ true)) → Implies m other)
    → IsFired r.axioms ks m q → IsForcedFrom r p q
handle-forced r ks p m q n s at t above least f = forced-trans r p m q
    (record { above = above; least = λ other up sat. least other up (λ a b e. saturated-parts r other n a b sat (at ∙ ap Some e) (up n t)) })
    (fired-forced r ks m q f)

pub handle-at : (r : Rules) (lists : List (List ℕ)) (plain : List ℕ) (p m q : ℕ → Bool) (n : ℕ) (s : Shape) → slice_get r.shapes n ≡ Some s → Implies p m
    → ((a b : ℕ) → s ≡ shape.And a b → (m a ≡ true) × (m b ≡ true)) → IsIndex r.axioms lists plain → n < length lists
    → IsFired r.axioms (slice_index_or lists n []) m q → IsHandledAt r n p q
handle-at r lists plain p m q n s at above parts index low f = record {
  ands = λ a b e. let both = parts a b (same s (shape.And a b) (sym at ∙ e)) in (f.above a both.0, f.above b both.1);
  rights = λ k a names e is among all. f.fired k a (index.named k n a names e is among low) e (subst (λ o. has_joined m o ≡ true) (sym is) (all-more p m above names all));
}
  where
    same : (x y : Shape) → Some x ≡ Some y → x ≡ y
    same x y h = same_Some x y h

pub plain-fired : (r : Rules) (lists : List (List ℕ)) (plain : List ℕ) (p q : ℕ → Bool) → IsIndex r.axioms lists plain → IsFired r.axioms plain p q
    → (k : ℕ) (a : AxiomNumbers) → slice_get r.axioms k ≡ Some a → a.joined ≡ Some [] → q a.right ≡ true
plain-fired r lists plain p q index f k a at is = f.fired k a (index.unnamed k a at is) at (subst (λ o. has_joined p o ≡ true) (sym is) refl)

among-split : (ks : List ℕ) (k j : ℕ) → is_among (ks ++ k ∷ []) j ≡ true → (is_among ks j ≡ true) ⊎ (is_among (k ∷ []) j ≡ true)
among-split [] k j h = inr h
among-split (x ∷ xs) k j h = elim (or_cases (x == j) (is_among (xs ++ k ∷ []) j) h) [
  | inl e ↦ inl (or_left (x == j) (is_among xs j) e)
  | inr e ↦ elim (among-split xs k j e) [
    | inl before ↦ inl (or_right (x == j) (is_among xs j) before)
    | inr here ↦ inr here
  ]
]

-- the next axiom of a list
pub fired-next : (axioms : List AxiomNumbers) (ks : List ℕ) (i : ℕ) (p q s : ℕ → Bool) → i < length ks → IsFired axioms (take i ks) p q → IsFired axioms (get_or ks i 0 ∷ []) q s
    → IsFired axioms (take (i + 1) ks) p s
fired-next axioms ks i p q s low f g = fired-more axioms (take i ks) (take (i + 1) ks) (get_or ks i 0) p q s
    (λ j m. among-split (take i ks) (get_or ks i 0) j (subst (λ l. is_among l j ≡ true) (take_more ks i 0 low) m)) f g
