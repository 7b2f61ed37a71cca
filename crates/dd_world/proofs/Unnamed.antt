-- Elements that no list names have the same concepts, and so has the number of the elements, which is none of them.
use Rattle.std.proofs.Common.{◌≡◌, ◌∙◌, ℕ, ◌<◌, Bool, true, false, not, ◌&&◌, ◌||◌, nat_eq, List, [], ◌∷◌, ap, refl, subst, sym, inl, inr, arith}
use Rattle.std.specs.List.{All, list_any, list_all}
use Rattle.std.proofs.lemmas.Bool.{ne_eqb, eqb-true, and_right, and_left, or_from, and_from, and_parts, or_parts, or_cases, cases_Bool, both_ways, false_from_ne_true}
use Rattle.std.proofs.lemmas.List.Elements.{All-head, All-tail}
use Rattle.dd_concept.specs.declared.concept.Concept.{Concept}
use Rattle.dd_concept.proofs.Induction.{induct}
use Rattle.dd_interp.specs.declared.interp.Interp.{Interp}
use Rattle.dd_interp.specs.Meaning.{in_name, some_along, meaning}
use Rattle.dd_interp.proofs.Meanings.{meaning-Top, meaning-Bottom, meaning-Name, meaning-Not, meaning-And, meaning-Or, meaning-HasSome, meaning-HasAll}
use Rattle.dd_interp.proofs.Quantifiers.{all_along-not}
use Rattle.dd_world.specs.Tests.{all_below}
use Rattle.dd_world.proofs.Below.{failing_below, below_passes}

-- does an item of the list stand at x
abbrev pub named : {X : Type 0} → (X → ℕ) → List X → ℕ → Bool
named at xs x = list_any (λ a. nat_eq (at a) x) xs

module _ (X : Type 0) (at : X → ℕ) where
  named-head : (x : ℕ) (a : X) (xs : List X) → named at (a ∷ xs) x ≡ false → (nat_eq (at a) x ≡ false) × (named at xs x ≡ false)
  named-head x a xs e = or_parts (nat_eq (at a) x) (named at xs x) e

  -- no item stands at the bound of all
  pub named-bound : (n : ℕ) (xs : List X) → All (λ a. at a < n) xs → named at xs n ≡ false
  named-bound n [] h = refl
  named-bound n (a ∷ xs) h =
      let lt : at a < n = All-head (λ b. at b < n) a xs h in
      or_from (nat_eq (at a) n) (named at xs n) (ne_eqb (at a) n (λ q. absurd (omega (arith, q, lt)))) (named-bound n xs (All-tail (λ b. at b < n) a xs h))

  -- a test that all items pass is passed where one stands
  named_passes : (p : ℕ → Bool) (x : ℕ) (xs : List X) → list_all (λ a. p (at a)) xs ≡ true → named at xs x ≡ true → p x ≡ true
  named_passes p x [] e f = cc
  named_passes p x (a ∷ xs) e f =
      let h = and_parts (p (at a)) (list_all (λ b. p (at b)) xs) e in
      elim (or_cases (nat_eq (at a) x) (named at xs x) f) [
        | inl q ↦ subst (λ y. p y ≡ true) (eqb-true (at a) x q) h.0
        | inr q ↦ named_passes p x xs h.1 q
      ]

  each_passes : (p : ℕ → Bool) (n : ℕ) (xs : List X) → All (λ a. at a < n) xs → all_below n p ≡ true → list_all (λ a. p (at a)) xs ≡ true
  each_passes p n [] h e = refl
  each_passes p n (a ∷ xs) h e = and_from (p (at a)) (list_all (λ b. p (at b)) xs)
      (below_passes p n e (at a) (All-head (λ b. at b < n) a xs h)) (each_passes p n xs (All-tail (λ b. at b < n) a xs h) e)

-- Elements are named by the names and by the starts of the roles. A test that is the same at all others as at the bound, and
-- passes there, passes below the bound exactly where it passes at the named ones.
module _ (p : ℕ → Bool) (n : ℕ) (names : List (ℕ × ℕ)) (roles : List (ℕ × ℕ × ℕ)) where
  all_from_named : list_all (λ a. p a.1) names ≡ true → list_all (λ t. p t.1) roles ≡ true
      → ((x : ℕ) → named (λ (a : ℕ × ℕ). a.1) names x ≡ false → named (λ (t : ℕ × ℕ × ℕ). t.1) roles x ≡ false → p x ≡ true)
      → (x : ℕ) → p x ≡ true
  all_from_named e f others x = elim (cases_Bool (named (λ (a : ℕ × ℕ). a.1) names x)) [
    | inl h ↦ named_passes (ℕ × ℕ) (λ a. a.1) p x names e h
    | inr h ↦ elim (cases_Bool (named (λ (t : ℕ × ℕ × ℕ). t.1) roles x)) [
      | inl k ↦ named_passes (ℕ × ℕ × ℕ) (λ t. t.1) p x roles f k
      | inr k ↦ others x h k
    ]
  ]

  pub named_are_all : All (λ a. a.1 < n) names → All (λ t. t.1 < n) roles
      → ((x : ℕ) → named (λ (a : ℕ × ℕ). a.1) names x ≡ false → named (λ (t : ℕ × ℕ × ℕ). t.1) roles x ≡ false → p x ≡ true)
      → (list_all (λ a. p a.1) names && list_all (λ t. p t.1) roles) ≡ all_below n p
  named_are_all h k others = elim (cases_Bool (all_below n p)) [
    | inl e ↦ and_from (list_all (λ a. p a.1) names) (list_all (λ t. p t.1) roles)
        (each_passes (ℕ × ℕ) (λ a. a.1) p n names h e) (each_passes (ℕ × ℕ × ℕ) (λ t. t.1) p n roles k e) ∙ sym e
    | inr e ↦
        let fails = failing_below p n e in
        false_from_ne_true (list_all (λ a. p a.1) names && list_all (λ t. p t.1) roles)
        (λ q. let sides = and_parts (list_all (λ a. p a.1) names) (list_all (λ t. p t.1) roles) q in
        both_ways (p fails.0) fails.2 (all_from_named sides.0 sides.1 others fails.0)) ∙ sym e
  ]

-- an element that the lists do not name
pub record IsUnnamed (names : List (ℕ × ℕ)) (roles : List (ℕ × ℕ × ℕ)) (x : ℕ) : Type 0 where
  pub in_none : named (λ (a : ℕ × ℕ). a.1) names x ≡ false
  pub at_none : named (λ (t : ℕ × ℕ × ℕ). t.1) roles x ≡ false

in_no_name : (a x : ℕ) (names : List (ℕ × ℕ)) → named (λ (p : ℕ × ℕ). p.1) names x ≡ false → in_name names a x ≡ false
in_no_name a x [] e = refl
in_no_name a x (p ∷ ps) e = let h = or_parts (nat_eq p.1 x) (named (λ (b : ℕ × ℕ). b.1) ps x) e in
    or_from (nat_eq p.0 a && nat_eq p.1 x) (in_name ps a x) (and_right (nat_eq p.0 a) (nat_eq p.1 x) h.0) (in_no_name a x ps h.1)

no_successor : (r x : ℕ) (c : ℕ → Bool) (roles : List (ℕ × ℕ × ℕ)) → named (λ (t : ℕ × ℕ × ℕ). t.1) roles x ≡ false → some_along roles r c x ≡ false
no_successor r x c [] e = refl
no_successor r x c (t ∷ ts) e = let h = or_parts (nat_eq t.1 x) (named (λ (s : ℕ × ℕ × ℕ). s.1) ts x) e in
    or_from ((nat_eq t.0 r && nat_eq t.1 x) && c t.2) (some_along ts r c x)
    (and_left (nat_eq t.0 r && nat_eq t.1 x) (c t.2) (and_right (nat_eq t.0 r) (nat_eq t.1 x) h.0)) (no_successor r x c ts h.1)

module _ (i : Interp) (x y : ℕ) (h : IsUnnamed i.names i.roles x) (k : IsUnnamed i.names i.roles y) where
  Same : Concept → Type 0
  Same c = meaning i c x ≡ meaning i c y

  same_some : (r : ℕ) (c : ℕ → Bool) → some_along i.roles r c x ≡ some_along i.roles r c y
  same_some r c = no_successor r x c i.roles h.at_none ∙ sym (no_successor r y c i.roles k.at_none)

  same_meaning : (c : Concept) → Same c
  unfolding Same
  same_meaning = induct Same (record {
    top = meaning-Top i x ∙ sym (meaning-Top i y);
    bottom = meaning-Bottom i x ∙ sym (meaning-Bottom i y);
    name = λ a. meaning-Name i a x ∙ in_no_name a x i.names h.in_none ∙ sym (in_no_name a y i.names k.in_none) ∙ sym (meaning-Name i a y);
    not = λ c e. meaning-Not i c x ∙ ap not e ∙ sym (meaning-Not i c y);
    and = λ c d e f. meaning-And i c d x ∙ ap (λ v. v && meaning i d x) e ∙ ap (λ v. meaning i c y && v) f ∙ sym (meaning-And i c d y);
    or = λ c d e f. meaning-Or i c d x ∙ ap (λ v. v || meaning i d x) e ∙ ap (λ v. meaning i c y || v) f ∙ sym (meaning-Or i c d y);
    has_some = λ r c e. meaning-HasSome i r c x ∙ same_some r (meaning i c) ∙ sym (meaning-HasSome i r c y);
    has_all = λ r c e. meaning-HasAll i r c x ∙ all_along-not r (meaning i c) x i.roles
        ∙ ap not (same_some r (λ z. not (meaning i c z)))
        ∙ sym (all_along-not r (meaning i c) y i.roles) ∙ sym (meaning-HasAll i r c y);
  })

  pub meaning-unnamed : (c : Concept) → meaning i c x ≡ meaning i c y
  unfolding Same
  meaning-unnamed c = same_meaning c
