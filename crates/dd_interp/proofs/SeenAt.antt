-- What an interpretation that is seen at some elements means.
use Rattle.std.proofs.Common.{◌≡◌, ◌∙◌, ℕ, ◌+◌, ◌<◌, Bool, true, false, not, ◌&&◌, ◌||◌, nat_eq, List, [], ◌∷◌, ◌++◌, length, get_or, take, ap, refl, sym, inl, inr}
use Rattle.std.specs.List.Sorted.{IsPermutation}
use Rattle.std.proofs.lemmas.Bool.{cases_eq, eq-eqb, ne_eqb, and_left, and_right, false≢true}
use Rattle.std.proofs.lemmas.List.Elements.{All-append, All-cons, All-nil}
use Rattle.std.proofs.lemmas.List.Folds.{list_any-append, list_any_more}
use Rattle.std.proofs.lemmas.List.Sorted.{list_any-IsPermutation, All-permutation}
use Rattle.dd_concept.specs.declared.concept.Concept.{Concept}
use Rattle.dd_concept.specs.declared.concept.Concept.TheVariants.{HasAll}
use Rattle.dd_concept.proofs.Induction.{induct}
use Rattle.dd_set.specs.Sets.{IsRising}
use Rattle.dd_interp.specs.declared.interp.Interp.{Interp}
use Rattle.dd_interp.specs.Meaning.{in_name, some_along, meaning}
use Rattle.dd_interp.specs.Places.{is_listed}
use Rattle.dd_interp.specs.Seen.{IsSeenAt}
use Rattle.dd_interp.specs.SeenLists.{AreNamesSeen, AreRolesSeen}
use Rattle.dd_interp.proofs.Meanings.{meaning-Top, meaning-Bottom, meaning-Name, meaning-Not, meaning-And, meaning-Or, meaning-HasSome, meaning-HasAll}
use Rattle.dd_interp.proofs.Quantifiers.{all_along-not}
use Rattle.dd_interp.proofs.RisingLists.{rising-one_place, listed-at}

or-none : (b : Bool) → (b || false) ≡ b
or-none true = refl
or-none false = refl

module _ (es : List ℕ) (up : IsRising es) where
  -- an element stands at a place where its own place is that one
  pub place-eq : (x j k : ℕ) → j < length es → get_or es j 0 ≡ x → k < length es → nat_eq j k ≡ nat_eq x (get_or es k 0)
  place-eq x j k lt e less = elim (cases_eq j k) [
    | inl q ↦ eq-eqb j k q ∙ sym (eq-eqb x (get_or es k 0) (sym e ∙ ap (λ n. get_or es n 0) q))
    | inr ne ↦ ne_eqb j k ne ∙ sym (ne_eqb x (get_or es k 0) (λ q. ne (rising-one_place es j k up lt less (e ∙ q))))
  ]

  pub unlisted-eq : (x k : ℕ) → is_listed es x ≡ false → k < length es → nat_eq x (get_or es k 0) ≡ false
  unlisted-eq x k none less = ne_eqb x (get_or es k 0) (λ q. false≢true (sym none ∙ listed-at es k x less (sym q)))

  module _ (names seen : List (ℕ × ℕ)) (n : ℕ) (d : ℕ × ℕ) (lt : n < length names) (h : AreNamesSeen es (take n names) seen) where
    pub names-push : (k : ℕ) → k < length es → get_or es k 0 ≡ (get_or names n d).1
        → AreNamesSeen es (take (n + 1) names) (seen ++ ((get_or names n d).0, k) ∷ [])
    names-push k less e = record {
      shaped = All-append (λ p. p.1 < length es) seen (((get_or names n d).0, k) ∷ []) h.shaped (All-cons (λ (p : ℕ × ℕ). p.1 < length es) ((get_or names n d).0, k) [] less (All-nil (λ (p : ℕ × ℕ). p.1 < length es)));
      same = λ a j at. list_any-append (λ p. nat_eq p.0 a && nat_eq p.1 j) seen (((get_or names n d).0, k) ∷ [])
          ∙ ap (λ v. v || ((nat_eq (get_or names n d).0 a && nat_eq k j) || false)) (h.same a j at)
          ∙ ap (λ v. in_name (take n names) a (get_or es j 0) || v) (or-none (nat_eq (get_or names n d).0 a && nat_eq k j)
          ∙ ap (λ v. nat_eq (get_or names n d).0 a && v) (place-eq (get_or names n d).1 k j less e at))
          ∙ sym (list_any_more (λ p. nat_eq p.0 a && nat_eq p.1 (get_or es j 0)) names n d lt);
    }

    pub names-skip : is_listed es (get_or names n d).1 ≡ false → AreNamesSeen es (take (n + 1) names) seen
    names-skip none = record {
      shaped = h.shaped;
      same = λ a j at. h.same a j at ∙ sym (or-none (in_name (take n names) a (get_or es j 0)))
          ∙ ap (λ v. in_name (take n names) a (get_or es j 0) || v)
          (sym (and_right (nat_eq (get_or names n d).0 a) (nat_eq (get_or names n d).1 (get_or es j 0)) (unlisted-eq (get_or names n d).1 j none at)))
          ∙ sym (list_any_more (λ p. nat_eq p.0 a && nat_eq p.1 (get_or es j 0)) names n d lt);
    }

  module _ (roles seen : List (ℕ × ℕ × ℕ)) (n : ℕ) (e : ℕ × ℕ × ℕ) (lt : n < length roles) (h : AreRolesSeen es (take n roles) seen) where
    pub roles-push : (k l : ℕ) → k < length es → get_or es k 0 ≡ (get_or roles n e).1 → l < length es → get_or es l 0 ≡ (get_or roles n e).2
        → AreRolesSeen es (take (n + 1) roles) (seen ++ ((get_or roles n e).0, k, l) ∷ [])
    roles-push k l less from below to = record {
      shaped = All-append (λ t. (t.1 < length es) × (t.2 < length es)) seen (((get_or roles n e).0, k, l) ∷ []) h.shaped
          (All-cons (λ (t : ℕ × ℕ × ℕ). (t.1 < length es) × (t.2 < length es)) ((get_or roles n e).0, k, l) [] (less, below) (All-nil (λ (t : ℕ × ℕ × ℕ). (t.1 < length es) × (t.2 < length es))));
      same = λ r j c d agree at. list_any-append (λ t. (nat_eq t.0 r && nat_eq t.1 j) && d t.2) seen (((get_or roles n e).0, k, l) ∷ [])
          ∙ ap (λ v. v || (((nat_eq (get_or roles n e).0 r && nat_eq k j) && d l) || false)) (h.same r j c d agree at)
          ∙ ap (λ v. some_along (take n roles) r c (get_or es j 0) || v) (or-none ((nat_eq (get_or roles n e).0 r && nat_eq k j) && d l)
          ∙ ap (λ v. (nat_eq (get_or roles n e).0 r && v) && d l) (place-eq (get_or roles n e).1 k j less from at)
          ∙ ap (λ v. (nat_eq (get_or roles n e).0 r && nat_eq (get_or roles n e).1 (get_or es j 0)) && v) (agree l below ∙ ap c to))
          ∙ sym (list_any_more (λ t. (nat_eq t.0 r && nat_eq t.1 (get_or es j 0)) && c t.2) roles n e lt);
    }

    pub roles-skip : is_listed es (get_or roles n e).1 ≡ false → AreRolesSeen es (take (n + 1) roles) seen
    roles-skip none = record {
      shaped = h.shaped;
      same = λ r j c d agree at. h.same r j c d agree at ∙ sym (or-none (some_along (take n roles) r c (get_or es j 0)))
          ∙ ap (λ v. some_along (take n roles) r c (get_or es j 0) || v)
          (sym (and_left (nat_eq (get_or roles n e).0 r && nat_eq (get_or roles n e).1 (get_or es j 0)) (c (get_or roles n e).2)
          (and_right (nat_eq (get_or roles n e).0 r) (nat_eq (get_or roles n e).1 (get_or es j 0)) (unlisted-eq (get_or roles n e).1 j none at))))
          ∙ sym (list_any_more (λ t. (nat_eq t.0 r && nat_eq t.1 (get_or es j 0)) && c t.2) roles n e lt);
    }

pub names-start : (es : List ℕ) → AreNamesSeen es [] []
names-start es = record { shaped = All-nil (λ (p : ℕ × ℕ). p.1 < length es); same = λ a k lt. refl }

pub roles-start : (es : List ℕ) → AreRolesSeen es [] []
roles-start es = record { shaped = All-nil (λ (t : ℕ × ℕ × ℕ). (t.1 < length es) × (t.2 < length es)); same = λ r k c d agree lt. refl }

pub names-sorted : (es : List ℕ) (names seen sorted : List (ℕ × ℕ)) → IsPermutation seen sorted → AreNamesSeen es names seen → AreNamesSeen es names sorted
names-sorted es names seen sorted p h = record {
  shaped = All-permutation (λ q. q.1 < length es) seen sorted p h.shaped;
  same = λ a k lt. sym (list_any-IsPermutation (λ q. nat_eq q.0 a && nat_eq q.1 k) seen sorted p) ∙ h.same a k lt;
}

pub roles-sorted : (es : List ℕ) (roles seen sorted : List (ℕ × ℕ × ℕ)) → IsPermutation seen sorted → AreRolesSeen es roles seen → AreRolesSeen es roles sorted
roles-sorted es roles seen sorted p h = record {
  shaped = All-permutation (λ t. (t.1 < length es) × (t.2 < length es)) seen sorted p h.shaped;
  same = λ r k c d agree lt. sym (list_any-IsPermutation (λ t. (nat_eq t.0 r && nat_eq t.1 k) && d t.2) seen sorted p) ∙ h.same r k c d agree lt;
}

module _ (i seen : Interp) (es : List ℕ) (names : AreNamesSeen es i.names seen.names) (roles : AreRolesSeen es i.roles seen.roles) where
  Same : Concept → Type 0
  Same c = (k : ℕ) → k < length es → meaning seen c k ≡ meaning i c (get_or es k 0)

  same_all : (r : ℕ) (c : Concept) → Same c → Same (HasAll r c)
  unfolding Same
  same_all r c e k lt = meaning-HasAll seen r c k ∙ all_along-not r (meaning seen c) k seen.roles
      ∙ ap not (roles.same r k (λ y. not (meaning i c y)) (λ y. not (meaning seen c y)) (λ j at. ap not (e j at)) lt)
      ∙ sym (all_along-not r (meaning i c) (get_or es k 0) i.roles) ∙ sym (meaning-HasAll i r c (get_or es k 0))

  same_each : (c : Concept) → Same c
  unfolding Same
  same_each = induct Same (record {
    top = λ k lt. meaning-Top seen k ∙ sym (meaning-Top i (get_or es k 0));
    bottom = λ k lt. meaning-Bottom seen k ∙ sym (meaning-Bottom i (get_or es k 0));
    name = λ a k lt. meaning-Name seen a k ∙ names.same a k lt ∙ sym (meaning-Name i a (get_or es k 0));
    not = λ c e k lt. meaning-Not seen c k ∙ ap not (e k lt) ∙ sym (meaning-Not i c (get_or es k 0));
    and = λ c d e f k lt. meaning-And seen c d k ∙ ap (λ v. v && meaning seen d k) (e k lt)
        ∙ ap (λ v. meaning i c (get_or es k 0) && v) (f k lt) ∙ sym (meaning-And i c d (get_or es k 0));
    or = λ c d e f k lt. meaning-Or seen c d k ∙ ap (λ v. v || meaning seen d k) (e k lt)
        ∙ ap (λ v. meaning i c (get_or es k 0) || v) (f k lt) ∙ sym (meaning-Or i c d (get_or es k 0));
    has_some = λ r c e k lt. meaning-HasSome seen r c k ∙ roles.same r k (meaning i c) (meaning seen c) e lt ∙ sym (meaning-HasSome i r c (get_or es k 0));
    has_all = same_all;
  })

  pub seen_at : seen.size ≡ length es → IsSeenAt i es seen
  unfolding Same
  seen_at size = record { size = size; same = same_each }
