-- There is no fault exactly where the world is a countermodel, and the fault that is told is the first.
use Rattle.std.proofs.Common.{◌≡◌, ◌∙◌, ℕ, ◌+◌, ◌<◌, Bool, true, false, cond, get_or, List, Option, None, Some, Result, Err, IsOk, ◌↔◌, ap, refl, subst, sym, inl, inr, arith}
use Rattle.std.specs.Bool.{Decides}
use Rattle.std.proofs.lemmas.Bool.{not-false, false_from_ne_true, not-true, cases_order, true_from_ne_false}
use Rattle.std.specs.Option.{option_map, option_or}
use Rattle.std.specs.List.{All, slice_get}
use Rattle.std.proofs.lemmas.Bool.Decides.{not_from_Decides}
use Rattle.std.proofs.lemmas.Option.{cond_some, same_Some, get_or_from_slice_get, slice_get_within}
use Rattle.dd_concept.specs.declared.concept.Axiom.{Axiom}
use Rattle.dd_interp.specs.declared.interp.Interp.{Interp}
use Rattle.dd_concept.proofs.Firsts.{first_none, map_none, cond_none}
use Rattle.dd_peer.specs.declared.version.Pinned.{Pinned}
use Rattle.dd_peer.specs.declared.version.PeerVersion.{PeerVersion}
use Rattle.dd_peer.specs.declared.version.Query.{Query}
use Rattle.dd_peer.specs.declared.version.Rule.{Rule}
use Rattle.dd_world.specs.declared.world.World.{World}
use Rattle.dd_world.specs.declared.world.WorldFault.{WorldFault}
use Rattle.dd_world.specs.declared.world.WorldFault.TheVariants as fault
use Rattle.dd_world.specs.Elements.{size_at, holds_at}
use Rattle.dd_world.specs.World.{IsWorld, SatisfiesAt, SatisfiesInto, SatisfiesOnto, SatisfiesWorld, IsCounterexample, IsCounter}
use Rattle.dd_world.specs.Tests.{is_world, passes, is_under, satisfies_axiom, satisfies_into, satisfies_onto}
use Rattle.dd_world.specs.Faults.{first_failing, fault_of, judged_by, EachHolds, IsFirstFailing, IsFirstFault}
use Rattle.dd_world.proofs.Tables.{not_passing, cond_else_none, first_at_some, first_after_none, first_some, map_some, cond_else_some}
use Rattle.dd_world.proofs.Below.{failing_below}
use Rattle.dd_world.proofs.Decided.{decides_world, decides_under, decides_axiom, decides_into, decides_onto, size_is, holds_is, local_of}
use Rattle.dd_world.proofs.Firsts.{IsFirst, first_failing_none, none_failing, first_failing_some}

at_item : {A : Type 0} (P : A → Type 0) (xs : List A) (k : ℕ) (a : A) → All P xs → slice_get xs k ≡ Some a → P a
at_item P xs k a h s = subst P (get_or_from_slice_get xs k a a s) (h k a (slice_get_within xs k a s))

module _ (p : Pinned) where
  module _ (A : Type 0) (list : PeerVersion → List A) (test : ℕ → A → Bool) (Claim : ℕ → A → Type 0)
      (decides : (j : ℕ) (a : A) → Decides (test j a) (Claim j a)) where
    each_holds : first_failing list test 0 p.peers ≡ None → EachHolds A list Claim p
    each_holds e j v s k d lt =
        let zero : 0 + j ≡ j = omega arith in
        (decides j (get_or (list v) k d)).0 (subst (λ n. test n (get_or (list v) k d) ≡ true) zero (first_failing_none A list test 0 p.peers e j v s k d lt))

    none_fails : EachHolds A list Claim p → first_failing list test 0 p.peers ≡ None
    none_fails h = none_failing A list test 0 p.peers (λ j v s k d lt.
        let zero : j ≡ 0 + j = omega arith in
        subst (λ n. test n (get_or (list v) k d) ≡ true) zero ((decides j (get_or (list v) k d)).1 (h j v s k d lt)))

    first_fails : (at : ℕ × ℕ) → first_failing list test 0 p.peers ≡ Some at → IsFirstFailing A list Claim p at.0 at.1
    first_fails at e =
        let first : IsFirst A list test 0 p.peers at.0 at.1 = first_failing_some A list test 0 p.peers at.0 at.1 e in
        let place : first.place ≡ at.0 = omega (arith, first.at) in
        record {
          version = first.version;
          item = first.found.item;
          is_version = subst (λ n. slice_get p.peers n ≡ Some first.version) place first.is_version;
          is_item = first.found.is_item;
          fails = not_from_Decides (test at.0 first.found.item) (decides at.0 first.found.item) (not-true (test at.0 first.found.item) first.found.passes);
          peers_before = λ i v lt s k d less.
              let zero : 0 + i ≡ i = omega arith in
              (decides i (get_or (list v) k d)).0
              (subst (λ n. test n (get_or (list v) k d) ≡ true) zero (first.before i v (omega (arith, place, lt)) s k d less));
          items_before = λ i other lt s. (decides at.0 other).0 (not-false (test at.0 other) (first.found.before i other lt s));
        }

    no_earlier_peer : (j k m n : ℕ) → IsFirstFailing A list Claim p j k → IsFirstFailing A list Claim p m n → ¬ (j < m)
    no_earlier_peer j k m n h g lt = h.fails (at_item (Claim j) (list h.version) k h.item (g.peers_before j h.version lt h.is_version) h.is_item)

    no_earlier_item : (j k n : ℕ) → IsFirstFailing A list Claim p j k → IsFirstFailing A list Claim p j n → ¬ (k < n)
    no_earlier_item j k n h g lt =
        let same : h.version ≡ g.version = same_Some h.version g.version (sym h.is_version ∙ g.is_version) in
        h.fails (g.items_before k h.item lt (subst (λ v. slice_get (list v) k ≡ Some h.item) same h.is_item))

    same_item : (j k n : ℕ) → IsFirstFailing A list Claim p j k → IsFirstFailing A list Claim p j n → k ≡ n
    same_item j k n h g = elim (cases_order k n) [
      | inl e ↦ e
      | inr o ↦ elim o [ inl lt ↦ absurd (no_earlier_item j k n h g lt) | inr lt ↦ absurd (no_earlier_item j n k g h lt) ]
    ]

    same_place : (j k m n : ℕ) → IsFirstFailing A list Claim p j k → IsFirstFailing A list Claim p m n → (j ≡ m) × (k ≡ n)
    same_place j k m n h g = elim (cases_order j m) [
      | inl e ↦ (e, same_item m k n (subst (λ i. IsFirstFailing A list Claim p i k) e h) g)
      | inr o ↦ elim o [
        | inl lt ↦ absurd (no_earlier_peer j k m n h g lt)
        | inr lt ↦ absurd (no_earlier_peer m n j k g h lt)
      ]
    ]

    found_where : (j k : ℕ) (o : Option (ℕ × ℕ)) → first_failing list test 0 p.peers ≡ o → IsFirstFailing A list Claim p j k → o ≡ Some (j, k)
    found_where j k None e h = absurd (h.fails (at_item (Claim j) (list h.version) k h.item (each_holds e j h.version h.is_version) h.is_item))
    found_where j k (Some at) e h = let same = same_place j k at.0 at.1 h (first_fails at e) in
        ap (λ i. Some (i, at.1)) (sym same.0) ∙ ap (λ i. Some (j, i)) (sym same.1)

    -- where an item is the first that fails, it is the one that is found
    finds : (j k : ℕ) → IsFirstFailing A list Claim p j k → first_failing list test 0 p.peers ≡ Some (j, k)
    finds j k h = found_where j k (first_failing list test 0 p.peers) refl h

-- an element that counters the query
Countering : Query → World → Type 0
Countering q w = (x : ℕ) × IsCounterexample w q x

countering : (q : Query) (w : World) → is_under w q.peer q.left q.right ≡ false → Countering q w
unfolding Countering
countering q w e =
    let fails = failing_below (passes w q.peer q.left q.right) (size_at w q.peer) e in
    let x : ℕ = fails.0 in
    let sides = not_passing (holds_at w q.peer x q.left) (holds_at w q.peer x q.right) fails.2 in
    (x, record { within = fails.1; has_left = sides.0; lacks_right = λ h. cc (sides.1, h) })

under_not : (q : Query) (w : World) → Countering q w → is_under w q.peer q.left q.right ≡ false
unfolding Countering
under_not q w c = false_from_ne_true (is_under w q.peer q.left q.right)
    (λ e. c.1.lacks_right ((decides_under w q.peer q.left q.right).0 e c.0 c.1.within c.1.has_left))

module _ (p : Pinned) (w : World) where
  axioms_hold : first_failing (λ v. v.axioms) (satisfies_axiom w) 0 p.peers ≡ None → EachHolds Axiom (λ v. v.axioms) (SatisfiesAt w) p
  axioms_hold = each_holds p Axiom (λ v. v.axioms) (satisfies_axiom w) (SatisfiesAt w) (decides_axiom w)

  into_hold : first_failing (λ v. v.into) (satisfies_into w) 0 p.peers ≡ None → EachHolds Rule (λ v. v.into) (SatisfiesInto w) p
  into_hold = each_holds p Rule (λ v. v.into) (satisfies_into w) (SatisfiesInto w) (decides_into w)

  onto_hold : first_failing (λ v. v.onto) (satisfies_onto w) 0 p.peers ≡ None → EachHolds Rule (λ v. v.onto) (SatisfiesOnto w) p
  onto_hold = each_holds p Rule (λ v. v.onto) (satisfies_onto w) (SatisfiesOnto w) (decides_onto w)

axiom_fault : ℕ × ℕ → WorldFault
axiom_fault at = fault.Axiom at.0 at.1

into_fault : ℕ × ℕ → WorldFault
into_fault at = fault.Into at.0 at.1

onto_fault : ℕ × ℕ → WorldFault
onto_fault at = fault.Onto at.0 at.1

same_Err : (g f : WorldFault) → judged_by (Some g) ≡ Err f → g ≡ f
same_Err g f e = cc

module _ (p : Pinned) (q : Query) (w : World) where
  shape_part : Option WorldFault
  shape_part = cond (is_world p w) None (Some fault.Shape)

  axiom_part : Option WorldFault
  axiom_part = option_map axiom_fault (first_failing (λ v. v.axioms) (satisfies_axiom w) 0 p.peers)

  into_part : Option WorldFault
  into_part = option_map into_fault (first_failing (λ v. v.into) (satisfies_into w) 0 p.peers)

  onto_part : Option WorldFault
  onto_part = option_map onto_fault (first_failing (λ v. v.onto) (satisfies_onto w) 0 p.peers)

  query_part : Option WorldFault
  query_part = cond (is_under w q.peer q.left q.right) (Some fault.NotCounter) None

  parts_of : fault_of p q w ≡ option_or shape_part (option_or axiom_part (option_or into_part (option_or onto_part query_part)))
  unfolding shape_part axiom_part into_part onto_part query_part axiom_fault into_fault onto_fault
  parts_of = refl

  world_holds : shape_part ≡ None → IsWorld p w
  unfolding shape_part
  world_holds e = (decides_world p w).0 (cond_else_none (is_world p w) fault.Shape e)

  satisfied : axiom_part ≡ None → into_part ≡ None → onto_part ≡ None → SatisfiesWorld p w
  unfolding axiom_part into_part onto_part
  satisfied a i o j v s = record {
    axioms = axioms_hold p w (map_none axiom_fault _ a) j v s;
    into = into_hold p w (map_none into_fault _ i) j v s;
    onto = onto_hold p w (map_none onto_fault _ o) j v s;
  }

  counter_at_none : fault_of p q w ≡ None → IsCounter p q w
  unfolding query_part Countering
  counter_at_none e =
      let shape = first_none shape_part (option_or axiom_part (option_or into_part (option_or onto_part query_part))) (sym parts_of ∙ e) in
      let axioms = first_none axiom_part (option_or into_part (option_or onto_part query_part)) shape.1 in
      let into = first_none into_part (option_or onto_part query_part) axioms.1 in
      let onto = first_none onto_part query_part into.1 in
      record {
        world = world_holds shape.0;
        satisfies = satisfied axioms.0 into.0 onto.0;
        element = countering q w (cond_none (is_under w q.peer q.left q.right) fault.NotCounter None onto.1).0;
      }

  shape_none : IsWorld p w → shape_part ≡ None
  unfolding shape_part
  shape_none h = ap (λ b. cond b None (Some fault.Shape)) ((decides_world p w).1 h)

  axiom_none : EachHolds Axiom (λ v. v.axioms) (SatisfiesAt w) p → axiom_part ≡ None
  unfolding axiom_part
  axiom_none h = ap (option_map axiom_fault) (none_fails p Axiom (λ v. v.axioms) (satisfies_axiom w) (SatisfiesAt w) (decides_axiom w) h)

  into_none : EachHolds Rule (λ v. v.into) (SatisfiesInto w) p → into_part ≡ None
  unfolding into_part
  into_none h = ap (option_map into_fault) (none_fails p Rule (λ v. v.into) (satisfies_into w) (SatisfiesInto w) (decides_into w) h)

  onto_none : EachHolds Rule (λ v. v.onto) (SatisfiesOnto w) p → onto_part ≡ None
  unfolding onto_part
  onto_none h = ap (option_map onto_fault) (none_fails p Rule (λ v. v.onto) (satisfies_onto w) (SatisfiesOnto w) (decides_onto w) h)

  -- what is left to be asked of a world that satisfies its peers' versions
  left_at : IsWorld p w → SatisfiesWorld p w → fault_of p q w ≡ query_part
  left_at world h = parts_of ∙ first_after_none shape_part _ _ (shape_none world)
      (first_after_none axiom_part _ _ (axiom_none (λ j v s. (h j v s).axioms))
      (first_after_none into_part _ _ (into_none (λ j v s. (h j v s).into))
      (first_after_none onto_part _ _ (onto_none (λ j v s. (h j v s).onto)) refl)))

  none_at_counter : IsCounter p q w → fault_of p q w ≡ None
  unfolding query_part Countering
  none_at_counter c = left_at c.world c.satisfies
      ∙ ap (λ b. cond b (Some fault.NotCounter) None) (under_not q w c.element)

  -- the first fault is the one that is told
  told_where : (f : WorldFault) → IsFirstFault p q w f → fault_of p q w ≡ Some f
  unfolding shape_part axiom_part into_part onto_part query_part axiom_fault into_fault onto_fault Countering
  told_where fault.Shape h = parts_of ∙ first_at_some shape_part _ fault.Shape
      (ap (λ b. cond b None (Some fault.Shape)) (false_from_ne_true (is_world p w) (λ e. h ((decides_world p w).0 e))))
  told_where (fault.Axiom j k) h = parts_of ∙ first_after_none shape_part _ _ (shape_none h.0)
      (first_at_some axiom_part _ (fault.Axiom j k)
      (ap (option_map axiom_fault) (finds p Axiom (λ v. v.axioms) (satisfies_axiom w) (SatisfiesAt w) (decides_axiom w) j k h.1)))
  told_where (fault.Into j k) h = parts_of ∙ first_after_none shape_part _ _ (shape_none h.0)
      (first_after_none axiom_part _ _ (axiom_none h.1)
      (first_at_some into_part _ (fault.Into j k)
      (ap (option_map into_fault) (finds p Rule (λ v. v.into) (satisfies_into w) (SatisfiesInto w) (decides_into w) j k h.2))))
  told_where (fault.Onto j k) h = parts_of ∙ first_after_none shape_part _ _ (shape_none h.0)
      (first_after_none axiom_part _ _ (axiom_none h.1)
      (first_after_none into_part _ _ (into_none h.2)
      (first_at_some onto_part _ (fault.Onto j k)
      (ap (option_map onto_fault) (finds p Rule (λ v. v.onto) (satisfies_onto w) (SatisfiesOnto w) (decides_onto w) j k h.3)))))
  told_where fault.NotCounter h = left_at h.0 h.1
      ∙ ap (λ b. cond b (Some fault.NotCounter) None) (true_from_ne_false (is_under w q.peer q.left q.right) (λ e. h.2 (countering q w e)))

  fault_at_shape : (f : WorldFault) → shape_part ≡ Some f → IsFirstFault p q w f
  unfolding shape_part
  fault_at_shape f e = let h = cond_else_some (is_world p w) fault.Shape f e in
      subst (IsFirstFault p q w) h.1 (not_from_Decides (is_world p w) (decides_world p w) h.0)

  fault_at_axiom : (f : WorldFault) → IsWorld p w → axiom_part ≡ Some f → IsFirstFault p q w f
  unfolding axiom_part axiom_fault
  fault_at_axiom f world e = let h = map_some axiom_fault (first_failing (λ v. v.axioms) (satisfies_axiom w) 0 p.peers) f e in
      subst (IsFirstFault p q w) h.2
      (world, first_fails p Axiom (λ v. v.axioms) (satisfies_axiom w) (SatisfiesAt w) (decides_axiom w) h.0 h.1)

  fault_at_into : (f : WorldFault) → IsWorld p w → axiom_part ≡ None → into_part ≡ Some f → IsFirstFault p q w f
  unfolding axiom_part into_part into_fault
  fault_at_into f world a e = let h = map_some into_fault (first_failing (λ v. v.into) (satisfies_into w) 0 p.peers) f e in
      subst (IsFirstFault p q w) h.2 (
        world,
        axioms_hold p w (map_none axiom_fault _ a),
        first_fails p Rule (λ v. v.into) (satisfies_into w) (SatisfiesInto w) (decides_into w) h.0 h.1,
      )

  fault_at_onto : (f : WorldFault) → IsWorld p w → axiom_part ≡ None → into_part ≡ None → onto_part ≡ Some f → IsFirstFault p q w f
  unfolding axiom_part into_part onto_part onto_fault
  fault_at_onto f world a i e = let h = map_some onto_fault (first_failing (λ v. v.onto) (satisfies_onto w) 0 p.peers) f e in
      subst (IsFirstFault p q w) h.2 (
        world,
        axioms_hold p w (map_none axiom_fault _ a),
        into_hold p w (map_none into_fault _ i),
        first_fails p Rule (λ v. v.onto) (satisfies_onto w) (SatisfiesOnto w) (decides_onto w) h.0 h.1,
      )

  fault_at_query : (f : WorldFault) → IsWorld p w → SatisfiesWorld p w → query_part ≡ Some f → IsFirstFault p q w f
  unfolding query_part Countering
  fault_at_query f world satisfies e =
      let h = cond_some (is_under w q.peer q.left q.right) fault.NotCounter f e in
      subst (IsFirstFault p q w) h.1 (world, satisfies, λ c. cc (h.0, under_not q w c))

  first_fault : (f : WorldFault) → fault_of p q w ≡ Some f → IsFirstFault p q w f
  first_fault f e = elim (first_some shape_part _ f (sym parts_of ∙ e)) [
    | inl s ↦ fault_at_shape f s
    | inr s ↦ elim (first_some axiom_part _ f s.1) [
      | inl a ↦ fault_at_axiom f (world_holds s.0) a
      | inr a ↦ elim (first_some into_part _ f a.1) [
        | inl i ↦ fault_at_into f (world_holds s.0) a.0 i
        | inr i ↦ elim (first_some onto_part _ f i.1) [
          | inl o ↦ fault_at_onto f (world_holds s.0) a.0 i.0 o
          | inr o ↦ fault_at_query f (world_holds s.0) (satisfied a.0 i.0 o.0) o.1
        ]
      ]
    ]
  ]

  ok_where : (o : Option WorldFault) → fault_of p q w ≡ o → IsOk (judged_by o) ↔ IsCounter p q w
  ok_where None e = (λ h. counter_at_none e, λ c. refl)
  ok_where (Some f) e = (λ h. cc, λ c. cc (e, none_at_counter c))

  err_where : (f : WorldFault) (o : Option WorldFault) → fault_of p q w ≡ o → judged_by o ≡ Err f ↔ IsFirstFault p q w f
  err_where f None e = (λ h. cc, λ h. cc (e, told_where f h))
  err_where f (Some g) e = (λ h. first_fault f (e ∙ ap Some (same_Err g f h)), λ h. ap judged_by (sym e ∙ told_where f h))

  -- what follows from a judgement that names the first fault
  pub judged_ok : (r : Result (Unit {0}) WorldFault) → r ≡ judged_by (fault_of p q w) → IsOk r ↔ IsCounter p q w
  judged_ok r e = subst (λ s. IsOk s ↔ IsCounter p q w) (sym e) (ok_where (fault_of p q w) refl)

  pub judged_err : (r : Result (Unit {0}) WorldFault) → r ≡ judged_by (fault_of p q w)
      → (f : WorldFault) → r ≡ Err f ↔ IsFirstFault p q w f
  judged_err r e f = subst (λ s. s ≡ Err f ↔ IsFirstFault p q w f) (sym e) (err_where f (fault_of p q w) refl)
