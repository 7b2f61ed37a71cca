-- The line of a step, by lines for each of its cases.
use Rattle.std.proofs.Common.{◌≡◌, ◌∙◌, ◌<◌, ◌||◌, ◌==◌, sym, refl, ap, subst, ℕ, Bool, true, List, All, length, slice_get, get_or, None, Some, Option, inl, inr, arith}
use Rattle.std.specs.Option.{option_map, option_map_or}
use Rattle.std.proofs.lemmas.Bool.{false≢true, or_cases, or_left, or_right, eqb-true, eq-eqb}
use Rattle.std.proofs.lemmas.Option.{same_Some, get_or_from_slice_get, slice_get-get_or, slice_get-map, slice_get_within}
use Rattle.dd_graph.proofs.Lists.{place_at as item}
use Rattle.dd_graph.specs.View.{GraphView, rules_at}
use Rattle.dd_rules.specs.Closure.{are_distinct}
use Rattle.dd_rules.specs.Compiled.{AreProps, IsProp, propagation_of, props_of}
use Rattle.dd_rules.specs.Least.{Implies}
use Rattle.dd_rules.specs.Numbers.{PropNumbers, Rules, additions, prop_numbers}
use Rattle.dd_rules.specs.declared.shape.Step.{Step}
use Rattle.dd_rules.proofs.Growing.{place-at}
use Rattle.dd_close.specs.Drafts.{CitesEach, IsByChoice, has_premise, is_number, is_step, premise}
use Rattle.dd_close.specs.Parts.{ArePartsOf}

-- an item of a list whose items all have a property
pub All-at : {A : Type 0} (P : A → Type 0) (xs : List A) (k : ℕ) (x : A) → All P xs → slice_get xs k ≡ Some x → P x
All-at P xs k x all e = subst P (get_or_from_slice_get xs k x x e) (all k x (slice_get_within xs k x e))

-- the number of a propagation's onto target
pub onto-number : (v : GraphView) → are_distinct v.closure.concepts ≡ true → AreProps v.closure v.props → (k : ℕ)
    → option_map (λ (t : PropNumbers). t.onto) (slice_get (rules_at v).props k) ≡ option_map (λ (p : ℕ × ℕ × List ℕ). p.0) (slice_get v.props.list k)
onto-number v distinct fit k =
    let concepts = v.closure.concepts in
    ap (option_map (λ (t : PropNumbers). t.onto)) (slice_get-map (prop_numbers concepts) (props_of concepts v.props) k
    ∙ ap (option_map (prop_numbers concepts)) (slice_get-map (propagation_of concepts) v.props.list k))
    ∙ by (slice_get v.props.list k) refl
  where
    by : (o : Option (ℕ × ℕ × List ℕ)) → o ≡ slice_get v.props.list k
        → option_map (λ (t : PropNumbers). t.onto) (option_map (prop_numbers v.closure.concepts) (option_map (propagation_of v.closure.concepts) o)) ≡ option_map (λ (p : ℕ × ℕ × List ℕ). p.0) o
    by None e = refl
    by (Some p) e = ap Some (place-at v.closure.concepts p.0 distinct (All-at (IsProp v.closure.concepts) v.props.list k p fit (sym e)).onto)

-- all cited lines are there
pub cites-there : (r : Rules) (labels : List (List ℕ)) (p : ℕ → Bool) (s : Step) (cites : List ℕ) → length cites ≡ length (additions r s)
    → CitesEach r labels (length labels) p s cites → All (λ m. m < length labels) cites
cites-there r labels p s cites many h k d lt =
    let added = item (additions r s) k (omega (arith, lt, many)) in
    (h.each k added.0 (get_or cites k d) added.1 (slice_get-get_or cites k d lt)).earlier

-- ---- a label with what is needed

posed-by : (o : Option ℕ) (p : ℕ → Bool) → ((n : ℕ) → o ≡ Some n → p n ≡ true) → option_map_or p o true ≡ true
posed-by None p h = refl
posed-by (Some n) p h = h n refl

pub posed-at : (o : Option ℕ) (p : ℕ → Bool) → option_map_or p o true ≡ true → (n : ℕ) → o ≡ Some n → p n ≡ true
posed-at None p h n e = cc
posed-at (Some m) p h n e = subst (λ k. p k ≡ true) (same_Some m n e) h

number-is : (o : Option ℕ) (k : ℕ) → is_number o k ≡ true → o ≡ Some k
number-is None k h = absurd (false≢true h)
number-is (Some n) k h = ap Some (sym (eqb-true k n h))

is-number : (o : Option ℕ) (n : ℕ) → o ≡ Some n → is_number o n ≡ true
is-number None n e = cc
is-number (Some m) n e = eq-eqb n m (sym (same_Some m n e))

module _ (r : Rules) (labels : List (List ℕ)) (set parts new : ℕ → Bool) (s : Step) (cites : List ℕ) (posed : has_premise r set s ≡ true)
    (taken : ArePartsOf labels cites set parts) (with_it : (k : ℕ) → new k ≡ (is_number (premise r s) k || parts k)) where
  pub choice-within : Implies new set
  choice-within k e = elim (or_cases (is_number (premise r s) k) (parts k) (sym (with_it k) ∙ e)) [
    | inl t ↦ posed-at (premise r s) set posed k (number-is (premise r s) k t)
    | inr t ↦ taken.within k t
  ]

  pub choice-reason : is_step r s ≡ true → length cites ≡ length (additions r s) → CitesEach r labels (length labels) set s cites
      → IsByChoice r labels (length labels) new s cites
  choice-reason step many h = record {
    step = step;
    posed = posed-by (premise r s) new (λ n e. with_it n ∙ or_left (is_number (premise r s) n) (parts n) (is-number (premise r s) n e));
    as_many = many;
    cited = record {
      each = λ i c m e f.
          let cited = h.each i c m e f in record {
            label = cited.label;
            earlier = cited.earlier;
            there = cited.there;
            within = λ k t. elim (or_cases (k == c) (set k) (cited.within k t)) [
              | inl is ↦ or_left (k == c) (new k) is
              | inr inside ↦ or_right (k == c) (new k) (with_it k ∙ or_right (is_number (premise r s) k) (parts k) (taken.each i m cited.label f cited.there k t inside))
            ];
          };
    };
  }
