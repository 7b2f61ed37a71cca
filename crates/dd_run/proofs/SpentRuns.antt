-- A run that used up its expansions is right.
use Rattle.std.proofs.Common.{◌≡◌, ◌≢◌, ◌∙◌, ◌+◌, ◌⊎◌, ℕ, zero, suc, Bool, true, List, [], ◌∷◌, ◌++◌, length, ap, ap₂, refl, sym, subst, arith, slice_get, Some, inl, inr}
use Rattle.std.proofs.lemmas.List.{length-map, map-append}
use Rattle.std.proofs.lemmas.Option.{same_Some}
use Rattle.dd_concept.specs.declared.concept.Concept.{Concept}
use Rattle.dd_concept.specs.Reached.{IsReached}
use Rattle.dd_concept.specs.Same.{has, SameSet}
use Rattle.dd_concept.proofs.Sets.{same_tests}
use Rattle.dd_set.specs.Words as words
use Rattle.dd_set.specs.Words.{Label, IsPacked}
use Rattle.dd_set.proofs.Comparing.{same-from_numbers}
use Rattle.dd_rules.specs.Closure.{are_distinct}
use Rattle.dd_rules.specs.Numbers.{concepts_at}
use Rattle.dd_rules.proofs.Numbered.{at-place, place-get, has-get}
use Rattle.dd_table.specs.Labels.{IsWithoutRepeats}
use Rattle.dd_graph.specs.View.{GraphView, IsGraph, IsReachedFrom, concepts_in}
use Rattle.dd_graph.proofs.Lists.{place_at}
use Rattle.dd_open.proofs.Items.{get-map}
use Rattle.dd_task.specs.declared.job.Goal.{Goal}
use Rattle.dd_task.specs.declared.job.Job.{Job}
use Rattle.dd_task.specs.declared.line.Prop.{Prop}
use Rattle.dd_task.specs.declared.verdict.SpentRun.{SpentRun}
use Rattle.dd_task.specs.Rules.{axioms_of}
use Rattle.dd_task.specs.Spent.{label_of}
use Rattle.dd_task.specs.Targets.{propagations_of}
use Rattle.dd_task.specs.Verdicts.{IsRightSpent, all_labels}
use Rattle.dd_task.proofs.Places.{at-append_cases}
use Rattle.dd_run.specs.Numbers.{IsRunFor, with_width}
use Rattle.dd_run.proofs.Goals.{reached-run}

-- ---- labels by numbers

module _ (concepts : List Concept) (distinct : are_distinct concepts ≡ true) where
  has-number : (n : ℕ) (c : Concept) → slice_get concepts n ≡ Some c → (p : ℕ → Bool) → has (concepts_at concepts p) c ≡ p n
  has-number n c e p = at-place concepts p c distinct (has-get concepts n c e) ∙ ap p (place-get concepts n c distinct e)

  -- packed words with the same concepts are the same
  same-words : (l m : List ℕ) → IsPacked (length concepts) l → IsPacked (length concepts) m
      → SameSet (concepts_at concepts (words.has l)) (concepts_at concepts (words.has m)) → l ≡ m
  same-words l m pl pm same = same-from_numbers (length concepts) l m pl pm
      (λ n. same_tests (words.has l n) (words.has m n)
      (λ h. let c = place_at concepts n (pl.within n h) in sym (has-number n c.0 c.1 (words.has m)) ∙ sym (same c.0) ∙ has-number n c.0 c.1 (words.has l) ∙ h)
      (λ h. let c = place_at concepts n (pm.within n h) in sym (has-number n c.0 c.1 (words.has l)) ∙ same c.0 ∙ has-number n c.0 c.1 (words.has m) ∙ h))

-- ---- the labels of a run, and the next one

module _ (ls : List (List ℕ)) (next : List ℕ) where
  -- one of these is one of the list, or the next one
  is-one : (j : ℕ) (l : List ℕ) → slice_get (ls ++ next ∷ []) j ≡ Some l → (slice_get ls j ≡ Some l) ⊎ ((j ≡ length ls) × (next ≡ l))
  is-one j l e = elim (at-append_cases (List ℕ) ls (next ∷ []) j l e) [
    | inl h ↦ inl h
    | inr h ↦ inr (last h.0 h.1 h.2)
  ]
    where
      last : (i : ℕ) → j ≡ length ls + i → slice_get (next ∷ []) i ≡ Some l → (j ≡ length ls) × (next ≡ l)
      last zero at is = (omega (arith, at), same_Some next l is)
      last (suc i) at is = cc

  -- and no two are equal
  all-once : IsWithoutRepeats ls → ((k : ℕ) → slice_get ls k ≢ Some next) → (j k : ℕ) (l : List ℕ) → slice_get (ls ++ next ∷ []) j ≡ Some l
      → slice_get (ls ++ next ∷ []) k ≡ Some l → j ≡ k
  all-once once absent j k l e f = elim (is-one j l e) [
    | inl h ↦ elim (is-one k l f) [
      | inl g ↦ sym (once j l h) ∙ once k l g
      | inr g ↦ absurd (absent j (h ∙ ap Some (sym g.1)))
    ]
    | inr h ↦ elim (is-one k l f) [
      | inl g ↦ absurd (absent k (g ∙ ap Some (sym h.1)))
      | inr g ↦ h.0 ∙ sym g.0
    ]
  ]

  -- what holds of each of the list and of the next one
  all-have : (P : List ℕ → Type 0) → ((k : ℕ) (l : List ℕ) → slice_get ls k ≡ Some l → P l) → P next → (k : ℕ) (l : List ℕ)
      → slice_get (ls ++ next ∷ []) k ≡ Some l → P l
  all-have P each it k l e = elim (is-one k l e) [
    | inl h ↦ each k l h
    | inr h ↦ subst P h.1 it
  ]

module _ (job : Job) (goal : Goal) (view : List Prop) (v : GraphView) (ws : List ℕ) (run : IsRunFor job goal view v ws) (graph : IsGraph v)
    (distinct : are_distinct v.closure.concepts ≡ true) (next : Label) (width : next.width ≡ length v.closure.concepts)
    (packed : IsPacked next.width next.words) (put : length v.labels ≡ job.budget.expansions) (reached : IsReachedFrom v ws next.words)
    (absent : (k : ℕ) → slice_get v.labels k ≢ Some next.words) where
  abbrev all_words : List (List ℕ)
  all_words = v.labels ++ next.words ∷ []

  is-packed : (k : ℕ) (l : List ℕ) → slice_get all_words k ≡ Some l → IsPacked (length v.closure.concepts) l
  is-packed = all-have v.labels next.words (IsPacked (length v.closure.concepts)) graph.packed (subst (λ n. IsPacked n next.words) width packed)

  is-reached : (k : ℕ) (l : List ℕ) → slice_get all_words k ≡ Some l → IsReachedFrom v ws l
  is-reached = all-have v.labels next.words (IsReachedFrom v ws) run.reached reached

  module _ (r : SpentRun) (concepts_are : r.concepts ≡ v.closure.concepts) (labels_are : r.labels ≡ with_width (length v.closure.concepts) v.labels)
      (next_is : r.next ≡ next) where
    with-next : (a b : Label) (ls : List Label) → a.width ≡ b.width → a.words ≡ b.words → ls ++ a ∷ [] ≡ ls ++ b ∷ []
    with-next a b ls e f = ap₂ (λ (n : ℕ) (w : List ℕ). ls ++ (let l : Label = record { width = n; words = w } in l) ∷ []) e f

    labels-are : all_labels r ≡ with_width (length v.closure.concepts) all_words
    labels-are =
        ap₂ (λ (ls : List Label) (l : Label). ls ++ l ∷ []) labels_are next_is
        ∙ with-next next (record { width = length v.closure.concepts; words = next.words }) (with_width (length v.closure.concepts) v.labels) width refl
        ∙ sym (map-append (λ ws'. let l : Label = record { width = length v.closure.concepts; words = ws' } in l) v.labels (next.words ∷ []))

    -- the words of a label of the run
    words-at : (k : ℕ) (a : Label) → slice_get (all_labels r) k ≡ Some a → slice_get all_words k ≡ Some a.words
    words-at k a e =
        let found = get-map (λ ws'. let l : Label = record { width = length v.closure.concepts; words = ws' } in l) all_words k a (sym (ap (λ ls. slice_get ls k) labels-are) ∙ e) in
        found.1 ∙ ap (λ (l : Label). Some l.words) found.2

    in-graph : (a : Label) → label_of r.concepts a ≡ concepts_in v a.words
    in-graph a = ap (λ cs. concepts_at cs (words.has a.words)) concepts_are

    pub right-spent : r.peer ≡ goal.peer → r.goals ≡ goal ∷ [] → r.props ≡ view → IsRightSpent job goal view r
    right-spent peer goals props = record {
      peer = peer;
      goals = goals;
      props = props;
      count = ap length labels_are ∙ length-map v.labels (λ ws'. let l : Label = record { width = length v.closure.concepts; words = ws' } in l) ∙ put;
      distinct = λ j k a b at_j at_k same.
          let moved : SameSet (concepts_in v a.words) (concepts_in v b.words) =
          λ c. ap (λ l. has l c) (sym (in-graph a)) ∙ same c ∙ ap (λ l. has l c) (in-graph b) in
          let one : a.words ≡ b.words = same-words v.closure.concepts distinct a.words b.words (is-packed j a.words (words-at j a at_j)) (is-packed k b.words (words-at k b at_k)) moved in
          all-once v.labels next.words graph.distinct absent j k a.words (words-at j a at_j) (words-at k b at_k ∙ ap Some (sym one));
      reached = λ k a e.
          subst (λ l. IsReached (axioms_of job.pinned goal.peer) (propagations_of job.pinned goal.peer view) (goal.label ∷ []) l) (sym (in-graph a))
          (reached-run job goal view v ws run (concepts_in v a.words) (is-reached k a.words (words-at k a e)));
    }
