-- What a decision says of the labels that are new, of the label that had no room, and of how many labels there are.
use Rattle.std.proofs.Common.{◌≡◌, ◌≢◌, ◌∙◌, ℕ, ◌<◌, ◌≤◌, ◌+◌, ◌^◌, true, false, List, [], ◌∷◌, ◌++◌, length, Option, None, Some, IfSome, slice_get, refl, sym, ap, subst, arith, inl, inr}
use Rattle.std.proofs.Math.ListN.{length-append}
use Rattle.std.proofs.lemmas.Bool.{cases_lt, cases_Bool}
use Rattle.std.proofs.lemmas.Option.{slice_get_within}
use Rattle.dd_concept.specs.Closed.{IsClosedFor}
use Rattle.dd_rules.specs.Closure.{are_distinct}
use Rattle.dd_rules.specs.Compiled.{Closure, props_of}
use Rattle.dd_set.specs.Words.{has, IsPacked}
use Rattle.dd_table.specs.Labels.{Labels, has_label, number_of, AllPacked, IsWithoutRepeats}
use Rattle.dd_table.proofs.Few.{labels-few}
use Rattle.dd_table.proofs.Numbering.{has_label-slice_get, number_of-append, slice_get-number_of}
use Rattle.dd_graph.specs.declared.kernel.Kernel.{Kernel}
use Rattle.dd_graph.specs.declared.decided.Decided.{Decided}
use Rattle.dd_graph.specs.declared.decided.Decided.TheVariants as decided
use Rattle.dd_graph.specs.Decided.{IsSpent, NewAreReached, OnSpent}
use Rattle.dd_graph.specs.Goes.{Begins, Goes, Idles}
use Rattle.dd_graph.specs.Last.{IsLast}
use Rattle.dd_graph.specs.Reached.{IsReachedIn}
use Rattle.dd_graph.specs.View.{IsReachedFrom, Keeps, kernel_view, rules_at}
use Rattle.dd_graph.proofs.Beginning.{reached-goal}
use Rattle.dd_graph.proofs.Known.{fit-closed}
use Rattle.dd_graph.proofs.Lists.{get_push, place_at}
use Rattle.dd_graph.proofs.Putting.{absent-nowhere, number-absent, with-absent}
use Rattle.dd_graph.proofs.ReachedLifts.{reached-lifts}

pub keeps-trans : (a b c : Kernel) → Keeps (kernel_view a) (kernel_view b) → Keeps (kernel_view b) (kernel_view c) → Keeps (kernel_view a) (kernel_view c)
keeps-trans a b c f g = record {
  closure = g.closure ∙ f.closure;
  props = g.props ∙ f.props;
  labels = λ n l h. g.labels n l (f.labels n l h);
  settled = λ n e h s. g.settled n e (f.settled n e h s) s;
}

-- ---- one more label

without-push : (xs : List (List ℕ)) (l : List ℕ) → has_label xs l ≡ false → IsWithoutRepeats xs → IsWithoutRepeats (xs ++ l ∷ [])
without-push xs l absent h n x at = get_push (λ k y. number_of (xs ++ l ∷ []) y ≡ k) xs l
    (λ k y there. number_of-append xs (l ∷ []) y (has_label-slice_get xs k y there) ∙ h k y there)
    (ap (λ ys. number_of ys l) (sym (with-absent xs l absent)) ∙ number-absent xs l absent) n x at

packed-push : (width : ℕ) (xs : List (List ℕ)) (l : List ℕ) → AllPacked width xs → IsPacked width l → AllPacked width (xs ++ l ∷ [])
packed-push width xs l all packed n x at = get_push (λ k y. IsPacked width y) xs l all packed n x at

nowhere-absent : (xs : List (List ℕ)) (l : List ℕ) → ((n : ℕ) → slice_get xs n ≢ Some l) → has_label xs l ≡ false
nowhere-absent xs l h = elim (cases_Bool (has_label xs l)) [ inl there ↦ absurd (h (number_of xs l) (slice_get-number_of xs l there)) | inr none ↦ none ]

-- there are fewer labels than there might be, where one is not among them
fewer : (width : ℕ) (xs : List (List ℕ)) (l : List ℕ) → AllPacked width xs → IsWithoutRepeats xs → IsPacked width l → has_label xs l ≡ false → length xs < 2 ^ width
fewer width xs l all distinct packed absent =
    let few = labels-few width (xs ++ l ∷ []) (packed-push width xs l all packed) (without-push xs l absent distinct) in
    omega (arith, few, length-append xs (l ∷ []))

-- ---- what is reached, in concepts

-- what is known of a closure
pub record IsSound (closure : Closure) : Type 0 where
  pub distinct : are_distinct closure.concepts ≡ true
  pub closed : IsClosedFor closure.axioms [] closure.concepts

reached-from : (k : Kernel) (l m : List ℕ) → IsSound k.compiled → IsPacked (length k.compiled.concepts) l → IsReachedIn (rules_at (kernel_view k)) (has l) (has m)
    → IsReachedFrom (kernel_view k) l m
reached-from k l m sound packed h =
    reached-lifts k.compiled.concepts k.compiled.axioms (props_of k.compiled.concepts k.props) sound.distinct (fit-closed k.compiled k.props k.fit sound.closed) (has l) (has m)
    (λ n there. place_at k.compiled.concepts n (packed.within n there)) h

module _ (old mid new : Kernel) (id budget : ℕ) (l : List ℕ) (begins : Begins id l budget old mid) (goes : Goes mid new) where
  pub decided-keeps : Keeps (kernel_view old) (kernel_view new)
  decided-keeps = keeps-trans old mid new begins.keeps goes.keeps

  pub decided-few : length new.table.list ≤ length old.table.list + budget
  decided-few = let one = begins.room in let two = goes.room in omega (arith, one, two)

  pub decided-found : slice_get new.table.list id ≡ Some l
  decided-found = goes.keeps.labels id l begins.found

  goal_found : slice_get new.table.list new.goal ≡ Some l
  goal_found = ap (slice_get new.table.list) (goes.goal ∙ begins.goal) ∙ decided-found

  marked : (k : ℕ) → length old.table.list ≤ k → k < length new.table.list → slice_get new.reached.items k ≡ Some true
  marked k above below = elim (cases_lt k (length mid.table.list)) [
    | inl first ↦ goes.marks k (begins.new_marks k above first)
    | inr second ↦ goes.new_marks k second below
  ]

  module _ (sound : IsSound old.compiled) (packed : IsPacked (length old.compiled.concepts) l) where
    still : IsSound new.compiled
    still = subst IsSound (sym decided-keeps.closure) sound

    still_packed : IsPacked (length new.compiled.concepts) l
    still_packed = subst (λ (c : Closure). IsPacked (length c.concepts) l) (sym decided-keeps.closure) packed

    pub decided-reached : NewAreReached (kernel_view old) (kernel_view new) l
    decided-reached k m above at = reached-from new l m still still_packed
        (new.from_goal k l m (marked k above (slice_get_within new.table.list k m at)) goal_found at)

    module _ (next : List ℕ) (last : IsLast new next) where
      pub decided-spent : IsSpent (kernel_view old) (kernel_view new) l budget next
      decided-spent = record {
        put = let one = begins.room in let two = goes.room in let none = last.none_left in omega (arith, one, two, none);
        reached = reached-from new l next still still_packed (last.reached l goal_found);
        absent = last.absent;
      }

      pub decided-enough : AllPacked new.table.width new.table.list → IsWithoutRepeats new.table.list → budget < 2 ^ length old.compiled.concepts
      decided-enough all distinct =
          let some : length new.table.list < 2 ^ new.table.width = fewer new.table.width new.table.list next all distinct last.packed (nowhere-absent new.table.list next last.absent) in
          let wide : new.table.width ≡ length old.compiled.concepts = new.wide ∙ ap (λ (c : Closure). length c.concepts) decided-keeps.closure in
          let one = begins.room in
          let two = goes.room in
          let none = last.none_left in
          subst (λ w. budget < 2 ^ w) wide (omega (arith, some, one, two, none))

-- ---- there was no room for the label itself

module _ (old new : Kernel) (l : List ℕ) (budget : ℕ) (none : budget ≡ 0) (absent : has_label old.table.list l ≡ false) (idles : Idles old new)
    (sound : IsSound old.compiled) (packed : IsPacked (length old.compiled.concepts) l) where
  pub unbegun-spent : IsSpent (kernel_view old) (kernel_view new) l budget l
  unbegun-spent = record {
    put = let same : length new.table.list ≡ length old.table.list = ap (λ (t : Labels). length t.list) idles.table in omega (arith, same, none);
    reached = reached-from new l l (subst IsSound (sym idles.compiled) sound) (subst (λ (c : Closure). IsPacked (length c.concepts) l) (sym idles.compiled) packed)
        (reached-goal (rules_at (kernel_view new)) l l refl);
    absent = λ k at. absent-nowhere old.table.list l k absent (ap (λ (t : Labels). slice_get t.list k) (sym idles.table) ∙ at);
  }

  pub unbegun-enough : budget < 2 ^ length old.compiled.concepts
  unbegun-enough =
      let some = fewer (length old.compiled.concepts) [] l (λ n x at. absurd (nothing x at)) (λ n x at. absurd (nothing x at)) packed refl in omega (arith, some, none)
    where
      nothing : (x : List ℕ) → None ≡ Some x → ⊥
      nothing x e = cc

-- labels that are there already are not new
pub same-reached : (old new : Kernel) (l : List ℕ) → new.table ≡ old.table → NewAreReached (kernel_view old) (kernel_view new) l
same-reached old new l same k m above at =
    absurd (let lt : k < length new.table.list = slice_get_within new.table.list k m at in let is : length new.table.list ≡ length old.table.list = ap (λ (t : Labels). length t.list) same in omega (arith, above, lt, is))

pub same-few : (old new : Kernel) (budget : ℕ) → new.table ≡ old.table → length new.table.list ≤ length old.table.list + budget
same-few old new budget same = let is : length new.table.list ≡ length old.table.list = ap (λ (t : Labels). length t.list) same in omega (arith, is)

-- ---- claims on answers

pub on_spent : (P Q : List ℕ → Type 0) → ((next : List ℕ) → P next → Q next) → (d : Decided) → OnSpent P d → OnSpent Q d
on_spent P Q f (decided.Closed id rank) h = h
on_spent P Q f (decided.Open id) h = h
on_spent P Q f (decided.Spent next) h = f next.words h

pub some-claim : {X : Type 0} (o : Option X) (x : X) (P : X → Type 0) → o ≡ Some x → IfSome o P → P x
some-claim o x P is h = subst (λ p. IfSome p P) is h
