-- A call begins: nothing is reached yet but its own label.
use Rattle.std.proofs.Common.{◌≡◌, ℕ, zero, suc, ◌<◌, ◌≤◌, ◌+◌, Bool, true, false, List, [], ◌∷◌, ◌++◌, length, replicate, Option, None, Some, slice_get, slice_set, refl, sym, ap, ap₂, subst, ◌∙◌, arith}
use Rattle.std.proofs.lemmas.Bool.{false≢true}
use Rattle.std.proofs.lemmas.Option.{slice_get_within}
use Rattle.std.proofs.lemmas.List.{length-replicate}
use Rattle.dd_rules.specs.Compiled.{rules_in}
use Rattle.dd_rules.specs.Numbers.{Rules}
use Rattle.dd_set.specs.Words.{has}
use Rattle.dd_table.specs.Labels.{Labels}
use Rattle.dd_graph.specs.declared.kernel.Kernel.{Kernel}
use Rattle.dd_graph.specs.Goes.{Begins, Marks, Restarts}
use Rattle.dd_graph.specs.Reached.{ReachedIn, start, IsReachedIn, AreReached}
use Rattle.dd_graph.specs.View.{kernel_view}
use Rattle.dd_graph.proofs.Lists.{same_Some, place_at, get_set_same, get_push, get_push_new}

-- the goal is reached from itself
pub reached-goal : (r : Rules) (g l : List ℕ) → g ≡ l → IsReachedIn r (has g) (has l)
reached-goal r g l e = subst (λ w. IsReachedIn r (has g) (has w)) e ∣ start ∣₁

not-marked : (n k : ℕ) → slice_get (replicate n false) k ≡ Some true → ⊥
not-marked zero k h = cc
not-marked (suc n) zero h = cc
not-marked (suc n) (suc k) h = not-marked n k h

-- where nothing else is marked, a new label is what the call is about
pub reached-first : (r : Rules) (labels : List (List ℕ)) (marks : List Bool) (goal : ℕ) (l : List ℕ) → marks ≡ replicate (length labels) false
    → goal ≡ length labels → AreReached r (labels ++ l ∷ []) (marks ++ true ∷ []) goal
reached-first r labels marks goal l none is k g m marked is_g is_m =
    get_push (λ n x. x ≡ true → (m : List ℕ) → slice_get (labels ++ l ∷ []) n ≡ Some m → IsReachedIn r (has g) (has m)) marks true
    (λ n x at yes_ m is_m. absurd (not-marked (length labels) n (ap (λ ms. slice_get ms n) (sym none) ∙ at ∙ ap Some yes_)))
    (λ yes_ m is_m. reached-goal r g m (same_Some g m (sym is_g ∙ ap (slice_get (labels ++ l ∷ [])) (is ∙ sym sized) ∙ is_m))) k true marked refl m is_m
  where
    sized : length marks ≡ length labels
    sized = ap length none ∙ length-replicate {A = Bool} (length labels) false

module _ (id budget : ℕ) (l : List ℕ) (old mid new : Kernel) (starts : Restarts id budget old mid) (marks : Marks id mid new) (found : slice_get old.table.list id ≡ Some l) where
  same_table : new.table ≡ old.table
  same_table = marks.table ∙ starts.table

  mark_there : (b : Bool) × (slice_get (replicate (length old.table.list) false) id ≡ Some b)
  mark_there = place_at (replicate (length old.table.list) false) id
      (let lt : id < length old.table.list = slice_get_within old.table.list id l found in let sized = length-replicate {A = Bool} (length old.table.list) false in omega (arith, lt, sized))

  -- the label was there
  pub begins-there : Begins id l budget old new
  begins-there = record {
    keeps = record {
      closure = marks.compiled ∙ starts.compiled;
      props = marks.props ∙ starts.props;
      labels = λ n m h. ap (λ (t : Labels). slice_get t.list n) same_table ∙ h;
      settled = λ n x h s. ap (λ es. slice_get es n) (marks.entries ∙ starts.entries) ∙ h;
    };
    goal = marks.goal ∙ starts.goal;
    found = ap (λ (t : Labels). slice_get t.list id) same_table ∙ found;
    reached = ap (λ ms. slice_get ms id) (marks.reached ∙ ap (λ ms. slice_set ms id true) starts.reached)
        ∙ get_set_same (replicate (length old.table.list) false) id true mark_there.0 mark_there.1;
    room = ap₂ (λ (t : Labels) n. length t.list + n) same_table (marks.left ∙ starts.left);
    new_marks = λ n h lt. absurd (let is : length new.table.list ≡ length old.table.list = ap (λ (t : Labels). length t.list) same_table in omega (arith, h, lt, is));
  }
