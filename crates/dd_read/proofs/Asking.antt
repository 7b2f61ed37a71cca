-- The closure that is the first to be too large.
use Rattle.std.proofs.Common.{◌≡◌, ℕ, ◌<◌, List, [], ◌∷◌, length, Bool, true, false, zero, suc, refl, ap, sym, ◌∙◌, subst, arith, Option, None, Some, Result, Ok, Err, IfOk}
use Rattle.std.proofs.lemmas.Bool.{le-leb, lt-leb}
use Rattle.std.proofs.lemmas.List.Elements.{All-head, All-tail}
use Rattle.std.specs.Prelude.{nat_le, slice_get, All, cond}
use Rattle.dd_run.specs.Closures.{IsFirstFull}
use Rattle.dd_run.specs.Fit.{closure_for, HasFewConcepts}
use Rattle.dd_run.specs.declared.closures.ClosureErr.{ClosureErr}
use Rattle.dd_run.specs.declared.closures.ClosureErr.TheVariants.{Full, NoMemory}
use Rattle.dd_task.specs.declared.job.Job.{Job}
use Rattle.dd_read.specs.Asks.{first_full, most_concepts}
use Rattle.dd_read.specs.Told.{TellsCount}

full_by : Job → List ℕ → ℕ → Bool → Option ℕ
full_by job is count few = cond few (first_full job is) (Some count)

one_more : (job : Job) (i : ℕ) (is : List ℕ) (b : Bool) → nat_le (length (closure_for job i)) most_concepts ≡ b → first_full job (i ∷ is) ≡ full_by job is (length (closure_for job i)) b
unfolding full_by
one_more job i is b e = ap (full_by job is (length (closure_for job i))) e

-- where none is too large there is no count
pub none_full : (job : Job) (is : List ℕ) → All (HasFewConcepts job) is → first_full job is ≡ None
unfolding full_by
none_full job [] few = refl
none_full job (i ∷ is) few = one_more job i is true (le-leb (length (closure_for job i)) most_concepts (All-head (HasFewConcepts job) i is few)) ∙ none_full job is (All-tail (HasFewConcepts job) i is few)

-- where one is the first that is too large, it is counted
first_is : (job : Job) (is : List ℕ) (place i count : ℕ) → slice_get is place ≡ Some i → count ≡ length (closure_for job i) → 4096 < count
    → ((k j : ℕ) → k < place → slice_get is k ≡ Some j → HasFewConcepts job j) → first_full job is ≡ Some count
unfolding full_by
first_is job [] place i count there counted full first = absurd (empty place there)
  where
    empty : (k : ℕ) → slice_get [] k ≡ Some i → ⊥
    empty zero e = cc e
    empty (suc k) e = cc e
first_is job (h ∷ is) zero i count there counted full first =
    let same : h ≡ i = head there in
    let large : 4096 < length (closure_for job h) = subst (λ (n : ℕ). 4096 < n) (counted ∙ ap (λ (n : ℕ). length (closure_for job n)) (sym same)) full in
    one_more job h is false (lt-leb (length (closure_for job h)) most_concepts large)
    ∙ ap Some (ap (λ (n : ℕ). length (closure_for job n)) same ∙ sym counted)
  where
    head : Some h ≡ Some i → h ≡ i
    head e = cc e
first_is job (h ∷ is) (suc place) i count there counted full first =
    one_more job h is true (le-leb (length (closure_for job h)) most_concepts (first 0 h (positive place) refl))
    ∙ first_is job is place i count there counted full (λ k j less at. first (suc k) j (more k place less) at)
  where
    positive : (n : ℕ) → 0 < suc n
    positive n = omega arith

    more : (k n : ℕ) → k < n → suc k < suc n
    more k n less = omega (arith, less)

pub first_full_is : (job : Job) (i count : ℕ) → IsFirstFull job i count → first_full job job.relevant ≡ Some count
first_full_is job i count is = first_is job job.relevant is.place i count is.relevant is.counted is.full is.first

-- what an error of the test counts
pub count_told : {E : Type 0} (r : Result (Option ℕ) E) (job : Job) (e : ClosureErr) → ((i n : ℕ) → e ≡ Full i n → IsFirstFull job i n) → IfOk r (TellsCount e)
    → IfOk r (λ count. count ≡ first_full job job.relevant)
count_told (Err x) job e first told = tt
count_told (Ok count) job (Full i n) first told = told ∙ sym (first_full_is job i n (first i n refl))
count_told (Ok count) job NoMemory first told = absurd told
