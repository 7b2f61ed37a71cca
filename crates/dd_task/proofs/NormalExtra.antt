-- The further concepts of a closure are in normal form.
use Rattle.std.proofs.Common.{◌==◌, ℕ, Bool, true, false, cond, List, [], ◌∷◌, ◌++◌, map, All}
use Rattle.std.specs.List.{flat_map}
use Rattle.std.proofs.lemmas.List.Elements.{All-nil, All-cons, All-append, All-map}
use Rattle.dd_concept.specs.declared.concept.Concept.{Concept}
use Rattle.dd_concept.specs.Normal.{nnf_of, nnf_not_of, IsNormal}
use Rattle.dd_concept.proofs.NormalForms.{nnf_of-IsNormal, nnf_not_of-IsNormal}
use Rattle.dd_peer.specs.declared.version.Pinned.{Pinned}
use Rattle.dd_peer.specs.declared.version.Query.{Query}
use Rattle.dd_peer.specs.declared.version.Rule.{Rule}
use Rattle.dd_task.specs.declared.job.Job.{Job}
use Rattle.dd_task.specs.Closure.{both_targets, kept_targets, asked_by, asked_first, extra_for}
use Rattle.dd_task.specs.Goals.{root_label}
use Rattle.dd_task.specs.Rules.{all_into, all_onto, into_rules, onto_rules}

All-flat_map : {A B : Type 0} (P : B → Type 0) (f : A → List B) → ((x : A) → All P (f x)) → (xs : List A) → All P (flat_map f xs)
All-flat_map P f each [] = All-nil P
All-flat_map P f each (x ∷ xs) = All-append P (f x) (flat_map f xs) (each x) (All-flat_map P f each xs)

two : (c d : Concept) → IsNormal c → IsNormal d → All IsNormal (c ∷ d ∷ [])
two c d h k = All-cons IsNormal c (d ∷ []) h (All-cons IsNormal d [] k (All-nil IsNormal))

targets-normal : (r : Rule) → All IsNormal (both_targets r)
targets-normal r = two (nnf_of r.target) (nnf_not_of r.target) (nnf_of-IsNormal r.target) (nnf_not_of-IsNormal r.target)

asked-normal : (p : Pinned) (i k : ℕ) → All IsNormal (asked_by p i k)
asked-normal p i k =
    All-append IsNormal (map (λ (r : Rule). nnf_not_of r.source) (into_rules p i k)) (map (λ (r : Rule). nnf_of r.source) (onto_rules p i k))
    (All-map IsNormal (λ (r : Rule). nnf_not_of r.source) (into_rules p i k) (λ n d lt. nnf_not_of-IsNormal _))
    (All-map IsNormal (λ (r : Rule). nnf_of r.source) (onto_rules p i k) (λ n d lt. nnf_of-IsNormal _))

first-normal : (q : Query) (b : Bool) → All IsNormal (cond b (root_label q) [])
first-normal q true = two (nnf_of q.left) (nnf_not_of q.right) (nnf_of-IsNormal q.left) (nnf_not_of-IsNormal q.right)
first-normal q false = All-nil IsNormal

pub extra-normal : (job : Job) (i : ℕ) → All IsNormal (extra_for job i)
extra-normal job i =
    All-append IsNormal (kept_targets job.pinned i) (flat_map (asked_by job.pinned i) job.relevant ++ asked_first job.query i)
    (All-flat_map IsNormal both_targets targets-normal (all_into job.pinned i ++ all_onto job.pinned i))
    (All-append IsNormal (flat_map (asked_by job.pinned i) job.relevant) (asked_first job.query i)
    (All-flat_map IsNormal (asked_by job.pinned i) (asked-normal job.pinned i) job.relevant) (first-normal job.query (job.query.peer == i)))
