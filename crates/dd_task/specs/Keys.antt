-- The keys of tasks.
use Rattle.std.specs.Prelude.{ℕ, ◌==◌, ◌&&◌, Bool, true, false, List, bytes_eq}
use Rattle.std.specs.List.{list_any, list_all}
use Rattle.dd_task.specs.declared.job.Key.{Key}
use Rattle.dd_task.specs.declared.job.Key.TheVariants.{Root, Asked}

-- are two keys the same
abbrev pub is_same_key : Key → Key → Bool
is_same_key Root Root = true
is_same_key Root (Asked h i o set) = false
is_same_key (Asked h i o set) Root = false
is_same_key (Asked h i o set) (Asked g j n other) = ((h == g) && (i == j)) && ((o == n) && bytes_eq set other)

-- is n one of the numbers, and is each of the first numbers one of the second
abbrev pub is_among : List ℕ → ℕ → Bool
is_among numbers n = list_any (λ k. k == n) numbers

abbrev pub are_among : List ℕ → List ℕ → Bool
are_among set other = list_all (is_among other) set
