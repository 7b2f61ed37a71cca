-- For private clauses: the lines of the labels of a graph, by what was done at these.
use Rattle.std.specs.Prelude.{ℕ, ◌≡◌, ◌<◌, ◌==◌, ◌&&◌, not, Bool, true, false, List, length, slice_get, Some}
use Rattle.std.specs.Option.{option_map_or}
use Rattle.dd_graph.specs.Right.{IsLeastAt, adding, is_below}
use Rattle.dd_graph.specs.View.{GraphView, IsAt, rank_of, rules_at}
use Rattle.dd_rules.specs.Numbers.{Rules, additions}
use Rattle.dd_rules.specs.declared.shape.Shape.{Shape}
use Rattle.dd_rules.specs.declared.shape.Shape.TheVariants as shape
use Rattle.dd_rules.specs.declared.shape.Step.{Step}
use Rattle.dd_set.specs.Words.{has}
use Rattle.dd_close.specs.Drafts.{Adds, CitesEach, IsLine}
use Rattle.dd_close.specs.declared.draft.Book.{Book}

-- the label at this position has a line
pub record HasLine (v : GraphView) (b : Book) (lines : List ℕ) (t : ℕ) : Type 0 where
  pub line : ℕ
  pub label : List ℕ
  pub given : slice_get lines t ≡ Some line
  pub at : IsAt v t label
  pub within : IsLine b (has label) line

-- the labels whose rank is below the bound have lines
abbrev pub AreLines : GraphView → Book → List ℕ → ℕ → Type 0
AreLines v b lines bound = (t i : ℕ) → rank_of v t ≡ Some i → i < bound → HasLine v b lines t

-- the labels to which a step leads are the least ones with its additions
abbrev pub AreLeast : GraphView → (ℕ → Bool) → Step → List ℕ → Type 0
AreLeast v p s to = (i c t : ℕ) → slice_get (additions (rules_at v) s) i ≡ Some c → slice_get to i ≡ Some t → IsLeastAt (rules_at v) v.labels (adding c p) t

-- they have lines
abbrev pub HaveLines : GraphView → Book → List ℕ → List ℕ → Type 0
HaveLines v b lines to = (i t : ℕ) → slice_get to i ≡ Some t → HasLine v b lines t

-- lines were added, and there are lines for the first n additions of the step
pub record Splits (v : GraphView) (old new : Book) (p : ℕ → Bool) (s : Step) (cites : List ℕ) (n : ℕ) : Type 0 where
  pub adds : Adds v old new
  pub many : length cites ≡ n
  pub cited : CitesEach (rules_at v) new.table.list (length new.table.list) p s cites

-- ---- along a role

-- is the shape that of a universal restriction of the role to a concept of the label, other than the part
abbrev pub is_wanted : ℕ → ℕ → List ℕ → Shape → Bool
is_wanted role part label (shape.HasAll s e) = (role == s) && (not (e == part) && has label e)
is_wanted role part label _ = false

abbrev pub wants : Rules → ℕ → ℕ → List ℕ → ℕ → Bool
wants r role part label k = option_map_or (is_wanted role part label) (slice_get r.shapes k) false

-- the pair leads to a label whose rank is below the bound
pub record IsClosedPair (v : GraphView) (to : List (ℕ × ℕ)) (bound : ℕ) (p : ℕ × ℕ) : Type 0 where
  pub place : ℕ
  pub there : slice_get to place ≡ Some p
  pub closed : is_below bound (rank_of v p.1) ≡ true
