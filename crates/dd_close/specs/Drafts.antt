-- For private clauses: lines in numbers, before they are written down. A line says that no element of the peer has its label,
-- and cites earlier lines.
use Rattle.std.specs.Prelude.{ℕ, ◌≡◌, ◌<◌, ◌==◌, ◌&&◌, ◌||◌, Bool, true, false, List, length, slice_get, Option, None, Some}
use Rattle.std.specs.List.{list_any}
use Rattle.std.specs.Option.{option_map_or, option_map}
use Rattle.dd_graph.specs.Right.{adding}
use Rattle.dd_graph.specs.View.{GraphView, rules_at}
use Rattle.dd_rules.specs.Forced.{is_clash}
use Rattle.dd_rules.specs.Least.{Implies}
use Rattle.dd_rules.specs.Numbers.{PropNumbers, Rules, additions, any_at, is_all}
use Rattle.dd_rules.specs.declared.shape.Shape.{Shape}
use Rattle.dd_rules.specs.declared.shape.Shape.TheVariants as shape
use Rattle.dd_rules.specs.declared.shape.Step.{Step}
use Rattle.dd_rules.specs.declared.shape.Step.TheVariants as way
use Rattle.dd_rules.specs.declared.tables.AxiomNumbers.{AxiomNumbers}
use Rattle.dd_set.specs.Words.{has}
use Rattle.dd_table.specs.Labels.{KeepsLabels}
use Rattle.dd_close.specs.declared.draft.Book.{Book}
use Rattle.dd_close.specs.declared.draft.Reason.{Reason}
use Rattle.dd_close.specs.declared.draft.Reason.TheVariants as reason

-- the line with this number stands before the bound, and its label is within the set
pub record Cites (labels : List (List ℕ)) (bound n : ℕ) (p : ℕ → Bool) : Type 0 where
  pub label : List ℕ
  pub earlier : n < bound
  pub there : slice_get labels n ≡ Some label
  pub within : Implies (has label) p

-- ---- steps

abbrev pub is_or_shape : Shape → Bool
is_or_shape (shape.Or a b) = true
is_or_shape _ = false

-- is there what the step decides: a disjunction, an axiom or a propagation
abbrev pub is_step : Rules → Step → Bool
is_step r (way.And n) = false
is_step r (way.Or n) = option_map_or is_or_shape (slice_get r.shapes n) false
is_step r (way.Axiom k) = option_map_or (λ (a : AxiomNumbers). true) (slice_get r.axioms k) false
is_step r (way.Cut n) = list_any (λ (t : PropNumbers). t.onto == n) r.props
is_step r (way.Bridge k) = option_map_or (λ (t : PropNumbers). true) (slice_get r.props k) false

-- the number that a label has to have for the step: that of the disjunction, or of the onto target that a bridge goes by
abbrev pub premise : Rules → Step → Option ℕ
premise r (way.And n) = None
premise r (way.Or n) = Some n
premise r (way.Axiom k) = None
premise r (way.Cut n) = None
premise r (way.Bridge k) = option_map (λ (t : PropNumbers). t.onto) (slice_get r.props k)

-- does the label have it
abbrev pub has_premise : Rules → (ℕ → Bool) → Step → Bool
has_premise r p s = option_map_or p (premise r s) true

-- is the number this one
abbrev pub is_number : Option ℕ → ℕ → Bool
is_number None k = false
is_number (Some n) k = k == n

-- each cited line is within the label with the addition of the same place
pub record CitesEach (r : Rules) (labels : List (List ℕ)) (bound : ℕ) (p : ℕ → Bool) (s : Step) (cites : List ℕ) : Type 0 where
  pub each : (i c m : ℕ) → slice_get (additions r s) i ≡ Some c → slice_get cites i ≡ Some m → Cites labels bound m (adding c p)

-- ---- reasons

-- what the label passes on along the role, beside the part
abbrev pub passes : Rules → (ℕ → Bool) → ℕ → ℕ → ℕ → Bool
passes r p role part k = (k == part) || any_at (λ n s. p n && is_all role k s) r.shapes

-- by the parts of a conjunction
pub record IsByAnd (r : Rules) (labels : List (List ℕ)) (bound : ℕ) (p : ℕ → Bool) (at cite : ℕ) : Type 0 where
  pub left : ℕ
  pub right : ℕ
  pub shape_is : slice_get r.shapes at ≡ Some (shape.And left right)
  pub in_label : p at ≡ true
  pub cited : Cites labels bound cite (adding left (adding right p))

-- by what a step decides, in each case
pub record IsByChoice (r : Rules) (labels : List (List ℕ)) (bound : ℕ) (p : ℕ → Bool) (s : Step) (cites : List ℕ) : Type 0 where
  pub step : is_step r s ≡ true
  pub posed : has_premise r p s ≡ true
  pub as_many : length cites ≡ length (additions r s)
  pub cited : CitesEach r labels bound p s cites

-- by an element along a role
pub record IsBySuccessor (r : Rules) (labels : List (List ℕ)) (bound : ℕ) (p : ℕ → Bool) (at cite : ℕ) : Type 0 where
  pub role : ℕ
  pub part : ℕ
  pub shape_is : slice_get r.shapes at ≡ Some (shape.HasSome role part)
  pub in_label : p at ≡ true
  pub cited : Cites labels bound cite (passes r p role part)

-- the reason of a line with this label holds, after the lines before the bound
abbrev pub IsReason : Rules → List (List ℕ) → ℕ → (ℕ → Bool) → Reason → Type 0
IsReason r labels bound p (reason.Clash c) = is_clash r p c ≡ true
IsReason r labels bound p (reason.And at cite) = IsByAnd r labels bound p at cite
IsReason r labels bound p (reason.Choice s cites) = IsByChoice r labels bound p s cites
IsReason r labels bound p (reason.Successor at cite) = IsBySuccessor r labels bound p at cite

-- the lines have reasons that hold after those before them
pub record IsBook (v : GraphView) (b : Book) : Type 0 where
  pub width : b.table.width ≡ length v.closure.concepts
  pub as_many : length b.reasons.items ≡ length b.table.list
  pub each : (k : ℕ) (l : List ℕ) (x : Reason) → slice_get b.table.list k ≡ Some l → slice_get b.reasons.items k ≡ Some x → IsReason (rules_at v) b.table.list k (has l) x

-- the line with this number is within the set
abbrev pub IsLine : Book → (ℕ → Bool) → ℕ → Type 0
IsLine b p m = Cites b.table.list (length b.table.list) m p

-- lines were added
pub record Adds (v : GraphView) (old new : Book) : Type 0 where
  pub book : IsBook v new
  pub kept : KeepsLabels old.table.list new.table.list

-- lines were added, and the one with this number is within the set
pub record Makes (v : GraphView) (old new : Book) (p : ℕ → Bool) (m : ℕ) : Type 0 where
  pub adds : Adds v old new
  pub line : IsLine new p m
