-- The lines up to the root's derive the query.
use Rattle.std.proofs.Common.{◌≡◌, ◌∙◌, ◌<◌, ◌≤◌, ◌+◌, ◌-◌, ℕ, zero, suc, true, false, List, [], ◌∷◌, map, take, length, Option, None, Some, ap, refl, subst, sym, inl, inr, arith}
use Rattle.std.specs.List.{slice_get}
use Rattle.std.specs.Option.{option_map, option_map_or, option_and_then}
use Rattle.std.proofs.Math.Bool.{Bool-set}
use Rattle.std.proofs.Math.Logic.{∥∥₁_elim}
use Rattle.std.proofs.Props.{props}
use Rattle.std.proofs.lemmas.List.{length-take-le}
use Rattle.std.proofs.lemmas.Option.{same_Some, slice_get_within, slice_get_cases}
use Rattle.dd_concept.specs.Same.{is_within}
use Rattle.dd_peer.specs.Relevant.{is_in}
use Rattle.dd_peer.specs.declared.version.Rule.{Rule}
use Rattle.dd_task.specs.Claims.{claim_of}
use Rattle.dd_task.specs.declared.job.Job.{Job}
use Rattle.dd_task.specs.declared.line.Why.{Why}
use Rattle.dd_task.specs.declared.line.Why.TheVariants as why
use Rattle.dd_task.specs.Rules.{all_onto}
use Rattle.dd_task.specs.Verdicts.{cuts_target}
use Rattle.dd_task.specs.declared.job.Key.TheVariants.{Root}
use Rattle.dd_task.specs.declared.line.Line.{Line}
use Rattle.dd_task.specs.Derives.{EndsWithin}
use Rattle.dd_task.specs.Goals.{root_label}
use Rattle.dd_task.specs.Lines.{is_right, AreRight}
use Rattle.dd_task.proofs.Places.{All-from}
use Rattle.dd_board.specs.declared.event.Outcome.TheVariants.{Proved}
use Rattle.dd_board.specs.declared.event.TaskState.{TaskState}
use Rattle.dd_board.specs.declared.event.TaskState.TheVariants as state
use Rattle.dd_board.specs.Boards.{task_at, tasks_in, of_session}
use Rattle.dd_board.specs.Fit.{IsPlaced}
use Rattle.dd_board.specs.Legal.{Runs, IsLegal}
use Rattle.dd_board.specs.Standing.{is_proved, IsOutcome}
use Rattle.dd_board.specs.View.{Task, SessionView}
use Rattle.dd_board.proofs.Soundness.{sound}
use Rattle.dd_trim.specs.Cited.{renumbered, renumbered_why}
use Rattle.dd_trim.specs.Trimmed.{AreFrom, AreNeeded, DeriveAlike}
use Rattle.dd_trace.specs.Evidence.{IsOwn, ShowsYes}
use Rattle.dd_trace.specs.Proved.{lines_to}
use Rattle.dd_trace.proofs.Lists.{at-take, taken-at}
use Rattle.dd_trace.proofs.Tracing.{IsProof, AreTraced, traced}

pub there-at : {A : Type 0} (xs : List A) (i : ℕ) → i < length xs → (x : A) × (slice_get xs i ≡ Some x)
there-at xs i lt = elim ((slice_get_cases xs i).1) [
  | inl h ↦ (h.0, h.2)
  | inr h ↦ absurd (omega (arith, lt, h.0))
]

taken-twice : {A : Type 0} (xs : List A) (m q : ℕ) → q ≤ m → take q (take m xs) ≡ take q xs
taken-twice [] zero zero le = refl
taken-twice [] zero (suc q) le = absurd (omega (arith, le))
taken-twice [] (suc m) zero le = refl
taken-twice [] (suc m) (suc q) le = refl
taken-twice (x ∷ xs) zero zero le = refl
taken-twice (x ∷ xs) zero (suc q) le = absurd (omega (arith, le))
taken-twice (x ∷ xs) (suc m) zero le = refl
taken-twice (x ∷ xs) (suc m) (suc q) le = ap (λ ys. x ∷ ys) (taken-twice xs m q (omega (arith, le)))

proved-line : (st : TaskState) → is_proved st ≡ true → (n : ℕ) × (st ≡ state.Proved n)
proved-line state.Unknown e = cc
proved-line (state.Open at raised seen) e = cc
proved-line (state.Proved n) e = (n, refl)

root-of : (v : SessionView) → IsOutcome v Proved → (root : Task) × (slice_get v.tasks 0 ≡ Some root) × (is_proved root.state ≡ true)
root-of v proved = by (slice_get v.tasks 0) refl proved
  where
    by : (o : Option Task) → slice_get v.tasks 0 ≡ o → option_map_or (λ (task : Task). is_proved task.state) o false ≡ true
        → (root : Task) × (slice_get v.tasks 0 ≡ Some root) × (is_proved root.state ≡ true)
    by None at e = cc
    by (Some root) at e = (root, at, e)

-- what is cut on stays under other numbers
renumbered-cuts : (onto : List Rule) (f : ℕ → ℕ) (w : Why) → cuts_target onto (renumbered_why f w) ≡ cuts_target onto w
renumbered-cuts onto f why.Bottom = refl
renumbered-cuts onto f (why.Clash a) = refl
renumbered-cuts onto f (why.And at cite) = refl
renumbered-cuts onto f (why.Or at left right) = refl
renumbered-cuts onto f (why.Axiom n left right) = refl
renumbered-cuts onto f (why.Cut on left right) = refl
renumbered-cuts onto f (why.Successor at cite) = refl
renumbered-cuts onto f (why.Bridge h o set cite each) = refl

renumbered-own : (job : Job) (f : ℕ → ℕ) (line : Line) → IsOwn job line → IsOwn job (renumbered f line)
renumbered-own job f line own = record { inside = own.inside; cuts = renumbered-cuts (all_onto job.pinned line.peer) f line.why ∙ own.cuts }

module _ (v : SessionView) (legal : IsLegal v) (placed : IsPlaced v.job) (root : Task) (at : slice_get v.tasks 0 ≡ Some root) (n : ℕ)
    (is : root.state ≡ state.Proved n) where
  trace : Runs v.job v.start v → AreTraced v.job (length v.start.lines) v.tasks v.lines v.props
  trace runs = traced v.job placed v.start v runs

  proof : Runs v.job v.start v → IsProof v.job v.lines Root n
  proof runs =
      let s = sound v.job v.start v runs in
      let same : root ≡ s.root = same_Some root s.root (sym at ∙ s.first) in
      subst (λ k. IsProof v.job v.lines k n) (ap (λ (x : Task). x.key) same ∙ s.asks_query) ((trace runs).proved 0 root n at is)

  below : n < length v.lines
  below = ∥∥₁_elim legal (hlevel props) (λ runs. slice_get_within v.lines n (proof runs).line (proof runs).at)

  abbrev first : List Line
  first = take (n + 1) v.lines

  abbrev last : (line : Line) × (slice_get v.lines n ≡ Some line)
  last = there-at v.lines n below

  same-last : (runs : Runs v.job v.start v) → (proof runs).line ≡ last.0
  same-last runs = same_Some (proof runs).line last.0 (sym (proof runs).at ∙ last.1)

  ends : EndsWithin v.job.query.peer (root_label v.job.query) first
  ends =
      let low = below in
      let many : length first ≡ n + 1 = length-take-le (n + 1) v.lines (omega (arith, low)) in
      record {
        line = last.0;
        is_last = ap (slice_get first) (let e : length first - 1 ≡ n = omega (arith, many) in e) ∙ at-take Line v.lines (n + 1) n last.0 last.1 (omega arith);
        at_peer = ∥∥₁_elim legal (hlevel props) (λ runs. ap (λ (l : Line). l.peer) (sym (same-last runs)) ∙ (proof runs).peer);
        within = ∥∥₁_elim legal (Bool-set _ _)
            (λ runs. ap (λ (l : Line). is_within l.label (root_label v.job.query)) (sym (same-last runs)) ∙ (proof runs).within);
      }

  right : AreRight v.job.pinned first
  right q line e =
      let known = taken-at Line v.lines (n + 1) q line e in
      let low = known.1 in
      ∥∥₁_elim legal (Bool-set _ _) (λ runs.
      ap (λ ls. is_right v.job.pinned (map claim_of ls) line) (taken-twice v.lines (n + 1) q (omega (arith, low)))
      ∙ (trace runs).right q line known.0)

  -- a line of the first ones
  module _ (q : ℕ) (line : Line) (e : slice_get first q ≡ Some line) where
    known-peer : is_in v.job.relevant line.peer ≡ true
    known-peer = ∥∥₁_elim legal (Bool-set _ _) (λ runs. (trace runs).peers q line (taken-at Line v.lines (n + 1) q line e).0)

    known-own : length v.start.lines ≤ q → IsOwn v.job line
    known-own le = record {
      inside = λ other closed. ∥∥₁_elim legal (Bool-set _ _)
          (λ runs. (trace runs).inside q line (taken-at Line v.lines (n + 1) q line e).0 le other closed);
      cuts = ∥∥₁_elim legal (Bool-set _ _) (λ runs. (trace runs).cuts q line (taken-at Line v.lines (n + 1) q line e).0 le);
    }

  -- the lines among these that the last one needs
  shows : (new : List Line) → DeriveAlike first new → AreFrom first new → AreNeeded new → ShowsYes v new
  shows new alike from needed = record {
    derives = alike v.job.pinned v.job.query (record { right = right; last = ends });
    relevant = All-from Line (λ l. is_in v.job.relevant l.peer ≡ true) new (λ q line e.
        let source = from q line e in
        subst (λ (l : Line). is_in v.job.relevant l.peer ≡ true) (sym source.4) (known-peer source.0 source.1 source.2));
    each = λ q line e.
        let source = from q line e in
        record {
          place = source.0;
          source = source.1;
          at = (taken-at Line v.lines (n + 1) source.0 source.1 source.2).0;
          number = source.3;
          same = source.4;
          own = λ le. subst (IsOwn v.job) (sym source.4) (renumbered-own v.job source.3 source.1 (known-own source.0 source.1 source.2 le));
        };
    needed = needed;
  }

module _ (board : List SessionView) (n : ℕ) (v : SessionView) (at : slice_get board n ≡ Some v) (proved : IsOutcome v Proved) where
  pub has-root : 0 < tasks_in board n
  has-root =
      let root = root-of v proved in
      subst (λ k. 0 < k) (sym (ap (λ o. option_map_or (λ (s : SessionView). length s.tasks) o 0) at)) (slice_get_within v.tasks 0 root.0 root.1)

  pub derived : IsLegal v → IsPlaced v.job → (st : TaskState) (lines : List Line) → option_map (λ (t : Task). t.state) (task_at board n 0) ≡ Some st
      → of_session (λ (s : SessionView). s.lines) board n ≡ Some lines → (new : List Line) → DeriveAlike (take (lines_to st) lines) new
      → AreFrom (take (lines_to st) lines) new → AreNeeded new → ShowsYes v new
  derived legal placed st lines state_at lines_at new alike from needed =
      let root = root-of v proved in
      let line = proved-line root.0.state root.2 in
      let same_lines : v.lines ≡ lines = same_Some v.lines lines (sym (ap (option_map (λ (s : SessionView). s.lines)) at) ∙ lines_at) in
      let same_state : root.0.state ≡ st = same_Some root.0.state st
      (sym (ap (option_map (λ (t : Task). t.state)) (ap (option_and_then (λ (s : SessionView). slice_get s.tasks 0)) at ∙ root.1)) ∙ state_at) in
      let count : lines_to st ≡ line.0 + 1 = ap lines_to (sym same_state ∙ line.1) in
      let same : take (lines_to st) lines ≡ take (line.0 + 1) v.lines = ap (take (lines_to st)) (sym same_lines) ∙ ap (λ k. take k v.lines) count in
      shows v legal placed root.0 root.1 line.0 line.1 new (subst (λ ls. DeriveAlike ls new) same alike) (subst (λ ls. AreFrom ls new) same from) needed
