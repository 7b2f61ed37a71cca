-- What a task was opened with, and that a part is determined by its task.
use Rattle.std.proofs.Common.{◌≡◌, ◌∙◌, ℕ, ◌<◌, length, Option, None, Some, [], ap, refl, subst, sym}
use Rattle.std.specs.List.{slice_get}
use Rattle.std.specs.Option.{option_map_or, option_and_then}
use Rattle.std.proofs.Math.Bool.{Bool-set}
use Rattle.std.proofs.Math.Logic.{∥∥₁_elim}
use Rattle.std.proofs.Props.{props}
use Rattle.std.proofs.lemmas.Option.{same_Some}
use Rattle.dd_interp.specs.declared.interp.Interp.{Interp}
use Rattle.dd_interp.specs.Satisfies.{IsShaped}
use Rattle.dd_world.proofs.Decided.{decides_shape}
use Rattle.dd_task.specs.Goals.{peer_of}
use Rattle.dd_board.specs.declared.event.Event.{Event}
use Rattle.dd_board.specs.declared.event.Event.TheVariants as event
use Rattle.dd_board.specs.declared.event.TaskState.{TaskState}
use Rattle.dd_board.specs.declared.event.TaskState.TheVariants as state
use Rattle.dd_board.specs.View.{Task, SessionView}
use Rattle.dd_board.specs.Wanted.{IsWanted}
use Rattle.dd_board.specs.Legal.{IsLegal}
use Rattle.dd_board.proofs.Steps.{IsSoundView}
use Rattle.dd_board.proofs.Soundness.{sound, peer_declared}
use Rattle.dd_union.specs.Union.{IsPart}
use Rattle.dd_union.specs.Pieces.{opened_by, opening_in, opening_at, raised_in, raised_at, peer_at, IsNoPart, IsPartBy}

opened-inverse : (m : Interp) (x : ℕ) (o : Option Event) → option_and_then opened_by o ≡ Some (m, x)
    → (t : ℕ) × (n : ℕ) × (o ≡ Some (event.Opened t n m x))
opened-inverse m x None e = cc
opened-inverse m x (Some (event.Take t w n s)) e = cc
opened-inverse m x (Some (event.Closed t n c)) e = cc
opened-inverse m x (Some (event.Opened t n k y)) e =
    let same = same_Some (k, y) (m, x) e in
    (t, n, ap (λ (p : Interp × ℕ). Some (event.Opened t n p.0 p.1)) same)
opened-inverse m x (Some (event.Spent t n run)) e = cc
opened-inverse m x (Some (event.Give t n)) e = cc

none-some : {A : Type 0} (o : Option A) (a : A) → o ≡ None → o ≡ Some a → ⊥
none-some None a e h = cc
none-some (Some b) a e h = cc

module _ (v : SessionView) (t : ℕ) where
  module _ (i : ℕ) (m : Interp) (x : ℕ) (part : IsPart v t i m x) where
    pub part-opens : opening_at v t ≡ Some (m, x)
    part-opens =
        ap (option_and_then (λ (task : Task). opening_in v.journal task.state)) part.at
        ∙ ap (opening_in v.journal) part.is_open ∙ ap (option_and_then opened_by) part.opened

    pub part-peer : peer_at v t ≡ i
    part-peer = ap (λ o. option_map_or (λ (task : Task). peer_of v.job task.key) o 0) part.at ∙ part.peer

    pub part-raised : raised_at v t ≡ part.raised
    part-raised = ap (λ o. option_map_or (λ (task : Task). raised_in task.state) o []) part.at ∙ ap raised_in part.is_open

  module _ (task : Task) (at : slice_get v.tasks t ≡ Some task) where
    reads : opening_at v t ≡ opening_in v.journal task.state
    reads = ap (option_and_then (λ (k : Task). opening_in v.journal k.state)) at

    no_opening : opening_at v t ≡ None → IsNoPart v t
    no_opening e i m x part = none-some (opening_at v t) (m, x) e (part-opens i m x part)

    module _ (wanted : IsWanted v t) where
      by_state : (st : TaskState) → task.state ≡ st → (m : Interp) (x : ℕ) → opening_in v.journal st ≡ Some (m, x) → IsPart v t (peer_at v t) m x
      by_state state.Unknown is m x e = cc
      by_state (state.Open event raised seen) is m x e =
          let found = opened-inverse m x (slice_get v.journal event) e in
          record {
            wanted = wanted;
            task = task;
            at = at;
            peer = sym (ap (λ o. option_map_or (λ (k : Task). peer_of v.job k.key) o 0) at);
            event = event;
            raised = raised;
            seen = seen;
            is_open = is;
            posted = found.0;
            number = found.1;
            opened = found.2;
          }
      by_state (state.Proved line) is m x e = cc

      by_opening : (o : Option (Interp × ℕ)) → opening_at v t ≡ o → IsPartBy v t o
      by_opening None e = no_opening e
      by_opening (Some o) e = by_state task.state refl o.0 o.1 (sym reads ∙ e)

      pub wanted-opening : IsPartBy v t (opening_at v t)
      wanted-opening = by_opening (opening_at v t) refl

  pub unwanted : ¬ (IsWanted v t) → IsNoPart v t
  unwanted n i m x part = n part.wanted

  pub same-part : (i : ℕ) (m : Interp) (x : ℕ) → IsPart v t i m x → (j : ℕ) (n : Interp) (y : ℕ) → IsPart v t j n y
      → (i ≡ j) × (m ≡ n) × (x ≡ y)
  same-part i m x a j n y b =
      let same = same_Some (m, x) (n, y) (sym (part-opens i m x a) ∙ part-opens j n y b) in
      (sym (part-peer i m x a) ∙ part-peer j n y b, ap (λ (p : Interp × ℕ). p.0) same, ap (λ (p : Interp × ℕ). p.1) same)

-- ---- parts of legal sessions

same_model : (t u n k : ℕ) (m l : Interp) (x y : ℕ) → event.Opened t n m x ≡ event.Opened u k l y → (m ≡ l) × (x ≡ y)
same_model t u n k m l x y e = (cc, cc)

-- the model is one of a declared peer, and the element is one of it
pub record IsFitPart (v : SessionView) (i : ℕ) (m : Interp) (x : ℕ) : Type 0 where
  pub declared : i < length v.job.pinned.peers
  pub shaped : IsShaped m
  pub element : x < m.size

sound-part : (v : SessionView) → IsSoundView v → (t i : ℕ) (m : Interp) (x : ℕ) → IsPart v t i m x → IsFitPart v i m x
sound-part v s t i m x part =
    let opening = (s.each t part.task part.at).opened part.event part.raised part.seen part.is_open in
    let same = same_model opening.t part.posted opening.number part.number opening.model m opening.element x
    (same_Some (event.Opened opening.t opening.number opening.model opening.element) (event.Opened part.posted part.number m x)
    (sym opening.journalled ∙ part.opened)) in
    record {
      declared = subst (λ j. j < length v.job.pinned.peers) part.peer (peer_declared v.job part.task.key (s.each t part.task part.at).declared);
      shaped = subst IsShaped same.0 opening.right.shaped;
      element = subst (λ n. n < m.size) same.1 (subst (λ (n : Interp). opening.element < n.size) same.0 opening.right.element);
    }

pub legal-part : (v : SessionView) → IsLegal v → (t i : ℕ) (m : Interp) (x : ℕ) → IsPart v t i m x → IsFitPart v i m x
legal-part v legal t i m x part = record {
  declared = ∥∥₁_elim legal (hlevel props) (λ runs. (sound-part v (sound v.job v.start v runs) t i m x part).declared);
  shaped = (decides_shape m).0 (∥∥₁_elim legal (Bool-set _ _)
      (λ runs. (decides_shape m).1 (sound-part v (sound v.job v.start v runs) t i m x part).shaped));
  element = ∥∥₁_elim legal (hlevel props) (λ runs. (sound-part v (sound v.job v.start v runs) t i m x part).element);
}
