-- The names and roles of a countermodel are given, and peers that are not relevant have no elements.
use Rattle.std.proofs.Common.{◌≡◌, ◌∙◌, ◌<◌, ℕ, true, false, List, Some, ap, refl, subst, sym, inl, inr, arith}
use Rattle.std.specs.List.{All, slice_get}
use Rattle.std.proofs.lemmas.Bool.{cases_Bool, false≢true}
use Rattle.dd_concept.specs.declared.concept.Concept.{Concept}
use Rattle.dd_concept.specs.Names.{names_in, roles_in}
use Rattle.dd_concept.proofs.Sets.{has-get_item}
use Rattle.dd_interp.specs.declared.interp.Interp.{Interp}
use Rattle.dd_interp.specs.Satisfies.{IsShaped}
use Rattle.dd_peer.specs.Relevant.{is_in}
use Rattle.dd_world.specs.declared.world.World.{World}
use Rattle.dd_task.specs.declared.job.Job.{Job}
use Rattle.dd_task.specs.Goals.{peer_of}
use Rattle.dd_task.specs.Keys.{is_among}
use Rattle.dd_task.proofs.Places.{All-at, All-from}
use Rattle.dd_board.specs.Fit.{IsPlaced}
use Rattle.dd_board.specs.Legal.{IsLegal}
use Rattle.dd_board.specs.View.{SessionView}
use Rattle.dd_board.proofs.Fitting.{fit-task}
use Rattle.dd_union.specs.Evidence.{ShowsNo}
use Rattle.dd_union.specs.Inside.{IsNameInClosure, IsRoleInClosure, IsWrittenInClosure}
use Rattle.dd_run.specs.Fit.{closure_for}
use Rattle.dd_run.specs.Given.{ComesFromGiven, IsWrittenInGiven, given_of, is_given_name, is_given_role}
use Rattle.dd_run.proofs.Givens.{closure-comes}
use Rattle.dd_run.proofs.LeastClosures.{closure-for-is}
use Rattle.dd_outcome.specs.Answers.{IsNo}
use Rattle.dd_outcome.proofs.Lists.{any-has, in-contains, one-of}

module _ (job : Job) (i : ℕ) (relevant : is_in job.relevant i ≡ true) where
  comes-at : (k : ℕ) (c : Concept) → slice_get (closure_for job i) k ≡ Some c → ComesFromGiven job c
  comes-at k c e = closure-comes job i (in-contains job.relevant i relevant) c (has-get_item (closure_for job i) k c e)

  name-given : (a : ℕ) → IsNameInClosure job i a → is_given_name job a ≡ true
  name-given a inside =
      let found = one-of Concept (λ c. is_among (names_in c) a) (closure_for job i) (inside (closure_for job i) (closure-for-is job i).is_closed) in
      let comes = comes-at found.0 found.1 found.2 in
      any-has (λ c. is_among (names_in c) a) (given_of job) comes.source comes.given (comes.names a found.3)

  role-given : (r : ℕ) → IsRoleInClosure job i r → is_given_role job r ≡ true
  role-given r inside =
      let found = one-of Concept (λ c. is_among (roles_in c) r) (closure_for job i) (inside (closure_for job i) (closure-for-is job i).is_closed) in
      let comes = comes-at found.0 found.1 found.2 in
      any-has (λ c. is_among (roles_in c) r) (given_of job) comes.source comes.given (comes.roles r found.3)

  written-given : (m : Interp) → IsWrittenInClosure job i m → IsWrittenInGiven job m
  written-given m written = record {
    names = All-from (ℕ × ℕ) (λ p. is_given_name job p.0 ≡ true) m.names
        (λ k p e. name-given p.0 (All-at (ℕ × ℕ) (λ q. IsNameInClosure job i q.0) m.names k p written.names e));
    roles = All-from (ℕ × ℕ × ℕ) (λ t. is_given_role job t.0 ≡ true) m.roles
        (λ k t e. role-given t.0 (All-at (ℕ × ℕ × ℕ) (λ q. IsRoleInClosure job i q.0) m.roles k t written.roles e));
  }

-- without elements there are no names and no roles
empty-given : (job : Job) (m : Interp) → IsShaped m → m.size ≡ 0 → IsWrittenInGiven job m
empty-given job m shaped none = record {
  names = All-from (ℕ × ℕ) (λ p. is_given_name job p.0 ≡ true) m.names
      (λ k p e. let low = All-at (ℕ × ℕ) (λ q. q.1 < m.size) m.names k p shaped.names e in absurd (omega (arith, low, none)));
  roles = All-from (ℕ × ℕ × ℕ) (λ t. is_given_role job t.0 ≡ true) m.roles
      (λ k t e. let low = All-at (ℕ × ℕ × ℕ) (λ q. (q.1 < m.size) × (q.2 < m.size)) m.roles k t shaped.roles e in
      let first = low.0 in absurd (omega (arith, first, none)));
}

-- the world that a quiet session shows
module _ (v : SessionView) (w : World) (legal : IsLegal v) (placed : IsPlaced v.job) (shows : ShowsNo v w) where
  -- each wanted task's peer is relevant
  none-wanted : (i : ℕ) (local : Interp) → slice_get w.locals i ≡ Some local → is_in v.job.relevant i ≡ false → local.size ≡ 0
  none-wanted i local at out = shows.empty i local at (λ t task wanted there peer.
      false≢true (sym out ∙ ap (is_in v.job.relevant) (sym peer) ∙ (fit-task v legal t task there placed).relevant))

  local-given : (i : ℕ) (local : Interp) → slice_get w.locals i ≡ Some local → IsWrittenInGiven v.job local
  local-given i local at = elim (cases_Bool (is_in v.job.relevant i)) [
    | inl relevant ↦ written-given v.job i relevant local (shows.written i local at)
    | inr out ↦ empty-given v.job local (All-at Interp IsShaped w.locals i local shows.counter.world.shaped at) (none-wanted i local at out)
  ]

  pub counters : IsNo v.job w
  counters = record {
    counter = shows.counter;
    empty = none-wanted;
    given = All-from Interp (IsWrittenInGiven v.job) w.locals local-given;
  }
