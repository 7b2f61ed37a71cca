-- A session that begins is kept.
use Rattle.std.proofs.Common.{ap₂, ◌≡◌, ◌∙◌, ℕ, zero, suc, ◌<◌, true, false, List, [], ◌∷◌, map, length, None, Some, ap, refl, subst, sym, arith, All, count_by}
use Rattle.std.specs.List.{slice_get, list_any}
use Rattle.std.proofs.lemmas.List.{length-map}
use Rattle.std.proofs.lemmas.List.Elements.{All-nil}
use Rattle.std.proofs.lemmas.Option.{same_Some, none-some}
use Rattle.dd_peer.specs.declared.version.PeerVersion.{PeerVersion}
use Rattle.dd_peer.specs.Relevant.{is_in}
use Rattle.dd_task.specs.declared.job.Job.{Job}
use Rattle.dd_task.specs.declared.job.Key.TheVariants.{Root}
use Rattle.dd_task.specs.declared.line.Line.{Line}
use Rattle.dd_task.specs.declared.line.Prop.{Prop}
use Rattle.dd_board.specs.declared.event.TaskState.TheVariants as state
use Rattle.dd_board.specs.declared.session.Slot.{Slot}
use Rattle.dd_board.specs.declared.session.Session.{Session}
use Rattle.dd_board.specs.View.{into_peer}
use Rattle.dd_board.specs.declared.event.Event.{Event}
use Rattle.dd_board.specs.Standing.{is_post, is_spent}
use Rattle.dd_board.specs.Wanted.{root}
use Rattle.dd_board.specs.Legal.{begun, empty_start, IsSmall, IsProvedBy, IsStart, opened, IsLegal}
use Rattle.dd_board.specs.Fit.{HasRules}
use Rattle.dd_board.specs.Sessions.{task_of, session_view, is_held, HasFlags, IsKept}
use Rattle.dd_board.specs.Beginning.{no_props, root_slots}

none-into : (peers : List PeerVersion) (i : ℕ) → into_peer (map (λ v. []) peers) i ≡ []
none-into [] i = refl
none-into (v ∷ peers) zero = refl
none-into (v ∷ peers) (suc i) = none-into peers i

pub empty-is_start : (job : Job) → job.query.peer < length job.pinned.peers → IsStart job (empty_start job.pinned)
empty-is_start job low = record {
  declared = low;
  each_peer = length-map job.pinned.peers (λ v. []);
  right = λ k line at. absurd (none-some line at);
  peers = All-nil (λ (line : Line). is_in job.relevant line.peer ≡ true);
  small = All-nil (λ (line : Line). All IsSmall line.label);
  into_relevant = λ i n prop at. absurd (none-some prop (ap (λ xs. slice_get xs n) (sym (none-into job.pinned.peers i)) ∙ at));
  by_rules = λ i. subst (All (HasRules job.pinned i)) (sym (none-into job.pinned.peers i)) (All-nil (HasRules job.pinned i));
  proved = λ i. subst (All (IsProvedBy job.pinned i [])) (sym (none-into job.pinned.peers i)) (All-nil (IsProvedBy job.pinned i []));
}

pub begun-view : (s : Session) (job : Job) → s.job ≡ job → s.tasks ≡ root_slots → s.lines ≡ [] → s.props ≡ no_props job.pinned.peers → s.journal.items ≡ [] → s.next ≡ 0
    → session_view s ≡ begun job (empty_start job.pinned)
begun-view s job job_is tasks lines props journal next =
    ap (λ (j : Job). record (session_view s) { job = j; start = empty_start j.pinned }) job_is
    ∙ (ap₂ (λ (ts : List Slot) (ls : List Line). record (session_view s) { job = job; start = empty_start job.pinned; tasks = map task_of ts; lines = ls }) tasks lines
    ∙ (ap₂ (λ (ps : List (List Prop)) (es : List Event). record (session_view s) { job = job; start = empty_start job.pinned; tasks = map task_of root_slots; lines = []; props = ps; journal = es }) props journal
    ∙ ap (λ n. record (begun job (empty_start job.pinned)) { next = n }) next))

pub begun-kept : (s : Session) (job : Job) → job.query.peer < length job.pinned.peers → s.job ≡ job → s.tasks ≡ root_slots → s.lines ≡ [] → s.props ≡ no_props job.pinned.peers
    → s.journal.items ≡ [] → s.next ≡ 0 → s.held ≡ 0 → s.posts ≡ 0 → s.has_spent ≡ false → IsKept s
begun-kept s job low job_is tasks lines props journal next held counted spent =
    let view = begun-view s job job_is tasks lines props journal next in
    record {
      legal = subst IsLegal (sym view) ∣ opened (empty-is_start job low) ∣₁;
      flags = λ t slot at. subst (λ v. HasFlags v t slot) (sym view) (of_root t slot (ap (λ xs. slice_get xs t) (sym tasks) ∙ at));
      held = held ∙ sym (ap (count_by is_held) tasks);
      posts_counted = counted ∙ sym (ap (count_by is_post) journal);
      spent = spent ∙ sym (ap (list_any is_spent) journal);
      room = (let l = ap length journal in omega (arith, l, held));
      numbered = (let l = ap length journal in omega (arith, l, held));
      few_tasks = (let l = ap length tasks in omega (arith, l));
      few_lines = (let l = ap length lines in omega (arith, l));
    }
  where
    of_root : (t : ℕ) (slot : Slot) → slice_get root_slots t ≡ Some slot → HasFlags (begun job (empty_start job.pinned)) t slot
    of_root zero slot at = subst (HasFlags (begun job (empty_start job.pinned)) 0) (same_Some (record { key = Root; holder = None; state = state.Unknown; is_due = true; is_wanted = true }) slot at)
        (record { due = refl; wanted = (λ h. ∣ root ∣₁, λ h. refl) })
    of_root (suc t) slot at = absurd (none-some slot at)
