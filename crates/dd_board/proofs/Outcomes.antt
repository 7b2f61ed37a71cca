-- Where a session is not going, only a Give is allowed, and it leaves the outcome.
use Rattle.std.proofs.Common.{◌≡◌, ◌∙◌, ◌⊎◌, ℕ, zero, suc, ◌+◌, Bool, true, false, not, ◌||◌, cond, List, [], ◌∷◌, Option, None, Some, ap, refl, sym, inl, inr, arith}
use Rattle.std.specs.List.{slice_get}
use Rattle.std.specs.Option.{option_map_or, is_some}
use Rattle.std.proofs.Math.Logic.{∥∥₁_map}
use Rattle.std.proofs.lemmas.Bool.{false≢true, and_parts, and_from, false_from_ne_true}
use Rattle.std.proofs.lemmas.List.Folds.{list_any-append}
use Rattle.std.proofs.lemmas.List.Sums.{sum_by-append}
use Rattle.dd_task.specs.declared.line.Line.{Line}
use Rattle.dd_board.specs.declared.event.Event.{Event}
use Rattle.dd_board.specs.declared.event.Event.TheVariants as event
use Rattle.dd_board.specs.declared.event.Outcome.{Outcome}
use Rattle.dd_board.specs.declared.event.Outcome.TheVariants as outcome
use Rattle.dd_board.specs.View.{Holder, Task, SessionView, into_peer, props_for, change_at}
use Rattle.dd_task.specs.Goals.{peer_of}
use Rattle.dd_board.specs.Wanted.{is_open_due, is_due, raises, Wanted, root, raised}
use Rattle.dd_board.specs.Standing.{is_proved, has_proof, is_post, posts, is_spent, has_spent, IsQuiet, IsOutcome, IsGoing}
use Rattle.dd_board.specs.Steps.{given_back, apply}
use Rattle.dd_board.specs.Allowed.{IsAllowed}
use Rattle.dd_board.proofs.Changes.{changed-at, still-at}
use Rattle.dd_board.proofs.Steps.{same_props}
use Rattle.dd_board.proofs.Waiting.{HeldAreDue, still_due}

pub only_going : (v : SessionView) (o : Outcome) → IsGoing v → IsOutcome v o → o ≡ outcome.Going
only_going v outcome.Proved g is = absurd (false≢true (sym g.0 ∙ is))
only_going v outcome.SpentRun g is = absurd (false≢true (sym g.1 ∙ is.1))
only_going v outcome.Quiet g is = absurd (g.2 is.2)
only_going v outcome.SpentVerdicts g is = absurd (let a = g.3 in let b = is.3 in omega (arith, a, b))
only_going v outcome.Going g is = refl

read-changed : (A : Type 0) (f : A → A) (g : A → Bool) → ((a : A) → g (f a) ≡ g a) → (xs : List A) (n u : ℕ)
    → option_map_or g (slice_get (change_at f xs n) u) false ≡ option_map_or g (slice_get xs u) false
read-changed A f g same [] n u = refl
read-changed A f g same (x ∷ xs) zero zero = same x
read-changed A f g same (x ∷ xs) zero (suc u) = refl
read-changed A f g same (x ∷ xs) (suc n) zero = refl
read-changed A f g same (x ∷ xs) (suc n) (suc u) = read-changed A f g same xs n u

or-false : (a : Bool) → (a || false) ≡ a
or-false true = refl
or-false false = refl

module _ (v : SessionView) (waits : HeldAreDue v) (t number : ℕ) (lines : List Line) where
  abbrev w : SessionView
  w = apply v (event.Give t number) lines

  key_or : (b a : Task) (u : ℕ) → (b ≡ a) ⊎ ((u ≡ t) × (b ≡ given_back a)) → (b.key ≡ a.key) × (b.state ≡ a.state)
  key_or b a u (inl e) = (ap (λ (x : Task). x.key) e, ap (λ (x : Task). x.state) e)
  key_or b a u (inr e) = (ap (λ (x : Task). x.key) e.1, ap (λ (x : Task). x.state) e.1)

  on : (u : ℕ) (a : Task) → slice_get v.tasks u ≡ Some a → (b : Task) × (slice_get w.tasks u ≡ Some b) × (b.key ≡ a.key)
  on u a at = let h = still-at Task given_back v.tasks t u a at in (h.0, h.1, (key_or h.0 a u h.2).0)

  back : (u : ℕ) (b : Task) → slice_get w.tasks u ≡ Some b → (a : Task) × (slice_get v.tasks u ≡ Some a) × (a.key ≡ b.key)
  back u b at = let h = changed-at Task given_back v.tasks t u b at in (h.0, h.1, sym (key_or b h.0 u h.2).0)

  wanted_back : (u : ℕ) → Wanted w u → Wanted v u
  wanted_back _ root = root
  wanted_back _ (raised x u k r) =
      let h = changed-at Task given_back v.tasks t x r.0 r.1 in
      raised x u (wanted_back x k) (h.0, h.1, ap (λ s. raises s u) (sym (key_or r.0 h.0 x h.2).1) ∙ r.2)

  wanted_on : (u : ℕ) → Wanted v u → Wanted w u
  wanted_on _ root = root
  wanted_on _ (raised x u k r) =
      let h = still-at Task given_back v.tasks t x r.0 r.1 in
      raised x u (wanted_on x k) (h.0, h.1, ap (λ s. raises s u) (key_or h.0 r.0 x h.2).1 ∙ r.2)

  -- the same tasks are unknown or stale
  due_back : (b a : Task) → b.key ≡ a.key → b.state ≡ a.state → is_open_due w (props_for w b) b.state ≡ true → is_open_due v (props_for v a) a.state ≡ true
  due_back b a k s e = still_due w v back (same_props v.props) (peer_of v.job a.key) a.state
      (ap (is_open_due w (props_for w a)) (sym s) ∙ ap (λ key. is_open_due w (into_peer v.props (peer_of v.job key)) b.state) (sym k) ∙ e)

  due_on : (b a : Task) → b.key ≡ a.key → b.state ≡ a.state → is_open_due v (props_for v a) a.state ≡ true → is_open_due w (props_for w b) b.state ≡ true
  due_on b a k s e = ap (is_open_due w (props_for w b)) s ∙ ap (λ key. is_open_due w (into_peer v.props (peer_of v.job key)) a.state) k
      ∙ still_due v w on (same_props v.props) (peer_of v.job a.key) a.state e

  free_after : (b a : Task) (u : ℕ) → is_some a.holder ≡ false → (b ≡ a) ⊎ ((u ≡ t) × (b ≡ given_back a)) → is_some b.holder ≡ false
  free_after b a u e (inl q) = ap (λ (x : Task). is_some x.holder) q ∙ e
  free_after b a u e (inr q) = ap (λ (x : Task). is_some x.holder) q.1

  quiet_on : IsQuiet v → IsQuiet w
  quiet_on quiet u b k at =
      let h = changed-at Task given_back v.tasks t u b at in
      let same = key_or b h.0 u h.2 in
      let calm = quiet u h.0 (∥∥₁_map k (wanted_back u)) h.1 in (
        false_from_ne_true (is_due w b) (λ e. false≢true (sym calm.0
            ∙ and_from (not (is_some h.0.holder)) (is_open_due v (props_for v h.0) h.0.state) (ap not calm.1)
            (due_back b h.0 same.0 same.1 (and_parts (not (is_some b.holder)) (is_open_due w (props_for w b) b.state) e).1))),
        free_after b h.0 u calm.1 h.2,
      )

  quiet_back : IsQuiet w → IsQuiet v
  quiet_back quiet u a k at =
      let h = still-at Task given_back v.tasks t u a at in
      let same = key_or h.0 a u h.2 in
      let calm = quiet u h.0 (∥∥₁_map k (wanted_on u)) h.1 in
      let not_waiting : is_open_due v (props_for v a) a.state ≡ true → ⊥ = λ e. false≢true (sym calm.0
      ∙ and_from (not (is_some h.0.holder)) (is_open_due w (props_for w h.0) h.0.state) (ap not calm.1) (due_on h.0 a same.0 same.1 e)) in (
        false_from_ne_true (is_due v a) (λ e. not_waiting (and_parts (not (is_some a.holder)) (is_open_due v (props_for v a) a.state) e).1),
        no_holder a.holder (λ g e. not_waiting (waits u a g at e)),
      )
    where
      no_holder : (o : Option Holder) → ((g : Holder) → o ≡ Some g → ⊥) → is_some o ≡ false
      no_holder None n = refl
      no_holder (Some g) n = absurd (n g refl)

  proof_same : has_proof w ≡ has_proof v
  proof_same = read-changed Task given_back (λ (x : Task). is_proved x.state) (λ a. refl) v.tasks t 0

  spent_same : has_spent w ≡ has_spent v
  spent_same = list_any-append is_spent v.journal (event.Give t number ∷ []) ∙ or-false (has_spent v)

  posts_same : posts w ≡ posts v
  posts_same = sum_by-append (λ x. cond (is_post x) 1 0) v.journal (event.Give t number ∷ []) ∙ (let z : posts v + 0 ≡ posts v = omega arith in z)

  give_stays : (o : Outcome) → IsOutcome v o → (o ≡ outcome.Going → ⊥) → IsOutcome w o
  give_stays outcome.Proved is n = proof_same ∙ is
  give_stays outcome.SpentRun is n = (proof_same ∙ is.0, spent_same ∙ is.1)
  give_stays outcome.Quiet is n = (proof_same ∙ is.0, spent_same ∙ is.1, quiet_on is.2)
  give_stays outcome.SpentVerdicts is n =
      (proof_same ∙ is.0, spent_same ∙ is.1, λ q. is.2 (quiet_back q), (let e = posts_same in let m = is.3 in omega (arith, e, m)))
  give_stays outcome.Going is n = absurd (n refl)

pub outcome_stays : (v : SessionView) → HeldAreDue v → (e : Event) (lines : List Line) (o : Outcome) → IsAllowed v e lines → IsOutcome v o
    → (o ≡ outcome.Going → ⊥) → IsOutcome (apply v e lines) o
outcome_stays v d (event.Take t worker number seen) lines o may is n = absurd (n (only_going v o may.going is))
outcome_stays v d (event.Closed t number count) lines o may is n = absurd (n (only_going v o may.going is))
outcome_stays v d (event.Opened t number m x) lines o may is n = absurd (n (only_going v o may.going is))
outcome_stays v d (event.Spent t number run) lines o may is n = absurd (n (only_going v o may.going is))
outcome_stays v d (event.Give t number) lines o may is n = give_stays v d t number lines o is n
