-- What the flags of a session's tasks say of how it stands.
use Rattle.std.proofs.Common.{ltb-true, ◌≡◌, ◌≢◌, ◌∙◌, ◌⊎◌, ◌↔◌, ℕ, suc, ◌+◌, ◌<◌, ◌≤◌, Bool, true, false, not, cond, ◌&&◌, List, [], ◌∷◌, map, length, nat_lt, Option, None, Some, ap, refl, subst, sym, inl, inr, arith, IsTrue, position, All, is_some, option_map}
use Rattle.std.specs.List.{slice_get, position_or_len}
use Rattle.std.proofs.lemmas.Bool.{cases_Bool, cases_lt, cases_eq, and_parts, and_from, false≢true, false_from_ne_true}
use Rattle.std.proofs.lemmas.Option.{none-some, same_Some, slice_get-map, slice_get_within, get_or_from_slice_get}
use Rattle.std.proofs.lemmas.List.Sums.{fails_before_first}
use Rattle.dd_concept.proofs.Firsts.{position_none}
use Rattle.dd_board.specs.declared.session.Holding.{Holding}
use Rattle.dd_board.specs.declared.session.Slot.{Slot}
use Rattle.dd_board.specs.declared.session.Session.{Session}
use Rattle.dd_board.specs.View.{Task, SessionView, props_for}
use Rattle.dd_board.specs.Wanted.{is_due, is_open_due}
use Rattle.dd_board.specs.declared.event.Outcome.{Outcome}
use Rattle.dd_board.specs.declared.event.Outcome.TheVariants as outcome
use Rattle.dd_board.specs.declared.standing.Stand.{Stand}
use Rattle.dd_board.specs.declared.standing.Stand.TheVariants as stand
use Rattle.dd_board.specs.declared.standing.Found.TheVariants as found
use Rattle.dd_board.specs.Standing.{IsQuiet, IsGoing, IsOutcome, has_proof, has_spent, posts}
use Rattle.dd_board.specs.Takes.{MayBeTaken}
use Rattle.dd_board.specs.Sessions.{holder_of, task_of, session_view, is_held, may_be_taken, is_awaited, IsKept}
use Rattle.dd_board.specs.Stands.{IsNext, IsOut, IsFirstNext, Stirs, IsStand, IsSearched, IsBusyBelow, IsFound}
use Rattle.dd_board.proofs.Outcomes.{only_going}

-- ---- places

module _ (A : Type 0) (p : A → Bool) where
  pub fails-at : (xs : List A) → All (λ x. p x ≡ false) xs → (k : ℕ) (x : A) → slice_get xs k ≡ Some x → p x ≡ false
  fails-at xs all k x e = subst (λ y. p y ≡ false) (get_or_from_slice_get xs k x x e) (all k x (slice_get_within xs k x e))

  position-is : (xs : List A) (k : ℕ) → position p xs ≡ Some k → (position_or_len p xs ≡ k) × (k < length xs)
  position-is xs k e = elim (cases_Bool (nat_lt (position_or_len p xs) (length xs))) [
    | inl t ↦ let at = ap (λ b. cond b (Some (position_or_len p xs)) None) (sym t) ∙ e in
        let same = same_Some (position_or_len p xs) k at in
        (same, let low = ltb-true (position_or_len p xs) (length xs) t in omega (arith, same, low))
    | inr f ↦ absurd (none-some k (ap (λ b. cond b (Some (position_or_len p xs)) None) (sym f) ∙ e))
  ]

  -- the first place at which it passes
  pub found-at : (xs : List A) (k : ℕ) → position p xs ≡ Some k → (x : A) × (slice_get xs k ≡ Some x) × (p x ≡ true)
  found-at xs k e =
      let is = position-is xs k e in
      let first = at-least xs (omega (arith, is.0, is.1)) in
      (first.0, subst (λ n. slice_get xs n ≡ Some first.0) is.0 first.1, first.2)
    where
      at-least : (ys : List A) → position_or_len p ys < length ys → (x : A) × (slice_get ys (position_or_len p ys) ≡ Some x) × (p x ≡ true)
      at-least [] low = absurd (omega (arith, low))
      at-least (y ∷ ys) low = elim (cases_Bool (p y)) [
        | inl passes ↦ (y, ap (λ b. slice_get (y ∷ ys) (cond (not b) (1 + position_or_len p ys) 0)) passes, passes)
        | inr fails ↦
            let here : position_or_len p (y ∷ ys) ≡ suc (position_or_len p ys) =
            ap (λ b. cond (not b) (1 + position_or_len p ys) 0) fails ∙ (let s : 1 + position_or_len p ys ≡ suc (position_or_len p ys) = omega arith in s) in
            let h = at-least ys (omega (arith, here, low)) in
            (h.0, ap (slice_get (y ∷ ys)) here ∙ h.1, h.2)
      ]

  pub fails-before : (xs : List A) (k : ℕ) → position p xs ≡ Some k → (j : ℕ) (x : A) → j < k → slice_get xs j ≡ Some x → p x ≡ false
  fails-before xs k e j x lt at =
      let is = position-is xs k e in
      subst (λ y. p y ≡ false) (get_or_from_slice_get xs j x x at) (fails_before_first p xs j x (omega (arith, is.0, lt)))

-- ---- slots and tasks

pub holder-some : (h : Option Holding) → is_some (option_map holder_of h) ≡ is_some h
holder-some None = refl
holder-some (Some h) = refl

pub task-at : (s : Session) (t : ℕ) (slot : Slot) → slice_get s.tasks t ≡ Some slot → slice_get (session_view s).tasks t ≡ Some (task_of slot)
task-at s t slot e = slice_get-map task_of s.tasks t ∙ ap (option_map task_of) e

pub slot-from : (s : Session) (t : ℕ) (task : Task) → slice_get (session_view s).tasks t ≡ Some task → (slot : Slot) × (slice_get s.tasks t ≡ Some slot) × (task ≡ task_of slot)
slot-from s t task e = from (slice_get s.tasks t) (sym (slice_get-map task_of s.tasks t) ∙ e) refl
  where
    from : (o : Option Slot) → option_map task_of o ≡ Some task → slice_get s.tasks t ≡ o → (slot : Slot) × (slice_get s.tasks t ≡ Some slot) × (task ≡ task_of slot)
    from None q is = cc
    from (Some slot) q is = (slot, is, sym (same_Some (task_of slot) task q))

module _ (s : Session) (kept : IsKept s) where
  due-is : (t : ℕ) (slot : Slot) → slice_get s.tasks t ≡ Some slot → is_due (session_view s) (task_of slot) ≡ (not (is_held slot) && slot.is_due)
  due-is t slot e =
      ap (λ b. not b && is_open_due (session_view s) (props_for (session_view s) (task_of slot)) slot.state) (holder-some slot.holder)
      ∙ ap (λ b. not (is_held slot) && b) (sym (kept.flags t slot e).due)

  pub next-here : (t : ℕ) (slot : Slot) → slice_get s.tasks t ≡ Some slot → may_be_taken slot ≡ true → IsNext (session_view s) t
  next-here t slot e passes =
      let parts = and_parts slot.is_wanted (not (is_held slot) && slot.is_due) passes in
      record {
        task = task_of slot;
        at = task-at s t slot e;
        wanted = (kept.flags t slot e).wanted.0 parts.0;
        due = due-is t slot e ∙ parts.1;
      }

  pub next-there : (t : ℕ) → IsNext (session_view s) t → (slot : Slot) × (slice_get s.tasks t ≡ Some slot) × (may_be_taken slot ≡ true)
  next-there t next =
      let from = slot-from s t next.task next.at in (
        from.0,
        from.1,
        and_from from.0.is_wanted (not (is_held from.0) && from.0.is_due) ((kept.flags t from.0 from.1).wanted.1 next.wanted)
            (sym (due-is t from.0 from.1) ∙ (ap (is_due (session_view s)) (sym from.2) ∙ next.due)),
      )

  pub out-here : (t : ℕ) (slot : Slot) → slice_get s.tasks t ≡ Some slot → is_awaited slot ≡ true → IsOut (session_view s) t
  out-here t slot e passes =
      let parts = and_parts slot.is_wanted (is_held slot) passes in
      record {
        task = task_of slot;
        at = task-at s t slot e;
        wanted = (kept.flags t slot e).wanted.0 parts.0;
        held = holder-some slot.holder ∙ parts.1;
      }

  pub first-next : (t : ℕ) → position may_be_taken s.tasks ≡ Some t → IsFirstNext (session_view s) t
  first-next t e =
      let here = found-at Slot may_be_taken s.tasks t e in
      record {
        next = next-here t here.0 here.1 here.2;
        first = λ u next. elim (cases_lt u t) [
          | inl before ↦
              let there = next-there u next in
              absurd (false≢true (sym (fails-before Slot may_be_taken s.tasks t e u there.0 before there.1) ∙ there.2))
          | inr after ↦ after
        ];
      }

  pub no-next : position may_be_taken s.tasks ≡ None → (u : ℕ) → IsNext (session_view s) u → ⊥
  no-next e u next =
      let there = next-there u next in
      false≢true (sym (fails-at Slot may_be_taken s.tasks (position_none may_be_taken s.tasks e) u there.0 there.1) ∙ there.2)

  pub one-out : position may_be_taken s.tasks ≡ None → (t : ℕ) → position is_awaited s.tasks ≡ Some t → ((u : ℕ) → IsNext (session_view s) u → ⊥) × IsOut (session_view s) t
  one-out none t e = let here = found-at Slot is_awaited s.tasks t e in (no-next none, out-here t here.0 here.1 here.2)

  pub all-quiet : position may_be_taken s.tasks ≡ None → position is_awaited s.tasks ≡ None → IsQuiet (session_view s)
  all-quiet none free t task wanted at =
      let from = slot-from s t task at in (
        false_from_ne_true (is_due (session_view s) task) (λ due. no-next none t (record { task = task; at = at; wanted = wanted; due = due })),
        false_from_ne_true (is_some task.holder) (λ held. false≢true (
            sym (fails-at Slot is_awaited s.tasks (position_none is_awaited s.tasks free) t from.0 from.1)
            ∙ and_from from.0.is_wanted (is_held from.0) ((kept.flags t from.0 from.1).wanted.1 wanted)
            (sym (holder-some from.0.holder) ∙ (ap (λ (x : Task). is_some x.holder) (sym from.2) ∙ held)))),
      )

pub next-stirs : (v : SessionView) (t : ℕ) → IsNext v t → IsQuiet v → ⊥
next-stirs v t next quiet = false≢true (sym (quiet t next.task next.wanted next.at).0 ∙ next.due)

pub out-stirs : (v : SessionView) (t : ℕ) → IsOut v t → IsQuiet v → ⊥
out-stirs v t out quiet = false≢true (sym (quiet t out.task out.wanted out.at).1 ∙ out.held)

stirs-not_quiet : (v : SessionView) (x : Stand) → Stirs v (Some x) → IsQuiet v → ⊥
stirs-not_quiet v (stand.Over o) h quiet = h
stirs-not_quiet v (stand.Due t) h quiet = next-stirs v t h.next quiet
stirs-not_quiet v (stand.Waits t) h quiet = out-stirs v t h.1 quiet

not_going-verdicts : outcome.SpentVerdicts ≡ outcome.Going → ⊥
not_going-verdicts e = cc

pub over-spent : (v : SessionView) (x : Stand) → has_proof v ≡ false → has_spent v ≡ false → Stirs v (Some x) → v.job.budget.verdicts ≤ posts v
    → IsStand v (stand.Over outcome.SpentVerdicts)
over-spent v x proof spent stirs many = ((proof, spent, stirs-not_quiet v x stirs, many), not_going-verdicts)

pub going-on : (v : SessionView) (x : Stand) → has_proof v ≡ false → has_spent v ≡ false → Stirs v (Some x) → posts v < v.job.budget.verdicts → IsStand v x
going-on v (stand.Over o) proof spent h few = absurd h
going-on v (stand.Due t) proof spent h few = ((proof, spent, next-stirs v t h.next, few), h)
going-on v (stand.Waits t) proof spent h few = ((proof, spent, out-stirs v t h.1, few), h.0, h.1)

-- ---- several sessions

session-at : (sessions : List Session) (n : ℕ) (s : Session) → slice_get sessions n ≡ Some s → slice_get (map session_view sessions) n ≡ Some (session_view s)
session-at sessions n s e = slice_get-map session_view sessions n ∙ ap (option_map session_view) e

awaited-next : (board : List SessionView) (n : ℕ) (v : SessionView) (t : ℕ) → slice_get board n ≡ Some v → IsGoing v → IsNext v t → MayBeTaken board n t
awaited-next board n v t at going next = record {
  awaited = record { session = v; at = at; going = going; task = next.task; task_at = next.at; wanted = next.wanted };
  due = next.due;
}

next-awaited : (board : List SessionView) (n : ℕ) (v : SessionView) (t : ℕ) → slice_get board n ≡ Some v → MayBeTaken board n t → IsGoing v × IsNext v t
next-awaited board n v t at may =
    let same : may.awaited.session ≡ v = same_Some may.awaited.session v (sym may.awaited.at ∙ at) in
    subst (λ (x : SessionView). IsGoing x × IsNext x t) same
    (may.awaited.going, record { task = may.awaited.task; at = may.awaited.task_at; wanted = may.awaited.wanted; due = may.due })

one-more : (n m : ℕ) → m < n + 1 → (m < n) ⊎ (m ≡ n)
one-more n m lt = elim (cases_lt m n) [
  | inl low ↦ inl low
  | inr high ↦ inr (omega (arith, lt, high))
]

only-going : (v : SessionView) (o : Outcome) → IsOutcome v o → o ≢ outcome.Going → ¬ (IsGoing v)
only-going v o is other going = other (only_going v o going is)

pub searched-start : (board : List SessionView) → IsSearched board 0 false
searched-start board = record {
  none = λ m u lt may. absurd (omega (arith, lt));
  waits = λ e. absurd (false≢true e);
  over = λ e m s lt at going. absurd (omega (arith, lt));
}

module _ (sessions : List Session) (n : ℕ) (busy : Bool) (s : Session) (at : slice_get sessions n ≡ Some s) (so_far : IsSearched (map session_view sessions) n busy) where
  abbrev board : List SessionView
  board = map session_view sessions

  abbrev v : SessionView
  v = session_view s

  here : slice_get board n ≡ Some v
  here = session-at sessions n s at

  no-more : ((t : ℕ) → IsGoing v → IsNext v t → ⊥) → (m u : ℕ) → m < n + 1 → MayBeTaken board m u → ⊥
  no-more none m u lt may = elim (one-more n m lt) [
    | inl low ↦ so_far.none m u low may
    | inr same ↦ let next = next-awaited board n v u here (subst (λ k. MayBeTaken board k u) same may) in none u next.0 next.1
  ]

  still-busy : IsBusyBelow board n → IsBusyBelow board (n + 1)
  still-busy b = record {
    number = b.number;
    low = (let low = b.low in omega (arith, low));
    session = b.session;
    at = b.at;
    going = b.going;
    task = b.task;
    out = b.out;
  }

  pub searched-over : (o : Outcome) → IsStand v (stand.Over o) → IsSearched board (n + 1) busy
  searched-over o is = record {
    none = no-more (λ t going next. only-going v o is.0 is.1 going);
    waits = λ e. still-busy (so_far.waits e);
    over = λ e m x lt at_m. elim (one-more n m lt) [
      | inl low ↦ so_far.over e m x low at_m
      | inr same ↦ subst (λ (y : SessionView). ¬ (IsGoing y)) (same_Some v x (sym here ∙ (ap (slice_get board) (sym same) ∙ at_m))) (only-going v o is.0 is.1)
    ];
  }

  pub searched-waits : (t : ℕ) → IsStand v (stand.Waits t) → IsSearched board (n + 1) true
  searched-waits t is = record {
    none = no-more (λ u going next. is.1 u next);
    waits = λ e. record { number = n; low = omega arith; session = v; at = here; going = is.0; task = t; out = is.2 };
    over = λ e m x lt at_m going. absurd (false≢true (sym e));
  }

  pub found-due : (t : ℕ) → IsStand v (stand.Due t) → IsFound board (found.Due n t)
  found-due t is = (awaited-next board n v t here is.0 is.1.next, first)
    where
      first : (m u : ℕ) → MayBeTaken board m u → (n < m) ⊎ ((n ≡ m) × (t ≤ u))
      first m u may = elim (cases_lt m n) [
        | inl low ↦ absurd (so_far.none m u low may)
        | inr high ↦ elim (cases_eq n m) [
          | inl same ↦ inr (same, is.1.first u (next-awaited board n v u here (subst (λ k. MayBeTaken board k u) (sym same) may)).1)
          | inr other ↦ inl (omega (arith, high, other))
        ]
      ]

pub found-busy : (board : List SessionView) (n : ℕ) → length board ≤ n → IsSearched board n true → IsFound board found.Busy
found-busy board n all so_far =
    let b = so_far.waits refl in
    record {
      none = λ m u may. so_far.none m u (let low = slice_get_within board m may.awaited.session may.awaited.at in omega (arith, low, all)) may;
      session = b.number;
      task = b.task;
      awaited = record { session = b.session; at = b.at; going = b.going; task = b.out.task; task_at = b.out.at; wanted = b.out.wanted };
      held = b.out.held;
    }

pub found-settled : (board : List SessionView) (n : ℕ) → length board ≤ n → IsSearched board n false → IsFound board found.Settled
found-settled board n all so_far m s at = so_far.over refl m s (let low = slice_get_within board m s at in omega (arith, low, all)) at

-- ---- is it going

proved≢going : outcome.Proved ≡ outcome.Going → ⊥
proved≢going e = cc

spent≢going : outcome.SpentRun ≡ outcome.Going → ⊥
spent≢going e = cc

quiet≢going : outcome.Quiet ≡ outcome.Going → ⊥
quiet≢going e = cc

no-by : (v : SessionView) (o : Outcome) → IsOutcome v o → (o ≡ outcome.Going → ⊥) → IsTrue false ↔ IsGoing v
no-by v o is other = (λ h. absurd (false≢true h), λ g. absurd (only-going v o is other g))

pub no-proved : (v : SessionView) → IsOutcome v outcome.Proved → IsTrue false ↔ IsGoing v
no-proved v is = no-by v outcome.Proved is proved≢going

pub no-spent : (v : SessionView) → IsOutcome v outcome.SpentRun → IsTrue false ↔ IsGoing v
no-spent v is = no-by v outcome.SpentRun is spent≢going

pub no-quiet : (v : SessionView) → IsOutcome v outcome.Quiet → IsTrue false ↔ IsGoing v
no-quiet v is = no-by v outcome.Quiet is quiet≢going

pub no-verdicts : (v : SessionView) → IsOutcome v outcome.SpentVerdicts → IsTrue false ↔ IsGoing v
no-verdicts v is = no-by v outcome.SpentVerdicts is not_going-verdicts

pub yes-going : (v : SessionView) → IsOutcome v outcome.Going → IsTrue true ↔ IsGoing v
yes-going v is = (λ h. is, λ g. refl)
