-- Marks that spread from the root to what marked tasks raised, until nothing is left to be marked.
use Rattle.std.proofs.Common.{◌≡◌, ◌≢◌, ◌∙◌, ◌⊎◌, ◌↔◌, ℕ, zero, suc, ◌+◌, ◌<◌, ◌≤◌, Bool, true, false, not, ◌||◌, IsTrue, List, [], ◌∷◌, map, length, Option, None, Some, ap, refl, subst, sym, inl, inr, arith, count_by, option_map}
use Rattle.std.specs.List.{slice_get}
use Rattle.std.specs.Option.{option_map_or}
use Rattle.std.proofs.Math.Bool.{Bool-set}
use Rattle.std.proofs.Math.Logic.{∥∥₁_map, ∥∥₁_elim}
use Rattle.std.proofs.lemmas.Bool.{cases_eq, cases_lt, false≢true}
use Rattle.std.proofs.lemmas.List.{length-map}
use Rattle.std.proofs.lemmas.Option.{same_Some, slice_get-map, slice_get_within, none-some}
use Rattle.dd_task.proofs.Places.{among-at, at-among}
use Rattle.dd_board.specs.declared.event.TaskState.{TaskState}
use Rattle.dd_board.specs.declared.event.TaskState.TheVariants as state
use Rattle.dd_board.specs.declared.session.Slot.{Slot}
use Rattle.dd_board.specs.declared.session.Session.{Session}
use Rattle.dd_board.specs.View.{Task, SessionView, props_for, change_at}
use Rattle.dd_board.specs.Wanted.{is_open_due, raises, Raises, Wanted, root, raised, IsWanted}
use Rattle.dd_board.specs.Sessions.{task_of, session_view}
use Rattle.dd_board.specs.Flags.{with_want, with_due, IsRenewed, IsAnew, raised_of, raised_at, is_marked, is_unmarked, AreWanted, IsSpread, Changes, AreReached, AreClosed, Closes, Reaches}
use Rattle.dd_board.proofs.Posts.{changed-apart}
use Rattle.dd_board.proofs.Slots.{one, map-unchanged, count-changed}

pub marked-at : (b : Bool) (tasks : List Slot) (u : ℕ) → u < length tasks → is_marked (change_at (with_want b) tasks u) u ≡ b
marked-at b [] u low = absurd (omega (arith, low))
marked-at b (x ∷ tasks) zero low = refl
marked-at b (x ∷ tasks) (suc u) low = marked-at b tasks u (omega (arith, low))

pub marked-else : (b : Bool) (tasks : List Slot) (u t : ℕ) → t ≢ u → is_marked (change_at (with_want b) tasks u) t ≡ is_marked tasks t
marked-else b [] u t ne = refl
marked-else b (x ∷ tasks) zero zero ne = absurd (ne refl)
marked-else b (x ∷ tasks) zero (suc t) ne = refl
marked-else b (x ∷ tasks) (suc u) zero ne = refl
marked-else b (x ∷ tasks) (suc u) (suc t) ne = marked-else b tasks u t (λ e. ne (ap suc e))

pub marked-low : (tasks : List Slot) (t : ℕ) → is_marked tasks t ≡ true → t < length tasks
marked-low [] t e = absurd (false≢true e)
marked-low (x ∷ tasks) zero e = omega arith
marked-low (x ∷ tasks) (suc t) e = let low = marked-low tasks t e in omega (arith, low)

raised-read : (o : Option Slot) → option_map_or (λ (x : Slot). raised_of x.state) o [] ≡ option_map_or (λ (x : Task). raised_of x.state) (option_map task_of o) []
raised-read None = refl
raised-read (Some x) = refl

raised-by_tasks : (tasks : List Slot) (k : ℕ) → raised_at tasks k ≡ option_map_or (λ (x : Task). raised_of x.state) (slice_get (map task_of tasks) k) []
raised-by_tasks tasks k = raised-read (slice_get tasks k) ∙ ap (λ o. option_map_or (λ (x : Task). raised_of x.state) o []) (sym (slice_get-map task_of tasks k))

pub raised-same : (old new : List Slot) (k : ℕ) → map task_of new ≡ map task_of old → raised_at new k ≡ raised_at old k
raised-same old new k e = raised-by_tasks new k ∙ (ap (λ ts. option_map_or (λ (x : Task). raised_of x.state) (slice_get ts k) []) e ∙ sym (raised-by_tasks old k))

pub length-same : (old new : List Slot) → map task_of new ≡ map task_of old → length new ≡ length old
length-same old new e = sym (length-map new task_of) ∙ (ap length e ∙ length-map old task_of)

raises-at : (s : TaskState) (j u : ℕ) → slice_get (raised_of s) j ≡ Some u → raises s u ≡ true
raises-at state.Unknown j u e = absurd (none-some u e)
raises-at (state.Open at asks seen) j u e = at-among asks j u e
raises-at (state.Proved line) j u e = absurd (none-some u e)

at-raises : (s : TaskState) (u : ℕ) → raises s u ≡ true → (j : ℕ) × (slice_get (raised_of s) j ≡ Some u)
at-raises state.Unknown u e = absurd (false≢true e)
at-raises (state.Open at asks seen) u e = among-at asks u e
at-raises (state.Proved line) u e = absurd (false≢true e)

-- what task k raised, as the relation says it
raises-slot : (v : SessionView) (tasks : List Slot) (k j u : ℕ) → v.tasks ≡ map task_of tasks → slice_get (raised_at tasks k) j ≡ Some u → Raises v k u
raises-slot v tasks k j u is at = from (slice_get tasks k) refl
  where
    from : (o : Option Slot) → slice_get tasks k ≡ o → Raises v k u
    from None e = absurd (none-some u (ap (λ o. slice_get (option_map_or (λ (x : Slot). raised_of x.state) o []) j) (sym e) ∙ at))
    from (Some x) e = (
      task_of x,
      ap (λ ts. slice_get ts k) is ∙ (slice_get-map task_of tasks k ∙ ap (option_map task_of) e),
      raises-at x.state j u (ap (λ o. slice_get (option_map_or (λ (x : Slot). raised_of x.state) o []) j) (sym e) ∙ at),
    )

-- ---- spreading

pub spread-none : (tasks : List Slot) → IsSpread tasks tasks
spread-none tasks = record { same = refl; more = λ t h. h; sound = λ v is h. h; fewer = (omega arith) }

pub spread-both : (a b c : List Slot) → IsSpread a b → IsSpread b c → IsSpread a c
spread-both a b c first then = record {
  same = then.same ∙ first.same;
  more = λ t h. then.more t (first.more t h);
  sound = λ v is h. then.sound v (is ∙ sym first.same) (first.sound v is h);
  fewer = (let x = first.fewer in let y = then.fewer in omega (arith, x, y));
}

module _ (old new : List Slot) (k j u : ℕ) (marked : is_marked old k ≡ true) (at : slice_get (raised_at old k) j ≡ Some u)
    (low : u < length old) (fresh : is_marked old u ≡ false) (is : new ≡ change_at (with_want true) old u) where
  item : (xs : List Slot) (n : ℕ) → n < length xs → (x : Slot) × (slice_get xs n ≡ Some x) × (is_marked xs n ≡ x.is_wanted)
  item [] n lt = absurd (omega (arith, lt))
  item (x ∷ xs) zero lt = (x, refl, refl)
  item (x ∷ xs) (suc n) lt = item xs n (omega (arith, lt))

  pub want-fewer : count_by is_unmarked new < count_by is_unmarked old
  want-fewer =
      let x = item old u low in
      let count = count-changed is_unmarked (with_want true) old u x.0 x.1 in
      let was : one (is_unmarked x.0) ≡ 1 = ap (λ b. one (not b)) (sym x.2 ∙ fresh) in
      let e = ap (count_by is_unmarked) is in
      omega (arith, count, was, e)

  pub want-spreads : IsSpread old new
  want-spreads = record {
    same = ap (map task_of) is ∙ map-unchanged task_of (with_want true) (λ x. refl) old u;
    more = λ t h. ap (λ xs. is_marked xs t) is ∙ still t h;
    sound = λ v tasks h t e. now v tasks h t (ap (λ xs. is_marked xs t) (sym is) ∙ e);
    fewer = (let f = want-fewer in omega (arith, f));
  }
    where
      still : (t : ℕ) → is_marked old t ≡ true → is_marked (change_at (with_want true) old u) t ≡ true
      still t h = elim (cases_eq t u) [
        | inl same ↦ ap (is_marked (change_at (with_want true) old u)) same ∙ marked-at true old u low
        | inr other ↦ marked-else true old u t other ∙ h
      ]

      now : (v : SessionView) → v.tasks ≡ map task_of old → AreWanted v old → (t : ℕ) → is_marked (change_at (with_want true) old u) t ≡ true → IsWanted v t
      now v tasks h t e = elim (cases_eq t u) [
        | inl same ↦ subst (IsWanted v) (sym same) (∥∥₁_map (h k marked) (λ w. raised k u w (raises-slot v old k j u tasks at)))
        | inr other ↦ h t (sym (marked-else true old u t other) ∙ e)
      ]

-- one of what task k raised was looked at: it was marked now, or was marked before, or is not there
pub reach-next : (a b c : List Slot) (k j u : ℕ) (has more : Bool) → is_marked a k ≡ true → slice_get (raised_at b k) j ≡ Some u
    → IsSpread a b → Changes has a b → Reaches has b k j
    → (more ≡ true → (c ≡ change_at (with_want true) b u) × (u < length b) × (is_marked b u ≡ false))
    → (more ≡ false → (c ≡ b) × (u < length b → is_marked b u ≡ true))
    → IsSpread a c × Changes (has || more) a c × Reaches (has || more) c k (j + 1)
reach-next a b c k j u true true marked at first changes reaches yes' no' =
    let w = yes' refl in
    let s = want-spreads b c k j u (first.more k marked) at w.1 w.2 w.0 in
    let f = s.fewer in
    (spread-both a b c first s, omega (arith, f, changes), tt)
reach-next a b c k j u true false marked at first changes reaches yes' no' =
    let w = no' refl in
    (subst (IsSpread a) (sym w.0) first, subst (λ xs. count_by is_unmarked xs < count_by is_unmarked a) (sym w.0) changes, tt)
reach-next a b c k j u false true marked at first changes reaches yes' no' =
    let w = yes' refl in
    let s = want-spreads b c k j u (first.more k marked) at w.1 w.2 w.0 in
    let f = want-fewer b c k j u (first.more k marked) at w.1 w.2 w.0 in
    let e = ap (count_by is_unmarked) changes in
    (spread-both a b c first s, omega (arith, f, e), tt)
reach-next a b c k j u false false marked at first changes reaches yes' no' =
    let w = no' refl in (
      subst (IsSpread a) (sym w.0) first,
      w.0 ∙ changes,
      subst (λ xs. AreReached xs k (j + 1)) (sym w.0) (λ i t lt e low. elim (cases_lt i j) [
        | inl before ↦ reaches i t before e low
        | inr here ↦
            let same : i ≡ j = omega (arith, lt, here) in
            let is : u ≡ t = same_Some u t (sym at ∙ (ap (slice_get (raised_at b k)) (sym same) ∙ e)) in
            subst (λ x. is_marked b x ≡ true) is (w.1 (subst (λ x. x < length b) (sym is) low))
      ]),
    )

-- a task was looked at whole
pub close-next : (a b c : List Slot) (k : ℕ) (has more : Bool) → IsSpread a b → Changes has a b → Closes has b k → IsSpread b c → Changes more b c
    → (more ≡ false → is_marked c k ≡ true → AreReached c k (length (raised_at c k)))
    → IsSpread a c × Changes (has || more) a c × Closes (has || more) c (k + 1)
close-next a b c k true more first changes closes then next reached =
    let f = then.fewer in (spread-both a b c first then, omega (arith, f, changes), tt)
close-next a b c k false true first changes closes then next reached =
    let e = ap (count_by is_unmarked) changes in (spread-both a b c first then, omega (arith, next, e), tt)
close-next a b c k false false first changes closes then next reached = (
  spread-both a b c first then,
  next ∙ changes,
  λ i lt marked. elim (cases_lt i k) [
    | inl before ↦ subst (λ xs. AreReached xs i (length (raised_at xs i))) (sym next) (closes i before (ap (λ xs. is_marked xs i) (sym next) ∙ marked))
    | inr here ↦
        let same : i ≡ k = omega (arith, lt, here) in
        subst (λ x. AreReached c x (length (raised_at c x))) (sym same) (reached refl (ap (is_marked c) (sym same) ∙ marked))
  ],
)

-- ---- the whole

-- so far only wanted tasks are marked, and the root is
pub record IsRooted (start tasks : List Slot) : Type 0 where
  pub same : map task_of tasks ≡ map task_of start
  pub sound : (v : SessionView) → v.tasks ≡ map task_of start → AreWanted v tasks
  pub first : 0 < length tasks → is_marked tasks 0 ≡ true

pub rooted-start : (start clean tasks : List Slot) (more : Bool) → map task_of clean ≡ map task_of start → ((t : ℕ) → is_marked clean t ≡ false)
    → (more ≡ true → (tasks ≡ change_at (with_want true) clean 0) × (0 < length clean) × (is_marked clean 0 ≡ false))
    → (more ≡ false → (tasks ≡ clean) × (0 < length clean → is_marked clean 0 ≡ true))
    → IsRooted start tasks
rooted-start start clean tasks true same none yes' no' =
    let w = yes' refl in
    record {
      same = ap (map task_of) w.0 ∙ (map-unchanged task_of (with_want true) (λ x. refl) clean 0 ∙ same);
      sound = λ v is t e. elim (cases_eq t 0) [
        | inl zero_is ↦ subst (IsWanted v) (sym zero_is) ∣ root ∣₁
        | inr other ↦ absurd (false≢true (sym (none t) ∙ (sym (marked-else true clean 0 t other) ∙ (ap (λ xs. is_marked xs t) (sym w.0) ∙ e))))
      ];
      first = λ low. ap (λ xs. is_marked xs 0) w.0 ∙ marked-at true clean 0 w.1;
    }
rooted-start start clean tasks false same none yes' no' =
    let w = no' refl in
    record {
      same = ap (map task_of) w.0 ∙ same;
      sound = λ v is t e. absurd (false≢true (sym (none t) ∙ (ap (λ xs. is_marked xs t) (sym w.0) ∙ e)));
      first = λ low. ap (λ xs. is_marked xs 0) w.0 ∙ w.1 (subst (λ xs. 0 < length xs) w.0 low);
    }

pub rooted-next : (start b c : List Slot) → IsRooted start b → IsSpread b c → IsRooted start c
rooted-next start b c so_far then = record {
  same = then.same ∙ so_far.same;
  sound = λ v is. then.sound v (is ∙ sym so_far.same) (so_far.sound v is);
  first = λ low. then.more 0 (so_far.first (let e = length-same b c then.same in omega (arith, low, e)));
}

marked-all : (start tasks : List Slot) → IsRooted start tasks → AreClosed tasks (length tasks) → (v : SessionView) → v.tasks ≡ map task_of start
    → (t : ℕ) → Wanted v t → t < length tasks → is_marked tasks t ≡ true
marked-all start tasks so_far closed v is _ root low = so_far.first low
marked-all start tasks so_far closed v is _ (raised x u w r) low =
    let tasks_are : v.tasks ≡ map task_of tasks = is ∙ sym so_far.same in
    let at : slice_get (map task_of tasks) x ≡ Some r.0 = ap (λ ts. slice_get ts x) (sym tasks_are) ∙ r.1 in
    let x_low : x < length tasks = (let w' = slice_get_within (map task_of tasks) x r.0 at in let l = length-map tasks task_of in omega (arith, w', l)) in
    let place = at-raises r.0.state u r.2 in
    let there : slice_get (raised_at tasks x) place.0 ≡ Some u =
    ap (λ xs. slice_get xs place.0) (raised-by_tasks tasks x ∙ ap (λ o. option_map_or (λ (y : Task). raised_of y.state) o []) at) ∙ place.1 in
    closed x x_low (marked-all start tasks so_far closed v is x w x_low) place.0 u (slice_get_within (raised_at tasks x) place.0 u there) there low

pub marked-right : (start tasks : List Slot) → IsRooted start tasks → AreClosed tasks (length tasks) → (v : SessionView) → v.tasks ≡ map task_of start
    → (t : ℕ) → t < length tasks → IsTrue (is_marked tasks t) ↔ IsWanted v t
marked-right start tasks so_far closed v is t low = (
  so_far.sound v is t,
  λ w. ∥∥₁_elim w (Bool-set (is_marked tasks t) true) (λ x. marked-all start tasks so_far closed v is t x low),
)

-- ---- the flags that say what is due

marks-read : (f : Slot → Slot) → ((x : Slot) → (f x).is_wanted ≡ x.is_wanted) → (tasks : List Slot) (k t : ℕ) → is_marked (change_at f tasks k) t ≡ is_marked tasks t
marks-read f same [] k t = refl
marks-read f same (x ∷ tasks) zero zero = same x
marks-read f same (x ∷ tasks) zero (suc t) = refl
marks-read f same (x ∷ tasks) (suc k) zero = refl
marks-read f same (x ∷ tasks) (suc k) (suc t) = marks-read f same tasks k t

pub view-rest : (s start : Session) → s ≡ record start { tasks = s.tasks } → map task_of s.tasks ≡ map task_of start.tasks → session_view s ≡ session_view start
view-rest s start rest same = ap session_view rest ∙ ap (λ (ts : List Task). record (session_view start) { tasks = ts }) same

-- the flags of the first k tasks are right, and nothing else was changed
pub record AreRenewed (start s : Session) (k : ℕ) : Type 0 where
  pub rest : s ≡ record start { tasks = s.tasks }
  pub same : map task_of s.tasks ≡ map task_of start.tasks
  pub wants : (t : ℕ) → is_marked s.tasks t ≡ is_marked start.tasks t
  pub due : (t : ℕ) (slot : Slot) → t < k → slice_get s.tasks t ≡ Some slot
      → slot.is_due ≡ is_open_due (session_view start) (props_for (session_view start) (task_of slot)) slot.state

pub renewed-start : (s : Session) → AreRenewed s s 0
renewed-start s = record { rest = refl; same = refl; wants = λ t. refl; due = λ t slot lt at. absurd (omega (arith, lt)) }

pub renewed-next : (start s : Session) (k : ℕ) (b : Bool) (tasks : List Slot) → AreRenewed start s k
    → ((slot : Slot) → slice_get s.tasks k ≡ Some slot → b ≡ is_open_due (session_view s) (props_for (session_view s) (task_of slot)) slot.state)
    → tasks ≡ change_at (with_due b) s.tasks k → AreRenewed start (record s { tasks = tasks }) (k + 1)
renewed-next start s k b tasks so_far now is = record {
  rest = ap (λ (x : Session). record x { tasks = tasks }) so_far.rest;
  same = ap (map task_of) is ∙ (map-unchanged task_of (with_due b) (λ x. refl) s.tasks k ∙ so_far.same);
  wants = λ t. ap (λ xs. is_marked xs t) is ∙ (marks-read (with_due b) (λ x. refl) s.tasks k t ∙ so_far.wants t);
  due = λ t slot lt at.
      let c = changed-apart Slot (with_due b) s.tasks k t slot (ap (λ xs. slice_get xs t) (sym is) ∙ at) in by_case t slot lt c.0 c.1 c.2;
}
  where
    by_case : (t : ℕ) (slot : Slot) → t < k + 1 → (a : Slot) → slice_get s.tasks t ≡ Some a → ((t ≡ k → ⊥) × (slot ≡ a)) ⊎ ((t ≡ k) × (slot ≡ with_due b a))
        → slot.is_due ≡ is_open_due (session_view start) (props_for (session_view start) (task_of slot)) slot.state
    by_case t slot lt a at (inl q) =
        subst (λ (x : Slot). x.is_due ≡ is_open_due (session_view start) (props_for (session_view start) (task_of x)) x.state) (sym q.1)
        (so_far.due t a (let ne = q.0 in elim (cases_lt t k) [ inl low ↦ low | inr high ↦ absurd (ne (omega (arith, lt, high))) ]) at)
    by_case t slot lt a at (inr q) =
        subst (λ (x : Slot). x.is_due ≡ is_open_due (session_view start) (props_for (session_view start) (task_of x)) x.state) (sym q.1)
        (subst (λ (v : SessionView). b ≡ is_open_due v (props_for v (task_of a)) a.state) (view-rest s start so_far.rest so_far.same)
        (now a (ap (slice_get s.tasks) (sym q.0) ∙ at)))

pub renewed-end : (start s : Session) (k : ℕ) → AreRenewed start s k → length start.tasks ≤ k → IsRenewed start s
renewed-end start s k so_far all = record {
  rest = so_far.rest;
  same = so_far.same;
  wants = so_far.wants;
  due = λ t slot at. so_far.due t slot (let low = slice_get_within s.tasks t slot at in let l = length-same start.tasks s.tasks so_far.same in omega (arith, low, l, all)) at;
}

-- ---- no marks

pub record AreClear (start tasks : List Slot) (k : ℕ) : Type 0 where
  pub same : map task_of tasks ≡ map task_of start
  pub none : (t : ℕ) → t < k → is_marked tasks t ≡ false

pub clear-next : (start tasks more : List Slot) (k : ℕ) → AreClear start tasks k → k < length tasks → more ≡ change_at (with_want false) tasks k → AreClear start more (k + 1)
clear-next start tasks more k so_far low is = record {
  same = ap (map task_of) is ∙ (map-unchanged task_of (with_want false) (λ x. refl) tasks k ∙ so_far.same);
  none = λ t lt. ap (λ xs. is_marked xs t) is ∙ elim (cases_eq t k) [
    | inl e ↦ ap (is_marked (change_at (with_want false) tasks k)) e ∙ marked-at false tasks k low
    | inr ne ↦ marked-else false tasks k t ne ∙ so_far.none t (omega (arith, lt, ne))
  ];
}

past-unmarked : (tasks : List Slot) (t : ℕ) → length tasks ≤ t → is_marked tasks t ≡ false
past-unmarked [] t le = refl
past-unmarked (x ∷ tasks) zero le = absurd (omega (arith, le))
past-unmarked (x ∷ tasks) (suc t) le = past-unmarked tasks t (omega (arith, le))

pub clear-end : (start tasks : List Slot) (k : ℕ) → AreClear start tasks k → length start ≤ k → (t : ℕ) → is_marked tasks t ≡ false
clear-end start tasks k so_far all t = elim (cases_lt t k) [
  | inl low ↦ so_far.none t low
  | inr high ↦ past-unmarked tasks t (let l = length-same start tasks so_far.same in omega (arith, l, all, high))
]

-- ---- all flags

marked-is : (tasks : List Slot) (t : ℕ) (slot : Slot) → slice_get tasks t ≡ Some slot → is_marked tasks t ≡ slot.is_wanted
marked-is tasks t slot at = ap (λ o. option_map_or (λ (x : Slot). x.is_wanted) o false) at

pub anew : (s s' : Session) (tasks : List Slot) → map task_of tasks ≡ map task_of s.tasks
    → ((v : SessionView) → v.tasks ≡ map task_of s.tasks → (t : ℕ) → t < length tasks → IsTrue (is_marked tasks t) ↔ IsWanted v t)
    → IsRenewed (record s { tasks = tasks }) s' → IsAnew s s'
anew s s' tasks same wants renewed = record {
  rest = renewed.rest;
  same = renewed.same ∙ same;
  flags = λ t slot at.
      let mid : Session = record s { tasks = tasks } in
      let view : session_view mid ≡ session_view s = ap (λ (ts : List Task). record (session_view s) { tasks = ts }) same in
      let low : t < length tasks = (let l = slice_get_within s'.tasks t slot at in let e = length-same tasks s'.tasks renewed.same in omega (arith, l, e)) in
      let flag : is_marked tasks t ≡ slot.is_wanted = sym (renewed.wants t) ∙ marked-is s'.tasks t slot at in
      let w = wants (session_view s) refl t low in
      record {
        due = subst (λ (v : SessionView). slot.is_due ≡ is_open_due v (props_for v (task_of slot)) slot.state) view (renewed.due t slot at);
        wanted = (λ h. w.0 (flag ∙ h), λ h. sym flag ∙ w.1 h);
      };
}
