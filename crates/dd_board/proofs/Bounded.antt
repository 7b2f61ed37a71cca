-- How many verdicts a session can take: each task at most one more than keys that its peer's elements can raise, and there are
-- no more tasks than keys.
use Rattle.std.proofs.Common.{◌≡◌, ◌∙◌, ◌⊎◌, ℕ, zero, suc, ◌+◌, ◌-◌, ◌*◌, ◌<◌, ◌≤◌, Bool, true, false, not, cond, ◌&&◌, ◌||◌, nat_eq, nat_lt, List, [], ◌∷◌, ◌++◌, map, filter, length, Some, ap, refl, subst, sym, inl, inr, arith, count_by, sum_by, length-append}
use Rattle.std.specs.List.{slice_get, list_any}
use Rattle.std.specs.Option.{option_map_or}
use Rattle.std.proofs.Props.{props}
use Rattle.std.proofs.Math.Logic.{∥∥₁_elim}
use Rattle.std.proofs.lemmas.Bool.{cases_Bool, and_from, eq-eqb, eqb-false, ne_eqb, ltb-true, ltb-false}
use Rattle.std.proofs.lemmas.Option.{same_Some}
use Rattle.std.proofs.lemmas.List.Sums.{sum_by-append, sum_by-cons, sum_by-le-sum_by}
use Rattle.dd_concept.specs.declared.concept.Concept.{Concept}
use Rattle.dd_peer.specs.declared.version.Pinned.{Pinned}
use Rattle.dd_peer.specs.Relevant.{is_in}
use Rattle.dd_task.specs.declared.job.Job.{Job}
use Rattle.dd_task.specs.declared.job.Key.{Key}
use Rattle.dd_task.specs.declared.job.Key.TheVariants.{Root, Asked}
use Rattle.dd_task.specs.declared.line.Line.{Line}
use Rattle.dd_task.specs.declared.line.Prop.{Prop}
use Rattle.dd_task.specs.declared.verdict.SpentRun.{SpentRun}
use Rattle.dd_task.specs.Goals.{peer_of}
use Rattle.dd_task.proofs.Places.{among-at, at-append}
use Rattle.dd_board.specs.declared.event.Event.{Event}
use Rattle.dd_board.specs.declared.event.Event.TheVariants as event
use Rattle.dd_board.specs.declared.event.TaskState.{TaskState}
use Rattle.dd_board.specs.declared.event.TaskState.TheVariants as state
use Rattle.dd_board.specs.View.{Task, Start, SessionView, into_peer, props_for, change_at}
use Rattle.dd_board.specs.Wanted.{is_open_due}
use Rattle.dd_board.specs.Standing.{is_post, is_proved, is_spent, posts, has_spent}
use Rattle.dd_board.specs.Steps.{new_task, taken, given_back, proved_by, opened_by, needed, has_key, with_keys, number_of, raised_keys, with_prop, last_label, props_after, apply}
use Rattle.dd_board.specs.Allowed.{MaySpend, IsAllowed}
use Rattle.dd_board.specs.Bound.{demands_between, demands_of_peer, demands_on_peer, enough_verdicts, is_post_on, IsBounded, LegalIsBounded}
use Rattle.dd_board.specs.Fit.{IsPlaced}
use Rattle.dd_board.specs.Legal.{begun, Runs, opened, stepped}
use Rattle.dd_board.proofs.Alike.{key_in}
use Rattle.dd_board.proofs.Backs.{or-no, spent-more}
use Rattle.dd_board.proofs.Counting.{counted, AreCounted, size}
use Rattle.dd_board.proofs.Fitting.{AreFit, fit-runs}
use Rattle.dd_board.proofs.KeyCounts.{different, is_root, is_asked, few-asked, one-root, keyed-at}
use Rattle.dd_board.proofs.Posts.{count_more, changed-apart, counted_bound}
use Rattle.dd_board.proofs.Slots.{one, count-changed}
use Rattle.dd_board.proofs.Sums.{sum-plus, term-within, at_mark, sum-cover, sum-marked, sum-places, count-places}
use Rattle.dd_board.proofs.Waiting.{HeldAreDue, held_are_due}

-- ---- propagations into a peer come from proved tasks

abbrev is_into : ℕ → Key → Bool
is_into i Root = false
is_into i (Asked h j o set) = nat_eq j i

abbrev proved_into : ℕ → Task → Bool
proved_into i task = is_proved task.state && is_into i task.key

one-more : (props : List (List Prop)) (j i : ℕ) (x : Prop) → length (into_peer (change_at (λ l. l ++ x ∷ []) props j) i) ≤ length (into_peer props i) + 1
one-more [] j i x = omega arith
one-more (l ∷ props) zero zero x = let s = length-append l (x ∷ []) in omega (arith, s)
one-more (l ∷ props) zero (suc i) x = omega arith
one-more (l ∷ props) (suc j) zero x = omega arith
one-more (l ∷ props) (suc j) (suc i) x = one-more props j i x

none-more : (props : List (List Prop)) (j i : ℕ) (x : Prop) → (j ≡ i → ⊥) → into_peer (change_at (λ l. l ++ x ∷ []) props j) i ≡ into_peer props i
none-more [] j i x other = refl
none-more (l ∷ props) zero zero x other = absurd (other refl)
none-more (l ∷ props) zero (suc i) x other = refl
none-more (l ∷ props) (suc j) zero x other = refl
none-more (l ∷ props) (suc j) (suc i) x other = none-more props j i x (λ e. other (ap suc e))

one-is-one : (b : Bool) → b ≡ true → one b ≡ 1
one-is-one true e = refl
one-is-one false e = cc

prop-counted : (p : Pinned) (label : List Concept) (line : ℕ) (props : List (List Prop)) (key : Key) (i : ℕ)
    → length (into_peer (with_prop p label line props key) i) ≤ length (into_peer props i) + one (is_into i key)
prop-counted p label line props Root i = omega arith
prop-counted p label line props (Asked h j o set) i =
    let x : Prop = record { from = h; onto = o; into_set = needed p h j label set; line = line } in
    elim (cases_Bool (nat_eq j i)) [
      | inl t ↦ let m = one-more props j i x in let u : one (nat_eq j i) ≡ 1 = one-is-one (nat_eq j i) t in omega (arith, m, u)
      | inr f ↦ let m = ap length (none-more props j i x (eqb-false j i f)) in omega (arith, m)
    ]

not-proved : (v : SessionView) (list : List Prop) (s : TaskState) → is_open_due v list s ≡ true → is_proved s ≡ false
not-proved v list state.Unknown e = refl
not-proved v list (state.Open at raised seen) e = refl
not-proved v list (state.Proved line) e = cc

left-false : (a b : Bool) → a ≡ false → (a && b) ≡ false
left-false true b e = cc
left-false false b e = refl

one-is-none : (b : Bool) → b ≡ false → one b ≡ 0
one-is-none true e = cc
one-is-none false e = refl

-- a change that keeps whether the task is proved
kept-count : (i : ℕ) (f : Task → Task) (tasks : List Task) (t : ℕ) (a : Task) → slice_get tasks t ≡ Some a
    → proved_into i a ≡ proved_into i (f a) → count_by (proved_into i) tasks ≤ count_by (proved_into i) (change_at f tasks t)
kept-count i f tasks t a at same =
    let c = count-changed (proved_into i) f tasks t a at in
    let s : one (proved_into i a) ≡ one (proved_into i (f a)) = ap one same in
    omega (arith, c, s)

abbrev pub PropsAreFew : SessionView → Type 0
PropsAreFew v = (i : ℕ) → length (into_peer v.props i) ≤ length (into_peer v.start.props i) + count_by (proved_into i) v.tasks

few-step : (v : SessionView) (e : Event) (lines : List Line) → HeldAreDue v → PropsAreFew v → IsAllowed v e lines → PropsAreFew (apply v e lines)
few-step v (event.Take t worker number seen) lines due few may i =
    let f = few i in
    let k = kept-count i (taken number seen) v.tasks t may.task may.at refl in
    omega (arith, f, k)
few-step v (event.Closed t number count) lines due few may i =
    let line : ℕ = length v.lines + length lines - 1 in
    let task : Task = may.by.task in
    let f = few i in
    let props_are : props_after v t lines ≡ with_prop v.job.pinned (last_label lines) line v.props task.key =
    ap (λ o. option_map_or (λ (x : Task). with_prop v.job.pinned (last_label lines) line v.props x.key) o v.props) may.by.at in
    let same : length (into_peer (props_after v t lines) i) ≡ length (into_peer (with_prop v.job.pinned (last_label lines) line v.props task.key) i) =
    ap (λ (ps : List (List Prop)). length (into_peer ps i)) props_are in
    let more = prop-counted v.job.pinned (last_label lines) line v.props task.key i in
    let c = count-changed (proved_into i) (proved_by line) v.tasks t task may.by.at in
    let open_still : is_proved task.state ≡ false = not-proved v (props_for v task) task.state (due t task may.by.holder may.by.at may.by.held) in
    let was : one (proved_into i task) ≡ 0 = one-is-none (proved_into i task) (left-false (is_proved task.state) (is_into i task.key) open_still) in
    omega (arith, f, same, more, c, was)
few-step v (event.Opened t number m x) lines due few may i =
    let task : Task = may.by.task in
    let keys : List Key = raised_keys v t m in
    let new : List Task = map new_task (filter (λ key. not (has_key v.tasks key)) keys) in
    let tasks : List Task = with_keys v.tasks keys in
    let f : Task → Task = opened_by (length v.journal) (map (number_of tasks) keys) in
    let g = few i in
    let longer : count_by (proved_into i) tasks ≡ count_by (proved_into i) v.tasks + count_by (proved_into i) new = sum_by-append (λ (a : Task). cond (proved_into i a) 1 0) v.tasks new in
    let c = count-changed (proved_into i) f tasks t task (at-append Task v.tasks new t task may.by.at) in
    let open_still : is_proved task.state ≡ false = not-proved v (props_for v task) task.state (due t task may.by.holder may.by.at may.by.held) in
    let was : one (proved_into i task) ≡ 0 = one-is-none (proved_into i task) (left-false (is_proved task.state) (is_into i task.key) open_still) in
    omega (arith, g, longer, c, was)
few-step v (event.Spent t number run) lines due few may i =
    let f = few i in
    let k = kept-count i given_back v.tasks t may.by.task may.by.at refl in
    omega (arith, f, k)
few-step v (event.Give t number) lines due few may i =
    let f = few i in
    let k = kept-count i given_back v.tasks t may.task may.at refl in
    omega (arith, f, k)

props-few : (job : Job) (start : Start) (v : SessionView) → Runs job start v → PropsAreFew v
props-few job start v (opened is) = λ i. omega arith
props-few job start v (stepped w e lines r may) = few-step w e lines (held_are_due job start w r) (props-few job start w r) may

-- ---- each task has at most one post more than propagations came into its peer, also when a run was spent

abbrev PostsWithin : SessionView → Type 0
PostsWithin v = (u : ℕ) (a : Task) → slice_get v.tasks u ≡ Some a
    → count_by (is_post_on u) v.journal + size v.start.props v.job a.key ≤ 1 + size v.props v.job a.key

calm-within : (v : SessionView) → AreCounted v → has_spent v ≡ false → PostsWithin v
calm-within v c calm u a at =
    counted_bound a (count_by (is_post_on u) v.journal) (size v.start.props v.job a.key) (size v.props v.job a.key) (c.each calm u a at)

pub still-calm : (v : SessionView) (e : Event) → has_spent v ≡ false → is_spent e ≡ false → list_any is_spent (v.journal ++ e ∷ []) ≡ false
still-calm v e calm quiet = spent-more v.journal (v.journal ++ e ∷ []) e refl ∙ (ap (λ b. has_spent v || (b || false)) quiet ∙ (or-no (has_spent v) ∙ calm))

abbrev if_one : Bool → ℕ
if_one b = cond b 1 0

-- an event that is no post, and changes a holder alone
same-within : (v : SessionView) (e : Event) (t : ℕ) (f : Task → Task) → ((u : ℕ) → is_post_on u e ≡ false) → ((a : Task) → (f a).key ≡ a.key) → PostsWithin v
    → (u : ℕ) (b : Task) → slice_get (change_at f v.tasks t) u ≡ Some b
    → count_by (is_post_on u) (v.journal ++ e ∷ []) + size v.start.props v.job b.key ≤ 1 + size v.props v.job b.key
same-within v e t f none same within u b at =
    let c = changed-apart Task f v.tasks t u b at in
    let key : b.key ≡ c.0.key = kept c.0 c.2 in
    let w = within u c.0 c.1 in
    let m = count_more v.journal e u in
    let z : if_one (is_post_on u e) ≡ 0 = ap if_one (none u) in
    let now : size v.props v.job b.key ≡ size v.props v.job c.0.key = ap (size v.props v.job) key in
    let base : size v.start.props v.job b.key ≡ size v.start.props v.job c.0.key = ap (size v.start.props v.job) key in
    omega (arith, w, m, z, now, base)
  where
    kept : (a : Task) → ((u ≡ t → ⊥) × (b ≡ a)) ⊎ ((u ≡ t) × (b ≡ f a)) → b.key ≡ a.key
    kept a (inl e) = ap (λ (x : Task). x.key) e.1
    kept a (inr e) = ap (λ (x : Task). x.key) e.1 ∙ same a

spent-within : (v : SessionView) → AreCounted v → (t number : ℕ) (run : SpentRun) → MaySpend v t number run
    → (u : ℕ) (b : Task) → slice_get (change_at given_back v.tasks t) u ≡ Some b
    → count_by (is_post_on u) (v.journal ++ event.Spent t number run ∷ []) + size v.start.props v.job b.key ≤ 1 + size v.props v.job b.key
spent-within v counts t number run may u b at = let c = changed-apart Task given_back v.tasks t u b at in by_case c.0 c.1 c.2
  where
    m : count_by (is_post_on u) (v.journal ++ event.Spent t number run ∷ []) ≡ count_by (is_post_on u) v.journal + if_one (nat_eq t u)
    m = count_more v.journal (event.Spent t number run) u

    calm : has_spent v ≡ false
    calm = may.going.1

    by_case : (a : Task) → slice_get v.tasks u ≡ Some a → ((u ≡ t → ⊥) × (b ≡ a)) ⊎ ((u ≡ t) × (b ≡ given_back a))
        → count_by (is_post_on u) (v.journal ++ event.Spent t number run ∷ []) + size v.start.props v.job b.key ≤ 1 + size v.props v.job b.key
    by_case a is (inl q) =
        let w = calm-within v counts calm u a is in
        let z : if_one (nat_eq t u) ≡ 0 = ap if_one (ne_eqb t u (λ e. q.0 (sym e))) in
        subst (λ (x : Task). count_by (is_post_on u) (v.journal ++ event.Spent t number run ∷ []) + size v.start.props v.job x.key ≤ 1 + size v.props v.job x.key)
        (sym q.1) (omega (arith, m, w, z))
    by_case a is (inr q) =
        let own : may.by.task ≡ a = same_Some may.by.task a (sym may.by.at ∙ (ap (slice_get v.tasks) (sym q.0) ∙ is)) in
        let held = (counts.each calm u a is).held may.by.holder (ap (λ (x : Task). x.holder) (sym own) ∙ may.by.held) in
        let z : if_one (nat_eq t u) ≡ 1 = ap if_one (eq-eqb t u (sym q.0)) in
        subst (λ (x : Task). count_by (is_post_on u) (v.journal ++ event.Spent t number run ∷ []) + size v.start.props v.job x.key ≤ 1 + size v.props v.job x.key)
        (sym q.1) (omega (arith, m, z, held.0, held.1))

within-step : (v : SessionView) (e : Event) (lines : List Line) → AreCounted v → AreCounted (apply v e lines) → PostsWithin v → IsAllowed v e lines
    → PostsWithin (apply v e lines)
within-step v (event.Take t worker number seen) lines c d within may =
    same-within v (event.Take t worker number seen) t (taken number seen) (λ u. refl) (λ a. refl) within
within-step v (event.Closed t number count) lines c d within may =
    calm-within (apply v (event.Closed t number count) lines) d (still-calm v (event.Closed t number count) may.going.1 refl)
within-step v (event.Opened t number m x) lines c d within may =
    calm-within (apply v (event.Opened t number m x) lines) d (still-calm v (event.Opened t number m x) may.going.1 refl)
within-step v (event.Spent t number run) lines c d within may = spent-within v c t number run may
within-step v (event.Give t number) lines c d within may =
    same-within v (event.Give t number) t given_back (λ u. refl) (λ a. refl) within

posts-within : (job : Job) (start : Start) (v : SessionView) → Runs job start v → PostsWithin v
posts-within job start v (opened is) = calm-within (begun job start) (counted job start (begun job start) (opened is)) refl
posts-within job start v (stepped w e lines r may) =
    within-step w e lines (counted job start w r) (counted job start (apply w e lines) (stepped w e lines r may)) (posts-within job start w r) may

-- ---- how many keys the tasks have

count-map : {A B : Type 0} (p : B → Bool) (f : A → B) (xs : List A) → count_by p (map f xs) ≡ count_by (λ x. p (f x)) xs
count-map p f [] = refl
count-map p f (x ∷ xs) =
    let a = sum_by-cons (λ y. cond (p y) 1 0) (f x) (map f xs) in
    let b = sum_by-cons (λ y. cond (p (f y)) 1 0) x xs in
    let r = count-map p f xs in
    omega (arith, a, b, r)

both-true : (a b : Bool) → 1 ≤ if_one (a && b) → (a ≡ true) × (b ≡ true)
both-true true true e = (refl, refl)
both-true true false e = absurd (omega (arith, e))
both-true false b e = absurd (omega (arith, e))

less-if : (a b : Bool) → cond a (if_one b) 0 ≤ if_one a
less-if true true = omega arith
less-if true false = omega arith
less-if false b = omega arith

more-by-one : (a b c : ℕ) → a ≤ b → a * c ≤ b * c
more-by-one zero b c le = omega arith
more-by-one (suc a) zero c le = absurd (omega (arith, le))
more-by-one (suc a) (suc b) c le = let r = more-by-one a b c (omega (arith, le)) in omega (arith, r)

abbrev is_from : ℕ → Key → Bool
is_from i Root = false
is_from i (Asked h j o set) = nat_eq h i

module _ (v : SessionView) (runs : Runs v.job v.start v) (placed : IsPlaced v.job) where
  abbrev p : Pinned
  p = v.job.pinned

  abbrev rel : List ℕ
  rel = v.job.relevant

  fit : AreFit v.job v.tasks v.props
  fit = fit-runs v.job placed v.start v runs

  asked-few : (h i : ℕ) → count_by (λ (a : Task). is_asked h i a.key) v.tasks ≤ demands_between p h i
  asked-few h i =
      let few = few-asked p h i (map key_in v.tasks) (different v.job v.start v runs) (λ k g j o set at.
      let a = keyed-at v.tasks k (Asked g j o set) at in ((fit.keys k a.0 a.1).asks g j o set a.2).1) in
      let same = count-map (is_asked h i) key_in v.tasks in
      omega (arith, few, same)

  -- those that elements of peer i raised, and those that ask peer i
  raised-few : (i : ℕ) → count_by (proved_into i) v.tasks ≤ demands_of_peer v.job i
  raised-few i =
      let cover = sum-cover (λ (a : Task). if_one (proved_into i a)) (λ (a : Task) h. is_asked h i a.key) rel v.tasks (λ k a at some.
      let both = both-true (is_proved a.state) (is_into i a.key) some in placed_at k a at a.key refl both.1) in
      let less = sum_by-le-sum_by (λ h. sum_by (at_mark (λ (a : Task). if_one (proved_into i a)) (λ (a : Task) g. is_asked g i a.key) rel h) v.tasks)
      (λ h. demands_between p h i) rel (λ h.
      let s = sum_by-le-sum_by (at_mark (λ (a : Task). if_one (proved_into i a)) (λ (a : Task) g. is_asked g i a.key) rel h)
      (λ (a : Task). if_one (is_asked h i a.key)) v.tasks (λ a. less-if (is_asked h i a.key) (proved_into i a)) in
      let f = asked-few h i in omega (arith, s, f)) in
      omega (arith, cover, less)
    where
      placed_at : (k : ℕ) (a : Task) → slice_get v.tasks k ≡ Some a → (key : Key) → a.key ≡ key → is_into i key ≡ true
          → (j : ℕ) × (h : ℕ) × (slice_get rel j ≡ Some h) × (is_asked h i a.key ≡ true)
      placed_at k a at Root e is = cc
      placed_at k a at (Asked h j o set) e is =
          let in_rel : is_in rel h ≡ true = ap (λ x. is_in rel (peer_of v.job x)) (sym e) ∙ (fit.keys k a at).relevant in
          let place = among-at rel h in_rel in
          (place.0, h, place.1, ap (is_asked h i) e ∙ and_from (nat_eq h h) (nat_eq j i) (eq-eqb h h refl) is)

  from-few : (i : ℕ) → count_by (λ (a : Task). is_from i a.key) v.tasks ≤ demands_on_peer v.job i
  from-few i =
      let cover = sum-cover (λ (a : Task). if_one (is_from i a.key)) (λ (a : Task) m. is_asked i m a.key) rel v.tasks (λ k a at some.
      placed_at k a at a.key refl (positive (is_from i a.key) some)) in
      let less = sum_by-le-sum_by (λ m. sum_by (at_mark (λ (a : Task). if_one (is_from i a.key)) (λ (a : Task) g. is_asked i g a.key) rel m) v.tasks)
      (λ m. demands_between p i m) rel (λ m.
      let s = sum_by-le-sum_by (at_mark (λ (a : Task). if_one (is_from i a.key)) (λ (a : Task) g. is_asked i g a.key) rel m)
      (λ (a : Task). if_one (is_asked i m a.key)) v.tasks (λ a. less-if (is_asked i m a.key) (is_from i a.key)) in
      let f = asked-few i m in omega (arith, s, f)) in
      omega (arith, cover, less)
    where
      positive : (b : Bool) → 1 ≤ if_one b → b ≡ true
      positive true e = refl
      positive false e = absurd (omega (arith, e))

      placed_at : (k : ℕ) (a : Task) → slice_get v.tasks k ≡ Some a → (key : Key) → a.key ≡ key → is_from i key ≡ true
          → (j : ℕ) × (m : ℕ) × (slice_get rel j ≡ Some m) × (is_asked i m a.key ≡ true)
      placed_at k a at Root e is = cc
      placed_at k a at (Asked h j o set) e is =
          let place = among-at rel j ((fit.keys k a at).asks h j o set e).0 in
          (place.0, j, place.1, ap (is_asked i j) e ∙ and_from (nat_eq h i) (nat_eq j j) is (eq-eqb j j refl))

  at-peer-few : (i : ℕ) → count_by (λ (a : Task). nat_eq (peer_of v.job a.key) i) v.tasks ≤ 1 + demands_on_peer v.job i
  at-peer-few i =
      let parts = sum_by-le-sum_by (λ (a : Task). if_one (nat_eq (peer_of v.job a.key) i)) (λ (a : Task). if_one (is_root a.key) + if_one (is_from i a.key)) v.tasks (λ a. split a.key) in
      let sum = sum-plus (λ (a : Task). if_one (is_root a.key)) (λ (a : Task). if_one (is_from i a.key)) v.tasks in
      let root = one-root (map key_in v.tasks) (different v.job v.start v runs) in
      let same = count-map is_root key_in v.tasks in
      let from = from-few i in
      omega (arith, parts, sum, root, same, from)
    where
      at_most : (b : Bool) → if_one b ≤ 1
      at_most true = omega arith
      at_most false = omega arith

      split : (key : Key) → if_one (nat_eq (peer_of v.job key) i) ≤ if_one (is_root key) + if_one (is_from i key)
      split Root = let m = at_most (nat_eq v.job.query.peer i) in omega (arith, m)
      split (Asked h j o set) = omega arith

  -- ---- the bound

  each-few : (u : ℕ) (a : Task) → slice_get v.tasks u ≡ Some a → count_by (is_post_on u) v.journal ≤ 1 + demands_of_peer v.job (peer_of v.job a.key)
  each-few u a at =
      let w = posts-within v.job v.start v runs u a at in
      let f = props-few v.job v.start v runs (peer_of v.job a.key) in
      let r = raised-few (peer_of v.job a.key) in
      omega (arith, w, f, r)

  -- each post is on a task
  posted-on : (k : ℕ) (e : Event) → slice_get v.journal k ≡ Some e → is_post e ≡ true → (u : ℕ) × (u < length v.tasks) × (is_post_on u e ≡ true)
  posted-on k e at is = let t = target e is in elim (cases_Bool (nat_lt t.0 (length v.tasks))) [
    | inl low ↦ (t.0, ltb-true t.0 (length v.tasks) low, t.1)
    | inr high ↦
        let over = ltb-false t.0 (length v.tasks) high in
        let none = (counted v.job v.start v runs).beyond t.0 (omega (arith, over)) in
        let here = term-within (λ x. if_one (is_post_on t.0 x)) v.journal k e at in
        let one_here : if_one (is_post_on t.0 e) ≡ 1 = ap if_one t.1 in
        absurd (omega (arith, none, here, one_here))
  ]
    where
      target : (x : Event) → is_post x ≡ true → (t : ℕ) × (is_post_on t x ≡ true)
      target (event.Take t worker number seen) e = cc
      target (event.Closed t number count) e = (t, eq-eqb t t refl)
      target (event.Opened t number m x) e = (t, eq-eqb t t refl)
      target (event.Spent t number run) e = (t, eq-eqb t t refl)
      target (event.Give t number) e = cc

  abbrev weight_at : ℕ → ℕ
  weight_at i = 1 + demands_of_peer v.job i

  all-few : posts v ≤ enough_verdicts v.job
  all-few =
      let on_tasks = count-places is_post is_post_on (length v.tasks) v.journal posted-on in
      let by_tasks = sum-places (λ u. count_by (is_post_on u) v.journal) (λ (a : Task). weight_at (peer_of v.job a.key)) 0 v.tasks (λ k a at.
      let e = each-few k a at in
      let z : count_by (is_post_on (0 + k)) v.journal ≡ count_by (is_post_on k) v.journal = ap (λ n. count_by (is_post_on n) v.journal) (let s : 0 + k ≡ k = omega arith in s) in
      omega (arith, e, z)) in
      let cover = sum-cover (λ (a : Task). weight_at (peer_of v.job a.key)) (λ (a : Task) i. nat_eq (peer_of v.job a.key) i) rel v.tasks (λ k a at some.
      let place = among-at rel (peer_of v.job a.key) (fit.keys k a at).relevant in
      (place.0, peer_of v.job a.key, place.1, eq-eqb (peer_of v.job a.key) (peer_of v.job a.key) refl)) in
      let by_peers = sum_by-le-sum_by (λ i. sum_by (at_mark (λ (a : Task). weight_at (peer_of v.job a.key)) (λ (a : Task) i. nat_eq (peer_of v.job a.key) i) rel i) v.tasks)
      (λ i. (1 + demands_on_peer v.job i) * (1 + demands_of_peer v.job i)) rel (λ i.
      let marked = sum-marked (λ (a : Task). peer_of v.job a.key) weight_at i v.tasks in
      let more = more-by-one (count_by (λ (a : Task). nat_eq (peer_of v.job a.key) i) v.tasks) (1 + demands_on_peer v.job i) (weight_at i) (at-peer-few i) in
      omega (arith, marked, more)) in
      omega (arith, on_tasks, by_tasks, cover, by_peers)

  pub is-bounded : IsBounded v
  is-bounded = record { each = each-few; all = all-few }

pub bounded : LegalIsBounded
bounded v legal placed = record {
  each = λ t task at. ∥∥₁_elim legal (hlevel props) (λ runs. (is-bounded v runs placed).each t task at);
  all = ∥∥₁_elim legal (hlevel props) (λ runs. (is-bounded v runs placed).all);
}
