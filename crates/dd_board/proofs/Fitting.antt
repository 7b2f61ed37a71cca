-- In a session whose job fits its peers, the rules that keys and propagations name are there.
use Rattle.std.proofs.Common.{◌≡◌, ◌≢◌, ◌∙◌, ◌⊎◌, ℕ, zero, suc, ◌+◌, ◌-◌, ◌<◌, Bool, true, false, not, cond, ◌==◌, List, [], ◌∷◌, ◌++◌, map, filter, length, Option, None, Some, ap, refl, subst, sym, inl, inr, arith, All, nat_lt, lt-ltb, eqb-true}
use Rattle.std.specs.List.{slice_get, list_any, list_all}
use Rattle.std.specs.Option.{option_map_or}
use Rattle.std.proofs.Props.{props}
use Rattle.std.proofs.Math.Logic.{∥∥₁_map, ∥∥₁_elim}
use Rattle.std.proofs.lemmas.Bool.{cases_Bool, and_parts, and_from, or_right}
use Rattle.std.proofs.lemmas.Option.{same_Some, slice_get_within}
use Rattle.std.proofs.lemmas.List.Elements.{All-filter}
use Rattle.dd_concept.specs.declared.concept.Concept.{Concept}
use Rattle.dd_interp.specs.declared.interp.Interp.{Interp}
use Rattle.dd_peer.specs.declared.version.Pinned.{Pinned}
use Rattle.dd_peer.specs.declared.version.PeerVersion.{PeerVersion}
use Rattle.dd_peer.specs.declared.version.Rule.{Rule}
use Rattle.dd_peer.specs.Rules.{rules_of, rules_from}
use Rattle.dd_peer.specs.Relevant.Relevant.{itself, by_rule}
use Rattle.dd_peer.specs.Relevant.{ComeFromBelow, has_from, keeps_from, is_in}
use Rattle.dd_task.specs.declared.job.Job.{Job}
use Rattle.dd_task.specs.declared.job.Key.{Key}
use Rattle.dd_task.specs.declared.job.Key.TheVariants.{Root, Asked}
use Rattle.dd_task.specs.declared.line.Line.{Line}
use Rattle.dd_task.specs.declared.line.Prop.{Prop}
use Rattle.dd_task.specs.Demands.{false_into, raised_by}
use Rattle.dd_task.specs.Goals.{peer_of}
use Rattle.dd_task.specs.Lines.{is_rising}
use Rattle.dd_task.specs.Rules.{into_rules, onto_rules}
use Rattle.dd_task.specs.Targets.{positions, in_target}
use Rattle.dd_task.proofs.Places.{All-at, All-from, at-append_cases, at-among, among_positions, places_from, unfold_places, before_filter, passes_filter}
use Rattle.dd_task.proofs.KeyLists.{raised-by}
use Rattle.dd_board.specs.declared.event.Event.{Event}
use Rattle.dd_board.specs.declared.event.Event.TheVariants as event
use Rattle.dd_board.specs.View.{Task, SessionView, Start, into_peer, props_for, change_at}
use Rattle.dd_board.specs.Steps.{new_task, taken, given_back, proved_by, opened_by, needed, with_keys, number_of, keys_for, raised_keys, with_prop, last_label, props_after, apply}
use Rattle.dd_board.specs.Allowed.{IsAllowed}
use Rattle.dd_board.specs.Legal.{Runs, opened, stepped, IsLegal}
use Rattle.dd_board.specs.Fit.{IsPlaced, AreThere, HasRules, IsPropFrom, IsFitKey, IsFitTask}
use Rattle.dd_board.proofs.Changes.{changed-at, with_keys-at, any-at}
use Rattle.dd_board.proofs.Quiet.{any-found}

-- ---- rising lists

all-filter : (test p : ℕ → Bool) (xs : List ℕ) → list_all test xs ≡ true → list_all test (filter p xs) ≡ true
all-filter test p [] h = refl
all-filter test p (x ∷ xs) h =
    let parts = and_parts (test x) (list_all test xs) h in
    elim (cases_Bool (p x)) [
      | inl t ↦ subst (λ b. list_all test (cond b (x ∷ filter p xs) (filter p xs)) ≡ true) (sym t) (and_from (test x) (list_all test (filter p xs)) parts.0 (all-filter test p xs parts.1))
      | inr f ↦ subst (λ b. list_all test (cond b (x ∷ filter p xs) (filter p xs)) ≡ true) (sym f) (all-filter test p xs parts.1)
    ]

rising-filter : (p : ℕ → Bool) (xs : List ℕ) → is_rising xs ≡ true → is_rising (filter p xs) ≡ true
rising-filter p [] h = refl
rising-filter p (x ∷ xs) h =
    let parts = and_parts (list_all (λ m. nat_lt x m) xs) (is_rising xs) h in
    elim (cases_Bool (p x)) [
      | inl t ↦ subst (λ b. is_rising (cond b (x ∷ filter p xs) (filter p xs)) ≡ true) (sym t)
          (and_from (list_all (λ m. nat_lt x m) (filter p xs)) (is_rising (filter p xs)) (all-filter (λ m. nat_lt x m) p xs parts.0) (rising-filter p xs parts.1))
      | inr f ↦ subst (λ b. is_rising (cond b (x ∷ filter p xs) (filter p xs)) ≡ true) (sym f) (rising-filter p xs parts.1)
    ]

module _ (A : Type 0) (test : A → Bool) where
  places-above : (m n : ℕ) (xs : List A) → m < n → list_all (λ k. nat_lt m k) (places_from A test n xs) ≡ true
  places-above m n [] lt = refl
  places-above m n (a ∷ xs) lt =
      let rest = places-above m (n + 1) xs (omega (arith, lt)) in
      elim (cases_Bool (test a)) [
        | inl passes ↦ ap (list_all (λ k. nat_lt m k)) (unfold_places A test n a xs true passes)
            ∙ and_from (nat_lt m n) (list_all (λ k. nat_lt m k) (places_from A test (n + 1) xs)) (lt-ltb m n lt) rest
        | inr fails ↦ ap (list_all (λ k. nat_lt m k)) (unfold_places A test n a xs false fails) ∙ rest
      ]

  places-rise : (n : ℕ) (xs : List A) → is_rising (places_from A test n xs) ≡ true
  places-rise n [] = refl
  places-rise n (a ∷ xs) =
      let rest = places-rise (n + 1) xs in
      elim (cases_Bool (test a)) [
        | inl passes ↦ ap is_rising (unfold_places A test n a xs true passes)
            ∙ and_from (list_all (λ k. nat_lt n k) (places_from A test (n + 1) xs)) (is_rising (places_from A test (n + 1) xs)) (places-above n (n + 1) xs (omega arith)) rest
        | inr fails ↦ ap is_rising (unfold_places A test n a xs false fails) ∙ rest
      ]

  there-is : (o : Option A) → option_map_or test o false ≡ true → (x : A) × (o ≡ Some x)
  there-is None e = cc
  there-is (Some x) e = (x, refl)

  places-below : (xs : List A) → All (λ k. k < length xs) (positions test xs)
  places-below xs = All-from ℕ (λ k. k < length xs) (positions test xs) (λ j k at.
      let there = there-is (slice_get xs k) (sym (among_positions A test xs k) ∙ at-among (positions test xs) j k at) in
      slice_get_within xs k there.0 there.1)

-- ---- rules that are there

item-at : {A : Type 0} (xs : List A) (o : ℕ) → o < length xs → (x : A) × (slice_get xs o ≡ Some x)
item-at [] o lt = absurd (omega (arith, lt))
item-at (x ∷ xs) zero lt = (x, refl)
item-at (x ∷ xs) (suc o) lt = item-at xs o (omega (arith, lt))

any-behind : (p : Rule → Bool) (xs ys : List Rule) → list_any p ys ≡ true → list_any p (xs ++ ys) ≡ true
any-behind p [] ys h = h
any-behind p (x ∷ xs) ys h = or_right (p x) (list_any p (xs ++ ys)) (any-behind p xs ys h)

-- where an onto rule from h is there, peer i has a version that has a rule from h
from-version : (p : Pinned) (h i o : ℕ) → o < length (onto_rules p h i) → (v : PeerVersion) × (slice_get p.peers i ≡ Some v) × (has_from h v ≡ true)
from-version p h i o lt = from (slice_get p.peers i) refl
  where
    from : (w : Option PeerVersion) → slice_get p.peers i ≡ w → (v : PeerVersion) × (slice_get p.peers i ≡ Some v) × (has_from h v ≡ true)
    from None at =
        let none : length (onto_rules p h i) ≡ 0 = ap (λ (w : Option PeerVersion). length (option_map_or (λ (v : PeerVersion). rules_from v.onto h) w [])) at in
        absurd (omega (arith, lt, none))
    from (Some v) at =
        let same : length (onto_rules p h i) ≡ length (rules_from v.onto h) = ap (λ (w : Option PeerVersion). length (option_map_or (λ (x : PeerVersion). rules_from x.onto h) w [])) at in
        let rule = item-at (rules_from v.onto h) o (omega (arith, lt, same)) in
        let before = before_filter Rule (λ r. r.from == h) v.onto o rule.0 rule.1 in
        (v, at, any-behind (λ r. r.from == h) v.into v.onto (any-at Rule (λ r. r.from == h) v.onto before.0 rule.0 before.1 (passes_filter Rule (λ r. r.from == h) v.onto o rule.0 rule.1)))

-- the peers and rules that the keys of tasks name, and the rules that propagations name
pub record IsFitAt (job : Job) (key : Key) : Type 0 where
  pub asks : IsFitKey job key
  pub relevant : is_in job.relevant (peer_of job key) ≡ true
  pub declared : peer_of job key < length job.pinned.peers

pub record AreFit (job : Job) (tasks : List Task) (props : List (List Prop)) : Type 0 where
  pub keys : (u : ℕ) (a : Task) → slice_get tasks u ≡ Some a → IsFitAt job a.key
  pub rules : (i n : ℕ) (prop : Prop) → slice_get (into_peer props i) n ≡ Some prop → HasRules job.pinned i prop

module _ (job : Job) (placed : IsPlaced job) where
  abbrev p : Pinned
  p = job.pinned

  other-peer : (h i o : ℕ) → o < length (onto_rules p h i) → (h ≢ i) × (h < length p.peers)
  other-peer h i o lt =
      let v = from-version p h i o lt in
      let rule = any-found Rule (λ r. r.from == h) (rules_of v.0) v.2 in
      let is : rule.1.from ≡ h = eqb-true rule.1.from h rule.3 in (
        (λ e. All-at Rule (λ r. r.from ≢ i) (rules_of v.0) rule.0 rule.1 (placed.apart i v.0 v.1) rule.2 (is ∙ e)),
        subst (λ n. n < length p.peers) is (All-at Rule (λ r. r.from < length p.peers) (rules_of v.0) rule.0 rule.1
            (All-at PeerVersion (ComeFromBelow (length p.peers)) p.peers i v.0 placed.declared v.1) rule.2),
      )

  leads-on : (h i o : ℕ) → o < length (onto_rules p h i) → is_in job.relevant i ≡ true → is_in job.relevant h ≡ true
  leads-on h i o lt relevant =
      let v = from-version p h i o lt in
      let keeps : keeps_from p i h ≡ true = ap (λ (w : Option PeerVersion). option_map_or (has_from h) w false) v.1 ∙ v.2 in
      (placed.relevant.exactly h).1 (∥∥₁_map ((placed.relevant.exactly i).0 relevant) (λ r. by_rule i h r keeps))

  pub prop-from : (i : ℕ) (prop : Prop) → HasRules p i prop → IsPropFrom p i prop
  prop-from i prop by = let o = other-peer prop.from i prop.onto by.onto in record { other = o.0; declared = o.1; by = by }

  -- ---- tasks and propagations of a session

  raised-fit : (i : ℕ) (m : Interp) (q : ℕ) (key : Key) → is_in job.relevant i ≡ true → slice_get (raised_by p i m) q ≡ Some key → IsFitAt job key
  raised-fit i m q key relevant at =
      let origin = raised-by p i m q key at in
      let x : ℕ = origin.0 in
      let h : ℕ = origin.1 in
      let o : ℕ = origin.2 in
      let is = origin.4 in
      let rule = there-is Rule (in_target m x) (slice_get (onto_rules p h i) o) is.in_target in
      let low = slice_get_within (onto_rules p h i) o rule.0 rule.1 in
      let there : AreThere p h i o (false_into p h i m x) = record {
        onto = low;
        into = places-below Rule (λ r. not (in_target m x r)) (into_rules p h i);
        rising = places-rise Rule (λ r. not (in_target m x r)) 0 (into_rules p h i);
      } in
      subst (IsFitAt job) (sym is.asked) (record {
        asks = λ g j n set e. asked-fit h i o (false_into p h i m x) g j n set relevant there e;
        relevant = leads-on h i o low relevant;
        declared = is.declared;
      })
    where
      asked-fit : (h i o : ℕ) (ks : List ℕ) (g j n : ℕ) (set : List ℕ) → is_in job.relevant i ≡ true → AreThere p h i o ks → Asked h i o ks ≡ Asked g j n set
          → (is_in job.relevant j ≡ true) × AreThere p g j n set
      asked-fit h i o ks g j n set relevant there e =
          let parts = key-parts h i o ks g j n set e in (
            subst (λ k. is_in job.relevant k ≡ true) parts.1 relevant,
            subst (λ k. AreThere p k j n set) parts.0 (subst (λ k. AreThere p h k n set) parts.1 (subst (λ k. AreThere p h i k set) parts.2 (subst (AreThere p h i o) parts.3 there))),
          )
        where
          key-parts : (h i o : ℕ) (ks : List ℕ) (g j n : ℕ) (set : List ℕ) → Asked h i o ks ≡ Asked g j n set → (h ≡ g) × (i ≡ j) × (o ≡ n) × (ks ≡ set)
          key-parts h i o ks g j n set e = (cc, cc, cc, cc)

  -- a change of one task that keeps its key
  fit-changed : (tasks : List Task) (props : List (List Prop)) (f : Task → Task) (t : ℕ) → ((a : Task) → (f a).key ≡ a.key) → AreFit job tasks props → AreFit job (change_at f tasks t) props
  fit-changed tasks props f t same fit = record {
    keys = λ u b at. let c = changed-at Task f tasks t u b at in subst (IsFitAt job) (key-kept b c.0 u c.2) (fit.keys u c.0 c.1);
    rules = fit.rules;
  }
    where
      key-kept : (b a : Task) (u : ℕ) → (b ≡ a) ⊎ ((u ≡ t) × (b ≡ f a)) → a.key ≡ b.key
      key-kept b a u (inl e) = sym (ap (λ (x : Task). x.key) e)
      key-kept b a u (inr e) = sym (ap (λ (x : Task). x.key) e.1 ∙ same a)

  into-cases : (props : List (List Prop)) (j i n : ℕ) (x prop : Prop) → slice_get (into_peer (change_at (λ l. l ++ x ∷ []) props j) i) n ≡ Some prop
      → (slice_get (into_peer props i) n ≡ Some prop) ⊎ ((i ≡ j) × (prop ≡ x))
  into-cases [] j i n x prop at = inl at
  into-cases (l ∷ props) zero zero n x prop at = elim (at-append_cases Prop l (x ∷ []) n prop at) [
    | inl old ↦ inl old
    | inr new ↦ inr (refl, last new.0 new.2)
  ]
    where
      last : (k : ℕ) → slice_get (x ∷ []) k ≡ Some prop → prop ≡ x
      last zero e = sym (same_Some x prop e)
      last (suc k) e = cc
  into-cases (l ∷ props) zero (suc i) n x prop at = inl at
  into-cases (l ∷ props) (suc j) zero n x prop at = inl at
  into-cases (l ∷ props) (suc j) (suc i) n x prop at = elim (into-cases props j i n x prop at) [
    | inl old ↦ inl old
    | inr new ↦ inr (ap suc new.0, new.1)
  ]

  closed-rules : (props : List (List Prop)) (label : List Concept) (line : ℕ) (key : Key) → IsFitKey job key
      → ((i n : ℕ) (prop : Prop) → slice_get (into_peer props i) n ≡ Some prop → HasRules p i prop)
      → (i n : ℕ) (prop : Prop) → slice_get (into_peer (with_prop p label line props key) i) n ≡ Some prop → HasRules p i prop
  closed-rules props label line Root fits all i n prop at = all i n prop at
  closed-rules props label line (Asked h j o set) fits all i n prop at =
      let x : Prop = record { from = h; onto = o; into_set = needed p h j label set; line = line } in
      let there = (fits h j o set refl).1 in
      let new : HasRules p j x = record {
        onto = there.onto;
        into = All-filter (_) (λ k. k < length (into_rules p h j)) set there.into;
        rising = rising-filter (_) set there.rising;
      } in
      elim (into-cases props j i n x prop at) [
        | inl old ↦ all i n prop old
        | inr q ↦ subst (λ k. HasRules p k prop) (sym q.0) (subst (HasRules p j) (sym q.1) new)
      ]

fit-step : (v : SessionView) (placed : IsPlaced v.job) (e : Event) (lines : List Line) → AreFit v.job v.tasks v.props → IsAllowed v e lines
    → AreFit v.job (apply v e lines).tasks (apply v e lines).props
fit-step v placed (event.Take t worker number seen) lines fit may = fit-changed v.job placed v.tasks v.props (taken number seen) t (λ a. refl) fit
fit-step v placed (event.Closed t number count) lines fit may =
    let own : Task = may.by.task in
    let props_are : props_after v t lines ≡ with_prop v.job.pinned (last_label lines) (length v.lines + length lines - 1) v.props own.key =
    ap (λ o. option_map_or (λ (x : Task). with_prop v.job.pinned (last_label lines) (length v.lines + length lines - 1) v.props x.key) o v.props) may.by.at in
    let after = fit-changed v.job placed v.tasks v.props (proved_by (length v.lines + length lines - 1)) t (λ a. refl) fit in
    record {
      keys = after.keys;
      rules = λ i n prop at. closed-rules v.job placed v.props (last_label lines) (length v.lines + length lines - 1) own.key (fit.keys t own may.by.at).asks fit.rules i n prop
          (ap (λ ps. slice_get (into_peer ps i) n) (sym props_are) ∙ at);
    }
fit-step v placed (event.Opened t number m x) lines fit may =
    let own : Task = may.by.task in
    let keys_are : raised_keys v t m ≡ raised_by v.job.pinned (peer_of v.job own.key) m = ap (λ o. option_map_or (keys_for v m) o []) may.by.at in
    let added : AreFit v.job (with_keys v.tasks (raised_keys v t m)) v.props = record {
      keys = λ u a at. elim (with_keys-at v.tasks (raised_keys v t m) u a at) [
        | inl old ↦ fit.keys u a old
        | inr new ↦ subst (λ (b : Task). IsFitAt v.job b.key) (sym new.3)
            (raised-fit v.job placed (peer_of v.job own.key) m new.1 new.0 (fit.keys t own may.by.at).relevant (ap (λ ks. slice_get ks new.1) (sym keys_are) ∙ new.2))
      ];
      rules = fit.rules;
    } in
    fit-changed v.job placed (with_keys v.tasks (raised_keys v t m)) v.props
    (opened_by (length v.journal) (map (number_of (with_keys v.tasks (raised_keys v t m))) (raised_keys v t m))) t (λ a. refl) added
fit-step v placed (event.Spent t number run) lines fit may = fit-changed v.job placed v.tasks v.props given_back t (λ a. refl) fit
fit-step v placed (event.Give t number) lines fit may = fit-changed v.job placed v.tasks v.props given_back t (λ a. refl) fit

pub same-job : (v : SessionView) (e : Event) (lines : List Line) → (apply v e lines).job ≡ v.job
same-job v (event.Take t worker number seen) lines = refl
same-job v (event.Closed t number count) lines = refl
same-job v (event.Opened t number m x) lines = refl
same-job v (event.Spent t number run) lines = refl
same-job v (event.Give t number) lines = refl

pub run-job : (job : Job) (start : Start) (v : SessionView) → Runs job start v → v.job ≡ job
run-job job start v (opened is) = refl
run-job job start v (stepped w e lines r may) = same-job w e lines ∙ run-job job start w r

pub fit-runs : (job : Job) (placed : IsPlaced job) (start : Start) (v : SessionView) → Runs job start v → AreFit v.job v.tasks v.props
fit-runs job placed start v (opened is) = record {
  keys = λ u a at. subst (λ (b : Task). IsFitAt job b.key) (only u a at) (record {
    asks = λ h i o set e. absurd (root-asks h i o set e);
    relevant = (placed.relevant.exactly job.query.peer).1 ∣ itself ∣₁;
    declared = placed.asked;
  });
  rules = λ i n prop at. All-at Prop (HasRules job.pinned i) (into_peer start.props i) n prop (is.by_rules i) at;
}
  where
    root-asks : (h i o : ℕ) (set : List ℕ) → Root ≡ Asked h i o set → ⊥
    root-asks h i o set e = cc

    only : (u : ℕ) (a : Task) → slice_get (new_task Root ∷ []) u ≡ Some a → new_task Root ≡ a
    only zero a e = same_Some (new_task Root) a e
    only (suc u) a e = cc
fit-runs job placed start v (stepped w e lines r may) =
    let there : IsPlaced w.job = subst IsPlaced (sym (run-job job start w r)) placed in
    subst (λ j. AreFit j (apply w e lines).tasks (apply w e lines).props) (sym (same-job w e lines)) (fit-step w there e lines (fit-runs job placed start w r) may)

-- a task of a legal session, with the propagations into its peer
pub fit-task : (v : SessionView) → IsLegal v → (t : ℕ) (task : Task) → slice_get v.tasks t ≡ Some task → IsPlaced v.job → IsFitTask v.job task.key (props_for v task)
fit-task v legal t task at placed = ∥∥₁_elim legal (hlevel props) (λ runs.
    let fit = fit-runs v.job placed v.start v runs in
    let key = fit.keys t task at in
    record {
      asks = key.asks;
      relevant = key.relevant;
      declared = key.declared;
      view_by = All-from Prop (IsPropFrom v.job.pinned (peer_of v.job task.key)) (props_for v task) (λ n prop e.
          prop-from v.job placed (peer_of v.job task.key) prop (fit.rules (peer_of v.job task.key) n prop e));
    })

-- the same of a job, a key and a view that are the session's, the task's and what there is now
pub fit-ticket : (v : SessionView) → IsLegal v → (t : ℕ) (task : Task) (job : Job) (key : Key) (view : List Prop) → slice_get v.tasks t ≡ Some task → task.key ≡ key
    → job ≡ v.job → view ≡ into_peer v.props (peer_of v.job key) → IsPlaced job → IsFitTask job key view
fit-ticket v legal t task job key view at is_key is_job is_view placed =
    subst (λ j. IsFitTask j key view) (sym is_job) (subst (IsFitTask v.job key) (sym is_view)
    (subst (λ k. IsFitTask v.job k (into_peer v.props (peer_of v.job k))) is_key (fit-task v legal t task at (subst IsPlaced is_job placed))))
