-- Each allowed event keeps what holds of a session's tasks.
use Rattle.std.proofs.Common.{◌≡◌, ◌∙◌, ◌⊎◌, ℕ, zero, suc, ◌<◌, ◌≤◌, Bool, true, false, ◌||◌, ◌&&◌, nat_eq, cond, List, [], ◌∷◌, ◌++◌, length, None, Some, ap, refl, subst, sym, inl, inr, arith}
use Rattle.std.specs.List.{slice_get, list_any, filter}
use Rattle.std.proofs.lemmas.Bool.{cases_Bool, eq-eqb, and_from}
use Rattle.std.proofs.lemmas.Option.{same_Some}
use Rattle.std.proofs.lemmas.List.{append-nil}
use Rattle.std.proofs.lemmas.List.Folds.{list_any-append}
use Rattle.dd_concept.specs.declared.concept.Concept.{Concept}
use Rattle.dd_peer.specs.declared.version.Pinned.{Pinned}
use Rattle.dd_task.specs.declared.job.Job.{Job}
use Rattle.dd_task.specs.declared.job.Key.{Key}
use Rattle.dd_task.specs.declared.job.Key.TheVariants.{Root, Asked}
use Rattle.dd_task.specs.declared.line.Line.{Line}
use Rattle.dd_task.specs.declared.line.Prop.{Prop}
use Rattle.dd_task.specs.Keys.{is_among, are_among}
use Rattle.dd_task.specs.Goals.{peer_of}
use Rattle.dd_task.proofs.Places.{at-append}
use Rattle.dd_board.specs.declared.event.Event.{Event}
use Rattle.dd_board.specs.declared.event.Event.TheVariants as event
use Rattle.dd_board.specs.View.{Holder, Task, SessionView, into_peer, change_at}
use Rattle.dd_board.specs.Wanted.{answers}
use Rattle.dd_board.specs.Steps.{taken, given_back, needed, with_prop, apply}
use Rattle.dd_board.specs.Allowed.{MayTake}
use Rattle.dd_board.proofs.Changes.{changed-at, still-at, length-changed}
use Rattle.dd_board.proofs.Sound.{IsDeclared, IsOpened, IsSound, Grows, kept}

pub record IsSoundView (v : SessionView) : Type 0 where
  pub peers : length v.props ≡ length v.job.pinned.peers
  pub root : Task
  pub first : slice_get v.tasks 0 ≡ Some root
  pub asks_query : root.key ≡ Root
  pub each : (u : ℕ) (a : Task) → slice_get v.tasks u ≡ Some a → IsSound v.job v.tasks v.props v.journal a

-- ---- propagations

into-more : (props : List (List Prop)) (j i : ℕ) (x : Prop)
    → (new : List Prop) × (into_peer (change_at (λ l. l ++ x ∷ []) props j) i ≡ into_peer props i ++ new)
into-more [] j i x = ([], refl)
into-more (l ∷ props) zero zero x = (x ∷ [], refl)
into-more (l ∷ props) zero (suc i) x = ([], sym (append-nil (into_peer props i)))
into-more (l ∷ props) (suc j) zero x = ([], sym (append-nil l))
into-more (l ∷ props) (suc j) (suc i) x = into-more props j i x

into-added : (props : List (List Prop)) (j : ℕ) (x : Prop) → j < length props
    → into_peer (change_at (λ l. l ++ x ∷ []) props j) j ≡ into_peer props j ++ x ∷ []
into-added [] j x lt = absurd (omega (arith, lt))
into-added (l ∷ props) zero x lt = refl
into-added (l ∷ props) (suc j) x lt = into-added props j x (omega (arith, lt))

pub same_props : (props : List (List Prop)) (i : ℕ) → (new : List Prop) × (into_peer props i ≡ into_peer props i ++ new)
same_props props i = ([], sym (append-nil (into_peer props i)))

module _ (p : Pinned) (label : List Concept) (line : ℕ) (props : List (List Prop)) where
  pub with_prop-more : (key : Key) (i : ℕ) → (new : List Prop) × (into_peer (with_prop p label line props key) i ≡ into_peer props i ++ new)
  with_prop-more Root i = same_props props i
  with_prop-more (Asked h j o set) i = into-more props j i (record { from = h; onto = o; into_set = needed p h j label set; line = line })

  pub with_prop-length : (key : Key) → length (with_prop p label line props key) ≡ length props
  with_prop-length Root = refl
  with_prop-length (Asked h j o set) =
      length-changed (List Prop) (λ l. l ++ record { from = h; onto = o; into_set = needed p h j label set; line = line } ∷ []) props j

-- the items of a list that pass are all in the list
are_among-filter : (test : ℕ → Bool) (set whole : List ℕ) → ((k : ℕ) → is_among set k ≡ true → is_among whole k ≡ true)
    → are_among (filter test set) whole ≡ true
are_among-filter test [] whole h = refl
are_among-filter test (a ∷ set) whole h =
    let rest = are_among-filter test set whole (λ k e. h k (later k e)) in
    elim (cases_Bool (test a)) [
      | inl passes ↦ ap (λ b. are_among (cond b (a ∷ filter test set) (filter test set)) whole) passes
          ∙ and_from (is_among whole a) (are_among (filter test set) whole) (h a (ap (λ b. b || is_among set a) (eq-eqb a a refl))) rest
      | inr fails ↦ ap (λ b. are_among (cond b (a ∷ filter test set) (filter test set)) whole) fails ∙ rest
    ]
  where
    later : (k : ℕ) → is_among set k ≡ true → (nat_eq a k || is_among set k) ≡ true
    later k e = elim (cases_Bool (nat_eq a k)) [
      | inl s ↦ ap (λ b. b || is_among set k) s
      | inr s ↦ ap (λ b. b || is_among set k) s ∙ e
    ]

-- the propagation of a key answers it
answers-own : (p : Pinned) (label : List Concept) (line h i o : ℕ) (set : List ℕ)
    → answers (record { from = h; onto = o; into_set = needed p h i label set; line = line }) (Asked h i o set) ≡ true
answers-own p label line h i o set = and_from (nat_eq h h) (nat_eq o o && are_among (needed p h i label set) set) (eq-eqb h h refl)
    (and_from (nat_eq o o) (are_among (needed p h i label set) set) (eq-eqb o o refl) (are_among-filter (_) set set (λ k e. e)))

or-true : (a : Bool) → (a || true) ≡ true
or-true true = refl
or-true false = refl

pub with_prop-answers : (p : Pinned) (label : List Concept) (line : ℕ) (props : List (List Prop)) (h i o : ℕ) (set : List ℕ) → i < length props
    → list_any (λ prop. answers prop (Asked h i o set)) (into_peer (with_prop p label line props (Asked h i o set)) i) ≡ true
with_prop-answers p label line props h i o set lt =
    let x : Prop = record { from = h; onto = o; into_set = needed p h i label set; line = line } in
    let test : Prop → Bool = λ prop. answers prop (Asked h i o set) in
    ap (list_any test) (into-added props i x lt)
    ∙ list_any-append test (into_peer props i) (x ∷ [])
    ∙ ap (λ b. list_any test (into_peer props i) || (b || false)) (answers-own p label line h i o set)
    ∙ or-true (list_any test (into_peer props i))

-- ---- one task is changed, and keeps its key

module _ (job : Job) (tasks : List Task) (props props' : List (List Prop)) (journal : List Event) (e : Event) (t : ℕ) (f : Task → Task)
    (same : (a : Task) → (f a).key ≡ a.key) (more : (i : ℕ) → (new : List Prop) × (into_peer props' i ≡ into_peer props i ++ new)) where
  abbrev tasks' : List Task
  tasks' = change_at f tasks t

  abbrev journal' : List Event
  journal' = journal ++ e ∷ []

  key_of : (a b : Task) (u : ℕ) → (b ≡ a) ⊎ ((u ≡ t) × (b ≡ f a)) → b.key ≡ a.key
  key_of a b u (inl s) = ap (λ (x : Task). x.key) s
  key_of a b u (inr s) = ap (λ (x : Task). x.key) s.1 ∙ same a

  pub changed_grows : Grows job tasks tasks' props props' journal journal'
  changed_grows = record {
    keys = λ u a at. let h = still-at Task f tasks t u a at in (h.0, h.1, key_of a h.0 u h.2);
    more = more;
    events = λ at ev s. at-append Event journal (e ∷ []) at ev s;
  }

  pub changed_each : ((u : ℕ) (a : Task) → slice_get tasks u ≡ Some a → IsSound job tasks props journal a)
      → ((a : Task) → slice_get tasks t ≡ Some a → IsSound job tasks' props' journal' (f a))
      → (u : ℕ) (b : Task) → slice_get tasks' u ≡ Some b → IsSound job tasks' props' journal' b
  changed_each all new u b at = let h = changed-at Task f tasks t u b at in from u b h.0 h.1 h.2
    where
      from : (u : ℕ) (b a : Task) → slice_get tasks u ≡ Some a → (b ≡ a) ⊎ ((u ≡ t) × (b ≡ f a)) → IsSound job tasks' props' journal' b
      from u b a s (inl q) = subst (IsSound job tasks' props' journal') (sym q)
          (kept job tasks tasks' props props' journal journal' changed_grows a (all u a s))
      from u b a s (inr q) = subst (IsSound job tasks' props' journal') (sym q.1) (new a (subst (λ n. slice_get tasks n ≡ Some a) q.0 s))

  pub changed_root : (root : Task) → slice_get tasks 0 ≡ Some root → root.key ≡ Root
      → (b : Task) × (slice_get tasks' 0 ≡ Some b) × (b.key ≡ Root)
  changed_root root at k = let h = still-at Task f tasks t 0 root at in (h.0, h.1, key_of root h.0 0 h.2 ∙ k)

-- where the state stays as well, only the new holder has to be looked at
module _ (v : SessionView) (s : IsSoundView v) (e : Event) (t : ℕ) (f : Task → Task) (same : (a : Task) → (f a).key ≡ a.key)
    (state_same : (a : Task) → (f a).state ≡ a.state)
    (held : (a : Task) → slice_get v.tasks t ≡ Some a → (h : Holder) → (f a).holder ≡ Some h → h.seen ≤ length (into_peer v.props (peer_of v.job a.key))) where
  abbrev after : List Task
  after = change_at f v.tasks t

  holder_each : (u : ℕ) (b : Task) → slice_get after u ≡ Some b → IsSound v.job after v.props (v.journal ++ e ∷ []) b
  holder_each = changed_each v.job v.tasks v.props v.props v.journal e t f same (same_props v.props) s.each (λ a at.
      let k = kept v.job v.tasks after v.props v.props v.journal (v.journal ++ e ∷ [])
      (changed_grows v.job v.tasks v.props v.props v.journal e t f same (same_props v.props)) a (s.each t a at) in
      record {
        declared = subst (IsDeclared v.job) (sym (same a)) k.declared;
        held = λ h q. subst (λ key. h.seen ≤ length (into_peer v.props (peer_of v.job key))) (sym (same a)) (held a at h q);
        opened = λ n raised seen q. subst (λ key. IsOpened v.job after v.props (v.journal ++ e ∷ []) key n raised seen) (sym (same a))
            (k.opened n raised seen (sym (state_same a) ∙ q));
        proved = λ line h i o set q r. k.proved line h i o set (sym (state_same a) ∙ q) (sym (same a) ∙ r);
      })

  holder_root : (b : Task) × (slice_get after 0 ≡ Some b) × (b.key ≡ Root)
  holder_root = changed_root v.job v.tasks v.props v.props v.journal e t f same (same_props v.props) s.root s.first s.asks_query

pub no_holder : (h : Holder) → None ≡ Some h → ⊥
no_holder h q = cc

pub gives_back : (v : SessionView) → IsSoundView v → (e : Event) (t : ℕ) → IsSoundView (record v {
  tasks = change_at given_back v.tasks t;
  journal = v.journal ++ e ∷ [];
})
gives_back v s e t =
    let r = holder_root v s e t given_back (λ a. refl) (λ a. refl) (λ a at h q. absurd (no_holder h q)) in
    record {
      peers = s.peers;
      root = r.0;
      first = r.1;
      asks_query = r.2;
      each = holder_each v s e t given_back (λ a. refl) (λ a. refl) (λ a at h q. absurd (no_holder h q));
    }

pub take_step : (v : SessionView) → IsSoundView v → (t worker number seen : ℕ) (lines : List Line) → MayTake v t number seen
    → IsSoundView (apply v (event.Take t worker number seen) lines)
take_step v s t worker number seen lines may =
    let held : (a : Task) → slice_get v.tasks t ≡ Some a → (h : Holder) → Some (record { number = number; seen = seen }) ≡ Some h
    → h.seen ≤ length (into_peer v.props (peer_of v.job a.key)) =
    λ a at h q.
    let same : may.task ≡ a = same_Some may.task a (sym may.at ∙ at) in
    let drawn : seen ≡ h.seen = ap (λ (x : Holder). x.seen) (same_Some (record { number = number; seen = seen }) h q) in
    let count : seen ≡ length (into_peer v.props (peer_of v.job a.key)) =
    may.sees ∙ ap (λ (x : Task). length (into_peer v.props (peer_of v.job x.key))) same in
    omega (arith, drawn, count) in
    let r = holder_root v s (event.Take t worker number seen) t (taken number seen) (λ a. refl) (λ a. refl) held in
    record {
      peers = s.peers;
      root = r.0;
      first = r.1;
      asks_query = r.2;
      each = holder_each v s (event.Take t worker number seen) t (taken number seen) (λ a. refl) (λ a. refl) held;
    }
