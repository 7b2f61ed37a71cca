-- The lines of a session are right, and prove what its propagations and its proved tasks say: by induction on its events.
use Rattle.std.proofs.Common.{◌≡◌, ◌∙◌, ◌⊎◌, ◌≤◌, ◌+◌, ◌-◌, ℕ, zero, suc, true, List, [], ◌∷◌, ◌++◌, map, take, length, None, Some, ap, refl, subst, sym, inl, inr, arith}
use Rattle.std.specs.List.{slice_get}
use Rattle.std.specs.Option.{option_map_or}
use Rattle.std.proofs.lemmas.List.{take-append-le}
use Rattle.std.proofs.lemmas.Option.{same_Some, slice_get_past, slice_get_within}
use Rattle.dd_concept.specs.declared.concept.Concept.{Concept}
use Rattle.dd_concept.specs.Same.{is_within}
use Rattle.dd_concept.proofs.Sets.{within-refl, within-trans}
use Rattle.dd_peer.specs.declared.version.Pinned.{Pinned}
use Rattle.dd_peer.specs.Relevant.{is_in}
use Rattle.dd_task.specs.Claims.{Claim, claim_of}
use Rattle.dd_task.specs.declared.job.Job.{Job}
use Rattle.dd_task.specs.declared.job.Key.{Key}
use Rattle.dd_task.specs.declared.job.Key.TheVariants.{Root, Asked}
use Rattle.dd_task.specs.declared.line.Line.{Line}
use Rattle.dd_task.specs.declared.line.Prop.{Prop}
use Rattle.dd_task.specs.Derives.{EndsWithin}
use Rattle.dd_task.specs.Goals.{peer_of, goal_for, asked_label, claim_of_prop, claims_of_view}
use Rattle.dd_task.specs.Lines.{is_right, AreRight}
use Rattle.dd_task.specs.Rules.{all_onto}
use Rattle.dd_task.specs.Verdicts.{cuts_target}
use Rattle.dd_task.specs.declared.line.Why.{Why}
use Rattle.dd_task.specs.declared.line.Why.TheVariants as why
use Rattle.dd_peer.specs.declared.version.Rule.{Rule}
use Rattle.dd_task.proofs.Places.{All-at, at-append, at-append_cases, at-behind}
use Rattle.dd_board.specs.declared.event.Event.{Event}
use Rattle.dd_board.specs.declared.event.Event.TheVariants as event
use Rattle.dd_board.specs.declared.event.TaskState.TheVariants as state
use Rattle.dd_board.specs.View.{Task, SessionView, Start, into_peer, props_for, change_at}
use Rattle.dd_board.specs.Moved.{moved_number, moved_why, moved_line}
use Rattle.dd_board.specs.Steps.{new_task, taken, given_back, proved_by, opened_by, needed, with_keys, number_of, raised_keys, with_prop, last_label, props_after, apply}
use Rattle.dd_board.specs.Allowed.{MayClose, IsAllowed, view_of}
use Rattle.dd_board.specs.Legal.{IsProvedBy, Runs, opened, stepped, IsLegal}
use Rattle.dd_board.specs.Fit.{IsPlaced}
use Rattle.dd_board.proofs.Changes.{changed-at, with_keys-at}
use Rattle.dd_board.proofs.Fitting.{fit-task}
use Rattle.dd_trace.specs.Evidence.{IsInClosure}
use Rattle.dd_trace.proofs.Lists.{at-take, taken-at, map-at, at-map, map-length}
use Rattle.dd_trace.proofs.Moving.{Finds, moved-right}
use Rattle.dd_trace.proofs.Needing.{within-needed}

-- the line says of the key's peer that no element has the key's label
pub record IsProof (job : Job) (lines : List Line) (key : Key) (n : ℕ) : Type 0 where
  pub line : Line
  pub at : slice_get lines n ≡ Some line
  pub peer : line.peer ≡ peer_of job key
  pub within : is_within line.label (goal_for job key).label ≡ true

-- the first `before` lines are those that the session began with; each other's concepts are in the closure of its peer, and it cuts on
-- a target of the peer's onto rules, where it cuts
pub record AreTraced (job : Job) (before : ℕ) (tasks : List Task) (lines : List Line) (props : List (List Prop)) : Type 0 where
  pub right : AreRight job.pinned lines
  pub peers : (n : ℕ) (line : Line) → slice_get lines n ≡ Some line → is_in job.relevant line.peer ≡ true
  pub inside : (n : ℕ) (line : Line) → slice_get lines n ≡ Some line → before ≤ n → IsInClosure job line.peer line.label
  pub cuts : (n : ℕ) (line : Line) → slice_get lines n ≡ Some line → before ≤ n → cuts_target (all_onto job.pinned line.peer) line.why ≡ true
  pub props_by : (i n : ℕ) (prop : Prop) → slice_get (into_peer props i) n ≡ Some prop → IsProvedBy job.pinned i lines prop
  pub proved : (u : ℕ) (a : Task) (n : ℕ) → slice_get tasks u ≡ Some a → a.state ≡ state.Proved n → IsProof job lines a.key n

-- ---- events that bring no lines

module _ (job : Job) (before : ℕ) (tasks : List Task) (lines : List Line) (props : List (List Prop)) (all : AreTraced job before tasks lines props)
    (t : ℕ) (f : Task → Task) (same : (a : Task) → (f a).key ≡ a.key) (keeps : (a : Task) (n : ℕ) → (f a).state ≡ state.Proved n → a.state ≡ state.Proved n) where
  pub traced-changed : AreTraced job before (change_at f tasks t) lines props
  traced-changed = record {
    right = all.right;
    peers = all.peers;
    inside = all.inside;
    cuts = all.cuts;
    props_by = all.props_by;
    proved = λ u b n at is. let c = changed-at Task f tasks t u b at in from u b n is c.0 c.1 c.2;
  }
    where
      from : (u : ℕ) (b : Task) (n : ℕ) → b.state ≡ state.Proved n → (a : Task) → slice_get tasks u ≡ Some a → (b ≡ a) ⊎ ((u ≡ t) × (b ≡ f a))
          → IsProof job lines b.key n
      from u b n is a at (inl e) = subst (λ (x : Task). IsProof job lines x.key n) (sym e) (all.proved u a n at (ap (λ (x : Task). x.state) (sym e) ∙ is))
      from u b n is a at (inr e) =
          subst (λ k. IsProof job lines k n) (sym (ap (λ (x : Task). x.key) e.1 ∙ same a))
          (all.proved u a n at (keeps a n (ap (λ (x : Task). x.state) (sym e.1) ∙ is)))

pub traced-added : (job : Job) (before : ℕ) (tasks : List Task) (lines : List Line) (props : List (List Prop)) (keys : List Key) → AreTraced job before tasks lines props
    → AreTraced job before (with_keys tasks keys) lines props
traced-added job before tasks lines props keys all = record {
  right = all.right;
  peers = all.peers;
  inside = all.inside;
  cuts = all.cuts;
  props_by = all.props_by;
  proved = λ u a n at is. elim (with_keys-at tasks keys u a at) [
    | inl old ↦ all.proved u a n old is
    | inr new ↦ absurd (unknown-proved n (ap (λ (x : Task). x.state) (sym new.3) ∙ is))
  ];
}
  where
    unknown-proved : (n : ℕ) → state.Unknown ≡ state.Proved n → ⊥
    unknown-proved n e = cc

-- ---- an event that brings lines

-- what is cut on does not move
moved-cuts : (onto : List Rule) (view : List Prop) (count : ℕ) (w : Why) → cuts_target onto (moved_why view count w) ≡ cuts_target onto w
moved-cuts onto view count why.Bottom = refl
moved-cuts onto view count (why.Clash a) = refl
moved-cuts onto view count (why.And at cite) = refl
moved-cuts onto view count (why.Or at left right) = refl
moved-cuts onto view count (why.Axiom n left right) = refl
moved-cuts onto view count (why.Cut on left right) = refl
moved-cuts onto view count (why.Successor at cite) = refl
moved-cuts onto view count (why.Bridge h o set cite each) = refl

module _ (v : SessionView) (all : AreTraced v.job (length v.start.lines) v.tasks v.lines v.props) (t number count : ℕ) (lines : List Line) (may : MayClose v t number count lines)
    (relevant : is_in v.job.relevant (peer_of v.job may.by.task.key) ≡ true) where
  abbrev p : Pinned
  p = v.job.pinned

  abbrev own : Task
  own = may.by.task

  abbrev peer : ℕ
  peer = peer_of v.job own.key

  abbrev view : List Prop
  view = view_of v own may.by.holder

  abbrev base : ℕ
  base = length v.lines

  abbrev moved : List Line
  moved = map (moved_line view base) may.own

  abbrev whole : List Line
  whole = v.lines ++ moved

  -- what the view claims stands among the session's lines
  view-claim : (q n : ℕ) (c : Claim) → base ≤ q → slice_get (claims_of_view p peer view) n ≡ Some c
      → (d : Claim) × (slice_get (map claim_of (take q whole)) (moved_number view base n) ≡ Some d) × (d.peer ≡ c.peer) × (is_within d.label c.label ≡ true)
  view-claim q n c le at =
      let prop = map-at Prop Claim (claim_of_prop p peer) view n c at in
      let known = taken-at Prop (props_for v own) may.by.holder.seen n prop.0 prop.1 in
      let by = all.props_by peer n prop.0 known.0 in
      let low = slice_get_within v.lines prop.0.line by.proof by.at in
      let place : moved_number view base n ≡ prop.0.line = ap (λ o. option_map_or (λ (x : Prop). x.line) o (n - length view + base)) prop.1 in
      let there = at-take Line whole q prop.0.line by.proof (at-append Line v.lines moved prop.0.line by.proof by.at) (omega (arith, low, le)) in (
        claim_of by.proof,
        ap (slice_get (map claim_of (take q whole))) place ∙ at-map Line Claim claim_of (take q whole) prop.0.line by.proof there,
        by.peer ∙ ap (λ (x : Claim). x.peer) prop.2,
        subst (λ (x : Claim). is_within by.proof.label x.label ≡ true) prop.2 by.within,
      )

  own-claim : (k n j : ℕ) (c : Claim) → n ≡ length (claims_of_view p peer view) + j → slice_get (map claim_of (take k may.own)) j ≡ Some c
      → (d : Claim) × (slice_get (map claim_of (take (base + k) whole)) (moved_number view base n) ≡ Some d) × (d.peer ≡ c.peer) × (is_within d.label c.label ≡ true)
  own-claim k n j c is at =
      let line = map-at Line Claim claim_of (take k may.own) j c at in
      let known = taken-at Line may.own k j line.0 line.1 in
      let many = map-length Prop Claim (claim_of_prop p peer) view in
      let past : slice_get view n ≡ None = slice_get_past view n (omega (arith, is, many)) in
      let place : moved_number view base n ≡ base + j =
      ap (λ o. option_map_or (λ (x : Prop). x.line) o (n - length view + base)) past ∙ (let e : n - length view + base ≡ base + j = omega (arith, is, many) in e) in
      let behind : slice_get whole (base + j) ≡ Some (moved_line view base line.0) =
      at-behind Line v.lines moved j ∙ at-map Line Line (moved_line view base) may.own j line.0 known.0 in
      let low = known.1 in
      let there = at-take Line whole (base + k) (base + j) (moved_line view base line.0) behind (omega (arith, low)) in (
        claim_of (moved_line view base line.0),
        ap (slice_get (map claim_of (take (base + k) whole))) place
            ∙ at-map Line Claim claim_of (take (base + k) whole) (base + j) (moved_line view base line.0) there,
        ap (λ (x : Claim). x.peer) line.2,
        subst (λ (x : Claim). is_within line.0.label x.label ≡ true) line.2 (within-refl line.0.label),
      )

  finds : (k : ℕ) → Finds (claims_of_view p peer view ++ map claim_of (take k may.own)) (map claim_of (take (base + k) whole)) (moved_number view base)
  finds k n c at = elim (at-append_cases Claim (claims_of_view p peer view) (map claim_of (take k may.own)) n c at) [
    | inl h ↦ view-claim (base + k) n c (omega arith) h
    | inr h ↦ own-claim k n h.0 c h.1 h.2
  ]

  take-first : (q : ℕ) → q ≤ base → take q whole ≡ take q v.lines
  take-first q le = take-append-le q v.lines moved le

  right-whole : AreRight p whole
  right-whole q line at = elim (at-append_cases Line v.lines moved q line at) [
    | inl h ↦
        let low = slice_get_within v.lines q line h in
        ap (λ ls. is_right p (map claim_of ls) line) (take-first q (omega (arith, low))) ∙ all.right q line h
    | inr h ↦
        let from = map-at Line Line (moved_line view base) may.own h.0 line h.2 in
        let before = may.right.by.right h.0 from.0 from.1 in
        ap (λ n. is_right p (map claim_of (take n whole)) line) h.1
        ∙ subst (λ l. is_right p (map claim_of (take (base + h.0) whole)) l ≡ true) from.2
        (moved-right p (claims_of_view p peer view ++ map claim_of (take h.0 may.own)) (map claim_of (take (base + h.0) whole)) view base (finds h.0) from.0 before)
  ]

  peers-whole : (n : ℕ) (line : Line) → slice_get whole n ≡ Some line → is_in v.job.relevant line.peer ≡ true
  peers-whole n line at = elim (at-append_cases Line v.lines moved n line at) [
    | inl h ↦ all.peers n line h
    | inr h ↦
        let from = map-at Line Line (moved_line view base) may.own h.0 line h.2 in
        let at_peer : from.0.peer ≡ peer = All-at Line (λ l. l.peer ≡ peer) may.own h.0 from.0 may.right.by.own from.1 in
        ap (is_in v.job.relevant) (ap (λ (l : Line). l.peer) (sym from.2) ∙ at_peer) ∙ relevant
  ]

  inside-whole : (n : ℕ) (line : Line) → slice_get whole n ≡ Some line → length v.start.lines ≤ n → IsInClosure v.job line.peer line.label
  inside-whole n line at le = elim (at-append_cases Line v.lines moved n line at) [
    | inl h ↦ all.inside n line h le
    | inr h ↦
        let from = map-at Line Line (moved_line view base) may.own h.0 line h.2 in
        let at_peer : from.0.peer ≡ peer = All-at Line (λ l. l.peer ≡ peer) may.own h.0 from.0 may.right.by.own from.1 in
        let here = All-at Line (λ l. is_within l.label may.right.closure ≡ true) may.own h.0 from.0 may.right.by.inside from.1 in
        subst (λ (l : Line). IsInClosure v.job l.peer l.label) from.2
        (subst (λ i. IsInClosure v.job i from.0.label) (sym at_peer)
        (λ other closed. within-trans from.0.label may.right.closure other here (may.right.is_closure.least other closed)))
  ]

  cuts-whole : (n : ℕ) (line : Line) → slice_get whole n ≡ Some line → length v.start.lines ≤ n → cuts_target (all_onto p line.peer) line.why ≡ true
  cuts-whole n line at le = elim (at-append_cases Line v.lines moved n line at) [
    | inl h ↦ all.cuts n line h le
    | inr h ↦
        let from = map-at Line Line (moved_line view base) may.own h.0 line h.2 in
        let at_peer : from.0.peer ≡ peer = All-at Line (λ l. l.peer ≡ peer) may.own h.0 from.0 may.right.by.own from.1 in
        let here = All-at Line (λ l. cuts_target (all_onto p peer) l.why ≡ true) may.own h.0 from.0 may.right.by.cuts from.1 in
        subst (λ (l : Line). cuts_target (all_onto p l.peer) l.why ≡ true) from.2
        (moved-cuts (all_onto p from.0.peer) view base from.0.why ∙ ap (λ i. cuts_target (all_onto p i) from.0.why) at_peer ∙ here)
  ]

  -- the last line proves the task's key
  last-place : length v.lines + length moved - 1 ≡ base + (length may.own - 1)
  last-place =
      let ends : EndsWithin peer (goal_for v.job own.key).label may.own = may.right.by.last in
      let low = slice_get_within may.own (length may.own - 1) ends.line ends.is_last in
      let many = map-length Line Line (moved_line view base) may.own in
      omega (arith, low, many)

  last-line : Line
  last-line = moved_line view base may.right.by.last.line

  last-at : slice_get whole (length v.lines + length moved - 1) ≡ Some last-line
  unfolding last-line
  last-at = ap (slice_get whole) last-place ∙ at-behind Line v.lines moved (length may.own - 1)
      ∙ at-map Line Line (moved_line view base) may.own (length may.own - 1) may.right.by.last.line may.right.by.last.is_last

  last-proof : IsProof v.job whole own.key (length v.lines + length moved - 1)
  unfolding last-line
  last-proof = record { line = last-line; at = last-at; peer = may.right.by.last.at_peer; within = may.right.by.last.within }

  last-label : last_label moved ≡ last-line.label
  unfolding last-line
  last-label =
      let many = map-length Line Line (moved_line view base) may.own in
      ap (λ o. option_map_or (λ (line : Line). line.label) o [])
      (ap (λ n. slice_get moved (n - 1)) many ∙ at-map Line Line (moved_line view base) may.own (length may.own - 1) may.right.by.last.line may.right.by.last.is_last)

  more-proof : (key : Key) (n : ℕ) → IsProof v.job v.lines key n → IsProof v.job whole key n
  more-proof key n by = record { line = by.line; at = at-append Line v.lines moved n by.line by.at; peer = by.peer; within = by.within }

  more-proved : (i : ℕ) (prop : Prop) → IsProvedBy p i v.lines prop → IsProvedBy p i whole prop
  more-proved i prop by = record { proof = by.proof; at = at-append Line v.lines moved prop.line by.proof by.at; peer = by.peer; within = by.within }

  -- ---- the new propagation

  into-cases : (props : List (List Prop)) (j i n : ℕ) (x prop : Prop) → slice_get (into_peer (change_at (λ l. l ++ x ∷ []) props j) i) n ≡ Some prop
      → (slice_get (into_peer props i) n ≡ Some prop) ⊎ ((i ≡ j) × (x ≡ prop))
  into-cases [] j i n x prop at = inl at
  into-cases (l ∷ props) zero zero n x prop at = elim (at-append_cases Prop l (x ∷ []) n prop at) [
    | inl old ↦ inl old
    | inr new ↦ inr (refl, one new.0 new.2)
  ]
    where
      one : (k : ℕ) → slice_get (x ∷ []) k ≡ Some prop → x ≡ prop
      one zero e = same_Some x prop e
      one (suc k) e = cc
  into-cases (l ∷ props) zero (suc i) n x prop at = inl at
  into-cases (l ∷ props) (suc j) zero n x prop at = inl at
  into-cases (l ∷ props) (suc j) (suc i) n x prop at = elim (into-cases props j i n x prop at) [
    | inl old ↦ inl old
    | inr new ↦ inr (ap suc new.0, new.1)
  ]

  new-props : (key : Key) → IsProof v.job whole key (length v.lines + length moved - 1) → (label : List Concept)
      → ((line : Line) → slice_get whole (length v.lines + length moved - 1) ≡ Some line → label ≡ line.label)
      → (i n : ℕ) (prop : Prop) → slice_get (into_peer (with_prop p label (length v.lines + length moved - 1) v.props key) i) n ≡ Some prop
      → IsProvedBy p i whole prop
  new-props Root by label is i n prop at = more-proved i prop (all.props_by i n prop at)
  new-props (Asked h j o set) by label is i n prop at =
      let line : ℕ = length v.lines + length moved - 1 in
      let x : Prop = record { from = h; onto = o; into_set = needed p h j label set; line = line } in
      let same : label ≡ by.line.label = is by.line by.at in
      let new : IsProvedBy p j whole x = record {
        proof = by.line;
        at = by.at;
        peer = by.peer;
        within = subst (λ l. is_within by.line.label (asked_label p h j o (needed p h j l set)) ≡ true) (sym same) (within-needed p h j by.line.label o set by.within);
      } in
      elim (into-cases v.props j i n x prop at) [
        | inl old ↦ more-proved i prop (all.props_by i n prop old)
        | inr q ↦ subst (λ k. IsProvedBy p k whole prop) (sym q.0) (subst (IsProvedBy p j whole) q.1 new)
      ]

  abbrev after : List Task
  after = change_at (proved_by (length v.lines + length moved - 1)) v.tasks t

  proved-whole : (u : ℕ) (b : Task) (n : ℕ) → slice_get after u ≡ Some b → b.state ≡ state.Proved n → IsProof v.job whole b.key n
  proved-whole u b n at is =
      let c = changed-at Task (proved_by (length v.lines + length moved - 1)) v.tasks t u b at in from c.0 c.1 c.2
    where
      same-line : (x y : ℕ) → state.Proved x ≡ state.Proved y → x ≡ y
      same-line x y e = cc

      from : (a : Task) → slice_get v.tasks u ≡ Some a → (b ≡ a) ⊎ ((u ≡ t) × (b ≡ proved_by (length v.lines + length moved - 1) a)) → IsProof v.job whole b.key n
      from a at_a (inl e) = subst (λ (x : Task). IsProof v.job whole x.key n) (sym e)
          (more-proof a.key n (all.proved u a n at_a (ap (λ (x : Task). x.state) (sym e) ∙ is)))
      from a at_a (inr e) =
          let one : own ≡ a = same_Some own a (sym may.by.at ∙ ap (slice_get v.tasks) (sym e.0) ∙ at_a) in
          let key : own.key ≡ b.key = ap (λ (x : Task). x.key) one ∙ ap (λ (x : Task). x.key) (sym e.1) in
          let number : length v.lines + length moved - 1 ≡ n =
          same-line (length v.lines + length moved - 1) n (ap (λ (x : Task). x.state) (sym e.1) ∙ is) in
          subst (λ k. IsProof v.job whole k n) key (subst (IsProof v.job whole own.key) number last-proof)

  closed-moved : AreTraced v.job (length v.start.lines) after whole (with_prop p (last_label moved) (length v.lines + length moved - 1) v.props own.key)
  closed-moved = record {
    right = right-whole;
    peers = peers-whole;
    inside = inside-whole;
    cuts = cuts-whole;
    props_by = new-props own.key last-proof (last_label moved)
        (λ line at. last-label ∙ ap (λ (l : Line). l.label) (same_Some last-line line (sym last-at ∙ at)));
    proved = proved-whole;
  }

  pub traced-closed : AreTraced v.job (length v.start.lines) (change_at (proved_by (length v.lines + length lines - 1)) v.tasks t) (v.lines ++ lines) (props_after v t lines)
  traced-closed =
      let props_are : with_prop p (last_label lines) (length v.lines + length lines - 1) v.props own.key ≡ props_after v t lines =
      sym (ap (λ o. option_map_or (λ (x : Task). with_prop p (last_label lines) (length v.lines + length lines - 1) v.props x.key) o v.props) may.by.at) in
      subst (AreTraced v.job (length v.start.lines) (change_at (proved_by (length v.lines + length lines - 1)) v.tasks t) (v.lines ++ lines)) props_are
      (subst (λ ls. AreTraced v.job (length v.start.lines) (change_at (proved_by (length v.lines + length ls - 1)) v.tasks t) (v.lines ++ ls)
      (with_prop p (last_label ls) (length v.lines + length ls - 1) v.props own.key)) (sym may.moved) closed-moved)

-- ---- all events

traced-step : (v : SessionView) (e : Event) (lines : List Line) → IsLegal v → IsPlaced v.job → AreTraced v.job (length v.start.lines) v.tasks v.lines v.props → IsAllowed v e lines
    → AreTraced v.job (length v.start.lines) (apply v e lines).tasks (apply v e lines).lines (apply v e lines).props
traced-step v (event.Take t worker number seen) lines legal placed all may =
    traced-changed v.job (length v.start.lines) v.tasks v.lines v.props all t (taken number seen) (λ a. refl) (λ a n e. e)
traced-step v (event.Closed t number count) lines legal placed all may =
    traced-closed v all t number count lines may (fit-task v legal t may.by.task may.by.at placed).relevant
traced-step v (event.Opened t number m x) lines legal placed all may =
    traced-changed v.job (length v.start.lines) (with_keys v.tasks (raised_keys v t m)) v.lines v.props (traced-added v.job (length v.start.lines) v.tasks v.lines v.props (raised_keys v t m) all) t
    (opened_by (length v.journal) (map (number_of (with_keys v.tasks (raised_keys v t m))) (raised_keys v t m))) (λ a. refl) (λ a n e. absurd (open-proved _ _ _ n e))
  where
    open-proved : (at : ℕ) (raised : List ℕ) (seen n : ℕ) → state.Open at raised seen ≡ state.Proved n → ⊥
    open-proved at raised seen n e = cc
traced-step v (event.Spent t number run) lines legal placed all may =
    traced-changed v.job (length v.start.lines) v.tasks v.lines v.props all t given_back (λ a. refl) (λ a n e. e)
traced-step v (event.Give t number) lines legal placed all may =
    traced-changed v.job (length v.start.lines) v.tasks v.lines v.props all t given_back (λ a. refl) (λ a n e. e)

same-job : (v : SessionView) (e : Event) (lines : List Line) → ((apply v e lines).job ≡ v.job) × ((apply v e lines).start ≡ v.start)
same-job v (event.Take t worker number seen) lines = (refl, refl)
same-job v (event.Closed t number count) lines = (refl, refl)
same-job v (event.Opened t number m x) lines = (refl, refl)
same-job v (event.Spent t number run) lines = (refl, refl)
same-job v (event.Give t number) lines = (refl, refl)

run-job : (job : Job) (start : Start) (v : SessionView) → Runs job start v → (v.job ≡ job) × (v.start ≡ start)
run-job job start v (opened is) = (refl, refl)
run-job job start v (stepped w e lines r may) =
    let s = same-job w e lines in
    let h = run-job job start w r in
    (s.0 ∙ h.0, s.1 ∙ h.1)

run-legal : (job : Job) (start : Start) (v : SessionView) → Runs job start v → IsLegal v
run-legal job start v r =
    let h = run-job job start v r in
    ∣ subst (λ s. Runs v.job s v) (sym h.1) (subst (λ j. Runs j start v) (sym h.0) r) ∣₁

pub traced : (job : Job) → IsPlaced job → (start : Start) (v : SessionView) → Runs job start v → AreTraced v.job (length v.start.lines) v.tasks v.lines v.props
traced job placed start v (opened is) = record {
  right = is.right;
  peers = λ n line at. All-at Line (λ l. is_in job.relevant l.peer ≡ true) start.lines n line is.peers at;
  inside = λ n line at le. let lt = slice_get_within start.lines n line at in absurd (omega (arith, lt, le));
  cuts = λ n line at le. let lt = slice_get_within start.lines n line at in absurd (omega (arith, lt, le));
  props_by = λ i n prop at. All-at Prop (IsProvedBy job.pinned i start.lines) (into_peer start.props i) n prop (is.proved i) at;
  proved = λ u a n at state_is. absurd (unknown-proved n (ap (λ (x : Task). x.state) (only u a at) ∙ state_is));
}
  where
    unknown-proved : (n : ℕ) → state.Unknown ≡ state.Proved n → ⊥
    unknown-proved n e = cc

    only : (u : ℕ) (a : Task) → slice_get (new_task Root ∷ []) u ≡ Some a → new_task Root ≡ a
    only zero a e = same_Some (new_task Root) a e
    only (suc u) a e = cc
traced job placed start v (stepped w e lines r may) =
    let there : IsPlaced w.job = subst IsPlaced (sym (run-job job start w r).0) placed in
    subst (λ (s : Start). AreTraced (apply w e lines).job (length s.lines) (apply w e lines).tasks (apply w e lines).lines (apply w e lines).props) (sym (same-job w e lines).1)
    (subst (λ j. AreTraced j (length w.start.lines) (apply w e lines).tasks (apply w e lines).lines (apply w e lines).props) (sym (same-job w e lines).0)
    (traced-step w e lines (run-legal job start w r) there (traced job placed start w r) may))
