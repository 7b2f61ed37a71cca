-- The names and roles of the union of a session's parts are in the closures of their peers, since the parts are lean.
use Rattle.std.proofs.Common.{◌≡◌, ◌∙◌, ◌==◌, ◌&&◌, ◌<◌, ℕ, Bool, true, false, List, [], ◌∷◌, take, get_or, Some, ap, refl, subst, sym, arith}
use Rattle.std.specs.List.{slice_get, list_any}
use Rattle.std.proofs.Math.Bool.{Bool-set}
use Rattle.std.proofs.Math.Logic.{∥∥₁_elim}
use Rattle.std.proofs.lemmas.Bool.{and_from, and_parts, eq-eqb, eqb-true, or_left}
use Rattle.std.proofs.lemmas.List.Elements.{All-cons, All-nil}
use Rattle.std.proofs.lemmas.Option.{same_Some, slice_get-get_or}
use Rattle.dd_concept.specs.declared.concept.Concept.{Concept}
use Rattle.dd_concept.specs.declared.concept.Concept.TheVariants.{Name, HasSome, Top}
use Rattle.dd_concept.specs.Names.{names_in, names_in_at, roles_in, roles_in_at}
use Rattle.dd_concept.specs.Same.{has, is_same, is_within}
use Rattle.dd_concept.proofs.Closure.{reached-within}
use Rattle.dd_concept.proofs.Folds.{fold-HasSome, fold-Name}
use Rattle.dd_concept.proofs.SameIs.{is_same-is}
use Rattle.dd_concept.proofs.Sets.{within-has}
use Rattle.dd_interp.specs.declared.interp.Interp.{Interp}
use Rattle.dd_interp.specs.Lean.{IsAsked, IsLeanBy}
use Rattle.dd_interp.specs.Satisfies.{IsShaped}
use Rattle.dd_interp.specs.Meaning.{in_name, some_along, meaning}
use Rattle.dd_interp.proofs.Meanings.{meaning-Name, meaning-HasSome, meaning-Top}
use Rattle.dd_world.specs.declared.world.World.{World}
use Rattle.dd_task.specs.declared.job.Job.{Job}
use Rattle.dd_task.specs.declared.job.Key.{Key}
use Rattle.dd_task.specs.declared.line.Prop.{Prop}
use Rattle.dd_task.specs.Closure.{IsClosedOver, extra_for}
use Rattle.dd_task.specs.Goals.{goal_for, peer_of}
use Rattle.dd_task.specs.Keys.{is_among}
use Rattle.dd_task.specs.Rules.{axioms_of}
use Rattle.dd_task.specs.Targets.{propagations_of}
use Rattle.dd_task.specs.Verdicts.{IsRightOpen}
use Rattle.dd_task.proofs.Places.{All-at, All-from}
use Rattle.dd_board.specs.declared.event.Event.TheVariants.{Opened}
use Rattle.dd_board.specs.Fit.{IsFitKey, IsPlaced}
use Rattle.dd_board.specs.Legal.{Runs, IsLegal}
use Rattle.dd_board.specs.View.{SessionView, into_peer}
use Rattle.dd_board.proofs.Changes.{any-at}
use Rattle.dd_board.proofs.Fitting.{fit-task}
use Rattle.dd_board.proofs.Quiet.{any-found}
use Rattle.dd_board.proofs.Soundness.{sound}
use Rattle.dd_union.specs.Inside.{IsNameInClosure, IsRoleInClosure, IsWrittenInClosure, has_name, has_role}
use Rattle.dd_union.specs.Union.{IsPart, IsUnionOf}
use Rattle.dd_union.proofs.Inside.{closed-for, goal-inside}

-- a list that has a concept which passes has one that does
any-has : (test : Concept → Bool) (xs : List Concept) (c : Concept) → has xs c ≡ true → test c ≡ true → list_any test xs ≡ true
any-has test xs c h e =
    let found = any-found Concept (λ d. is_same d c) xs h in
    any-at Concept test xs found.0 found.1 found.2 (subst (λ d. test d ≡ true) (sym (is_same-is found.1 c found.3)) e)

-- ---- a right open verdict

module _ (job : Job) (key : Key) (fit : IsFitKey job key) (view : List Prop) (m : Interp) (x : ℕ) (right : IsRightOpen job (goal_for job key) view m x) where
  abbrev i : ℕ
  i = peer_of job key

  module _ (other : List Concept) (closed : IsClosedOver (axioms_of job.pinned i) (extra_for job i) other) (labels : List (List Concept))
      (lean : IsLeanBy (axioms_of job.pinned i) (propagations_of job.pinned i view) ((goal_for job key).label ∷ []) m labels) where
    label-inside : (y : ℕ) (l : List Concept) → slice_get labels y ≡ Some l → is_within l other ≡ true
    label-inside y l at = ∥∥₁_elim (lean.reached y l at) (Bool-set _ _) (λ r.
        reached-within (axioms_of job.pinned i) (propagations_of job.pinned i view) other (closed-for job i other closed view) ((goal_for job key).label ∷ [])
        (All-cons (λ g. is_within g other ≡ true) (goal_for job key).label [] (goal-inside job key fit other closed) (All-nil (λ g. is_within g other ≡ true))) l r)

    name-by : (a y : ℕ) → y < m.size → in_name m.names a y ≡ true → has_name other a ≡ true
    name-by a y lt named =
        let l : List Concept = get_or labels y [] in
        let at : slice_get labels y ≡ Some l = slice_get-get_or labels y [] (omega (arith, lt, lean.one_each)) in
        any-has (λ c. is_among (names_in c) a) other (Name a) (within-has l other (Name a) (label-inside y l at) (sym (lean.names y l at a) ∙ named))
        (ap (λ ns. is_among ns a) (fold-Name (List ℕ) names_in_at a) ∙ or_left (a == a) false (eq-eqb a a refl))

    role-by : (t : ℕ × ℕ × ℕ) (k : ℕ) → slice_get m.roles k ≡ Some t → has_role other t.0 ≡ true
    role-by t k at =
        let asked = All-at (ℕ × ℕ × ℕ) (IsAsked labels) m.roles k t lean.roles at in
        any-has (λ c. is_among (roles_in c) t.0) other (HasSome t.0 asked.part)
        (within-has asked.from other (HasSome t.0 asked.part) (label-inside t.1 asked.from asked.is_from) asked.asks)
        (ap (λ rs. is_among rs t.0) (fold-HasSome (List ℕ) roles_in_at t.0 asked.part) ∙ or_left (t.0 == t.0) (is_among (roles_in asked.part) t.0) (eq-eqb t.0 t.0 refl))

  name-inside : (a y : ℕ) → y < m.size → in_name m.names a y ≡ true → IsNameInClosure job i a
  name-inside a y lt named other closed = ∥∥₁_elim right.lean (Bool-set _ _) (λ found. name-by other closed found.0 found.1 a y lt named)

  role-inside : (t : ℕ × ℕ × ℕ) (k : ℕ) → slice_get m.roles k ≡ Some t → IsRoleInClosure job i t.0
  role-inside t k at other closed = ∥∥₁_elim right.lean (Bool-set _ _) (λ found. role-by other closed found.0 found.1 t k at)

-- ---- a part

same_model : (t u n k : ℕ) (m l : Interp) (x y : ℕ) → Opened t n m x ≡ Opened u k l y → (m ≡ l) × (x ≡ y)
same_model t u n k m l x y e = (cc, cc)

module _ (v : SessionView) (legal : IsLegal v) (placed : IsPlaced v.job) (t i : ℕ) (m : Interp) (x : ℕ) (part : IsPart v t i m x) where
  fit : IsFitKey v.job part.task.key
  fit = (fit-task v legal t part.task part.at placed).asks

  right-part : Runs v.job v.start v → IsRightOpen v.job (goal_for v.job part.task.key) (take part.seen (into_peer v.props (peer_of v.job part.task.key))) m x
  right-part runs =
      let s = sound v.job v.start v runs in
      let opening = (s.each t part.task part.at).opened part.event part.raised part.seen part.is_open in
      let same = same_model opening.t part.posted opening.number part.number opening.model m opening.element x
      (same_Some (Opened opening.t opening.number opening.model opening.element) (Opened part.posted part.number m x)
      (sym opening.journalled ∙ part.opened)) in
      let view = take part.seen (into_peer v.props (peer_of v.job part.task.key)) in
      subst (λ y. IsRightOpen v.job (goal_for v.job part.task.key) view m y) same.1
      (subst (λ n. IsRightOpen v.job (goal_for v.job part.task.key) view n opening.element) same.0 opening.right)

  name-part : (a y : ℕ) → y < m.size → in_name m.names a y ≡ true → IsNameInClosure v.job i a
  name-part a y lt named = subst (λ j. IsNameInClosure v.job j a) part.peer (λ other closed. ∥∥₁_elim legal (Bool-set _ _) (λ runs.
      name-inside v.job part.task.key fit (take part.seen (into_peer v.props (peer_of v.job part.task.key))) m x (right-part runs) a y lt named other closed))

  role-part : (r : ℕ × ℕ × ℕ) (k : ℕ) → slice_get m.roles k ≡ Some r → IsRoleInClosure v.job i r.0
  role-part r k at = subst (λ j. IsRoleInClosure v.job j r.0) part.peer (λ other closed. ∥∥₁_elim legal (Bool-set _ _) (λ runs.
      role-inside v.job part.task.key fit (take part.seen (into_peer v.props (peer_of v.job part.task.key))) m x (right-part runs) r k at other closed))

-- ---- the union

module _ (v : SessionView) (legal : IsLegal v) (placed : IsPlaced v.job) (start : ℕ → ℕ) (w : World) (union : IsUnionOf v start w) (i : ℕ) (local : Interp)
    (at : slice_get w.locals i ≡ Some local) where
  name-local : (k : ℕ) (p : ℕ × ℕ) → slice_get local.names k ≡ Some p → IsNameInClosure v.job i p.0
  name-local k p e =
      let shaped = All-at Interp IsShaped w.locals i local union.shaped at in
      let low = All-at (ℕ × ℕ) (λ q. q.1 < local.size) local.names k p shaped.names e in
      let c = union.covers i local p.1 at low in
      let keeps = (union.stands c.0 i c.1 c.2 local c.4 at c.3 c.5).1 (Name p.0) in
      let named : in_name local.names p.0 p.1 ≡ true =
      any-at (ℕ × ℕ) (λ q. (q.0 == p.0) && (q.1 == p.1)) local.names k p e (and_from (p.0 == p.0) (p.1 == p.1) (eq-eqb p.0 p.0 refl) (eq-eqb p.1 p.1 refl)) in
      name-part v legal placed c.0 i c.1 c.2 c.4 p.0 c.3 c.5
      (sym (meaning-Name c.1 p.0 c.3) ∙ sym keeps ∙ ap (meaning local (Name p.0)) (sym c.6) ∙ meaning-Name local p.0 p.1 ∙ named)

  role-local : (k : ℕ) (r : ℕ × ℕ × ℕ) → slice_get local.roles k ≡ Some r → IsRoleInClosure v.job i r.0
  role-local k r e =
      let shaped = All-at Interp IsShaped w.locals i local union.shaped at in
      let low = All-at (ℕ × ℕ × ℕ) (λ q. (q.1 < local.size) × (q.2 < local.size)) local.roles k r shaped.roles e in
      let c = union.covers i local r.1 at low.0 in
      let keeps = (union.stands c.0 i c.1 c.2 local c.4 at c.3 c.5).1 (HasSome r.0 Top) in
      let along : some_along local.roles r.0 (meaning local Top) r.1 ≡ true =
      any-at (ℕ × ℕ × ℕ) (λ q. ((q.0 == r.0) && (q.1 == r.1)) && meaning local Top q.2) local.roles k r e
      (and_from ((r.0 == r.0) && (r.1 == r.1)) (meaning local Top r.2) (and_from (r.0 == r.0) (r.1 == r.1) (eq-eqb r.0 r.0 refl) (eq-eqb r.1 r.1 refl)) (meaning-Top local r.2)) in
      let there : some_along c.1.roles r.0 (meaning c.1 Top) c.3 ≡ true =
      sym (meaning-HasSome c.1 r.0 Top c.3) ∙ sym keeps ∙ ap (meaning local (HasSome r.0 Top)) (sym c.6) ∙ meaning-HasSome local r.0 Top r.1 ∙ along in
      let found = any-found (ℕ × ℕ × ℕ) (λ q. ((q.0 == r.0) && (q.1 == c.3)) && meaning c.1 Top q.2) c.1.roles there in
      let both = and_parts ((found.1.0 == r.0) && (found.1.1 == c.3)) (meaning c.1 Top found.1.2) found.3 in
      let same = and_parts (found.1.0 == r.0) (found.1.1 == c.3) both.0 in
      subst (IsRoleInClosure v.job i) (eqb-true found.1.0 r.0 same.0) (role-part v legal placed c.0 i c.1 c.2 c.4 found.1 found.0 found.2)

  pub written-local : IsWrittenInClosure v.job i local
  written-local = record {
    names = All-from (ℕ × ℕ) (λ p. IsNameInClosure v.job i p.0) local.names name-local;
    roles = All-from (ℕ × ℕ × ℕ) (λ r. IsRoleInClosure v.job i r.0) local.roles role-local;
  }
