-- The judge by rows: what its rows and loops say, and that a sketch has the faults of its world.
use Rattle.std.proofs.Common.{◌≡◌, ◌∙◌, ℕ, zero, suc, ◌+◌, ◌<◌, ◌≤◌, Bool, true, false, not, ◌&&◌, ◌||◌, nat_eq, nat_lt, cond, List, [], ◌∷◌, length, get_or, take, drop, Option, None, Some, ◌↔◌, ap, ap₂, refl, subst, sym, inl, inr, arith, drop-cons}
use Rattle.std.specs.Bool.{IsTrue}
use Rattle.std.specs.List.{All, list_any, list_all, position, position_or_len}
use Rattle.std.specs.Option.{option_map, option_or}
use Rattle.std.proofs.lemmas.Bool.{cases_lt, cases_eq, cases_Bool, eq-eqb, ne_eqb, eqb-true, lt-ltb, ltb-true, and_from, and_parts, and_right, false≢true}
use Rattle.std.proofs.lemmas.Bool.Decides.{same_from_decides}
use Rattle.std.proofs.lemmas.List.{get_or_default}
use Rattle.std.proofs.lemmas.List.Folds.{list_any_more}
use Rattle.std.proofs.lemmas.List.Sums.{prefix_len-le-length, position_or_len_is, fails_before_first, passes_at_first}
use Rattle.dd_interp.specs.Seen.{IsExtension}
use Rattle.dd_set.specs.Words.{has, Label, IsWithin}
use Rattle.dd_concept.specs.declared.concept.Axiom.{Axiom}
use Rattle.dd_concept.specs.declared.concept.Concept.{Concept}
use Rattle.dd_peer.specs.declared.version.Pinned.{Pinned}
use Rattle.dd_peer.specs.declared.version.PeerVersion.{PeerVersion}
use Rattle.dd_peer.specs.declared.version.Query.{Query}
use Rattle.dd_peer.specs.declared.version.Rule.{Rule}
use Rattle.dd_world.specs.declared.kind.Kind.{Kind}
use Rattle.dd_world.specs.declared.kind.Kind.TheVariants as kind
use Rattle.dd_world.specs.declared.world.World.{World}
use Rattle.dd_world.specs.declared.world.WorldFault.{WorldFault}
use Rattle.dd_world.specs.declared.world.WorldFault.TheVariants as fault
use Rattle.dd_world.specs.Elements.{size_at, holds_at}
use Rattle.dd_world.specs.Faults.{first_failing, fault_of}
use Rattle.dd_world.specs.Kinds.{failing, first_of_kind, fault_in_shape, starts_in, keeps_rows, leads_by}
use Rattle.dd_world.specs.Sketches.{AreAlike, Sees}
use Rattle.dd_world.specs.Tests.{all_below, is_world, passes, is_under, satisfies_axiom, joins, keeps_into, satisfies_into, leads_to, is_reached, keeps_onto, satisfies_onto}
use Rattle.dd_world.specs.World.{IsLink}
use Rattle.dd_world.proofs.Below.{failing_below, below_passes, decides_below, all_below-at}
use Rattle.dd_world.proofs.Firsts.{first_failing-next, none_passes}
use Rattle.dd_world.proofs.SketchWorlds.{any-same, all-same, gated, gated_implies}
use Rattle.dd_world.proofs.Tables.{decides_implied}

-- ---- rows

-- one row is within another exactly where each number below the bound passes
pub within_below : (n : ℕ) (p q : ℕ → Bool) (left right : List ℕ) → ((k : ℕ) → has left k ≡ (nat_lt k n && p k)) → ((k : ℕ) → k < n → has right k ≡ q k)
    → (b : Bool) → (IsTrue b ↔ IsWithin left right) → b ≡ all_below n (λ k. not (p k) || q k)
within_below n p q left right l r b h = same_from_decides b (all_below n (λ k. not (p k) || q k)) (
  (λ t k lt e. sym (r k lt) ∙ h.0 t k (l k ∙ and_from (nat_lt k n) (p k) (lt-ltb k n lt) e)),
  (λ f. h.1 (λ k e. let sides = and_parts (nat_lt k n) (p k) (sym (l k) ∙ e) in let lt : k < n = ltb-true k n sides.0 in r k lt ∙ f k lt sides.1)),
)
    (decides_below (λ k. not (p k) || q k) (λ k. p k ≡ true → q k ≡ true) (λ k. decides_implied (p k) (q k) (λ e. e, λ e. e)) n)

pub row_within : (n : ℕ) (p : ℕ → Bool) (row : Label) → IsExtension n p row → (k : ℕ) → k < n → has row.words k ≡ p k
row_within n p row h k lt = h.bits k ∙ ap (λ b. b && p k) (lt-ltb k n lt)

pub included : (v : World) (j : ℕ) (c d : Concept) (left right : Label) → IsExtension (size_at v j) (λ k. holds_at v j k c) left → IsExtension (size_at v j) (λ k. holds_at v j k d) right
    → (b : Bool) → (IsTrue b ↔ IsWithin left.words right.words) → b ≡ is_under v j c d
included v j c d left right l r b h = within_below (size_at v j) (λ k. holds_at v j k c) (λ k. holds_at v j k d) left.words right.words l.bits (row_within (size_at v j) (λ k. holds_at v j k d) right r) b h

module _ (v : World) (links : All (IsLink v) v.links) (j : ℕ) (r : Rule) where
  joined : (l : ℕ × ℕ × ℕ × ℕ) → joins j r l ≡ true → (l.0 ≡ r.from) × (l.1 ≡ j)
  joined l e = let sides = and_parts (nat_eq l.0 r.from) (nat_eq l.1 j) e in (eqb-true l.0 r.from sides.0, eqb-true l.1 j sides.1)

  start_below : (l : ℕ × ℕ × ℕ × ℕ) → IsLink v l → joins j r l ≡ true → l.2 < size_at v r.from
  start_below l h e = subst (λ i. l.2 < size_at v i) (joined l e).0 h.from

  pub end_below : (l : ℕ × ℕ × ℕ × ℕ) → IsLink v l → joins j r l ≡ true → l.3 < size_at v j
  end_below l h e = subst (λ i. l.3 < size_at v i) (joined l e).1 h.to

  pub each_end_below : (width : ℕ) → width ≡ size_at v j → All (λ l. joins j r l ≡ true → l.3 < width) v.links
  each_end_below width e n d lt is = subst (λ m. (get_or v.links n d).3 < m) (sym e) (end_below (get_or v.links n d) (links n d lt) is)

  module _ (source : Label) (s : IsExtension (size_at v r.from) (λ k. holds_at v r.from k r.source) source) where
    pub into_by_rows : (target : Label) → IsExtension (size_at v j) (λ k. holds_at v j k r.target) target
        → list_all (keeps_rows j r source.words target.words) v.links ≡ satisfies_into v j r
    into_by_rows target t = all-same (keeps_rows j r source.words target.words) (keeps_into v j r) v.links (λ n d lt.
        let l : ℕ × ℕ × ℕ × ℕ = get_or v.links n d in
        gated_implies (joins j r l) (has source.words l.2) (holds_at v r.from l.2 r.source) (has target.words l.3) (holds_at v j l.3 r.target)
        (λ e. (
          row_within (size_at v r.from) (λ k. holds_at v r.from k r.source) source s l.2 (start_below l (links n d lt) e),
          row_within (size_at v j) (λ k. holds_at v j k r.target) target t l.3 (end_below l (links n d lt) e),
        )))

    pub reached_by_row : (b : ℕ) → list_any (leads_by j r source.words b) v.links ≡ is_reached v j r b
    reached_by_row b = any-same (leads_by j r source.words b) (leads_to v j r b) v.links (λ n d lt.
        let l : ℕ × ℕ × ℕ × ℕ = get_or v.links n d in
        gated (joins j r l) (nat_eq l.3 b) (nat_eq l.3 b) (has source.words l.2) (holds_at v r.from l.2 r.source)
        (λ e. (refl, row_within (size_at v r.from) (λ k. holds_at v r.from k r.source) source s l.2 (start_below l (links n d lt) e))))

    pub onto_by_rows : (target ends : Label) → IsExtension (size_at v j) (λ k. holds_at v j k r.target) target
        → ((k : ℕ) → has ends.words k ≡ list_any (leads_by j r source.words k) v.links) → (b : Bool) → (IsTrue b ↔ IsWithin target.words ends.words) → b ≡ satisfies_onto v j r
    onto_by_rows target ends t e b h = within_below (size_at v j) (λ k. holds_at v j k r.target) (is_reached v j r) target.words ends.words t.bits (λ k lt. e k ∙ reached_by_row k) b h

-- ---- the row of ends, link by link

pub record HasEnds (j : ℕ) (r : Rule) (source : List ℕ) (bound : ℕ) (links : List (ℕ × ℕ × ℕ × ℕ)) (row : Label) : Type 0 where
  pub width : row.width ≡ bound
  pub bits : (k : ℕ) → has row.words k ≡ list_any (leads_by j r source k) links

pub ends_start : (j : ℕ) (r : Rule) (source : List ℕ) (width : ℕ) (row : Label) → row.width ≡ width → ((k : ℕ) → has row.words k ≡ false) → HasEnds j r source width [] row
ends_start j r source width row w none = record { width = w; bits = λ k. none k }

or_comm : (a b : Bool) → (a || b) ≡ (b || a)
or_comm true true = refl
or_comm true false = refl
or_comm false true = refl
or_comm false false = refl

eqb_comm : (a b : ℕ) → nat_eq a b ≡ nat_eq b a
eqb_comm a b = elim (cases_eq a b) [
  | inl e ↦ eq-eqb a b e ∙ sym (eq-eqb b a (sym e))
  | inr ne ↦ ne_eqb a b ne ∙ sym (ne_eqb b a (λ e. ne (sym e)))
]

moved : (a b c : Bool) → (a && c) ≡ true → b ≡ ((a && b) && c)
moved true b true e = and_true b
  where
    and_true : (b : Bool) → b ≡ (b && true)
    and_true true = refl
    and_true false = refl
moved true b false e = absurd (false≢true e)
moved false b c e = absurd (false≢true e)

left_out : (a b c : Bool) → (a && c) ≡ false → ((a && b) && c) ≡ false
left_out true b true e = absurd (false≢true (sym e))
left_out true b false e = and_right b false refl
left_out false b c e = refl

module _ (j : ℕ) (r : Rule) (source : List ℕ) (width : ℕ) (links : List (ℕ × ℕ × ℕ × ℕ)) (row : Label) (n : ℕ) (d : ℕ × ℕ × ℕ × ℕ) (lt : n < length links) (h : HasEnds j r source width (take n links) row) where
  pub ends_more : (new : Label) → starts_in j r source (get_or links n d) ≡ true → new.width ≡ row.width
      → ((k : ℕ) → has new.words k ≡ (nat_eq k (get_or links n d).3 || has row.words k)) → HasEnds j r source width (take (n + 1) links) new
  ends_more new is w with = record {
    width = w ∙ h.width;
    bits = λ k. with k ∙ or_comm (nat_eq k (get_or links n d).3) (has row.words k)
        ∙ ap (λ b. b || nat_eq k (get_or links n d).3) (h.bits k)
        ∙ ap (λ b. list_any (leads_by j r source k) (take n links) || b)
        (eqb_comm k (get_or links n d).3 ∙ moved (joins j r (get_or links n d)) (nat_eq (get_or links n d).3 k) (has source (get_or links n d).2) is)
        ∙ sym (list_any_more (leads_by j r source k) links n d lt);
  }

  pub ends_skip : starts_in j r source (get_or links n d) ≡ false → HasEnds j r source width (take (n + 1) links) row
  ends_skip is = record {
    width = h.width;
    bits = λ k. h.bits k ∙ or_comm false (list_any (leads_by j r source k) (take n links))
        ∙ ap (λ b. list_any (leads_by j r source k) (take n links) || b)
        (sym (left_out (joins j r (get_or links n d)) (nat_eq (get_or links n d).3 k) (has source (get_or links n d).2) is))
        ∙ sym (list_any_more (leads_by j r source k) links n d lt);
  }

-- ---- the first item that fails

module _ {A : Type 0} (test : A → Bool) (xs : List A) where
  -- the first items pass
  abbrev pub Passed : ℕ → Type 0
  Passed n = (k : ℕ) (d : A) → k < n → test (get_or xs k d) ≡ true

  pub passed_none : Passed 0
  passed_none k d lt = absurd (omega (arith, lt))

  pub passed_more : (n : ℕ) (x : A) → Passed n → x ≡ get_or xs n x → n < length xs → test x ≡ true → Passed (n + 1)
  passed_more n x h is lt e k d less = elim (cases_lt k n) [
    | inl low ↦ h k d low
    | inr high ↦
        let at : k ≡ n = omega (arith, less, high) in
        subst (λ m. test (get_or xs m d) ≡ true) (sym at) (ap test (get_or_default xs n d x lt ∙ sym is) ∙ e)
  ]

  pub failing_at : (n : ℕ) (x : A) → Passed n → x ≡ get_or xs n x → n < length xs → test x ≡ false → Some n ≡ position (λ y. not (test y)) xs
  failing_at n x h is lt e =
      let at : position_or_len (λ y. not (test y)) xs ≡ n = position_or_len_is (λ y. not (test y)) xs n x (omega (arith, lt))
      (λ k less. ap not (h k x less)) (λ u. ap not (ap test (sym is) ∙ e)) in
      sym (ap (λ m. cond (nat_lt m (length xs)) (Some m) None) at ∙ ap (λ b. cond b (Some n) None) (lt-ltb n (length xs) lt))

  pub failing_nowhere : (n : ℕ) → Passed n → length xs ≤ n → None ≡ position (λ y. not (test y)) xs
  failing_nowhere n h le = sym (none_passes A (λ y. not (test y)) xs (λ k d lt. ap not (h k d (omega (arith, lt, le)))))

-- ---- kind by kind

pub kind-next : (k : Kind) (w : World) (j : ℕ) (vs : List PeerVersion) (v : PeerVersion) → v ≡ get_or vs j v → j < length vs → None ≡ failing k w j v
    → first_of_kind k w j (drop j vs) ≡ first_of_kind k w (j + 1) (drop (j + 1) vs)
kind-next kind.Axioms w j vs v is lt none = first_failing-next Axiom (λ u. u.axioms) (satisfies_axiom w) j vs v is lt none
kind-next kind.Into w j vs v is lt none = first_failing-next Rule (λ u. u.into) (satisfies_into w) j vs v is lt none
kind-next kind.Onto w j vs v is lt none = first_failing-next Rule (λ u. u.onto) (satisfies_onto w) j vs v is lt none

pub kind-found : (k : Kind) (w : World) (j : ℕ) (vs : List PeerVersion) (v : PeerVersion) (at : ℕ) → v ≡ get_or vs j v → j < length vs → Some at ≡ failing k w j v
    → first_of_kind k w j (drop j vs) ≡ Some (j, at)
kind-found k w j vs v at is lt e =
    ap (first_of_kind k w j) (drop-cons vs j v lt ∙ ap (λ u. u ∷ drop (suc j) vs) (sym is)) ∙ here k (sym e)
  where
    here : (k : Kind) → failing k w j v ≡ Some at → first_of_kind k w j (v ∷ drop (suc j) vs) ≡ Some (j, at)
    here kind.Axioms f = ap (λ o. option_or (option_map (λ m. (j, m)) o) (first_failing (λ u. u.axioms) (satisfies_axiom w) (j + 1) (drop (suc j) vs))) f
    here kind.Into f = ap (λ o. option_or (option_map (λ m. (j, m)) o) (first_failing (λ u. u.into) (satisfies_into w) (j + 1) (drop (suc j) vs))) f
    here kind.Onto f = ap (λ o. option_or (option_map (λ m. (j, m)) o) (first_failing (λ u. u.onto) (satisfies_onto w) (j + 1) (drop (suc j) vs))) f

pub kind-end : (k : Kind) (w : World) (j : ℕ) (vs : List PeerVersion) → length vs ≤ j → first_of_kind k w j (drop j vs) ≡ None
kind-end k w j vs le = ap (first_of_kind k w j) (drop_past vs j le) ∙ none_of k
  where
    none_of : (k : Kind) → first_of_kind k w j [] ≡ None
    none_of kind.Axioms = refl
    none_of kind.Into = refl
    none_of kind.Onto = refl

    drop_past : (us : List PeerVersion) (n : ℕ) → length us ≤ n → drop n us ≡ []
    drop_past [] zero h = refl
    drop_past [] (suc n) h = refl
    drop_past (u ∷ us) zero h = absurd (omega (arith, h))
    drop_past (u ∷ us) (suc n) h = drop_past us n (omega (arith, h))

-- ---- the faults of a sketch

below_alike : (n m : ℕ) (p q : ℕ → Bool) → ((x : ℕ) → x < n → (y : ℕ) × (y < m) × (p x ≡ q y)) → ((y : ℕ) → y < m → (x : ℕ) × (x < n) × (p x ≡ q y)) → all_below m q ≡ all_below n p
below_alike n m p q up down = elim (cases_Bool (all_below n p)) [
  | inl e ↦ elim (cases_Bool (all_below m q)) [
    | inl f ↦ f ∙ sym e
    | inr f ↦
        let fails = failing_below q m f in
        let like = down fails.0 fails.1 in
        absurd (false≢true (sym fails.2 ∙ sym like.2 ∙ below_passes p n e like.0 like.1))
  ]
  | inr e ↦
      let fails = failing_below p n e in
      let like = up fails.0 fails.1 in
      all_below-at q m like.0 like.1 (sym like.2 ∙ fails.2) ∙ sym e
]

module _ {A : Type 0} (list : PeerVersion → List A) (t u : ℕ → A → Bool) (same : (j : ℕ) (a : A) → t j a ≡ u j a) where
  first_same : (p q : A → Bool) → ((a : A) → p a ≡ q a) → (xs : List A) → position p xs ≡ position q xs
  first_same p q e [] = refl
  first_same p q e (x ∷ xs) =
      let at : position_or_len p (x ∷ xs) ≡ position_or_len q (x ∷ xs) = position_or_len_is p (x ∷ xs) (position_or_len q (x ∷ xs)) x (at_most q (x ∷ xs))
      (λ k lt. e (get_or (x ∷ xs) k x) ∙ fails_before_first q (x ∷ xs) k x lt) (λ lt. e (get_or (x ∷ xs) (position_or_len q (x ∷ xs)) x) ∙ passes_at_first q (x ∷ xs) x lt) in
      ap (λ m. cond (nat_lt m (length (x ∷ xs))) (Some m) None) at
    where
      at_most : (q : A → Bool) (ys : List A) → position_or_len q ys ≤ length ys
      at_most q ys = prefix_len-le-length (λ y. not (q y)) ys

  pub failing_same : (j : ℕ) (vs : List PeerVersion) → first_failing list t j vs ≡ first_failing list u j vs
  failing_same j [] = refl
  failing_same j (v ∷ vs) = ap (λ o. option_or (option_map (λ k. (j, k)) o) (first_failing list t (j + 1) vs)) (first_same (λ a. not (t j a)) (λ a. not (u j a)) (λ a. ap not (same j a)) (list v))
      ∙ ap (option_or (option_map (λ k. (j, k)) (position (λ a. not (u j a)) (list v)))) (failing_same (j + 1) vs)

module _ (w v : World) (s : Sees w v) where
  same_under : (j : ℕ) (c d : Concept) → is_under v j c d ≡ is_under w j c d
  same_under j c d = below_alike (size_at w j) (size_at v j) (passes w j c d) (passes v j c d)
      (λ x lt. let at = s.up j x lt in (at.0, at.1, alike x at.0 at.2)) (λ y lt. let at = s.down j y lt in (at.0, at.1, alike at.0 y at.2))
    where
      alike : (x y : ℕ) → AreAlike w v j x y → passes w j c d x ≡ passes v j c d y
      alike x y a = ap₂ (λ p q. not p || q) (a.holds c) (a.holds d)

  same_onto : (j : ℕ) (r : Rule) → satisfies_onto v j r ≡ satisfies_onto w j r
  same_onto j r = below_alike (size_at w j) (size_at v j) (keeps_onto w j r) (keeps_onto v j r)
      (λ x lt. let at = s.up j x lt in (at.0, at.1, alike x at.0 at.2)) (λ y lt. let at = s.down j y lt in (at.0, at.1, alike at.0 y at.2))
    where
      alike : (x y : ℕ) → AreAlike w v j x y → keeps_onto w j r x ≡ keeps_onto v j r y
      alike x y a = ap₂ (λ p q. not p || q) (a.holds r.target) (a.ends r)

  same_kind : (k : Kind) (vs : List PeerVersion) → first_of_kind k v 0 vs ≡ first_of_kind k w 0 vs
  same_kind kind.Axioms vs = failing_same (λ u. u.axioms) (satisfies_axiom v) (satisfies_axiom w) (λ j a. same_under j a.left a.right) 0 vs
  same_kind kind.Into vs = failing_same (λ u. u.into) (satisfies_into v) (satisfies_into w) s.into 0 vs
  same_kind kind.Onto vs = failing_same (λ u. u.onto) (satisfies_onto v) (satisfies_onto w) same_onto 0 vs

  pub same_fault : (p : Pinned) (q : Query) → is_world p w ≡ true → fault_in_shape p q v ≡ fault_of p q w
  same_fault p q e =
      let told : Option (ℕ × ℕ) → Option (ℕ × ℕ) → Option (ℕ × ℕ) → Bool → Option WorldFault =
      λ a i o b. option_or (option_map (λ at. fault.Axiom at.0 at.1) a) (option_or (option_map (λ at. fault.Into at.0 at.1) i)
      (option_or (option_map (λ at. fault.Onto at.0 at.1) o) (cond b (Some fault.NotCounter) None))) in
      ap (λ a. told a (first_of_kind kind.Into v 0 p.peers) (first_of_kind kind.Onto v 0 p.peers) (is_under v q.peer q.left q.right)) (same_kind kind.Axioms p.peers)
      ∙ ap (λ i. told (first_of_kind kind.Axioms w 0 p.peers) i (first_of_kind kind.Onto v 0 p.peers) (is_under v q.peer q.left q.right)) (same_kind kind.Into p.peers)
      ∙ ap (λ o. told (first_of_kind kind.Axioms w 0 p.peers) (first_of_kind kind.Into w 0 p.peers) o (is_under v q.peer q.left q.right)) (same_kind kind.Onto p.peers)
      ∙ ap (told (first_of_kind kind.Axioms w 0 p.peers) (first_of_kind kind.Into w 0 p.peers) (first_of_kind kind.Onto w 0 p.peers)) (same_under q.peer q.left q.right)
      ∙ sym (ap (λ b. option_or (cond b None (Some fault.Shape)) (fault_in_shape p q w)) e)
