-- Lists of keys, and which keys a model raises.
use Rattle.std.proofs.Common.{◌≡◌, ◌∙◌, ◌⊎◌, ℕ, zero, suc, ◌+◌, ◌<◌, true, ◌||◌, ◌&&◌, nat_eq, cond, List, [], ◌∷◌, ◌++◌, map, length, Some, ap, refl, sym, inl, inr, arith}
use Rattle.std.specs.List.{slice_get, flat_map, list_any, fold, range_with_len}
use Rattle.std.specs.Option.{option_map}
use Rattle.std.specs.Str.{bytes_eq}
use Rattle.std.specs.Cmp.Lexicographic.{same_text}
use Rattle.std.proofs.lemmas.Bool.{cases_Bool, eq-eqb, eqb-true, and_parts, and_from}
use Rattle.std.proofs.lemmas.Option.{same_Some, slice_get-map}
use Rattle.dd_interp.specs.declared.interp.Interp.{Interp}
use Rattle.dd_peer.specs.declared.version.Pinned.{Pinned}
use Rattle.dd_peer.specs.declared.version.Rule.{Rule}
use Rattle.dd_task.specs.declared.job.Key.{Key}
use Rattle.dd_task.specs.declared.job.Key.TheVariants.{Root, Asked}
use Rattle.dd_task.specs.Rules.{onto_rules}
use Rattle.dd_task.specs.Keys.{is_same_key}
use Rattle.dd_task.specs.Targets.{positions, in_target}
use Rattle.dd_task.specs.Demands.{false_into, raised_from, raised_at, with_key, without_repeats, raised_by, IsRaised}
use Rattle.dd_task.proofs.Places.{at-append, at-behind, at-append_cases, at-flat_map, flat_map-at, among_positions, among-at, at-among}

pub same_key : (j k : Key) → is_same_key j k ≡ true → j ≡ k
same_key Root Root e = refl
same_key Root (Asked h i o set) e = cc
same_key (Asked h i o set) Root e = cc
same_key (Asked h i o set) (Asked g j n other) e =
    let sides = and_parts ((nat_eq h g) && (nat_eq i j)) ((nat_eq o n) && bytes_eq set other) e in
    let peers = and_parts (nat_eq h g) (nat_eq i j) sides.0 in
    let rules = and_parts (nat_eq o n) (bytes_eq set other) sides.1 in
    let a : h ≡ g = eqb-true h g peers.0 in
    let b : i ≡ j = eqb-true i j peers.1 in
    let c : o ≡ n = eqb-true o n rules.0 in
    let d : set ≡ other = same_text set other (sym rules.1) in
    cc

same_numbers : (set : List ℕ) → bytes_eq set set ≡ true
same_numbers [] = refl
same_numbers (a ∷ set) = and_from (nat_eq a a) (bytes_eq set set) (eq-eqb a a refl) (same_numbers set)

pub key_is_same : (k : Key) → is_same_key k k ≡ true
key_is_same Root = refl
key_is_same (Asked h i o set) = and_from ((nat_eq h h) && (nat_eq i i)) ((nat_eq o o) && bytes_eq set set)
    (and_from (nat_eq h h) (nat_eq i i) (eq-eqb h h refl) (eq-eqb i i refl))
    (and_from (nat_eq o o) (bytes_eq set set) (eq-eqb o o refl) (same_numbers set))

pub key_at : (keys : List Key) (q : ℕ) (k : Key) → slice_get keys q ≡ Some k → list_any (is_same_key k) keys ≡ true
key_at [] q k e = cc
key_at (a ∷ keys) zero k e =
    ap (λ b. b || list_any (is_same_key k) keys) (ap (is_same_key k) (same_Some a k e) ∙ key_is_same k)
key_at (a ∷ keys) (suc q) k e = elim (cases_Bool (is_same_key k a)) [
  | inl same ↦ ap (λ b. b || list_any (is_same_key k) keys) same
  | inr other ↦ ap (λ b. b || list_any (is_same_key k) keys) other ∙ key_at keys q k e
]

pub at_key : (keys : List Key) (k : Key) → list_any (is_same_key k) keys ≡ true → (q : ℕ) × (slice_get keys q ≡ Some k)
at_key [] k e = cc
at_key (a ∷ keys) k e = elim (cases_Bool (is_same_key k a)) [
  | inl same ↦ (0, ap Some (sym (same_key k a same)))
  | inr other ↦ let h = at_key keys k (ap (λ b. b || list_any (is_same_key k) keys) (sym other) ∙ e) in (suc h.0, h.1)
]

-- a key that is there stays, and a new one is there
stays : (found : List Key) (a : Key) (q : ℕ) (k : Key) → slice_get found q ≡ Some k → (r : ℕ) × (slice_get (with_key found a) r ≡ Some k)
stays found a q k e = elim (cases_Bool (list_any (is_same_key a) found)) [
  | inl there ↦ (q, ap (λ b. slice_get (cond b found (found ++ a ∷ [])) q) there ∙ e)
  | inr new ↦ (q, ap (λ b. slice_get (cond b found (found ++ a ∷ [])) q) new ∙ at-append Key found (a ∷ []) q k e)
]

joins : (found : List Key) (a : Key) → (r : ℕ) × (slice_get (with_key found a) r ≡ Some a)
joins found a = elim (cases_Bool (list_any (is_same_key a) found)) [
  | inl there ↦ let h = at_key found a there in (h.0, ap (λ b. slice_get (cond b found (found ++ a ∷ [])) h.0) there ∙ h.1)
  | inr new ↦ (length found + 0, ap (λ b. slice_get (cond b found (found ++ a ∷ [])) (length found + 0)) new ∙ at-behind Key found (a ∷ []) 0)
]

comes : (found : List Key) (a : Key) (r : ℕ) (k : Key) → slice_get (with_key found a) r ≡ Some k
    → ((q : ℕ) × (slice_get found q ≡ Some k)) ⊎ (a ≡ k)
comes found a r k e = elim (cases_Bool (list_any (is_same_key a) found)) [
  | inl there ↦ inl (r, ap (λ b. slice_get (cond b found (found ++ a ∷ [])) r) (sym there) ∙ e)
  | inr new ↦ elim (at-append_cases Key found (a ∷ []) r k (ap (λ b. slice_get (cond b found (found ++ a ∷ [])) r) (sym new) ∙ e)) [
    | inl h ↦ inl (r, h)
    | inr h ↦ inr (only a h.0 k h.2)
  ]
]
  where
    only : (a : Key) (j : ℕ) (k : Key) → slice_get (a ∷ []) j ≡ Some k → a ≡ k
    only a zero k e = same_Some a k e
    only a (suc j) k e = cc

folded_stays : (keys found : List Key) (q : ℕ) (k : Key) → slice_get found q ≡ Some k → (r : ℕ) × (slice_get (fold with_key found keys) r ≡ Some k)
folded_stays [] found q k e = (q, e)
folded_stays (a ∷ keys) found q k e = let h = stays found a q k e in folded_stays keys (with_key found a) h.0 k h.1

folded_has : (keys found : List Key) (q : ℕ) (k : Key) → slice_get keys q ≡ Some k → (r : ℕ) × (slice_get (fold with_key found keys) r ≡ Some k)
folded_has [] found q k e = cc
folded_has (a ∷ keys) found zero k e =
    let h = joins found a in folded_stays keys (with_key found a) h.0 k (h.1 ∙ e)
folded_has (a ∷ keys) found (suc q) k e = folded_has keys (with_key found a) q k e

folded_from : (keys found : List Key) (r : ℕ) (k : Key) → slice_get (fold with_key found keys) r ≡ Some k
    → ((q : ℕ) × (slice_get found q ≡ Some k)) ⊎ ((q : ℕ) × (slice_get keys q ≡ Some k))
folded_from [] found r k e = inl (r, e)
folded_from (a ∷ keys) found r k e = elim (folded_from keys (with_key found a) r k e) [
  | inl h ↦ elim (comes found a h.0 k h.1) [ inl g ↦ inl g | inr g ↦ inr (0, ap Some g) ]
  | inr h ↦ inr (suc h.0, h.1)
]

-- the keys without repeats are the same keys
pub without_repeats-has : (keys : List Key) (q : ℕ) (k : Key) → slice_get keys q ≡ Some k → (r : ℕ) × (slice_get (without_repeats keys) r ≡ Some k)
without_repeats-has keys q k e = folded_has keys [] q k e

pub without_repeats-from : (keys : List Key) (r : ℕ) (k : Key) → slice_get (without_repeats keys) r ≡ Some k → (q : ℕ) × (slice_get keys q ≡ Some k)
without_repeats-from keys r k e = elim (folded_from keys [] r k e) [ inl h ↦ cc | inr h ↦ h ]

pub at-range : (a n k : ℕ) → k < n → slice_get (range_with_len a n) k ≡ Some (a + k)
at-range a zero k lt = absurd (omega (arith, lt))
at-range a (suc n) zero lt = ap Some (let e : a ≡ a + 0 = omega arith in e)
at-range a (suc n) (suc k) lt = at-range (a + 1) n k (omega (arith, lt)) ∙ ap Some (let e : (a + 1) + k ≡ a + suc k = omega arith in e)

range-at : (a n k x : ℕ) → slice_get (range_with_len a n) k ≡ Some x → (x ≡ a + k) × (k < n)
range-at a zero k x e = cc
range-at a (suc n) zero x e = ((let s : a ≡ x = same_Some a x e in omega (arith, s)), omega arith)
range-at a (suc n) (suc k) x e = let h = range-at (a + 1) n k x e in (omega (arith, h.0), omega (arith, h.1))

module _ (p : Pinned) (i : ℕ) (m : Interp) where
  -- what an element raises is among the raised keys
  pub raised-there : (x h o : ℕ) (key : Key) → x < m.size → IsRaised p i m x h o key → (q : ℕ) × (slice_get (raised_by p i m) q ≡ Some key)
  raised-there x h o key lt r =
      let key_for : ℕ → Key = λ n. Asked h i n (false_into p h i m x) in
      let place = among-at (positions (in_target m x) (onto_rules p h i)) o (among_positions Rule (in_target m x) (onto_rules p h i) o ∙ r.in_target) in
      let first : slice_get (raised_from p i m x h) place.0 ≡ Some key =
      slice_get-map key_for (positions (in_target m x) (onto_rules p h i)) place.0 ∙ ap (option_map key_for) place.1 ∙ ap Some (sym r.asked) in
      let at_peer = at-flat_map ℕ Key (raised_from p i m x) (range_with_len 0 (length p.peers)) h place.0 (0 + h) key
      (at-range 0 (length p.peers) h r.declared)
      (ap (λ n. slice_get (raised_from p i m x n) place.0) (let e : 0 + h ≡ h = omega arith in e) ∙ first) in
      let at_element = at-flat_map ℕ Key (raised_at p i m) (range_with_len 0 m.size) x at_peer.0 (0 + x) key (at-range 0 m.size x lt)
      (ap (λ n. slice_get (raised_at p i m n) at_peer.0) (let e : 0 + x ≡ x = omega arith in e) ∙ at_peer.1) in
      without_repeats-has (flat_map (raised_at p i m) (range_with_len 0 m.size)) at_element.0 key at_element.1

  -- each raised key is raised by an element
  pub raised-by : (q : ℕ) (key : Key) → slice_get (raised_by p i m) q ≡ Some key
      → (x : ℕ) × (h : ℕ) × (o : ℕ) × (x < m.size) × IsRaised p i m x h o key
  raised-by q key e =
      let all = without_repeats-from (flat_map (raised_at p i m) (range_with_len 0 m.size)) q key e in
      let el = flat_map-at ℕ Key (raised_at p i m) (range_with_len 0 m.size) all.0 key all.1 in
      let x : ℕ = el.1 in
      let within = range-at 0 m.size el.0 x el.3 in
      let pe = flat_map-at ℕ Key (raised_from p i m x) (range_with_len 0 (length p.peers)) el.2 key el.4 in
      let h : ℕ = pe.1 in
      let declared = range-at 0 (length p.peers) pe.0 h pe.3 in
      let key_for : ℕ → Key = λ n. Asked h i n (false_into p h i m x) in
      let made = mapped key_for (positions (in_target m x) (onto_rules p h i)) pe.2 key pe.4 in (
        x,
        h,
        made.0,
        omega (arith, within.0, within.1),
        record {
          declared = omega (arith, declared.0, declared.1);
          in_target = sym (among_positions Rule (in_target m x) (onto_rules p h i) made.0)
              ∙ at-among (positions (in_target m x) (onto_rules p h i)) pe.2 made.0 made.1;
          asked = sym made.2;
        },
      )
    where
      mapped : (f : ℕ → Key) (ns : List ℕ) (j : ℕ) (k : Key) → slice_get (map f ns) j ≡ Some k → (n : ℕ) × (slice_get ns j ≡ Some n) × (f n ≡ k)
      mapped f [] j k e = cc
      mapped f (n ∷ ns) zero k e = (n, refl, same_Some (f n) k e)
      mapped f (n ∷ ns) (suc j) k e = mapped f ns j k e
