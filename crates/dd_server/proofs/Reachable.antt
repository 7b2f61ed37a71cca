-- In each pinned set the peers that are relevant to a peer can be listed.
use Rattle.std.proofs.Common.{◌≡◌, ◌∙◌, ℕ, zero, suc, ◌+◌, ◌<◌, ◌≤◌, ◌==◌, Bool, true, false, not, ◌&&◌, ◌||◌, cond, List, [], ◌∷◌, ◌++◌, filter, ap, refl, subst, sym, inl, inr, arith}
use Rattle.std.specs.Prelude.{map}
use Rattle.std.specs.List.{list_any, range_with_len, slice_get}
use Rattle.std.specs.List.Sorted.{IsStrictlyIncreasing}
use Rattle.std.specs.Option.{option_map_or}
use Rattle.std.proofs.Math.Logic.{∥∥₁_map, ∥∥₁_elim}
use Rattle.std.proofs.lemmas.Bool.{and_parts, or_cases, or_left, or_right, cases_eq, cases_Bool, false≢true, eq-eqb, eqb-true, not-true}
use Rattle.std.proofs.Math.Bool.{Bool-set}
use Rattle.std.proofs.lemmas.List.Kept.{IsStrictlyIncreasing-filter}
use Rattle.std.proofs.lemmas.List.FromFn.{length-range_with_len, get_or-range_with_len}
use Rattle.dd_peer.specs.declared.version.Pinned.{Pinned}
use Rattle.dd_peer.specs.declared.version.PeerVersion.{PeerVersion}
use Rattle.dd_peer.specs.declared.version.Rule.{Rule}
use Rattle.dd_peer.specs.Rules.{rules_of}
use Rattle.dd_peer.specs.Relevant.{AreRelevant, IsRelevant, Relevant, by_rule, has_from, is_in, itself, keeps_from}

-- ---- numbers in lists

in-first : (x : ℕ) (xs : List ℕ) → is_in (x ∷ xs) x ≡ true
in-first x xs = or_left (x == x) (is_in xs x) (eq-eqb x x refl)

in-rest : (x i : ℕ) (xs : List ℕ) → is_in xs i ≡ true → is_in (x ∷ xs) i ≡ true
in-rest x i xs h = or_right (x == i) (is_in xs i) h

in-append : (xs ys : List ℕ) (i : ℕ) → is_in xs i ≡ true → is_in (xs ++ ys) i ≡ true
in-append [] ys i h = absurd (false≢true h)
in-append (x ∷ xs) ys i h = elim (or_cases (x == i) (is_in xs i) h) [
  | inl e ↦ or_left (x == i) (is_in (xs ++ ys) i) e
  | inr g ↦ or_right (x == i) (is_in (xs ++ ys) i) (in-append xs ys i g)
]

in-behind : (xs ys : List ℕ) (i : ℕ) → is_in ys i ≡ true → is_in (xs ++ ys) i ≡ true
in-behind [] ys i h = h
in-behind (x ∷ xs) ys i h = or_right (x == i) (is_in (xs ++ ys) i) (in-behind xs ys i h)

sum : List ℕ → ℕ
sum [] = 0
sum (x ∷ xs) = x + sum xs

in-low : (xs : List ℕ) (i : ℕ) → is_in xs i ≡ true → i < suc (sum xs)
unfolding sum
in-low [] i h = absurd (false≢true h)
in-low (x ∷ xs) i h = elim (or_cases (x == i) (is_in xs i) h) [
  | inl e ↦ let is = eqb-true x i e in omega (arith, is)
  | inr g ↦ let low = in-low xs i g in omega (arith, low)
]

range-rises : (n : ℕ) → IsStrictlyIncreasing (range_with_len 0 n)
range-rises n k low =
    let len = length-range_with_len 0 n in
    let here = get_or-range_with_len 0 n k 0 (omega (arith, low, len)) in
    let next = get_or-range_with_len 0 n (k + 1) 0 (omega (arith, low, len)) in
    omega (arith, here, next)

in-range : (a n i : ℕ) → a ≤ i → i < a + n → is_in (range_with_len a n) i ≡ true
in-range a zero i le lt = absurd (omega (arith, le, lt))
in-range a (suc n) i le lt = elim (cases_eq a i) [
  | inl e ↦ or_left (a == i) (is_in (range_with_len (a + 1) n) i) (eq-eqb a i e)
  | inr ne ↦ or_right (a == i) (is_in (range_with_len (a + 1) n) i) (in-range (a + 1) n i (omega (arith, le, ne)) (omega (arith, lt)))
]

in-filter : (p : ℕ → Bool) (xs : List ℕ) (i : ℕ) → is_in xs i ≡ true → p i ≡ true → is_in (filter p xs) i ≡ true
in-filter p [] i h t = h
in-filter p (x ∷ xs) i h t = elim (or_cases (x == i) (is_in xs i) h) [
  | inl e ↦
      let is : x ≡ i = eqb-true x i e in
      subst (λ b. is_in (cond b (x ∷ filter p xs) (filter p xs)) i ≡ true) (sym (ap p is ∙ t)) (or_left (x == i) (is_in (filter p xs) i) e)
  | inr g ↦ elim (cases_Bool (p x)) [
    | inl b ↦ subst (λ b. is_in (cond b (x ∷ filter p xs) (filter p xs)) i ≡ true) (sym b) (or_right (x == i) (is_in (filter p xs) i) (in-filter p xs i g t))
    | inr b ↦ subst (λ b. is_in (cond b (x ∷ filter p xs) (filter p xs)) i ≡ true) (sym b) (in-filter p xs i g t)
  ]
]

from-filter : (p : ℕ → Bool) (xs : List ℕ) (i : ℕ) → is_in (filter p xs) i ≡ true → (is_in xs i ≡ true) × (p i ≡ true)
from-filter p [] i h = absurd (false≢true h)
from-filter p (x ∷ xs) i h = elim (cases_Bool (p x)) [
  | inl b ↦ elim (or_cases (x == i) (is_in (filter p xs) i) (subst (λ b. is_in (cond b (x ∷ filter p xs) (filter p xs)) i ≡ true) b h)) [
    | inl e ↦ (or_left (x == i) (is_in xs i) e, ap p (sym (eqb-true x i e)) ∙ b)
    | inr g ↦ let k = from-filter p xs i g in (in-rest x i xs k.0, k.1)
  ]
  | inr b ↦ let k = from-filter p xs i (subst (λ b. is_in (cond b (x ∷ filter p xs) (filter p xs)) i ≡ true) b h) in (in-rest x i xs k.0, k.1)
]

-- how many of a list are not among these
misses : List ℕ → List ℕ → ℕ
misses seen [] = 0
misses seen (x ∷ xs) = cond (is_in seen x) (misses seen xs) (suc (misses seen xs))

misses-le : (seen : List ℕ) (h : ℕ) (xs : List ℕ) → misses (h ∷ seen) xs ≤ misses seen xs
unfolding misses
misses-le seen h [] = omega arith
misses-le seen h (x ∷ xs) = by_seen (h == x) (is_in seen x) (misses (h ∷ seen) xs) (misses seen xs) (misses-le seen h xs)
  where
    by_seen : (a b : Bool) (m n : ℕ) → m ≤ n → cond (a || b) m (suc m) ≤ cond b n (suc n)
    by_seen true true m n k = k
    by_seen true false m n k = omega (arith, k)
    by_seen false true m n k = k
    by_seen false false m n k = omega (arith, k)

misses-less : (seen : List ℕ) (h : ℕ) (xs : List ℕ) → is_in xs h ≡ true → is_in seen h ≡ false → misses (h ∷ seen) xs < misses seen xs
unfolding misses
misses-less seen h [] here new = absurd (false≢true here)
misses-less seen h (x ∷ xs) here new = elim (or_cases (x == h) (is_in xs h) here) [
  | inl e ↦
      let is : x ≡ h = eqb-true x h e in
      let same : (h == x) ≡ true = eq-eqb h x (sym is) in
      let out : is_in seen x ≡ false = ap (is_in seen) is ∙ new in
      at (h == x) (is_in seen x) (misses (h ∷ seen) xs) (misses seen xs) same out (misses-le seen h xs)
  | inr g ↦ by_seen (h == x) (is_in seen x) (misses (h ∷ seen) xs) (misses seen xs) (misses-less seen h xs g new)
]
  where
    at : (a b : Bool) (m n : ℕ) → a ≡ true → b ≡ false → m ≤ n → cond (a || b) m (suc m) < cond b n (suc n)
    at true false m n ea eb k = omega (arith, k)
    at true true m n ea eb k = absurd (false≢true (sym eb))
    at false b m n ea eb k = absurd (false≢true ea)

    by_seen : (a b : Bool) (m n : ℕ) → m < n → cond (a || b) m (suc m) < cond b n (suc n)
    by_seen true true m n k = k
    by_seen true false m n k = omega (arith, k)
    by_seen false true m n k = k
    by_seen false false m n k = omega (arith, k)

-- ---- the peers that may be relevant

abbrev froms : List Rule → List ℕ
froms rules = map (λ (r : Rule). r.from) rules

abbrev froms_of : List PeerVersion → List ℕ
froms_of [] = []
froms_of (v ∷ vs) = froms (rules_of v) ++ froms_of vs

from-in : (h : ℕ) (rules : List Rule) → list_any (λ (r : Rule). r.from == h) rules ≡ true → is_in (froms rules) h ≡ true
from-in h [] e = absurd (false≢true e)
from-in h (r ∷ rs) e = elim (or_cases (r.from == h) (list_any (λ (r : Rule). r.from == h) rs) e) [
  | inl is ↦ or_left (r.from == h) (is_in (froms rs) h) is
  | inr g ↦ or_right (r.from == h) (is_in (froms rs) h) (from-in h rs g)
]

kept-in : (h : ℕ) (vs : List PeerVersion) (i : ℕ) → option_map_or (has_from h) (slice_get vs i) false ≡ true → is_in (froms_of vs) h ≡ true
kept-in h [] i e = absurd (false≢true e)
kept-in h (v ∷ vs) zero e = in-append (froms (rules_of v)) (froms_of vs) h (from-in h (rules_of v) e)
kept-in h (v ∷ vs) (suc i) e = in-behind (froms (rules_of v)) (froms_of vs) h (kept-in h vs i e)

module _ (p : Pinned) (j : ℕ) where
  -- the peer itself, and each that a rule comes from
  abbrev candidates : List ℕ
  candidates = j ∷ froms_of p.peers

  -- does a rule lead from h to one of these
  abbrev leads_to : List ℕ → ℕ → Bool
  leads_to seen h = list_any (λ i. keeps_from p i h) seen

  -- those that are not among these, and from which a rule leads to one of them
  abbrev next_of : List ℕ → List ℕ
  next_of seen = filter (λ h. not (is_in seen h) && leads_to seen h) candidates

  -- all of these are relevant, and the peer itself is one of them
  record AreSound (seen : List ℕ) : Type 0 where
    pub first : is_in seen j ≡ true
    pub sound : (i : ℕ) → is_in seen i ≡ true → IsRelevant p j i

  -- no rule leads to one of these from another
  AreClosed : List ℕ → Type 0
  AreClosed seen = (h : ℕ) → is_in candidates h ≡ true → leads_to seen h ≡ true → is_in seen h ≡ true

  next-sound : (seen : List ℕ) (h : ℕ) → AreSound seen → leads_to seen h ≡ true → AreSound (h ∷ seen)
  next-sound seen h s leads = record {
    first = in-rest h j seen s.first;
    sound = λ i there. elim (or_cases (h == i) (is_in seen i) there) [
      | inl e ↦ subst (IsRelevant p j) (eqb-true h i e) (by_some seen (λ k is. s.sound k is) leads)
      | inr g ↦ s.sound i g
    ];
  }
    where
      by_some : (ks : List ℕ) → ((k : ℕ) → is_in ks k ≡ true → IsRelevant p j k) → list_any (λ i. keeps_from p i h) ks ≡ true → IsRelevant p j h
      by_some [] all e = absurd (false≢true e)
      by_some (k ∷ ks) all e = elim (or_cases (keeps_from p k h) (list_any (λ i. keeps_from p i h) ks) e) [
        | inl keeps ↦ ∥∥₁_map (all k (in-first k ks)) (λ r. by_rule k h r keeps)
        | inr more ↦ by_some ks (λ i is. all i (in-rest k i ks is)) more
      ]

  Listing : Type 0
  Listing = (seen : List ℕ) × AreSound seen × AreClosed seen

  -- these are closed, or one more is relevant
  round : (seen : List ℕ) → AreSound seen → ((h : ℕ) → AreSound (h ∷ seen) → misses (h ∷ seen) candidates < misses seen candidates → Listing) → Listing
  unfolding Listing AreClosed
  round seen s more = by_next (next_of seen) refl
    where
      by_next : (next : List ℕ) → next_of seen ≡ next → Listing
      by_next [] is = (seen, s, λ h here leads. closed h here leads (is_in seen h) refl)
        where
          closed : (h : ℕ) → is_in candidates h ≡ true → leads_to seen h ≡ true → (b : Bool) → is_in seen h ≡ b → is_in seen h ≡ true
          closed h here leads true e = e
          closed h here leads false e =
              let both : (not (is_in seen h) && leads_to seen h) ≡ true = ap (λ b. not b && leads_to seen h) e ∙ leads in
              absurd (false≢true (ap (λ xs. is_in xs h) (sym is) ∙ in-filter (λ h. not (is_in seen h) && leads_to seen h) candidates h here both))
      by_next (h ∷ hs) is =
          let there = from-filter (λ h. not (is_in seen h) && leads_to seen h) candidates h (ap (λ xs. is_in xs h) is ∙ in-first h hs) in
          let both = and_parts (not (is_in seen h)) (leads_to seen h) there.1 in
          let new : is_in seen h ≡ false = not-true (is_in seen h) both.0 in
          more h (next-sound seen h s both.1) (misses-less seen h candidates there.0 new)

  -- as many rounds as there are candidates are enough
  walk : (rounds : ℕ) (seen : List ℕ) → AreSound seen → misses seen candidates ≤ rounds → Listing
  walk zero seen s few = round seen s (λ h sound less. absurd (omega (arith, few, less)))
  walk (suc n) seen s few = round seen s (λ h sound less. walk n (h ∷ seen) sound (omega (arith, few, less)))

-- the peers that are relevant to peer j can be listed
pub some_relevant : (p : Pinned) (j : ℕ) → (list : List ℕ) × AreRelevant p j list
unfolding Listing AreClosed
some_relevant p j =
    let start : AreSound p j (j ∷ []) = record {
      first = in-first j [];
      sound = λ i there. elim (or_cases (j == i) false there) [
        | inl e ↦ subst (IsRelevant p j) (eqb-true j i e) ∣ itself ∣₁
        | inr g ↦ absurd (false≢true g)
      ];
    } in
    let found = walk p j (misses (j ∷ []) (candidates p j)) (j ∷ []) start (omega arith) in
    let all = range_with_len 0 (suc (sum found.0)) in (
      filter (is_in found.0) all,
      record {
        rising = IsStrictlyIncreasing-filter (is_in found.0) all (range-rises (suc (sum found.0)));
        exactly = λ i. (
          λ h. found.1.sound i (from-filter (is_in found.0) all i h).1,
          λ r. ∥∥₁_elim r (Bool-set (is_in (filter (is_in found.0) all) i) true) (λ w.
              let there = reached found.0 found.1 found.2 i w in
              let low = in-low found.0 i there in
              in-filter (is_in found.0) all i (in-range 0 (suc (sum found.0)) i (omega arith) (omega (arith, low))) there),
        );
      },
    )
  where
    reached : (seen : List ℕ) → AreSound p j seen → ((h : ℕ) → is_in (candidates p j) h ≡ true → leads_to p j seen h ≡ true → is_in seen h ≡ true) → (i : ℕ) → Relevant p j i → is_in seen i ≡ true
    reached seen s closed _ itself = s.first
    reached seen s closed _ (by_rule k i r keeps) =
        let old = reached seen s closed k r in
        closed i (in-rest j i (froms_of p.peers) (kept-in i p.peers k keeps)) (any seen k old keeps)
      where
        any : (ks : List ℕ) (k : ℕ) → is_in ks k ≡ true → keeps_from p k i ≡ true → list_any (λ m. keeps_from p m i) ks ≡ true
        any [] k here keeps = absurd (false≢true here)
        any (m ∷ ms) k here keeps = elim (or_cases (m == k) (is_in ms k) here) [
          | inl e ↦ or_left (keeps_from p m i) (list_any (λ m. keeps_from p m i) ms) (ap (λ n. keeps_from p n i) (eqb-true m k e) ∙ keeps)
          | inr g ↦ or_right (keeps_from p m i) (list_any (λ m. keeps_from p m i) ms) (any ms k g keeps)
        ]
