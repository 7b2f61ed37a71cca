-- No two tasks of a session have the same key, and how many keys can ask one peer by the rules of another.
use Rattle.std.proofs.Common.{◌≡◌, ◌∙◌, ℕ, zero, suc, ◌+◌, ◌-◌, ◌*◌, ◌^◌, ◌<◌, ◌≤◌, Bool, true, false, not, cond, ◌&&◌, nat_eq, List, [], ◌∷◌, ◌++◌, map, filter, length, Some, ap, refl, subst, sym, inl, inr, arith, All, count_by, option_map, length-append}
use Rattle.std.specs.Cmp.{IsEquivalence}
use Rattle.std.specs.List.{slice_get, list_any, fold, flat_map, range_with_len}
use Rattle.std.specs.Option.{option_map_or}
use Rattle.std.proofs.lemmas.Bool.{cases_Bool, and_parts, eqb-true, eqb-false, false≢true}
use Rattle.std.proofs.lemmas.Option.{same_Some, slice_get-map}
use Rattle.std.proofs.lemmas.List.{length-map}
use Rattle.std.proofs.lemmas.List.Elements.{All-weaker}
use Rattle.std.proofs.lemmas.List.Sums.{length-filter}
use Rattle.dd_interp.specs.declared.interp.Interp.{Interp}
use Rattle.dd_peer.specs.declared.version.Pinned.{Pinned}
use Rattle.dd_task.specs.declared.job.Job.{Job}
use Rattle.dd_task.specs.declared.job.Key.{Key}
use Rattle.dd_task.specs.declared.job.Key.TheVariants.{Root, Asked}
use Rattle.dd_task.specs.declared.line.Line.{Line}
use Rattle.dd_task.specs.Demands.{with_key, raised_by, raised_at}
use Rattle.dd_task.specs.Goals.{peer_of}
use Rattle.dd_task.specs.Keys.{is_same_key}
use Rattle.dd_task.specs.Lines.{is_rising}
use Rattle.dd_task.specs.Rules.{into_rules, onto_rules}
use Rattle.dd_task.proofs.KeyLists.{same_key, key_is_same}
use Rattle.dd_task.proofs.Places.{at-append, at-behind, before_filter, passes_filter}
use Rattle.dd_board.specs.declared.event.Event.{Event}
use Rattle.dd_board.specs.declared.event.Event.TheVariants as event
use Rattle.dd_board.specs.View.{Task, SessionView, Start, change_at}
use Rattle.dd_board.specs.Steps.{new_task, taken, given_back, proved_by, opened_by, has_key, with_keys, number_of, keys_for, raised_keys, apply}
use Rattle.dd_board.specs.Allowed.{IsAllowed}
use Rattle.dd_board.specs.Fit.{AreThere}
use Rattle.dd_board.specs.Legal.{Runs, opened, stepped}
use Rattle.dd_board.proofs.Alike.{key_in}
use Rattle.dd_board.proofs.Apart.{AreApart, apart-filter, apart-append, apart-few, none_or, or_none}
use Rattle.dd_board.proofs.Changes.{any-at}
use Rattle.dd_board.proofs.Sublists.{sublists, length-sublists, rising-is-one}

-- ---- keys are compared by what they say

same-if : (a b : Bool) → (a ≡ true → b ≡ true) → (b ≡ true → a ≡ true) → a ≡ b
same-if true b f g = sym (f refl)
same-if false true f g = g refl
same-if false false f g = refl

keys-turned : (j k : Key) → is_same_key j k ≡ true → is_same_key k j ≡ true
keys-turned j k e = subst (λ x. is_same_key k x ≡ true) (sym (same_key j k e)) (key_is_same k)

pub key-laws : IsEquivalence is_same_key
key-laws = record {
  refl = key_is_same;
  symm = λ j k. same-if (is_same_key j k) (is_same_key k j) (keys-turned j k) (keys-turned k j);
  congr = λ j k l e. ap (λ x. is_same_key x l) (same_key j k e);
}

-- ---- the keys of a session's tasks

none-at : {A : Type 0} (q : A → Bool) (xs : List A) (k : ℕ) (x : A) → list_any q xs ≡ false → slice_get xs k ≡ Some x → q x ≡ false
none-at q [] k x h e = cc
none-at q (y ∷ xs) zero x h e = ap q (sym (same_Some y x e)) ∙ (or_none (q y) (list_any q xs) h).0
none-at q (y ∷ xs) (suc k) x h e = none-at q xs k x (or_none (q y) (list_any q xs) h).1 e

none-from : {A : Type 0} (q : A → Bool) (xs : List A) → ((k : ℕ) (x : A) → slice_get xs k ≡ Some x → q x ≡ false) → list_any q xs ≡ false
none-from q [] h = refl
none-from q (y ∷ xs) h = none_or (q y) (list_any q xs) (h 0 y refl) (none-from q xs (λ k. h (suc k)))

with-key-apart : (found : List Key) (k : Key) → AreApart is_same_key found → AreApart is_same_key (with_key found k)
with-key-apart found k h = elim (cases_Bool (list_any (is_same_key k) found)) [
  | inl there ↦ subst (λ b. AreApart is_same_key (cond b found (found ++ k ∷ []))) (sym there) h
  | inr new ↦ subst (λ b. AreApart is_same_key (cond b found (found ++ k ∷ []))) (sym new) (apart-append is_same_key found (k ∷ []) h (refl, tt)
      (λ n x at. none_or (is_same_key x k) false (key-laws.symm x k ∙ none-at (is_same_key k) found n x new at) refl))
]

folded-apart : (keys found : List Key) → AreApart is_same_key found → AreApart is_same_key (fold with_key found keys)
folded-apart [] found h = h
folded-apart (k ∷ keys) found h = folded-apart keys (with_key found k) (with-key-apart found k h)

raised-apart : (p : Pinned) (i : ℕ) (m : Interp) → AreApart is_same_key (raised_by p i m)
raised-apart p i m = folded-apart (flat_map (raised_at p i m) (range_with_len 0 m.size)) [] tt

keys-changed : (f : Task → Task) → ((a : Task) → (f a).key ≡ a.key) → (tasks : List Task) (t : ℕ) → map key_in (change_at f tasks t) ≡ map key_in tasks
keys-changed f same [] t = refl
keys-changed f same (a ∷ tasks) zero = ap (λ k. k ∷ map key_in tasks) (same a)
keys-changed f same (a ∷ tasks) (suc t) = ap (λ ks. a.key ∷ ks) (keys-changed f same tasks t)

keys-made : (keys : List Key) → map key_in (map new_task keys) ≡ keys
keys-made [] = refl
keys-made (k ∷ keys) = ap (λ ks. k ∷ ks) (keys-made keys)

keys-added : (tasks : List Task) (keys : List Key) → map key_in (tasks ++ map new_task keys) ≡ map key_in tasks ++ keys
keys-added [] keys = keys-made keys
keys-added (a ∷ tasks) keys = ap (λ ks. a.key ∷ ks) (keys-added tasks keys)

pub keyed-at : (tasks : List Task) (k : ℕ) (x : Key) → slice_get (map key_in tasks) k ≡ Some x → (a : Task) × (slice_get tasks k ≡ Some a) × (a.key ≡ x)
keyed-at [] k x e = cc
keyed-at (a ∷ tasks) zero x e = (a, refl, same_Some a.key x e)
keyed-at (a ∷ tasks) (suc k) x e = keyed-at tasks k x e

added-apart : (tasks : List Task) (keys : List Key) → AreApart is_same_key (map key_in tasks) → AreApart is_same_key keys
    → AreApart is_same_key (map key_in (with_keys tasks keys))
added-apart tasks keys h k =
    let new : List Key = filter (λ key. not (has_key tasks key)) keys in
    subst (AreApart is_same_key) (sym (keys-added tasks new)) (apart-append is_same_key (map key_in tasks) new h
    (apart-filter is_same_key (λ key. not (has_key tasks key)) keys k) (λ n x at.
    let a = keyed-at tasks n x at in
    none-from (is_same_key x) new (λ j y there.
    let lacks : has_key tasks y ≡ false = not-so (has_key tasks y) (passes_filter Key (λ key. not (has_key tasks key)) keys j y there) in
    ap (λ z. is_same_key z y) (sym a.2) ∙ none-at (λ (b : Task). is_same_key b.key y) tasks n a.0 lacks a.1)))
  where
    not-so : (b : Bool) → not b ≡ true → b ≡ false
    not-so true e = absurd (false≢true e)
    not-so false e = refl

different-step : (v : SessionView) (e : Event) (lines : List Line) → AreApart is_same_key (map key_in v.tasks) → IsAllowed v e lines
    → AreApart is_same_key (map key_in (apply v e lines).tasks)
different-step v (event.Take t worker number seen) lines h may =
    subst (AreApart is_same_key) (sym (keys-changed (taken number seen) (λ a. refl) v.tasks t)) h
different-step v (event.Closed t number count) lines h may =
    subst (AreApart is_same_key) (sym (keys-changed (proved_by (length v.lines + length lines - 1)) (λ a. refl) v.tasks t)) h
different-step v (event.Opened t number m x) lines h may =
    let keys_are : raised_keys v t m ≡ raised_by v.job.pinned (peer_of v.job may.by.task.key) m = ap (λ o. option_map_or (keys_for v m) o []) may.by.at in
    subst (AreApart is_same_key)
    (sym (keys-changed (opened_by (length v.journal) (map (number_of (with_keys v.tasks (raised_keys v t m))) (raised_keys v t m))) (λ a. refl) (with_keys v.tasks (raised_keys v t m)) t))
    (added-apart v.tasks (raised_keys v t m) h (subst (AreApart is_same_key) (sym keys_are) (raised-apart v.job.pinned (peer_of v.job may.by.task.key) m)))
different-step v (event.Spent t number run) lines h may = subst (AreApart is_same_key) (sym (keys-changed given_back (λ a. refl) v.tasks t)) h
different-step v (event.Give t number) lines h may = subst (AreApart is_same_key) (sym (keys-changed given_back (λ a. refl) v.tasks t)) h

-- no two tasks have the same key
pub different : (job : Job) (start : Start) (v : SessionView) → Runs job start v → AreApart is_same_key (map key_in v.tasks)
different job start v (opened is) = (refl, tt)
different job start v (stepped w e lines r may) = different-step w e lines (different job start w r) may

-- ---- how many keys there can be

abbrev pub is_root : Key → Bool
is_root Root = true
is_root (Asked h i o set) = false

-- does the key ask peer h by the rules that peer i keeps
abbrev pub is_asked : ℕ → ℕ → Key → Bool
is_asked h i Root = false
is_asked h i (Asked g j o set) = (nat_eq g h) && (nat_eq j i)

abbrev all_keys : ℕ → ℕ → ℕ → ℕ → ℕ → List Key
all_keys h i n a zero = []
all_keys h i n a (suc m) = map (λ set. Asked h i a set) (sublists (range_with_len 0 n)) ++ all_keys h i n (a + 1) m

length-range : (a n : ℕ) → length (range_with_len a n) ≡ n
length-range a zero = refl
length-range a (suc n) = ap suc (length-range (a + 1) n)

all_keys-count : (h i n a m : ℕ) → length (all_keys h i n a m) ≡ m * 2 ^ n
all_keys-count h i n a zero = omega arith
all_keys-count h i n a (suc m) =
    let both = length-append (map (λ set. Asked h i a set) (sublists (range_with_len 0 n))) (all_keys h i n (a + 1) m) in
    let first = length-map (sublists (range_with_len 0 n)) (λ set. Asked h i a set) in
    let sets : length (sublists (range_with_len 0 n)) ≡ 2 ^ n = length-sublists (range_with_len 0 n) ∙ ap (λ k. 2 ^ k) (length-range 0 n) in
    let rest = all_keys-count h i n (a + 1) m in
    omega (arith, both, first, sets, rest)

all_keys-has : (h i n a m o : ℕ) (set : List ℕ) → a ≤ o → o < a + m → is_rising set ≡ true → All (λ k. k < n) set
    → (j : ℕ) × (slice_get (all_keys h i n a m) j ≡ Some (Asked h i o set))
all_keys-has h i n a zero o set low high rising below = absurd (omega (arith, low, high))
all_keys-has h i n a (suc m) o set low high rising below = elim (cases_Bool (nat_eq a o)) [
  | inl t ↦
      let same : a ≡ o = eqb-true a o t in
      let one = rising-is-one n 0 set rising (All-weaker (λ k. k < n) (λ k. 0 ≤ k) (λ k e. omega arith) set below)
      (All-weaker (λ k. k < n) (λ k. k < 0 + n) (λ k e. omega (arith, e)) set below) in
      let there : slice_get (map (λ s. Asked h i a s) (sublists (range_with_len 0 n))) one.0 ≡ Some (Asked h i a set) =
      slice_get-map (λ s. Asked h i a s) (sublists (range_with_len 0 n)) one.0 ∙ ap (option_map (λ s. Asked h i a s)) one.1 in (
        one.0,
        at-append Key (map (λ s. Asked h i a s) (sublists (range_with_len 0 n))) (all_keys h i n (a + 1) m) one.0 (Asked h i a set) there
            ∙ ap (λ k. Some (Asked h i k set)) same,
      )
  | inr f ↦
      let other = eqb-false a o f in
      let rest = all_keys-has h i n (a + 1) m o set (omega (arith, low, other)) (omega (arith, high)) rising below in (
        length (map (λ s. Asked h i a s) (sublists (range_with_len 0 n))) + rest.0,
        at-behind Key (map (λ s. Asked h i a s) (sublists (range_with_len 0 n))) (all_keys h i n (a + 1) m) rest.0 ∙ rest.1,
      )
]

-- of different keys whose rules are there, so many ask peer h by the rules that peer i keeps
pub few-asked : (p : Pinned) (h i : ℕ) (keys : List Key) → AreApart is_same_key keys
    → ((k g j o : ℕ) (set : List ℕ) → slice_get keys k ≡ Some (Asked g j o set) → AreThere p g j o set)
    → count_by (is_asked h i) keys ≤ length (onto_rules p h i) * 2 ^ length (into_rules p h i)
few-asked p h i keys apart there =
    let m : ℕ = length (onto_rules p h i) in
    let n : ℕ = length (into_rules p h i) in
    let all : List Key = all_keys h i n 0 m in
    let few : length (filter (is_asked h i) keys) ≤ length all = apart-few is_same_key key-laws (filter (is_asked h i) keys) all
    (apart-filter is_same_key (is_asked h i) keys apart) (λ k key at.
    let before = before_filter Key (is_asked h i) keys k key at in
    listed key before.0 before.1 (passes_filter Key (is_asked h i) keys k key at)) in
    let counted = length-filter (is_asked h i) keys in
    let sum = all_keys-count h i n 0 m in
    omega (arith, few, counted, sum)
  where
    listed : (key : Key) (q : ℕ) → slice_get keys q ≡ Some key → is_asked h i key ≡ true
        → list_any (is_same_key key) (all_keys h i (length (into_rules p h i)) 0 (length (onto_rules p h i))) ≡ true
    listed Root q at passes = cc
    listed (Asked g j o set) q at passes =
        let parts = and_parts (nat_eq g h) (nat_eq j i) passes in
        let rules = there q g j o set at in
        let here : AreThere p h i o set = subst (λ x. AreThere p x i o set) (eqb-true g h parts.0) (subst (λ x. AreThere p g x o set) (eqb-true j i parts.1) rules) in
        let place = all_keys-has h i (length (into_rules p h i)) 0 (length (onto_rules p h i)) o set (omega arith) (let l = here.onto in omega (arith, l)) here.rising here.into in
        any-at Key (is_same_key (Asked g j o set)) (all_keys h i (length (into_rules p h i)) 0 (length (onto_rules p h i))) place.0 (Asked h i o set) place.1
        (ap (λ x. is_same_key (Asked g j o set) x) (ap (λ x. Asked x i o set) (sym (eqb-true g h parts.0)) ∙ ap (λ x. Asked g x o set) (sym (eqb-true j i parts.1)))
        ∙ key_is_same (Asked g j o set))

-- one of them is the root's
pub one-root : (keys : List Key) → AreApart is_same_key keys → count_by is_root keys ≤ 1
one-root keys apart =
    let few : length (filter is_root keys) ≤ length (Root ∷ []) = apart-few is_same_key key-laws (filter is_root keys) (Root ∷ [])
    (apart-filter is_same_key is_root keys apart) (λ k key at. listed key (passes_filter Key is_root keys k key at)) in
    let counted = length-filter is_root keys in
    let one : length (Root ∷ []) ≡ 1 = refl in
    omega (arith, few, counted, one)
  where
    listed : (key : Key) → is_root key ≡ true → list_any (is_same_key key) (Root ∷ []) ≡ true
    listed Root e = refl
    listed (Asked h i o set) e = cc
