-- The first item of a peer that fails a test.
use Rattle.std.proofs.Common.{◌≡◌, ◌∙◌, ℕ, zero, suc, ◌+◌, ◌<◌, ◌≤◌, Bool, true, false, not, cond, nat_lt, List, [], ◌∷◌, length, get_or, Option, None, Some, ap, refl, drop, subst, sym, arith, drop-cons}
use Rattle.std.specs.Option.{option_map, option_or}
use Rattle.std.specs.List.{All, position, position_or_len, slice_get}
use Rattle.std.proofs.lemmas.Bool.{ltb-false, ltb-true, le-ltb, not-false, not_from_true}
use Rattle.std.proofs.lemmas.List.Sums.{fails_before_first, passes_at_first, position_or_len_is}
use Rattle.std.proofs.lemmas.Option.{cond_some, same_Some, some_pair_parts, slice_get-get_or, get_or_from_slice_get}
use Rattle.dd_concept.proofs.Firsts.{first_none, map_none, position_none}
use Rattle.dd_peer.specs.declared.version.PeerVersion.{PeerVersion}
use Rattle.dd_world.specs.Faults.{first_failing}

module _ (A : Type 0) (p : A → Bool) where
  pub none_passes : (xs : List A) → All (λ x. p x ≡ false) xs → position p xs ≡ None
  none_passes [] h = refl
  none_passes (x ∷ xs) h =
      let end : position_or_len p (x ∷ xs) ≡ length (x ∷ xs) =
      position_or_len_is p (x ∷ xs) (length (x ∷ xs)) x (omega arith) (λ k lt. h k x lt) (λ lt. absurd (omega (arith, lt))) in
      ap (λ b. cond b (Some (position_or_len p (x ∷ xs))) None)
      (le-ltb (position_or_len p (x ∷ xs)) (length (x ∷ xs)) (omega (arith, end)))

  -- the item that position found, and that none before it passes
  pub record IsFound (xs : List A) (k : ℕ) : Type 0 where
    pub item : A
    pub is_item : slice_get xs k ≡ Some item
    pub passes : p item ≡ true
    pub before : (i : ℕ) (other : A) → i < k → slice_get xs i ≡ Some other → p other ≡ false

  found_at : (xs : List A) (d : A) → position_or_len p xs < length xs → IsFound xs (position_or_len p xs)
  found_at xs d lt = record {
    item = get_or xs (position_or_len p xs) d;
    is_item = slice_get-get_or xs (position_or_len p xs) d lt;
    passes = passes_at_first p xs d lt;
    before = λ i other less e. subst (λ x. p x ≡ false) (get_or_from_slice_get xs i other d e) (fails_before_first p xs i d less);
  }

  pub position_some : (xs : List A) (k : ℕ) → position p xs ≡ Some k → IsFound xs k
  position_some [] k e = cc
  position_some (x ∷ xs) k e =
      let h = cond_some (nat_lt (position_or_len p (x ∷ xs)) (length (x ∷ xs))) (position_or_len p (x ∷ xs)) k e in
      subst (IsFound (x ∷ xs)) h.1 (found_at (x ∷ xs) x (ltb-true (position_or_len p (x ∷ xs)) (length (x ∷ xs)) h.0))

-- each item of each of these peers, numbered from j, passes
abbrev pub EachPasses : (A : Type 0) → (PeerVersion → List A) → (ℕ → A → Bool) → ℕ → List PeerVersion → Type 0
EachPasses A list test j vs = (k : ℕ) (v : PeerVersion) → slice_get vs k ≡ Some v → All (λ a. test (j + k) a ≡ true) (list v)

-- the item that first_failing found, numbered from j, and that none before it fails
pub record IsFirst (A : Type 0) (list : PeerVersion → List A) (test : ℕ → A → Bool) (j : ℕ) (vs : List PeerVersion) (m n : ℕ) : Type 0 where
  pub place : ℕ
  pub at : m ≡ j + place
  pub version : PeerVersion
  pub is_version : slice_get vs place ≡ Some version
  pub found : IsFound A (λ a. not (test m a)) (list version) n
  pub before : (i : ℕ) (v : PeerVersion) → i < place → slice_get vs i ≡ Some v → All (λ a. test (j + i) a ≡ true) (list v)

module _ (A : Type 0) (list : PeerVersion → List A) (test : ℕ → A → Bool) where
  -- the places of the first of these peers that fail
  place_in : ℕ → PeerVersion → Option ℕ
  place_in j v = position (λ a. not (test j a)) (list v)

  head_passes : (j : ℕ) (v : PeerVersion) → place_in j v ≡ None → All (λ a. test j a ≡ true) (list v)
  unfolding place_in
  head_passes j v e k d lt = not-false (test j (get_or (list v) k d)) (position_none (λ a. not (test j a)) (list v) e k d lt)

  renumber : (i j : ℕ) (v : PeerVersion) → i ≡ j → All (λ a. test i a ≡ true) (list v) → All (λ a. test j a ≡ true) (list v)
  renumber i j v e h = subst (λ n. All (λ a. test n a ≡ true) (list v)) e h

  pub first_failing_none : (j : ℕ) (vs : List PeerVersion) → first_failing list test j vs ≡ None → EachPasses A list test j vs
  unfolding place_in
  first_failing_none j [] e k v s = cc
  first_failing_none j (u ∷ us) e zero v s =
      let h = first_none (option_map (λ n. (j, n)) (place_in j u)) (first_failing list test (j + 1) us) e in
      renumber j (j + 0) v (omega arith) (subst (λ w. All (λ a. test j a ≡ true) (list w)) (same_Some u v s)
      (head_passes j u (map_none (λ n. (j, n)) (place_in j u) h.0)))
  first_failing_none j (u ∷ us) e (suc k) v s =
      let h = first_none (option_map (λ n. (j, n)) (place_in j u)) (first_failing list test (j + 1) us) e in
      renumber (j + 1 + k) (j + suc k) v (omega arith) (first_failing_none (j + 1) us h.1 k v s)

  pub none_failing : (j : ℕ) (vs : List PeerVersion) → EachPasses A list test j vs → first_failing list test j vs ≡ None
  unfolding place_in
  none_failing j [] h = refl
  none_failing j (u ∷ us) h =
      let none : place_in j u ≡ None = none_passes A (λ a. not (test j a)) (list u)
      (λ k d lt. not_from_true (test j (get_or (list u) k d)) (renumber (j + 0) j u (omega arith) (h 0 u refl) k d lt)) in
      ap (λ o. option_or (option_map (λ n. (j, n)) o) (first_failing list test (j + 1) us)) none
      ∙ none_failing (j + 1) us (λ k v s. renumber (j + suc k) (j + 1 + k) v (omega arith) (h (suc k) v s))

  earlier : (j : ℕ) (u : PeerVersion) (us : List PeerVersion) {m n : ℕ} → place_in j u ≡ None → (h : IsFirst A list test (j + 1) us m n)
      → (i : ℕ) (v : PeerVersion) → i < suc h.place → slice_get (u ∷ us) i ≡ Some v → All (λ a. test (j + i) a ≡ true) (list v)
  earlier j u us f h zero v lt s =
      renumber j (j + 0) v (omega arith) (subst (λ w. All (λ a. test j a ≡ true) (list w)) (same_Some u v s) (head_passes j u f))
  earlier j u us f h (suc i) v lt s = renumber (j + 1 + i) (j + suc i) v (omega arith) (h.before i v (omega arith) s)

  first_failing_found : (j : ℕ) (u : PeerVersion) (us : List PeerVersion) (m n : ℕ) (o : Option ℕ) → place_in j u ≡ o
      → option_or (option_map (λ k. (j, k)) o) (first_failing list test (j + 1) us) ≡ Some (m, n)
      → (first_failing list test (j + 1) us ≡ Some (m, n) → IsFirst A list test (j + 1) us m n) → IsFirst A list test j (u ∷ us) m n
  unfolding place_in
  first_failing_found j u us m n (Some k) f e rest =
      let h = some_pair_parts j m k n e in
      let found : IsFound A (λ a. not (test j a)) (list u) n = subst (IsFound A (λ a. not (test j a)) (list u)) h.1 (position_some A (λ a. not (test j a)) (list u) k f) in
      record {
        place = 0;
        at = omega (arith, h.0);
        version = u;
        is_version = refl;
        found = subst (λ i. IsFound A (λ a. not (test i a)) (list u) n) h.0 found;
        before = λ i v lt s. absurd (omega (arith, lt));
      }
  first_failing_found j u us m n None f e rest = let h = rest e in record {
    place = suc h.place;
    at = omega (arith, h.at);
    version = h.version;
    is_version = h.is_version;
    found = h.found;
    before = earlier j u us f h;
  }

  pub first_failing_some : (j : ℕ) (vs : List PeerVersion) (m n : ℕ) → first_failing list test j vs ≡ Some (m, n) → IsFirst A list test j vs m n
  unfolding place_in
  first_failing_some j [] m n e = cc
  first_failing_some j (u ∷ us) m n e = first_failing_found j u us m n (place_in j u) refl e (first_failing_some (j + 1) us m n)

  -- a peer with nothing that fails is passed by
  pub first_failing-next : (j : ℕ) (vs : List PeerVersion) (v : PeerVersion) → v ≡ get_or vs j v → j < length vs
      → None ≡ position (λ a. not (test j a)) (list v) → first_failing list test j (drop j vs) ≡ first_failing list test (j + 1) (drop (j + 1) vs)
  first_failing-next j vs v e lt none =
      let whole : drop j vs ≡ v ∷ drop (suc j) vs = drop-cons vs j v lt ∙ ap (λ u. u ∷ drop (suc j) vs) (sym e) in
      let next : suc j ≡ j + 1 = omega arith in
      ap (first_failing list test j) whole
      ∙ ap (λ o. option_or (option_map (λ n. (j, n)) o) (first_failing list test (j + 1) (drop (suc j) vs))) (sym none)
      ∙ ap (λ n. first_failing list test (j + 1) (drop n vs)) next
