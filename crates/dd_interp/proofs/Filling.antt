-- Rows that are filled number by number.
use Rattle.std.proofs.Common.{◌≡◌, ◌∙◌, ℕ, ◌+◌, ◌<◌, ◌≤◌, Bool, true, false, ◌&&◌, ◌||◌, nat_eq, nat_lt, List, [], ◌∷◌, length, get_or, take, filter, cond, ap, refl, sym, inl, inr, arith}
use Rattle.std.specs.List.{All, list_any}
use Rattle.std.proofs.lemmas.Bool.{cases_lt, cases_eq, eq-eqb, ne_eqb, lt-ltb, le-ltb, and_left, and_right, or_from}
use Rattle.std.proofs.lemmas.List.Elements.{All-head, All-tail}
use Rattle.std.proofs.lemmas.List.Folds.{list_any_more}
use Rattle.dd_set.specs.Words.{has, Label}
use Rattle.dd_interp.specs.Meaning.{in_name, some_along}
use Rattle.dd_interp.specs.Seen.{IsExtension}

eqb-comm : (a b : ℕ) → nat_eq a b ≡ nat_eq b a
eqb-comm a b = elim (cases_eq a b) [
  | inl e ↦ eq-eqb a b e ∙ sym (eq-eqb b a (sym e))
  | inr ne ↦ ne_eqb a b ne ∙ sym (ne_eqb b a (λ e. ne (sym e)))
]

or-comm : (a b : Bool) → (a || b) ≡ (b || a)
or-comm true true = refl
or-comm true false = refl
or-comm false true = refl
or-comm false false = refl

and-true : (a : Bool) → (a && true) ≡ a
and-true true = refl
and-true false = refl

and-assoc : (a b c : Bool) → ((a && b) && c) ≡ (a && (b && c))
and-assoc true b c = refl
and-assoc false b c = refl

-- ---- all numbers below one

pub record HasBelow (size : ℕ) (row : Label) (n : ℕ) : Type 0 where
  pub width : row.width ≡ size
  pub bits : (k : ℕ) → has row.words k ≡ nat_lt k n

pub below-start : (size : ℕ) (row : Label) → row.width ≡ size → ((k : ℕ) → has row.words k ≡ false) → HasBelow size row 0
below-start size row w none = record { width = w; bits = λ k. none k ∙ sym (le-ltb k 0 (omega arith)) }

pub below-more : (size : ℕ) (row new : Label) (n : ℕ) → new.width ≡ row.width → ((k : ℕ) → has new.words k ≡ (nat_eq k n || has row.words k)) → HasBelow size row n → HasBelow size new (n + 1)
below-more size row new n w with h = record { width = w ∙ h.width; bits = λ k. with k ∙ ap (λ b. nat_eq k n || b) (h.bits k) ∙ one k }
  where
    one : (k : ℕ) → (nat_eq k n || nat_lt k n) ≡ nat_lt k (n + 1)
    one k = elim (cases_lt k n) [
      | inl lt ↦ or-comm (nat_eq k n) (nat_lt k n) ∙ ap (λ b. b || nat_eq k n) (lt-ltb k n lt) ∙ sym (lt-ltb k (n + 1) (omega (arith, lt)))
      | inr le ↦ elim (cases_eq k n) [
        | inl e ↦ ap (λ b. b || nat_lt k n) (eq-eqb k n e) ∙ sym (lt-ltb k (n + 1) (omega (arith, e)))
        | inr ne ↦ or_from (nat_eq k n) (nat_lt k n) (ne_eqb k n ne) (le-ltb k n le) ∙ sym (le-ltb k (n + 1) (omega (arith, le, ne)))
      ]
    ]

pub below-end : (size : ℕ) (row : Label) (n : ℕ) → n ≡ size → HasBelow size row n → IsExtension size (λ k. true) row
below-end size row n e h = record { width = h.width; bits = λ k. h.bits k ∙ ap (λ m. nat_lt k m) e ∙ sym (and-true (nat_lt k size)) }

-- ---- those of a list of pairs

pub record HasNamed (size : ℕ) (names : List (ℕ × ℕ)) (row : Label) : Type 0 where
  pub width : row.width ≡ size
  pub bits : (k : ℕ) → has row.words k ≡ list_any (λ (p : ℕ × ℕ). nat_eq p.1 k) names

pub named-start : (size : ℕ) (row : Label) → row.width ≡ size → ((k : ℕ) → has row.words k ≡ false) → HasNamed size [] row
named-start size row w none = record { width = w; bits = λ k. none k }

pub named-more : (size : ℕ) (names : List (ℕ × ℕ)) (row new : Label) (n : ℕ) (d : ℕ × ℕ) → n < length names → new.width ≡ row.width
    → ((k : ℕ) → has new.words k ≡ (nat_eq k (get_or names n d).1 || has row.words k)) → HasNamed size (take n names) row → HasNamed size (take (n + 1) names) new
named-more size names row new n d lt w with h = record {
  width = w ∙ h.width;
  bits = λ k. with k ∙ or-comm (nat_eq k (get_or names n d).1) (has row.words k)
      ∙ ap (λ b. b || nat_eq k (get_or names n d).1) (h.bits k)
      ∙ ap (λ b. list_any (λ (p : ℕ × ℕ). nat_eq p.1 k) (take n names) || b) (eqb-comm k (get_or names n d).1)
      ∙ sym (list_any_more (λ (p : ℕ × ℕ). nat_eq p.1 k) names n d lt);
}

any-filter : {X : Type 0} (p q : X → Bool) (xs : List X) → list_any q (filter p xs) ≡ list_any (λ x. p x && q x) xs
any-filter p q [] = refl
any-filter p q (x ∷ xs) = kept (p x) ∙ ap (λ b. (p x && q x) || b) (any-filter p q xs)
  where
    kept : (b : Bool) → list_any q (cond b (x ∷ filter p xs) (filter p xs)) ≡ ((b && q x) || list_any q (filter p xs))
    kept true = refl
    kept false = refl

none_named : (a k n : ℕ) (names : List (ℕ × ℕ)) → All (λ p. p.1 < n) names → n ≤ k → in_name names a k ≡ false
none_named a k n [] h le = refl
none_named a k n (p ∷ ps) h le =
    let lt : p.1 < n = All-head (λ (q : ℕ × ℕ). q.1 < n) p ps h in
    or_from (nat_eq p.0 a && nat_eq p.1 k) (in_name ps a k) (and_right (nat_eq p.0 a) (nat_eq p.1 k) (ne_eqb p.1 k (λ q. absurd (omega (arith, q, lt, le)))))
    (none_named a k n ps (All-tail (λ (q : ℕ × ℕ). q.1 < n) p ps h) le)

none_starts : (r k n : ℕ) (c : ℕ → Bool) (roles : List (ℕ × ℕ × ℕ)) → All (λ t. (t.1 < n) × (t.2 < n)) roles → n ≤ k → some_along roles r c k ≡ false
none_starts r k n c [] h le = refl
none_starts r k n c (t ∷ ts) h le =
    let lt : t.1 < n = (All-head (λ (s : ℕ × ℕ × ℕ). (s.1 < n) × (s.2 < n)) t ts h).0 in
    or_from ((nat_eq t.0 r && nat_eq t.1 k) && c t.2) (some_along ts r c k)
    (and_left (nat_eq t.0 r && nat_eq t.1 k) (c t.2) (and_right (nat_eq t.0 r) (nat_eq t.1 k) (ne_eqb t.1 k (λ q. absurd (omega (arith, q, lt, le))))))
    (none_starts r k n c ts (All-tail (λ (s : ℕ × ℕ × ℕ). (s.1 < n) × (s.2 < n)) t ts h) le)

-- a test that fails from a bound on
bounded : (n k : ℕ) (b : Bool) → (n ≤ k → b ≡ false) → b ≡ (nat_lt k n && b)
bounded n k b f = elim (cases_lt k n) [
  | inl lt ↦ ap (λ v. v && b) (sym (lt-ltb k n lt))
  | inr le ↦ f le ∙ sym (and_left (nat_lt k n) b (le-ltb k n le))
]

pub named-end : (size a : ℕ) (names group : List (ℕ × ℕ)) (row : Label) → All (λ p. p.1 < size) names → group ≡ filter (λ p. nat_eq p.0 a) names
    → HasNamed size group row → IsExtension size (in_name names a) row
named-end size a names group row shaped e h = record {
  width = h.width;
  bits = λ k. h.bits k ∙ ap (list_any (λ (p : ℕ × ℕ). nat_eq p.1 k)) e ∙ any-filter (λ p. nat_eq p.0 a) (λ (p : ℕ × ℕ). nat_eq p.1 k) names
      ∙ bounded size k (in_name names a k) (none_named a k size names shaped);
}

-- ---- those from which pairs start

pub record HasStarts (size : ℕ) (ends : ℕ → Bool) (roles : List (ℕ × ℕ × ℕ)) (row : Label) : Type 0 where
  pub width : row.width ≡ size
  pub bits : (k : ℕ) → has row.words k ≡ list_any (λ (t : ℕ × ℕ × ℕ). nat_eq t.1 k && ends t.2) roles

pub starts-start : (size : ℕ) (ends : ℕ → Bool) (row : Label) → row.width ≡ size → ((k : ℕ) → has row.words k ≡ false) → HasStarts size ends [] row
starts-start size ends row w none = record { width = w; bits = λ k. none k }

module _ (size : ℕ) (ends : ℕ → Bool) (roles : List (ℕ × ℕ × ℕ)) (row : Label) (n : ℕ) (d : ℕ × ℕ × ℕ) (lt : n < length roles) (h : HasStarts size ends (take n roles) row) where
  pub starts-more : (new : Label) → ends (get_or roles n d).2 ≡ true → new.width ≡ row.width
      → ((k : ℕ) → has new.words k ≡ (nat_eq k (get_or roles n d).1 || has row.words k)) → HasStarts size ends (take (n + 1) roles) new
  starts-more new is w with = record {
    width = w ∙ h.width;
    bits = λ k. with k ∙ or-comm (nat_eq k (get_or roles n d).1) (has row.words k)
        ∙ ap (λ b. b || nat_eq k (get_or roles n d).1) (h.bits k)
        ∙ ap (λ b. list_any (λ (t : ℕ × ℕ × ℕ). nat_eq t.1 k && ends t.2) (take n roles) || b)
        (eqb-comm k (get_or roles n d).1 ∙ sym (and-true (nat_eq (get_or roles n d).1 k)) ∙ ap (λ b. nat_eq (get_or roles n d).1 k && b) (sym is))
        ∙ sym (list_any_more (λ (t : ℕ × ℕ × ℕ). nat_eq t.1 k && ends t.2) roles n d lt);
  }

  pub starts-skip : ends (get_or roles n d).2 ≡ false → HasStarts size ends (take (n + 1) roles) row
  starts-skip is = record {
    width = h.width;
    bits = λ k. h.bits k ∙ or-comm false (list_any (λ (t : ℕ × ℕ × ℕ). nat_eq t.1 k && ends t.2) (take n roles))
        ∙ ap (λ b. list_any (λ (t : ℕ × ℕ × ℕ). nat_eq t.1 k && ends t.2) (take n roles) || b) (sym (and_right (nat_eq (get_or roles n d).1 k) (ends (get_or roles n d).2) is))
        ∙ sym (list_any_more (λ (t : ℕ × ℕ × ℕ). nat_eq t.1 k && ends t.2) roles n d lt);
  }

pub starts-end : (size r : ℕ) (ends : ℕ → Bool) (roles group : List (ℕ × ℕ × ℕ)) (row : Label) → All (λ t. (t.1 < size) × (t.2 < size)) roles → group ≡ filter (λ t. nat_eq t.0 r) roles
    → HasStarts size ends group row → IsExtension size (some_along roles r ends) row
starts-end size r ends roles group row shaped e h = record {
  width = h.width;
  bits = λ k. h.bits k ∙ ap (list_any (λ (t : ℕ × ℕ × ℕ). nat_eq t.1 k && ends t.2)) e
      ∙ any-filter (λ t. nat_eq t.0 r) (λ (t : ℕ × ℕ × ℕ). nat_eq t.1 k && ends t.2) roles
      ∙ regroup k roles
      ∙ bounded size k (some_along roles r ends k) (none_starts r k size ends roles shaped);
}
  where
    regroup : (k : ℕ) (ts : List (ℕ × ℕ × ℕ)) → list_any (λ (t : ℕ × ℕ × ℕ). nat_eq t.0 r && (nat_eq t.1 k && ends t.2)) ts ≡ some_along ts r ends k
    regroup k [] = refl
    regroup k (t ∷ ts) = ap (λ b. b || list_any (λ (s : ℕ × ℕ × ℕ). nat_eq s.0 r && (nat_eq s.1 k && ends s.2)) ts) (sym (and-assoc (nat_eq t.0 r) (nat_eq t.1 k) (ends t.2)))
        ∙ ap (λ b. ((nat_eq t.0 r && nat_eq t.1 k) && ends t.2) || b) (regroup k ts)
