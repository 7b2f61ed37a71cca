-- A concept has its symbols where all its names and roles are low numbers.
use Rattle.std.proofs.Common.{◌≡◌, ◌∙◌, ◌⊎◌, ℕ, Bool, true, false, ◌&&◌, ◌==◌, nat_lt, List, [], ◌∷◌, ◌++◌, length, ap, refl, subst, sym, inl, inr}
use Rattle.std.proofs.lemmas.Bool.{and_from, and_parts, eq-eqb, eqb-true, false≢true, or_cases, or_left, or_right}
use Rattle.dd_concept.specs.declared.concept.Concept.{Concept}
use Rattle.dd_concept.specs.Names.{names_in, names_in_at, roles_in, roles_in_at}
use Rattle.dd_concept.proofs.Folds.{fold-Top, fold-Bottom, fold-Name, fold-Not, fold-And, fold-Or, fold-HasSome, fold-HasAll}
use Rattle.dd_concept.proofs.Induction.{induct}
use Rattle.dd_task.specs.Keys.{is_among}
use Rattle.dd_text.specs.Symbols.{SymbolLists}
use Rattle.dd_text.specs.Text.{has_symbols, has_symbols_at}

-- all of these numbers are below n
abbrev pub AreLow : ℕ → List ℕ → Type 0
AreLow n xs = (a : ℕ) → is_among xs a ≡ true → nat_lt a n ≡ true

module _ (n : ℕ) where
  low-nil : AreLow n []
  low-nil a h = absurd (false≢true h)

  low-cons : (x : ℕ) (xs : List ℕ) → nat_lt x n ≡ true → AreLow n xs → AreLow n (x ∷ xs)
  low-cons x xs lt rest a h = elim (or_cases (x == a) (is_among xs a) h) [
    | inl e ↦ subst (λ m. nat_lt m n ≡ true) (eqb-true x a e) lt
    | inr g ↦ rest a g
  ]

  low-head : (x : ℕ) (xs : List ℕ) → AreLow n (x ∷ xs) → nat_lt x n ≡ true
  low-head x xs h = h x (or_left (x == x) (is_among xs x) (eq-eqb x x refl))

  low-tail : (x : ℕ) (xs : List ℕ) → AreLow n (x ∷ xs) → AreLow n xs
  low-tail x xs h a g = h a (or_right (x == a) (is_among xs a) g)

  low-append : (xs ys : List ℕ) → AreLow n xs → AreLow n ys → AreLow n (xs ++ ys)
  low-append [] ys h k = k
  low-append (x ∷ xs) ys h k = low-cons x (xs ++ ys) (low-head x xs h) (low-append xs ys (low-tail x xs h) k)

  low-left : (xs ys : List ℕ) → AreLow n (xs ++ ys) → AreLow n xs
  low-left [] ys h = low-nil
  low-left (x ∷ xs) ys h = low-cons x xs (low-head x (xs ++ ys) h) (low-left xs ys (low-tail x (xs ++ ys) h))

  low-right : (xs ys : List ℕ) → AreLow n (xs ++ ys) → AreLow n ys
  low-right [] ys h = h
  low-right (x ∷ xs) ys h = low-right xs ys (low-tail x (xs ++ ys) h)

module _ (s : SymbolLists) where
  abbrev names : ℕ
  names = length s.names

  abbrev roles : ℕ
  roles = length s.roles

  -- the names and the roles of the concept are low
  abbrev pub IsLow : Concept → Type 0
  IsLow c = AreLow names (names_in c) × AreLow roles (roles_in c)

  as_low : (c : Concept) (ns rs : List ℕ) → names_in c ≡ ns → roles_in c ≡ rs → AreLow names ns → AreLow roles rs → IsLow c
  as_low c ns rs en er hn hr = (subst (AreLow names) (sym en) hn, subst (AreLow roles) (sym er) hr)

  pub has-low : (c : Concept) → has_symbols s c ≡ true → IsLow c
  has-low = induct (λ c. has_symbols s c ≡ true → IsLow c) (record {
    top = λ h. as_low _ [] [] (fold-Top (List ℕ) names_in_at) (fold-Top (List ℕ) roles_in_at) (low-nil names) (low-nil roles);
    bottom = λ h. as_low _ [] [] (fold-Bottom (List ℕ) names_in_at) (fold-Bottom (List ℕ) roles_in_at) (low-nil names) (low-nil roles);
    name = λ a h. as_low _ (a ∷ []) [] (fold-Name (List ℕ) names_in_at a) (fold-Name (List ℕ) roles_in_at a)
        (low-cons names a [] (sym (fold-Name Bool (has_symbols_at s) a) ∙ h) (low-nil names)) (low-nil roles);
    not = λ c k h.
        let b = k (sym (fold-Not Bool (has_symbols_at s) c) ∙ h) in
        as_low _ (names_in c) (roles_in c) (fold-Not (List ℕ) names_in_at c) (fold-Not (List ℕ) roles_in_at c) b.0 b.1;
    and = λ c d k m h.
        let both = and_parts (has_symbols s c) (has_symbols s d) (sym (fold-And Bool (has_symbols_at s) c d) ∙ h) in
        let b = k both.0 in
        let e = m both.1 in
        as_low _ (names_in c ++ names_in d) (roles_in c ++ roles_in d) (fold-And (List ℕ) names_in_at c d) (fold-And (List ℕ) roles_in_at c d)
        (low-append names (names_in c) (names_in d) b.0 e.0) (low-append roles (roles_in c) (roles_in d) b.1 e.1);
    or = λ c d k m h.
        let both = and_parts (has_symbols s c) (has_symbols s d) (sym (fold-Or Bool (has_symbols_at s) c d) ∙ h) in
        let b = k both.0 in
        let e = m both.1 in
        as_low _ (names_in c ++ names_in d) (roles_in c ++ roles_in d) (fold-Or (List ℕ) names_in_at c d) (fold-Or (List ℕ) roles_in_at c d)
        (low-append names (names_in c) (names_in d) b.0 e.0) (low-append roles (roles_in c) (roles_in d) b.1 e.1);
    has_some = λ r c k h.
        let both = and_parts (nat_lt r roles) (has_symbols s c) (sym (fold-HasSome Bool (has_symbols_at s) r c) ∙ h) in
        let b = k both.1 in
        as_low _ (names_in c) (r ∷ roles_in c) (fold-HasSome (List ℕ) names_in_at r c) (fold-HasSome (List ℕ) roles_in_at r c) b.0 (low-cons roles r (roles_in c) both.0 b.1);
    has_all = λ r c k h.
        let both = and_parts (nat_lt r roles) (has_symbols s c) (sym (fold-HasAll Bool (has_symbols_at s) r c) ∙ h) in
        let b = k both.1 in
        as_low _ (names_in c) (r ∷ roles_in c) (fold-HasAll (List ℕ) names_in_at r c) (fold-HasAll (List ℕ) roles_in_at r c) b.0 (low-cons roles r (roles_in c) both.0 b.1);
  })

  of_low : (c : Concept) (ns rs : List ℕ) → names_in c ≡ ns → roles_in c ≡ rs → IsLow c → AreLow names ns × AreLow roles rs
  of_low c ns rs en er h = (subst (AreLow names) en h.0, subst (AreLow roles) er h.1)

  pub low-has : (c : Concept) → IsLow c → has_symbols s c ≡ true
  low-has = induct (λ c. IsLow c → has_symbols s c ≡ true) (record {
    top = λ h. fold-Top Bool (has_symbols_at s);
    bottom = λ h. fold-Bottom Bool (has_symbols_at s);
    name = λ a h.
        let low = of_low _ (a ∷ []) [] (fold-Name (List ℕ) names_in_at a) (fold-Name (List ℕ) roles_in_at a) h in
        fold-Name Bool (has_symbols_at s) a ∙ low-head names a [] low.0;
    not = λ c k h. fold-Not Bool (has_symbols_at s) c ∙ k (of_low _ (names_in c) (roles_in c) (fold-Not (List ℕ) names_in_at c) (fold-Not (List ℕ) roles_in_at c) h);
    and = λ c d k m h.
        let low = of_low _ (names_in c ++ names_in d) (roles_in c ++ roles_in d) (fold-And (List ℕ) names_in_at c d) (fold-And (List ℕ) roles_in_at c d) h in
        fold-And Bool (has_symbols_at s) c d ∙ and_from (has_symbols s c) (has_symbols s d)
        (k (low-left names (names_in c) (names_in d) low.0, low-left roles (roles_in c) (roles_in d) low.1))
        (m (low-right names (names_in c) (names_in d) low.0, low-right roles (roles_in c) (roles_in d) low.1));
    or = λ c d k m h.
        let low = of_low _ (names_in c ++ names_in d) (roles_in c ++ roles_in d) (fold-Or (List ℕ) names_in_at c d) (fold-Or (List ℕ) roles_in_at c d) h in
        fold-Or Bool (has_symbols_at s) c d ∙ and_from (has_symbols s c) (has_symbols s d)
        (k (low-left names (names_in c) (names_in d) low.0, low-left roles (roles_in c) (roles_in d) low.1))
        (m (low-right names (names_in c) (names_in d) low.0, low-right roles (roles_in c) (roles_in d) low.1));
    has_some = λ r c k h.
        let low = of_low _ (names_in c) (r ∷ roles_in c) (fold-HasSome (List ℕ) names_in_at r c) (fold-HasSome (List ℕ) roles_in_at r c) h in
        fold-HasSome Bool (has_symbols_at s) r c ∙ and_from (nat_lt r roles) (has_symbols s c) (low-head roles r (roles_in c) low.1) (k (low.0, low-tail roles r (roles_in c) low.1));
    has_all = λ r c k h.
        let low = of_low _ (names_in c) (r ∷ roles_in c) (fold-HasAll (List ℕ) names_in_at r c) (fold-HasAll (List ℕ) roles_in_at r c) h in
        fold-HasAll Bool (has_symbols_at s) r c ∙ and_from (nat_lt r roles) (has_symbols s c) (low-head roles r (roles_in c) low.1) (k (low.0, low-tail roles r (roles_in c) low.1));
  })
