-- In a disjoint union each element keeps what it has.
use Rattle.std.proofs.Common.{◌≡◌, ◌∙◌, ℕ, ◌+◌, ◌<◌, ◌≤◌, Bool, true, false, not, ◌&&◌, ◌||◌, nat_eq, List, [], ◌∷◌, ◌++◌, map, ap, refl, sym, inl, inr, arith}
use Rattle.std.specs.List.{All}
use Rattle.std.proofs.lemmas.Bool.{ne_eqb, eq-eqb, cases_eq, and_left, and_right, or_from}
use Rattle.std.proofs.lemmas.List.Elements.{All-head, All-tail, All-append, All-map, All-weaker}
use Rattle.std.proofs.lemmas.List.Folds.{list_any-append}
use Rattle.dd_concept.specs.declared.concept.Concept.{Concept}
use Rattle.dd_concept.specs.declared.concept.Concept.TheVariants.{HasAll}
use Rattle.dd_concept.proofs.Induction.{induct}
use Rattle.dd_interp.specs.declared.interp.Interp.{Interp}
use Rattle.dd_interp.specs.Meaning.{in_name, some_along, meaning}
use Rattle.dd_interp.specs.Satisfies.{IsShaped}
use Rattle.dd_interp.specs.Union.{raise_name, raise_role, union_of, KeepsEach}
use Rattle.dd_interp.proofs.Meanings.{meaning-Top, meaning-Bottom, meaning-Name, meaning-Not, meaning-And, meaning-Or, meaning-HasSome, meaning-HasAll}
use Rattle.dd_interp.proofs.Quantifiers.{all_along-not}

eqb-raised : (a b n : ℕ) → nat_eq (a + n) (b + n) ≡ nat_eq a b
eqb-raised a b n = elim (cases_eq a b) [
  | inl e ↦ eq-eqb (a + n) (b + n) (omega (arith, e)) ∙ sym (eq-eqb a b e)
  | inr e ↦ ne_eqb (a + n) (b + n) (λ q. e (omega (arith, q))) ∙ sym (ne_eqb a b e)
]

-- a list whose first item is no hit, and whose rest has none, has none
no_hit : (a k v w : Bool) → k ≡ false → w ≡ false → (((a && k) && v) || w) ≡ false
no_hit a k v w e f = or_from ((a && k) && v) w (and_left (a && k) v (and_right a k e)) f

or-false : (a b : Bool) → b ≡ false → (a || b) ≡ a
or-false true b e = refl
or-false false b e = e

module _ (a : ℕ) where
  in_name-beyond : (n x : ℕ) (names : List (ℕ × ℕ)) → All (λ p. p.1 < n) names → n ≤ x → in_name names a x ≡ false
  in_name-beyond n x [] h le = refl
  in_name-beyond n x (p ∷ ps) h le =
      let lt : p.1 < n = All-head (λ (q : ℕ × ℕ). q.1 < n) p ps h in
      or_from (nat_eq p.0 a && nat_eq p.1 x) (in_name ps a x)
      (and_right (nat_eq p.0 a) (nat_eq p.1 x) (ne_eqb p.1 x (λ q. absurd (omega (arith, q, lt, le)))))
      (in_name-beyond n x ps (All-tail (λ (q : ℕ × ℕ). q.1 < n) p ps h) le)

  in_name-before : (n x : ℕ) (names : List (ℕ × ℕ)) → x < n → in_name (map (raise_name n) names) a x ≡ false
  in_name-before n x [] lt = refl
  in_name-before n x (p ∷ ps) lt =
      or_from (nat_eq p.0 a && nat_eq (p.1 + n) x) (in_name (map (raise_name n) ps) a x)
      (and_right (nat_eq p.0 a) (nat_eq (p.1 + n) x) (ne_eqb (p.1 + n) x (λ q. absurd (omega (arith, q, lt)))))
      (in_name-before n x ps lt)

  in_name-raised : (n x : ℕ) (names : List (ℕ × ℕ)) → in_name (map (raise_name n) names) a (x + n) ≡ in_name names a x
  in_name-raised n x [] = refl
  in_name-raised n x (p ∷ ps) =
      ap (λ v. (nat_eq p.0 a && v) || in_name (map (raise_name n) ps) a (x + n)) (eqb-raised p.1 x n)
      ∙ ap (λ v. (nat_eq p.0 a && nat_eq p.1 x) || v) (in_name-raised n x ps)

  in_name-append : (x : ℕ) (names more : List (ℕ × ℕ)) → in_name (names ++ more) a x ≡ (in_name names a x || in_name more a x)
  in_name-append x names more = list_any-append (λ p. nat_eq p.0 a && nat_eq p.1 x) names more

  in_name-lower : (n x : ℕ) (names more : List (ℕ × ℕ)) → x < n → in_name (names ++ map (raise_name n) more) a x ≡ in_name names a x
  in_name-lower n x names more lt = in_name-append x names (map (raise_name n) more)
      ∙ or-false (in_name names a x) (in_name (map (raise_name n) more) a x) (in_name-before n x more lt)

  in_name-upper : (n x : ℕ) (names more : List (ℕ × ℕ)) → All (λ p. p.1 < n) names
      → in_name (names ++ map (raise_name n) more) a (x + n) ≡ in_name more a x
  in_name-upper n x names more h = in_name-append (x + n) names (map (raise_name n) more)
      ∙ ap (λ v. v || in_name (map (raise_name n) more) a (x + n)) (in_name-beyond n (x + n) names h (omega arith))
      ∙ in_name-raised n x more

module _ (r : ℕ) (c : ℕ → Bool) where
  some_along-beyond : (n x : ℕ) (roles : List (ℕ × ℕ × ℕ)) → All (λ t. t.1 < n) roles → n ≤ x → some_along roles r c x ≡ false
  some_along-beyond n x [] h le = refl
  some_along-beyond n x (t ∷ ts) h le =
      let lt : t.1 < n = All-head (λ (s : ℕ × ℕ × ℕ). s.1 < n) t ts h in
      no_hit (nat_eq t.0 r) (nat_eq t.1 x) (c t.2) (some_along ts r c x) (ne_eqb t.1 x (λ q. absurd (omega (arith, q, lt, le))))
      (some_along-beyond n x ts (All-tail (λ (s : ℕ × ℕ × ℕ). s.1 < n) t ts h) le)

  some_along-before : (n x : ℕ) (roles : List (ℕ × ℕ × ℕ)) → x < n → some_along (map (raise_role n) roles) r c x ≡ false
  some_along-before n x [] lt = refl
  some_along-before n x (t ∷ ts) lt =
      no_hit (nat_eq t.0 r) (nat_eq (t.1 + n) x) (c (t.2 + n)) (some_along (map (raise_role n) ts) r c x)
      (ne_eqb (t.1 + n) x (λ q. absurd (omega (arith, q, lt)))) (some_along-before n x ts lt)

  some_along-raised : (n x : ℕ) (roles : List (ℕ × ℕ × ℕ))
      → some_along (map (raise_role n) roles) r c (x + n) ≡ some_along roles r (λ y. c (y + n)) x
  some_along-raised n x [] = refl
  some_along-raised n x (t ∷ ts) =
      ap (λ v. ((nat_eq t.0 r && v) && c (t.2 + n)) || some_along (map (raise_role n) ts) r c (x + n)) (eqb-raised t.1 x n)
      ∙ ap (λ v. ((nat_eq t.0 r && nat_eq t.1 x) && c (t.2 + n)) || v) (some_along-raised n x ts)

  some_along-append : (x : ℕ) (roles more : List (ℕ × ℕ × ℕ))
      → some_along (roles ++ more) r c x ≡ (some_along roles r c x || some_along more r c x)
  some_along-append x roles more = list_any-append (λ t. (nat_eq t.0 r && nat_eq t.1 x) && c t.2) roles more

-- two tests that agree below the size
pub some_along-within : (r n x : ℕ) (c d : ℕ → Bool) → ((y : ℕ) → y < n → c y ≡ d y) → (roles : List (ℕ × ℕ × ℕ)) → All (λ t. t.2 < n) roles
    → some_along roles r c x ≡ some_along roles r d x
some_along-within r n x c d h [] k = refl
some_along-within r n x c d h (t ∷ ts) k =
    ap (λ v. ((nat_eq t.0 r && nat_eq t.1 x) && v) || some_along ts r c x) (h t.2 (All-head (λ (s : ℕ × ℕ × ℕ). s.2 < n) t ts k))
    ∙ ap (λ v. ((nat_eq t.0 r && nat_eq t.1 x) && d t.2) || v)
    (some_along-within r n x c d h ts (All-tail (λ (s : ℕ × ℕ × ℕ). s.2 < n) t ts k))

some_along-lower : (r n x : ℕ) (c d : ℕ → Bool) → ((y : ℕ) → y < n → c y ≡ d y) → (roles more : List (ℕ × ℕ × ℕ)) → All (λ t. t.2 < n) roles
    → x < n → some_along (roles ++ map (raise_role n) more) r c x ≡ some_along roles r d x
some_along-lower r n x c d h roles more k lt = some_along-append r c x roles (map (raise_role n) more)
    ∙ or-false (some_along roles r c x) (some_along (map (raise_role n) more) r c x) (some_along-before r c n x more lt)
    ∙ some_along-within r n x c d h roles k

some_along-upper : (r n m x : ℕ) (c d : ℕ → Bool) → ((y : ℕ) → y < m → c (y + n) ≡ d y) → (roles more : List (ℕ × ℕ × ℕ))
    → All (λ t. t.1 < n) roles → All (λ t. t.2 < m) more → some_along (roles ++ map (raise_role n) more) r c (x + n) ≡ some_along more r d x
some_along-upper r n m x c d h roles more k l = some_along-append r c (x + n) roles (map (raise_role n) more)
    ∙ ap (λ v. v || some_along (map (raise_role n) more) r c (x + n)) (some_along-beyond r c n (x + n) roles k (omega arith))
    ∙ some_along-raised r c n x more
    ∙ some_along-within r m x (λ y. c (y + n)) d h more l

-- the ends of the pairs of a shaped interpretation
shaped_starts : (i : Interp) → IsShaped i → All (λ t. t.1 < i.size) i.roles
shaped_starts i h = All-weaker (λ t. (t.1 < i.size) × (t.2 < i.size)) (λ t. t.1 < i.size) (λ t k. k.0) i.roles h.roles

shaped_ends : (i : Interp) → IsShaped i → All (λ t. t.2 < i.size) i.roles
shaped_ends i h = All-weaker (λ t. (t.1 < i.size) × (t.2 < i.size)) (λ t. t.2 < i.size) (λ t k. k.1) i.roles h.roles

module _ (i j : Interp) (h : IsShaped i) (k : IsShaped j) where
  Lower : Concept → Type 0
  Lower c = (x : ℕ) → x < i.size → meaning (union_of i j) c x ≡ meaning i c x

  lower_all : (r : ℕ) (c : Concept) → Lower c → Lower (HasAll r c)
  unfolding Lower
  lower_all r c e x lt = meaning-HasAll (union_of i j) r c x ∙ all_along-not r (meaning (union_of i j) c) x (union_of i j).roles
      ∙ ap not (some_along-lower r i.size x (λ y. not (meaning (union_of i j) c y)) (λ y. not (meaning i c y))
      (λ y l. ap not (e y l)) i.roles j.roles (shaped_ends i h) lt)
      ∙ sym (all_along-not r (meaning i c) x i.roles) ∙ sym (meaning-HasAll i r c x)

  lower_each : (c : Concept) → Lower c
  unfolding Lower
  lower_each = induct Lower (record {
    top = λ x lt. meaning-Top (union_of i j) x ∙ sym (meaning-Top i x);
    bottom = λ x lt. meaning-Bottom (union_of i j) x ∙ sym (meaning-Bottom i x);
    name = λ a x lt. meaning-Name (union_of i j) a x ∙ in_name-lower a i.size x i.names j.names lt ∙ sym (meaning-Name i a x);
    not = λ c e x lt. meaning-Not (union_of i j) c x ∙ ap not (e x lt) ∙ sym (meaning-Not i c x);
    and = λ c d e f x lt. meaning-And (union_of i j) c d x ∙ ap (λ v. v && meaning (union_of i j) d x) (e x lt)
        ∙ ap (λ v. meaning i c x && v) (f x lt) ∙ sym (meaning-And i c d x);
    or = λ c d e f x lt. meaning-Or (union_of i j) c d x ∙ ap (λ v. v || meaning (union_of i j) d x) (e x lt)
        ∙ ap (λ v. meaning i c x || v) (f x lt) ∙ sym (meaning-Or i c d x);
    has_some = λ r c e x lt. meaning-HasSome (union_of i j) r c x
        ∙ some_along-lower r i.size x (meaning (union_of i j) c) (meaning i c) e i.roles j.roles (shaped_ends i h) lt
        ∙ sym (meaning-HasSome i r c x);
    has_all = lower_all;
  })

  Upper : Concept → Type 0
  Upper c = (x : ℕ) → x < j.size → meaning (union_of i j) c (x + i.size) ≡ meaning j c x

  upper_all : (r : ℕ) (c : Concept) → Upper c → Upper (HasAll r c)
  unfolding Upper
  upper_all r c e x lt = meaning-HasAll (union_of i j) r c (x + i.size)
      ∙ all_along-not r (meaning (union_of i j) c) (x + i.size) (union_of i j).roles
      ∙ ap not (some_along-upper r i.size j.size x (λ y. not (meaning (union_of i j) c y)) (λ y. not (meaning j c y))
      (λ y l. ap not (e y l)) i.roles j.roles (shaped_starts i h) (shaped_ends j k))
      ∙ sym (all_along-not r (meaning j c) x j.roles) ∙ sym (meaning-HasAll j r c x)

  upper_each : (c : Concept) → Upper c
  unfolding Upper
  upper_each = induct Upper (record {
    top = λ x lt. meaning-Top (union_of i j) (x + i.size) ∙ sym (meaning-Top j x);
    bottom = λ x lt. meaning-Bottom (union_of i j) (x + i.size) ∙ sym (meaning-Bottom j x);
    name = λ a x lt. meaning-Name (union_of i j) a (x + i.size) ∙ in_name-upper a i.size x i.names j.names h.names ∙ sym (meaning-Name j a x);
    not = λ c e x lt. meaning-Not (union_of i j) c (x + i.size) ∙ ap not (e x lt) ∙ sym (meaning-Not j c x);
    and = λ c d e f x lt. meaning-And (union_of i j) c d (x + i.size) ∙ ap (λ v. v && meaning (union_of i j) d (x + i.size)) (e x lt)
        ∙ ap (λ v. meaning j c x && v) (f x lt) ∙ sym (meaning-And j c d x);
    or = λ c d e f x lt. meaning-Or (union_of i j) c d (x + i.size) ∙ ap (λ v. v || meaning (union_of i j) d (x + i.size)) (e x lt)
        ∙ ap (λ v. meaning j c x || v) (f x lt) ∙ sym (meaning-Or j c d x);
    has_some = λ r c e x lt. meaning-HasSome (union_of i j) r c (x + i.size)
        ∙ some_along-upper r i.size j.size x (meaning (union_of i j) c) (meaning j c) e i.roles j.roles (shaped_starts i h) (shaped_ends j k)
        ∙ sym (meaning-HasSome j r c x);
    has_all = upper_all;
  })

  pub union_keeps_each : KeepsEach i j (union_of i j)
  unfolding Lower Upper
  union_keeps_each = record { lower = lower_each; upper = upper_each }

  -- a disjoint union is shaped where its parts are
  pub union_is_shaped : IsShaped (union_of i j)
  union_is_shaped = record {
    names = All-append (λ p. p.1 < i.size + j.size) i.names (map (raise_name i.size) j.names)
        (All-weaker (λ p. p.1 < i.size) (λ p. p.1 < i.size + j.size) (λ p l. omega (arith, l)) i.names h.names)
        (All-map (λ p. p.1 < i.size + j.size) (raise_name i.size) j.names
        (All-weaker (λ p. p.1 < j.size) (λ p. p.1 + i.size < i.size + j.size) (λ p l. omega (arith, l)) j.names k.names));
    roles = All-append (λ t. (t.1 < i.size + j.size) × (t.2 < i.size + j.size)) i.roles (map (raise_role i.size) j.roles)
        (All-weaker (λ t. (t.1 < i.size) × (t.2 < i.size)) (λ t. (t.1 < i.size + j.size) × (t.2 < i.size + j.size))
        (λ t l. (omega (arith, l.0), omega (arith, l.1))) i.roles h.roles)
        (All-map (λ t. (t.1 < i.size + j.size) × (t.2 < i.size + j.size)) (raise_role i.size) j.roles
        (All-weaker (λ t. (t.1 < j.size) × (t.2 < j.size)) (λ t. (t.1 + i.size < i.size + j.size) × (t.2 + i.size < i.size + j.size))
        (λ t l. (omega (arith, l.0), omega (arith, l.1))) j.roles k.roles));
  }

-- the union, where its lists are made apart
pub united : (i j : Interp) (names : List (ℕ × ℕ)) (roles : List (ℕ × ℕ × ℕ)) → names ≡ map (raise_name i.size) j.names
    → roles ≡ map (raise_role i.size) j.roles
    → record { size = i.size + j.size; names = i.names ++ names; roles = i.roles ++ roles } ≡ union_of i j
united i j names roles e f =
    let with_names : List (ℕ × ℕ) → Interp = λ v. record { size = i.size + j.size; names = i.names ++ v; roles = i.roles ++ roles } in
    let with_roles : List (ℕ × ℕ × ℕ) → Interp = λ v. record { size = i.size + j.size; names = i.names ++ map (raise_name i.size) j.names; roles = i.roles ++ v } in
    ap with_names e ∙ ap with_roles f
