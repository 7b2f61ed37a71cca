-- Where a list goes by symbols, the items of one symbol are those between two places.
use Rattle.std.proofs.Common.{◌≡◌, ◌∙◌, ℕ, ◌+◌, ◌<◌, ◌≤◌, Bool, true, false, nat_eq, nat_lt, leb, List, [], ◌∷◌, ◌++◌, length, get_or, take, drop, filter, cond, ap, refl, sym, arith}
use Rattle.std.specs.List.{All}
use Rattle.std.specs.List.Sorted.{IsPartitionPoint}
use Rattle.std.proofs.lemmas.Bool.{eq-eqb, ne_eqb, ltb-true, ltb-false, leb-true, leb-false}
use Rattle.std.proofs.lemmas.List.{take-append-drop, get_or-take, get_or-drop, append-nil, length-take, length-drop}
use Rattle.std.proofs.lemmas.List.Elements.{filter-append, All-head, All-tail}

module _ {X : Type 0} (p : X → Bool) where
  filter_none : (xs : List X) → All (λ x. p x ≡ false) xs → filter p xs ≡ []
  filter_none [] h = refl
  filter_none (x ∷ xs) h = ap (λ b. cond b (x ∷ filter p xs) (filter p xs)) (All-head (λ y. p y ≡ false) x xs h) ∙ filter_none xs (All-tail (λ y. p y ≡ false) x xs h)

  filter_each : (xs : List X) → All (λ x. p x ≡ true) xs → filter p xs ≡ xs
  filter_each [] h = refl
  filter_each (x ∷ xs) h = ap (λ b. cond b (x ∷ filter p xs) (filter p xs)) (All-head (λ y. p y ≡ true) x xs h) ∙ ap (λ l. x ∷ l) (filter_each xs (All-tail (λ y. p y ≡ true) x xs h))

  -- what passes stands between two places
  between : (xs : List X) (low count : ℕ) → All (λ x. p x ≡ false) (take low xs) → All (λ x. p x ≡ true) (take count (drop low xs))
      → All (λ x. p x ≡ false) (drop count (drop low xs)) → take count (drop low xs) ≡ filter p xs
  between xs low count before within after =
      let rest : List X = drop low xs in
      sym (filter_each (take count rest) within)
      ∙ sym (append-nil (filter p (take count rest)))
      ∙ ap (λ l. filter p (take count rest) ++ l) (sym (filter_none (drop count rest) after))
      ∙ sym (filter-append p (take count rest) (drop count rest))
      ∙ ap (filter p) (take-append-drop count rest)
      ∙ ap (λ l. l ++ filter p rest) (sym (filter_none (take low xs) before))
      ∙ sym (filter-append p (take low xs) rest)
      ∙ ap (filter p) (take-append-drop low xs)

module _ {X : Type 0} (key : X → ℕ) (a : ℕ) where
  pub symbol_between : (xs : List X) (low count : ℕ) → low ≤ length xs → count ≤ length (drop low xs)
      → IsPartitionPoint (λ x. nat_lt (key x) a ≡ true) (λ x. nat_lt (key x) a ≡ false) xs low
      → IsPartitionPoint (λ x. leb (key x) a ≡ true) (λ x. leb (key x) a ≡ false) (drop low xs) count
      → take count (drop low xs) ≡ filter (λ x. nat_eq (key x) a) xs
  symbol_between xs low count fits fits_rest first second =
      let rest : List X = drop low xs in
      between (λ x. nat_eq (key x) a) xs low count
      (λ k d lt.
      let long = length-take low xs in
      let e : get_or (take low xs) k d ≡ get_or xs k d = get_or-take low xs k d (omega (arith, lt, long)) in
      let less : key (get_or xs k d) < a = ltb-true (key (get_or xs k d)) a (first.0 k d (omega arith) (omega (arith, lt, long))) in
      ap (λ x. nat_eq (key x) a) e ∙ ne_eqb (key (get_or xs k d)) a (λ q. absurd (omega (arith, q, less))))
      (λ k d lt.
      let long = length-take count rest in
      let e : get_or (take count rest) k d ≡ get_or rest k d = get_or-take count rest k d (omega (arith, lt, long)) in
      let f : get_or rest k d ≡ get_or xs (low + k) d = get_or-drop low xs k d in
      let most : key (get_or rest k d) ≤ a = leb-true (key (get_or rest k d)) a (second.0 k d (omega arith) (omega (arith, lt, long))) in
      let within : low + k < length xs = omega (arith, lt, long, fits_rest, length-drop low xs) in
      let least : a ≤ key (get_or xs (low + k) d) = ltb-false (key (get_or xs (low + k) d)) a (first.1 (low + k) d (omega arith) within) in
      let same : key (get_or rest k d) ≡ key (get_or xs (low + k) d) = ap key f in
      ap (λ x. nat_eq (key x) a) e ∙ eq-eqb (key (get_or rest k d)) a (omega (arith, most, least, same)))
      (λ k d lt.
      let long = length-drop count rest in
      let e : get_or (drop count rest) k d ≡ get_or rest (count + k) d = get_or-drop count rest k d in
      let more : a < key (get_or rest (count + k) d) = leb-false (key (get_or rest (count + k) d)) a (second.1 (count + k) d (omega arith) (omega (arith, lt, long))) in
      ap (λ x. nat_eq (key x) a) e ∙ ne_eqb (key (get_or rest (count + k) d)) a (λ q. absurd (omega (arith, q, more))))
