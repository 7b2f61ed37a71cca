-- The elements that are mentioned, and what the list of those that are seen has.
use Rattle.std.proofs.Common.{◌≡◌, ◌∙◌, ℕ, zero, suc, ◌+◌, ◌-◌, ◌<◌, ◌≤◌, ◌^◌, Bool, true, false, ◌||◌, nat_eq, cond, List, [], ◌∷◌, ◌++◌, length, get_or, take, ap, refl, subst, sym, inl, inr, arith, append_assoc}
use Rattle.std.specs.List.{All, flat_map}
use Rattle.std.proofs.lemmas.Bool.{cases_lt, cases_eq, eq-eqb, false≢true, or_left, or_right, or_cases, eqb-true}
use Rattle.std.proofs.lemmas.List.{take_more, append-nil, length-append, get_or_append_left, get_or-append_right}
use Rattle.std.proofs.lemmas.List.Elements.{All-head, All-tail, All-append, All-nil}
use Rattle.std.proofs.lemmas.List.Folds.{list_any-append}
use Rattle.std.proofs.lemmas.Grind.{flat_map-append}
use Rattle.dd_interp.specs.declared.interp.Interp.{Interp}
use Rattle.dd_interp.specs.Places.{is_listed, HaveSame}
use Rattle.dd_interp.specs.Satisfies.{IsShaped}
use Rattle.dd_interp.proofs.RisingLists.{listed-at, not_listed, rising-push, rising-le}
use Rattle.dd_set.specs.Sets.{IsRising}
use Rattle.dd_world.specs.Mentions.{link_ends, mentions_of, IsGap, HasOther, AreSeen}

-- ---- what a list of pieces has

-- a loop's step: the piece of the next item
pub pieces_more : {X : Type 0} (f : X → List ℕ) (start now new : List ℕ) (xs : List X) (n : ℕ) (d : X) → n < length xs → new ≡ now ++ f (get_or xs n d)
    → now ≡ start ++ flat_map f (take n xs) → new ≡ start ++ flat_map f (take (n + 1) xs)
pieces_more f start now new xs n d lt e h = e ∙ ap (λ l. l ++ f (get_or xs n d)) h ∙ append_assoc start (flat_map f (take n xs)) (f (get_or xs n d))
    ∙ ap (λ l. start ++ l) (ap (λ l. flat_map f (take n xs) ++ l) (sym (append-nil (f (get_or xs n d)))) ∙ sym (flat_map-append f (take n xs) (get_or xs n d ∷ []))
    ∙ ap (flat_map f) (sym (take_more xs n d lt)))

listed-left : (xs ys : List ℕ) (x : ℕ) → is_listed xs x ≡ true → is_listed (xs ++ ys) x ≡ true
listed-left xs ys x h = list_any-append (λ y. nat_eq y x) xs ys ∙ or_left (is_listed xs x) (is_listed ys x) h

listed-right : (xs ys : List ℕ) (x : ℕ) → is_listed ys x ≡ true → is_listed (xs ++ ys) x ≡ true
listed-right xs ys x h = list_any-append (λ y. nat_eq y x) xs ys ∙ or_right (is_listed xs x) (is_listed ys x) h

listed-piece : {X : Type 0} (f : X → List ℕ) (x : ℕ) (xs : List X) → All (λ y. Unit {0}) xs → (k : ℕ) (d : X) → k < length xs → is_listed (f (get_or xs k d)) x ≡ true → is_listed (flat_map f xs) x ≡ true
listed-piece f x [] u k d lt h = absurd (omega (arith, lt))
listed-piece f x (y ∷ ys) u zero d lt h = listed-left (f y) (flat_map f ys) x h
listed-piece f x (y ∷ ys) u (suc k) d lt h = listed-right (f y) (flat_map f ys) x (listed-piece f x ys (λ j e l. tt) k d (omega (arith, lt)) h)

below-pieces : {X : Type 0} (f : X → List ℕ) (n : ℕ) (xs : List X) → All (λ y. All (λ x. x < n) (f y)) xs → All (λ x. x < n) (flat_map f xs)
below-pieces f n [] h = All-nil (λ x. x < n)
below-pieces f n (y ∷ ys) h = All-append (λ x. x < n) (f y) (flat_map f ys) (All-head (λ z. All (λ x. x < n) (f z)) y ys h) (below-pieces f n ys (All-tail (λ z. All (λ x. x < n) (f z)) y ys h))

one_below : (n x : ℕ) → x < n → All (λ y. y < n) (x ∷ [])
one_below n x lt zero d less = lt
one_below n x lt (suc k) d less = absurd (omega (arith, less))

two_below : (n x y : ℕ) → x < n → y < n → All (λ z. z < n) (x ∷ y ∷ [])
two_below n x y lt le zero d less = lt
two_below n x y lt le (suc zero) d less = le
two_below n x y lt le (suc (suc k)) d less = absurd (omega (arith, less))

itself : (x : ℕ) → is_listed (x ∷ []) x ≡ true
itself x = ap (λ b. b || false) (eq-eqb x x refl)

first_of_two : (x y : ℕ) → is_listed (x ∷ y ∷ []) x ≡ true
first_of_two x y = or_left (nat_eq x x) (nat_eq y x || false) (eq-eqb x x refl)

second_of_two : (x y : ℕ) → is_listed (x ∷ y ∷ []) y ≡ true
second_of_two x y = or_right (nat_eq x y) (nat_eq y y || false) (or_left (nat_eq y y) false (eq-eqb y y refl))

kept : (b : Bool) (x : ℕ) → b ≡ true → is_listed (cond b (x ∷ []) []) x ≡ true
kept true x e = itself x
kept false x e = absurd (false≢true e)

kept_below : (n : ℕ) (b : Bool) (x : ℕ) → (b ≡ true → x < n) → All (λ y. y < n) (cond b (x ∷ []) [])
kept_below n true x h = one_below n x (h refl)
kept_below n false x h = All-nil (λ y. y < n)

module _ (j : ℕ) (i : Interp) (links : List (ℕ × ℕ × ℕ × ℕ)) where
  pub lists_name : (k : ℕ) (d : ℕ × ℕ) → k < length i.names → is_listed (mentions_of j i links) (get_or i.names k d).1 ≡ true
  lists_name k d lt = listed-left (flat_map (λ p. p.1 ∷ []) i.names ++ flat_map (λ t. t.1 ∷ t.2 ∷ []) i.roles) (flat_map (link_ends j) links) (get_or i.names k d).1
      (listed-left (flat_map (λ p. p.1 ∷ []) i.names) (flat_map (λ t. t.1 ∷ t.2 ∷ []) i.roles) (get_or i.names k d).1
      (listed-piece (λ p. p.1 ∷ []) (get_or i.names k d).1 i.names (λ m e l. tt) k d lt (itself (get_or i.names k d).1)))

  lists_role : (x k : ℕ) (d : ℕ × ℕ × ℕ) → k < length i.roles → is_listed ((get_or i.roles k d).1 ∷ (get_or i.roles k d).2 ∷ []) x ≡ true → is_listed (mentions_of j i links) x ≡ true
  lists_role x k d lt h = listed-left (flat_map (λ p. p.1 ∷ []) i.names ++ flat_map (λ t. t.1 ∷ t.2 ∷ []) i.roles) (flat_map (link_ends j) links) x
      (listed-right (flat_map (λ p. p.1 ∷ []) i.names) (flat_map (λ t. t.1 ∷ t.2 ∷ []) i.roles) x
      (listed-piece (λ t. t.1 ∷ t.2 ∷ []) x i.roles (λ m e l. tt) k d lt h))

  pub lists_start : (k : ℕ) (d : ℕ × ℕ × ℕ) → k < length i.roles → is_listed (mentions_of j i links) (get_or i.roles k d).1 ≡ true
  lists_start k d lt = lists_role (get_or i.roles k d).1 k d lt (first_of_two (get_or i.roles k d).1 (get_or i.roles k d).2)

  pub lists_end : (k : ℕ) (d : ℕ × ℕ × ℕ) → k < length i.roles → is_listed (mentions_of j i links) (get_or i.roles k d).2 ≡ true
  lists_end k d lt = lists_role (get_or i.roles k d).2 k d lt (second_of_two (get_or i.roles k d).1 (get_or i.roles k d).2)

  pub lists_from : (k : ℕ) (d : ℕ × ℕ × ℕ × ℕ) → k < length links → (get_or links k d).0 ≡ j → is_listed (mentions_of j i links) (get_or links k d).2 ≡ true
  lists_from k d lt e = let l : ℕ × ℕ × ℕ × ℕ = get_or links k d in
      listed-right (flat_map (λ p. p.1 ∷ []) i.names ++ flat_map (λ t. t.1 ∷ t.2 ∷ []) i.roles) (flat_map (link_ends j) links) l.2
      (listed-piece (link_ends j) l.2 links (λ m f q. tt) k d lt
      (listed-left (cond (nat_eq l.0 j) (l.2 ∷ []) []) (cond (nat_eq l.1 j) (l.3 ∷ []) []) l.2 (kept (nat_eq l.0 j) l.2 (eq-eqb l.0 j e))))

  pub lists_to : (k : ℕ) (d : ℕ × ℕ × ℕ × ℕ) → k < length links → (get_or links k d).1 ≡ j → is_listed (mentions_of j i links) (get_or links k d).3 ≡ true
  lists_to k d lt e = let l : ℕ × ℕ × ℕ × ℕ = get_or links k d in
      listed-right (flat_map (λ p. p.1 ∷ []) i.names ++ flat_map (λ t. t.1 ∷ t.2 ∷ []) i.roles) (flat_map (link_ends j) links) l.3
      (listed-piece (link_ends j) l.3 links (λ m f q. tt) k d lt
      (listed-right (cond (nat_eq l.0 j) (l.2 ∷ []) []) (cond (nat_eq l.1 j) (l.3 ∷ []) []) l.3 (kept (nat_eq l.1 j) l.3 (eq-eqb l.1 j e))))

  pub mentions_below : IsShaped i → All (λ l. (l.0 ≡ j → l.2 < i.size) × (l.1 ≡ j → l.3 < i.size)) links → All (λ x. x < i.size) (mentions_of j i links)
  mentions_below shaped h = All-append (λ x. x < i.size) (flat_map (λ p. p.1 ∷ []) i.names ++ flat_map (λ t. t.1 ∷ t.2 ∷ []) i.roles) (flat_map (link_ends j) links)
      (All-append (λ x. x < i.size) (flat_map (λ p. p.1 ∷ []) i.names) (flat_map (λ t. t.1 ∷ t.2 ∷ []) i.roles)
      (below-pieces (λ p. p.1 ∷ []) i.size i.names (λ k d lt. one_below i.size (get_or i.names k d).1 (shaped.names k d lt)))
      (below-pieces (λ t. t.1 ∷ t.2 ∷ []) i.size i.roles (λ k d lt. two_below i.size (get_or i.roles k d).1 (get_or i.roles k d).2 (shaped.roles k d lt).0 (shaped.roles k d lt).1)))
      (below-pieces (link_ends j) i.size links (λ k d lt. let l : ℕ × ℕ × ℕ × ℕ = get_or links k d in
      All-append (λ x. x < i.size) (cond (nat_eq l.0 j) (l.2 ∷ []) []) (cond (nat_eq l.1 j) (l.3 ∷ []) [])
      (kept_below i.size (nat_eq l.0 j) l.2 (λ e. (h k d lt).0 (eqb-true l.0 j e)))
      (kept_below i.size (nat_eq l.1 j) l.3 (λ e. (h k d lt).1 (eqb-true l.1 j e)))))

-- ---- the elements that are seen

module _ (size : ℕ) (mentions : List ℕ) (below : All (λ x. x < size) mentions) (es : List ℕ) (up : IsRising es) (same : HaveSame mentions es) where
  seen_below : (k : ℕ) → k < length es → get_or es k 0 < size
  seen_below k lt = below_listed mentions below (sym (same (get_or es k 0)) ∙ listed-at es k (get_or es k 0) lt refl)
    where
      below_listed : (xs : List ℕ) → All (λ x. x < size) xs → is_listed xs (get_or es k 0) ≡ true → get_or es k 0 < size
      below_listed [] h e = absurd (false≢true e)
      below_listed (x ∷ xs) h e = elim (or_cases (nat_eq x (get_or es k 0)) (is_listed xs (get_or es k 0)) e) [
        | inl q ↦ subst (λ y. y < size) (eqb-true x (get_or es k 0) q) (All-head (λ y. y < size) x xs h)
        | inr q ↦ below_listed xs (All-tail (λ y. y < size) x xs h) q
      ]

  -- the gap is not in the list
  gap_unlisted : (gap : ℕ) → IsGap es gap → is_listed es gap ≡ false
  gap_unlisted gap g = not_listed es gap (λ k lt e. elim (cases_lt k gap) [
    | inl low ↦ let f : get_or es k 0 ≡ k = g.same k low in absurd (omega (arith, f, e, low))
    | inr high ↦ at_least k lt e high
  ])
    where
      at_least : (k : ℕ) → k < length es → get_or es k 0 ≡ gap → gap ≤ k → ⊥
      at_least k lt e high =
          let inside : gap < length es = omega (arith, high, lt) in
          let le : get_or es gap 0 ≤ get_or es k 0 = rising-le es up gap k high lt in
          g.next inside (exact inside (omega (arith, le, e)))
        where
          exact : gap < length es → get_or es gap 0 ≤ gap → get_or es gap 0 ≡ gap
          exact inside le = elim (cases_eq gap 0) [
            | inl zero_is ↦ omega (arith, le, zero_is)
            | inr ne ↦
                let before : get_or es (gap - 1) 0 ≡ gap - 1 = g.same (gap - 1) (omega (arith, ne)) in
                let less : get_or es (gap - 1) 0 < get_or es gap 0 = up (gap - 1) gap (omega (arith, ne)) inside in
                omega (arith, le, before, less, ne)
          ]

  pub seen_whole : (gap : ℕ) → IsGap es gap → size ≤ gap → length es < 2 ^ 32 → AreSeen size mentions es
  seen_whole gap g le few = record {
    rising = up;
    few = few;
    listed = λ x h. same x ∙ h;
    covers = λ x lt. inl (sym (same x) ∙ listed-at es x x (let w = g.within in omega (arith, w, le, lt)) (g.same x (omega (arith, le, lt))));
    each = λ k lt. inl (seen_below k lt);
  }

  pub seen_with_size : (gap : ℕ) → IsGap es gap → gap < size → length (es ++ size ∷ []) < 2 ^ 32 → AreSeen size mentions (es ++ size ∷ [])
  seen_with_size gap g less few =
      let long : length (es ++ size ∷ []) ≡ length es + 1 = length-append es (size ∷ []) in
      let stands : is_listed (es ++ size ∷ []) size ≡ true = listed-right es (size ∷ []) size (itself size) in
      let others : HasOther size mentions (es ++ size ∷ []) = record { other = gap; within = less; unmentioned = sym (same gap) ∙ gap_unlisted gap g; stands = stands } in
      record {
        rising = rising-push es size up seen_below;
        few = few;
        listed = λ x h. listed-left es (size ∷ []) x (same x ∙ h);
        covers = λ x lt. inr others;
        each = λ k lt. elim (cases_lt k (length es)) [
          | inl low ↦ inl (subst (λ y. y < size) (sym (get_or_append_left es (size ∷ []) 0 k low)) (seen_below k low))
          | inr high ↦
              let at : k ≡ length es = omega (arith, long, lt, high) in
              inr (
                subst (λ n. get_or (es ++ size ∷ []) n 0 ≡ size) (sym at) (get_or-append_right es (size ∷ []) (length es) (length es) 0 refl (omega arith)
                    ∙ ap (λ n. get_or (size ∷ []) n 0) (let none_is : length es - length es ≡ 0 = omega arith in none_is)),
                others,
              )
        ];
      }
