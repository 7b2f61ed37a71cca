-- What the goal's being open depends on, as the list of it grows.
use Rattle.std.proofs.Common.{◌≡◌, ◌∙◌, ℕ, zero, suc, ◌<◌, ◌==◌, ◌&&◌, ◌||◌, nat_lt, not, Bool, true, false, if◌then◌else◌, List, [], ◌∷◌, map, length, Option, None, Some, slice_get, refl, sym, ap, subst, arith, inl, inr, ◌⊎◌}
use Rattle.std.specs.List.{list_any, list_all}
use Rattle.std.specs.Option.{option_map_or}
use Rattle.std.proofs.lemmas.Bool.{false≢true, and_parts, and_from, or_left, or_right, or_cases, or_parts, eqb-true, eq-eqb, lt-ltb}
use Rattle.std.proofs.lemmas.Option.{slice_get_within}
use Rattle.dd_rules.specs.Numbers.{Rules, additions}
use Rattle.dd_rules.specs.declared.shape.Shape.{Shape}
use Rattle.dd_rules.specs.declared.shape.Shape.TheVariants as shape
use Rattle.dd_set.specs.Marked.{is_among, with_arrival}
use Rattle.dd_set.specs.Words.{has}
use Rattle.dd_set.proofs.Arrivals.{among-push, among-with_arrival, among-with_arrival_keeps, with_arrival-case}
use Rattle.dd_graph.specs.declared.node.Entry.{Entry}
use Rattle.dd_graph.specs.declared.node.Node.{Node}
use Rattle.dd_graph.specs.declared.node.Node.TheVariants as node
use Rattle.dd_graph.specs.Goes.{is_begun}
use Rattle.dd_graph.specs.Reached.{ReachedIn}
use Rattle.dd_graph.specs.Reached as reached_in
use Rattle.dd_graph.specs.Right.{IsNode, closes, is_below, is_some_shape, open_at, rank_at, stays_open}
use Rattle.dd_graph.specs.Trail.{first_free, taken, needed_of, sustains, with_all}
use Rattle.dd_graph.specs.View.{is_some_rank}
use Rattle.dd_graph.proofs.Lists.{same_Some, place_at, get_push_old}

-- ---- lists that grow

pub all-keeps : (n : ℕ) (ns ts : List ℕ) → is_among n ns ≡ true → is_among n (with_all ns ts) ≡ true
all-keeps n ns [] h = h
all-keeps n ns (t ∷ ts) h = all-keeps n (with_arrival ns t) ts (among-with_arrival_keeps n t ns h)

pub all-has : (n : ℕ) (ns ts : List ℕ) → is_among n ts ≡ true → is_among n (with_all ns ts) ≡ true
all-has n ns [] h = absurd (false≢true h)
all-has n ns (t ∷ ts) h = elim (or_cases (t == n) (is_among n ts) h) [
  | inl here ↦ all-keeps n (with_arrival ns t) ts (subst (λ m. is_among m (with_arrival ns t) ≡ true) (eqb-true t n here) (among-with_arrival t ns))
  | inr there ↦ all-has n (with_arrival ns t) ts there
]

arrival-cases : (n t : ℕ) (ns : List ℕ) → is_among n (with_arrival ns t) ≡ true → (is_among n ns ≡ true) ⊎ ((t == n) ≡ true)
arrival-cases n t ns = with_arrival-case (λ r. is_among n r ≡ true → (is_among n ns ≡ true) ⊎ ((t == n) ≡ true)) ns t (λ _ h. inl h) (λ _ h.
    elim (or_cases (is_among n ns) ((t == n) || false) (sym (among-push n t ns) ∙ h)) [
      | inl there ↦ inl there
      | inr here ↦ elim (or_cases (t == n) false here) [ inl e ↦ inr e | inr never ↦ absurd (false≢true never) ]
    ])

pub all-cases : (n : ℕ) (ns ts : List ℕ) → is_among n (with_all ns ts) ≡ true → (is_among n ns ≡ true) ⊎ (is_among n ts ≡ true)
all-cases n ns [] h = inl h
all-cases n ns (t ∷ ts) h = elim (all-cases n (with_arrival ns t) ts h) [
  | inl before ↦ elim (arrival-cases n t ns before) [
    | inl old ↦ inl old
    | inr here ↦ inr (or_left (t == n) (is_among n ts) here)
  ]
  | inr after ↦ inr (or_right (t == n) (is_among n ts) after)
]

pub all-prefix : (ns ts : List ℕ) (i n : ℕ) → slice_get ns i ≡ Some n → slice_get (with_all ns ts) i ≡ Some n
all-prefix ns [] i n h = h
all-prefix ns (t ∷ ts) i n h = all-prefix (with_arrival ns t) ts i n
    (with_arrival-case (λ r. slice_get r i ≡ Some n) ns t (λ _. h) (λ _. get_push_old ns t i n h))

-- where a member stands
pub place-among : (n : ℕ) (ns : List ℕ) → is_among n ns ≡ true → (i : ℕ) × (slice_get ns i ≡ Some n)
place-among n [] h = absurd (false≢true h)
place-among n (m ∷ ns) h = elim (or_cases (m == n) (is_among n ns) h) [
  | inl here ↦ (0, ap Some (eqb-true m n here))
  | inr there ↦ let found = place-among n ns there in (suc found.0, found.1)
]

pub among-place : (ns : List ℕ) (i n : ℕ) → slice_get ns i ≡ Some n → is_among n ns ≡ true
among-place [] i n h = cc
among-place (m ∷ ns) zero n h = or_left (m == n) (is_among n ns) (eq-eqb m n (same_Some m n h))
among-place (m ∷ ns) (suc i) n h = or_right (m == n) (is_among n ns) (among-place ns i n h)

-- ---- what keeps a node open

all-mono : {X : Type 0} (p q : X → Bool) → ((x : X) → p x ≡ true → q x ≡ true) → (xs : List X) → list_all p xs ≡ true → list_all q xs ≡ true
all-mono p q f [] h = refl
all-mono p q f (x ∷ xs) h = let both = and_parts (p x) (list_all p xs) h in and_from (q x) (list_all q xs) (f x both.0) (all-mono p q f xs both.1)

any-mono : {X : Type 0} (p q : X → Bool) → ((x : X) → p x ≡ true → q x ≡ true) → (xs : List X) → list_any p xs ≡ true → list_any q xs ≡ true
any-mono p q f [] h = h
any-mono p q f (x ∷ xs) h = elim (or_cases (p x) (list_any p xs) h) [
  | inl here ↦ or_left (q x) (list_any q xs) (f x here)
  | inr there ↦ or_right (q x) (list_any q xs) (any-mono p q f xs there)
]

pub sustains-mono : (width : ℕ) (p q : ℕ → Bool) → ((t : ℕ) → p t ≡ true → q t ≡ true) → (upto : ℕ) (n : Node) → sustains width p upto n ≡ true → sustains width q upto n ≡ true
sustains-mono width p q f upto node.Fresh h = h
sustains-mono width p q f upto (node.Clash c) h = h
sustains-mono width p q f upto (node.Larger t) h = f t h
sustains-mono width p q f upto (node.Split s to) h = any-mono p q f to h
sustains-mono width p q f upto (node.Done to) h =
    let both = and_parts (not (nat_lt upto width)) (list_all (λ x. p x.1) to) h in
    and_from (not (nat_lt upto width)) (list_all (λ x. q x.1) to) both.0 (all-mono (λ x. p x.1) (λ x. q x.1) (λ x. f x.1) to both.1)

pub stays-sustains : (width : ℕ) (entries : List Entry) (upto : ℕ) (n : Node) → stays_open width entries upto n ≡ sustains width (open_at entries) upto n
stays-sustains width entries upto node.Fresh = refl
stays-sustains width entries upto (node.Clash c) = refl
stays-sustains width entries upto (node.Larger t) = refl
stays-sustains width entries upto (node.Split s to) = refl
stays-sustains width entries upto (node.Done to) = refl

-- ---- what a node needs, where the label can neither be closed nor expanded

first-found : (entries : List Entry) (ts : List ℕ) (t : ℕ) → first_free entries ts ≡ Some t → (rank_at entries t ≡ None) × ((i : ℕ) × (slice_get ts i ≡ Some t))
first-found entries [] t h = cc
first-found entries (s ∷ ts) t h = go (first-found entries ts t) (rank_at entries s) refl h
  where
    go : (first_free entries ts ≡ Some t → (rank_at entries t ≡ None) × ((i : ℕ) × (slice_get ts i ≡ Some t)))
        → (o : Option ℕ) → rank_at entries s ≡ o → (if is_some_rank o then first_free entries ts else Some s) ≡ Some t
        → (rank_at entries t ≡ None) × ((i : ℕ) × (slice_get (s ∷ ts) i ≡ Some t))
    go later None is e = let same = same_Some s t e in (ap (rank_at entries) (sym same) ∙ is, (0, ap Some same))
    go later (Some j) is e = let rest = later e in (rest.0, (suc rest.1.0, rest.1.1))

-- the same of the position that is taken
taken-found : (entries : List Entry) (hint : ℕ) (ts : List ℕ) (t : ℕ) → taken entries hint ts ≡ Some t → (rank_at entries t ≡ None) × ((i : ℕ) × (slice_get ts i ≡ Some t))
taken-found entries hint ts t h = go (slice_get ts hint) refl h
  where
    at : (s : ℕ) → slice_get ts hint ≡ Some s → (o : Option ℕ) → rank_at entries s ≡ o → (if is_some_rank o then first_free entries ts else Some s) ≡ Some t
        → (rank_at entries t ≡ None) × ((i : ℕ) × (slice_get ts i ≡ Some t))
    at s is None free e = let same = same_Some s t e in (ap (rank_at entries) (sym same) ∙ free, (hint, is ∙ ap Some same))
    at s is (Some j) ranked e = first-found entries ts t e

    go : (o : Option ℕ) → slice_get ts hint ≡ o
        → option_map_or (λ s. if is_some_rank (rank_at entries s) then first_free entries ts else Some s) o (first_free entries ts) ≡ Some t
        → (rank_at entries t ≡ None) × ((i : ℕ) × (slice_get ts i ≡ Some t))
    go None is e = first-found entries ts t e
    go (Some s) is e = at s is (rank_at entries s) refl e

taken-there : (entries : List Entry) (hint : ℕ) (ts : List ℕ) (t : ℕ) → first_free entries ts ≡ Some t → (u : ℕ) × (taken entries hint ts ≡ Some u)
taken-there entries hint ts t h = go (slice_get ts hint) refl
  where
    at : (s : ℕ) → slice_get ts hint ≡ Some s → (o : Option ℕ) → rank_at entries s ≡ o → (u : ℕ) × (taken entries hint ts ≡ Some u)
    at s is None free = (
      s,
      ap (λ p. option_map_or (λ x. if is_some_rank (rank_at entries x) then first_free entries ts else Some x) p (first_free entries ts)) is
          ∙ ap (λ p. if is_some_rank p then first_free entries ts else Some s) free,
    )
    at s is (Some j) ranked = (
      t,
      ap (λ p. option_map_or (λ x. if is_some_rank (rank_at entries x) then first_free entries ts else Some x) p (first_free entries ts)) is
          ∙ ap (λ p. if is_some_rank p then first_free entries ts else Some s) ranked ∙ h,
    )

    go : (o : Option ℕ) → slice_get ts hint ≡ o → (u : ℕ) × (taken entries hint ts ≡ Some u)
    go None is = (t, ap (λ p. option_map_or (λ x. if is_some_rank (rank_at entries x) then first_free entries ts else Some x) p (first_free entries ts)) is ∙ h)
    go (Some s) is = at s is (rank_at entries s) refl

module _ (entries : List Entry) (closed : ℕ) (below : (k j : ℕ) → rank_at entries k ≡ Some j → j < closed) where
  not-below : (t : ℕ) → is_below closed (rank_at entries t) ≡ false → rank_at entries t ≡ None
  not-below t h = go (rank_at entries t) refl h
    where
      go : (o : Option ℕ) → rank_at entries t ≡ o → is_below closed o ≡ false → rank_at entries t ≡ None
      go None is e = is
      go (Some j) is e = absurd (false≢true (sym e ∙ lt-ltb j closed (below t j is)))

  first-there : (ts : List ℕ) → list_all (λ t. is_below closed (rank_at entries t)) ts ≡ false → (t : ℕ) × (first_free entries ts ≡ Some t)
  first-there [] h = absurd (false≢true (sym h))
  first-there (s ∷ ts) h = go (first-there ts) (rank_at entries s) refl
    where
      go : (list_all (λ t. is_below closed (rank_at entries t)) ts ≡ false → (t : ℕ) × (first_free entries ts ≡ Some t))
          → (o : Option ℕ) → rank_at entries s ≡ o → (t : ℕ) × (first_free entries (s ∷ ts) ≡ Some t)
      go later None is = (s, ap (λ o. if is_some_rank o then first_free entries ts else Some s) is)
      go later (Some j) is =
          let ranked : is_below closed (rank_at entries s) ≡ true = ap (is_below closed) is ∙ lt-ltb j closed (below s j is) in
          let rest = later (sym (ap (λ b. b && list_all (λ t. is_below closed (rank_at entries t)) ts) ranked) ∙ h) in
          (rest.0, ap (λ o. if is_some_rank o then first_free entries ts else Some s) is ∙ rest.1)

  none-below : (ps : List (ℕ × ℕ)) → list_any (λ p. is_below closed (rank_at entries p.1)) ps ≡ false → (i : ℕ) (p : ℕ × ℕ) → slice_get ps i ≡ Some p → rank_at entries p.1 ≡ None
  none-below [] h i p at = cc
  none-below (q ∷ ps) h zero p at = subst (λ x. rank_at entries x.1 ≡ None) (same_Some q p at)
      (not-below q.1 (or_parts (is_below closed (rank_at entries q.1)) (list_any (λ p. is_below closed (rank_at entries p.1)) ps) h).0)
  none-below (q ∷ ps) h (suc i) p at = none-below ps (or_parts (is_below closed (rank_at entries q.1)) (list_any (λ p. is_below closed (rank_at entries p.1)) ps) h).1 i p at

  -- the node is kept open by what it needs
  pub sustained : (hint width : ℕ) (ok : ℕ → Bool) (upto : ℕ) (n : Node) → is_begun width upto n ≡ false → closes entries closed n ≡ false
      → ((t : ℕ) → is_among t (needed_of entries hint n) ≡ true → ok t ≡ true) → sustains width ok upto n ≡ true
  sustained hint width ok upto node.Fresh b c h = absurd (false≢true (sym b))
  sustained hint width ok upto (node.Clash x) b c h = absurd (false≢true (sym c))
  sustained hint width ok upto (node.Larger t) b c h = h t (or_left (t == t) false (eq-eqb t t refl))
  sustained hint width ok upto (node.Split s to) b c h =
      let some = first-there to c in
      let first = taken-there entries hint to some.0 some.1 in
      let at = (taken-found entries hint to first.0 first.1).1 in
      let good : ok first.0 ≡ true = h first.0 (ap (λ o. is_among first.0 (option_map_or (λ t. t ∷ []) o [])) first.1 ∙ or_left (first.0 == first.0) false (eq-eqb first.0 first.0 refl)) in
      any-at ok to at.0 first.0 at.1 good
    where
      any-at : (p : ℕ → Bool) (xs : List ℕ) (i x : ℕ) → slice_get xs i ≡ Some x → p x ≡ true → list_any p xs ≡ true
      any-at p [] i x e g = cc
      any-at p (y ∷ ys) zero x e g = or_left (p y) (list_any p ys) (ap p (same_Some y x e) ∙ g)
      any-at p (y ∷ ys) (suc i) x e g = or_right (p y) (list_any p ys) (any-at p ys i x e g)
  sustained hint width ok upto (node.Done to) b c h = and_from (not (nat_lt upto width)) (list_all (λ p. ok p.1) to) (ap not b) (all-seconds to h)
    where
      all-seconds : (ps : List (ℕ × ℕ)) → ((t : ℕ) → is_among t (map (λ p. p.1) ps) ≡ true → ok t ≡ true) → list_all (λ p. ok p.1) ps ≡ true
      all-seconds [] g = refl
      all-seconds (q ∷ ps) g = and_from (ok q.1) (list_all (λ p. ok p.1) ps) (g q.1 (or_left (q.1 == q.1) (is_among q.1 (map (λ p. p.1) ps)) (eq-eqb q.1 q.1 refl)))
          (all-seconds ps (λ t a. g t (or_right (q.1 == t) (is_among t (map (λ p. p.1) ps)) a)))

-- a position that is needed: it is there and not closed, and its label is reached where this one is
pub record Needed (r : Rules) (labels : List (List ℕ)) (entries : List Entry) (l : List ℕ) (t : ℕ) : Type 0 where
  pub within : t < length labels
  pub free : rank_at entries t ≡ None
  pub follows : (g : ℕ → Bool) (m : List ℕ) → slice_get labels t ≡ Some m → ReachedIn r g (has l) → ReachedIn r g (has m)

seconds-at : (ps : List (ℕ × ℕ)) (t : ℕ) → is_among t (map (λ p. p.1) ps) ≡ true → (i : ℕ) × ((n : ℕ) × (slice_get ps i ≡ Some (n, t)))
seconds-at [] t h = absurd (false≢true h)
seconds-at (q ∷ ps) t h = elim (or_cases (q.1 == t) (is_among t (map (λ p. p.1) ps)) h) [
  | inl here ↦ (0, (q.0, ap (λ m. Some (q.0, m)) (eqb-true q.1 t here)))
  | inr there ↦ let found = seconds-at ps t there in (suc found.0, found.1)
]

shape-of : (o : Option Shape) → option_map_or is_some_shape o false ≡ true → (role : ℕ) × ((c : ℕ) × (o ≡ Some (shape.HasSome role c)))
shape-of None h = absurd (false≢true h)
shape-of (Some (shape.HasSome role c)) h = (role, (c, refl))
shape-of (Some s) h = absurd (false≢true h)

only-one : (t s : ℕ) → is_among t (s ∷ []) ≡ true → s ≡ t
only-one t s h = elim (or_cases (s == t) false h) [ inl e ↦ eqb-true s t e | inr never ↦ absurd (false≢true never) ]

module _ (r : Rules) (labels : List (List ℕ)) (entries : List Entry) (closed : ℕ) (below : (k j : ℕ) → rank_at entries k ≡ Some j → j < closed) where
  pub needed : (hint : ℕ) (l : List ℕ) (n : Node) → IsNode r labels l n → closes entries closed n ≡ false → (t : ℕ) → is_among t (needed_of entries hint n) ≡ true → Needed r labels entries l t
  needed hint l node.Fresh says c t h = absurd (false≢true h)
  needed hint l (node.Clash x) says c t h = absurd (false≢true h)
  needed hint l (node.Larger s) says c t h = subst (Needed r labels entries l) (only-one t s h) (record {
    within = (says.larger s refl).0.there;
    free = not-below entries closed below s c;
    follows = λ g m at reached. reached_in.saturated (has l) (has m) reached ((says.larger s refl).0.least m at);
  })
  needed hint l (node.Split s to) says c t h = go (taken entries hint to) refl h
    where
      go : (o : Option ℕ) → taken entries hint to ≡ o → is_among t (option_map_or (λ t. t ∷ []) o []) ≡ true → Needed r labels entries l t
      go None is e = absurd (false≢true e)
      go (Some x) is e =
          let found = taken-found entries hint to x is in
          let i = found.1.0 in
          let lt : i < length to = slice_get_within to i x found.1.1 in
          let as_many = says.as_many s to refl in
          let added = place_at (additions r s) i (omega (arith, lt, as_many)) in
          let least = says.split s to refl i added.0 x added.1 found.1.1 in
          subst (Needed r labels entries l) (only-one t x e) (record {
            within = least.there;
            free = found.0;
            follows = λ g m at reached. reached_in.step (has l) (has m) s i added.0 reached (says.clear_split s to refl) (says.calls s to refl) added.1 (least.least m at);
          })
  needed hint l (node.Done to) says c t h =
      let found = seconds-at to t h in
      let i = found.0 in
      let n = found.1.0 in
      let successor = says.done to refl i n t found.1.1 in
      let both = and_parts (has l n) (option_map_or is_some_shape (slice_get r.shapes n) false) successor.restricts in
      let form = shape-of (slice_get r.shapes n) both.1 in
      record {
        within = successor.there;
        free = none-below entries closed below to c i (n, t) found.1.1;
        follows = λ g m at reached. reached_in.successor (has l) (has m) n form.0 form.1.0 reached (says.clear_done to refl) both.0 form.1.1 (successor.follows form.0 form.1.0 m form.1.1 at);
      }
