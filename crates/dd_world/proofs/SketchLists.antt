-- The lists of a sketch: the elements of each peer, the interpretations at them, and the links between their places.
use Rattle.std.proofs.Common.{◌≡◌, ◌∙◌, ℕ, ◌+◌, ◌-◌, ◌<◌, true, nat_eq, List, [], ◌∷◌, ◌++◌, length, get_or, take, map, ap, refl, subst, sym, inl, inr, arith}
use Rattle.std.specs.List.{All}
use Rattle.std.proofs.lemmas.Bool.{cases_lt, eq-eqb, ne_eqb, eqb-true, false≢true}
use Rattle.std.proofs.lemmas.List.{map-append, take_more, length-append, get_or_append_left, get_or-append_right, get_or_default}
use Rattle.std.proofs.lemmas.List.Sums.{position_or_len_is, fails_before_first, passes_at_first}
use Rattle.std.specs.Option.{option_map_or}
use Rattle.std.proofs.lemmas.Option.{slice_get-get_or, slice_get_past}
use Rattle.dd_interp.specs.declared.interp.Interp.{Interp}
use Rattle.dd_interp.specs.Places.{is_listed}
use Rattle.dd_interp.specs.Seen.{IsSeenAt}
use Rattle.dd_interp.proofs.RisingLists.{not_listed, rising-one_place}
use Rattle.dd_set.specs.Sets.{IsRising}
use Rattle.dd_world.specs.declared.world.World.{World}
use Rattle.dd_world.specs.Elements.{size_at}
use Rattle.dd_world.specs.Mentions.{AreSeen, mentions_of}
use Rattle.dd_world.specs.Sketches.{place, seen_link, AreAllSeen, AreCharts}
use Rattle.dd_world.specs.World.{IsLink}
use Rattle.dd_world.proofs.Decided.{size_is}
use Rattle.dd_world.proofs.MentionLists.{lists_from, lists_to, lists_end}

-- ---- a list that grows by an item for the next number

pub pushed_each : {X : Type 0} (P : ℕ → X → Type 0) (xs : List X) (x d : X) (n : ℕ) → length xs ≡ n → ((j : ℕ) → j < n → P j (get_or xs j d)) → P n x
    → (j : ℕ) → j < n + 1 → P j (get_or (xs ++ x ∷ []) j d)
pushed_each P xs x d n long each last j lt = elim (cases_lt j n) [
  | inl low ↦ subst (P j) (sym (get_or_append_left xs (x ∷ []) d j (omega (arith, low, long)))) (each j low)
  | inr high ↦
      let at : j ≡ n = omega (arith, lt, high) in
      let zero_is : n - n ≡ 0 = omega arith in
      subst (λ m. P m (get_or (xs ++ x ∷ []) m d)) (sym at)
      (subst (P n) (sym (get_or-append_right xs (x ∷ []) n n d long (omega arith) ∙ ap (λ m. get_or (x ∷ []) m d) zero_is)) last)
]

pub seen_start : (w : World) → AreAllSeen w [] 0
seen_start w = record { count = refl; each = λ j d lt. absurd (omega (arith, lt)) }

pub seen_more : (w : World) (elements new : List (List ℕ)) (es : List ℕ) (n : ℕ) → new ≡ elements ++ es ∷ [] → AreAllSeen w elements n
    → ((d : Interp) → AreSeen (get_or w.locals n d).size (mentions_of n (get_or w.locals n d) w.links) es) → AreAllSeen w new (n + 1)
seen_more w elements new es n e h last = subst (λ l. AreAllSeen w l (n + 1)) (sym e) (record {
  count = length-append elements (es ∷ []) ∙ ap (λ m. m + 1) h.count;
  each = λ j d. pushed_each (λ m l. AreSeen (get_or w.locals m d).size (mentions_of m (get_or w.locals m d) w.links) l) elements es [] n h.count (λ m lt. h.each m d lt) (last d) j;
})

pub charts_start : (w : World) (elements : List (List ℕ)) → AreCharts w elements [] 0
charts_start w elements = record { count = refl; each = λ j d e lt. absurd (omega (arith, lt)) }

pub charts_more : (w : World) (elements : List (List ℕ)) (charts new : List Interp) (chart : Interp) (n : ℕ) → new ≡ charts ++ chart ∷ [] → AreCharts w elements charts n
    → ((d : Interp) → IsSeenAt (get_or w.locals n d) (get_or elements n []) chart) → AreCharts w elements new (n + 1)
charts_more w elements charts new chart n e h last = subst (λ l. AreCharts w elements l (n + 1)) (sym e) (record {
  count = length-append charts (chart ∷ []) ∙ ap (λ m. m + 1) h.count;
  each = λ j d f. pushed_each (λ m s. IsSeenAt (get_or w.locals m d) (get_or elements m []) s) charts chart f n h.count (λ m lt. h.each m d f lt) (last d) j;
})

-- ---- places

-- where x is in the list, it stands at its place
pub placed : (es : List ℕ) (x : ℕ) → is_listed es x ≡ true → (place es x < length es) × (get_or es (place es x) 0 ≡ x)
placed es x h = elim (cases_lt (place es x) (length es)) [
  | inl lt ↦ (lt, eqb-true (get_or es (place es x) 0) x (passes_at_first (λ y. nat_eq y x) es 0 lt))
  | inr le ↦ absurd (false≢true (sym (not_listed es x (λ k less e.
      false≢true (sym (fails_before_first (λ y. nat_eq y x) es k 0 (omega (arith, less, le))) ∙ eq-eqb (get_or es k 0) x e))) ∙ h))
]

-- and at no other
pub place_is : (es : List ℕ) (x k : ℕ) → IsRising es → k < length es → get_or es k 0 ≡ x → k ≡ place es x
place_is es x k up lt e = sym (position_or_len_is (λ y. nat_eq y x) es k 0 (omega (arith, lt))
    (λ j less. ne_eqb (get_or es j 0) x (λ q. let same : j ≡ k = rising-one_place es j k up (omega (arith, less, lt)) lt (q ∙ sym e) in absurd (omega (arith, same, less))))
    (λ u. eq-eqb (get_or es k 0) x e))

-- ---- links

-- the elements of a peer that has any
module _ (w : World) (links : All (IsLink w) w.links) where
  -- a peer with an element is declared
  pub declared : (j x : ℕ) → x < size_at w j → j < length w.locals
  declared j x lt = elim (cases_lt j (length w.locals)) [
    | inl low ↦ low
    | inr high ↦ let none : size_at w j ≡ 0 = ap (λ o. option_map_or (λ (i : Interp). i.size) o 0) (slice_get_past w.locals j high) in absurd (omega (arith, none, lt))
  ]

  pub link_from : (k : ℕ) (d : ℕ × ℕ × ℕ × ℕ) → k < length w.links → (get_or w.links k d).0 < length w.locals
  link_from k d lt = declared (get_or w.links k d).0 (get_or w.links k d).2 (links k d lt).from

  pub link_to : (k : ℕ) (d : ℕ × ℕ × ℕ × ℕ) → k < length w.links → (get_or w.links k d).1 < length w.locals
  link_to k d lt = declared (get_or w.links k d).1 (get_or w.links k d).3 (links k d lt).to

  module _ (elements : List (List ℕ)) (seen : AreAllSeen w elements (length w.locals)) (some : Interp) where
    pub from_listed : (k : ℕ) (d : ℕ × ℕ × ℕ × ℕ) → k < length w.links → is_listed (get_or elements (get_or w.links k d).0 []) (get_or w.links k d).2 ≡ true
    from_listed k d lt = let j : ℕ = (get_or w.links k d).0 in
        (seen.each j some (link_from k d lt)).listed (get_or w.links k d).2 (lists_from j (get_or w.locals j some) w.links k d lt refl)

    pub to_listed : (k : ℕ) (d : ℕ × ℕ × ℕ × ℕ) → k < length w.links → is_listed (get_or elements (get_or w.links k d).1 []) (get_or w.links k d).3 ≡ true
    to_listed k d lt = let j : ℕ = (get_or w.links k d).1 in
        (seen.each j some (link_to k d lt)).listed (get_or w.links k d).3 (lists_to j (get_or w.locals j some) w.links k d lt refl)

  -- what the ends of links are below, peer by peer
  pub ends_below : (j : ℕ) (d : Interp) → j < length w.locals
      → All (λ l. (l.0 ≡ j → l.2 < (get_or w.locals j d).size) × (l.1 ≡ j → l.3 < (get_or w.locals j d).size)) w.links
  ends_below j d lt k e less =
      let size : size_at w j ≡ (get_or w.locals j d).size = size_is w j (get_or w.locals j d) (slice_get-get_or w.locals j d lt) in (
        λ q. subst (λ n. (get_or w.links k e).2 < n) (ap (size_at w) q ∙ size) (links k e less).from,
        λ q. subst (λ n. (get_or w.links k e).3 < n) (ap (size_at w) q ∙ size) (links k e less).to,
      )

pub link_more : (elements : List (List ℕ)) (seen new links : List (ℕ × ℕ × ℕ × ℕ)) (n : ℕ) (d link : ℕ × ℕ × ℕ × ℕ) → n < length links → new ≡ seen ++ link ∷ []
    → link ≡ seen_link elements (get_or links n d) → seen ≡ map (seen_link elements) (take n links) → new ≡ map (seen_link elements) (take (n + 1) links)
link_more elements seen new links n d link lt e is h = e ∙ ap (λ l. l ++ link ∷ []) h ∙ ap (λ v. map (seen_link elements) (take n links) ++ v ∷ []) is
    ∙ sym (map-append (seen_link elements) (take n links) (get_or links n d ∷ [])) ∙ ap (map (seen_link elements)) (sym (take_more links n d lt))

pub role_ends : (w : World) (elements : List (List ℕ)) (n j : ℕ) (d : Interp) → AreAllSeen w elements n → j < n
    → All (λ t. is_listed (get_or elements j []) t.2 ≡ true) (get_or w.locals j d).roles
role_ends w elements n j d h lt k e less = (h.each j d lt).listed (get_or (get_or w.locals j d).roles k e).2 (lists_end j (get_or w.locals j d) w.links k e less)

-- ---- an item that was read

-- an item is the same whatever stands for those past the end
pub item_is : {X : Type 0} (xs ys : List X) (n : ℕ) (x d : X) → xs ≡ ys → x ≡ get_or xs n x → n < length xs → x ≡ get_or ys n d
item_is xs ys n x d e is lt = is ∙ get_or_default xs n x d lt ∙ ap (λ l. get_or l n d) e

pub same_length : {X : Type 0} (xs ys : List X) (n : ℕ) → xs ≡ ys → n < length xs → n < length ys
same_length xs ys n e lt = subst (λ l. n < length l) e lt

-- an interpretation that stands for those past the end
abbrev pub none : Interp
none = record { size = 0; names = []; roles = [] }
