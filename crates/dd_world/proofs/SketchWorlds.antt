-- A sketch has what the world has.
use Rattle.std.proofs.Common.{◌≡◌, ◌∙◌, ℕ, ◌<◌, ◌≤◌, Bool, true, false, not, ◌&&◌, ◌||◌, nat_eq, List, [], ◌∷◌, length, get_or, map, Some, ap, ap₂, refl, subst, sym, inl, inr, arith}
use Rattle.std.specs.List.{All, list_any, list_all, slice_get}
use Rattle.std.specs.Option.{option_map_or}
use Rattle.std.proofs.lemmas.Bool.{cases_lt, cases_Bool, eqb-true, and_parts, false≢true, false_from_ne_true}
use Rattle.std.proofs.lemmas.List.{length-map, get_or-map}
use Rattle.std.proofs.lemmas.List.Elements.{All-head, All-tail}
use Rattle.std.proofs.lemmas.List.Folds.{list_any_none, list_all-map}
use Rattle.std.proofs.lemmas.Option.{slice_get-get_or, slice_get_past}
use Rattle.dd_concept.specs.declared.concept.Concept.{Concept}
use Rattle.dd_interp.specs.declared.interp.Interp.{Interp}
use Rattle.dd_interp.specs.Places.{is_listed}
use Rattle.dd_interp.specs.Satisfies.{IsShaped}
use Rattle.dd_interp.proofs.SeenAt.{place-eq}
use Rattle.dd_peer.specs.declared.version.Rule.{Rule}
use Rattle.dd_world.specs.declared.world.World.{World}
use Rattle.dd_world.specs.Named.{names_at, roles_at}
use Rattle.dd_world.specs.Elements.{size_at, holds_at}
use Rattle.dd_world.specs.Mentions.{mentions_of}
use Rattle.dd_world.specs.Sketches.{place, seen_link, AreAllSeen, AreCharts, AreAlike, Sees}
use Rattle.dd_world.specs.Tests.{joins, keeps_into, satisfies_into, leads_to, is_reached}
use Rattle.dd_world.specs.World.{IsLink}
use Rattle.dd_world.proofs.Decided.{size_is, holds_is}
use Rattle.dd_world.proofs.Mentioned.{holds-unnamed}
use Rattle.dd_world.proofs.MentionLists.{lists_name, lists_start, lists_to}
use Rattle.dd_world.proofs.SketchLists.{placed, declared, link_from, link_to, from_listed, to_listed}
use Rattle.dd_world.proofs.Unnamed.{IsUnnamed, named}

-- ---- tests of lists, item by item

any-map : {X Y : Type 0} (p : Y → Bool) (f : X → Y) (xs : List X) → list_any p (map f xs) ≡ list_any (λ x. p (f x)) xs
any-map p f [] = refl
any-map p f (x ∷ xs) = ap (λ b. p (f x) || b) (any-map p f xs)

pub any-same : {X : Type 0} (p q : X → Bool) (xs : List X) → All (λ x. p x ≡ q x) xs → list_any p xs ≡ list_any q xs
any-same p q [] h = refl
any-same p q (x ∷ xs) h = ap (λ b. b || list_any p xs) (All-head (λ y. p y ≡ q y) x xs h) ∙ ap (λ b. q x || b) (any-same p q xs (All-tail (λ y. p y ≡ q y) x xs h))

pub all-same : {X : Type 0} (p q : X → Bool) (xs : List X) → All (λ x. p x ≡ q x) xs → list_all p xs ≡ list_all q xs
all-same p q [] h = refl
all-same p q (x ∷ xs) h = ap (λ b. b && list_all p xs) (All-head (λ y. p y ≡ q y) x xs h) ∙ ap (λ b. q x && b) (all-same p q xs (All-tail (λ y. p y ≡ q y) x xs h))

pub gated : (b p q v w : Bool) → (b ≡ true → (p ≡ q) × (v ≡ w)) → ((b && p) && v) ≡ ((b && q) && w)
gated true p q v w h = ap₂ (λ x y. x && y) (h refl).0 (h refl).1
gated false p q v w h = refl

pub gated_implies : (b p q v w : Bool) → (b ≡ true → (p ≡ q) × (v ≡ w)) → (not (b && p) || v) ≡ (not (b && q) || w)
gated_implies true p q v w h = ap₂ (λ x y. not x || y) (h refl).0 (h refl).1
gated_implies false p q v w h = refl

-- an element that is not mentioned is in no list
unnamed_at : {X : Type 0} (at : X → ℕ) (xs : List X) (mentions : List ℕ) (x : ℕ) → ((k : ℕ) (d : X) → k < length xs → is_listed mentions (at (get_or xs k d)) ≡ true)
    → is_listed mentions x ≡ false → named at xs x ≡ false
unnamed_at at xs mentions x listed none = list_any_none (λ a. nat_eq (at a) x) xs (λ k d lt. false_from_ne_true (nat_eq (at (get_or xs k d)) x) (λ e.
    false≢true (sym none ∙ subst (λ y. is_listed mentions y ≡ true) (eqb-true (at (get_or xs k d)) x e) (listed k d lt))))

module _ (w v : World) (elements : List (List ℕ)) (shaped : All IsShaped w.locals) (links : All (IsLink w) w.links) where
  module _ (seen : AreAllSeen w elements (length w.locals)) (charts : AreCharts w elements v.locals (length w.locals)) (ends : v.links ≡ map (seen_link elements) w.links) where
    module _ (some : Interp) where
      -- the elements of peer j that are seen
      es : ℕ → List ℕ
      es j = get_or elements j []

      module _ (j : ℕ) (lt : j < length w.locals) where
        local_is : slice_get w.locals j ≡ Some (get_or w.locals j some)
        local_is = slice_get-get_or w.locals j some lt

        chart_is : slice_get v.locals j ≡ Some (get_or v.locals j some)
        chart_is = slice_get-get_or v.locals j some (subst (λ n. j < n) (sym charts.count) lt)

        chart_size : size_at v j ≡ length (get_or elements j [])
        chart_size = size_is v j (get_or v.locals j some) chart_is ∙ (charts.each j some some lt).size

        local_size : size_at w j ≡ (get_or w.locals j some).size
        local_size = size_is w j (get_or w.locals j some) local_is

        -- a place has what its element has
        place_holds : (k : ℕ) → k < length (get_or elements j []) → (c : Concept) → holds_at w j (get_or (get_or elements j []) k 0) c ≡ holds_at v j k c
        place_holds k less c = holds_is w j (get_or w.locals j some) local_is (get_or (get_or elements j []) k 0) c
            ∙ sym ((charts.each j some some lt).same c k less) ∙ sym (holds_is v j (get_or v.locals j some) chart_is k c)

      -- the ends of a link stand at their places
      from_place : (n : ℕ) (d : ℕ × ℕ × ℕ × ℕ) → n < length w.links
          → (place (get_or elements (get_or w.links n d).0 []) (get_or w.links n d).2 < length (get_or elements (get_or w.links n d).0 []))
          × (get_or (get_or elements (get_or w.links n d).0 []) (place (get_or elements (get_or w.links n d).0 []) (get_or w.links n d).2) 0 ≡ (get_or w.links n d).2)
      from_place n d less = placed (get_or elements (get_or w.links n d).0 []) (get_or w.links n d).2 (from_listed w links elements seen some n d less)

      to_place : (n : ℕ) (d : ℕ × ℕ × ℕ × ℕ) → n < length w.links
          → (place (get_or elements (get_or w.links n d).1 []) (get_or w.links n d).3 < length (get_or elements (get_or w.links n d).1 []))
          × (get_or (get_or elements (get_or w.links n d).1 []) (place (get_or elements (get_or w.links n d).1 []) (get_or w.links n d).3) 0 ≡ (get_or w.links n d).3)
      to_place n d less = placed (get_or elements (get_or w.links n d).1 []) (get_or w.links n d).3 (to_listed w links elements seen some n d less)

      from_holds : (n : ℕ) (d : ℕ × ℕ × ℕ × ℕ) → n < length w.links → (i : ℕ) → (get_or w.links n d).0 ≡ i → (c : Concept)
          → holds_at v i (place (get_or elements (get_or w.links n d).0 []) (get_or w.links n d).2) c ≡ holds_at w i (get_or w.links n d).2 c
      from_holds n d less i e c =
          let l : ℕ × ℕ × ℕ × ℕ = get_or w.links n d in
          let at = from_place n d less in
          subst (λ m. holds_at v m (place (get_or elements l.0 []) l.2) c ≡ holds_at w m l.2 c) e
          (sym (place_holds l.0 (link_from w links n d less) (place (get_or elements l.0 []) l.2) at.0 c) ∙ ap (λ x. holds_at w l.0 x c) at.1)

      to_holds : (n : ℕ) (d : ℕ × ℕ × ℕ × ℕ) → n < length w.links → (i : ℕ) → (get_or w.links n d).1 ≡ i → (c : Concept)
          → holds_at v i (place (get_or elements (get_or w.links n d).1 []) (get_or w.links n d).3) c ≡ holds_at w i (get_or w.links n d).3 c
      to_holds n d less i e c =
          let l : ℕ × ℕ × ℕ × ℕ = get_or w.links n d in
          let at = to_place n d less in
          subst (λ m. holds_at v m (place (get_or elements l.1 []) l.3) c ≡ holds_at w m l.3 c) e
          (sym (place_holds l.1 (link_to w links n d less) (place (get_or elements l.1 []) l.3) at.0 c) ∙ ap (λ x. holds_at w l.1 x c) at.1)

      joined_from : (j : ℕ) (r : Rule) (l : ℕ × ℕ × ℕ × ℕ) → joins j r l ≡ true → l.0 ≡ r.from
      joined_from j r l e = eqb-true l.0 r.from (and_parts (nat_eq l.0 r.from) (nat_eq l.1 j) e).0

      joined_to : (j : ℕ) (r : Rule) (l : ℕ × ℕ × ℕ × ℕ) → joins j r l ≡ true → l.1 ≡ j
      joined_to j r l e = eqb-true l.1 j (and_parts (nat_eq l.0 r.from) (nat_eq l.1 j) e).1

      same_into : (j : ℕ) (r : Rule) → satisfies_into v j r ≡ satisfies_into w j r
      same_into j r = ap (list_all (keeps_into v j r)) ends ∙ list_all-map (keeps_into v j r) (seen_link elements) w.links
          ∙ all-same (λ l. keeps_into v j r (seen_link elements l)) (keeps_into w j r) w.links (λ n d less.
          let l : ℕ × ℕ × ℕ × ℕ = get_or w.links n d in
          gated_implies (joins j r l) (holds_at v r.from (place (get_or elements l.0 []) l.2) r.source) (holds_at w r.from l.2 r.source)
          (holds_at v j (place (get_or elements l.1 []) l.3) r.target) (holds_at w j l.3 r.target)
          (λ e. (from_holds n d less r.from (joined_from j r l e) r.source, to_holds n d less j (joined_to j r l e) r.target)))

      same_reached : (j : ℕ) → j < length w.locals → (r : Rule) (k : ℕ) → k < length (get_or elements j []) → is_reached v j r k ≡ is_reached w j r (get_or (get_or elements j []) k 0)
      same_reached j lt r k small = ap (list_any (leads_to v j r k)) ends ∙ any-map (leads_to v j r k) (seen_link elements) w.links
          ∙ any-same (λ l. leads_to v j r k (seen_link elements l)) (leads_to w j r (get_or (get_or elements j []) k 0)) w.links (λ n d less.
          let l : ℕ × ℕ × ℕ × ℕ = get_or w.links n d in
          let at = to_place n d less in
          gated (joins j r l) (nat_eq (place (get_or elements l.1 []) l.3) k) (nat_eq l.3 (get_or (get_or elements j []) k 0))
          (holds_at v r.from (place (get_or elements l.0 []) l.2) r.source) (holds_at w r.from l.2 r.source)
          (λ e. (
            subst (λ i. nat_eq (place (get_or elements l.1 []) l.3) k ≡ nat_eq l.3 (get_or (get_or elements i []) k 0)) (joined_to j r l e)
                (place-eq (get_or elements l.1 []) (seen.each l.1 some (link_to w links n d less)).rising l.3 (place (get_or elements l.1 []) l.3) k at.0 at.1
                (subst (λ i. k < length (get_or elements i [])) (sym (joined_to j r l e)) small)),
            from_holds n d less r.from (joined_from j r l e) r.source,
          )))

      -- no link leads to a number at which none ends
      unreached : (j x : ℕ) (r : Rule) → ((n : ℕ) (d : ℕ × ℕ × ℕ × ℕ) → n < length w.links → (get_or w.links n d).1 ≡ j → ¬ ((get_or w.links n d).3 ≡ x)) → is_reached w j r x ≡ false
      unreached j x r h = list_any_none (leads_to w j r x) w.links (λ n d less. let l : ℕ × ℕ × ℕ × ℕ = get_or w.links n d in
          false_from_ne_true (leads_to w j r x l) (λ e.
          let sides = and_parts (joins j r l && nat_eq l.3 x) (holds_at w r.from l.2 r.source) e in
          let both = and_parts (joins j r l) (nat_eq l.3 x) sides.0 in
          h n d less (joined_to j r l both.0) (eqb-true l.3 x both.1)))

      module _ (j : ℕ) (lt : j < length w.locals) where
        -- a place is like its element
        at_place : (k x : ℕ) → k < length (get_or elements j []) → get_or (get_or elements j []) k 0 ≡ x → AreAlike w v j x k
        at_place k x less e = record {
          holds = λ c. ap (λ y. holds_at w j y c) (sym e) ∙ place_holds j lt k less c;
          ends = λ r. ap (is_reached w j r) (sym e) ∙ sym (same_reached j lt r k less);
        }

        -- an element that is not mentioned is like the place of the size
        like_size : (k x : ℕ) → k < length (get_or elements j []) → get_or (get_or elements j []) k 0 ≡ size_at w j
            → is_listed (mentions_of j (get_or w.locals j some) w.links) x ≡ false → AreAlike w v j x k
        like_size k x less e none =
            let i : Interp = get_or w.locals j some in
            let mentions : List ℕ = mentions_of j i w.links in
            let names : names_at w j ≡ i.names = ap (λ o. option_map_or (λ (l : Interp). l.names) o []) (local_is j lt) in
            let roles : roles_at w j ≡ i.roles = ap (λ o. option_map_or (λ (l : Interp). l.roles) o []) (local_is j lt) in
            let unnamed : IsUnnamed (names_at w j) (roles_at w j) x = record {
              in_none = ap (λ l. named (λ (a : ℕ × ℕ). a.1) l x) names ∙ unnamed_at (λ (a : ℕ × ℕ). a.1) i.names mentions x (lists_name j i w.links) none;
              at_none = ap (λ l. named (λ (t : ℕ × ℕ × ℕ). t.1) l x) roles ∙ unnamed_at (λ (t : ℕ × ℕ × ℕ). t.1) i.roles mentions x (lists_start j i w.links) none;
            } in
            record {
              holds = λ c. holds-unnamed w j shaped x unnamed c ∙ ap (λ y. holds_at w j y c) (sym e) ∙ place_holds j lt k less c;
              ends = λ r. unreached j x r (λ n d inside to q. false≢true (sym none ∙ subst (λ y. is_listed mentions y ≡ true) q (lists_to j i w.links n d inside to)))
                  ∙ sym (unreached j (size_at w j) r (λ n d inside to q. let small : (get_or w.links n d).3 < size_at w j = subst (λ m. (get_or w.links n d).3 < size_at w m) to (links n d inside).to in absurd (omega (arith, small, q))))
                  ∙ ap (is_reached w j r) (sym e) ∙ sym (same_reached j lt r k less);
            }

        up_to : (x : ℕ) → x < size_at w j → (k : ℕ) × (k < size_at v j) × AreAlike w v j x k
        up_to x small = elim (cases_Bool (is_listed (mentions_of j (get_or w.locals j some) w.links) x)) [
          | inl yes_listed ↦ found (placed (get_or elements j []) x ((seen.each j some lt).listed x yes_listed))
          | inr none ↦ elim ((seen.each j some lt).covers x (subst (λ n. x < n) (local_size j lt) small)) [
            | inl yes_listed ↦ absurd (false≢true (sym none ∙ yes_listed))
            | inr others ↦
                let at = placed (get_or elements j []) (get_or w.locals j some).size others.stands in
                let k : ℕ = place (get_or elements j []) (get_or w.locals j some).size in
                (k, subst (λ n. k < n) (sym (chart_size j lt)) at.0, like_size k x at.0 (at.1 ∙ sym (local_size j lt)) none)
          ]
        ]
          where
            found : (place (get_or elements j []) x < length (get_or elements j [])) × (get_or (get_or elements j []) (place (get_or elements j []) x) 0 ≡ x)
                → (k : ℕ) × (k < size_at v j) × AreAlike w v j x k
            found at = let k : ℕ = place (get_or elements j []) x in (k, subst (λ n. k < n) (sym (chart_size j lt)) at.0, at_place k x at.0 at.1)

        down_to : (k : ℕ) → k < size_at v j → (x : ℕ) × (x < size_at w j) × AreAlike w v j x k
        down_to k small =
            let less : k < length (get_or elements j []) = subst (λ n. k < n) (chart_size j lt) small in
            elim ((seen.each j some lt).each k less) [
              | inl element ↦
                  let x : ℕ = get_or (get_or elements j []) k 0 in
                  (x, subst (λ n. x < n) (sym (local_size j lt)) element, at_place k x less refl)
              | inr others ↦ (
                others.1.other,
                subst (λ n. others.1.other < n) (sym (local_size j lt)) others.1.within,
                like_size k others.1.other less (others.0 ∙ sym (local_size j lt)) others.1.unmentioned,
              )
            ]

      declared_chart : (j k : ℕ) → k < size_at v j → j < length w.locals
      declared_chart j k small = elim (cases_lt j (length w.locals)) [
        | inl low ↦ low
        | inr high ↦
            let none : size_at v j ≡ 0 = ap (λ o. option_map_or (λ (i : Interp). i.size) o 0) (slice_get_past v.locals j (subst (λ n. n ≤ j) (sym charts.count) high)) in
            absurd (omega (arith, none, small))
      ]

      seen_link_is : (n : ℕ) (d : ℕ × ℕ × ℕ × ℕ) → n < length w.links → IsLink v (seen_link elements (get_or w.links n d))
      seen_link_is n d less = let l : ℕ × ℕ × ℕ × ℕ = get_or w.links n d in record {
        others = (links n d less).others;
        from = subst (λ m. place (get_or elements l.0 []) l.2 < m) (sym (chart_size l.0 (link_from w links n d less))) (from_place n d less).0;
        to = subst (λ m. place (get_or elements l.1 []) l.3 < m) (sym (chart_size l.1 (link_to w links n d less))) (to_place n d less).0;
      }

      pub sees : Sees w v
      sees = record {
        up = λ j x small. up_to j (declared w links j x small) x small;
        down = λ j k small. down_to j (declared_chart j k small) k small;
        into = same_into;
        links = subst (λ l. All (IsLink v) l) (sym ends) (λ n d less.
            let inside : n < length w.links = subst (λ m. n < m) (length-map w.links (seen_link elements)) less in
            subst (IsLink v) (sym (get_or-map (seen_link elements) w.links n (0, 0, 0, 0) d inside)) (seen_link_is n (0, 0, 0, 0) inside));
      }
