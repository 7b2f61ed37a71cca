-- A test at each element of a peer is a test at the elements that its lists name.
use Rattle.std.proofs.Common.{◌≡◌, ◌∙◌, ℕ, ◌<◌, Bool, true, false, not, ◌&&◌, ◌||◌, nat_eq, slice_index_or, List, [], Option, None, Some, ap, refl, subst, arith}
use Rattle.std.specs.List.{All, list_any, slice_get}
use Rattle.std.specs.Option.{option_map_or}
use Rattle.std.proofs.lemmas.Bool.{and_parts, eqb-true, false_from_ne_true, or_left}
use Rattle.std.proofs.lemmas.List.Folds.{list_any_none}
use Rattle.std.proofs.lemmas.List.Elements.{All-nil, All-weaker}
use Rattle.std.proofs.lemmas.Option.{get_or_from_slice_get, slice_get_within}
use Rattle.dd_concept.specs.declared.concept.Concept.{Concept}
use Rattle.dd_interp.specs.declared.interp.Interp.{Interp}
use Rattle.dd_interp.specs.Meaning.{meaning}
use Rattle.dd_interp.specs.Satisfies.{IsShaped}
use Rattle.dd_peer.specs.declared.version.Rule.{Rule}
use Rattle.dd_world.specs.declared.world.World.{World}
use Rattle.dd_world.specs.Named.{all_named, names_at, roles_at}
use Rattle.dd_world.specs.World.{IsLink}
use Rattle.dd_world.specs.Elements.{size_at, holds_at}
use Rattle.dd_world.specs.Tests.{all_below, is_under, passes, joins, leads_to, is_reached, keeps_onto, satisfies_onto}
use Rattle.dd_world.proofs.Unnamed.{IsUnnamed, named-bound, named_are_all, meaning-unnamed}

names_of : Option Interp → List (ℕ × ℕ)
names_of o = option_map_or (λ (i : Interp). i.names) o []

roles_of : Option Interp → List (ℕ × ℕ × ℕ)
roles_of o = option_map_or (λ (i : Interp). i.roles) o []

size_of : Option Interp → ℕ
size_of o = option_map_or (λ (i : Interp). i.size) o 0

-- the elements that the lists of a peer name are below its size
record IsBelow (o : Option Interp) : Type 0 where
  pub names : All (λ a. a.1 < size_of o) (names_of o)
  pub starts : All (λ t. t.1 < size_of o) (roles_of o)

below : (o : Option Interp) → ((i : Interp) → o ≡ Some i → IsShaped i) → IsBelow o
unfolding names_of roles_of size_of
below None h = record { names = All-nil (λ (a : ℕ × ℕ). a.1 < 0); starts = All-nil (λ (t : ℕ × ℕ × ℕ). t.1 < 0) }
below (Some i) h = record {
  names = (h i refl).names;
  starts = All-weaker (λ (t : ℕ × ℕ × ℕ). (t.1 < i.size) × (t.2 < i.size)) (λ t. t.1 < i.size) (λ t k. k.0) i.roles (h i refl).roles;
}

holds_unnamed : (o : Option Interp) (x y : ℕ) → IsUnnamed (names_of o) (roles_of o) x → IsUnnamed (names_of o) (roles_of o) y → (c : Concept)
    → option_map_or (λ i. meaning i c x) o false ≡ option_map_or (λ i. meaning i c y) o false
unfolding names_of roles_of
holds_unnamed None x y h k c = refl
holds_unnamed (Some i) x y h k c = meaning-unnamed i x y h k c

outside_of : (a b : Bool) → (a || b) ≡ true → b ≡ false → a ≡ true
outside_of true b e f = refl
outside_of false b e f = cc

module _ (w : World) (j : ℕ) (shaped : All IsShaped w.locals) where
  shaped_at : (i : Interp) → slice_get w.locals j ≡ Some i → IsShaped i
  shaped_at i e = subst IsShaped (get_or_from_slice_get w.locals j i i e) (shaped j i (slice_get_within w.locals j i e))

  below_at : IsBelow (slice_get w.locals j)
  below_at = below (slice_get w.locals j) shaped_at

  -- the number of elements is no element
  unnamed_size : IsUnnamed (names_at w j) (roles_at w j) (size_at w j)
  unfolding names_of roles_of size_of
  unnamed_size = record {
    in_none = named-bound (ℕ × ℕ) (λ a. a.1) (size_at w j) (names_at w j) below_at.names;
    at_none = named-bound (ℕ × ℕ × ℕ) (λ t. t.1) (size_at w j) (roles_at w j) below_at.starts;
  }

  -- an unnamed element has what that number has
  pub holds-unnamed : (x : ℕ) → IsUnnamed (names_at w j) (roles_at w j) x → (c : Concept) → holds_at w j x c ≡ holds_at w j (size_at w j) c
  unfolding names_of roles_of
  holds-unnamed x h c = holds_unnamed (slice_get w.locals j) x (size_at w j) h unnamed_size c

  -- a test that unnamed elements pass is passed at each element where it is passed at the named ones
  pub named_suffice : (p : ℕ → Bool) → ((x : ℕ) → IsUnnamed (names_at w j) (roles_at w j) x → p x ≡ true)
      → all_named w j p ≡ all_below (size_at w j) p
  unfolding names_of roles_of size_of
  named_suffice p others = named_are_all p (size_at w j) (names_at w j) (roles_at w j) below_at.names below_at.starts
      (λ x h k. others x (record { in_none = h; at_none = k }))

  pub is_under-named : (c d : Concept) → passes w j c d (size_at w j) ≡ true
      → all_named w j (passes w j c d) ≡ is_under w j c d
  is_under-named c d e = named_suffice (passes w j c d) (λ x h.
      ap (λ v. not v || holds_at w j x d) (holds-unnamed x h c) ∙ ap (λ v. not (holds_at w j (size_at w j) c) || v) (holds-unnamed x h d) ∙ e)

  -- no link leads to that number
  none_leads : (r : Rule) (links : List (ℕ × ℕ × ℕ × ℕ)) → All (IsLink w) links → list_any (leads_to w j r (size_at w j)) links ≡ false
  none_leads r links h = list_any_none (leads_to w j r (size_at w j)) links (λ k d lt.
      no_lead r (slice_index_or links k d) (h k d lt)) where
        no_lead : (r : Rule) (l : ℕ × ℕ × ℕ × ℕ) → IsLink w l → leads_to w j r (size_at w j) l ≡ false
        no_lead r l h = false_from_ne_true (leads_to w j r (size_at w j) l) (λ e.
            let sides = and_parts (joins j r l && nat_eq l.3 (size_at w j)) (holds_at w r.from l.2 r.source) e in
            let ends = and_parts (joins j r l) (nat_eq l.3 (size_at w j)) sides.0 in
            let peers = and_parts (nat_eq l.0 r.from) (nat_eq l.1 j) ends.0 in
            let to : l.1 ≡ j = eqb-true l.1 j peers.1 in
            let lt : l.3 < size_at w j = subst (λ i. l.3 < size_at w i) to h.to in
            let end : l.3 ≡ size_at w j = eqb-true l.3 (size_at w j) ends.1 in
            absurd (omega (arith, lt, end)))

  pub satisfies_onto-named : (r : Rule) → All (IsLink w) w.links → keeps_onto w j r (size_at w j) ≡ true
      → all_named w j (keeps_onto w j r) ≡ satisfies_onto w j r
  satisfies_onto-named r h e = named_suffice (keeps_onto w j r) (λ x u.
      let outside : not (holds_at w j (size_at w j) r.target) ≡ true = outside_of (not (holds_at w j (size_at w j) r.target))
      (is_reached w j r (size_at w j)) e (none_leads r w.links h) in
      or_left (not (holds_at w j x r.target)) (is_reached w j r x) (ap not (holds-unnamed x u r.target) ∙ outside))
