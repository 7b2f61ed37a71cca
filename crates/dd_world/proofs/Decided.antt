-- Each test decides what it means.
use Rattle.std.proofs.Common.{◌≡◌, ◌∙◌, ℕ, ◌<◌, ◌==◌, Bool, false, not, ◌&&◌, nat_lt, List, length, Some, ap, refl, subst, sym, inl, inr, arith}
use Rattle.std.specs.Bool.{Decides}
use Rattle.std.proofs.lemmas.Bool.{and_from, and_parts}
use Rattle.std.specs.List.{All, Any, list_all, slice_get}
use Rattle.std.specs.Option.{option_map_or}
use Rattle.std.proofs.lemmas.Bool.Decides.{Decides-like, Decides-and, Decides-not, Decides-eqb, Decides-ltb, Decides-by_and}
use Rattle.std.proofs.lemmas.List.Folds.{Any-from_list_any, list_any-from_Any}
use Rattle.std.proofs.lemmas.Option.{slice_get_cases}
use Rattle.dd_concept.specs.declared.concept.Axiom.{Axiom}
use Rattle.dd_concept.specs.declared.concept.Concept.{Concept}
use Rattle.dd_interp.specs.declared.interp.Interp.{Interp}
use Rattle.dd_interp.specs.Meaning.{meaning}
use Rattle.dd_interp.specs.Satisfies.{IsShaped}
use Rattle.dd_peer.specs.declared.version.Pinned.{Pinned}
use Rattle.dd_peer.specs.declared.version.Rule.{Rule}
use Rattle.dd_world.specs.declared.world.World.{World}
use Rattle.dd_world.specs.Elements.{size_at, holds_at, HoldsAt}
use Rattle.dd_world.specs.World.{IsLink, IsWorld, SatisfiesAt, SatisfiesInto, LeadsTo, SatisfiesOnto}
use Rattle.dd_world.specs.Tests.{has_shape, is_link, is_world, passes, is_under, satisfies_axiom, joins, keeps_into, satisfies_into, leads_to, is_reached, keeps_onto, satisfies_onto}
use Rattle.dd_world.proofs.Tables.{decides_implied}
use Rattle.dd_world.proofs.Below.{decides_below}

decides_all : {X : Type 0} (p : X → Bool) (P : X → Type 0) → ((x : X) → Decides (p x) (P x)) → (xs : List X) → Decides (list_all p xs) (All P xs)
decides_all p P each xs = Decides-by_and p P (list_all p) each refl (λ x ys. refl) xs

pub decides_shape : (i : Interp) → Decides (has_shape i) (IsShaped i)
decides_shape i = Decides-like (has_shape i) (λ h. record { names = h.0; roles = h.1 }) (λ h. (h.names, h.roles))
    (Decides-and (list_all (λ (p : ℕ × ℕ). nat_lt p.1 i.size) i.names) (list_all (λ (t : ℕ × ℕ × ℕ). nat_lt t.1 i.size && nat_lt t.2 i.size) i.roles)
    (decides_all (λ (p : ℕ × ℕ). nat_lt p.1 i.size) (λ p. p.1 < i.size) (λ p. Decides-ltb p.1 i.size) i.names)
    (decides_all (λ (t : ℕ × ℕ × ℕ). nat_lt t.1 i.size && nat_lt t.2 i.size) (λ t. (t.1 < i.size) × (t.2 < i.size))
    (λ t. Decides-and (nat_lt t.1 i.size) (nat_lt t.2 i.size) (Decides-ltb t.1 i.size) (Decides-ltb t.2 i.size)) i.roles))

decides_link : (w : World) (l : ℕ × ℕ × ℕ × ℕ) → Decides (is_link w l) (IsLink w l)
decides_link w l = Decides-like (is_link w l) (λ h. record { others = h.0; from = h.1.0; to = h.1.1 }) (λ h. (h.others, (h.from, h.to)))
    (Decides-and (not (l.0 == l.1)) (nat_lt l.2 (size_at w l.0) && nat_lt l.3 (size_at w l.1))
    (Decides-not (l.0 == l.1) (Decides-eqb l.0 l.1))
    (Decides-and (nat_lt l.2 (size_at w l.0)) (nat_lt l.3 (size_at w l.1)) (Decides-ltb l.2 (size_at w l.0)) (Decides-ltb l.3 (size_at w l.1))))

pub decides_world : (p : Pinned) (w : World) → Decides (is_world p w) (IsWorld p w)
decides_world p w = Decides-like (is_world p w) (λ h. record { one_each = h.0; shaped = h.1.0; links = h.1.1 }) (λ h. (h.one_each, (h.shaped, h.links)))
    (Decides-and (length w.locals == length p.peers) (list_all has_shape w.locals && list_all (is_link w) w.links)
    (Decides-eqb (length w.locals) (length p.peers))
    (Decides-and (list_all has_shape w.locals) (list_all (is_link w) w.links)
    (decides_all has_shape IsShaped decides_shape w.locals) (decides_all (is_link w) (IsLink w) (decides_link w) w.links)))

pub decides_under : (w : World) (j : ℕ) (c d : Concept)
    → Decides (is_under w j c d) ((x : ℕ) → x < size_at w j → HoldsAt w j x c → HoldsAt w j x d)
decides_under w j c d = decides_below (passes w j c d) (λ x. HoldsAt w j x c → HoldsAt w j x d)
    (λ x. decides_implied (holds_at w j x c) (holds_at w j x d) (λ e. e, λ e. e)) (size_at w j)

module _ (w : World) (j : ℕ) where
  pub size_is : (i : Interp) → slice_get w.locals j ≡ Some i → size_at w j ≡ i.size
  size_is i e = ap (λ o. option_map_or (λ (local : Interp). local.size) o 0) e

  pub holds_is : (i : Interp) → slice_get w.locals j ≡ Some i → (x : ℕ) (c : Concept) → holds_at w j x c ≡ meaning i c x
  holds_is i e x c = ap (λ o. option_map_or (λ local. meaning local c x) o false) e

  -- a peer with an element has an interpretation
  pub local_of : (x : ℕ) → x < size_at w j → (i : Interp) × (slice_get w.locals j ≡ Some i)
  local_of x lt = elim ((slice_get_cases w.locals j).1) [
    | inl h ↦ (h.0, h.2)
    | inr h ↦
        let none : size_at w j ≡ 0 = ap (λ o. option_map_or (λ (local : Interp). local.size) o 0) h.1 in
        absurd (omega (arith, none, lt))
  ]

  pub decides_axiom : (a : Axiom) → Decides (satisfies_axiom w j a) (SatisfiesAt w j a)
  decides_axiom a = decides_under w j a.left a.right

  module _ (r : Rule) where
    joined : (l : ℕ × ℕ × ℕ × ℕ) → Decides (joins j r l) ((l.0 ≡ r.from) × (l.1 ≡ j))
    joined l = Decides-and (l.0 == r.from) (l.1 == j) (Decides-eqb l.0 r.from) (Decides-eqb l.1 j)

    keeping : (l : ℕ × ℕ × ℕ × ℕ) → Decides (keeps_into w j r l)
        (l.0 ≡ r.from → l.1 ≡ j → HoldsAt w r.from l.2 r.source → HoldsAt w j l.3 r.target)
    keeping l =
        let start : Bool = holds_at w r.from l.2 r.source in
        Decides-like (keeps_into w j r l)
        (λ f e g h. f (and_from (joins j r l) start ((joined l).1 (e, g)) h))
        (λ f e. let h = and_parts (joins j r l) start e in let k = (joined l).0 h.0 in f k.0 k.1 h.1)
        (decides_implied (joins j r l && start) (holds_at w j l.3 r.target) (λ e. e, λ e. e))

    pub decides_into : Decides (satisfies_into w j r) (SatisfiesInto w j r)
    decides_into = decides_all (keeps_into w j r)
        (λ l. l.0 ≡ r.from → l.1 ≡ j → HoldsAt w r.from l.2 r.source → HoldsAt w j l.3 r.target) keeping w.links

    leading : (b : ℕ) (l : ℕ × ℕ × ℕ × ℕ) → Decides (leads_to w j r b l) (LeadsTo w j r b l)
    leading b l = Decides-like (leads_to w j r b l)
        (λ h. record { from = h.0.0.0; to = h.0.0.1; end = h.0.1; source = h.1 })
        (λ h. (((h.from, h.to), h.end), h.source))
        (Decides-and (joins j r l && (l.3 == b)) (holds_at w r.from l.2 r.source)
        (Decides-and (joins j r l) (l.3 == b) (joined l) (Decides-eqb l.3 b)) (λ e. e, λ e. e))

    reaching : (b : ℕ) → Decides (is_reached w j r b) (Any (LeadsTo w j r b) w.links)
    reaching b = (
      λ e. let h = Any-from_list_any (leads_to w j r b) w.links e in (h.0, h.1, h.2, h.3, (leading b h.1).0 h.4),
      λ h. list_any-from_Any (leads_to w j r b) w.links (h.0, h.1, h.2, h.3, (leading b h.1).1 h.4),
    )

    pub decides_onto : Decides (satisfies_onto w j r) (SatisfiesOnto w j r)
    decides_onto = decides_below (keeps_onto w j r) (λ b. HoldsAt w j b r.target → Any (LeadsTo w j r b) w.links)
        (λ b. decides_implied (holds_at w j b r.target) (is_reached w j r b) (reaching b)) (size_at w j)
