-- A world that is emptied at the peers that are not in a list.
use Rattle.std.proofs.Common.{◌≡◌, ◌∙◌, ℕ, zero, suc, ◌+◌, ◌<◌, Bool, true, false, ◌&&◌, List, [], ◌∷◌, length, Option, None, Some, ap, refl, subst, sym, inl, inr, arith}
use Rattle.std.specs.List.{All, Any, slice_get, filter}
use Rattle.std.specs.Option.{option_map, option_map_or}
use Rattle.std.specs.Prelude.{IsTrue}
use Rattle.std.proofs.lemmas.Bool.{cases_Bool, and_parts}
use Rattle.std.proofs.lemmas.Option.{same_Some, slice_get_within, get_or_from_slice_get, slice_get_read}
use Rattle.dd_concept.specs.declared.concept.Axiom.{Axiom}
use Rattle.dd_concept.specs.declared.concept.Concept.{Concept}
use Rattle.dd_interp.specs.declared.interp.Interp.{Interp}
use Rattle.dd_interp.specs.Meaning.{meaning}
use Rattle.dd_interp.specs.Satisfies.{IsShaped}
use Rattle.dd_peer.specs.declared.version.Pinned.{Pinned}
use Rattle.dd_peer.specs.declared.version.PeerVersion.{PeerVersion}
use Rattle.dd_peer.specs.declared.version.Query.{Query}
use Rattle.dd_peer.specs.declared.version.Rule.{Rule}
use Rattle.dd_peer.specs.Relevant.{is_in}
use Rattle.dd_world.specs.declared.world.World.{World}
use Rattle.dd_world.specs.Elements.{size_at, holds_at, IsElement, HoldsAt}
use Rattle.dd_world.specs.World.{IsLink, IsWorld, SatisfiesAt, SatisfiesInto, SatisfiesOnto, LeadsTo, SatisfiesVersion, SatisfiesWorld}
use Rattle.dd_task.proofs.Places.{All-at, All-from, at-filter, passes_filter, before_filter}

abbrev pub nobody : Interp
nobody = record { size = 0; names = []; roles = [] }

abbrev pub kept : Bool → Interp → Interp
kept true i = i
kept false i = nobody

module _ (rs : List ℕ) where
  -- the interpretations from peer n on, emptied where the peer is not in the list
  abbrev pub locals_from : ℕ → List Interp → List Interp
  locals_from n [] = []
  locals_from n (i ∷ is) = kept (is_in rs n) i ∷ locals_from (n + 1) is

  abbrev pub within : ℕ × ℕ × ℕ × ℕ → Bool
  within link = is_in rs link.0 && is_in rs link.1

  abbrev pub restricted : World → World
  restricted w = record { locals = locals_from 0 w.locals; links = filter within w.links }

  local-at : (n : ℕ) (is : List Interp) (k : ℕ) → slice_get (locals_from n is) k ≡ option_map (kept (is_in rs (n + k))) (slice_get is k)
  local-at n [] k = refl
  local-at n (i ∷ is) zero = ap (λ m. Some (kept (is_in rs m) i)) (let e : n ≡ n + 0 = omega arith in e)
  local-at n (i ∷ is) (suc k) = local-at (n + 1) is k ∙ ap (λ m. option_map (kept (is_in rs m)) (slice_get is k)) (let e : n + 1 + k ≡ n + suc k = omega arith in e)

  locals-length : (n : ℕ) (is : List Interp) → length (locals_from n is) ≡ length is
  locals-length n [] = refl
  locals-length n (i ∷ is) = ap suc (locals-length (n + 1) is)

  module _ (w : World) where
    local_is : (k : ℕ) → slice_get (restricted w).locals k ≡ option_map (kept (is_in rs k)) (slice_get w.locals k)
    local_is k = local-at 0 w.locals k ∙ ap (λ m. option_map (kept (is_in rs m)) (slice_get w.locals k)) (let e : 0 + k ≡ k = omega arith in e)

    same_there : (k : ℕ) → is_in rs k ≡ true → slice_get (restricted w).locals k ≡ slice_get w.locals k
    same_there k is = local_is k ∙ ap (λ b. option_map (kept b) (slice_get w.locals k)) is ∙ all (slice_get w.locals k)
      where
        all : (o : Option Interp) → option_map (kept true) o ≡ o
        all None = refl
        all (Some i) = refl

    size-there : (k : ℕ) → is_in rs k ≡ true → size_at (restricted w) k ≡ size_at w k
    size-there k is = ap (λ (o : Option Interp). option_map_or (λ (local : Interp). local.size) o 0) (same_there k is)

    holds-there : (k x : ℕ) (c : Concept) → is_in rs k ≡ true → holds_at (restricted w) k x c ≡ holds_at w k x c
    holds-there k x c is = ap (λ (o : Option Interp). option_map_or (λ local. meaning local c x) o false) (same_there k is)

    pub size-elsewhere : (k : ℕ) → is_in rs k ≡ false → size_at (restricted w) k ≡ 0
    size-elsewhere k out = ap (λ (o : Option Interp). option_map_or (λ (local : Interp). local.size) o 0)
        (local_is k ∙ ap (λ b. option_map (kept b) (slice_get w.locals k)) out) ∙ none (slice_get w.locals k)
      where
        none : (o : Option Interp) → option_map_or (λ (local : Interp). local.size) (option_map (kept false) o) 0 ≡ 0
        none None = refl
        none (Some i) = refl

    -- an element of the emptied world is one of the world, at a peer of the list
    element-there : (k x : ℕ) → IsElement (restricted w) k x → is_in rs k ≡ true
    element-there k x h = elim (cases_Bool (is_in rs k)) [
      | inl is ↦ is
      | inr out ↦ let zero : size_at (restricted w) k ≡ 0 = size-elsewhere k out in absurd (omega (arith, h, zero))
    ]

    pub element-before : (k x : ℕ) → IsElement (restricted w) k x → IsElement w k x
    element-before k x h = subst (λ n. x < n) (size-there k (element-there k x h)) h

    pub element-after : (k x : ℕ) → is_in rs k ≡ true → IsElement w k x → IsElement (restricted w) k x
    element-after k x is h = subst (λ n. x < n) (sym (size-there k is)) h

    pub holds-before : (k x : ℕ) (c : Concept) → is_in rs k ≡ true → HoldsAt (restricted w) k x c → HoldsAt w k x c
    holds-before k x c is h = sym (holds-there k x c is) ∙ h

    pub holds-after : (k x : ℕ) (c : Concept) → is_in rs k ≡ true → HoldsAt w k x c → HoldsAt (restricted w) k x c
    holds-after k x c is h = holds-there k x c is ∙ h

    abbrev Link : Type 0
    Link = ℕ × ℕ × ℕ × ℕ

    link-parts : (k : ℕ) (link : Link) → slice_get (restricted w).links k ≡ Some link → (is_in rs link.0 ≡ true) × (is_in rs link.1 ≡ true)
    link-parts k link at = and_parts (is_in rs link.0) (is_in rs link.1) (passes_filter Link within w.links k link at)

    pub restricted_world : (p q : Pinned) → length q.peers ≡ length p.peers → IsWorld p w → IsWorld q (restricted w)
    restricted_world p q count h = record {
      one_each = locals-length 0 w.locals ∙ h.one_each ∙ sym count;
      shaped = All-from Interp IsShaped (restricted w).locals (λ k i at. shaped k i (sym (local_is k) ∙ at));
      links = All-from Link (IsLink (restricted w)) (restricted w).links (λ k link at. let inside = link-parts k link at in let before = before_filter Link within w.links k link at in
          let old = All-at Link (IsLink w) w.links before.0 link h.links before.1 in
          record { others = old.others; from = element-after link.0 link.2 inside.0 old.from; to = element-after link.1 link.3 inside.1 old.to });
    }
      where
        none : IsShaped nobody
        none = record { names = λ k d lt. absurd (omega (arith, lt)); roles = λ k d lt. absurd (omega (arith, lt)) }

        shaped_kept : (b : Bool) (i : Interp) → IsShaped i → IsShaped (kept b i)
        shaped_kept true i s = s
        shaped_kept false i s = none

        shaped_at : (k : ℕ) (b : Bool) (i : Interp) (o : Option Interp) → slice_get w.locals k ≡ o → option_map (kept b) o ≡ Some i → IsShaped i
        shaped_at k b i None is e = cc
        shaped_at k b i (Some j) is e = subst IsShaped (same_Some (kept b j) i e) (shaped_kept b j (All-at Interp IsShaped w.locals k j h.shaped is))

        shaped : (k : ℕ) (i : Interp) → option_map (kept (is_in rs k)) (slice_get w.locals k) ≡ Some i → IsShaped i
        shaped k i e = shaped_at k (is_in rs k) i (slice_get w.locals k) refl e

    -- a version that a peer of the list keeps, all whose rules come from peers of the list, is satisfied as before
    pub restricted_version : (j : ℕ) (v : PeerVersion) → is_in rs j ≡ true → All (λ (r : Rule). is_in rs r.from ≡ true) v.into → All (λ (r : Rule). is_in rs r.from ≡ true) v.onto
        → SatisfiesVersion w j v → SatisfiesVersion (restricted w) j v
    restricted_version j v is into onto h = record {
      axioms = All-from Axiom (SatisfiesAt (restricted w) j) v.axioms (λ k a at x el left.
          holds-after j x a.right is (All-at Axiom (SatisfiesAt w j) v.axioms k a h.axioms at x (element-before j x el) (holds-before j x a.left is left)));
      into = All-from Rule (SatisfiesInto (restricted w) j) v.into (λ k r at. into_at r (All-at Rule (λ (r : Rule). is_in rs r.from ≡ true) v.into k r into at) (All-at Rule (SatisfiesInto w j) v.into k r h.into at));
      onto = All-from Rule (SatisfiesOnto (restricted w) j) v.onto (λ k r at. onto_at r (All-at Rule (λ (r : Rule). is_in rs r.from ≡ true) v.onto k r onto at) (All-at Rule (SatisfiesOnto w j) v.onto k r h.onto at));
    }
      where
        into_at : (r : Rule) → is_in rs r.from ≡ true → SatisfiesInto w j r → SatisfiesInto (restricted w) j r
        into_at r from s = All-from Link (λ link. link.0 ≡ r.from → link.1 ≡ j → HoldsAt (restricted w) r.from link.2 r.source → HoldsAt (restricted w) j link.3 r.target) (restricted w).links
            (λ k link at start end source. let before = before_filter Link within w.links k link at in
            holds-after j link.3 r.target is (All-at Link (λ link. link.0 ≡ r.from → link.1 ≡ j → HoldsAt w r.from link.2 r.source → HoldsAt w j link.3 r.target) w.links before.0 link s before.1
            start end (holds-before r.from link.2 r.source from source)))

        onto_at : (r : Rule) → is_in rs r.from ≡ true → SatisfiesOnto w j r → SatisfiesOnto (restricted w) j r
        onto_at r from s b el target =
            let found = s b (element-before j b el) (holds-before j b r.target is target) in
            let link : Link = found.1 in
            let leads : LeadsTo w j r b link = found.4 in
            let at : slice_get w.links found.0 ≡ Some link = slice_get_read w.links (length w.links) found.0 link refl found.2 (sym found.3) in
            let both : within link ≡ true = ap (λ n. is_in rs n && is_in rs link.1) leads.from ∙ ap (λ n. is_in rs r.from && is_in rs n) leads.to ∙ ap (λ c. c && is_in rs j) from ∙ is in
            let now = at-filter Link within w.links found.0 link at both in (
              now.0,
              link,
              slice_get_within (restricted w).links now.0 link now.1,
              get_or_from_slice_get (restricted w).links now.0 link link now.1,
              record { from = leads.from; to = leads.to; end = leads.end; source = holds-after r.from link.2 r.source from leads.source },
            )

    -- a peer without elements satisfies any version
    pub empty_satisfies : (j : ℕ) (v : PeerVersion) → All (IsLink w) w.links → size_at w j ≡ 0 → SatisfiesVersion w j v
    empty_satisfies j v links empty = record {
      axioms = All-from Axiom (SatisfiesAt w j) v.axioms (λ k a at x el. absurd (none x el));
      into = All-from Rule (SatisfiesInto w j) v.into (λ k r at. All-from Link (λ link. link.0 ≡ r.from → link.1 ≡ j → HoldsAt w r.from link.2 r.source → HoldsAt w j link.3 r.target) w.links
          (λ n link here start end. absurd (none link.3 (subst (λ m. IsElement w m link.3) end (All-at Link (IsLink w) w.links n link links here).to))));
      onto = All-from Rule (SatisfiesOnto w j) v.onto (λ k r at b el. absurd (none b el));
    }
      where
        none : (x : ℕ) → IsElement w j x → ⊥
        none x el = omega (arith, el, empty)
