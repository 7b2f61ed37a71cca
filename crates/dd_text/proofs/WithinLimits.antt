-- The limits of concepts and of sides, as they were counted and as they are told of the text.
use Rattle.std.proofs.Common.{◌≡◌, ◌∙◌, ℕ, ◌≤◌, List, length, ap, subst, refl}
use Rattle.dd_text.specs.Symbols.{SymbolLists}
use Rattle.dd_text.specs.Grammar.{Term, term_nodes}
use Rattle.dd_text.specs.declared.build.BuildErr.{BuildErr}
use Rattle.dd_text.specs.declared.build.BuildErr.TheVariants as built
use Rattle.dd_text.specs.declared.parts.Part.{Part}
use Rattle.dd_text.specs.declared.parts.Sides.{Sides}
use Rattle.dd_text.specs.declared.read.Limits.{Limits}
use Rattle.dd_text.specs.declared.read.TextErr.{TextErr}
use Rattle.dd_text.specs.declared.read.TextErr.TheVariants as err
use Rattle.dd_text.specs.Parts.{IsPartOf, IsWholeAxiom}
use Rattle.dd_text.specs.Reads.{IsFirstOver, IsWithin, RefusesAxiom, RefusesConcept}
use Rattle.dd_text.specs.Limits.{AreWithin, OverSides, refusal_of}
use Rattle.dd_text.proofs.Building.{length-signs_of}

pub part_nodes : (p : Part) (t : Term) → IsPartOf p t → length p.signs ≡ term_nodes t
part_nodes p t h = ap length h.signs ∙ length-signs_of t

pub left_within : (limits : Limits) (text : List ℕ) (s : Sides) → (w : IsWholeAxiom text s) → AreWithin limits s → IsWithin limits w.left
left_within limits text s w h = record {
  nodes = subst (λ n. n ≤ limits.nodes) (part_nodes s.left w.left w.left_part) h.left_nodes;
  depth = subst (λ n. n ≤ limits.depth) w.left_part.depth h.left_depth;
}

pub right_within : (limits : Limits) (text : List ℕ) (s : Sides) → (w : IsWholeAxiom text s) → AreWithin limits s → IsWithin limits w.right
right_within limits text s w h = record {
  nodes = subst (λ n. n ≤ limits.nodes) (part_nodes s.right w.right w.right_part) h.right_nodes;
  depth = subst (λ n. n ≤ limits.depth) w.right_part.depth h.right_depth;
}

-- the first number above the limit, of equal numbers
pub first_over : (limit a b c d n : ℕ) → a ≡ c → b ≡ d → IsFirstOver limit a b n → IsFirstOver limit c d n
first_over limit a b c d n ha hb h = subst (λ k. IsFirstOver limit k d n) ha (subst (λ k. IsFirstOver limit a k n) hb h)

pub refuses : (old : SymbolLists) (limits : Limits) (text : List ℕ) (s : Sides) (e : TextErr) → IsWholeAxiom text s → OverSides limits s e → RefusesAxiom old limits text e
refuses old limits text s (err.Bad at) w h = absurd h
refuses old limits text s err.SymbolsFull w h = absurd h
refuses old limits text s err.NoMemory w h = absurd h
refuses old limits text s (err.TooLarge nodes) w h =
    (w.left, w.right, w.spelt, h.0, first_over limits.nodes _ _ _ _ h.0 (part_nodes s.left w.left w.left_part) (part_nodes s.right w.right w.right_part) h.1, h.2)
refuses old limits text s (err.TooDeep depth) w h = (
  w.left,
  w.right,
  w.spelt,
  subst (λ n. n ≤ limits.nodes) (part_nodes s.left w.left w.left_part) h.0,
  subst (λ n. n ≤ limits.nodes) (part_nodes s.right w.right w.right_part) h.1,
  h.2,
  first_over limits.depth _ _ _ _ h.2 w.left_part.depth w.right_part.depth h.3,
  h.4,
)

-- what could not be built is refused for the same cause
pub refuses_concept : (old : SymbolLists) (limits : Limits) (text : List ℕ) (e : BuildErr) → (e ≡ built.SymbolsFull → RefusesConcept old limits text err.SymbolsFull) → RefusesConcept old limits text (refusal_of e)
refuses_concept old limits text built.SymbolsFull h = h refl
refuses_concept old limits text built.NoMemory h = tt

pub refuses_axiom : (old : SymbolLists) (limits : Limits) (text : List ℕ) (e : BuildErr) → (e ≡ built.SymbolsFull → RefusesAxiom old limits text err.SymbolsFull) → RefusesAxiom old limits text (refusal_of e)
refuses_axiom old limits text built.SymbolsFull h = h refl
refuses_axiom old limits text built.NoMemory h = tt
