-- The disjoint union of two local interpretations: the elements of the second come behind those of the first.
use Rattle.std.specs.Prelude.{ℕ, ◌+◌, ◌<◌, ◌≡◌, ◌++◌, map}
use Rattle.dd_concept.specs.declared.concept.Concept.{Concept}
use Rattle.dd_interp.specs.declared.interp.Interp.{Interp}
use Rattle.dd_interp.specs.Meaning.{meaning}

-- an element in a concept name, moved up by n
abbrev pub raise_name : ℕ → ℕ × ℕ → ℕ × ℕ
raise_name n p = (p.0, p.1 + n)

-- a pair of elements in a role, both moved up by n
abbrev pub raise_role : ℕ → ℕ × ℕ × ℕ → ℕ × ℕ × ℕ
raise_role n t = (t.0, t.1 + n, t.2 + n)

-- the elements of the second move up by the size of the first
abbrev pub union_of : Interp → Interp → Interp
union_of i j = record {
  size = i.size + j.size;
  names = i.names ++ map (raise_name i.size) j.names;
  roles = i.roles ++ map (raise_role i.size) j.roles;
}

-- every concept holds at an element of either exactly where it holds at the element's place in the new interpretation
pub record KeepsEach (first second new : Interp) : Type 0 where
  pub lower : (c : Concept) (x : ℕ) → x < first.size → meaning new c x ≡ meaning first c x
  pub upper : (c : Concept) (x : ℕ) → x < second.size → meaning new c (x + first.size) ≡ meaning second c x
