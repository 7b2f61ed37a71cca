-- The law of the negation normal form.
use Rattle.std.specs.Prelude.{ℕ, ◌≡◌, not}
use Rattle.dd_concept.specs.declared.concept.Concept.{Concept}
use Rattle.dd_concept.specs.Normal.{nnf_of, nnf_not_of}
use Rattle.dd_interp.specs.declared.interp.Interp.{Interp}
use Rattle.dd_interp.specs.Meaning.{meaning}

-- at every element of every interpretation, the normal form holds exactly where the concept does, and the normal form of the
-- complement exactly where it does not
pub record NormalFormsKeepMeaning : Type 0 where
  pub same : (i : Interp) (c : Concept) (x : ℕ) → meaning i (nnf_of c) x ≡ meaning i c x
  pub complement : (i : Interp) (c : Concept) (x : ℕ) → meaning i (nnf_not_of c) x ≡ not (meaning i c x)
