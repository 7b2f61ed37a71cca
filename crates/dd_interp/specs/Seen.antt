-- An interpretation seen at some of its elements.
use Rattle.std.specs.Prelude.{◌≡◌, ℕ, ◌<◌, ◌&&◌, Bool, true, nat_lt, List, length, slice_index}
use Rattle.std.specs.List.Sorted.{IsNonDecreasingBy}
use Rattle.dd_concept.specs.declared.concept.Concept.{Concept}
use Rattle.dd_set.specs.Words.{has, Label}
use Rattle.dd_interp.specs.declared.interp.Interp.{Interp}
use Rattle.dd_interp.specs.Meaning.{meaning}
use Rattle.dd_interp.specs.Satisfies.{IsShaped}

-- The second interpretation has an element for each one of the list, by its place there. A concept means there what it means in
-- the first interpretation at the element of the list.
pub record IsSeenAt (i : Interp) (elements : List ℕ) (seen : Interp) : Type 0 where
  pub size : seen.size ≡ length elements
  pub same : (c : Concept) (k : ℕ) → k < length elements → meaning seen c k ≡ meaning i c (slice_index elements k)

-- the row has the numbers below n that pass the test
pub record IsExtension (n : ℕ) (test : ℕ → Bool) (row : Label) : Type 0 where
  pub width : row.width ≡ n
  pub bits : (k : ℕ) → has row.words k ≡ (nat_lt k n && test k)

-- a shaped interpretation whose lists go by symbols, beside the row of all its elements
pub record IsChart (i : Interp) (all : Label) : Type 0 where
  pub shaped : IsShaped i
  pub names : IsNonDecreasingBy (λ p. p.0) i.names
  pub roles : IsNonDecreasingBy (λ t. t.0) i.roles
  pub full : IsExtension i.size (λ k. true) all
