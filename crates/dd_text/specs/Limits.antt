-- For private clauses: what the reader tests of the sides of an axiom before it builds them, and what it says where building fails. What is
-- said of a text, by its terms, stands in Reads.
use Rattle.std.specs.Prelude.{◌≡◌, ℕ, ◌≤◌, length}
use Rattle.dd_text.specs.Reads.{IsFirstOver, told}
use Rattle.dd_text.specs.declared.build.BuildErr.{BuildErr}
use Rattle.dd_text.specs.declared.build.BuildErr.TheVariants as built
use Rattle.dd_text.specs.declared.parts.Sides.{Sides}
use Rattle.dd_text.specs.declared.read.Limits.{Limits}
use Rattle.dd_text.specs.declared.read.TextErr.{TextErr}
use Rattle.dd_text.specs.declared.read.TextErr.TheVariants as err

-- the sides that were read are within the limits
pub record AreWithin (limits : Limits) (s : Sides) : Type 0 where
  pub left_nodes : length s.left.signs ≤ limits.nodes
  pub right_nodes : length s.right.signs ≤ limits.nodes
  pub left_depth : s.left.depth ≤ limits.depth
  pub right_depth : s.right.depth ≤ limits.depth

-- why they are not: the nodes are tested before the depths, and the left side before the right one
abbrev pub OverSides : Limits → Sides → TextErr → Type 0
OverSides limits s (err.TooLarge nodes) = (n : ℕ) × IsFirstOver limits.nodes (length s.left.signs) (length s.right.signs) n × (nodes ≡ told n)
OverSides limits s (err.TooDeep depth) =
    (length s.left.signs ≤ limits.nodes) × (length s.right.signs ≤ limits.nodes) × (n : ℕ) × IsFirstOver limits.depth s.left.depth s.right.depth n × (depth ≡ told n)
OverSides limits s e = ⊥

-- why what was read could not be built
abbrev pub refusal_of : BuildErr → TextErr
refusal_of built.SymbolsFull = err.SymbolsFull
refusal_of built.NoMemory = err.NoMemory
