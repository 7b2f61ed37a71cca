-- Concepts as rows, each of which names its parts by the numbers of rows before it.
use Rattle.std.specs.Prelude.{◌≡◌, ℕ, ◌<◌, ◌≤◌, ◌++◌, true, List, [], ◌∷◌, length, fold, slice_get, Some}
use Rattle.dd_concept.specs.declared.concept.Concept.{Concept}
use Rattle.dd_concept.specs.declared.concept.Concept.TheVariants as concept
use Rattle.dd_concept.specs.Normal.{nnf_of, nnf_not_of}
use Rattle.dd_rules.specs.Closure.{are_distinct}
use Rattle.dd_rules.specs.Compiled.{concept_at}
use Rattle.dd_rules.specs.declared.row.Form.{Form}
use Rattle.dd_rules.specs.declared.row.Form.TheVariants as form
use Rattle.dd_rules.specs.declared.row.Row.{Row}
use Rattle.dd_rules.specs.declared.row.Row.TheVariants as row

-- the concept of a row, whose parts are among the concepts before it
abbrev pub concept_of : List Concept → Row → Concept
concept_of cs row.Top = concept.Top
concept_of cs row.Bottom = concept.Bottom
concept_of cs (row.Name a) = concept.Name a
concept_of cs (row.Not l) = concept.Not (concept_at cs l)
concept_of cs (row.And l r) = concept.And (concept_at cs l) (concept_at cs r)
concept_of cs (row.Or l r) = concept.Or (concept_at cs l) (concept_at cs r)
concept_of cs (row.HasSome s l) = concept.HasSome s (concept_at cs l)
concept_of cs (row.HasAll s l) = concept.HasAll s (concept_at cs l)

abbrev pub with_row : List Concept → Row → List Concept
with_row cs r = cs ++ concept_of cs r ∷ []

-- the concepts of the rows, each at its row's number
abbrev pub trees : List Row → List Concept
trees rows = fold with_row [] rows

-- the parts of the row are below the number
abbrev pub IsWithin : Row → ℕ → Type 0
IsWithin (row.Not l) n = l < n
IsWithin (row.And l r) n = (l < n) × (r < n)
IsWithin (row.Or l r) n = (l < n) × (r < n)
IsWithin (row.HasSome s l) n = l < n
IsWithin (row.HasAll s l) n = l < n
IsWithin _ n = Unit {0}

-- rows with their parts before them, no concept twice
pub record IsRows (rows : List Row) : Type 0 where
  pub few : length rows ≤ 4294967295
  pub behind : (i : ℕ) (r : Row) → slice_get rows i ≡ Some r → IsWithin r i
  pub distinct : are_distinct (trees rows) ≡ true

-- the list has the other for its front
pub record Appends (xs zs : List Concept) : Type 0 where
  pub more : List Concept
  pub appended : zs ≡ xs ++ more

-- ---- which concept is meant by a tree

abbrev pub formed : Form → Concept → Concept
formed form.Itself c = c
formed form.Normal c = nnf_of c
formed form.Complement c = nnf_not_of c

abbrev pub top_row : Form → Row
top_row form.Complement = row.Bottom
top_row _ = row.Top

abbrev pub bottom_row : Form → Row
bottom_row form.Complement = row.Top
bottom_row _ = row.Bottom

abbrev pub and_row : Form → ℕ → ℕ → Row
and_row form.Complement l r = row.Or l r
and_row _ l r = row.And l r

abbrev pub or_row : Form → ℕ → ℕ → Row
or_row form.Complement l r = row.And l r
or_row _ l r = row.Or l r

abbrev pub some_row : Form → ℕ → ℕ → Row
some_row form.Complement s l = row.HasAll s l
some_row _ s l = row.HasSome s l

abbrev pub all_row : Form → ℕ → ℕ → Row
all_row form.Complement s l = row.HasSome s l
all_row _ s l = row.HasAll s l
