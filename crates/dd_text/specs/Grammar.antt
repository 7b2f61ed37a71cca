-- The texts of concepts and axioms. Each tree has one text, with one space where one is written and nowhere else.
use Rattle.std.specs.Prelude.{◌≡◌, ℕ, ◌+◌, ◌<◌, ◌≤◌, Bool, true, ◌&&◌, IsTrue, List, [], ◌∷◌, ◌++◌, length, take, max, codes}
use Rattle.dd_text.specs.Names.{names_a_thing}

-- a concept as it is written: names and roles stand for themselves
pub data Term : Type 0 where
  top : Term
  bottom : Term
  atomic : List ℕ → Term
  negation : Term → Term
  conjunction : Term → Term → Term
  disjunction : Term → Term → Term
  existential : List ℕ → Term → Term
  universal : List ℕ → Term → Term

-- a word and its parts in brackets
abbrev pub enclosed : List ℕ → List ℕ → List ℕ
enclosed word parts = 40 ∷ (word ++ 32 ∷ (parts ++ 41 ∷ []))

-- two parts with a space between them
abbrev pub spaced : List ℕ → List ℕ → List ℕ
spaced first second = first ++ 32 ∷ second

-- how a term is written
abbrev pub term_text : Term → List ℕ
term_text top = codes "top"
term_text bottom = codes "bottom"
term_text (atomic a) = a
term_text (negation c) = enclosed (codes "not") (term_text c)
term_text (conjunction c d) = enclosed (codes "and") (spaced (term_text c) (term_text d))
term_text (disjunction c d) = enclosed (codes "or") (spaced (term_text c) (term_text d))
term_text (existential r c) = enclosed (codes "some") (spaced r (term_text c))
term_text (universal r c) = enclosed (codes "all") (spaced r (term_text c))

-- how an axiom is written, whose sides are these terms
abbrev pub axiom_text : Term → Term → List ℕ
axiom_text left right = enclosed (codes "implies") (spaced (term_text left) (term_text right))

-- what stands for a name or a role has the form of a name
abbrev pub is_written : Term → Bool
is_written top = true
is_written bottom = true
is_written (atomic a) = names_a_thing a
is_written (negation c) = is_written c
is_written (conjunction c d) = is_written c && is_written d
is_written (disjunction c d) = is_written c && is_written d
is_written (existential r c) = names_a_thing r && is_written c
is_written (universal r c) = names_a_thing r && is_written c

-- the text is how this term is written
pub record Spells (text : List ℕ) (t : Term) : Type 0 where
  pub written : IsTrue (is_written t)
  pub text_is : text ≡ term_text t

-- the text is how an axiom with these sides is written
pub record SpellsAxiom (text : List ℕ) (left right : Term) : Type 0 where
  pub left_written : IsTrue (is_written left)
  pub right_written : IsTrue (is_written right)
  pub text_is : text ≡ axiom_text left right

abbrev pub IsConceptText : List ℕ → Type 0
IsConceptText text = (t : Term) × Spells text t

abbrev pub IsAxiomText : List ℕ → Type 0
IsAxiomText text = (left : Term) × (right : Term) × SpellsAxiom text left right

-- a text of the grammar begins with these bytes
abbrev pub Begins : (List ℕ → Type 0) → List ℕ → Type 0
Begins grammar front = (rest : List ℕ) × grammar (front ++ rest)

-- the text is not in the grammar, and `at` is the least number of its first bytes with which no text of the grammar
-- begins, or one more than all its bytes where there is none
pub record IsBadAt (grammar : List ℕ → Type 0) (text : List ℕ) (at : ℕ) : Type 0 where
  pub outside : grammar text → ⊥
  pub within : at ≤ length text + 1
  pub before : (n : ℕ) → n < at → Begins grammar (take n text)
  pub here : at ≤ length text → Begins grammar (take at text) → ⊥

-- how many nodes a term has: a role is none
abbrev pub term_nodes : Term → ℕ
term_nodes top = 1
term_nodes bottom = 1
term_nodes (atomic a) = 1
term_nodes (negation c) = term_nodes c + 1
term_nodes (conjunction c d) = term_nodes c + term_nodes d + 1
term_nodes (disjunction c d) = term_nodes c + term_nodes d + 1
term_nodes (existential r c) = term_nodes c + 1
term_nodes (universal r c) = term_nodes c + 1

-- how many nodes there are on the longest way down
abbrev pub term_depth : Term → ℕ
term_depth top = 1
term_depth bottom = 1
term_depth (atomic a) = 1
term_depth (negation c) = term_depth c + 1
term_depth (conjunction c d) = max (term_depth c) (term_depth d) + 1
term_depth (disjunction c d) = max (term_depth c) (term_depth d) + 1
term_depth (existential r c) = term_depth c + 1
term_depth (universal r c) = term_depth c + 1
