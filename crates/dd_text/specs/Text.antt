-- What a text says over numbered names and roles, and how a concept is written over them.
use Rattle.std.specs.Prelude.{ℕ, Bool, true, ◌&&◌, nat_lt, List, [], ◌∷◌, ◌++◌, length, slice_get, unwrap_or}
use Rattle.dd_concept.specs.declared.concept.Concept.{Concept}
use Rattle.dd_concept.specs.declared.concept.Concept.TheOpen.{Concept-F}
use Rattle.dd_concept.specs.declared.concept.Concept.TheFolds.{fold-Concept}
use Rattle.dd_concept.specs.declared.concept.Concept.TheVariants as concept
use Rattle.dd_concept.specs.declared.concept.Axiom.{Axiom}
use Rattle.dd_text.specs.Grammar.{Term, top, bottom, atomic, negation, conjunction, disjunction, existential, universal, term_text, axiom_text}
use Rattle.dd_text.specs.Symbols.{SymbolLists, number_of, with_texts}

-- the names in a term, in the order of its text
abbrev pub names_in : Term → List (List ℕ)
names_in top = []
names_in bottom = []
names_in (atomic a) = a ∷ []
names_in (negation c) = names_in c
names_in (conjunction c d) = names_in c ++ names_in d
names_in (disjunction c d) = names_in c ++ names_in d
names_in (existential r c) = names_in c
names_in (universal r c) = names_in c

-- the roles in a term, in the order of its text
abbrev pub roles_in : Term → List (List ℕ)
roles_in top = []
roles_in bottom = []
roles_in (atomic a) = []
roles_in (negation c) = roles_in c
roles_in (conjunction c d) = roles_in c ++ roles_in d
roles_in (disjunction c d) = roles_in c ++ roles_in d
roles_in (existential r c) = r ∷ roles_in c
roles_in (universal r c) = r ∷ roles_in c

-- the symbols with those of a term, the new ones in the order of its text
abbrev pub with_term : SymbolLists → Term → SymbolLists
with_term s t = record { names = with_texts s.names (names_in t); roles = with_texts s.roles (roles_in t) }

-- the concept that a term is, by the numbers of its names and roles
abbrev pub concept_of : SymbolLists → Term → Concept
concept_of s top = concept.Top
concept_of s bottom = concept.Bottom
concept_of s (atomic a) = concept.Name (number_of s.names a)
concept_of s (negation c) = concept.Not (concept_of s c)
concept_of s (conjunction c d) = concept.And (concept_of s c) (concept_of s d)
concept_of s (disjunction c d) = concept.Or (concept_of s c) (concept_of s d)
concept_of s (existential r c) = concept.HasSome (number_of s.roles r) (concept_of s c)
concept_of s (universal r c) = concept.HasAll (number_of s.roles r) (concept_of s c)

abbrev pub axiom_of : SymbolLists → Term → Term → Axiom
axiom_of s left right = record { left = concept_of s left; right = concept_of s right }

-- the text with this number
abbrev pub text_at : List (List ℕ) → ℕ → List ℕ
text_at texts n = unwrap_or (slice_get texts n) []

-- the term that a concept is, given those of its parts: numbers are replaced by their texts
abbrev pub term_at : SymbolLists → Concept-F Term → Term
term_at s Concept-F.Top = top
term_at s Concept-F.Bottom = bottom
term_at s (Concept-F.Name a) = atomic (text_at s.names a)
term_at s (Concept-F.Not c) = negation c
term_at s (Concept-F.And c d) = conjunction c d
term_at s (Concept-F.Or c d) = disjunction c d
term_at s (Concept-F.HasSome r c) = existential (text_at s.roles r) c
term_at s (Concept-F.HasAll r c) = universal (text_at s.roles r) c

-- the term that a concept is
abbrev pub term_of : SymbolLists → Concept → Term
term_of s = fold-Concept Term (term_at s)

-- the one text of a concept, and of an axiom
abbrev pub concept_text : SymbolLists → Concept → List ℕ
concept_text s c = term_text (term_of s c)

abbrev pub axiom_text_of : SymbolLists → Axiom → List ℕ
axiom_text_of s a = axiom_text (term_of s a.left) (term_of s a.right)

-- whether the numbers in a concept are those of names and roles, given the same of its parts
abbrev pub has_symbols_at : SymbolLists → Concept-F Bool → Bool
has_symbols_at s Concept-F.Top = true
has_symbols_at s Concept-F.Bottom = true
has_symbols_at s (Concept-F.Name a) = nat_lt a (length s.names)
has_symbols_at s (Concept-F.Not c) = c
has_symbols_at s (Concept-F.And c d) = c && d
has_symbols_at s (Concept-F.Or c d) = c && d
has_symbols_at s (Concept-F.HasSome r c) = nat_lt r (length s.roles) && c
has_symbols_at s (Concept-F.HasAll r c) = nat_lt r (length s.roles) && c

-- whether all numbers in a concept are those of names and roles
abbrev pub has_symbols : SymbolLists → Concept → Bool
has_symbols s = fold-Concept Bool (has_symbols_at s)
