-- For private clauses: how a concept is put together from its nodes in the order of the text, from the last one back.
use Rattle.std.specs.Prelude.{◌≡◌, Bool, true, List, [], ◌∷◌, IsTrue}
use Rattle.dd_concept.specs.declared.concept.Concept.{Concept}
use Rattle.dd_concept.specs.declared.concept.Concept.TheVariants as concept
use Rattle.dd_text.specs.Names.{names_a_thing}
use Rattle.dd_text.specs.Symbols.{SymbolLists, number_of, with_text}
use Rattle.dd_text.specs.Grammar.{Term, is_written}
use Rattle.dd_text.specs.Automaton.{signs_of}
use Rattle.dd_text.specs.declared.grammar.Sign.{Sign}
use Rattle.dd_text.specs.declared.grammar.Sign.TheVariants as sign

-- what stands for a name or a role has the form of a name
abbrev pub is_sign : Sign → Bool
is_sign (sign.Name a) = names_a_thing a
is_sign (sign.HasSome r) = names_a_thing r
is_sign (sign.HasAll r) = names_a_thing r
is_sign s = true

-- the symbols with that of a node
abbrev pub with_sign : SymbolLists → Sign → SymbolLists
with_sign s (sign.Name a) = record s { names = with_text s.names a }
with_sign s (sign.HasSome r) = record s { roles = with_text s.roles r }
with_sign s (sign.HasAll r) = record s { roles = with_text s.roles r }
with_sign s x = s

abbrev pub with_signs : SymbolLists → List Sign → SymbolLists
with_signs s [] = s
with_signs s (x ∷ xs) = with_signs (with_sign s x) xs

-- two concepts make one
abbrev pub paired : (Concept → Concept → Concept) → List Concept → List Concept
paired f [] = []
paired f (c ∷ []) = []
paired f (c ∷ d ∷ pile) = f c d ∷ pile

abbrev pub wrapped : (Concept → Concept) → List Concept → List Concept
wrapped f [] = []
wrapped f (c ∷ pile) = f c ∷ pile

-- there were fewer than two concepts, and none is left
abbrev pub PopsFew : List Concept → List Concept → Type 0
PopsFew [] new = new ≡ []
PopsFew (c ∷ []) new = new ≡ []
PopsFew (c ∷ d ∷ pile) new = ⊥

-- a node takes its parts from the concepts that stand after it
abbrev pub onto : SymbolLists → Sign → List Concept → List Concept
onto s sign.Top pile = concept.Top ∷ pile
onto s sign.Bottom pile = concept.Bottom ∷ pile
onto s (sign.Name a) pile = concept.Name (number_of s.names a) ∷ pile
onto s sign.Not pile = wrapped concept.Not pile
onto s sign.And pile = paired concept.And pile
onto s sign.Or pile = paired concept.Or pile
onto s (sign.HasSome r) pile = wrapped (concept.HasSome (number_of s.roles r)) pile
onto s (sign.HasAll r) pile = wrapped (concept.HasAll (number_of s.roles r)) pile

abbrev pub built : SymbolLists → List Sign → List Concept → List Concept
built s [] pile = pile
built s (x ∷ xs) pile = onto s x (built s xs pile)

-- the nodes are those of a written term
pub record AreTermSigns (signs : List Sign) : Type 0 where
  pub term : Term
  pub written : IsTrue (is_written term)
  pub signs_are : signs ≡ signs_of term
