-- The texts of requests: which are in their grammars, and which trees they are.
use Rattle.std.specs.Prelude.{◌≡◌, ℕ, ◌<◌, Bool, not, ◌&&◌, nat_le, List, [], ◌∷◌, ◌++◌, map, position, slice_get, Option, Some, ⊤, Ok, Err}
use Rattle.std.specs.List.{list_all}
use Rattle.serde_json.specs.Data.{Data}
use Rattle.dd_text.specs.Grammar.{Term, term_nodes, term_depth, IsConceptText, IsAxiomText, Spells, SpellsAxiom}
use Rattle.dd_text.specs.Symbols.{SymbolLists, most_symbols, symbol_count}
use Rattle.dd_text.specs.Text.{with_term}
use Rattle.dd_concept.specs.Sizes.{most_nodes, most_depth}
use Rattle.dd_wire.specs.declared.form.RuleForm.{RuleForm}
use Rattle.dd_wire.specs.Forms.{Written}
use Rattle.dd_wire.specs.Forms as form
use Rattle.dd_wire.specs.Refusal.{Tested, ◌>>=◌, demand, demand_none, refused_at, bad_concept, concept_limit, symbols_full}

-- ---- the texts of a request, which are numbered from 0 in their order

-- a text, and what it is to be
pub data Piece : Type 0 where
  concept : List ℕ → Piece
  implication : List ℕ → Piece

-- the source and the target of each rule
abbrev pub rule_pieces : List RuleForm → List Piece
rule_pieces [] = []
rule_pieces (r ∷ rs) = concept r.source ∷ concept r.target ∷ rule_pieces rs

-- the axioms, then the into rules and then the onto rules; or the left and the right concept
abbrev pub pieces_of : Written → List Piece
pieces_of (form.peers names) = []
pieces_of (form.put peer axioms into onto) = map implication axioms ++ (rule_pieces into ++ rule_pieces onto)
pieces_of (form.ask peer left right expansions verdicts) = concept left ∷ concept right ∷ []
pieces_of (form.check peer left right pin cert) = concept left ∷ concept right ∷ []
pieces_of form.versions = []

abbrev pub IsInGrammar : Piece → Type 0
IsInGrammar (concept text) = IsConceptText text
IsInGrammar (implication text) = IsAxiomText text

-- this text is the first that is not in its grammar
pub record IsFirstOutside (pieces : List Piece) (n : ℕ) : Type 0 where
  pub piece : Piece
  pub is_there : slice_get pieces n ≡ Some piece
  pub outside : ¬ (IsInGrammar piece)
  pub before : (k : ℕ) (other : Piece) → k < n → slice_get pieces k ≡ Some other → IsInGrammar other

-- ---- the trees that they are

-- a rule with trees in place of its texts
pub record RuleTree : Type 0 where
  pub from : List ℕ
  pub source : Term
  pub target : Term

-- a request with trees in place of its texts
pub data Parsed : Type 0 where
  peers : List (List ℕ) → Parsed
  put : List ℕ → List (Term × Term) → List RuleTree → List RuleTree → Parsed
  ask : List ℕ → Term → Term → Option ℕ → Option ℕ → Parsed
  check : List ℕ → Term → Term → List ℕ → Data → Parsed
  versions : Parsed

-- what is claimed of the items of two lists holds at each place, and the lists are as long
abbrev pub Each : {A B : Type 0} → (A → B → Type 0) → List A → List B → Type 0
Each Claim [] [] = ⊤
Each Claim (x ∷ xs) (y ∷ ys) = Claim x y × Each Claim xs ys
Each Claim [] (y ∷ ys) = ⊥
Each Claim (x ∷ xs) [] = ⊥

-- the text of an axiom with these sides
abbrev pub SpellsSides : List ℕ → Term × Term → Type 0
SpellsSides text sides = SpellsAxiom text sides.0 sides.1

pub record SpellsRule (r : RuleForm) (t : RuleTree) : Type 0 where
  pub from : t.from ≡ r.from
  pub source : Spells r.source t.source
  pub target : Spells r.target t.target

-- each text of the request is the text of its tree
abbrev pub Parses : Written → Parsed → Type 0
Parses (form.peers names) p = p ≡ peers names
Parses (form.put peer axioms into onto) p = (as' : List (Term × Term)) × (is' : List RuleTree) × (os : List RuleTree)
    × Each SpellsSides axioms as' × Each SpellsRule into is' × Each SpellsRule onto os × (p ≡ put peer as' is' os)
Parses (form.ask peer left right expansions verdicts) p = (l : Term) × (r : Term) × Spells left l × Spells right r × (p ≡ ask peer l r expansions verdicts)
Parses (form.check peer left right pin cert) p = (l : Term) × (r : Term) × Spells left l × Spells right r × (p ≡ check peer l r pin cert)
Parses form.versions p = p ≡ versions

-- ---- limits

-- the trees of each text: two of an axiom, and one of a concept
abbrev pub rule_trees : List RuleTree → List (List Term)
rule_trees [] = []
rule_trees (r ∷ rs) = (r.source ∷ []) ∷ (r.target ∷ []) ∷ rule_trees rs

abbrev pub sides_of : Term × Term → List Term
sides_of sides = sides.0 ∷ sides.1 ∷ []

abbrev pub trees_of : Parsed → List (List Term)
trees_of (peers names) = []
trees_of (put peer axioms into onto) = map sides_of axioms ++ (rule_trees into ++ rule_trees onto)
trees_of (ask peer left right expansions verdicts) = (left ∷ []) ∷ (right ∷ []) ∷ []
trees_of (check peer left right pin cert) = (left ∷ []) ∷ (right ∷ []) ∷ []
trees_of versions = []

-- a concept is within the limits of requests
abbrev pub is_small : Term → Bool
is_small t = nat_le (term_nodes t) most_nodes && nat_le (term_depth t) most_depth

abbrev pub are_small : List Term → Bool
are_small ts = list_all is_small ts

-- the number of the first text with a concept that is above the limits
abbrev pub first_large : List (List Term) → Option ℕ
first_large texts = position (λ ts. not (are_small ts)) texts

-- the symbols with those of trees, the new ones in the order of the texts
abbrev pub with_terms : SymbolLists → List Term → SymbolLists
with_terms s [] = s
with_terms s (t ∷ ts) = with_terms (with_term s t) ts

abbrev pub with_texts : SymbolLists → List (List Term) → SymbolLists
with_texts s [] = s
with_texts s (ts ∷ texts) = with_texts (with_terms s ts) texts

abbrev pub has_room : SymbolLists → Bool
has_room s = nat_le (symbol_count s) most_symbols

-- ---- the tests of the texts

-- what reading the texts finds: their trees, or the first that is not in its grammar
pub data Parse : Type 0 where
  parsed : Parsed → Parse
  outside : ℕ → Parse

abbrev pub IsParse : Written → Parse → Type 0
IsParse w (parsed p) = Parses w p
IsParse w (outside n) = IsFirstOutside (pieces_of w) n

-- a request with trees in place of its texts, and the symbols with those that it brings
pub record Resolved : Type 0 where
  pub request : Parsed
  pub symbols : SymbolLists

abbrev pub sized_texts : SymbolLists → Parse → Tested Resolved
sized_texts s (outside n) = Err (refused_at bad_concept n)
sized_texts s (parsed p) = demand_none concept_limit (first_large (trees_of p))
    >>= (λ small. demand symbols_full (has_room (with_texts s (trees_of p)))
    >>= (λ room. Ok (record { request = p; symbols = with_texts s (trees_of p) })))
