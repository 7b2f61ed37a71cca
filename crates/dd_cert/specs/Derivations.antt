-- The numbers and the texts of a derivation as it is written, and the lines that it is where each text is the text of a tree.
use Rattle.std.specs.Prelude.{◌≡◌, ℕ, ◌<◌, ◌++◌, List, [], ◌∷◌, map, slice_get, Some, IsTrue, ⊤}
use Rattle.std.specs.List.{flat_map, fold}
use Rattle.dd_text.specs.Grammar.{Spells, Term}
use Rattle.dd_text.specs.Names.{names_a_thing}
use Rattle.dd_text.specs.Reads.{IsWithin, cert_limits}
use Rattle.dd_text.specs.Symbols.{SymbolLists, number_of, with_text}
use Rattle.dd_text.specs.Text.{concept_of, with_term}
use Rattle.dd_task.specs.declared.line.Line.{Line}
use Rattle.dd_task.specs.declared.line.Why.{Why}
use Rattle.dd_task.specs.declared.line.Why.TheVariants as why
use Rattle.dd_cert.specs.declared.form.WhyForm.{WhyForm}
use Rattle.dd_cert.specs.declared.form.WhyForm.TheVariants as form
use Rattle.dd_cert.specs.declared.form.LineForm.{LineForm}

-- ---- the numbers, in reading order: the members of an object in the byte order of their names

abbrev pub numbers_of_why : WhyForm → List ℕ
numbers_of_why form.Bottom = []
numbers_of_why (form.Clash name) = []
numbers_of_why (form.And at cite) = at ∷ cite ∷ []
numbers_of_why (form.Or at left right) = at ∷ left ∷ right ∷ []
numbers_of_why (form.Axiom index left right) = index ∷ left ∷ right ∷ []
numbers_of_why (form.Cut on with_it without_it) = without_it ∷ with_it ∷ []
numbers_of_why (form.Successor at cite) = at ∷ cite ∷ []
numbers_of_why (form.Bridge from onto into_set cite each) = cite ∷ (each ++ from ∷ (into_set ++ onto ∷ []))

abbrev pub numbers_of_line : LineForm → List ℕ
numbers_of_line l = l.peer ∷ numbers_of_why l.why

-- ---- the texts, in reading order, and what each is to be

pub data Piece : Type 0 where
  name : List ℕ → Piece
  concept : List ℕ → Piece

abbrev pub pieces_of_why : WhyForm → List Piece
pieces_of_why form.Bottom = []
pieces_of_why (form.Clash a) = name a ∷ []
pieces_of_why (form.And at cite) = []
pieces_of_why (form.Or at left right) = []
pieces_of_why (form.Axiom index left right) = []
pieces_of_why (form.Cut on with_it without_it) = concept on ∷ []
pieces_of_why (form.Successor at cite) = []
pieces_of_why (form.Bridge from onto into_set cite each) = []

abbrev pub pieces_of_line : LineForm → List Piece
pieces_of_line l = map concept l.label ++ pieces_of_why l.why

abbrev pub pieces_of : List LineForm → List Piece
pieces_of lines = flat_map pieces_of_line lines

-- the text is that of this concept, which is within the limits of certificates
pub record SpellsSmall (text : List ℕ) (t : Term) : Type 0 where
  pub spelt : Spells text t
  pub small : IsWithin cert_limits t

-- the text is a name, or that of a concept within the limits
abbrev pub IsReadable : Piece → Type 0
IsReadable (name text) = IsTrue (names_a_thing text)
IsReadable (concept text) = (t : Term) × SpellsSmall text t

-- each text is what it is to be
abbrev pub AllReadable : List Piece → Type 0
AllReadable [] = ⊤
AllReadable (p ∷ ps) = IsReadable p × AllReadable ps

-- this text is the first that is not what it is to be
pub record IsFirstUnreadable (pieces : List Piece) (n : ℕ) : Type 0 where
  pub piece : Piece
  pub is_there : slice_get pieces n ≡ Some piece
  pub unreadable : ¬ (IsReadable piece)
  pub before : (k : ℕ) (other : Piece) → k < n → slice_get pieces k ≡ Some other → IsReadable other

-- ---- the trees that they are

-- a reason with a tree in place of the text of a concept
pub data WhyTree : Type 0 where
  bottom : WhyTree
  clash : List ℕ → WhyTree
  conjunction : ℕ → ℕ → WhyTree
  disjunction : ℕ → ℕ → ℕ → WhyTree
  implication : ℕ → ℕ → ℕ → WhyTree
  cut : Term → ℕ → ℕ → WhyTree
  successor : ℕ → ℕ → WhyTree
  bridge : ℕ → ℕ → List ℕ → ℕ → List ℕ → WhyTree

-- a line with trees in place of the texts of concepts
pub record LineTree : Type 0 where
  pub peer : ℕ
  pub label : List Term
  pub why : WhyTree

-- what is claimed of the items of two lists holds at each place, and the lists are as long
abbrev pub Each : {A B : Type 0} → (A → B → Type 0) → List A → List B → Type 0
Each Claim [] [] = ⊤
Each Claim (x ∷ xs) (y ∷ ys) = Claim x y × Each Claim xs ys
Each Claim [] (y ∷ ys) = ⊥
Each Claim (x ∷ xs) [] = ⊥

-- each text of the reason, and of the line, is the text of its tree
abbrev pub SpellsWhy : WhyForm → WhyTree → Type 0
SpellsWhy form.Bottom t = t ≡ bottom
SpellsWhy (form.Clash a) t = IsTrue (names_a_thing a) × (t ≡ clash a)
SpellsWhy (form.And at cite) t = t ≡ conjunction at cite
SpellsWhy (form.Or at left right) t = t ≡ disjunction at left right
SpellsWhy (form.Axiom index left right) t = t ≡ implication index left right
SpellsWhy (form.Cut on with_it without_it) t = (c : Term) × SpellsSmall on c × (t ≡ cut c with_it without_it)
SpellsWhy (form.Successor at cite) t = t ≡ successor at cite
SpellsWhy (form.Bridge from onto into_set cite each) t = t ≡ bridge from onto into_set cite each

pub record SpellsLine (l : LineForm) (t : LineTree) : Type 0 where
  pub peer : t.peer ≡ l.peer
  pub label : Each SpellsSmall l.label t.label
  pub why : SpellsWhy l.why t.why

-- what reading the texts finds: the trees of the lines, or the first text that is not what it is to be
pub data Parse : Type 0 where
  parsed : List LineTree → Parse
  stopped : ℕ → Parse

abbrev pub IsParse : List LineForm → Parse → Type 0
IsParse lines (parsed trees) = Each SpellsLine lines trees
IsParse lines (stopped n) = IsFirstUnreadable (pieces_of lines) n

-- ---- the lines that trees are, by the numbers of their names and roles

abbrev pub why_by : SymbolLists → WhyTree → Why
why_by s bottom = why.Bottom
why_by s (clash a) = why.Clash (number_of s.names a)
why_by s (conjunction at cite) = why.And at cite
why_by s (disjunction at left right) = why.Or at left right
why_by s (implication index left right) = why.Axiom index left right
why_by s (cut c with_it without_it) = why.Cut (concept_of s c) with_it without_it
why_by s (successor at cite) = why.Successor at cite
why_by s (bridge from onto into_set cite each) = why.Bridge from onto into_set cite each

abbrev pub line_by : SymbolLists → LineTree → Line
line_by s t = record { peer = t.peer; label = map (concept_of s) t.label; why = why_by s t.why }

-- the symbols with those of a reason, of a line, and of lines, the new ones in reading order
abbrev pub with_why : SymbolLists → WhyTree → SymbolLists
with_why s bottom = s
with_why s (clash a) = record s { names = with_text s.names a }
with_why s (conjunction at cite) = s
with_why s (disjunction at left right) = s
with_why s (implication index left right) = s
with_why s (cut c with_it without_it) = with_term s c
with_why s (successor at cite) = s
with_why s (bridge from onto into_set cite each) = s

abbrev pub with_line : SymbolLists → LineTree → SymbolLists
with_line s t = with_why (fold with_term s t.label) t.why

abbrev pub with_lines : SymbolLists → List LineTree → SymbolLists
with_lines s trees = fold with_line s trees
