-- Pieces that are in their grammars, and the first that is not, among more pieces.
use Rattle.std.proofs.Common.{◌≡◌, ◌<◌, ℕ, zero, suc, ◌+◌, List, [], ◌∷◌, ◌++◌, length, map, Some, refl, sym, ap, ◌∙◌, subst, arith}
use Rattle.std.specs.Prelude.{slice_get}
use Rattle.std.proofs.lemmas.Option.{slice_get_within}
use Rattle.dd_text.specs.Grammar.{Term, Spells, SpellsAxiom}
use Rattle.dd_wire.specs.declared.form.RuleForm.{RuleForm}
use Rattle.dd_wire.specs.Texts.{Piece, concept, implication, rule_pieces, IsInGrammar, IsFirstOutside, RuleTree, Each, SpellsSides, SpellsRule, sides_of, rule_trees}

-- what holds of the items of two lists holds of those of longer ones
pub Each-append : {A B : Type 0} (Claim : A → B → Type 0) (xs xs' : List A) (ys ys' : List B) → Each Claim xs ys → Each Claim xs' ys' → Each Claim (xs ++ xs') (ys ++ ys')
Each-append Claim [] xs' [] ys' h k = k
Each-append Claim (x ∷ xs) xs' (y ∷ ys) ys' h k = (h.0, Each-append Claim xs xs' ys ys' h.1 k)
Each-append Claim [] xs' (y ∷ ys) ys' h k = absurd h
Each-append Claim (x ∷ xs) xs' [] ys' h k = absurd h

pub Each-implies : {A B : Type 0} (Claim Other : A → B → Type 0) → ((x : A) (y : B) → Claim x y → Other x y) → (xs : List A) (ys : List B) → Each Claim xs ys → Each Other xs ys
Each-implies Claim Other f [] [] h = tt
Each-implies Claim Other f (x ∷ xs) (y ∷ ys) h = (f x y h.0, Each-implies Claim Other f xs ys h.1)
Each-implies Claim Other f [] (y ∷ ys) h = absurd h
Each-implies Claim Other f (x ∷ xs) [] h = absurd h

pub Each-map : {A B : Type 0} (f : A → B) (xs : List A) (ys : List B) → Each (λ x y. y ≡ f x) xs ys → ys ≡ map f xs
Each-map f [] [] h = refl
Each-map f (x ∷ xs) (y ∷ ys) h = ap (λ z. z ∷ ys) h.0 ∙ ap (λ (l : List _). f x ∷ l) (Each-map f xs ys h.1)
Each-map f [] (y ∷ ys) h = absurd h
Each-map f (x ∷ xs) [] h = absurd h

pub Each-length : {A B : Type 0} (Claim : A → B → Type 0) (xs : List A) (ys : List B) → Each Claim xs ys → length xs ≡ length ys
Each-length Claim [] [] h = refl
Each-length Claim (x ∷ xs) (y ∷ ys) h = ap suc (Each-length Claim xs ys h.1)
Each-length Claim [] (y ∷ ys) h = absurd h
Each-length Claim (x ∷ xs) [] h = absurd h

-- the piece is the text of these trees
abbrev pub SpellsPiece : Piece → List Term → Type 0
SpellsPiece (concept text) [] = ⊥
SpellsPiece (concept text) (t ∷ []) = Spells text t
SpellsPiece (concept text) (t ∷ u ∷ ts) = ⊥
SpellsPiece (implication text) [] = ⊥
SpellsPiece (implication text) (l ∷ []) = ⊥
SpellsPiece (implication text) (l ∷ r ∷ []) = SpellsAxiom text l r
SpellsPiece (implication text) (l ∷ r ∷ t ∷ ts) = ⊥

pub inside : (p : Piece) (trees : List Term) → SpellsPiece p trees → IsInGrammar p
inside (concept text) [] h = absurd h
inside (concept text) (t ∷ []) h = (t, h)
inside (concept text) (t ∷ u ∷ ts) h = absurd h
inside (implication text) [] h = absurd h
inside (implication text) (l ∷ []) h = absurd h
inside (implication text) (l ∷ r ∷ []) h = (l, r, h)
inside (implication text) (l ∷ r ∷ t ∷ ts) h = absurd h

pub pieces_of_axioms : (texts : List (List ℕ)) (trees : List (Term × Term)) → Each SpellsSides texts trees → Each SpellsPiece (map implication texts) (map sides_of trees)
pieces_of_axioms [] [] h = tt
pieces_of_axioms (x ∷ xs) (y ∷ ys) h = (h.0, pieces_of_axioms xs ys h.1)
pieces_of_axioms [] (y ∷ ys) h = absurd h
pieces_of_axioms (x ∷ xs) [] h = absurd h

pub pieces_of_rules : (forms : List RuleForm) (trees : List RuleTree) → Each SpellsRule forms trees → Each SpellsPiece (rule_pieces forms) (rule_trees trees)
pieces_of_rules [] [] h = tt
pieces_of_rules (x ∷ xs) (y ∷ ys) h = (h.0.source, (h.0.target, pieces_of_rules xs ys h.1))
pieces_of_rules [] (y ∷ ys) h = absurd h
pieces_of_rules (x ∷ xs) [] h = absurd h

-- the first piece outside its grammar is the first one among more pieces
in_front : (xs ys : List Piece) (k : ℕ) → k < length xs → slice_get (xs ++ ys) k ≡ slice_get xs k
in_front [] ys k short = absurd (omega arith)
in_front (x ∷ xs) ys zero short = refl
in_front (x ∷ xs) ys (suc k) short = in_front xs ys k (omega arith)

pub first_in_front : (xs ys : List Piece) (k : ℕ) → IsFirstOutside xs k → IsFirstOutside (xs ++ ys) k
first_in_front xs ys k h =
    let short : k < length xs = slice_get_within xs k h.piece h.is_there in
    record {
      piece = h.piece;
      is_there = in_front xs ys k short ∙ h.is_there;
      outside = h.outside;
      before = λ j other below at. h.before j other below (sym (in_front xs ys j (omega arith)) ∙ at);
    }

first_next : (x : Piece) (ys : List Piece) (k : ℕ) → IsInGrammar x → IsFirstOutside ys k → IsFirstOutside (x ∷ ys) (suc k)
first_next x ys k is h = record {
  piece = h.piece;
  is_there = h.is_there;
  outside = h.outside;
  before = before_next x ys k is h.before;
}
  where
    before_next : (x : Piece) (ys : List Piece) (k : ℕ) → IsInGrammar x → ((j : ℕ) (other : Piece) → j < k → slice_get ys j ≡ Some other → IsInGrammar other) → (j : ℕ) (other : Piece) → j < suc k → slice_get (x ∷ ys) j ≡ Some other → IsInGrammar other
    before_next x ys k is before zero other below at = let same : x ≡ other = cc at in subst IsInGrammar same is
    before_next x ys k is before (suc j) other below at = before j other (omega arith) at

pub first_behind : (xs : List Piece) (trees : List (List Term)) (ys : List Piece) (k n : ℕ) → n ≡ length trees + k → Each SpellsPiece xs trees → IsFirstOutside ys k → IsFirstOutside (xs ++ ys) n
first_behind [] [] ys k n e h first = subst (IsFirstOutside ys) (let same : k ≡ n = omega arith in same) first
first_behind (x ∷ xs) (t ∷ trees) ys k n e h first =
    subst (IsFirstOutside (x ∷ (xs ++ ys))) (let same : suc (length trees + k) ≡ n = omega arith in same)
    (first_next x (xs ++ ys) (length trees + k) (inside x t h.0) (first_behind xs trees ys k (length trees + k) refl h.1 first))
first_behind [] (t ∷ trees) ys k n e h first = absurd h
first_behind (x ∷ xs) [] ys k n e h first = absurd h
