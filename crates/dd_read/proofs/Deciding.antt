-- The tests of a line find one thing: a text is that of one tree, and one text is the first outside its grammar.
use Rattle.std.proofs.Common.{◌≡◌, ℕ, zero, suc, List, [], ◌∷◌, ◌++◌, Bool, refl, ap, sym, ◌∙◌, subst, inl, inr, arith, Ok, Err}
use Rattle.std.proofs.lemmas.Bool.{cases_lt}
use Rattle.std.specs.Prelude.{map, slice_get, Some, ⊤}
use Rattle.dd_text.specs.Grammar.{Term}
use Rattle.dd_text.specs.Symbols.{SymbolLists}
use Rattle.dd_text.proofs.Unique.{Spells-unique, SpellsAxiom-unique}
use Rattle.dd_peer.specs.Relevant.{AreRelevant, is_in}
use Rattle.dd_peer.specs.declared.version.Pinned.{Pinned}
use Rattle.dd_peer.specs.declared.version.Query.{Query}
use Rattle.dd_task.specs.declared.job.Budget.{Budget}
use Rattle.dd_wire.specs.declared.form.RuleForm.{RuleForm}
use Rattle.dd_wire.specs.Forms.{Written}
use Rattle.dd_wire.specs.Forms as form
use Rattle.dd_wire.specs.Placed.{placed}
use Rattle.dd_wire.specs.Refusal.{Tested, ◌>>=◌, bad_budget, demand}
use Rattle.dd_wire.specs.Requests.{AfterPlace, AfterForm, query_of}
use Rattle.dd_wire.specs.Texts.{Piece, concept, implication, rule_pieces, pieces_of, IsInGrammar, IsFirstOutside, RuleTree, Parsed, Each, SpellsSides, SpellsRule, Parses, Parse, parsed, outside, IsParse, Resolved, sized_texts}
use Rattle.dd_wire.specs.Texts as text
use Rattle.dd_read.specs.declared.options.Options.{Options}
use Rattle.dd_read.proofs.SameLists.{same_rising}
use Rattle.dd_read.specs.Asks.{IsJobAt, budget_of, closures_pass, is_budget, job_at}
use Rattle.dd_read.specs.State.{State, names_of, present_versions}
use Rattle.dd_read.specs.Tests.{Admits, AfterBudget, AfterTexts, Passes, short_form}

-- ---- a text is that of one tree

sides_unique : (texts : List (List ℕ)) (a b : List (Term × Term)) → Each SpellsSides texts a → Each SpellsSides texts b → a ≡ b
sides_unique [] [] [] h k = refl
sides_unique [] [] (y ∷ ys) h k = absurd k
sides_unique [] (x ∷ xs) b h k = absurd h
sides_unique (t ∷ ts) [] b h k = absurd h
sides_unique (t ∷ ts) (x ∷ xs) [] h k = absurd k
sides_unique (t ∷ ts) (x ∷ xs) (y ∷ ys) h k =
    let one = SpellsAxiom-unique t x.0 x.1 y.0 y.1 h.0 k.0 in
    ap (λ (l : Term). pair l x.1 ∷ xs) one.0 ∙ ap (λ (r : Term). pair y.0 r ∷ xs) one.1 ∙ ap (λ (zs : List (Term × Term)). y ∷ zs) (sides_unique ts xs ys h.1 k.1)
  where
    pair : Term → Term → Term × Term
    pair l r = (l, r)

rules_unique : (rules : List RuleForm) (a b : List RuleTree) → Each SpellsRule rules a → Each SpellsRule rules b → a ≡ b
rules_unique [] [] [] h k = refl
rules_unique [] [] (y ∷ ys) h k = absurd k
rules_unique [] (x ∷ xs) b h k = absurd h
rules_unique (r ∷ rs) [] b h k = absurd h
rules_unique (r ∷ rs) (x ∷ xs) [] h k = absurd k
rules_unique (r ∷ rs) (x ∷ xs) (y ∷ ys) h k =
    ap (λ (f : List ℕ). tree f x.source x.target ∷ xs) (h.0.from ∙ sym k.0.from)
    ∙ ap (λ (s : Term). tree y.from s x.target ∷ xs) (Spells-unique r.source x.source y.source h.0.source k.0.source)
    ∙ ap (λ (t : Term). tree y.from y.source t ∷ xs) (Spells-unique r.target x.target y.target h.0.target k.0.target)
    ∙ ap (λ (zs : List RuleTree). y ∷ zs) (rules_unique rs xs ys h.1 k.1)
  where
    tree : List ℕ → Term → Term → RuleTree
    tree f s t = record { from = f; source = s; target = t }

parses_unique : (w : Written) (p q : Parsed) → Parses w p → Parses w q → p ≡ q
parses_unique (form.peers names) p q h k = h ∙ sym k
parses_unique (form.put peer axioms into onto) p q h k =
    h.6 ∙ ap (λ (v : List (Term × Term)). text.put peer v h.1 h.2) (sides_unique axioms h.0 k.0 h.3 k.3)
    ∙ ap (λ (v : List RuleTree). text.put peer k.0 v h.2) (rules_unique into h.1 k.1 h.4 k.4)
    ∙ ap (λ (v : List RuleTree). text.put peer k.0 k.1 v) (rules_unique onto h.2 k.2 h.5 k.5) ∙ sym k.6
parses_unique (form.ask peer left right e v) p q h k =
    h.4 ∙ ap (λ (l : Term). text.ask peer l h.1 e v) (Spells-unique left h.0 k.0 h.2 k.2)
    ∙ ap (λ (r : Term). text.ask peer k.0 r e v) (Spells-unique right h.1 k.1 h.3 k.3) ∙ sym k.4
parses_unique (form.check peer left right pin cert) p q h k =
    h.4 ∙ ap (λ (l : Term). text.check peer l h.1 pin cert) (Spells-unique left h.0 k.0 h.2 k.2)
    ∙ ap (λ (r : Term). text.check peer k.0 r pin cert) (Spells-unique right h.1 k.1 h.3 k.3) ∙ sym k.4
parses_unique form.versions p q h k = h ∙ sym k

-- ---- where each text has a tree, none is outside its grammar

abbrev AllIn : List Piece → Type 0
AllIn [] = ⊤
AllIn (p ∷ ps) = IsInGrammar p × AllIn ps

piece_in : (ps : List Piece) → AllIn ps → (n : ℕ) (piece : Piece) → slice_get ps n ≡ Some piece → IsInGrammar piece
piece_in [] all n piece e = cc
piece_in (p ∷ ps) all zero piece e = let same : p ≡ piece = cc e in subst IsInGrammar same all.0
piece_in (p ∷ ps) all (suc n) piece e = piece_in ps all.1 n piece e

both_in : (ps qs : List Piece) → AllIn ps → AllIn qs → AllIn (ps ++ qs)
both_in [] qs a b = b
both_in (p ∷ ps) qs a b = (a.0, both_in ps qs a.1 b)

sides_in : (texts : List (List ℕ)) (trees : List (Term × Term)) → Each SpellsSides texts trees → AllIn (map implication texts)
sides_in [] trees h = tt
sides_in (t ∷ ts) [] h = absurd h
sides_in (t ∷ ts) (x ∷ xs) h = ((x.0, x.1, h.0), sides_in ts xs h.1)

rules_in : (rules : List RuleForm) (trees : List RuleTree) → Each SpellsRule rules trees → AllIn (rule_pieces rules)
rules_in [] trees h = tt
rules_in (r ∷ rs) [] h = absurd h
rules_in (r ∷ rs) (x ∷ xs) h = ((x.source, h.0.source), ((x.target, h.0.target), rules_in rs xs h.1))

parsed_in : (w : Written) (p : Parsed) → Parses w p → AllIn (pieces_of w)
parsed_in (form.peers names) p h = tt
parsed_in (form.put peer axioms into onto) p h =
    both_in (map implication axioms) (rule_pieces into ++ rule_pieces onto) (sides_in axioms h.0 h.3)
    (both_in (rule_pieces into) (rule_pieces onto) (rules_in into h.1 h.4) (rules_in onto h.2 h.5))
parsed_in (form.ask peer left right e v) p h = ((h.0, h.2), ((h.1, h.3), tt))
parsed_in (form.check peer left right pin cert) p h = ((h.0, h.2), ((h.1, h.3), tt))
parsed_in form.versions p h = tt

not_outside : (w : Written) (p : Parsed) (n : ℕ) → Parses w p → IsFirstOutside (pieces_of w) n → ⊥
not_outside w p n h o = o.outside (piece_in (pieces_of w) (parsed_in w p h) n o.piece o.is_there)

-- ---- one text is the first outside its grammar

outside_unique : (ps : List Piece) (n m : ℕ) → IsFirstOutside ps n → IsFirstOutside ps m → n ≡ m
outside_unique ps n m a b = elim (cases_lt n m) [
  | inl less ↦ absurd (a.outside (b.before n a.piece less a.is_there))
  | inr more ↦ elim (cases_lt m n) [
    | inl less ↦ absurd (b.outside (a.before m b.piece less b.is_there))
    | inr same ↦ omega arith
  ]
]

parse_unique : (w : Written) (a b : Parse) → IsParse w a → IsParse w b → a ≡ b
parse_unique w (parsed p) (parsed q) h k = ap parsed (parses_unique w p q h k)
parse_unique w (parsed p) (outside m) h k = absurd (not_outside w p m h k)
parse_unique w (outside n) (parsed q) h k = absurd (not_outside w q n k h)
parse_unique w (outside n) (outside m) h k = ap outside (outside_unique (pieces_of w) n m h k)

-- ---- the tests

place_decides : (t : Tested Bool) (s : State) (w : Written) (a b : Tested Resolved) → AfterPlace t s.symbols w a → AfterPlace t s.symbols w b → a ≡ b
place_decides (Err e) s w a b h k = h ∙ sym k
place_decides (Ok is) s w a b h k = h.2 ∙ ap (sized_texts s.symbols) (parse_unique w h.0 k.0 h.1 k.1) ∙ sym k.2

form_decides : (t : Tested Written) (s : State) (a b : Tested Resolved) → AfterForm t s.peers s.symbols a → AfterForm t s.peers s.symbols b → a ≡ b
form_decides (Err e) s a b h k = h ∙ sym k
form_decides (Ok w) s a b h k = place_decides (placed s.peers w) s w a b h k

-- there is one rising list of the peers that bear on a peer
lists_agree : (p : Pinned) (j : ℕ) (a b : List ℕ) → AreRelevant p j a → AreRelevant p j b → a ≡ b
lists_agree p j a b h k = same_rising a b h.rising k.rising (λ i at. (k.exactly i).1 ((h.exactly i).0 at)) (λ i at. (h.exactly i).1 ((k.exactly i).0 at))

budget_decides : (t : Tested Bool) (s : State) (q : Query) (budget : Budget) (a b : Tested Bool) → AfterBudget t s q budget a → AfterBudget t s q budget b → a ≡ b
budget_decides (Err e) s q budget a b h k = h ∙ sym k
budget_decides (Ok is) s q budget a b h k =
    h.2 ∙ ap closures_pass (h.1.2 ∙ ap (job_at s q budget) (lists_agree (present_versions s) q.peer h.1.0 k.1.0 h.1.1 k.1.1) ∙ sym k.1.2) ∙ sym k.2

admits_decide : (o : Options) (s : State) (y : SymbolLists) (p : Parsed) (a b : Tested Bool) → Admits o s y p a → Admits o s y p b → a ≡ b
admits_decide o s y (text.peers ns) a b h k = h ∙ sym k
admits_decide o s y (text.put peer as' is' os) a b h k = h ∙ sym k
admits_decide o s y (text.ask peer l r e v) a b h k = budget_decides (demand bad_budget (is_budget (budget_of o e v))) s (query_of (names_of s) y peer l r) (budget_of o e v) a b h k
admits_decide o s y (text.check peer l r pin cert) a b h k = h ∙ sym k
admits_decide o s y text.versions a b h k = h ∙ sym k

texts_decide : (o : Options) (s : State) (texts a b : Tested Resolved) → AfterTexts o s texts a → AfterTexts o s texts b → a ≡ b
texts_decide o s (Err e) a b h k = h ∙ sym k
texts_decide o s (Ok r) a b h k = h.2 ∙ ap (λ (t : Tested Bool). t >>= (λ is. Ok r)) (admits_decide o s r.symbols r.request h.0 k.0 h.1 k.1) ∙ sym k.2

pub passes_decide : (o : Options) (s : State) (line : List ℕ) (a b : Tested Resolved) → Passes o s line a → Passes o s line b → a ≡ b
passes_decide o s line a b h k =
    texts_decide o s h.0 a b h.2 (subst (λ (t : Tested Resolved). AfterTexts o s t b) (sym (form_decides (short_form line) s h.0 k.0 h.1 k.1)) k.2)
