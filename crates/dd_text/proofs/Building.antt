-- The nodes of a term in the order of its text give back the term, its symbols and its concept.
use Rattle.std.proofs.Common.{◌≡◌, ℕ, ◌+◌, ◌<◌, ◌≤◌, true, List, [], ◌∷◌, ◌++◌, length, drop, get_or, refl, sym, ap, ◌∙◌, arith, append_assoc, length-append}
use Rattle.std.specs.List.{list_all}
use Rattle.std.proofs.lemmas.List.{append-nil, drop_more}
use Rattle.dd_concept.specs.declared.concept.Concept.{Concept}
use Rattle.dd_concept.specs.declared.concept.Concept.TheVariants as concept
use Rattle.dd_text.specs.Names.{names_a_thing}
use Rattle.dd_text.specs.Symbols.{SymbolLists, Grows, number_of, symbol_count, with_text, with_texts}
use Rattle.dd_text.specs.Grammar.{Term, top, bottom, atomic, negation, conjunction, disjunction, existential, universal, is_written, term_nodes}
use Rattle.dd_text.specs.Text.{concept_of, names_in, roles_in, with_term}
use Rattle.dd_text.specs.declared.grammar.Sign.{Sign}
use Rattle.dd_text.specs.declared.grammar.Sign.TheVariants as sign
use Rattle.dd_text.specs.Automaton.{signs_of}
use Rattle.dd_text.specs.Build.{built, is_sign, paired, wrapped, with_sign, with_signs}
use Rattle.dd_text.proofs.Numbering.{Appends-refl, Appends-trans, Appends-with_text, Appends-with_texts, length-Appends}
use Rattle.dd_text.proofs.Reading.{both_of, left_of, right_of}

-- the first concept, or this one where there is none
abbrev pub first_of : Concept → List Concept → Concept
first_of d [] = d
first_of d (c ∷ cs) = c

pub built-term : (s : SymbolLists) (t : Term) (xs : List Sign) (pile : List Concept) → built s (signs_of t ++ xs) pile ≡ concept_of s t ∷ built s xs pile
built-term s top xs pile = refl
built-term s bottom xs pile = refl
built-term s (atomic a) xs pile = refl
built-term s (negation c) xs pile = ap (wrapped concept.Not) (built-term s c xs pile)
built-term s (conjunction c d) xs pile = ap (paired concept.And) (ap (λ l. built s l pile) (append_assoc (signs_of c) (signs_of d) xs) ∙ built-term s c (signs_of d ++ xs) pile ∙ ap (λ (l : List Concept). concept_of s c ∷ l) (built-term s d xs pile))
built-term s (disjunction c d) xs pile = ap (paired concept.Or) (ap (λ l. built s l pile) (append_assoc (signs_of c) (signs_of d) xs) ∙ built-term s c (signs_of d ++ xs) pile ∙ ap (λ (l : List Concept). concept_of s c ∷ l) (built-term s d xs pile))
built-term s (existential r c) xs pile = ap (wrapped (concept.HasSome (number_of s.roles r))) (built-term s c xs pile)
built-term s (universal r c) xs pile = ap (wrapped (concept.HasAll (number_of s.roles r))) (built-term s c xs pile)

pub built-whole : (s : SymbolLists) (t : Term) → built s (signs_of t) [] ≡ concept_of s t ∷ []
built-whole s t = ap (λ l. built s l []) (sym (append-nil (signs_of t))) ∙ built-term s t [] []

-- the terms that the nodes make
wrapped_terms : (Term → Term) → List Term → List Term
wrapped_terms f [] = []
wrapped_terms f (c ∷ pile) = f c ∷ pile

paired_terms : (Term → Term → Term) → List Term → List Term
paired_terms f [] = []
paired_terms f (c ∷ []) = []
paired_terms f (c ∷ d ∷ pile) = f c d ∷ pile

gathered : List Sign → List Term
gathered [] = []
gathered (sign.Top ∷ xs) = top ∷ gathered xs
gathered (sign.Bottom ∷ xs) = bottom ∷ gathered xs
gathered (sign.Name a ∷ xs) = atomic a ∷ gathered xs
gathered (sign.Not ∷ xs) = wrapped_terms negation (gathered xs)
gathered (sign.And ∷ xs) = paired_terms conjunction (gathered xs)
gathered (sign.Or ∷ xs) = paired_terms disjunction (gathered xs)
gathered (sign.HasSome r ∷ xs) = wrapped_terms (existential r) (gathered xs)
gathered (sign.HasAll r ∷ xs) = wrapped_terms (universal r) (gathered xs)

gathered-term : (t : Term) (xs : List Sign) → gathered (signs_of t ++ xs) ≡ t ∷ gathered xs
unfolding gathered wrapped_terms paired_terms
gathered-term top xs = refl
gathered-term bottom xs = refl
gathered-term (atomic a) xs = refl
gathered-term (negation c) xs = ap (wrapped_terms negation) (gathered-term c xs)
gathered-term (conjunction c d) xs = ap (paired_terms conjunction) (ap gathered (append_assoc (signs_of c) (signs_of d) xs) ∙ gathered-term c (signs_of d ++ xs) ∙ ap (λ (l : List Term). c ∷ l) (gathered-term d xs))
gathered-term (disjunction c d) xs = ap (paired_terms disjunction) (ap gathered (append_assoc (signs_of c) (signs_of d) xs) ∙ gathered-term c (signs_of d ++ xs) ∙ ap (λ (l : List Term). c ∷ l) (gathered-term d xs))
gathered-term (existential r c) xs = ap (wrapped_terms (existential r)) (gathered-term c xs)
gathered-term (universal r c) xs = ap (wrapped_terms (universal r)) (gathered-term c xs)

-- nodes are those of one term
pub signs_of-unique : (t u : Term) → signs_of t ≡ signs_of u → t ≡ u
signs_of-unique t u e =
    let both : t ∷ gathered [] ≡ u ∷ gathered [] = sym (gathered-term t []) ∙ ap (λ l. gathered (l ++ [])) e ∙ gathered-term u [] in
    cc

pub length-signs_of : (t : Term) → length (signs_of t) ≡ term_nodes t
length-signs_of top = refl
length-signs_of bottom = refl
length-signs_of (atomic a) = refl
length-signs_of (negation c) = omega (arith, length-signs_of c)
length-signs_of (conjunction c d) = omega (arith, length-append (signs_of c) (signs_of d), length-signs_of c, length-signs_of d)
length-signs_of (disjunction c d) = omega (arith, length-append (signs_of c) (signs_of d), length-signs_of c, length-signs_of d)
length-signs_of (existential r c) = omega (arith, length-signs_of c)
length-signs_of (universal r c) = omega (arith, length-signs_of c)

-- names stand in the nodes of a written term
list_all-signs : (xs ys : List Sign) → list_all is_sign xs ≡ true → list_all is_sign ys ≡ true → list_all is_sign (xs ++ ys) ≡ true
list_all-signs [] ys hx hy = hy
list_all-signs (x ∷ xs) ys hx hy = both_of (is_sign x) (list_all is_sign (xs ++ ys)) (left_of (is_sign x) (list_all is_sign xs) hx) (list_all-signs xs ys (right_of (is_sign x) (list_all is_sign xs) hx) hy)

pub are-signs : (t : Term) → is_written t ≡ true → list_all is_sign (signs_of t) ≡ true
are-signs top h = refl
are-signs bottom h = refl
are-signs (atomic a) h = both_of (names_a_thing a) true h refl
are-signs (negation c) h = are-signs c h
are-signs (conjunction c d) h = list_all-signs (signs_of c) (signs_of d) (are-signs c (left_of (is_written c) (is_written d) h)) (are-signs d (right_of (is_written c) (is_written d) h))
are-signs (disjunction c d) h = list_all-signs (signs_of c) (signs_of d) (are-signs c (left_of (is_written c) (is_written d) h)) (are-signs d (right_of (is_written c) (is_written d) h))
are-signs (existential r c) h = both_of (names_a_thing r) (list_all is_sign (signs_of c)) (left_of (names_a_thing r) (is_written c) h) (are-signs c (right_of (names_a_thing r) (is_written c) h))
are-signs (universal r c) h = both_of (names_a_thing r) (list_all is_sign (signs_of c)) (left_of (names_a_thing r) (is_written c) h) (are-signs c (right_of (names_a_thing r) (is_written c) h))

-- the symbols of nodes and of terms, one after another
with_texts-append : (texts xs ys : List (List ℕ)) → with_texts texts (xs ++ ys) ≡ with_texts (with_texts texts xs) ys
with_texts-append texts [] ys = refl
with_texts-append texts (x ∷ xs) ys = with_texts-append (with_text texts x) xs ys

abbrev lists : List (List ℕ) → List (List ℕ) → SymbolLists
lists names roles = record { names = names; roles = roles }

pub SymbolLists-eq : (s t : SymbolLists) → s.names ≡ t.names → s.roles ≡ t.roles → s ≡ t
SymbolLists-eq s t en er = ap (λ (l : List (List ℕ)). lists l s.roles) en ∙ ap (lists t.names) er

pub with_term-and : (s : SymbolLists) (c d : Term) → with_term s (conjunction c d) ≡ with_term (with_term s c) d
with_term-and s c d =
    SymbolLists-eq (with_term s (conjunction c d)) (with_term (with_term s c) d) (with_texts-append s.names (names_in c) (names_in d)) (with_texts-append s.roles (roles_in c) (roles_in d))

with_signs-term : (s : SymbolLists) (t : Term) (xs : List Sign) → with_signs s (signs_of t ++ xs) ≡ with_signs (with_term s t) xs
with_signs-term s top xs = refl
with_signs-term s bottom xs = refl
with_signs-term s (atomic a) xs = refl
with_signs-term s (negation c) xs = with_signs-term s c xs
with_signs-term s (conjunction c d) xs =
    ap (with_signs s) (append_assoc (signs_of c) (signs_of d) xs) ∙ with_signs-term s c (signs_of d ++ xs) ∙ with_signs-term (with_term s c) d xs ∙ ap (λ z. with_signs z xs) (sym (with_term-and s c d))
with_signs-term s (disjunction c d) xs =
    ap (with_signs s) (append_assoc (signs_of c) (signs_of d) xs) ∙ with_signs-term s c (signs_of d ++ xs) ∙ with_signs-term (with_term s c) d xs ∙ ap (λ z. with_signs z xs) (sym (with_term-and s c d))
with_signs-term s (existential r c) xs = with_signs-term (record s { roles = with_text s.roles r }) c xs
with_signs-term s (universal r c) xs = with_signs-term (record s { roles = with_text s.roles r }) c xs

pub with_signs-whole : (s : SymbolLists) (t : Term) → with_signs s (signs_of t) ≡ with_term s t
with_signs-whole s t = ap (with_signs s) (sym (append-nil (signs_of t))) ∙ with_signs-term s t []

-- symbols only grow
pub Grows-refl : (s : SymbolLists) → Grows s s
Grows-refl s = record { names = Appends-refl s.names; roles = Appends-refl s.roles }

pub Grows-trans : (s t u : SymbolLists) → Grows s t → Grows t u → Grows s u
Grows-trans s t u h k = record { names = Appends-trans s.names t.names u.names h.names k.names; roles = Appends-trans s.roles t.roles u.roles h.roles k.roles }

pub Grows-with_sign : (s : SymbolLists) (x : Sign) → Grows s (with_sign s x)
Grows-with_sign s sign.Top = Grows-refl s
Grows-with_sign s sign.Bottom = Grows-refl s
Grows-with_sign s sign.Not = Grows-refl s
Grows-with_sign s sign.And = Grows-refl s
Grows-with_sign s sign.Or = Grows-refl s
Grows-with_sign s (sign.Name a) = record { names = Appends-with_text s.names a; roles = Appends-refl s.roles }
Grows-with_sign s (sign.HasSome r) = record { names = Appends-refl s.names; roles = Appends-with_text s.roles r }
Grows-with_sign s (sign.HasAll r) = record { names = Appends-refl s.names; roles = Appends-with_text s.roles r }

pub Grows-with_signs : (s : SymbolLists) (xs : List Sign) → Grows s (with_signs s xs)
Grows-with_signs s [] = Grows-refl s
Grows-with_signs s (x ∷ xs) = Grows-trans s (with_sign s x) (with_signs (with_sign s x) xs) (Grows-with_sign s x) (Grows-with_signs (with_sign s x) xs)

pub Grows-with_term : (s : SymbolLists) (t : Term) → Grows s (with_term s t)
Grows-with_term s t = record { names = Appends-with_texts s.names (names_in t); roles = Appends-with_texts s.roles (roles_in t) }

pub symbol_count-Grows : (s t : SymbolLists) → Grows s t → symbol_count s ≤ symbol_count t
symbol_count-Grows s t h = omega (arith, length-Appends s.names t.names h.names, length-Appends s.roles t.roles h.roles)

-- the rest of a list from i on begins with the item that stands there
pub drop-next : {X : Type 0} → (xs : List X) (i : ℕ) (x : X) → i < length xs → x ≡ get_or xs i x → drop i xs ≡ x ∷ drop (i + 1) xs
drop-next xs i x short is = drop_more xs i x short ∙ ap (λ y. y ∷ drop (i + 1) xs) (sym is)

pub with_signs-next : (s t : SymbolLists) (signs : List Sign) (j : ℕ) (x : Sign) → drop j signs ≡ x ∷ drop (j + 1) signs → t ≡ with_sign s x → with_signs s (drop j signs) ≡ with_signs t (drop (j + 1) signs)
with_signs-next s t signs j x next is = ap (with_signs s) next ∙ ap (λ u. with_signs u (drop (j + 1) signs)) (sym is)

pub symbol_count-with_signs : (s : SymbolLists) (xs : List Sign) → symbol_count s ≤ symbol_count (with_signs s xs)
symbol_count-with_signs s xs = symbol_count-Grows s (with_signs s xs) (Grows-with_signs s xs)
