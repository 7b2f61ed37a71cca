-- Symbols that were cut back, and concepts whose symbols grow.
use Rattle.std.proofs.Common.{◌≡◌, ℕ, Bool, true, false, List, [], ◌∷◌, ◌++◌, length, take, refl, ap, ◌∙◌}
use Rattle.std.specs.Prelude.{◌||◌}
use Rattle.dd_concept.specs.declared.concept.Concept.TheVariants as concept
use Rattle.dd_text.specs.Symbols.{SymbolLists, Grows, has_text, number_of}
use Rattle.dd_text.specs.Grammar.{Term, top, bottom, atomic, negation, conjunction, disjunction, existential, universal}
use Rattle.dd_text.specs.Text.{concept_of, names_in, roles_in, with_term}
use Rattle.dd_text.proofs.Numbering.{bytes_eq-same, has_text-append, has_text-with_texts, number_of-Appends, take-Appends}
use Rattle.dd_text.proofs.Building.{SymbolLists-eq, Grows-with_term}

-- symbols that are cut back are those from before
pub restored : (old new cut : SymbolLists) (names roles : ℕ) → Grows old new → names ≡ length old.names → roles ≡ length old.roles → cut.names ≡ take names new.names → cut.roles ≡ take roles new.roles → cut ≡ old
restored old new cut names roles grows hn hr cn cr =
    SymbolLists-eq cut old
    (cn ∙ ap (λ k. take k new.names) hn ∙ take-Appends old.names new.names grows.names)
    (cr ∙ ap (λ k. take k new.roles) hr ∙ take-Appends old.roles new.roles grows.roles)

-- the texts are all among others
abbrev pub AreIn : List (List ℕ) → List (List ℕ) → Type 0
AreIn texts all = (w : List ℕ) → has_text texts w ≡ true → has_text all w ≡ true

pub AreIn-left : (xs ys all : List (List ℕ)) → AreIn (xs ++ ys) all → AreIn xs all
AreIn-left xs ys all h w there = h w (has_text-append xs ys w ∙ ap (λ b. b || has_text ys w) there)

pub AreIn-right : (xs ys all : List (List ℕ)) → AreIn (xs ++ ys) all → AreIn ys all
AreIn-right xs ys all h w there = h w (has_text-append xs ys w ∙ ap (λ b. has_text xs w || b) there ∙ or-true (has_text xs w))
  where
    or-true : (a : Bool) → a || true ≡ true
    or-true true = refl
    or-true false = refl

pub AreIn-head : (x : List ℕ) (xs all : List (List ℕ)) → AreIn (x ∷ xs) all → has_text all x ≡ true
AreIn-head x xs all h = h x (ap (λ b. b || has_text xs x) (bytes_eq-same x))

-- a term keeps its concept where the symbols grow
pub concept_of-grows : (s t : SymbolLists) → Grows s t → (c : Term) → AreIn (names_in c) s.names → AreIn (roles_in c) s.roles → concept_of t c ≡ concept_of s c
concept_of-grows s t g top hn hr = refl
concept_of-grows s t g bottom hn hr = refl
concept_of-grows s t g (atomic a) hn hr = ap concept.Name (number_of-Appends s.names t.names a g.names (AreIn-head a [] s.names hn))
concept_of-grows s t g (negation c) hn hr = ap concept.Not (concept_of-grows s t g c hn hr)
concept_of-grows s t g (conjunction c d) hn hr =
    ap (λ x. concept.And x (concept_of t d)) (concept_of-grows s t g c (AreIn-left (names_in c) (names_in d) s.names hn) (AreIn-left (roles_in c) (roles_in d) s.roles hr))
    ∙ ap (concept.And (concept_of s c)) (concept_of-grows s t g d (AreIn-right (names_in c) (names_in d) s.names hn) (AreIn-right (roles_in c) (roles_in d) s.roles hr))
concept_of-grows s t g (disjunction c d) hn hr =
    ap (λ x. concept.Or x (concept_of t d)) (concept_of-grows s t g c (AreIn-left (names_in c) (names_in d) s.names hn) (AreIn-left (roles_in c) (roles_in d) s.roles hr))
    ∙ ap (concept.Or (concept_of s c)) (concept_of-grows s t g d (AreIn-right (names_in c) (names_in d) s.names hn) (AreIn-right (roles_in c) (roles_in d) s.roles hr))
concept_of-grows s t g (existential r c) hn hr =
    ap (λ n. concept.HasSome n (concept_of t c)) (number_of-Appends s.roles t.roles r g.roles (AreIn-head r (roles_in c) s.roles hr))
    ∙ ap (concept.HasSome (number_of s.roles r)) (concept_of-grows s t g c hn (AreIn-right (r ∷ []) (roles_in c) s.roles hr))
concept_of-grows s t g (universal r c) hn hr =
    ap (λ n. concept.HasAll n (concept_of t c)) (number_of-Appends s.roles t.roles r g.roles (AreIn-head r (roles_in c) s.roles hr))
    ∙ ap (concept.HasAll (number_of s.roles r)) (concept_of-grows s t g c hn (AreIn-right (r ∷ []) (roles_in c) s.roles hr))

-- the symbols with those of a term have them
pub names-with_term : (s : SymbolLists) (c : Term) → AreIn (names_in c) (with_term s c).names
names-with_term s c w there = has_text-with_texts s.names (names_in c) w there

pub roles-with_term : (s : SymbolLists) (c : Term) → AreIn (roles_in c) (with_term s c).roles
roles-with_term s c w there = has_text-with_texts s.roles (roles_in c) w there

pub concept_of-with_term : (s : SymbolLists) (c d : Term) → concept_of (with_term (with_term s c) d) c ≡ concept_of (with_term s c) c
concept_of-with_term s c d = concept_of-grows (with_term s c) (with_term (with_term s c) d) (Grows-with_term (with_term s c) d) c (names-with_term s c) (roles-with_term s c)
