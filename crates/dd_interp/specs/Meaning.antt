-- What a concept means in a local interpretation. Nothing here knows of texts, of peers or of how a question is decided.
use Rattle.std.specs.Prelude.{ℕ, ◌==◌, ◌&&◌, ◌||◌, Bool, true, false, not, List, IsTrue}
use Rattle.std.specs.List.{list_any, list_all}
use Rattle.dd_concept.specs.declared.concept.Concept.{Concept}
use Rattle.dd_concept.specs.declared.concept.Concept.TheOpen.{Concept-F}
use Rattle.dd_concept.specs.declared.concept.Concept.TheFolds.{fold-Concept}
use Rattle.dd_interp.specs.declared.interp.Interp.{Interp}

-- is x an element of the concept name a
abbrev pub in_name : List (ℕ × ℕ) → ℕ → ℕ → Bool
in_name names a x = list_any (λ p. (p.0 == a) && (p.1 == x)) names

-- does some y have (x, y) in the role and c at y
abbrev pub some_along : List (ℕ × ℕ × ℕ) → ℕ → (ℕ → Bool) → ℕ → Bool
some_along roles r c x = list_any (λ t. ((t.0 == r) && (t.1 == x)) && c t.2) roles

-- does each y with (x, y) in the role have c
abbrev pub all_along : List (ℕ × ℕ × ℕ) → ℕ → (ℕ → Bool) → ℕ → Bool
all_along roles r c x = list_all (λ t. not ((t.0 == r) && (t.1 == x)) || c t.2) roles

-- at which elements a concept holds, given where its parts do
abbrev pub meaning_at : List (ℕ × ℕ) → List (ℕ × ℕ × ℕ) → Concept-F (ℕ → Bool) → ℕ → Bool
meaning_at names roles Concept-F.Top x = true
meaning_at names roles Concept-F.Bottom x = false
meaning_at names roles (Concept-F.Name a) x = in_name names a x
meaning_at names roles (Concept-F.Not c) x = not (c x)
meaning_at names roles (Concept-F.And c d) x = c x && d x
meaning_at names roles (Concept-F.Or c d) x = c x || d x
meaning_at names roles (Concept-F.HasSome r c) x = some_along roles r c x
meaning_at names roles (Concept-F.HasAll r c) x = all_along roles r c x

-- is x an element of the concept, as a test
abbrev pub meaning : Interp → Concept → ℕ → Bool
meaning i = fold-Concept (ℕ → Bool) (meaning_at i.names i.roles)

-- the element x of the interpretation is one of the concept
abbrev pub Holds : Interp → ℕ → Concept → Type 0
Holds i x c = IsTrue (meaning i c x)
