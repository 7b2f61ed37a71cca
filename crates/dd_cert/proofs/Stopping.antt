-- Texts that are passed one after another, up to the first that is not what it is to be.
use Rattle.std.proofs.Common.{◌≡◌, ◌≢◌, ℕ, zero, suc, ◌+◌, ◌<◌, ◌≤◌, true, false, cond, List, [], ◌∷◌, ◌++◌, length, drop, get_or, Result, Ok, Err, refl, sym, ap, ◌∙◌, subst, arith}
use Rattle.std.specs.Prelude.{slice_get}
use Rattle.std.specs.List.{list_any}
use Rattle.std.specs.Str.{bytes_eq}
use Rattle.std.proofs.lemmas.List.{drop_all, length-append}
use Rattle.std.proofs.lemmas.Option.{slice_get_within}
use Rattle.dd_concept.specs.declared.concept.Concept.{Concept}
use Rattle.dd_text.specs.Grammar.{Term, atomic, bottom, conjunction, disjunction, existential, negation, term_depth, term_nodes, top, universal}
use Rattle.dd_text.specs.Reads.{IsConceptOf, ReadsConcept, RefusesConcept, cert_limits, told}
use Rattle.dd_text.specs.Symbols.{SymbolLists, with_text, with_texts}
use Rattle.dd_text.specs.Text.{names_in, roles_in}
use Rattle.dd_text.specs.declared.read.TextErr.{TextErr}
use Rattle.dd_text.specs.declared.read.TextErr.TheVariants as texts
use Rattle.dd_text.proofs.Building.{SymbolLists-eq, drop-next}
use Rattle.dd_text.proofs.Unique.{Spells-unique}
use Rattle.dd_cert.specs.declared.read.CertErr.{CertErr}
use Rattle.dd_cert.specs.declared.read.CertErr.TheVariants as err
use Rattle.dd_cert.specs.Derivations.{AllReadable, IsFirstUnreadable, IsReadable, Piece, concept}
use Rattle.dd_cert.specs.Steps.{Passes, no_symbols, passed_at, stop_at}
use Rattle.dd_cert.proofs.Certain.{stopped-here, stopped-later}

-- ---- more texts, before and behind

pub both-readable : (ps qs : List Piece) → AllReadable ps → AllReadable qs → AllReadable (ps ++ qs)
both-readable [] qs h k = k
both-readable (p ∷ ps) qs h k = (h.0, both-readable ps qs h.1 k)

in_front : (ps qs : List Piece) (k : ℕ) → k < length ps → slice_get (ps ++ qs) k ≡ slice_get ps k
in_front [] qs k short = absurd (omega arith)
in_front (p ∷ ps) qs zero short = refl
in_front (p ∷ ps) qs (suc k) short = in_front ps qs k (omega arith)

first_in_front : (ps qs : List Piece) (n : ℕ) → IsFirstUnreadable ps n → IsFirstUnreadable (ps ++ qs) n
first_in_front ps qs n h =
    let short : n < length ps = slice_get_within ps n h.piece h.is_there in
    record {
      piece = h.piece;
      is_there = in_front ps qs n short ∙ h.is_there;
      unreadable = h.unreadable;
      before = λ j other below at. h.before j other below (sym (in_front ps qs j (omega (arith, below, short))) ∙ at);
    }

first_behind : (ps qs : List Piece) (n m : ℕ) → m ≡ length ps + n → AllReadable ps → IsFirstUnreadable qs n → IsFirstUnreadable (ps ++ qs) m
first_behind [] qs n m is all h = let same : m ≡ n = omega (arith, is) in subst (IsFirstUnreadable qs) (sym same) h
first_behind (p ∷ ps) qs n zero is all h = absurd (omega (arith, is))
first_behind (p ∷ ps) qs n (suc m) is all h = stopped-later p (ps ++ qs) m all.0 (first_behind ps qs n m (omega (arith, is)) all.1 h)

-- ---- passes one after another

pub passes-none : (at : ℕ) → at ≤ 4294967295 → Passes at [] (Ok at)
passes-none at small = (tt, omega (arith, small))

pub passes-then : (at next : ℕ) (ps qs : List Piece) (r : Result ℕ CertErr) → Passes at ps (Ok next) → Passes next qs r → Passes at (ps ++ qs) r
passes-then at next ps qs (Ok m) h k = (both-readable ps qs h.0 k.0, omega (arith, h.1, k.1, length-append ps qs))
passes-then at next ps qs (Err (err.Text k)) h first = (length ps + first.0, first_behind ps qs first.0 (length ps + first.0) refl h.0 first.1, omega (arith, h.1, first.2))
passes-then at next ps qs (Err err.NoMemory) h k = tt
passes-then at next ps qs (Err (err.Shape member)) h k = absurd k
passes-then at next ps qs (Err (err.Index place value)) h k = absurd k
passes-then at next ps qs (Err err.SymbolsFull) h k = absurd k

pub passes-stops : (at : ℕ) (ps qs : List Piece) (e : CertErr) → Passes at ps (Err e) → Passes at (ps ++ qs) (Err e)
passes-stops at ps qs (err.Text k) first = (first.0, first_in_front ps qs first.0 first.1, first.2)
passes-stops at ps qs err.NoMemory h = tt
passes-stops at ps qs (err.Shape member) h = absurd h
passes-stops at ps qs (err.Index place value) h = absurd h
passes-stops at ps qs err.SymbolsFull h = absurd h

-- a walk over items, each of which has some texts
module _ {X : Type 0} (texts_of : X → List Piece) (all : List X → List Piece) (none : all [] ≡ []) (more : (x : X) (xs : List X) → all (x ∷ xs) ≡ texts_of x ++ all xs)
    (start at : ℕ) (xs : List X) (i : ℕ) (so_far : (r : Result ℕ CertErr) → Passes at (all (drop i xs)) r → Passes start (all xs) r) where
  split : (x : X) → i < length xs → x ≡ get_or xs i x → all (drop i xs) ≡ texts_of x ++ all (drop (i + 1) xs)
  split x within is = ap all (drop-next xs i x within is) ∙ more x (drop (i + 1) xs)

  pub passing-next : (x : X) (next : ℕ) → i < length xs → x ≡ get_or xs i x → Passes at (texts_of x) (Ok next)
      → (r : Result ℕ CertErr) → Passes next (all (drop (i + 1) xs)) r → Passes start (all xs) r
  passing-next x next within is here r h =
      so_far r (subst (λ ps. Passes at ps r) (sym (split x within is)) (passes-then at next (texts_of x) (all (drop (i + 1) xs)) r here h))

  pub passing-stops : (x : X) (e : CertErr) → i < length xs → x ≡ get_or xs i x → Passes at (texts_of x) (Err e) → Passes start (all xs) (Err e)
  passing-stops x e within is here =
      so_far (Err e) (subst (λ ps. Passes at ps (Err e)) (sym (split x within is)) (passes-stops at (texts_of x) (all (drop (i + 1) xs)) e here))

  pub passing-ends : length xs ≤ i → at ≤ 4294967295 → Passes start (all xs) (Ok at)
  passing-ends past small = so_far (Ok at) (subst (λ ps. Passes at ps (Ok at)) (sym (ap all (drop_all i xs past) ∙ none)) (passes-none at small))

-- ---- one text

pub text-passes : (at next : ℕ) (p : Piece) → IsReadable p → next ≡ told (at + 1) → Passes at (p ∷ []) (Ok next)
text-passes at next p readable is = ((readable, tt), is)

pub text-stops : (at : ℕ) (p : Piece) → at ≤ 4294967295 → (IsReadable p → ⊥) → Passes at (p ∷ []) (Err (err.Text at))
text-stops at p small unreadable = (zero, stopped-here p [] unreadable, omega (arith, small))

pub concept-passes : (at next : ℕ) (text : List ℕ) (c : Concept) (old new : SymbolLists) → IsConceptOf old cert_limits text new c → next ≡ told (at + 1) → Passes at (concept text ∷ []) (Ok next)
concept-passes at next text c old new h is = text-passes at next (concept text) (h.term, record { spelt = h.spelt; small = h.small }) is

-- ---- a concept that is within the limits never has too many symbols

length-with_text : (xs : List (List ℕ)) (t : List ℕ) → length (with_text xs t) ≤ length xs + 1
length-with_text xs t =
    elim (list_any (bytes_eq t) xs) as (λ b. length (cond b xs (xs ++ t ∷ [])) ≤ length xs + 1) [
      | true ↦ omega arith
      | false ↦ omega (arith, length-append xs (t ∷ []))
    ]

length-with_texts-most : (xs ts : List (List ℕ)) → length (with_texts xs ts) ≤ length xs + length ts
length-with_texts-most xs [] = omega arith
length-with_texts-most xs (t ∷ ts) = omega (arith, length-with_text xs t, length-with_texts-most (with_text xs t) ts)

few-symbols : (t : Term) → length (names_in t) + length (roles_in t) ≤ term_nodes t
few-symbols top = omega arith
few-symbols bottom = omega arith
few-symbols (atomic a) = omega arith
few-symbols (negation c) = omega (arith, few-symbols c)
few-symbols (conjunction c d) =
    omega (arith, few-symbols c, few-symbols d, length-append (names_in c) (names_in d), length-append (roles_in c) (roles_in d))
few-symbols (disjunction c d) =
    omega (arith, few-symbols c, few-symbols d, length-append (names_in c) (names_in d), length-append (roles_in c) (roles_in d))
few-symbols (existential r c) = omega (arith, few-symbols c)
few-symbols (universal r c) = omega (arith, few-symbols c)

pub never-full : (text : List ℕ) → RefusesConcept no_symbols cert_limits text texts.SymbolsFull → ⊥
never-full text (t, spelt, small, full) =
    omega (arith, full, small.nodes, few-symbols t, length-with_texts-most [] (names_in t), length-with_texts-most [] (roles_in t))

pub is-not-full : (text : List ℕ) (new : SymbolLists) (r : Result Concept TextErr) → ReadsConcept no_symbols cert_limits text new r → r ≢ Err texts.SymbolsFull
is-not-full text new (Ok c) h is = cc
is-not-full text new (Err e) h is =
    let same : e ≡ texts.SymbolsFull = cc in
    never-full text (subst (RefusesConcept no_symbols cert_limits text) same h.1)

-- the refusal of a text says that it is no concept within the limits
pub concept-stops : (at : ℕ) (text : List ℕ) (e : TextErr) → at ≤ 4294967295 → RefusesConcept no_symbols cert_limits text e → Passes at (concept text ∷ []) (Err (stop_at at e))
concept-stops at text (texts.Bad n) small h = text-stops at (concept text) small (λ (t, s). h.1.outside (t, s.spelt))
concept-stops at text (texts.TooLarge n) small (t, spelt, over, is) =
    text-stops at (concept text) small (λ (u, s). omega (arith, over, s.small.nodes, ap term_nodes (Spells-unique text u t s.spelt spelt)))
concept-stops at text (texts.TooDeep n) small (t, spelt, few, over, is) =
    text-stops at (concept text) small (λ (u, s). omega (arith, over, s.small.depth, ap term_depth (Spells-unique text u t s.spelt spelt)))
concept-stops at text texts.SymbolsFull small h = absurd (never-full text h)
concept-stops at text texts.NoMemory small h = tt

-- what was read of a text says whether it is one
pub concept-read : (at : ℕ) (text : List ℕ) (new : SymbolLists) (r : Result Concept TextErr) → at ≤ 4294967295 → ReadsConcept no_symbols cert_limits text new r → Passes at (concept text ∷ []) (passed_at at r)
concept-read at text new (Ok c) small h = concept-passes at (told (at + 1)) text c no_symbols new h refl
concept-read at text new (Err e) small h = concept-stops at text e small h.1

-- symbols that were cut to none
pub cut-to-none : (s : SymbolLists) → s.names ≡ [] → s.roles ≡ [] → s ≡ no_symbols
cut-to-none s names roles = SymbolLists-eq s no_symbols names roles
