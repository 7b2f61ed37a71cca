-- Symbols grow as those of items are added one after another.
use Rattle.std.proofs.Common.{◌≡◌, ℕ, ◌+◌, ◌<◌, ◌≤◌, Bool, true, List, [], ◌∷◌, length, drop, get_or, sym, ap, ◌∙◌, arith}
use Rattle.std.specs.Prelude.{◌&&◌}
use Rattle.std.specs.List.{list_all}
use Rattle.std.proofs.lemmas.List.{drop_all}
use Rattle.dd_text.specs.Symbols.{SymbolLists, Grows, symbol_count}
use Rattle.dd_text.proofs.Building.{Grows-refl, Grows-trans, drop-next, symbol_count-Grows}
use Rattle.dd_text.proofs.Numbering.{Appends-refl, Appends-with_text}
use Rattle.dd_text.proofs.Reading.{left_of, right_of}
use Rattle.dd_cert.specs.declared.form.LocalForm.{LocalForm}
use Rattle.dd_cert.specs.Steps.{gather, with_name, with_role, with_local}

pub Grows-with_name : (s : SymbolLists) (n : List ℕ × ℕ) → Grows s (with_name s n)
Grows-with_name s n = record { names = Appends-with_text s.names n.0; roles = Appends-refl s.roles }

pub Grows-with_role : (s : SymbolLists) (r : List ℕ × ℕ × ℕ) → Grows s (with_role s r)
Grows-with_role s r = record { names = Appends-refl s.names; roles = Appends-with_text s.roles r.0 }

module _ {X : Type 0} (step : SymbolLists → X → SymbolLists) (grows : (s : SymbolLists) (x : X) → Grows s (step s x)) where
  pub Grows-gather : (s : SymbolLists) (xs : List X) → Grows s (gather step s xs)
  Grows-gather s [] = Grows-refl s
  Grows-gather s (x ∷ xs) = Grows-trans s (step s x) (gather step (step s x) xs) (grows s x) (Grows-gather (step s x) xs)

  -- where there is no room for one item, there is none for all of them
  pub full-at : (start s : SymbolLists) (xs : List X) (i : ℕ) (x : X) → i < length xs → x ≡ get_or xs i x
      → gather step start xs ≡ gather step s (drop i xs) → 65536 < symbol_count (step s x) → 65536 < symbol_count (gather step start xs)
  full-at start s xs i x h is same full =
      let all = same ∙ ap (gather step s) (drop-next xs i x h is) in
      omega (arith, full, symbol_count-Grows (step s x) (gather step (step s x) (drop (i + 1) xs)) (Grows-gather (step s x) (drop (i + 1) xs)), ap symbol_count all)

pub Grows-with_local : (s : SymbolLists) (l : LocalForm) → Grows s (with_local s l)
Grows-with_local s l =
    let named = gather with_name s l.names in
    Grows-trans s named (gather with_role named l.roles) (Grows-gather with_name Grows-with_name s l.names) (Grows-gather with_role Grows-with_role named l.roles)

pub Grows-with_locals : (s : SymbolLists) (ls : List LocalForm) → Grows s (gather with_local s ls)
Grows-with_locals = Grows-gather with_local Grows-with_local

-- where there is no room for the names, there is none for the names and the roles
pub full-names : (s : SymbolLists) (l : LocalForm) → 65536 < symbol_count (gather with_name s l.names) → 65536 < symbol_count (with_local s l)
full-names s l full =
    let named = gather with_name s l.names in
    omega (arith, full, symbol_count-Grows named (gather with_role named l.roles) (Grows-gather with_role Grows-with_role named l.roles))

-- ---- one item of a list, and the rest

module _ {X : Type 0} (p : X → Bool) where
  both : (xs : List X) (i : ℕ) (x : X) → i < length xs → x ≡ get_or xs i x → list_all p (drop i xs) ≡ true → p x && list_all p (drop (i + 1) xs) ≡ true
  both xs i x h is all = ap (list_all p) (sym (drop-next xs i x h is)) ∙ all

  pub passes-here : (xs : List X) (i : ℕ) (x : X) → i < length xs → x ≡ get_or xs i x → list_all p (drop i xs) ≡ true → p x ≡ true
  passes-here xs i x h is all = left_of (p x) (list_all p (drop (i + 1) xs)) (both xs i x h is all)

  pub passes-later : (xs : List X) (i : ℕ) (x : X) → i < length xs → x ≡ get_or xs i x → list_all p (drop i xs) ≡ true → list_all p (drop (i + 1) xs) ≡ true
  passes-later xs i x h is all = right_of (p x) (list_all p (drop (i + 1) xs)) (both xs i x h is all)

pub gather-next : {X : Type 0} → (step : SymbolLists → X → SymbolLists) (start s t : SymbolLists) (xs : List X) (i : ℕ) (x : X) → i < length xs → x ≡ get_or xs i x
    → gather step start xs ≡ gather step s (drop i xs) → t ≡ step s x → gather step start xs ≡ gather step t (drop (i + 1) xs)
gather-next step start s t xs i x h is same e = same ∙ ap (gather step s) (drop-next xs i x h is) ∙ ap (λ u. gather step u (drop (i + 1) xs)) (sym e)

-- at the end all are added
pub gather-all : {X : Type 0} → (step : SymbolLists → X → SymbolLists) (start s : SymbolLists) (xs : List X) (i : ℕ) → gather step start xs ≡ gather step s (drop i xs) → length xs ≤ i → s ≡ gather step start xs
gather-all step start s xs i same past = sym (same ∙ ap (gather step s) (drop_all i xs past))
