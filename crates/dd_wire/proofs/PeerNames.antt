-- The numbers of peers' names.
use Rattle.std.proofs.Common.{◌≡◌, ℕ, zero, suc, ◌<◌, Bool, true, false, cond, List, [], ◌∷◌, length, refl, sym, ap, subst, arith, None, Some}
use Rattle.std.specs.Prelude.{slice_get}
use Rattle.std.specs.List.{list_all}
use Rattle.dd_text.specs.Names.{names_a_thing}
use Rattle.dd_text.specs.Symbols.{has_text, number_of}
use Rattle.dd_text.proofs.Numbering.{number_of-new, number_of-within}
use Rattle.dd_wire.proofs.NameBytes.{first_holds, second_holds}

-- a number below the number of names is that of a name that is there
pub there : (xs : List (List ℕ)) (t : List ℕ) (n : ℕ) → n ≡ number_of xs t → n < length xs → Some n ≡ cond (has_text xs t) (Some (number_of xs t)) None
there xs t n is below = by_test (has_text xs t) refl
  where
    by_test : (b : Bool) → has_text xs t ≡ b → Some n ≡ cond b (Some (number_of xs t)) None
    by_test true e = ap Some is
    by_test false e = let past : number_of xs t ≡ length xs = number_of-new xs t e in absurd (omega (arith, is, below, past))

pub not_there : (xs : List (List ℕ)) (t : List ℕ) (n : ℕ) → n ≡ number_of xs t → ¬ (n < length xs) → None ≡ cond (has_text xs t) (Some (number_of xs t)) None
not_there xs t n is past = by_test (has_text xs t) refl
  where
    by_test : (b : Bool) → has_text xs t ≡ b → None ≡ cond b (Some (number_of xs t)) None
    by_test true e = absurd (past (subst (λ k. k < length xs) (sym is) (number_of-within xs t e)))
    by_test false e = refl

-- a text among names is one
pub named_at : (xs : List (List ℕ)) (n : ℕ) (t : List ℕ) → list_all names_a_thing xs ≡ true → slice_get xs n ≡ Some t → names_a_thing t ≡ true
named_at [] n t all e = cc e
named_at (x ∷ xs) zero t all e = let same : x ≡ t = cc e in subst (λ u. names_a_thing u ≡ true) same (first_holds (names_a_thing x) (list_all names_a_thing xs) all)
named_at (x ∷ xs) (suc n) t all e = named_at xs n t (second_holds (names_a_thing x) (list_all names_a_thing xs) all) e
