-- Loops over a list: what is walked from a place on, and what is made of its items.
use Rattle.std.proofs.Common.{◌≡◌, ℕ, ◌+◌, ◌<◌, ◌≤◌, List, [], ◌∷◌, ◌++◌, map, length, take, drop, get_or, Result, Ok, sym, ap, ◌∙◌}
use Rattle.std.proofs.lemmas.List.{drop_all, map-append, take_all, take_more}
use Rattle.dd_cert.specs.declared.read.CertErr.{CertErr}
use Rattle.dd_cert.specs.Steps.{◌>>=◌, walk}
use Rattle.dd_text.proofs.Building.{drop-next}

-- ---- a walk, of which the rest from i on is to be walked from a place

module _ {X : Type 0} (step : ℕ → X → Result ℕ CertErr) (start : ℕ) (xs : List X) (at i : ℕ) (same : walk step at (drop i xs) ≡ walk step start xs) where
  pub walk-next : (x : X) (next : ℕ) → i < length xs → x ≡ get_or xs i x → step at x ≡ Ok next → walk step next (drop (i + 1) xs) ≡ walk step start xs
  walk-next x next within is ok = sym (ap (walk step at) (drop-next xs i x within is) ∙ ap (λ r. r >>= (λ n. walk step n (drop (i + 1) xs))) ok) ∙ same

  pub walk-ends : length xs ≤ i → Ok at ≡ walk step start xs
  walk-ends past = sym (ap (walk step at) (drop_all i xs past)) ∙ same

-- ---- the items that are made of those of a list

module _ {X Y : Type 0} (f : X → Y) (xs : List X) (i : ℕ) (made : List Y) (so_far : made ≡ map f (take i xs)) where
  pub made-next : (x : X) (more : List Y) → i < length xs → x ≡ get_or xs i x → more ≡ made ++ f x ∷ [] → more ≡ map f (take (i + 1) xs)
  made-next x more within is pushed =
      pushed ∙ ap (λ l. l ++ f x ∷ []) so_far ∙ sym (map-append f (take i xs) (x ∷ [])) ∙ ap (λ y. map f (take i xs ++ y ∷ [])) is
      ∙ ap (map f) (sym (take_more xs i x within))

  pub made-all : length xs ≤ i → made ≡ map f xs
  made-all past = so_far ∙ ap (map f) (take_all i xs past)
