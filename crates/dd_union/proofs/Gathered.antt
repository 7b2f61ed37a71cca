-- Lists that a loop gathers, with one number more; and the session that is there.
use Rattle.std.proofs.Common.{◌≡◌, ◌∙◌, ℕ, ◌+◌, ◌<◌, List, ◌++◌, length, Some, ap, sym, inl, inr, arith}
use Rattle.std.specs.List.{slice_get, flat_map, range_with_len}
use Rattle.std.proofs.lemmas.List.{flat_map_more}
use Rattle.std.proofs.lemmas.Option.{slice_get_cases}
use Rattle.dd_task.proofs.Tabled.{first-range-end}

pub gathered-more : {A : Type 0} (f : ℕ → List A) (before : List A) (n : ℕ)
    → (before ++ flat_map f (range_with_len 0 n)) ++ f n ≡ before ++ flat_map f (range_with_len 0 (n + 1))
gathered-more f before n = flat_map_more f before (range_with_len 0 n) n ∙ ap (λ ks. before ++ flat_map f ks) (sym (first-range-end n))

pub there-at : {A : Type 0} (xs : List A) (i : ℕ) → i < length xs → (x : A) × (slice_get xs i ≡ Some x)
there-at xs i lt = elim ((slice_get_cases xs i).1) [
  | inl h ↦ (h.0, h.2)
  | inr h ↦ absurd (omega (arith, lt, h.0))
]
