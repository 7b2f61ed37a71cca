-- Rows of elements, by rows of elements.
use Rattle.std.proofs.Common.{◌≡◌, ◌∙◌, ℕ, ◌+◌, ◌<◌, Bool, true, false, not, ◌&&◌, nat_eq, nat_lt, List, [], ◌∷◌, ◌++◌, length, get_or, map, take, ap, refl, sym, arith}
use Rattle.std.specs.List.{All, Contains}
use Rattle.std.proofs.lemmas.Bool.{lt-ltb, eq-eqb}
use Rattle.std.proofs.lemmas.List.Folds.{list_any_at}
use Rattle.dd_concept.specs.declared.concept.Concept.{Concept}
use Rattle.std.proofs.lemmas.List.{map-append, take_more}
use Rattle.std.proofs.lemmas.List.Elements.{All-weaker}
use Rattle.dd_set.specs.Words.{has, Label}
use Rattle.dd_interp.specs.declared.interp.Interp.{Interp}
use Rattle.dd_interp.specs.Meaning.{some_along, all_along, meaning}
use Rattle.dd_interp.specs.Places.{is_listed, HaveSame}
use Rattle.dd_interp.specs.SeenLists.{HasValues}
use Rattle.dd_interp.specs.Satisfies.{IsShaped}
use Rattle.dd_interp.specs.Seen.{IsExtension, IsSeenAt}
use Rattle.dd_interp.proofs.Quantifiers.{all_along-not}
use Rattle.dd_interp.proofs.Unions.{some_along-within}

-- a row is that of any test that says the same
pub same_test : (n : ℕ) (test other : ℕ → Bool) (row : Label) → ((k : ℕ) → test k ≡ other k) → IsExtension n test row → IsExtension n other row
same_test n test other row e h = record { width = h.width; bits = λ k. h.bits k ∙ ap (λ b. nat_lt k n && b) (e k) }

-- below the bound a row has what passes the test
pub within_row : (n : ℕ) (test : ℕ → Bool) (row : Label) → IsExtension n test row → (k : ℕ) → k < n → has row.words k ≡ test k
within_row n test row h k lt = h.bits k ∙ ap (λ b. b && test k) (lt-ltb k n lt)

-- what is not in a row fails its test
pub others_fail : (n : ℕ) (test : ℕ → Bool) (row others : Label) → IsExtension n test row → IsExtension n (λ k. not (has row.words k)) others
    → IsExtension n (λ k. not (test k)) others
others_fail n test row others h o = record { width = o.width; bits = λ k. o.bits k ∙ ap (λ b. nat_lt k n && not b) (h.bits k) ∙ twice (nat_lt k n) (test k) }
  where
    twice : (a b : Bool) → (a && not (a && b)) ≡ (a && not b)
    twice true b = refl
    twice false b = refl

pub starts_by_test : (i : Interp) → IsShaped i → (r : ℕ) (test : ℕ → Bool) (ends row : Label) → IsExtension i.size test ends
    → IsExtension i.size (some_along i.roles r (has ends.words)) row → IsExtension i.size (some_along i.roles r test) row
starts_by_test i shaped r test ends row e h = same_test i.size (some_along i.roles r (has ends.words)) (some_along i.roles r test) row
    (λ k. some_along-within r i.size k (has ends.words) test (within_row i.size test ends e) i.roles
    (All-weaker (λ t. (t.1 < i.size) × (t.2 < i.size)) (λ t. t.2 < i.size) (λ t q. q.1) i.roles shaped.roles)) h

pub all_by_others : (i : Interp) (r : ℕ) (test : ℕ → Bool) (row others : Label) → IsExtension i.size (some_along i.roles r (λ k. not (test k))) row
    → IsExtension i.size (λ k. not (has row.words k)) others → IsExtension i.size (all_along i.roles r test) others
all_by_others i r test row others h o = same_test i.size (λ k. not (some_along i.roles r (λ j. not (test j)) k)) (all_along i.roles r test) others
    (λ k. sym (all_along-not r test k i.roles)) (others_fail i.size (some_along i.roles r (λ k. not (test k))) row others h o)

-- ---- values at a list of elements

pub values_more : (test : ℕ → Bool) (values new : List Bool) (xs : List ℕ) (n : ℕ) (b : Bool) → n < length xs → new ≡ values ++ b ∷ [] → b ≡ test (get_or xs n 0)
    → values ≡ map test (take n xs) → new ≡ map test (take (n + 1) xs)
values_more test values new xs n b lt e is h = e ∙ ap (λ l. l ++ b ∷ []) h ∙ ap (λ v. map test (take n xs) ++ v ∷ []) is
    ∙ sym (map-append test (take n xs) (get_or xs n 0 ∷ [])) ∙ ap (map test) (sym (take_more xs n 0 lt))

pub listed_of : (xs : List ℕ) (x : ℕ) → Contains xs x → is_listed xs x ≡ true
listed_of xs x h = list_any_at (λ y. nat_eq y x) xs h.0 x h.1 (eq-eqb (get_or xs h.0 x) x h.2)

pub each_listed : (xs : List ℕ) (ys : List ℕ) → HaveSame xs ys → All (λ x. is_listed ys x ≡ true) xs
each_listed xs ys same k d lt = same (get_or xs k d) ∙ list_any_at (λ y. nat_eq y (get_or xs k d)) xs k d lt (eq-eqb (get_or xs k d) (get_or xs k d) refl)

pub ends_listed : (xs ys : List ℕ) (roles : List (ℕ × ℕ × ℕ)) → HaveSame xs ys → All (λ t. Contains xs t.2) roles → All (λ t. is_listed ys t.2 ≡ true) roles
ends_listed xs ys roles same h k d lt = same (get_or roles k d).2 ∙ listed_of xs (get_or roles k d).2 (h k d lt)

pub chart_values : (i seen : Interp) (es : List ℕ) (c : Concept) (row : Label) → IsSeenAt i es seen → IsExtension seen.size (meaning seen c) row → HasValues (meaning i c) es row.words
chart_values i seen es c row s h k lt = within_row seen.size (meaning seen c) row h k (let e = s.size in omega (arith, e, lt)) ∙ s.same c k lt
