-- Labels that become open.
use Rattle.std.proofs.Common.{◌≡◌, ◌∙◌, ℕ, zero, suc, ◌<◌, ◌+◌, ◌==◌, ◌||◌, Bool, true, false, List, [], ◌∷◌, length, Option, None, Some, slice_get, slice_set, get_or, drop, sum_by, refl, sym, ap, arith, inl, inr}
use Rattle.std.specs.Option.{option_map, option_map_or}
use Rattle.std.proofs.lemmas.Bool.{false≢true, or_left, or_right, or_cases, cases_eq, eq-eqb, ne_eqb}
use Rattle.std.proofs.Math.Seq.{drop-cons}
use Rattle.std.proofs.lemmas.List.Sums.{sum_by-cons}
use Rattle.dd_set.specs.Marked.{is_among}
use Rattle.dd_graph.specs.declared.node.Entry.{Entry}
use Rattle.dd_graph.specs.Right.{open_at}
use Rattle.dd_graph.specs.Trail.{open_one, open_all, is_held}
use Rattle.dd_graph.proofs.Kept.{opened_if}
use Rattle.dd_graph.proofs.Lists.{place_at}

pub open_one-set : (es : List Entry) (n : ℕ) (x : Entry) → n < length es → x ≡ get_or es n x → slice_set es n (record x { «open» = true }) ≡ open_one es n
open_one-set [] n x lt is = absurd (omega (arith, lt))
open_one-set (e ∷ es) zero x lt is = ap (λ (y : Entry). record y { «open» = true } ∷ es) is
open_one-set (e ∷ es) (suc n) x lt is = ap (λ ys. e ∷ ys) (open_one-set es n x (omega (arith, lt)) is)

pub open_one-length : (es : List Entry) (n : ℕ) → length (open_one es n) ≡ length es
open_one-length [] n = refl
open_one-length (e ∷ es) zero = refl
open_one-length (e ∷ es) (suc n) = ap suc (open_one-length es n)

pub open_all-length : (es : List Entry) (ns : List ℕ) → length (open_all es ns) ≡ length es
open_all-length es [] = refl
open_all-length es (n ∷ ns) = open_all-length (open_one es n) ns ∙ open_one-length es n

-- what does not read whether a label is open stays
module _ (f : Entry → ℕ) (same : (e : Entry) → f (record e { «open» = true }) ≡ f e) where
  open_one-sum : (es : List Entry) (n : ℕ) → sum_by f (open_one es n) ≡ sum_by f es
  open_one-sum [] n = refl
  open_one-sum (e ∷ es) zero = sum_by-cons f (record e { «open» = true }) es ∙ ap (λ m. m + sum_by f es) (same e) ∙ sym (sum_by-cons f e es)
  open_one-sum (e ∷ es) (suc n) = sum_by-cons f e (open_one es n) ∙ ap (λ m. f e + m) (open_one-sum es n) ∙ sym (sum_by-cons f e es)

  pub open_all-sum : (es : List Entry) (ns : List ℕ) → sum_by f (open_all es ns) ≡ sum_by f es
  open_all-sum es [] = refl
  open_all-sum es (n ∷ ns) = open_all-sum (open_one es n) ns ∙ open_one-sum es n

with_false : (b : Bool) → (b || false) ≡ b
with_false true = refl
with_false false = refl

with_true : (b : Bool) → (b || true) ≡ true
with_true true = refl
with_true false = refl

same_open : (e : Entry) (b : Bool) → b ≡ e.open → record e { «open» = b } ≡ e
same_open e b h = ap (λ o. record e { «open» = o }) h

-- an entry that stays as it is
pub opened-same : (b : Bool) (e : Entry) → (b ≡ true → e.open ≡ true) → opened_if b e ≡ e
opened-same true e h = same_open e (e.open || true) (with_true e.open ∙ sym (h refl))
opened-same false e h = same_open e (e.open || false) (with_false e.open)

unchanged : (b : Bool) → b ≡ false → (o : Option Entry) → o ≡ option_map (opened_if b) o
unchanged b is None = refl
unchanged b is (Some e) = ap Some (sym (opened-same b e (λ h. absurd (false≢true (sym is ∙ h)))))

eq-suc : (n k : ℕ) → (suc n == suc k) ≡ (n == k)
eq-suc n k = elim (cases_eq n k) [
  | inl e ↦ eq-eqb (suc n) (suc k) (ap (λ m. suc m) e) ∙ sym (eq-eqb n k e)
  | inr other ↦ ne_eqb (suc n) (suc k) (λ e. other (omega (arith, e))) ∙ sym (ne_eqb n k other)
]

pub open_one-get : (es : List Entry) (n k : ℕ) → slice_get (open_one es n) k ≡ option_map (opened_if (n == k)) (slice_get es k)
open_one-get [] n k = refl
open_one-get (e ∷ es) zero zero = ap (λ o. Some (record e { «open» = o })) (sym (with_true e.open))
open_one-get (e ∷ es) zero (suc k) = unchanged (0 == suc k) (ne_eqb 0 (suc k) (λ h. omega (arith, h))) (slice_get es k)
open_one-get (e ∷ es) (suc n) zero = unchanged (suc n == 0) (ne_eqb (suc n) 0 (λ h. omega (arith, h))) (Some e)
open_one-get (e ∷ es) (suc n) (suc k) = open_one-get es n k ∙ ap (λ b. option_map (opened_if b) (slice_get es k)) (sym (eq-suc n k))

pub open_all-get : (es : List Entry) (ns : List ℕ) (k : ℕ) → slice_get (open_all es ns) k ≡ option_map (opened_if (is_among k ns)) (slice_get es k)
open_all-get es [] k = unchanged false refl (slice_get es k)
open_all-get es (n ∷ ns) k = open_all-get (open_one es n) ns k ∙ ap (option_map (opened_if (is_among k ns))) (open_one-get es n k) ∙ twice (slice_get es k)
  where
    either : (a b c : Bool) → ((a || b) || c) ≡ (a || (b || c))
    either true b c = refl
    either false b c = refl

    twice : (o : Option Entry) → option_map (opened_if (is_among k ns)) (option_map (opened_if (n == k)) o) ≡ option_map (opened_if ((n == k) || is_among k ns)) o
    twice None = refl
    twice (Some e) = ap (λ b. Some (record e { «open» = b })) (either e.open (n == k) (is_among k ns))

-- what was open or in the list is open then
pub held-open : (es : List Entry) (ns : List ℕ) (t : ℕ) → (is_among t ns ≡ true → t < length es) → is_held es ns t ≡ true → open_at (open_all es ns) t ≡ true
held-open es ns t within h = ap (λ o. option_map_or (λ (x : Entry). x.open) o false) (open_all-get es ns t) ∙ go (slice_get es t) refl
  where
    go : (o : Option Entry) → slice_get es t ≡ o → option_map_or (λ (x : Entry). x.open) (option_map (opened_if (is_among t ns)) o) false ≡ true
    go None is = elim (or_cases (open_at es t) (is_among t ns) h) [
      | inl old ↦ absurd (false≢true (sym (ap (λ o. option_map_or (λ (x : Entry). x.open) o false) is) ∙ old))
      | inr new ↦ let found = place_at es t (within new) in absurd (no_entry found.0 (sym is ∙ found.1))
    ]
      where
        no_entry : (e : Entry) → None ≡ Some e → ⊥
        no_entry e p = cc
    go (Some e) is = elim (or_cases (open_at es t) (is_among t ns) h) [
      | inl old ↦ or_left e.open (is_among t ns) (sym (ap (λ o. option_map_or (λ (x : Entry). x.open) o false) is) ∙ old)
      | inr new ↦ or_right e.open (is_among t ns) new
    ]

-- one of the positions after another
pub open_all-turn : (es : List Entry) (ns : List ℕ) (at : ℕ) → at < length ns → open_all es (drop at ns) ≡ open_all (open_one es (get_or ns at 0)) (drop (at + 1) ns)
open_all-turn es ns at lt = ap (open_all es) (drop-cons ns at 0 lt)
    ∙ ap (λ k. open_all (open_one es (get_or ns at 0)) (drop k ns)) (let is : suc at ≡ at + 1 = omega arith in is)
