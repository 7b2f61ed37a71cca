-- Line feeds in lists of bytes: where the first one is, and how the lines follow from it.
use Rattle.std.proofs.Common.{◌≡◌, ℕ, zero, suc, ◌+◌, ◌<◌, ◌||◌, ◌⊎◌, ◌==◌, Bool, true, false, cond, Some, None, List, [], ◌∷◌, ◌++◌, length, take, drop, position, slice_get, if◌then◌else◌, refl, sym, ap, subst, ◌∙◌, arith, zero-add, add-one, eqb-true}
use Rattle.std.specs.List.{position_from}
use Rattle.std.proofs.lemmas.Iterator.Adapters.{position_from-zero}
use Rattle.std.proofs.lemmas.List.{take-append-drop}
use Rattle.std.proofs.lemmas.List.Folds.{list_any-append}
use Rattle.dd_lines.specs.Lines.{onto, lines_of, before, ended_lines, has_feed, IsCut}
use Rattle.dd_lines.specs.Parts.{IsFeedAt}

or_parts : (a b : Bool) → (a || b) ≡ false → (a ≡ false) × (b ≡ false)
or_parts true b h = cc
or_parts false b h = (refl, h)

or-true : (a : Bool) → (a || true) ≡ true
or-true true = refl
or-true false = refl

pub no_feed-append : (xs ys : List ℕ) → has_feed xs ≡ false → has_feed ys ≡ false → has_feed (xs ++ ys) ≡ false
no_feed-append xs ys h k = list_any-append (λ b. b == 10) xs ys ∙ ap (λ v. v || has_feed ys) h ∙ k

pub no_feed_parts : (xs ys : List ℕ) → has_feed (xs ++ ys) ≡ false → (has_feed xs ≡ false) × (has_feed ys ≡ false)
no_feed_parts xs ys h = or_parts (has_feed xs) (has_feed ys) (sym (list_any-append (λ b. b == 10) xs ys) ∙ h)

no_feed_from : (xs : List ℕ) (i : ℕ) → position_from (λ b. b == 10) i xs ≡ None → has_feed xs ≡ false
no_feed_from [] i h = refl
no_feed_from (x ∷ xs) i h =
    elim (x == 10) as (λ v. cond v (Some i) (position_from (λ b. b == 10) (i + 1) xs) ≡ None → (v || has_feed xs) ≡ false) [
      | true ↦ λ k. cc
      | false ↦ λ k. no_feed_from xs (i + 1) k
    ] h

feed_from : (xs : List ℕ) (i k : ℕ) → position_from (λ b. b == 10) i xs ≡ Some k → (n : ℕ) × (k ≡ i + n) × IsFeedAt n xs
feed_from [] i k h = cc
feed_from (x ∷ xs) i k h =
    elim (x == 10) as (λ v. (x == 10) ≡ v → cond v (Some i) (position_from (λ b. b == 10) (i + 1) xs) ≡ Some k → (n : ℕ) × (k ≡ i + n) × IsFeedAt n (x ∷ xs)) [
      | true ↦ λ e f. let p : i ≡ k = cc in (0, omega arith, (ap Some (eqb-true x 10 e), refl))
      | false ↦ λ e f.
          let r = feed_from xs (i + 1) k f in
          (suc r.0, omega (arith, r.1), (r.2.0, ap (λ v. v || has_feed (take r.0 xs)) e ∙ r.2.1))
    ] refl h

-- a search of the rest that finds nothing
pub no_feed_beyond : (n : ℕ) (xs : List ℕ) → has_feed (take n xs) ≡ false → position (λ b. b == 10) (drop n xs) ≡ None → has_feed xs ≡ false
no_feed_beyond n xs h k =
    let none = no_feed_from (drop n xs) 0 (sym (position_from-zero (λ b. b == 10) (drop n xs)) ∙ k) in
    sym (ap has_feed (take-append-drop n xs)) ∙ no_feed-append (take n xs) (drop n xs) h none

feed_behind : (n k : ℕ) (xs : List ℕ) → has_feed (take n xs) ≡ false → IsFeedAt k (drop n xs) → IsFeedAt (n + k) xs
feed_behind zero k xs h f = subst (λ m. IsFeedAt m xs) (sym (zero-add k)) f
feed_behind (suc n) k [] h f = cc (f.0)
feed_behind (suc n) k (x ∷ xs) h f =
    let parts = or_parts (x == 10) (has_feed (take n xs)) h in
    let r = feed_behind n k xs parts.1 f in
    let here : IsFeedAt (suc (n + k)) (x ∷ xs) = (r.0, ap (λ v. v || has_feed (take (n + k) xs)) parts.0 ∙ r.1) in
    let e : suc (n + k) ≡ suc n + k = omega arith in
    subst (λ m. IsFeedAt m (x ∷ xs)) e here

-- a search of the rest that finds a line feed
pub feed_beyond : (n k : ℕ) (xs : List ℕ) → has_feed (take n xs) ≡ false → position (λ b. b == 10) (drop n xs) ≡ Some k → IsFeedAt (n + k) xs
feed_beyond n k xs h f =
    let r = feed_from (drop n xs) 0 k (sym (position_from-zero (λ b. b == 10) (drop n xs)) ∙ f) in
    let e : r.0 ≡ k = omega (arith, r.1) in
    feed_behind n k xs h (subst (λ m. IsFeedAt m (drop n xs)) e r.2)

feed_splits : (n : ℕ) (xs : List ℕ) → slice_get xs n ≡ Some 10 → xs ≡ take n xs ++ 10 ∷ drop (suc n) xs
feed_splits n [] h = cc
feed_splits zero (x ∷ xs) h = let e : x ≡ 10 = cc in ap (λ b. b ∷ xs) e
feed_splits (suc n) (x ∷ xs) h = ap (λ ys. x ∷ ys) (feed_splits n xs h)

-- a line feed cuts the bytes in two
pub feed_cuts : (n : ℕ) (xs : List ℕ) → slice_get xs n ≡ Some 10 → xs ≡ take n xs ++ 10 ∷ drop (n + 1) xs
feed_cuts n xs h = subst (λ m. xs ≡ take n xs ++ 10 ∷ drop m xs) (sym (add-one n)) (feed_splits n xs h)

-- the first line ends at the first line feed
pub lines_of-feed : (xs ys : List ℕ) → has_feed xs ≡ false → lines_of (xs ++ 10 ∷ ys) ≡ xs ∷ lines_of ys
lines_of-feed [] ys h = refl
lines_of-feed (x ∷ xs) ys h =
    let parts = or_parts (x == 10) (has_feed xs) h in
    let rest = lines_of (xs ++ 10 ∷ ys) in
    ap (λ v. if v then [] ∷ rest else onto x rest) parts.0 ∙ ap (onto x) (lines_of-feed xs ys parts.1)

-- the last line may lack the line feed
pub lines_of-last : (xs : List ℕ) → has_feed xs ≡ false → 0 < length xs → lines_of xs ≡ xs ∷ []
lines_of-last [] h k = absurd (omega arith)
lines_of-last (x ∷ []) h k =
    let parts = or_parts (x == 10) false h in
    ap (λ v. if v then [] ∷ [] else onto x []) parts.0
lines_of-last (x ∷ y ∷ ys) h k =
    let parts = or_parts (x == 10) (has_feed (y ∷ ys)) h in
    let rest = lines_of (y ∷ ys) in
    ap (λ v. if v then [] ∷ rest else onto x rest) parts.0 ∙ ap (onto x) (lines_of-last (y ∷ ys) parts.1 (omega arith))

-- the first line that a line feed ends, and the others
pub ended_lines-feed : (xs ys : List ℕ) → has_feed xs ≡ false → ended_lines (xs ++ 10 ∷ ys) ≡ xs ∷ ended_lines ys
ended_lines-feed [] ys h = refl
ended_lines-feed (x ∷ xs) ys h =
    let parts = or_parts (x == 10) (has_feed xs) h in
    let rest = ended_lines (xs ++ 10 ∷ ys) in
    ap (λ v. if v then [] ∷ rest else before x rest) parts.0 ∙ ap (before x) (ended_lines-feed xs ys parts.1)

-- without a line feed no line is ended
pub ended_lines-none : (xs : List ℕ) → has_feed xs ≡ false → ended_lines xs ≡ []
ended_lines-none [] h = refl
ended_lines-none (x ∷ xs) h =
    let parts = or_parts (x == 10) (has_feed xs) h in
    ap (λ v. if v then [] ∷ ended_lines xs else before x (ended_lines xs)) parts.0 ∙ ap (before x) (ended_lines-none xs parts.1)

-- a line feed within the first bytes is among them
pub feed_seen : (xs ys : List ℕ) (n : ℕ) → length xs < n → has_feed (take n (xs ++ 10 ∷ ys)) ≡ true
feed_seen xs ys zero h = absurd (omega arith)
feed_seen [] ys (suc n) h = refl
feed_seen (x ∷ xs) ys (suc n) h = ap (λ v. (x == 10) || v) (feed_seen xs ys n (omega arith)) ∙ or-true (x == 10)
