-- The numbers of lines among those that have a mark, and what is kept by the marks.
use Rattle.std.proofs.Common.{◌≡◌, ◌∙◌, sym, refl, ap, subst, ℕ, zero, suc, ◌<◌, ◌≤◌, ◌+◌, Bool, true, false, List, [], ◌∷◌, ◌++◌, length, length-append, take, slice_get, get_or, arith, inl, inr, Some}
use Rattle.std.proofs.lemmas.Bool.{cases_lt, false≢true}
use Rattle.std.proofs.lemmas.List.{get_or_append_left}
use Rattle.std.proofs.lemmas.Option.{same_Some}
use Rattle.dd_task.specs.declared.line.Line.{Line}
use Rattle.dd_trim.specs.Cited.{renumbered}
use Rattle.dd_trim.specs.Marked.{counted, is_marked, place_of, number_at, ArePlaces, kept_of}

-- ---- numbers

-- the numbers of the first k lines, and of the next one
pub record PlacesTo (marks : List Bool) (k : ℕ) (places : List ℕ) (next : ℕ) : Type 0 where
  pub size : length places ≡ k
  pub after : next ≡ place_of marks k
  pub each : (n : ℕ) → n < k → number_at places n ≡ place_of marks n

pub places-start : (marks : List Bool) → PlacesTo marks 0 [] 0
places-start marks = record {
  size = refl;
  after = start marks;
  each = λ n lt. absurd (omega (arith, lt));
} where
  start : (bs : List Bool) → 0 ≡ place_of bs 0
  start [] = refl
  start (b ∷ bs) = refl

pub place-next : (marks : List Bool) (k : ℕ) (d : Bool) → k < length marks → place_of marks (suc k) ≡ counted (get_or marks k d) (place_of marks k)
place-next [] k d lt = absurd (omega (arith, lt))
place-next (b ∷ []) zero d lt = refl
place-next (b ∷ c ∷ marks) zero d lt = refl
place-next (b ∷ marks) (suc k) d lt =
    ap (counted b) (place-next marks k d (omega (arith, lt))) ∙ counted-swap b (get_or marks k d) (place_of marks k)
  where
    counted-swap : (x y : Bool) (n : ℕ) → counted x (counted y n) ≡ counted y (counted x n)
    counted-swap true true n = refl
    counted-swap true false n = refl
    counted-swap false true n = refl
    counted-swap false false n = refl

pub places-next : (marks : List Bool) (k : ℕ) (places : List ℕ) (next after : ℕ) → k < length marks → PlacesTo marks k places next
    → after ≡ counted (get_or marks k false) next → PlacesTo marks (suc k) (places ++ next ∷ []) after
places-next marks k places next after lt so_far e = record {
  size = let more = length-append places (next ∷ []) in let size = so_far.size in omega (arith, more, size);
  after = e ∙ ap (counted (get_or marks k false)) so_far.after ∙ sym (place-next marks k false lt);
  each = λ n low. elim (cases_lt n k) [
    | inl before ↦ get_or_append_left places (next ∷ []) 0 n (let size = so_far.size in omega (arith, before, size)) ∙ so_far.each n before
    | inr late ↦ at-end n (let size = so_far.size in omega (arith, low, late, size))
  ];
} where
  at-end : (n : ℕ) → n ≡ length places → number_at (places ++ next ∷ []) n ≡ place_of marks n
  at-end n q = ap (number_at (places ++ next ∷ [])) q ∙ last places next ∙ so_far.after ∙ ap (place_of marks) (sym (q ∙ so_far.size))
    where
      last : (xs : List ℕ) (x : ℕ) → number_at (xs ++ x ∷ []) (length xs) ≡ x
      last [] x = refl
      last (y ∷ xs) x = last xs x

pub places-more : (marks : List Bool) (k : ℕ) (places : List ℕ) (next after : ℕ) → k < length marks → PlacesTo marks k places next
    → after ≡ counted (get_or marks k false) next → PlacesTo marks (k + 1) (places ++ next ∷ []) after
places-more marks k places next after lt so_far e =
    let q : suc k ≡ k + 1 = omega arith in
    subst (λ n. PlacesTo marks n (places ++ next ∷ []) after) q (places-next marks k places next after lt so_far e)

pub places-end : (marks : List Bool) (places : List ℕ) (next : ℕ) → PlacesTo marks (length marks) places next → ArePlaces marks places
places-end marks places next all = record { size = all.size; each = all.each }

-- a line with a mark has a smaller number than each later line
pub place-rises : (marks : List Bool) (n m : ℕ) → is_marked marks n ≡ true → n < m → m ≤ length marks → place_of marks n < place_of marks m
place-rises [] n m h lt le = absurd (false≢true (none n ∙ h)) where
  none : (i : ℕ) → false ≡ is_marked [] i
  none zero = refl
  none (suc i) = refl
place-rises (b ∷ marks) n zero h lt le = absurd (omega (arith, lt))
place-rises (true ∷ marks) zero (suc m) h lt le = omega arith
place-rises (false ∷ marks) zero (suc m) h lt le = absurd (false≢true h)
place-rises (true ∷ marks) (suc n) (suc m) h lt le = let r = place-rises marks n m h (omega (arith, lt)) (omega (arith, le)) in omega (arith, r)
place-rises (false ∷ marks) (suc n) (suc m) h lt le = place-rises marks n m h (omega (arith, lt)) (omega (arith, le))

-- ---- what is kept

module _ (f : ℕ → ℕ) where
  pub kept-more : (marks : List Bool) (lines : List Line) (k : ℕ) (line : Line) → slice_get lines k ≡ Some line → get_or marks k false ≡ true → k < length marks
      → kept_of (take (suc k) marks) f (take (suc k) lines) ≡ kept_of (take k marks) f (take k lines) ++ renumbered f line ∷ []
  kept-more [] lines k line at has lt = absurd (omega (arith, lt))
  kept-more (b ∷ marks) [] k line at has lt = cc
  kept-more (true ∷ []) (l ∷ []) zero line at has lt = ap (λ x. renumbered f x ∷ []) (same_Some l line at)
  kept-more (true ∷ c ∷ marks) (l ∷ []) zero line at has lt = ap (λ x. renumbered f x ∷ []) (same_Some l line at)
  kept-more (true ∷ []) (l ∷ m ∷ lines) zero line at has lt = ap (λ x. renumbered f x ∷ []) (same_Some l line at)
  kept-more (true ∷ c ∷ marks) (l ∷ m ∷ lines) zero line at has lt = ap (λ x. renumbered f x ∷ []) (same_Some l line at)
  kept-more (false ∷ marks) (l ∷ lines) zero line at has lt = absurd (false≢true has)
  kept-more (true ∷ marks) (l ∷ lines) (suc k) line at has lt = ap (λ ls. renumbered f l ∷ ls) (kept-more marks lines k line at has (omega (arith, lt)))
  kept-more (false ∷ marks) (l ∷ lines) (suc k) line at has lt = kept-more marks lines k line at has (omega (arith, lt))

  nothing : (xs ys : List Bool) → kept_of xs f [] ≡ kept_of ys f []
  nothing [] [] = refl
  nothing [] (true ∷ ys) = refl
  nothing [] (false ∷ ys) = refl
  nothing (true ∷ xs) [] = refl
  nothing (false ∷ xs) [] = refl
  nothing (true ∷ xs) (true ∷ ys) = refl
  nothing (true ∷ xs) (false ∷ ys) = refl
  nothing (false ∷ xs) (true ∷ ys) = refl
  nothing (false ∷ xs) (false ∷ ys) = refl

  pub kept-same : (marks : List Bool) (lines : List Line) (k : ℕ) → get_or marks k false ≡ false
      → kept_of (take (suc k) marks) f (take (suc k) lines) ≡ kept_of (take k marks) f (take k lines)
  kept-same [] lines zero lacks = refl
  kept-same [] lines (suc k) lacks = refl
  kept-same (b ∷ marks) [] zero lacks = nothing (b ∷ []) []
  kept-same (b ∷ marks) [] (suc k) lacks = nothing (b ∷ take (suc k) marks) (b ∷ take k marks)
  kept-same (true ∷ marks) (l ∷ lines) zero lacks = absurd (false≢true (sym lacks))
  kept-same (false ∷ marks) (l ∷ lines) zero lacks = refl
  kept-same (true ∷ marks) (l ∷ lines) (suc k) lacks = ap (λ ls. renumbered f l ∷ ls) (kept-same marks lines k lacks)
  kept-same (false ∷ marks) (l ∷ lines) (suc k) lacks = kept-same marks lines k lacks

  pub kept-next : (marks : List Bool) (lines : List Line) (k : ℕ) (line : Line) (mark : Bool) (old new : List Line) → k < length marks
      → mark ≡ get_or marks k false → slice_get lines k ≡ Some line → old ≡ kept_of (take k marks) f (take k lines)
      → new ≡ old ++ kept_of (mark ∷ []) f (line ∷ []) → new ≡ kept_of (take (suc k) marks) f (take (suc k) lines)
  kept-next marks lines k line true old new lt is at so_far e =
      e ∙ ap (λ xs. xs ++ renumbered f line ∷ []) so_far ∙ sym (kept-more marks lines k line at (sym is) lt)
  kept-next marks lines k line false old new lt is at so_far e =
      e ∙ ap (λ xs. xs ++ []) so_far ∙ append-nil (kept_of (take k marks) f (take k lines)) ∙ sym (kept-same marks lines k (sym is))
    where
      append-nil : (xs : List Line) → xs ++ [] ≡ xs
      append-nil [] = refl
      append-nil (x ∷ xs) = ap (λ ys. x ∷ ys) (append-nil xs)

  pub kept-step : (marks : List Bool) (lines : List Line) (k : ℕ) (line : Line) (mark : Bool) (old new : List Line) → k < length marks
      → mark ≡ get_or marks k false → slice_get lines k ≡ Some line → old ≡ kept_of (take k marks) f (take k lines)
      → new ≡ old ++ kept_of (mark ∷ []) f (line ∷ []) → new ≡ kept_of (take (k + 1) marks) f (take (k + 1) lines)
  kept-step marks lines k line mark old new lt is at so_far e =
      let q : suc k ≡ k + 1 = omega arith in
      subst (λ n. new ≡ kept_of (take n marks) f (take n lines)) q (kept-next marks lines k line mark old new lt is at so_far e)

  -- a line with a mark is kept at its number
  pub kept-at : (marks : List Bool) (lines : List Line) (n : ℕ) (line : Line) → is_marked marks n ≡ true → slice_get lines n ≡ Some line
      → slice_get (kept_of marks f lines) (place_of marks n) ≡ Some (renumbered f line)
  kept-at [] lines zero line has at = absurd (false≢true has)
  kept-at [] lines (suc n) line has at = absurd (false≢true has)
  kept-at (b ∷ marks) [] n line has at = cc
  kept-at (true ∷ marks) (l ∷ lines) zero line has at = ap (λ x. Some (renumbered f x)) (same_Some l line at)
  kept-at (false ∷ marks) (l ∷ lines) zero line has at = absurd (false≢true has)
  kept-at (true ∷ marks) (l ∷ lines) (suc n) line has at = kept-at marks lines n line has at
  kept-at (false ∷ marks) (l ∷ lines) (suc n) line has at = kept-at marks lines n line has at

  -- where a kept line is from
  pub record IsFromLine (marks : List Bool) (lines : List Line) (m : ℕ) (kept : Line) : Type 0 where
    pub number : ℕ
    pub line : Line
    pub has : is_marked marks number ≡ true
    pub at : slice_get lines number ≡ Some line
    pub place : place_of marks number ≡ m
    pub same : kept ≡ renumbered f line

  pub kept-from : (marks : List Bool) (lines : List Line) (m : ℕ) (kept : Line) → slice_get (kept_of marks f lines) m ≡ Some kept → IsFromLine marks lines m kept
  kept-from [] lines m kept at = cc
  kept-from (true ∷ marks) [] m kept at = cc
  kept-from (false ∷ marks) [] m kept at = cc
  kept-from (true ∷ marks) (l ∷ lines) zero kept at = record { number = 0; line = l; has = refl; at = refl; place = refl; same = sym (same_Some (renumbered f l) kept at) }
  kept-from (true ∷ marks) (l ∷ lines) (suc m) kept at = let h = kept-from marks lines m kept at in
      record { number = suc h.number; line = h.line; has = h.has; at = h.at; place = ap suc h.place; same = h.same }
  kept-from (false ∷ marks) (l ∷ lines) m kept at = let h = kept-from marks lines m kept at in
      record { number = suc h.number; line = h.line; has = h.has; at = h.at; place = h.place; same = h.same }
