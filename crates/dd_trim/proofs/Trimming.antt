-- What is kept by the marks derives the same, and needs all its lines.
use Rattle.std.proofs.Common.{◌≡◌, ◌∙◌, ◌==◌, sym, refl, ap, subst, ℕ, zero, suc, ◌<◌, ◌+◌, ◌-◌, Bool, true, false, List, [], ◌∷◌, map, length, take, slice_get, get_or, inl, inr, arith, Some, eqb-true}
use Rattle.std.proofs.lemmas.Bool.{or_cases, or_left, or_right, eq-eqb}
use Rattle.std.proofs.lemmas.Option.{same_Some, slice_get_within, slice_get-get_or}
use Rattle.dd_concept.specs.declared.concept.Concept.{Concept}
use Rattle.dd_peer.specs.declared.version.Pinned.{Pinned}
use Rattle.dd_task.specs.Claims.{Claim, claim_of}
use Rattle.dd_task.specs.Derives.{EndsWithin}
use Rattle.dd_task.specs.Goals.{root_label}
use Rattle.dd_task.specs.Keys.{is_among}
use Rattle.dd_task.specs.Lines.{AreRight, is_right}
use Rattle.dd_task.specs.declared.line.Line.{Line}
use Rattle.dd_task.specs.declared.line.Why.{Why}
use Rattle.dd_task.specs.declared.line.Why.TheVariants as why
use Rattle.dd_trim.specs.Cited.{cited_by, renumbered_why, renumbered}
use Rattle.dd_trim.specs.Marked.{counted, is_marked, place_of, number_at, AreMarked, ArePlaces, kept_of}
use Rattle.dd_trim.specs.Trimmed.{AreFrom, AreNeeded, DeriveAlike}
use Rattle.dd_trim.proofs.Kept.{kept-at, kept-from, place-rises, place-next, IsFromLine}
use Rattle.dd_trim.proofs.Marking.{marked-low}
use Rattle.dd_trim.proofs.Renumbered.{right-again}

-- ---- places in lists

module _ (A : Type 0) where
  taken-at : (xs : List A) (q m : ℕ) (x : A) → slice_get (take q xs) m ≡ Some x → (slice_get xs m ≡ Some x) × (m < q)
  taken-at [] zero m x e = cc
  taken-at [] (suc q) m x e = cc
  taken-at (a ∷ xs) zero m x e = cc
  taken-at (a ∷ xs) (suc q) zero x e = (e, omega arith)
  taken-at (a ∷ xs) (suc q) (suc m) x e = let h = taken-at xs q m x e in (h.0, let lt = h.1 in omega (arith, lt))

  at-take : (xs : List A) (q m : ℕ) (x : A) → slice_get xs m ≡ Some x → m < q → slice_get (take q xs) m ≡ Some x
  at-take [] q m x e lt = cc
  at-take (a ∷ xs) zero m x e lt = absurd (omega (arith, lt))
  at-take (a ∷ xs) (suc q) zero x e lt = e
  at-take (a ∷ xs) (suc q) (suc m) x e lt = at-take xs q m x e (omega (arith, lt))

module _ (A B : Type 0) (g : A → B) where
  map-at : (xs : List A) (n : ℕ) (y : B) → slice_get (map g xs) n ≡ Some y → (x : A) × (slice_get xs n ≡ Some x) × (g x ≡ y)
  map-at [] n y e = cc
  map-at (a ∷ xs) zero y e = (a, refl, same_Some (g a) y e)
  map-at (a ∷ xs) (suc n) y e = map-at xs n y e

  at-map : (xs : List A) (n : ℕ) (x : A) → slice_get xs n ≡ Some x → slice_get (map g xs) n ≡ Some (g x)
  at-map [] n x e = cc
  at-map (a ∷ xs) zero x e = ap (λ y. Some (g y)) (same_Some a x e)
  at-map (a ∷ xs) (suc n) x e = at-map xs n x e

-- ---- cited numbers

cited-again : (f : ℕ → ℕ) (w : Why) → cited_by (renumbered_why f w) ≡ map f (cited_by w)
cited-again f why.Bottom = refl
cited-again f (why.Clash a) = refl
cited-again f (why.And at cite) = refl
cited-again f (why.Or at left right) = refl
cited-again f (why.Axiom index left right) = refl
cited-again f (why.Cut on left right) = refl
cited-again f (why.Successor at cite) = refl
cited-again f (why.Bridge from o ks cite each) = refl

among-map : (f : ℕ → ℕ) (ns : List ℕ) (n : ℕ) → is_among ns n ≡ true → is_among (map f ns) (f n) ≡ true
among-map f [] n h = cc
among-map f (m ∷ ns) n h = elim (or_cases (m == n) (is_among ns n) h) [
  | inl t ↦ or_left (f m == f n) (is_among (map f ns) (f n)) (eq-eqb (f m) (f n) (ap f (eqb-true m n t)))
  | inr t ↦ or_right (f m == f n) (is_among (map f ns) (f n)) (among-map f ns n t)
]

-- ---- what is kept

kept-length : (marks : List Bool) (f : ℕ → ℕ) (lines : List Line) → length marks ≡ length lines → length (kept_of marks f lines) ≡ place_of marks (length marks)
kept-length [] f [] e = refl
kept-length [] f (l ∷ lines) e = absurd (omega (arith, e))
kept-length (b ∷ marks) f [] e = absurd (omega (arith, e))
kept-length (true ∷ marks) f (l ∷ lines) e = ap suc (kept-length marks f lines (omega (arith, e)))
kept-length (false ∷ marks) f (l ∷ lines) e = kept-length marks f lines (omega (arith, e))

module _ (lines : List Line) (marks : List Bool) (places : List ℕ) (marked : AreMarked lines 0 marks) (numbers : ArePlaces marks places) where
  abbrev f : ℕ → ℕ
  f = number_at places

  abbrev kept : List Line
  kept = kept_of marks f lines

  place-is : (n : ℕ) → is_marked marks n ≡ true → f n ≡ place_of marks n
  place-is n h = numbers.each n (marked-low marks n h)

  earlier : (n m : ℕ) → is_marked marks n ≡ true → is_marked marks m ≡ true → n < m → place_of marks n < place_of marks m
  earlier n m h later lt = place-rises marks n m h lt (let low = marked-low marks m later in omega (arith, low))

  -- the last line is kept last
  kept-size : (n : ℕ) → n + 1 ≡ length lines → length kept ≡ place_of marks n + 1
  kept-size n e =
      let size = marked.size in
      let last = marked.last n e in
      kept-length marks f lines size ∙ ap (place_of marks) (omega (arith, e, size))
      ∙ place-next marks n false (omega (arith, e, size)) ∙ ap (λ b. counted b (place_of marks n)) last ∙ omega arith

  module _ (p : Pinned) (right : AreRight p lines) (m : ℕ) (x : Line) (at : slice_get kept m ≡ Some x) where
    abbrev source : IsFromLine f marks lines m x
    source = kept-from f marks lines m x at

    found : (n : ℕ) → is_among (cited_by source.line.why) n ≡ true → (c : Claim) → slice_get (map claim_of (take source.number lines)) n ≡ Some c
        → slice_get (map claim_of (take m kept)) (f n) ≡ Some c
    found n among c there =
        let l = map-at Line Claim claim_of (take source.number lines) n c there in
        let t = taken-at Line lines source.number n l.0 l.1 in
        let has = marked.cited source.number source.line (omega arith) source.has source.at n among t.1 in
        let lt = earlier n source.number has source.has t.1 in
        let e = source.place in
        ap (slice_get (map claim_of (take m kept))) (place-is n has)
        ∙ at-map Line Claim claim_of (take m kept) (place_of marks n) (renumbered f l.0)
        (at-take Line kept m (place_of marks n) (renumbered f l.0) (kept-at f marks lines n l.0 has t.0) (omega (arith, lt, e)))
        ∙ ap Some l.2

    right-kept : is_right p (map claim_of (take m kept)) x ≡ true
    right-kept = subst (λ y. is_right p (map claim_of (take m kept)) y ≡ true) (sym source.same)
        (right-again p (map claim_of (take source.number lines)) (map claim_of (take m kept)) f source.line found (right source.number source.line source.at))

  last-kept : (peer : ℕ) (label : List Concept) → EndsWithin peer label lines → EndsWithin peer label kept
  last-kept peer label ends =
      let low = slice_get_within lines (length lines - 1) ends.line ends.is_last in
      let e : (length lines - 1) + 1 ≡ length lines = omega (arith, low) in
      let size = kept-size (length lines - 1) e in
      record {
        line = renumbered f ends.line;
        is_last = ap (slice_get kept) (omega (arith, size)) ∙ kept-at f marks lines (length lines - 1) ends.line (marked.last (length lines - 1) e) ends.is_last;
        at_peer = ends.at_peer;
        within = ends.within;
      }

  pub derive-alike : DeriveAlike lines kept
  derive-alike p q derives = record {
    right = λ m x at. right-kept p derives.right m x at;
    last = last-kept q.peer (root_label q) derives.last;
  }

  pub are-from : AreFrom lines kept
  are-from m x at = let s = kept-from f marks lines m x at in (s.number, s.line, s.at, f, s.same)

  needed-at : (m : ℕ) (x : Line) → slice_get kept m ≡ Some x → m + 1 < length kept
      → (k : ℕ) × (line : Line) × (m < k) × (slice_get kept k ≡ Some line) × (is_among (cited_by line.why) m ≡ true)
  needed-at m x at lt =
      let s = kept-from f marks lines m x at in
      elim (marked.each s.number s.has) [
        | inl last ↦ absurd (let size = kept-size s.number last in let e = s.place in omega (arith, lt, size, e))
        | inr by ↦ (
          place_of marks by.0,
          renumbered f by.1,
          subst (λ i. i < place_of marks by.0) s.place (earlier s.number by.0 s.has by.3 by.2),
          kept-at f marks lines by.0 by.1 by.3 by.4,
          subst (λ i. is_among (cited_by (renumbered_why f by.1.why)) i ≡ true) (place-is s.number s.has ∙ s.place)
              (subst (λ ns. is_among ns (f s.number) ≡ true) (sym (cited-again f by.1.why)) (among-map f (cited_by by.1.why) s.number by.5)),
        )
      ]

  pub are-needed : AreNeeded kept
  are-needed m lt = needed-at m (get_or kept m fallback) (slice_get-get_or kept m fallback (omega (arith, lt))) lt where
    fallback : Line
    fallback = record { peer = 0; label = []; why = why.Bottom }

-- what the new lines are to the old ones
pub record IsTrimmed (old new : List Line) : Type 0 where
  pub derives : DeriveAlike old new
  pub from : AreFrom old new
  pub needed : AreNeeded new

pub trimmed : (lines copies : List Line) (needed marks : List Bool) (places numbers : List ℕ) → AreMarked lines 0 needed → marks ≡ needed
    → ArePlaces marks places → numbers ≡ places → copies ≡ kept_of marks (number_at numbers) lines → IsTrimmed lines copies
trimmed lines copies needed marks places numbers marked m are n e = subst (IsTrimmed lines) (sym e)
    (subst (λ ns. IsTrimmed lines (kept_of marks (number_at ns) lines)) (sym n) all)
  where
    here : AreMarked lines 0 marks
    here = subst (AreMarked lines 0) (sym m) marked

    all : IsTrimmed lines (kept_of marks (number_at places) lines)
    all = record {
      derives = derive-alike lines marks places here are;
      from = are-from lines marks places here are;
      needed = are-needed lines marks places here are;
    }
