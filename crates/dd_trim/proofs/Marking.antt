-- Marks on lines: one, several, those of a visit, and those of all lines.
use Rattle.std.proofs.Common.{◌≡◌, ◌≢◌, ◌∙◌, sym, refl, ap, subst, ℕ, zero, suc, ◌<◌, ◌≤◌, ◌+◌, ◌-◌, ◌⊎◌, ◌||◌, ◌==◌, Bool, true, false, List, [], ◌∷◌, ◌++◌, length, slice_get, set, replicate, inl, inr, arith, Some, eqb-true}
use Rattle.std.proofs.lemmas.Bool.{or_cases, or_left, cases_eq, cases_lt, cases_Bool, false≢true, eq-eqb}
use Rattle.std.proofs.lemmas.List.{get_or-set_same, get_or-set_other, get_or_past, get_or-replicate, length-set, length-replicate}
use Rattle.std.proofs.lemmas.List.Folds.{list_any-append}
use Rattle.std.proofs.lemmas.Option.{same_Some, slice_get_within}
use Rattle.dd_task.specs.Keys.{is_among}
use Rattle.dd_task.specs.declared.line.Line.{Line}
use Rattle.dd_trim.specs.Cited.{cited_by}
use Rattle.dd_trim.specs.Marked.{is_marked, Marks, Visits, AreMarked}

pub marked-low : (marks : List Bool) (n : ℕ) → is_marked marks n ≡ true → n < length marks
marked-low marks n h = elim (cases_lt n (length marks)) [
  | inl low ↦ low
  | inr high ↦ absurd (false≢true (sym (get_or_past marks n false high) ∙ h))
]

among-one : (x c : ℕ) → is_among (x ∷ []) c ≡ true → c ≡ x
among-one x c h = elim (or_cases (x == c) false h) [
  | inl t ↦ sym (eqb-true x c t)
  | inr f ↦ absurd (false≢true f)
]

one-among : (x : ℕ) → is_among (x ∷ []) x ≡ true
one-among x = or_left (x == x) false (eq-eqb x x refl)

among-both : (xs ys : List ℕ) (c : ℕ) → is_among (xs ++ ys) c ≡ true → (is_among xs c ≡ true) ⊎ (is_among ys c ≡ true)
among-both xs ys c h = or_cases (is_among xs c) (is_among ys c) (sym (list_any-append (λ k. k == c) xs ys) ∙ h)

among-left : (xs ys : List ℕ) (c : ℕ) → is_among xs c ≡ true → is_among (xs ++ ys) c ≡ true
among-left xs ys c h = list_any-append (λ k. k == c) xs ys ∙ or_left (is_among xs c) (is_among ys c) h

-- ---- one mark

pub mark-one : (k cite : ℕ) (marks : List Bool) → k ≤ length marks → cite < k → Marks k (cite ∷ []) marks (set marks cite true)
mark-one k cite marks low before = record {
  size = length-set marks cite true;
  here = λ c e lt. ap (is_marked (set marks cite true)) (among-one cite c e) ∙ get_or-set_same marks cite true false (omega (arith, low, before));
  kept = λ c e. elim (cases_eq c cite) [
    | inl q ↦ ap (is_marked (set marks cite true)) q ∙ get_or-set_same marks cite true false (omega (arith, low, before))
    | inr ne ↦ get_or-set_other marks cite c true false ne ∙ e
  ];
  only = λ c e. elim (cases_eq c cite) [
    | inl q ↦ inr (subst (λ m. is_among (cite ∷ []) m ≡ true) (sym q) (one-among cite), omega (arith, q, before))
    | inr ne ↦ inl (sym (get_or-set_other marks cite c true false ne) ∙ e)
  ];
}

pub mark-late : (k cite : ℕ) (marks : List Bool) → k ≤ cite → Marks k (cite ∷ []) marks marks
mark-late k cite marks late = record {
  size = refl;
  here = λ c e lt. let q = among-one cite c e in absurd (omega (arith, q, lt, late));
  kept = λ c e. e;
  only = λ c e. inl e;
}

-- ---- several marks

pub mark-none : (k : ℕ) (marks : List Bool) → Marks k [] marks marks
mark-none k marks = record {
  size = refl;
  here = λ c e lt. absurd (false≢true e);
  kept = λ c e. e;
  only = λ c e. inl e;
}

pub mark-both : (k : ℕ) (xs ys : List ℕ) (a b c : List Bool) → Marks k xs a b → Marks k ys b c → Marks k (xs ++ ys) a c
mark-both k xs ys a b c first then = record {
  size = then.size ∙ first.size;
  here = λ n e lt. elim (among-both xs ys n e) [
    | inl h ↦ then.kept n (first.here n h lt)
    | inr h ↦ then.here n h lt
  ];
  kept = λ n e. then.kept n (first.kept n e);
  only = λ n e. elim (then.only n e) [
    | inl m ↦ elim (first.only n m) [
      | inl old ↦ inl old
      | inr h ↦ inr (among-left xs ys n h.0, h.1)
    ]
    | inr h ↦ inr (among-right xs ys n h.0, h.1)
  ];
} where
  among-right : (us vs : List ℕ) (n : ℕ) → is_among vs n ≡ true → is_among (us ++ vs) n ≡ true
  among-right [] vs n h = h
  among-right (u ∷ us) vs n h = elim (cases_Bool (u == n)) [
    | inl t ↦ or_left (u == n) (is_among (us ++ vs) n) t
    | inr f ↦ ap (λ b. b || is_among (us ++ vs) n) f ∙ among-right us vs n h
  ]

-- ---- all lines

pub marks-start : (lines : List Line) (n : ℕ) → n + 1 ≡ length lines → AreMarked lines (length lines) (set (replicate (length lines) false) n true)
marks-start lines n e = record {
  size = length-set (replicate (length lines) false) n true ∙ length-replicate (length lines) false;
  last = λ m h. ap (is_marked (set (replicate (length lines) false) n true)) (omega (arith, e, h))
      ∙ get_or-set_same (replicate (length lines) false) n true false (let size = length-replicate (length lines) false in omega (arith, e, size));
  cited = λ m line le h at. let lt = slice_get_within lines m line at in absurd (omega (arith, le, lt));
  each = λ m h. elim (cases_eq m n) [
    | inl q ↦ inl (omega (arith, q, e))
    | inr ne ↦ absurd (false≢true (sym (unmarked m ne) ∙ h))
  ];
} where
  unmarked : (m : ℕ) → m ≢ n → is_marked (set (replicate (length lines) false) n true) m ≡ false
  unmarked m ne = get_or-set_other (replicate (length lines) false) n m true false ne ∙ elim (cases_lt m (length lines)) [
    | inl low ↦ get_or-replicate (length lines) m false false low
    | inr high ↦ get_or_past (replicate (length lines) false) m false (let size = length-replicate (length lines) false in omega (arith, high, size))
  ]

pub marks-empty : (lines : List Line) → length lines ≡ 0 → AreMarked lines (length lines) (replicate (length lines) false)
marks-empty lines e = record {
  size = length-replicate (length lines) false;
  last = λ m h. absurd (omega (arith, e, h));
  cited = λ m line le h at. let lt = slice_get_within lines m line at in absurd (omega (arith, e, lt));
  each = λ m h. let lt = marked-low (replicate (length lines) false) m h in let size = length-replicate (length lines) false in absurd (omega (arith, e, lt, size));
}

pub marks-next : (lines : List Line) (k : ℕ) (line : Line) (old new : List Bool) → AreMarked lines (k + 1) old → slice_get lines k ≡ Some line
    → Visits k (cited_by line.why) old new → AreMarked lines k new
marks-next lines k line old new marked at visit = elim (cases_Bool (is_marked old k)) [
  | inl has ↦ with-mark (visit.marked has) has
  | inr lacks ↦ subst (AreMarked lines k) (sym (visit.unmarked lacks)) (without-mark lacks)
] where
  here : (n : ℕ) (l : Line) → n ≡ k → slice_get lines n ≡ Some l → l ≡ line
  here n l e there = same_Some l line (sym there ∙ (ap (slice_get lines) e ∙ at))

  without-mark : is_marked old k ≡ false → AreMarked lines k old
  without-mark lacks = record {
    size = marked.size;
    last = marked.last;
    cited = λ n l le h there. elim (cases_eq n k) [
      | inl q ↦ absurd (false≢true (sym lacks ∙ (ap (is_marked old) (sym q) ∙ h)))
      | inr ne ↦ marked.cited n l (omega (arith, le, ne)) h there
    ];
    each = marked.each;
  }

  with-mark : Marks k (cited_by line.why) old new → is_marked old k ≡ true → AreMarked lines k new
  with-mark marks has = record {
    size = marks.size ∙ marked.size;
    last = λ n h. marks.kept n (marked.last n h);
    cited = λ n l le h there c e lt. elim (cases_eq n k) [
      | inl q ↦ marks.here c (subst (λ x. is_among (cited_by x.why) c ≡ true) (here n l q there) e) (omega (arith, q, lt))
      | inr ne ↦ elim (marks.only n h) [
        | inl was ↦ marks.kept c (marked.cited n l (omega (arith, le, ne)) was there c e lt)
        | inr new_one ↦ absurd (let lower = new_one.1 in omega (arith, le, lower))
      ]
    ];
    each = λ n h. elim (marks.only n h) [
      | inl was ↦ elim (marked.each n was) [
        | inl last ↦ inl last
        | inr by ↦ inr (by.0, by.1, by.2, marks.kept by.0 by.3, by.4, by.5)
      ]
      | inr cite ↦ inr (k, line, cite.1, marks.kept k has, at, cite.0)
    ];
  }

pub marks-back : (lines : List Line) (k : ℕ) (line : Line) (old new : List Bool) → 0 < k → AreMarked lines k old → slice_get lines (k - 1) ≡ Some line
    → Visits (k - 1) (cited_by line.why) old new → AreMarked lines (k - 1) new
marks-back lines zero line old new some marked at visit = absurd (omega (arith, some))
marks-back lines (suc k) line old new some marked at visit =
    let e : suc k - 1 ≡ k = omega arith in
    subst (λ n. AreMarked lines n new) (sym e) (marks-next lines k line old new (subst (λ n. AreMarked lines n old) (omega arith) marked)
    (ap (slice_get lines) (sym e) ∙ at) (subst (λ n. Visits n (cited_by line.why) old new) e visit))
