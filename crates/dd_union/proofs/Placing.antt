-- Each part is placed behind the elements that its peer has.
use Rattle.std.proofs.Common.{◌≡◌, ◌≢◌, ◌∙◌, ℕ, zero, suc, ◌+◌, ◌-◌, ◌<◌, List, [], ◌∷◌, ◌++◌, length, slice_set, Option, None, Some, All, ap, refl, subst, sym, inl, inr, arith}
use Rattle.std.specs.List.{slice_get}
use Rattle.std.proofs.lemmas.Bool.{cases_eq, cases_lt}
use Rattle.std.proofs.lemmas.List.Elements.{All-set}
use Rattle.std.proofs.lemmas.List.{length-set}
use Rattle.std.proofs.lemmas.Option.{same_Some, slice_get_within}
use Rattle.dd_concept.specs.declared.concept.Concept.{Concept}
use Rattle.dd_interp.specs.declared.interp.Interp.{Interp}
use Rattle.dd_interp.specs.Meaning.{meaning}
use Rattle.dd_interp.specs.Satisfies.{IsShaped}
use Rattle.dd_interp.specs.Union.{KeepsEach, union_of}
use Rattle.dd_task.proofs.Places.{All-from, at-append, at-append_cases}
use Rattle.dd_board.specs.View.{SessionView}
use Rattle.dd_union.specs.declared.place.Place.{Place}
use Rattle.dd_union.specs.Union.{IsPart}
use Rattle.dd_union.specs.Pieces.{AreEmpty, IsNoPart, IsPutBehind, PutsPart, IsPlacedIn, IsCovered, ArePlaced}

module _ (A : Type 0) where
  at-set : (xs : List A) (i : ℕ) (a : A) → i < length xs → slice_get (slice_set xs i a) i ≡ Some a
  at-set [] i a lt = absurd (omega (arith, lt))
  at-set (x ∷ xs) zero a lt = refl
  at-set (x ∷ xs) (suc i) a lt = at-set xs i a (omega (arith, lt))

  at-set_other : (xs : List A) (i j : ℕ) (a : A) → j ≢ i → slice_get (slice_set xs i a) j ≡ slice_get xs j
  at-set_other [] i j a n = refl
  at-set_other (x ∷ xs) zero zero a n = absurd (n refl)
  at-set_other (x ∷ xs) zero (suc j) a n = refl
  at-set_other (x ∷ xs) (suc i) zero a n = refl
  at-set_other (x ∷ xs) (suc i) (suc j) a n = at-set_other xs i j a (λ e. n (ap suc e))

  single-at : (x y : A) (j : ℕ) → slice_get (x ∷ []) j ≡ Some y → (j ≡ 0) × (x ≡ y)
  single-at x y zero e = (refl, same_Some x y e)
  single-at x y (suc j) e = cc

  at-end : (xs : List A) (x : A) → slice_get (xs ++ x ∷ []) (length xs) ≡ Some x
  at-end [] x = refl
  at-end (a ∷ xs) x = at-end xs x

-- where one interpretation is replaced by its union with the model
pub put-behind : (old : List Interp) (i : ℕ) (local m new : Interp) → slice_get old i ≡ Some local → All IsShaped old
    → new ≡ union_of local m → IsShaped new → KeepsEach local m new → IsPutBehind old (slice_set old i new) i m local.size
put-behind old i local m new at shaped is new_shaped keeps = record {
  local = local;
  at = at;
  starts = refl;
  here = at-set Interp old i new (slice_get_within old i local at) ∙ ap Some is;
  others = λ j n. at-set_other Interp old i j new n;
  count = length-set old i new;
  kept = subst (KeepsEach local m) is keeps;
  shaped = All-set IsShaped old i new new_shaped shaped;
}

-- before the first task
no_shape : IsShaped (record { size = 0; names = []; roles = [] })
no_shape = record { names = λ k d lt. absurd (omega (arith, lt)); roles = λ k d lt. absurd (omega (arith, lt)) }

pub none-placed : (v : SessionView) (locals : List Interp) → AreEmpty locals (length v.job.pinned.peers) → ArePlaced v [] locals
none-placed v locals empty = record {
  one_each = empty.many;
  shaped = All-from Interp IsShaped locals (λ k local at. subst IsShaped (sym (empty.each k local at)) no_shape);
  placed = λ t q e. absurd (nothing_at (Some q) t e);
  missing = λ t e. absurd (nothing_at None t e);
  covers = λ i local b at lt. let none : local.size ≡ 0 = ap (λ (l : Interp). l.size) (empty.each i local at) in absurd (omega (arith, lt, none));
}
  where
    nothing_at : (o : Option Place) (t : ℕ) → slice_get [] t ≡ Some o → ⊥
    nothing_at o t e = cc

module _ (v : SessionView) (places : List (Option Place)) (old new : List Interp) (all : ArePlaced v places old) where
  module _ (o : Option Place) where
    weaken : (i b : ℕ) → IsCovered v places i b → IsCovered v (places ++ o ∷ []) i b
    weaken i b c = record {
      t = c.t;
      place = c.place;
      at = at-append (Option Place) places (o ∷ []) c.t (Some c.place) c.at;
      m = c.m;
      x = c.x;
      part = c.part;
      y = c.y;
      element = c.element;
      is = c.is;
    }

  next-none : IsNoPart v (length places) → ArePlaced v (places ++ None ∷ []) old
  next-none missing = record {
    one_each = all.one_each;
    shaped = all.shaped;
    placed = λ t q e. elim (at-append_cases (Option Place) places (None ∷ []) t (Some q) e) [
      | inl h ↦ all.placed t q h
      | inr h ↦ absurd (not_some q ((single-at (Option Place) None (Some q) h.0 h.2).1))
    ];
    missing = λ t e. elim (at-append_cases (Option Place) places (None ∷ []) t None e) [
      | inl h ↦ all.missing t h
      | inr h ↦ let last = single-at (Option Place) None None h.0 h.2 in
          subst (IsNoPart v) (sym (let a = h.1 in let z = last.0 in let is : t ≡ length places = omega (arith, a, z) in is)) missing
    ];
    covers = λ i local b at lt. weaken None i b (all.covers i local b at lt);
  }
    where
      not_some : (q : Place) → None ≡ Some q → ⊥
      not_some q e = cc

  module _ (q : Place) (m : Interp) (x : ℕ) (part : IsPart v (length places) q.peer m x) (element : q.element ≡ q.start + x) (size : q.size ≡ m.size)
      (put : IsPutBehind old new q.peer m q.start) where
    old_placed : (t : ℕ) (k : Place) → IsPlacedIn v old t k → IsPlacedIn v new t k
    old_placed t k p = elim (cases_eq k.peer q.peer) [
      | inl peer ↦
          let one : p.local ≡ put.local = same_Some p.local put.local (sym p.at ∙ ap (slice_get old) peer ∙ put.at) in
          let stands : (y : ℕ) → y < p.m.size → (k.start + y < put.local.size) × ((c : Concept) → meaning put.local c (k.start + y) ≡ meaning p.m c y) =
          subst (λ (l : Interp). (y : ℕ) → y < p.m.size → (k.start + y < l.size) × ((c : Concept) → meaning l c (k.start + y) ≡ meaning p.m c y)) one p.stands in
          record {
            m = p.m;
            x = p.x;
            part = p.part;
            element = p.element;
            size = p.size;
            local = union_of put.local m;
            at = ap (slice_get new) peer ∙ put.here;
            stands = λ y lt. let h = stands y lt in
                (let below = h.0 in omega (arith, below), λ c. put.kept.lower c (k.start + y) h.0 ∙ h.1 c);
          }
      | inr other ↦
          record {
            m = p.m;
            x = p.x;
            part = p.part;
            element = p.element;
            size = p.size;
            local = p.local;
            at = put.others k.peer other ∙ p.at;
            stands = p.stands;
          }
    ]

    new_placed : (t : ℕ) (k : Place) → t ≡ length places → q ≡ k → IsPlacedIn v new t k
    new_placed t k last same = subst (IsPlacedIn v new t) same (subst (λ n. IsPlacedIn v new n q) (sym last) (record {
      m = m;
      x = x;
      part = part;
      element = element;
      size = size;
      local = union_of put.local m;
      at = put.here;
      stands = λ y lt. let s = put.starts in
          let place : q.start + y ≡ y + put.local.size = omega (arith, s) in
          (omega (arith, s, lt), λ c. ap (meaning (union_of put.local m) c) place ∙ put.kept.upper c y lt);
    }))

    here_covers : (b : ℕ) → b < put.local.size + m.size → IsCovered v (places ++ Some q ∷ []) q.peer b
    here_covers b lt = elim (cases_lt b put.local.size) [
      | inl before ↦ weaken (Some q) q.peer b (all.covers q.peer put.local b put.at before)
      | inr behind ↦
          let s = put.starts in
          record {
            t = length places;
            place = q;
            at = at-end (Option Place) places (Some q);
            m = m;
            x = x;
            part = part;
            y = b - put.local.size;
            element = omega (arith, lt, behind);
            is = omega (arith, behind, s);
          }
    ]

    covers : (i : ℕ) (local : Interp) (b : ℕ) → slice_get new i ≡ Some local → b < local.size → IsCovered v (places ++ Some q ∷ []) i b
    covers i local b at lt = elim (cases_eq i q.peer) [
      | inl peer ↦
          let one : local ≡ union_of put.local m = same_Some local (union_of put.local m) (sym at ∙ ap (slice_get new) peer ∙ put.here) in
          subst (λ n. IsCovered v (places ++ Some q ∷ []) n b) (sym peer) (here_covers b (subst (λ (l : Interp). b < l.size) one lt))
      | inr other ↦
          weaken (Some q) i b (all.covers i local b (sym (put.others i other) ∙ at) lt)
    ]

    next-part : ArePlaced v (places ++ Some q ∷ []) new
    next-part = record {
      one_each = put.count ∙ all.one_each;
      shaped = put.shaped;
      placed = λ t k e. elim (at-append_cases (Option Place) places (Some q ∷ []) t (Some k) e) [
        | inl h ↦ old_placed t k (all.placed t k h)
        | inr h ↦ let last = single-at (Option Place) (Some q) (Some k) h.0 h.2 in
            new_placed t k (let a = h.1 in let z = last.0 in omega (arith, a, z)) (same_Some q k last.1)
      ];
      missing = λ t e. elim (at-append_cases (Option Place) places (Some q ∷ []) t None e) [
        | inl h ↦ all.missing t h
        | inr h ↦ absurd (some_none q (single-at (Option Place) (Some q) None h.0 h.2).1)
      ];
      covers = covers;
    }
      where
        some_none : (k : Place) → Some k ≡ None → ⊥
        some_none k e = cc

  pub place-next : (o : Option Place) → PutsPart v (length places) old new o → ArePlaced v (places ++ o ∷ []) new
  place-next None h = subst (ArePlaced v (places ++ None ∷ [])) (sym h.0) (next-none h.1)
  place-next (Some q) h = next-part q h.0 h.1 h.2 h.3 h.4 h.5
