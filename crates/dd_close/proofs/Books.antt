-- A book with more lines.
use Rattle.std.proofs.Common.{◌≡◌, ◌∙◌, ◌<◌, ◌≤◌, ◌+◌, ◌++◌, sym, refl, ap, subst, ℕ, zero, suc, Bool, true, false, not, List, [], ◌∷◌, length, slice_get, Some, arith}
use Rattle.std.proofs.lemmas.Bool.{cond-false}
use Rattle.std.proofs.lemmas.Option.{same_Some, slice_get_within}
use Rattle.std.proofs.lemmas.List.{length-append}
use Rattle.dd_graph.proofs.Lists.{get_push, get_push_old, get_push_new}
use Rattle.dd_graph.specs.Right.{adding}
use Rattle.dd_graph.specs.View.{GraphView, rules_at}
use Rattle.dd_rules.specs.Least.{Implies}
use Rattle.dd_rules.specs.Numbers.{Rules}
use Rattle.dd_set.specs.Words.{has}
use Rattle.dd_table.specs.Labels.{KeepsLabels, has_label, with_label}
use Rattle.dd_table.proofs.Numbering.{with_label-present}
use Rattle.dd_close.specs.Drafts.{Cites, IsBook, IsLine, IsReason, Adds, Makes}
use Rattle.dd_close.specs.declared.draft.Book.{Book}
use Rattle.dd_close.specs.declared.draft.Reason.{Reason}
use Rattle.dd_close.specs.declared.draft.Reason.TheVariants as reason

pub implies-trans : (p q s : ℕ → Bool) → Implies p q → Implies q s → Implies p s
implies-trans p q s h k n e = k n (h n e)

pub cites-wider : (labels : List (List ℕ)) (bound n : ℕ) (p q : ℕ → Bool) → Implies p q → Cites labels bound n p → Cites labels bound n q
cites-wider labels bound n p q w h = record { label = h.label; earlier = h.earlier; there = h.there; within = λ k e. w k (h.within k e) }

pub cites-more : (old new : List (List ℕ)) (bound more n : ℕ) (p : ℕ → Bool) → KeepsLabels old new → bound ≤ more → Cites old bound n p → Cites new more n p
cites-more old new bound more n p kept le h = record { label = h.label; earlier = omega (arith, h.earlier, le); there = kept n h.label h.there; within = h.within }

-- ---- lists of labels that were kept are no longer

get_last : {X : Type 0} (xs : List X) (n : ℕ) → length xs ≡ suc n → (x : X) × (slice_get xs n ≡ Some x)
get_last [] n e = absurd (omega (arith, e))
get_last (x ∷ xs) zero e = (x, refl)
get_last (x ∷ xs) (suc n) e = get_last xs n (omega (arith, e))

pub kept_length : (old new : List (List ℕ)) → KeepsLabels old new → length old ≤ length new
kept_length old new kept = by (length old) refl
  where
    by : (n : ℕ) → length old ≡ n → length old ≤ length new
    by zero e = omega (arith, e)
    by (suc n) e =
        let last = get_last old n e in
        let within = slice_get_within new n last.0 (kept n last.0 last.1) in
        omega (arith, e, within)

pub line-kept : (old new : Book) (p : ℕ → Bool) (m : ℕ) → KeepsLabels old.table.list new.table.list → IsLine old p m → IsLine new p m
line-kept old new p m kept h = cites-more old.table.list new.table.list (length old.table.list) (length new.table.list) m p kept (kept_length old.table.list new.table.list kept) h

pub line-wider : (b : Book) (p q : ℕ → Bool) (m : ℕ) → Implies p q → IsLine b p m → IsLine b q m
line-wider b p q m w h = cites-wider b.table.list (length b.table.list) m p q w h

pub get_push-low : {X : Type 0} (xs : List X) (y : X) (k : ℕ) (z : X) → k < length xs → slice_get (xs ++ y ∷ []) k ≡ Some z → slice_get xs k ≡ Some z
get_push-low [] y k z lt e = absurd (omega (arith, lt))
get_push-low (w ∷ ws) y zero z lt e = e
get_push-low (w ∷ ws) y (suc k) z lt e = get_push-low ws y k z (omega (arith, lt)) e

-- ---- reasons

reason-kept : (r : Rules) (old new : List (List ℕ)) (k : ℕ) (p : ℕ → Bool) (x : Reason) → KeepsLabels old new → IsReason r old k p x → IsReason r new k p x
reason-kept r old new k p (reason.Clash c) kept h = h
reason-kept r old new k p (reason.And at cite) kept h = record {
  left = h.left;
  right = h.right;
  shape_is = h.shape_is;
  in_label = h.in_label;
  cited = cites-more old new k k cite (adding h.left (adding h.right p)) kept (omega arith) h.cited;
}
reason-kept r old new k p (reason.Choice s cites) kept h = record {
  step = h.step;
  posed = h.posed;
  as_many = h.as_many;
  cited = record { each = λ i c m e f. cites-more old new k k m (adding c p) kept (omega arith) (h.cited.each i c m e f) };
}
reason-kept r old new k p (reason.Successor at cite) kept h = record {
  role = h.role;
  part = h.part;
  shape_is = h.shape_is;
  in_label = h.in_label;
  cited = cites-more old new k k cite _ kept (omega arith) h.cited;
}

pub adds-refl : (v : GraphView) (b : Book) → IsBook v b → Adds v b b
adds-refl v b h = record { book = h; kept = λ n l e. e }

pub adds-trans : (v : GraphView) (a b c : Book) → Adds v a b → Adds v b c → Adds v a c
adds-trans v a b c h k = record { book = k.book; kept = λ n l e. k.kept n l (h.kept n l e) }

pub makes-wider : (v : GraphView) (old new : Book) (p q : ℕ → Bool) (m : ℕ) → Implies p q → Makes v old new p m → Makes v old new q m
makes-wider v old new p q m w h = record { adds = h.adds; line = line-wider new p q m w h.line }

pub makes-after : (v : GraphView) (a b c : Book) (p : ℕ → Bool) (m : ℕ) → Adds v a b → Makes v b c p m → Makes v a c p m
makes-after v a b c p m h k = record { adds = adds-trans v a b c h k.adds; line = k.line }

pub makes-old : (v : GraphView) (b : Book) (p : ℕ → Bool) (m : ℕ) → IsBook v b → IsLine b p m → Makes v b b p m
makes-old v b p m h k = record { adds = adds-refl v b h; line = k }

module _ (v : GraphView) (old new : Book) (l : List ℕ) (at : ℕ) (h : IsBook v old) (width : new.table.width ≡ old.table.width)
    (labels : new.table.list ≡ with_label old.table.list l) (found : slice_get new.table.list at ≡ Some l) where
  found-line : IsLine new (has l) at
  found-line = record { label = l; earlier = slice_get_within new.table.list at l found; there = found; within = λ k e. e }

  -- the label was there
  pub makes-found : false ≡ not (has_label old.table.list l) → new.reasons.items ≡ old.reasons.items → Makes v old new (has l) at
  makes-found fresh reasons =
      let same : new.table.list ≡ old.table.list = labels ∙ with_label-present old.table.list l (was (has_label old.table.list l) fresh) in
      record {
        adds = record {
          book = record {
            width = width ∙ h.width;
            as_many = ap length reasons ∙ h.as_many ∙ ap length (sym same);
            each = λ k m x e f. subst (λ ls. IsReason (rules_at v) ls k (has m) x) (sym same)
                (h.each k m x (ap (λ ls. slice_get ls k) (sym same) ∙ e) (ap (λ xs. slice_get xs k) (sym reasons) ∙ f));
          };
          kept = λ n m e. ap (λ ls. slice_get ls n) same ∙ e;
        };
        line = found-line;
      }
    where
      was : (b : Bool) → false ≡ not b → b ≡ true
      was true e = refl
      was false e = cc

  -- it is new
  pub makes-new : (x : Reason) → true ≡ not (has_label old.table.list l) → new.reasons.items ≡ old.reasons.items ++ x ∷ []
      → IsReason (rules_at v) old.table.list (length old.table.list) (has l) x → Makes v old new (has l) at
  makes-new x fresh reasons right =
      let longer : new.table.list ≡ old.table.list ++ l ∷ [] = labels ∙ cond-false (has_label old.table.list l) old.table.list (old.table.list ++ l ∷ []) (was (has_label old.table.list l) fresh) in
      let kept : KeepsLabels old.table.list new.table.list = λ n m e. ap (λ ls. slice_get ls n) longer ∙ get_push_old old.table.list l n m e in
      let sized : length new.reasons.items ≡ length new.table.list =
      ap length reasons ∙ length-append old.reasons.items (x ∷ []) ∙ ap (λ n. n + 1) h.as_many ∙ sym (length-append old.table.list (l ∷ [])) ∙ ap length (sym longer) in
      record {
        adds = record {
          book = record {
            width = width ∙ h.width;
            as_many = sized;
            each = λ k m y e f.
                get_push (λ k m. (y : Reason) → slice_get (old.reasons.items ++ x ∷ []) k ≡ Some y → IsReason (rules_at v) new.table.list k (has m) y) old.table.list l
                (λ k m e y f. reason-kept (rules_at v) old.table.list new.table.list k (has m) y kept (h.each k m y e (old-reason k m y e f)))
                (λ y f. reason-kept (rules_at v) old.table.list new.table.list (length old.table.list) (has l) y kept
                (subst (IsReason (rules_at v) old.table.list (length old.table.list) (has l)) (last y f) right))
                k m (ap (λ ls. slice_get ls k) (sym longer) ∙ e) y (ap (λ xs. slice_get xs k) (sym reasons) ∙ f);
          };
          kept = kept;
        };
        line = found-line;
      }
    where
      was : (b : Bool) → true ≡ not b → b ≡ false
      was false e = refl
      was true e = cc

      old-reason : (k : ℕ) (m : List ℕ) (y : Reason) → slice_get old.table.list k ≡ Some m → slice_get (old.reasons.items ++ x ∷ []) k ≡ Some y → slice_get old.reasons.items k ≡ Some y
      old-reason k m y e f =
          let low = slice_get_within old.table.list k m e in
          get_push-low old.reasons.items x k y (omega (arith, low, h.as_many)) f

      last : (y : Reason) → slice_get (old.reasons.items ++ x ∷ []) (length old.table.list) ≡ Some y → x ≡ y
      last y f = same_Some x y (sym (get_push_new old.reasons.items x) ∙ ap (slice_get (old.reasons.items ++ x ∷ [])) h.as_many ∙ f)
