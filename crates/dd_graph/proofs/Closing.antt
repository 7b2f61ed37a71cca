-- A label that may be closed gets the next rank.
use Rattle.std.proofs.Common.{◌≡◌, ℕ, zero, suc, ◌<◌, ◌≤◌, ◌+◌, Bool, true, false, not, ◌&&◌, ◌||◌, List, [], ◌∷◌, length, Option, None, Some, slice_get, slice_set, refl, sym, ap, subst, ◌∙◌, arith, sum_by}
use Rattle.std.specs.Option.{option_map_or}
use Rattle.std.proofs.lemmas.Bool.{false≢true, and_parts, or_parts, not-true}
use Rattle.std.proofs.lemmas.List.Sums.{sum_by-cons}
use Rattle.dd_rules.specs.Numbers.{Rules}
use Rattle.dd_graph.specs.declared.node.Entry.{Entry}
use Rattle.dd_graph.specs.Goes.{is_closable, closable_at}
use Rattle.dd_graph.specs.Right.{AreEntries, closes, effort_of, one_if_none, one_if_some, effort_at}
use Rattle.dd_graph.specs.View.{is_settled, is_some_rank}
use Rattle.dd_graph.proofs.Kept.{change-ranked, closes_kept, grows-set}
use Rattle.dd_graph.proofs.Lists.{same_Some}

no_rank : (o : Option ℕ) → is_some_rank o ≡ false → o ≡ None
no_rank None h = refl
no_rank (Some k) h = absurd (false≢true (sym h))

-- what is neither closed nor open
pub unsettled : (e : Entry) → is_settled e ≡ false → (e.rank ≡ None) × (e.open ≡ false)
unsettled e h = let parts = or_parts (is_some_rank e.rank) e.open h in (no_rank e.rank parts.0, parts.1)

-- what may be closed
pub record Closable (entries : List Entry) (closed id : ℕ) : Type 0 where
  pub entry : Entry
  pub here : slice_get entries id ≡ Some entry
  pub unsettled : is_settled entry ≡ false
  pub closes : closes entries closed entry.node ≡ true

pub closable : (entries : List Entry) (closed id : ℕ) → closable_at entries closed id ≡ true → Closable entries closed id
closable entries closed id h = go (slice_get entries id) refl h
  where
    go : (o : Option Entry) → slice_get entries id ≡ o → option_map_or (is_closable entries closed) o false ≡ true → Closable entries closed id
    go None is t = absurd (false≢true t)
    go (Some e) is t = let both = and_parts (not (is_settled e)) (closes entries closed e.node) t in
        record { entry = e; here = is; unsettled = not-true (is_settled e) both.0; closes = both.1 }

ranked : List Entry → ℕ
ranked entries = sum_by (λ (x : Entry). one_if_some x.rank) entries

few_one : (o : Option ℕ) → one_if_some o ≤ 1
few_one None = omega arith
few_one (Some k) = omega arith

few-ranked : (entries : List Entry) → sum_by (λ (x : Entry). one_if_some x.rank) entries ≤ length entries
few-ranked [] = omega arith
few-ranked (e ∷ es) = let rest = few-ranked es in let one = few_one e.rank in omega (arith, rest, one, sum_by-cons (λ (x : Entry). one_if_some x.rank) e es)

fewer-ranked : (entries : List Entry) (id : ℕ) (e : Entry) → slice_get entries id ≡ Some e → e.rank ≡ None → sum_by (λ (x : Entry). one_if_some x.rank) entries < length entries
fewer-ranked [] id e is none = absurd (cc)
fewer-ranked (x ∷ es) zero e is none =
    let rest = few-ranked es in
    let zero_here : one_if_some x.rank ≡ 0 = ap (λ (y : Entry). one_if_some y.rank) (same_Some x e is) ∙ ap one_if_some none in
    omega (arith, rest, zero_here, sum_by-cons (λ (x : Entry). one_if_some x.rank) x es)
fewer-ranked (x ∷ es) (suc id) e is none =
    let rest = fewer-ranked es id e is none in let one = few_one x.rank in omega (arith, rest, one, sum_by-cons (λ (x : Entry). one_if_some x.rank) x es)

-- while a label is not closed, there are fewer closed ones than labels
pub closed-fewer : (r : Rules) (labels : List (List ℕ)) (entries : List Entry) (closed id : ℕ) (e : Entry) → AreEntries r labels entries closed
    → slice_get entries id ≡ Some e → e.rank ≡ None → closed < length labels
closed-fewer r labels entries closed id e all is none = let fewer = fewer-ranked entries id e is none in omega (arith, fewer, all.few, all.sized)

-- the label may have the next rank, and less is to be done
pub close-right : (r : Rules) (labels : List (List ℕ)) (entries : List Entry) (closed id : ℕ) (e : Entry) → AreEntries r labels entries closed
    → slice_get entries id ≡ Some e → is_settled e ≡ false → closes entries closed e.node ≡ true
    → AreEntries r labels (slice_set entries id (record e { rank = Some closed })) (closed + 1)
close-right r labels entries closed id e all is open_ allowed =
    let free = unsettled e open_ in
    let new : Entry = record e { rank = Some closed } in
    change-ranked entries id e new is free.0 free.1 r labels closed all refl (λ l is_l h. record {
      says = h.says;
      ranked = λ k at. subst (λ n. closes (slice_set entries id new) n e.node ≡ true) (same_Some closed k at)
          (closes_kept entries (slice_set entries id new) (grows-set entries id e new is free.0 free.1 labels).ranks closed e.node allowed);
      complete = λ to node none. h.complete to node free.0;
      covered = h.covered;
      unranked = λ o. absurd (false≢true (sym free.1 ∙ o));
      opened = λ o. absurd (false≢true (sym free.1 ∙ o));
      clear = h.clear;
    })

pub close-less : (width closed : ℕ) (e : Entry) → e.rank ≡ None → effort_of width (record e { rank = Some closed }) < effort_of width e
close-less width closed e none = let one : one_if_none e.rank ≡ 1 = ap one_if_none none in omega (arith, one)

-- what the code has found out when it closes a label
pub found : (entries given : List Entry) (closed id : ℕ) (b : Bool) → given ≡ entries → b ≡ closable_at given closed id → b ≡ true → Closable entries closed id
found entries given closed id b is said yes_ = closable entries closed id (ap (λ es. closable_at es closed id) (sym is) ∙ sym said ∙ yes_)
