-- Closed labels in the order of their ranks, and their lines.
use Rattle.std.proofs.Common.{◌≡◌, ◌∙◌, ◌<◌, ◌+◌, sym, refl, ap, subst, ℕ, List, length, slice_get, slice_set, None, Some, Option, inl, inr, arith}
use Rattle.std.specs.Option.{option_map_or}
use Rattle.std.proofs.lemmas.Bool.{cases_lt}
use Rattle.std.proofs.lemmas.Option.{same_Some, slice_get_within}
use Rattle.dd_graph.specs.declared.node.Entry.{Entry}
use Rattle.dd_graph.specs.View.{GraphView, IsAt, IsGraph, rank_of}
use Rattle.dd_graph.proofs.Lists.{get_set_same, get_set_other, place_at as item}
use Rattle.dd_set.specs.Words.{has}
use Rattle.dd_close.specs.Drafts.{IsBook, Makes}
use Rattle.dd_close.specs.Nodes.{HasLine}
use Rattle.dd_close.specs.Orders.{Drafts, IsOrder, IsPlaced}
use Rattle.dd_close.specs.declared.draft.Book.{Book}
use Rattle.dd_close.proofs.Nodes.{has-line-kept}

module _ (v : GraphView) (graph : IsGraph v) where
  -- a label with a rank is there
  pub ranked-there : (t j : ℕ) → rank_of v t ≡ Some j → t < length v.labels
  ranked-there t j e = by (slice_get v.entries t) refl e
    where
      by : (o : Option Entry) → o ≡ slice_get v.entries t → option_map_or (λ (x : Entry). x.rank) o None ≡ Some j → t < length v.labels
      by None is r = cc
      by (Some x) is r = subst (λ n. t < n) graph.right.sized (slice_get_within v.entries t x (sym is))

  pub order-next : (n : ℕ) (old new : List ℕ) → IsOrder v old n → length new ≡ length old → IsPlaced v n old new → IsOrder v new (n + 1)
  order-next n old new h len placed t j lt r low = elim (cases_lt t n) [
    | inl before ↦ placed.others j (λ e. absurd (omega (arith, graph.right.apart n t j e r, before))) ∙ h t j before r (omega (arith, low, len))
    | inr after ↦
        let is : n ≡ t = omega (arith, lt, after) in
        placed.here j (ap (rank_of v) is ∙ r) (omega (arith, low, len)) ∙ ap Some is
  ]

  pub drafts-start : (b : Book) (lines : List ℕ) → IsBook v b → Drafts v b lines 0
  drafts-start b lines h = record { book = h; each = λ t i r lt. absurd (omega (arith, lt)) }

  module _ (order : List ℕ) (is_order : IsOrder v order (length v.labels)) (rank id : ℕ) (at : slice_get order rank ≡ Some id) where
    here : (t : ℕ) → rank_of v t ≡ Some rank → id ≡ t
    here t r = same_Some id t (sym at ∙ is_order t rank (ranked-there t rank r) r (slice_get_within order rank id at))

    -- no label has the rank
    pub drafts-idle : (b : Book) (lines : List ℕ) → Drafts v b lines rank → (rank_of v id ≡ Some rank → ⊥) → Drafts v b lines (rank + 1)
    drafts-idle b lines h none = record {
      book = h.book;
      each = λ t i r lt. elim (cases_lt i rank) [
        | inl before ↦ h.each t i r before
        | inr after ↦
            let is : i ≡ rank = omega (arith, lt, after) in
            absurd (none (ap (rank_of v) (here t (r ∙ ap Some is)) ∙ r ∙ ap Some is))
      ];
    }

    -- the label with the rank has a line now
    pub drafts-next : (b c : Book) (lines more : List ℕ) (line : ℕ) → Drafts v b lines rank → rank_of v id ≡ Some rank → id < length lines → more ≡ slice_set lines id line
        → ((l : List ℕ) → IsAt v id l → Makes v b c (has l) line) → Drafts v c more (rank + 1)
    drafts-next b c lines more line h ranked low set made = record {
      book = (made label.0 label.1).adds.book;
      each = λ t i r lt. elim (cases_lt i rank) [
        | inl before ↦
            let old = has-line-kept v b c lines t (made label.0 label.1).adds (h.each t i r before) in
            record {
              line = old.line;
              label = old.label;
              at = old.at;
              within = old.within;
              given = ap (λ ls. slice_get ls t) set ∙ get_set_other lines id t line (λ e. absurd (omega (arith, before, same_Some i rank (sym r ∙ ap (rank_of v) e ∙ ranked)))) ∙ old.given;
            }
        | inr after ↦
            let is : i ≡ rank = omega (arith, lt, after) in
            let this : id ≡ t = here t (r ∙ ap Some is) in
            subst (HasLine v c more) this (record {
              line = line;
              label = label.0;
              at = label.1;
              within = (made label.0 label.1).line;
              given = ap (λ ls. slice_get ls id) set ∙ get_set_same lines id line (item lines id low).0 (item lines id low).1;
            })
      ];
    }
      where
        label : (l : List ℕ) × IsAt v id l
        label = item v.labels id (ranked-there id rank ranked)
