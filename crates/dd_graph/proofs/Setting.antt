-- What is kept of one label is another now, and stays right.
use Rattle.std.proofs.Common.{◌≡◌, ℕ, ◌<◌, ◌≤◌, ◌+◌, ◌==◌, Bool, true, false, List, [], ◌∷◌, length, Option, None, Some, slice_get, slice_set, refl, sym, ap, subst, ◌∙◌, arith}
use Rattle.std.specs.List.{list_any}
use Rattle.std.proofs.lemmas.Bool.{false≢true}
use Rattle.dd_rules.specs.Numbers.{Rules, is_complete}
use Rattle.dd_rules.specs.declared.clash.Clash.{Clash}
use Rattle.dd_rules.specs.Forced.{is_clash}
use Rattle.dd_set.specs.Words.{has}
use Rattle.dd_graph.specs.declared.node.Entry.{Entry}
use Rattle.dd_graph.specs.declared.node.Node.{Node}
use Rattle.dd_graph.specs.declared.node.Node.TheVariants as node
use Rattle.dd_graph.specs.Right.{IsClear, IsNode, IsEntry, AreEntries, closes, is_some_in}
use Rattle.dd_graph.specs.View.{is_settled}
use Rattle.dd_graph.proofs.Closing.{unsettled}
use Rattle.dd_graph.proofs.Kept.{change, change-ranked, closes_kept, grows-set}
use Rattle.dd_graph.proofs.Lists.{same_Some, none_is_not}

-- what a label that is neither closed nor open says, but for what is complete
pub record Fits (r : Rules) (labels : List (List ℕ)) (l : List ℕ) (e : Entry) : Type 0 where
  pub says : IsNode r labels l e.node
  pub covered : (to : List (ℕ × ℕ)) (n : ℕ) → e.node ≡ node.Done to → n < e.upto → is_some_in r (has l) n ≡ true → list_any (λ p. p.0 == n) to ≡ true
  pub clear : e.clear ≡ true → IsClear r (has l)

module _ (r : Rules) (labels : List (List ℕ)) (entries : List Entry) (closed id : ℕ) (old new : Entry) (all : AreEntries r labels entries closed)
    (was : slice_get entries id ≡ Some old) (free : is_settled old ≡ false) (shut : new.open ≡ false) where
  -- it has no rank
  pub unranked-right : new.rank ≡ None
      → ((l : List ℕ) → slice_get labels id ≡ Some l → IsEntry r labels entries l old → Fits r labels l new)
      → ((l : List ℕ) → slice_get labels id ≡ Some l → IsEntry r labels entries l old → (to : List (ℕ × ℕ)) → new.node ≡ node.Done to → is_complete r (has l) ≡ true)
      → AreEntries r labels (slice_set entries id new) closed
  unranked-right none fits complete =
      let parts = unsettled old free in
      change entries id old new was parts.0 parts.1 r labels closed all none (λ l at h. record {
        says = (fits l at h).says;
        ranked = λ k is. absurd (none_is_not k (sym none ∙ is));
        complete = λ to is no_rank. complete l at h to is;
        covered = (fits l at h).covered;
        unranked = λ o. none;
        opened = λ o. absurd (false≢true (sym shut ∙ o));
        clear = (fits l at h).clear;
      })

  -- it has the next rank
  pub ranked-right : new.rank ≡ Some closed → closes entries closed new.node ≡ true
      → ((l : List ℕ) → slice_get labels id ≡ Some l → IsEntry r labels entries l old → Fits r labels l new)
      → AreEntries r labels (slice_set entries id new) (closed + 1)
  ranked-right next allowed fits =
      let parts = unsettled old free in
      change-ranked entries id old new was parts.0 parts.1 r labels closed all next (λ l at h. record {
        says = (fits l at h).says;
        ranked = λ k is. subst (λ n. closes (slice_set entries id new) n new.node ≡ true) (same_Some closed k (sym next ∙ is))
            (closes_kept entries (slice_set entries id new) (grows-set entries id old new was parts.0 parts.1 labels).ranks closed new.node allowed);
        complete = λ to is none. absurd (none_is_not closed (sym none ∙ next));
        covered = (fits l at h).covered;
        unranked = λ o. absurd (false≢true (sym shut ∙ o));
        opened = λ o. absurd (false≢true (sym shut ∙ o));
        clear = (fits l at h).clear;
      })

-- ---- the nodes

pub clash-says : (r : Rules) (labels : List (List ℕ)) (l : List ℕ) (c : Clash) → is_clash r (has l) c ≡ true → IsNode r labels l (node.Clash c)
clash-says r labels l c h = record {
  clash = λ d is. let same : c ≡ d = same_clash c d is in subst (λ x. is_clash r (has l) x ≡ true) same h;
  larger = λ t is. absurd (cc);
  clear_split = λ s to is. absurd (cc);
  calls = λ s to is. absurd (cc);
  as_many = λ s to is. absurd (cc);
  split = λ s to is i d t a b. absurd (cc);
  clear_done = λ to is. absurd (cc);
  done = λ to is i n t a. absurd (cc);
}
  where
    same_clash : (c d : Clash) → node.Clash c ≡ node.Clash d → c ≡ d
    same_clash c d e = cc

-- a clash closes at once
pub clash-right : (r : Rules) (labels : List (List ℕ)) (entries : List Entry) (closed id : ℕ) (e : Entry) (c : Clash) → AreEntries r labels entries closed
    → slice_get entries id ≡ Some e → is_settled e ≡ false → ((l : List ℕ) → slice_get labels id ≡ Some l → is_clash r (has l) c ≡ true)
    → AreEntries r labels (slice_set entries id (record e { node = node.Clash c; rank = Some closed })) (closed + 1)
clash-right r labels entries closed id e c all is free shows =
    ranked-right r labels entries closed id e (record e { node = node.Clash c; rank = Some closed }) all is free (unsettled e free).1 refl refl (λ l at h. record {
      says = clash-says r labels l c (shows l at);
      covered = λ to n is lt some. absurd (cc);
      clear = h.clear;
    })
