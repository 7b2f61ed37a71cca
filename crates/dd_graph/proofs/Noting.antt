-- What is noted at a label is right.
use Rattle.std.proofs.Common.{◌≡◌, ◌≢◌, ℕ, zero, suc, ◌<◌, ◌≤◌, ◌+◌, ◌-◌, ◌==◌, Bool, true, false, ◌||◌, ◌&&◌, List, [], ◌∷◌, ◌++◌, length, Option, None, Some, slice_get, slice_set, refl, sym, ap, ap₂, subst, ◌∙◌, arith, inl, inr}
use Rattle.std.specs.List.{list_any}
use Rattle.std.proofs.lemmas.Bool.{false≢true, or_cases, or_left, or_right, cases_lt, cases_eq, eq-eqb}
use Rattle.dd_rules.specs.Numbers.{Rules, is_complete, calls_for, additions}
use Rattle.dd_rules.specs.declared.shape.Step.{Step}
use Rattle.dd_set.specs.Words.{has}
use Rattle.dd_graph.specs.declared.node.Entry.{Entry}
use Rattle.dd_graph.specs.declared.node.Node.{Node}
use Rattle.dd_graph.specs.declared.node.Node.TheVariants as node
use Rattle.dd_graph.specs.Right.{IsClear, IsLeastAt, IsSuccessorAt, IsNode, IsEntry, AreEntries, adding, closes, is_below, rank_at, is_some_in, effort_of, effort_at, one_if_none}
use Rattle.dd_graph.specs.Goes.{AreChildren}
use Rattle.dd_graph.specs.View.{is_settled}
use Rattle.dd_graph.proofs.Closing.{unsettled}
use Rattle.dd_graph.proofs.Lists.{same_Some, none_is_not, get_push}
use Rattle.dd_graph.proofs.Setting.{Fits, ranked-right, unranked-right}

-- ---- the facts of a node

pub larger-says : (r : Rules) (labels : List (List ℕ)) (l : List ℕ) (to : ℕ) → IsLeastAt r labels (has l) to → (slice_get labels to ≢ Some l) → IsNode r labels l (node.Larger to)
larger-says r labels l to least other = record {
  clash = λ c is. absurd (cc);
  larger = λ t is. let same : to ≡ t = one t is in subst (λ n. IsLeastAt r labels (has l) n × (slice_get labels n ≢ Some l)) same (least, other);
  clear_split = λ s ts is. absurd (cc);
  calls = λ s ts is. absurd (cc);
  as_many = λ s ts is. absurd (cc);
  split = λ s ts is i d t a b. absurd (cc);
  clear_done = λ ts is. absurd (cc);
  done = λ ts is i n t a. absurd (cc);
}
  where
    one : (t : ℕ) → node.Larger to ≡ node.Larger t → to ≡ t
    one t e = cc

same_step : (s t : Step) (to ts : List ℕ) → node.Split s to ≡ node.Split t ts → s ≡ t
same_step s t to ts e = cc

same_to : (s t : Step) (to ts : List ℕ) → node.Split s to ≡ node.Split t ts → to ≡ ts
same_to s t to ts e = cc

pub split-says : (r : Rules) (labels : List (List ℕ)) (l : List ℕ) (s : Step) (to : List ℕ) → IsClear r (has l) → calls_for r (has l) s ≡ true
    → length to ≡ length (additions r s) → AreChildren r labels (has l) s to → IsNode r labels l (node.Split s to)
split-says r labels l s to clear calls many children = record {
  clash = λ c is. absurd (cc);
  larger = λ t is. absurd (cc);
  clear_split = λ t ts is. clear;
  calls = λ t ts is. ap (calls_for r (has l)) (sym (same_step s t to ts is)) ∙ calls;
  as_many = λ t ts is. ap length (sym (same_to s t to ts is)) ∙ many ∙ ap (λ x. length (additions r x)) (same_step s t to ts is);
  split = λ t ts is i c n a b. children.least i c n (ap (λ x. slice_get (additions r x) i) (same_step s t to ts is) ∙ a) (ap (λ xs. slice_get xs i) (same_to s t to ts is) ∙ b);
  clear_done = λ ts is. absurd (cc);
  done = λ ts is i n t a. absurd (cc);
}

same_pairs : (to ts : List (ℕ × ℕ)) → node.Done to ≡ node.Done ts → to ≡ ts
same_pairs to ts e = cc

-- each pair is one of an existential restriction and its successor label
abbrev pub ArePairs : Rules → List (List ℕ) → (ℕ → Bool) → List (ℕ × ℕ) → Type 0
ArePairs r labels p to = (i n t : ℕ) → slice_get to i ≡ Some (n, t) → IsSuccessorAt r labels p n t

pub done-says : (r : Rules) (labels : List (List ℕ)) (l : List ℕ) (to : List (ℕ × ℕ)) → IsClear r (has l) → ArePairs r labels (has l) to → IsNode r labels l (node.Done to)
done-says r labels l to clear pairs = record {
  clash = λ c is. absurd (cc);
  larger = λ t is. absurd (cc);
  clear_split = λ t ts is. absurd (cc);
  calls = λ t ts is. absurd (cc);
  as_many = λ t ts is. absurd (cc);
  split = λ t ts is i c n a b. absurd (cc);
  clear_done = λ ts is. clear;
  done = λ ts is i n t a. pairs i n t (ap (λ xs. slice_get xs i) (same_pairs to ts is) ∙ a);
}

no_pairs : (i n t : ℕ) → slice_get {X = ℕ × ℕ} [] i ≡ Some (n, t) → ⊥
no_pairs i n t e = cc

fst_of : (a b c d : ℕ) → ◌≡◌ {A = ℕ × ℕ} (a, b) (c, d) → a ≡ c
fst_of a b c d e = ap (λ p. p.0) e

snd_of : (a b c d : ℕ) → ◌≡◌ {A = ℕ × ℕ} (a, b) (c, d) → b ≡ d
snd_of a b c d e = ap (λ p. p.1) e

pub pairs-push : (r : Rules) (labels : List (List ℕ)) (p : ℕ → Bool) (to : List (ℕ × ℕ)) (n t : ℕ) → ArePairs r labels p to → IsSuccessorAt r labels p n t
    → ArePairs r labels p (to ++ (n, t) ∷ [])
pairs-push r labels p to n t old new i m u at =
    get_push (λ k x. (m u : ℕ) → x ≡ (m, u) → IsSuccessorAt r labels p m u) to (n, t)
    (λ k x is m u e. old k m u (is ∙ ap Some e))
    (λ m u e. subst (λ y. IsSuccessorAt r labels p m y) (snd_of n t m u e) (subst (λ y. IsSuccessorAt r labels p y t) (fst_of n t m u e) new)) i (m, u) at m u refl

any_push : (to : List (ℕ × ℕ)) (n t k : ℕ) → list_any (λ p. p.0 == k) (to ++ (n, t) ∷ []) ≡ (list_any (λ p. p.0 == k) to || ((n == k) || false))
any_push [] n t k = refl
any_push (x ∷ xs) n t k = ap (λ b. (x.0 == k) || b) (any_push xs n t k) ∙ or_assoc (x.0 == k) (list_any (λ p. p.0 == k) xs) ((n == k) || false)
  where
    or_assoc : (a b c : Bool) → (a || (b || c)) ≡ ((a || b) || c)
    or_assoc true b c = refl
    or_assoc false b c = refl

-- ---- what is noted

module _ (r : Rules) (labels : List (List ℕ)) (entries : List Entry) (closed id : ℕ) (e : Entry) (all : AreEntries r labels entries closed)
    (was : slice_get entries id ≡ Some e) (free : is_settled e ≡ false) where
  abbrev none : e.rank ≡ None
  none = (unsettled e free).0

  abbrev shut : e.open ≡ false
  shut = (unsettled e free).1

  pub larger-right : (to : ℕ) → ((l : List ℕ) → slice_get labels id ≡ Some l → IsLeastAt r labels (has l) to × (slice_get labels to ≢ Some l))
      → AreEntries r labels (slice_set entries id (record e { node = node.Larger to })) closed
  larger-right to facts = unranked-right r labels entries closed id e (record e { node = node.Larger to }) all was free shut none
      (λ l at h. record { says = larger-says r labels l to (facts l at).0 (facts l at).1; covered = λ ts n is lt some. absurd (cc); clear = h.clear })
      (λ l at h ts is. absurd (cc))

  pub split-right : (s : Step) (to : List ℕ)
      → ((l : List ℕ) → slice_get labels id ≡ Some l → IsClear r (has l) × (calls_for r (has l) s ≡ true) × (length to ≡ length (additions r s)) × AreChildren r labels (has l) s to)
      → AreEntries r labels (slice_set entries id (record e { node = node.Split s to })) closed
  split-right s to facts = unranked-right r labels entries closed id e (record e { node = node.Split s to }) all was free shut none
      (λ l at h. record { says = split-says r labels l s to (facts l at).0 (facts l at).1 (facts l at).2 (facts l at).3; covered = λ ts n is lt some. absurd (cc); clear = h.clear })
      (λ l at h ts is. absurd (cc))

  -- the label is complete, and no existential restriction was looked at
  pub done-right : ((l : List ℕ) → slice_get labels id ≡ Some l → IsClear r (has l) × (is_complete r (has l) ≡ true))
      → AreEntries r labels (slice_set entries id (record e { node = node.Done []; upto = 0 })) closed
  done-right facts = unranked-right r labels entries closed id e (record e { node = node.Done []; upto = 0 }) all was free shut none
      (λ l at h. record {
        says = done-says r labels l [] (facts l at).0 (λ i n t is. absurd (no_pairs i n t is));
        covered = λ ts n is lt some. absurd (omega (arith, lt));
        clear = h.clear;
      })
      (λ l at h ts is. (facts l at).1)

  -- one successor label is closed
  pub refuted-right : (n t : ℕ) → is_below closed (rank_at entries t) ≡ true
      → ((l : List ℕ) → slice_get labels id ≡ Some l → IsClear r (has l) × IsSuccessorAt r labels (has l) n t)
      → AreEntries r labels (slice_set entries id (record e { node = node.Done ((n, t) ∷ []); upto = 0; rank = Some closed })) (closed + 1)
  refuted-right n t below facts = ranked-right r labels entries closed id e (record e { node = node.Done ((n, t) ∷ []); upto = 0; rank = Some closed }) all was free shut refl (or_left _ _ below)
      (λ l at h. record {
        says = done-says r labels l ((n, t) ∷ []) (facts l at).0 (pairs-push r labels (has l) [] n t (λ i n t is. absurd (no_pairs i n t is)) (facts l at).1);
        covered = λ ts n is lt some. absurd (omega (arith, lt));
        clear = h.clear;
      })

  -- the next existential restriction has its pair
  pub pair-right : (to : List (ℕ × ℕ)) (n t : ℕ) → e.node ≡ node.Done to → e.upto ≤ n
      → ((l : List ℕ) → slice_get labels id ≡ Some l → IsSuccessorAt r labels (has l) n t × ((k : ℕ) → e.upto ≤ k → k < n → is_some_in r (has l) k ≡ false))
      → AreEntries r labels (slice_set entries id (record e { node = node.Done (to ++ (n, t) ∷ []); upto = n + 1 })) closed
  pair-right to n t done from facts = unranked-right r labels entries closed id e (record e { node = node.Done (to ++ (n, t) ∷ []); upto = n + 1 }) all was free shut none
      (λ l at h. record {
        says = done-says r labels l (to ++ (n, t) ∷ []) (h.says.clear_done to done) (pairs-push r labels (has l) to n t (h.says.done to done) (facts l at).0);
        covered = λ ts k is lt some.
            ap (list_any (λ p. p.0 == k)) (sym (same_pairs (to ++ (n, t) ∷ []) ts is)) ∙ any_push to n t k
            ∙ elim (cases_lt k e.upto) [
              | inl old ↦ or_left _ _ (h.covered to k done old some)
              | inr past ↦ elim (cases_lt k n) [
                | inl between ↦ absurd (false≢true (sym ((facts l at).1 k past between) ∙ some))
                | inr last ↦ or_right _ _ (or_left _ _ (eq-eqb n k (omega (arith, last, lt))))
              ]
            ];
        clear = h.clear;
      })
      (λ l at h ts is. h.complete to done none)

  -- no further existential restriction is there
  pub full-right : (to : List (ℕ × ℕ)) (width : ℕ) → e.node ≡ node.Done to
      → ((l : List ℕ) → slice_get labels id ≡ Some l → (k : ℕ) → e.upto ≤ k → is_some_in r (has l) k ≡ false)
      → AreEntries r labels (slice_set entries id (record e { upto = width })) closed
  full-right to width done facts = unranked-right r labels entries closed id e (record e { upto = width }) all was free shut none
      (λ l at h. record {
        says = h.says;
        covered = λ ts k is lt some. elim (cases_lt k e.upto) [
          | inl old ↦ h.covered ts k is old some
          | inr past ↦ absurd (false≢true (sym (facts l at k past) ∙ some))
        ];
        clear = h.clear;
      })
      (λ l at h ts is. h.complete ts is none)

  -- the label is clear
  pub clear-right : ((l : List ℕ) → slice_get labels id ≡ Some l → IsClear r (has l)) → AreEntries r labels (slice_set entries id (record e { clear = true })) closed
  clear-right facts = unranked-right r labels entries closed id e (record e { clear = true }) all was free shut none
      (λ l at h. record { says = h.says; covered = h.covered; clear = λ is. facts l at }) (λ l at h ts is. h.complete ts is none)

-- ---- less is to be done

pub fresh-effort : (width : ℕ) (e : Entry) → e.node ≡ node.Fresh → effort_of width e ≡ width + 1 + one_if_none e.rank
fresh-effort width e fresh = ap (λ n. effort_at width e.upto n + one_if_none e.rank) fresh

pub done-effort : (width : ℕ) (e : Entry) (to : List (ℕ × ℕ)) → e.node ≡ node.Done to → effort_of width e ≡ (width - e.upto) + one_if_none e.rank
done-effort width e to done = ap (λ n. effort_at width e.upto n + one_if_none e.rank) done

pub fresh-less : (width : ℕ) (e now : Entry) → e.node ≡ node.Fresh → effort_of width now ≤ width + one_if_none e.rank → effort_of width now < effort_of width e
fresh-less width e now fresh h = let was = fresh-effort width e fresh in omega (arith, was, h)
