-- Two lists whose items belong together, and the concepts that a closure comes from.
use Rattle.std.proofs.Common.{◌≡◌, ◌∙◌, ℕ, ◌+◌, ◌<◌, List, [], ◌∷◌, ◌++◌, length, get_or, take, map, flat_map, All, refl, sym, ap, ap₂, subst, arith, Some, slice_get, append_assoc}
use Rattle.std.proofs.lemmas.List.{take_more}
use Rattle.std.proofs.lemmas.List.Elements.{All-cons}
use Rattle.std.proofs.lemmas.Grind.{flat_map-append}
use Rattle.dd_concept.specs.declared.concept.Axiom.{Axiom}
use Rattle.dd_concept.specs.declared.concept.Concept.{Concept}
use Rattle.dd_concept.specs.Normal.{nnf_of, nnf_not_of}
use Rattle.dd_concept.specs.Parts.{parts_in_order}
use Rattle.dd_rules.specs.Closure.{sides_of, sources_of, closure_of}
use Rattle.dd_rules.specs.Sources.{axiom_by, Pairs, IsConceptRow, IsAxiomRow, AreSidesBelow, parts_of_sides, parts_of_row, parts_of_all}
use Rattle.dd_rules.specs.Trees.{Appends, IsRows, trees}
use Rattle.dd_rules.specs.Walks.{with_all}
use Rattle.dd_rules.specs.declared.row.Row.{Row}
use Rattle.dd_rules.specs.declared.source.AxiomRows.{AxiomRows}
use Rattle.dd_rules.proofs.Growing.{get-Appends, Appends-trans}
use Rattle.dd_rules.proofs.Forming.{at, low}
use Rattle.dd_rules.proofs.Numbering.{all-once}

module _ {A B : Type 0} where
  pub pairs-push : (P : A → B → Type 0) (xs : List A) (ys : List B) (x : A) (y : B) → Pairs P xs ys → P x y → Pairs P (xs ++ x ∷ []) (ys ++ y ∷ [])
  pairs-push P [] [] x y h p = (p, tt)
  pairs-push P [] (z ∷ zs) x y h p = absurd h
  pairs-push P (w ∷ ws) [] x y h p = absurd h
  pairs-push P (w ∷ ws) (z ∷ zs) x y h p = (h.0, pairs-push P ws zs x y h.1 p)

  pub pairs-keep : (P Q : A → B → Type 0) (xs : List A) (ys : List B) → ((x : A) (y : B) → P x y → Q x y) → Pairs P xs ys → Pairs Q xs ys
  pairs-keep P Q [] [] f h = tt
  pairs-keep P Q [] (z ∷ zs) f h = absurd h
  pairs-keep P Q (w ∷ ws) [] f h = absurd h
  pairs-keep P Q (w ∷ ws) (z ∷ zs) f h = (f w z h.0, pairs-keep P Q ws zs f h.1)

axiom-keep : (ts zs : List Concept) → Appends ts zs → (a : Axiom) (s : AxiomRows) → IsAxiomRow ts a s → IsAxiomRow zs a s
axiom-keep ts zs g a s h = record {
  left = get-Appends ts zs s.left a.left g h.left;
  right = get-Appends ts zs s.right a.right g h.right;
  not_left = get-Appends ts zs s.not_left (nnf_not_of a.left) g h.not_left;
  normal_right = get-Appends ts zs s.normal_right (nnf_of a.right) g h.normal_right;
}

pub axioms-keep : (ts zs : List Concept) (axioms : List Axiom) (rows : List AxiomRows) → Appends ts zs → Pairs (IsAxiomRow ts) axioms rows → Pairs (IsAxiomRow zs) axioms rows
axioms-keep ts zs axioms rows g = pairs-keep (IsAxiomRow ts) (IsAxiomRow zs) axioms rows (axiom-keep ts zs g)

pub concepts-keep : (ts zs : List Concept) (cs : List Concept) (ns : List ℕ) → Appends ts zs → Pairs (IsConceptRow ts) cs ns → Pairs (IsConceptRow zs) cs ns
concepts-keep ts zs cs ns g = pairs-keep (IsConceptRow ts) (IsConceptRow zs) cs ns (λ c n h. get-Appends ts zs n c g h)

-- ---- the loops that add

pub record AddsAxioms (rows : List Row) (seen : List Axiom) (list : List AxiomRows) : Type 0 where
  pub rows_are : IsRows rows
  pub pairs : Pairs (IsAxiomRow (trees rows)) seen list

pub axioms-next : (rows new : List Row) (axioms : List Axiom) (k : ℕ) (a : Axiom) (s : AxiomRows) (list more : List AxiomRows) → AddsAxioms rows (take k axioms) list → k < length axioms
    → a ≡ get_or axioms k a → Appends (trees rows) (trees new) → IsRows new → IsAxiomRow (trees new) a s → more ≡ list ++ s ∷ [] → AddsAxioms new (take (k + 1) axioms) more
axioms-next rows new axioms k a s list more h low its grows is one e =
    let taken : take (k + 1) axioms ≡ take k axioms ++ a ∷ [] = ap (λ n. take n axioms) (omega arith) ∙ take_more axioms k a low ∙ ap (λ x. take k axioms ++ x ∷ []) (sym its) in
    record {
      rows_are = is;
      pairs = subst (Pairs (IsAxiomRow (trees new)) (take (k + 1) axioms)) (sym e) (subst (λ l. Pairs (IsAxiomRow (trees new)) l (list ++ s ∷ [])) (sym taken)
          (pairs-push (IsAxiomRow (trees new)) (take k axioms) list a s (axioms-keep (trees rows) (trees new) (take k axioms) list grows h.pairs) one));
    }

pub record AddsExtra (start rows : List Row) (seen : List Concept) (list : List ℕ) : Type 0 where
  pub rows_are : IsRows rows
  pub grows : Appends (trees start) (trees rows)
  pub pairs : Pairs (IsConceptRow (trees rows)) seen list

pub extra-next : (start rows new : List Row) (extra : List Concept) (k : ℕ) (c : Concept) (n : ℕ) (list more : List ℕ) → AddsExtra start rows (take k extra) list → k < length extra
    → c ≡ get_or extra k c → Appends (trees rows) (trees new) → IsRows new → slice_get (trees new) n ≡ Some c → more ≡ list ++ n ∷ [] → AddsExtra start new (take (k + 1) extra) more
extra-next start rows new extra k c n list more h low its grows is one e =
    let taken : take (k + 1) extra ≡ take k extra ++ c ∷ [] = ap (λ n. take n extra) (omega arith) ∙ take_more extra k c low ∙ ap (λ x. take k extra ++ x ∷ []) (sym its) in
    record {
      rows_are = is;
      grows = Appends-trans (trees start) (trees rows) (trees new) h.grows grows;
      pairs = subst (Pairs (IsConceptRow (trees new)) (take (k + 1) extra)) (sym e) (subst (λ l. Pairs (IsConceptRow (trees new)) l (list ++ n ∷ [])) (sym taken)
          (pairs-push (IsConceptRow (trees new)) (take k extra) list c n (concepts-keep (trees rows) (trees new) (take k extra) list grows h.pairs) one));
    }

-- ---- what the rows stand for

pub sides-below : (rows : List Row) (axioms : List Axiom) (list : List AxiomRows) → Pairs (IsAxiomRow (trees rows)) axioms list → All (AreSidesBelow (length rows)) list
sides-below rows axioms [] h = λ k d lt. absurd (omega (arith, lt))
sides-below rows [] (s ∷ ss) h = absurd h
sides-below rows (a ∷ as') (s ∷ ss) h = All-cons (AreSidesBelow (length rows)) s ss (record { not_left = low rows s.not_left (nnf_not_of a.left) h.0.not_left; normal_right = low rows s.normal_right (nnf_of a.right) h.0.normal_right })
    (sides-below rows as' ss h.1)

pub extra-below : (rows : List Row) (cs : List Concept) (ns : List ℕ) → Pairs (IsConceptRow (trees rows)) cs ns → All (λ n. n < length rows) ns
extra-below rows cs [] h = λ k d lt. absurd (omega (arith, lt))
extra-below rows [] (n ∷ ns) h = absurd h
extra-below rows (c ∷ cs) (n ∷ ns) h = All-cons (λ n. n < length rows) n ns (low rows n c h.0) (extra-below rows cs ns h.1)

sides-parts : (ts : List Concept) (axioms : List Axiom) (list : List AxiomRows) → Pairs (IsAxiomRow ts) axioms list → flat_map (parts_of_sides ts) list ≡ flat_map parts_in_order (flat_map sides_of axioms)
sides-parts ts [] [] h = refl
sides-parts ts [] (s ∷ ss) h = absurd h
sides-parts ts (a ∷ as') [] h = absurd h
sides-parts ts (a ∷ as') (s ∷ ss) h =
    ap₂ (λ c d. (parts_in_order c ++ parts_in_order d) ++ flat_map (parts_of_sides ts) ss) (at ts s.not_left (nnf_not_of a.left) h.0.not_left) (at ts s.normal_right (nnf_of a.right) h.0.normal_right)
    ∙ ap (λ l. (parts_in_order (nnf_not_of a.left) ++ parts_in_order (nnf_of a.right)) ++ l) (sides-parts ts as' ss h.1)
    ∙ append_assoc (parts_in_order (nnf_not_of a.left)) (parts_in_order (nnf_of a.right)) (flat_map parts_in_order (flat_map sides_of as'))

extra-parts : (ts cs : List Concept) (ns : List ℕ) → Pairs (IsConceptRow ts) cs ns → flat_map (parts_of_row ts) ns ≡ flat_map parts_in_order cs
extra-parts ts [] [] h = refl
extra-parts ts [] (n ∷ ns) h = absurd h
extra-parts ts (c ∷ cs) [] h = absurd h
extra-parts ts (c ∷ cs) (n ∷ ns) h = ap₂ (λ d l. parts_in_order d ++ l) (at ts n c h.0) (extra-parts ts cs ns h.1)

-- the concepts of a walk over the rows are the closure
pub walked-closure : (ts : List Concept) (axioms : List Axiom) (cs : List Concept) (list : List AxiomRows) (ns : List ℕ) → Pairs (IsAxiomRow ts) axioms list → Pairs (IsConceptRow ts) cs ns
    → with_all [] (parts_of_all ts list ns) ≡ closure_of axioms cs
walked-closure ts axioms cs list ns h k =
    ap (with_all []) (ap₂ (λ l m. l ++ m) (sides-parts ts axioms list h) (extra-parts ts cs ns k) ∙ sym (flat_map-append parts_in_order (flat_map sides_of axioms) cs))
    ∙ all-once (flat_map parts_in_order (sources_of axioms cs))

-- the axioms by their rows
pub axioms-back : (ts : List Concept) (axioms : List Axiom) (list : List AxiomRows) → Pairs (IsAxiomRow ts) axioms list → map (axiom_by ts) list ≡ axioms
axioms-back ts [] [] h = refl
axioms-back ts [] (s ∷ ss) h = absurd h
axioms-back ts (a ∷ as') [] h = absurd h
axioms-back ts (a ∷ as') (s ∷ ss) h = ap₂ (λ (b : Axiom) (l : List Axiom). b ∷ l) (ap₂ (λ c d. made c d) (at ts s.left a.left h.0.left) (at ts s.right a.right h.0.right)) (axioms-back ts as' ss h.1)
  where
    made : Concept → Concept → Axiom
    made c d = record { left = c; right = d }
