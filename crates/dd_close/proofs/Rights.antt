-- The line of an axiom whose left side is a conjunction of names.
use Rattle.std.proofs.Common.{◌≡◌, ◌∙◌, ◌||◌, ◌==◌, sym, ap, subst, ℕ, zero, suc, Bool, true, false, [], ◌∷◌, length, map, slice_get, Some, Option, inl, inr}
use Rattle.std.specs.List.{list_any}
use Rattle.std.specs.Option.{option_map, option_map_or}
use Rattle.std.proofs.lemmas.Bool.{false≢true, or_cases, or_left, or_right}
use Rattle.std.proofs.lemmas.Option.{same_Some, slice_get-map}
use Rattle.dd_concept.specs.declared.concept.Axiom.{Axiom}
use Rattle.dd_concept.specs.Closed.{HasSides, IsClosedFor}
use Rattle.dd_concept.specs.Normal.{nnf_not_of}
use Rattle.dd_graph.specs.Right.{adding}
use Rattle.dd_graph.specs.View.{GraphView, props_at, rules_at}
use Rattle.dd_rules.specs.Compiled.{sides_numbers}
use Rattle.dd_rules.specs.Forced.{forces, forced_numbers}
use Rattle.dd_rules.specs.Numbers.{additions, axiom_numbers, has_joined, joined_of}
use Rattle.dd_rules.specs.declared.shape.Step.TheVariants as way
use Rattle.dd_rules.specs.declared.tables.AxiomNumbers.{AxiomNumbers}
use Rattle.dd_rules.proofs.Numbered.{get-place}
use Rattle.dd_close.specs.Drafts.{Cites, CitesEach, IsLine, Makes}
use Rattle.dd_close.specs.Logs.{with_forced}
use Rattle.dd_close.specs.declared.draft.Book.{Book}
use Rattle.dd_close.proofs.Books.{line-kept, line-wider}
use Rattle.dd_close.proofs.Choices.{All-at}
use Rattle.dd_close.proofs.Climbing.{axiom-forced, sides-are}

module _ (v : GraphView) (k : ℕ) (a : Axiom) (s : ℕ × ℕ) (at : slice_get v.closure.axioms k ≡ Some a)
    (sides : slice_get (map (sides_numbers v.closure.concepts) v.closure.axioms) k ≡ Some s) where
  sides-is : sides_numbers v.closure.concepts a ≡ s
  sides-is = same_Some (sides_numbers v.closure.concepts a) s (sym (slice_get-map (sides_numbers v.closure.concepts) v.closure.axioms k ∙ ap (option_map (sides_numbers v.closure.concepts)) at) ∙ sides)

  pub left-number : IsClosedFor v.closure.axioms (props_at v) v.closure.concepts → slice_get v.closure.concepts s.0 ≡ Some (nnf_not_of a.left)
  left-number closed = subst (λ (t : ℕ × ℕ). slice_get v.closure.concepts t.0 ≡ Some (nnf_not_of a.left)) sides-is
      (get-place v.closure.concepts (nnf_not_of a.left) (All-at (HasSides v.closure.concepts) v.closure.axioms k a closed.sides at).left)

  numbers-at : slice_get (rules_at v).axioms k ≡ Some (axiom_numbers v.closure.concepts a)
  numbers-at = slice_get-map (axiom_numbers v.closure.concepts) v.closure.axioms k ∙ ap (option_map (axiom_numbers v.closure.concepts)) at

  module _ (p : ℕ → Bool) (forced : forces (rules_at v) p (way.Axiom k) ≡ true) where
    pub left-names : has_joined p (joined_of v.closure.concepts a.left) ≡ true
    left-names =
        let found = axiom-forced (rules_at v) p k forced in
        ap (λ (x : AxiomNumbers). has_joined p x.joined) (same_Some (axiom_numbers v.closure.concepts a) found.0 (sym numbers-at ∙ found.1)) ∙ found.2

    pub right-cites : (b c : Book) (cite line : ℕ) → Makes v b c (adding s.0 p) cite → IsLine b (with_forced (rules_at v) (way.Axiom k) p) line
        → CitesEach (rules_at v) c.table.list (length c.table.list) p (way.Axiom k) (cite ∷ line ∷ [])
    right-cites b c cite line made old = record { each = each }
      where
        x : AxiomNumbers
        x = axiom_numbers v.closure.concepts a

        added : additions (rules_at v) (way.Axiom k) ≡ (x.left ∷ x.right ∷ [])
        added = ap (λ (o : Option AxiomNumbers). option_map_or (λ (y : AxiomNumbers). y.left ∷ y.right ∷ []) o []) numbers-at

        is-forced : forced_numbers (rules_at v) (way.Axiom k) ≡ (x.right ∷ [])
        is-forced = ap (λ (o : Option AxiomNumbers). option_map_or (λ (y : AxiomNumbers). y.right ∷ []) o []) numbers-at

        left-is : s.0 ≡ x.left
        left-is = (sides-are v k s x sides numbers-at).0

        narrow : (n : ℕ) → with_forced (rules_at v) (way.Axiom k) p n ≡ true → adding x.right p n ≡ true
        narrow n h = elim (or_cases ((n == x.right) || false) (p n) (ap (λ ns. list_any (λ m. n == m) ns || p n) (sym is-forced) ∙ h)) [
          | inl t ↦ elim (or_cases (n == x.right) false t) [ inl is ↦ or_left (n == x.right) (p n) is | inr none ↦ absurd (false≢true none) ]
          | inr t ↦ or_right (n == x.right) (p n) t
        ]

        by : (i d m : ℕ) → slice_get (x.left ∷ x.right ∷ []) i ≡ Some d → slice_get (cite ∷ line ∷ []) i ≡ Some m → Cites c.table.list (length c.table.list) m (adding d p)
        by zero d m e f = subst (λ (n : ℕ). Cites c.table.list (length c.table.list) n (adding d p)) (same_Some cite m f)
            (subst (λ (n : ℕ). IsLine c (adding n p) cite) (left-is ∙ same_Some x.left d e) made.line)
        by (suc zero) d m e f = subst (λ (n : ℕ). Cites c.table.list (length c.table.list) n (adding d p)) (same_Some line m f)
            (subst (λ (n : ℕ). IsLine c (adding n p) line) (same_Some x.right d e)
            (line-kept b c (adding x.right p) line made.adds.kept (line-wider b (with_forced (rules_at v) (way.Axiom k) p) (adding x.right p) line narrow old)))
        by (suc (suc i)) d m e f = cc

        each : (i d m : ℕ) → slice_get (additions (rules_at v) (way.Axiom k)) i ≡ Some d → slice_get (cite ∷ line ∷ []) i ≡ Some m → Cites c.table.list (length c.table.list) m (adding d p)
        each i d m e f = by i d m (ap (λ ns. slice_get ns i) (sym added) ∙ e) f
