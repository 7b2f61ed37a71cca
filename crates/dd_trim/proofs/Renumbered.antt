-- A line that is right after some claims is right after others, under other numbers, where each claim that it cites is found again.
use Rattle.std.proofs.Common.{◌≡◌, ◌∙◌, ◌==◌, ◌&&◌, ℕ, Bool, true, nat_le, List, [], ◌∷◌, map, Some, None, Option, ap, refl}
use Rattle.std.specs.List.{slice_get, list_all}
use Rattle.std.proofs.lemmas.Bool.{and_parts, and_from, or_left, or_right, eq-eqb}
use Rattle.dd_concept.specs.declared.concept.Axiom.{Axiom}
use Rattle.dd_concept.specs.declared.concept.Concept.{Concept}
use Rattle.dd_concept.specs.Counts.{node_count, depth_of}
use Rattle.dd_concept.specs.Forms.{and_of, or_of, some_of}
use Rattle.dd_concept.specs.Normal.{nnf_of, nnf_not_of}
use Rattle.dd_concept.specs.Same.{has, is_within}
use Rattle.dd_concept.specs.Successor.{is_passed}
use Rattle.dd_peer.specs.declared.version.Pinned.{Pinned}
use Rattle.dd_peer.specs.declared.version.PeerVersion.{PeerVersion}
use Rattle.dd_peer.specs.declared.version.Rule.{Rule}
use Rattle.dd_peer.specs.Rules.{rules_from}
use Rattle.dd_task.specs.Claims.{Claim}
use Rattle.dd_task.specs.Keys.{is_among}
use Rattle.dd_task.specs.declared.line.Line.{Line}
use Rattle.dd_task.specs.declared.line.Why.{Why}
use Rattle.dd_task.specs.declared.line.Why.TheVariants as why
use Rattle.dd_task.specs.Lines.{is_there, cites, cites_within, cites_targets, is_rising, rules_at, sources_label, is_other, gives_reason, is_right}
use Rattle.dd_trim.specs.Cited.{cited_by, renumbered_why, renumbered}

pub there-is : (A : Type 0) (o : Option A) (t : A → Bool) → is_there o t ≡ true → (x : A) × (o ≡ Some x) × (t x ≡ true)
there-is A None t e = cc
there-is A (Some x) t e = (x, refl, e)

there-more : (A : Type 0) (o : Option A) (s t : A → Bool) → ((x : A) → s x ≡ true → t x ≡ true) → is_there o s ≡ true → is_there o t ≡ true
there-more A None s t h e = cc
there-more A (Some x) s t h e = h x e

and-more : (a b c d : Bool) → (a ≡ true → c ≡ true) → (b ≡ true → d ≡ true) → (a && b) ≡ true → (c && d) ≡ true
and-more a b c d f g e = let h = and_parts a b e in and_from c d (f h.0) (g h.1)

first-among : (n : ℕ) (ns : List ℕ) → is_among (n ∷ ns) n ≡ true
first-among n ns = or_left (n == n) (is_among ns n) (eq-eqb n n refl)

later-among : (n m : ℕ) (ns : List ℕ) → is_among ns n ≡ true → is_among (m ∷ ns) n ≡ true
later-among n m ns h = or_right (m == n) (is_among ns n) h

module _ (p : Pinned) (before after : List Claim) (f : ℕ → ℕ) where
  -- the claim of that number, where there is one, is found again
  abbrev pub Finds : ℕ → Type 0
  Finds n = (c : Claim) → slice_get before n ≡ Some c → slice_get after (f n) ≡ Some c

  -- so are those of these numbers
  abbrev pub FindsAll : List ℕ → Type 0
  FindsAll ns = (n : ℕ) → is_among ns n ≡ true → Finds n

  cites-again : (peer n : ℕ) (test : List Concept → Bool) → Finds n → cites before peer n test ≡ true → cites after peer (f n) test ≡ true
  cites-again peer n test finds e =
      let h = there-is Claim (slice_get before n) (λ claim. (claim.peer == peer) && test claim.label) e in
      ap (λ o. is_there o (λ (claim : Claim). (claim.peer == peer) && test claim.label)) (finds h.0 h.1) ∙ h.2

  within-again : (peer n : ℕ) (label : List Concept) → Finds n → cites_within before peer n label ≡ true → cites_within after peer (f n) label ≡ true
  within-again peer n label = cites-again peer n (λ cited. is_within cited label)

  pair-again : (peer n m : ℕ) (a b : List Concept) → FindsAll (n ∷ m ∷ []) → (cites_within before peer n a && cites_within before peer m b) ≡ true
      → (cites_within after peer (f n) a && cites_within after peer (f m) b) ≡ true
  pair-again peer n m a b finds = and-more (cites_within before peer n a) (cites_within before peer m b)
      (cites_within after peer (f n) a) (cites_within after peer (f m) b)
      (within-again peer n a (finds n (first-among n (m ∷ [])))) (within-again peer m b (finds m (later-among m n (m ∷ []) (first-among m []))))

  targets-again : (peer : ℕ) (label : List Concept) (rules : List Rule) (ns : List ℕ) → FindsAll ns → cites_targets before peer label rules ns ≡ true
      → cites_targets after peer label rules (map f ns) ≡ true
  targets-again peer label [] [] finds e = refl
  targets-again peer label [] (n ∷ ns) finds e = cc
  targets-again peer label (r ∷ rules) [] finds e = cc
  targets-again peer label (r ∷ rules) (n ∷ ns) finds e =
      and-more (cites_within before peer n (nnf_of r.target ∷ label)) (cites_targets before peer label rules ns)
      (cites_within after peer (f n) (nnf_of r.target ∷ label)) (cites_targets after peer label rules (map f ns))
      (within-again peer n (nnf_of r.target ∷ label) (finds n (first-among n ns)))
      (targets-again peer label rules ns (λ m h. finds m (later-among m n ns h))) e

  module _ (peer : ℕ) (v : PeerVersion) (label : List Concept) where
    abbrev bridge_before : ℕ → ℕ → List ℕ → Rule → List Rule → Bool
    bridge_before from cite each onto into =
        has label (nnf_of onto.target) && (cites_within before from cite (sources_label onto into) && cites_targets before peer label into each)

    abbrev bridge_after : ℕ → ℕ → List ℕ → Rule → List Rule → Bool
    bridge_after from cite each onto into =
        has label (nnf_of onto.target) && (cites_within after from (f cite) (sources_label onto into) && cites_targets after peer label into (map f each))

    bridge-again : (from cite : ℕ) (each : List ℕ) → FindsAll (cite ∷ each) → (onto : Rule) (into : List Rule)
        → bridge_before from cite each onto into ≡ true → bridge_after from cite each onto into ≡ true
    bridge-again from cite each finds onto into = and-more (has label (nnf_of onto.target))
        (cites_within before from cite (sources_label onto into) && cites_targets before peer label into each)
        (has label (nnf_of onto.target)) (cites_within after from (f cite) (sources_label onto into) && cites_targets after peer label into (map f each))
        (λ there. there)
        (and-more (cites_within before from cite (sources_label onto into)) (cites_targets before peer label into each)
        (cites_within after from (f cite) (sources_label onto into)) (cites_targets after peer label into (map f each))
        (within-again from cite (sources_label onto into) (finds cite (first-among cite each)))
        (targets-again peer label into each (λ m h. finds m (later-among m cite each h))))

    reason-again : (w : Why) → FindsAll (cited_by w) → gives_reason p before peer v label w ≡ true → gives_reason p after peer v label (renumbered_why f w) ≡ true
    reason-again why.Bottom finds e = e
    reason-again (why.Clash a) finds e = e
    reason-again (why.And at cite) finds e = there-more Concept (slice_get label at)
        (λ c. is_there (and_of c) (λ parts. cites_within before peer cite (parts.0 ∷ parts.1 ∷ label)))
        (λ c. is_there (and_of c) (λ parts. cites_within after peer (f cite) (parts.0 ∷ parts.1 ∷ label)))
        (λ c. there-more (Concept × Concept) (and_of c) (λ parts. cites_within before peer cite (parts.0 ∷ parts.1 ∷ label))
        (λ parts. cites_within after peer (f cite) (parts.0 ∷ parts.1 ∷ label))
        (λ parts. within-again peer cite (parts.0 ∷ parts.1 ∷ label) (finds cite (first-among cite [])))) e
    reason-again (why.Or at left right) finds e = there-more Concept (slice_get label at)
        (λ c. is_there (or_of c) (λ parts. cites_within before peer left (parts.0 ∷ label) && cites_within before peer right (parts.1 ∷ label)))
        (λ c. is_there (or_of c) (λ parts. cites_within after peer (f left) (parts.0 ∷ label) && cites_within after peer (f right) (parts.1 ∷ label)))
        (λ c. there-more (Concept × Concept) (or_of c) (λ parts. cites_within before peer left (parts.0 ∷ label) && cites_within before peer right (parts.1 ∷ label))
        (λ parts. cites_within after peer (f left) (parts.0 ∷ label) && cites_within after peer (f right) (parts.1 ∷ label))
        (λ parts. pair-again peer left right (parts.0 ∷ label) (parts.1 ∷ label) finds)) e
    reason-again (why.Axiom index left right) finds e = there-more Axiom (slice_get v.axioms index)
        (λ a. cites_within before peer left (nnf_not_of a.left ∷ label) && cites_within before peer right (nnf_of a.right ∷ label))
        (λ a. cites_within after peer (f left) (nnf_not_of a.left ∷ label) && cites_within after peer (f right) (nnf_of a.right ∷ label))
        (λ a. pair-again peer left right (nnf_not_of a.left ∷ label) (nnf_of a.right ∷ label) finds) e
    reason-again (why.Cut on left right) finds e = and-more (nat_le (node_count on) 1000 && nat_le (depth_of on) 64)
        (cites_within before peer left (nnf_of on ∷ label) && cites_within before peer right (nnf_not_of on ∷ label))
        (nat_le (node_count on) 1000 && nat_le (depth_of on) 64)
        (cites_within after peer (f left) (nnf_of on ∷ label) && cites_within after peer (f right) (nnf_not_of on ∷ label))
        (λ small. small)
        (pair-again peer left right (nnf_of on ∷ label) (nnf_not_of on ∷ label) finds) e
    reason-again (why.Successor at cite) finds e = there-more Concept (slice_get label at)
        (λ c. is_there (some_of c) (λ part. cites before peer cite (λ cited. list_all (is_passed label part.0 part.1) cited)))
        (λ c. is_there (some_of c) (λ part. cites after peer (f cite) (λ cited. list_all (is_passed label part.0 part.1) cited)))
        (λ c. there-more (ℕ × Concept) (some_of c) (λ part. cites before peer cite (λ cited. list_all (is_passed label part.0 part.1) cited))
        (λ part. cites after peer (f cite) (λ cited. list_all (is_passed label part.0 part.1) cited))
        (λ part. cites-again peer cite (λ cited. list_all (is_passed label part.0 part.1) cited) (finds cite (first-among cite [])))) e
    reason-again (why.Bridge from o ks cite each) finds e =
        and-more (is_other p peer from)
        (is_rising ks && is_there (slice_get (rules_from v.onto from) o) (λ onto. is_there (rules_at (rules_from v.into from) ks) (λ into. bridge_before from cite each onto into)))
        (is_other p peer from)
        (is_rising ks && is_there (slice_get (rules_from v.onto from) o) (λ onto. is_there (rules_at (rules_from v.into from) ks) (λ into. bridge_after from cite each onto into)))
        (λ other. other)
        (and-more (is_rising ks)
        (is_there (slice_get (rules_from v.onto from) o) (λ onto. is_there (rules_at (rules_from v.into from) ks) (λ into. bridge_before from cite each onto into)))
        (is_rising ks)
        (is_there (slice_get (rules_from v.onto from) o) (λ onto. is_there (rules_at (rules_from v.into from) ks) (λ into. bridge_after from cite each onto into)))
        (λ rising. rising)
        (there-more Rule (slice_get (rules_from v.onto from) o) (λ onto. is_there (rules_at (rules_from v.into from) ks) (λ into. bridge_before from cite each onto into))
        (λ onto. is_there (rules_at (rules_from v.into from) ks) (λ into. bridge_after from cite each onto into))
        (λ onto. there-more (List Rule) (rules_at (rules_from v.into from) ks) (λ into. bridge_before from cite each onto into)
        (λ into. bridge_after from cite each onto into) (bridge-again from cite each finds onto)))) e

  pub right-again : (line : Line) → FindsAll (cited_by line.why) → is_right p before line ≡ true → is_right p after (renumbered f line) ≡ true
  right-again line finds e = there-more PeerVersion (slice_get p.peers line.peer) (λ v. gives_reason p before line.peer v line.label line.why)
      (λ v. gives_reason p after line.peer v line.label (renumbered_why f line.why))
      (λ v. reason-again line.peer v line.label line.why finds) e
