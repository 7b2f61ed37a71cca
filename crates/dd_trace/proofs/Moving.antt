-- A line that is right after some claims is right after others, under other numbers, where each cited claim is found again, of the same
-- peer and with a smaller label.
use Rattle.std.proofs.Common.{◌≡◌, ◌∙◌, ◌==◌, ◌&&◌, ℕ, Bool, true, nat_le, List, [], ◌∷◌, map, Some, ap, refl}
use Rattle.std.specs.List.{slice_get, list_all}
use Rattle.std.proofs.lemmas.Bool.{and_parts, and_from}
use Rattle.dd_concept.specs.declared.concept.Axiom.{Axiom}
use Rattle.dd_concept.specs.declared.concept.Concept.{Concept}
use Rattle.dd_concept.specs.Counts.{node_count, depth_of}
use Rattle.dd_concept.specs.Forms.{and_of, or_of, some_of}
use Rattle.dd_concept.specs.Normal.{nnf_of, nnf_not_of}
use Rattle.dd_concept.specs.Same.{has, is_within}
use Rattle.dd_concept.specs.Successor.{is_passed}
use Rattle.dd_concept.proofs.Sets.{within-trans}
use Rattle.dd_peer.specs.declared.version.Pinned.{Pinned}
use Rattle.dd_peer.specs.declared.version.PeerVersion.{PeerVersion}
use Rattle.dd_peer.specs.declared.version.Rule.{Rule}
use Rattle.dd_peer.specs.Rules.{rules_from}
use Rattle.dd_task.specs.Claims.{Claim}
use Rattle.dd_task.specs.declared.line.Line.{Line}
use Rattle.dd_task.specs.declared.line.Prop.{Prop}
use Rattle.dd_task.specs.declared.line.Why.{Why}
use Rattle.dd_task.specs.declared.line.Why.TheVariants as why
use Rattle.dd_task.specs.Lines.{is_there, cites, cites_within, cites_targets, is_rising, rules_at, sources_label, is_other, gives_reason, is_right}
use Rattle.dd_board.specs.Moved.{moved_number, moved_why, moved_line}
use Rattle.dd_trace.proofs.Lists.{there-is, there-more, and-more, all-within}

-- claims are found again under other numbers
abbrev pub Finds : List Claim → List Claim → (ℕ → ℕ) → Type 0
Finds before after f = (n : ℕ) (c : Claim) → slice_get before n ≡ Some c
    → (d : Claim) × (slice_get after (f n) ≡ Some d) × (d.peer ≡ c.peer) × (is_within d.label c.label ≡ true)

module _ (p : Pinned) (before after : List Claim) (view : List Prop) (count : ℕ) (finds : Finds before after (moved_number view count)) where
  abbrev f : ℕ → ℕ
  f = moved_number view count

  module _ (peer n : ℕ) (test : List Concept → Bool) (smaller : (a b : List Concept) → is_within a b ≡ true → test b ≡ true → test a ≡ true) where
    moved-cites : cites before peer n test ≡ true → cites after peer (f n) test ≡ true
    moved-cites e =
        let h = there-is Claim (slice_get before n) (λ claim. (claim.peer == peer) && test claim.label) e in
        let d = finds n h.0 h.1 in
        let parts = and_parts (h.0.peer == peer) (test h.0.label) h.2 in
        ap (λ o. is_there o (λ (claim : Claim). (claim.peer == peer) && test claim.label)) d.1
        ∙ and_from (d.0.peer == peer) (test d.0.label) (ap (λ k. k == peer) d.2 ∙ parts.0) (smaller d.0.label h.0.label d.3 parts.1)

  moved-within : (peer n : ℕ) (label : List Concept) → cites_within before peer n label ≡ true → cites_within after peer (f n) label ≡ true
  moved-within peer n label = moved-cites peer n (λ cited. is_within cited label) (λ a b w t. within-trans a b label w t)

  moved-targets : (peer : ℕ) (label : List Concept) (rules : List Rule) (ns : List ℕ) → cites_targets before peer label rules ns ≡ true
      → cites_targets after peer label rules (map f ns) ≡ true
  moved-targets peer label [] [] e = refl
  moved-targets peer label [] (n ∷ ns) e = cc
  moved-targets peer label (r ∷ rules) [] e = cc
  moved-targets peer label (r ∷ rules) (n ∷ ns) e =
      and-more (cites_within before peer n (nnf_of r.target ∷ label)) (cites_targets before peer label rules ns)
      (cites_within after peer (f n) (nnf_of r.target ∷ label)) (cites_targets after peer label rules (map f ns))
      (moved-within peer n (nnf_of r.target ∷ label)) (moved-targets peer label rules ns) e

  module _ (peer : ℕ) (v : PeerVersion) (label : List Concept) where
    abbrev bridge_before : ℕ → ℕ → List ℕ → Rule → List Rule → Bool
    bridge_before from cite each onto into =
        has label (nnf_of onto.target) && (cites_within before from cite (sources_label onto into) && cites_targets before peer label into each)

    abbrev bridge_after : ℕ → ℕ → List ℕ → Rule → List Rule → Bool
    bridge_after from cite each onto into =
        has label (nnf_of onto.target) && (cites_within after from (f cite) (sources_label onto into) && cites_targets after peer label into (map f each))

    moved-bridge : (from cite : ℕ) (each : List ℕ) (onto : Rule) (into : List Rule) → bridge_before from cite each onto into ≡ true
        → bridge_after from cite each onto into ≡ true
    moved-bridge from cite each onto into = and-more (has label (nnf_of onto.target))
        (cites_within before from cite (sources_label onto into) && cites_targets before peer label into each)
        (has label (nnf_of onto.target)) (cites_within after from (f cite) (sources_label onto into) && cites_targets after peer label into (map f each))
        (λ there. there)
        (and-more (cites_within before from cite (sources_label onto into)) (cites_targets before peer label into each)
        (cites_within after from (f cite) (sources_label onto into)) (cites_targets after peer label into (map f each))
        (moved-within from cite (sources_label onto into)) (moved-targets peer label into each))

    moved-reason : (w : Why) → gives_reason p before peer v label w ≡ true → gives_reason p after peer v label (moved_why view count w) ≡ true
    moved-reason why.Bottom e = e
    moved-reason (why.Clash a) e = e
    moved-reason (why.And at cite) e = there-more Concept (slice_get label at)
        (λ c. is_there (and_of c) (λ parts. cites_within before peer cite (parts.0 ∷ parts.1 ∷ label)))
        (λ c. is_there (and_of c) (λ parts. cites_within after peer (f cite) (parts.0 ∷ parts.1 ∷ label)))
        (λ c. there-more (Concept × Concept) (and_of c) (λ parts. cites_within before peer cite (parts.0 ∷ parts.1 ∷ label))
        (λ parts. cites_within after peer (f cite) (parts.0 ∷ parts.1 ∷ label))
        (λ parts. moved-within peer cite (parts.0 ∷ parts.1 ∷ label))) e
    moved-reason (why.Or at left right) e = there-more Concept (slice_get label at)
        (λ c. is_there (or_of c) (λ parts. cites_within before peer left (parts.0 ∷ label) && cites_within before peer right (parts.1 ∷ label)))
        (λ c. is_there (or_of c) (λ parts. cites_within after peer (f left) (parts.0 ∷ label) && cites_within after peer (f right) (parts.1 ∷ label)))
        (λ c. there-more (Concept × Concept) (or_of c) (λ parts. cites_within before peer left (parts.0 ∷ label) && cites_within before peer right (parts.1 ∷ label))
        (λ parts. cites_within after peer (f left) (parts.0 ∷ label) && cites_within after peer (f right) (parts.1 ∷ label))
        (λ parts. and-more (cites_within before peer left (parts.0 ∷ label)) (cites_within before peer right (parts.1 ∷ label))
        (cites_within after peer (f left) (parts.0 ∷ label)) (cites_within after peer (f right) (parts.1 ∷ label))
        (moved-within peer left (parts.0 ∷ label)) (moved-within peer right (parts.1 ∷ label)))) e
    moved-reason (why.Axiom index left right) e = there-more Axiom (slice_get v.axioms index)
        (λ a. cites_within before peer left (nnf_not_of a.left ∷ label) && cites_within before peer right (nnf_of a.right ∷ label))
        (λ a. cites_within after peer (f left) (nnf_not_of a.left ∷ label) && cites_within after peer (f right) (nnf_of a.right ∷ label))
        (λ a. and-more (cites_within before peer left (nnf_not_of a.left ∷ label)) (cites_within before peer right (nnf_of a.right ∷ label))
        (cites_within after peer (f left) (nnf_not_of a.left ∷ label)) (cites_within after peer (f right) (nnf_of a.right ∷ label))
        (moved-within peer left (nnf_not_of a.left ∷ label)) (moved-within peer right (nnf_of a.right ∷ label))) e
    moved-reason (why.Cut on left right) e = and-more (nat_le (node_count on) 1000 && nat_le (depth_of on) 64)
        (cites_within before peer left (nnf_of on ∷ label) && cites_within before peer right (nnf_not_of on ∷ label))
        (nat_le (node_count on) 1000 && nat_le (depth_of on) 64)
        (cites_within after peer (f left) (nnf_of on ∷ label) && cites_within after peer (f right) (nnf_not_of on ∷ label))
        (λ small. small)
        (and-more (cites_within before peer left (nnf_of on ∷ label)) (cites_within before peer right (nnf_not_of on ∷ label))
        (cites_within after peer (f left) (nnf_of on ∷ label)) (cites_within after peer (f right) (nnf_not_of on ∷ label))
        (moved-within peer left (nnf_of on ∷ label)) (moved-within peer right (nnf_not_of on ∷ label))) e
    moved-reason (why.Successor at cite) e = there-more Concept (slice_get label at)
        (λ c. is_there (some_of c) (λ part. cites before peer cite (λ cited. list_all (is_passed label part.0 part.1) cited)))
        (λ c. is_there (some_of c) (λ part. cites after peer (f cite) (λ cited. list_all (is_passed label part.0 part.1) cited)))
        (λ c. there-more (ℕ × Concept) (some_of c) (λ part. cites before peer cite (λ cited. list_all (is_passed label part.0 part.1) cited))
        (λ part. cites after peer (f cite) (λ cited. list_all (is_passed label part.0 part.1) cited))
        (λ part. moved-cites peer cite (λ cited. list_all (is_passed label part.0 part.1) cited) (all-within (is_passed label part.0 part.1)))) e
    moved-reason (why.Bridge from o ks cite each) e =
        and-more (is_other p peer from)
        (is_rising ks && is_there (slice_get (rules_from v.onto from) o) (λ onto. is_there (rules_at (rules_from v.into from) ks) (λ into. bridge_before from cite each onto into)))
        (is_other p peer from)
        (is_rising ks && is_there (slice_get (rules_from v.onto from) o) (λ onto. is_there (rules_at (rules_from v.into from) ks) (λ into. bridge_after from cite each onto into)))
        (λ other. other)
        (and-more (is_rising ks)
        (is_there (slice_get (rules_from v.onto from) o) (λ onto. is_there (rules_at (rules_from v.into from) ks) (λ into. bridge_before from cite each onto into)))
        (is_rising ks)
        (is_there (slice_get (rules_from v.onto from) o) (λ onto. is_there (rules_at (rules_from v.into from) ks) (λ into. bridge_after from cite each onto into)))
        (λ rising. rising)
        (there-more Rule (slice_get (rules_from v.onto from) o) (λ onto. is_there (rules_at (rules_from v.into from) ks) (λ into. bridge_before from cite each onto into))
        (λ onto. is_there (rules_at (rules_from v.into from) ks) (λ into. bridge_after from cite each onto into))
        (λ onto. there-more (List Rule) (rules_at (rules_from v.into from) ks) (λ into. bridge_before from cite each onto into) (λ into. bridge_after from cite each onto into) (moved-bridge from cite each onto)))) e

  pub moved-right : (line : Line) → is_right p before line ≡ true → is_right p after (moved_line view count line) ≡ true
  moved-right line e = there-more PeerVersion (slice_get p.peers line.peer) (λ v. gives_reason p before line.peer v line.label line.why)
      (λ v. gives_reason p after line.peer v line.label (moved_why view count line.why))
      (λ v. moved-reason line.peer v line.label line.why) e
