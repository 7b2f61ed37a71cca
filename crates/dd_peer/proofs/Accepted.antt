-- What holds of a version that no test refuses.
use Rattle.std.proofs.Common.{◌≡◌, ◌≢◌, ◌∙◌, ℕ, zero, suc, ◌<◌, ◌≤◌, ◌++◌, ◌∷◌, [], List, Bool, false, cond, nat_eq, nat_le, nat_lt, Option, None, Some, Result, OnOk, ap, subst, sym, inl, inr, refl, arith, length}
use Rattle.std.specs.Option.{option_map}
use Rattle.std.specs.List.{All, position, filter}
use Rattle.std.proofs.lemmas.Bool.{cases_eq, cases_lt, ltb-false, leb-false, eqb-false, ne_eqb}
use Rattle.std.proofs.lemmas.List.Elements.{All-nil, All-cons, All-head, All-tail, All-weaker}
use Rattle.dd_concept.proofs.Firsts.{first_none, map_none, cond_none, position_none}
use Rattle.dd_peer.specs.declared.check.PeerErr.{PeerErr}
use Rattle.dd_peer.specs.declared.check.PeerErr.TheVariants.{SamePeer, UnknownPeer, TooManyAxioms, TooManyRules}
use Rattle.dd_peer.specs.declared.version.PeerVersion.{PeerVersion}
use Rattle.dd_peer.specs.declared.version.Rule.{Rule}
use Rattle.dd_peer.specs.Rules.{rules_of, rules_from}
use Rattle.dd_peer.specs.Refusals.{most_axioms, most_rules, crowd_of, first_crowd, refusal_of, refused_by, IsAccepted}

module _ {A : Type 0} (P : A → Type 0) where
  pub All-left : (xs ys : List A) → All P (xs ++ ys) → All P xs
  All-left [] ys h = All-nil P
  All-left (x ∷ xs) ys h = All-cons P x xs (All-head P x (xs ++ ys) h) (All-left xs ys (All-tail P x (xs ++ ys) h))

  pub All-right : (xs ys : List A) → All P (xs ++ ys) → All P ys
  All-right [] ys h = h
  All-right (x ∷ xs) ys h = All-right xs ys (All-tail P x (xs ++ ys) h)

filter_none : {A : Type 0} (p : A → Bool) (xs : List A) → All (λ x. p x ≡ false) xs → filter p xs ≡ []
filter_none p [] h = refl
filter_none p (x ∷ xs) h =
    ap (λ b. cond b (x ∷ filter p xs) (filter p xs)) (All-head (λ y. p y ≡ false) x xs h) ∙ filter_none p xs (All-tail (λ y. p y ≡ false) x xs h)

-- no rules come from a peer beyond all that rules come from
none_beyond : (rules : List Rule) (peers from : ℕ) → All (λ r. r.from < peers) rules → peers ≤ from → length (rules_from rules from) ≤ most_rules
none_beyond rules peers from h le =
    let none : rules_from rules from ≡ [] = filter_none (λ r. nat_eq r.from from) rules
    (All-weaker (λ r. r.from < peers) (λ r. nat_eq r.from from ≡ false) (λ r lt. ne_eqb r.from from (λ e. absurd (omega (arith, e, lt, le)))) rules h) in
    omega (arith, ap length none)

module _ (v : PeerVersion) where
  crowd_none : (from : ℕ) → crowd_of v from ≡ None
      → (length (rules_from v.into from) ≤ most_rules) × (length (rules_from v.onto from) ≤ most_rules)
  crowd_none from e =
      let into = cond_none (nat_lt most_rules (length (rules_from v.into from))) (length (rules_from v.into from)) _ e in
      let onto = cond_none (nat_lt most_rules (length (rules_from v.onto from))) (length (rules_from v.onto from)) None into.1 in
      (ltb-false most_rules (length (rules_from v.into from)) into.0, ltb-false most_rules (length (rules_from v.onto from)) onto.0)

  crowds_none : (n from : ℕ) → first_crowd v n ≡ None → from < n → crowd_of v from ≡ None
  crowds_none zero from e lt = absurd (omega arith)
  crowds_none (suc n) from e lt =
      let parts = first_none (first_crowd v n) (option_map (λ count. (n, count)) (crowd_of v n)) e in
      elim (cases_eq from n) [
        | inl q ↦ ap (crowd_of v) q ∙ map_none (λ count. (n, count)) (crowd_of v n) parts.1
        | inr ne ↦ crowds_none n from parts.0 (omega (arith, ne))
      ]

  pub accepted_at_none : (peers own : ℕ) → refusal_of v peers own ≡ None → IsAccepted v peers own
  accepted_at_none peers own e =
      let first = first_none (option_map (λ k. SamePeer k) (position (λ r. nat_eq r.from own) (rules_of v))) _ e in
      let second = first_none (option_map (λ k. UnknownPeer k) (position (λ r. nat_le peers r.from) (rules_of v))) _ first.1 in
      let third = first_none (cond (nat_lt most_axioms (length v.axioms)) (Some (TooManyAxioms (length v.axioms))) None) _ second.1 in
      let crowds = map_none (λ p. TooManyRules p.0 p.1) (first_crowd v peers) third.1 in
      let declared : All (λ r. r.from < peers) (rules_of v) =
      All-weaker (λ r. nat_le peers r.from ≡ false) (λ r. r.from < peers) (λ r h. leb-false peers r.from h) (rules_of v)
      (position_none (λ r. nat_le peers r.from) (rules_of v) (map_none (λ k. UnknownPeer k) (position (λ r. nat_le peers r.from) (rules_of v)) second.0)) in
      record {
        others = All-weaker (λ r. nat_eq r.from own ≡ false) (λ r. r.from ≢ own) (λ r h. eqb-false r.from own h) (rules_of v)
            (position_none (λ r. nat_eq r.from own) (rules_of v) (map_none (λ k. SamePeer k) (position (λ r. nat_eq r.from own) (rules_of v)) first.0));
        declared = declared;
        axioms = ltb-false most_axioms (length v.axioms) (cond_none (nat_lt most_axioms (length v.axioms)) (TooManyAxioms (length v.axioms)) None third.0).0;
        into = λ from. elim (cases_lt from peers) [
          | inl lt ↦ (crowd_none from (crowds_none peers from crowds lt)).0
          | inr le ↦ none_beyond v.into peers from (All-left (λ r. r.from < peers) v.into v.onto declared) le
        ];
        onto = λ from. elim (cases_lt from peers) [
          | inl lt ↦ (crowd_none from (crowds_none peers from crowds lt)).1
          | inr le ↦ none_beyond v.onto peers from (All-right (λ r. r.from < peers) v.into v.onto declared) le
        ];
      }

  accepted_at : (peers own : ℕ) (cause : Option PeerErr) → refusal_of v peers own ≡ cause → OnOk (refused_by cause) (IsAccepted v peers own)
  accepted_at peers own None e = accepted_at_none peers own e
  accepted_at peers own (Some x) e = tt

  -- where the test answers Ok, the version is accepted
  pub accepted : (peers own : ℕ) (r : Result (Unit {0}) PeerErr) → r ≡ refused_by (refusal_of v peers own) → OnOk r (IsAccepted v peers own)
  accepted peers own r e = subst (λ s. OnOk s (IsAccepted v peers own)) (sym e) (accepted_at peers own (refusal_of v peers own) refl)
