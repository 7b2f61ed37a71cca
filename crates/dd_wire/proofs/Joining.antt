-- Readers of several texts: what was read behind what was read, and their loops.
use Rattle.std.proofs.Common.{◌≡◌, ◌≤◌, ◌<◌, ℕ, ◌+◌, List, [], ◌∷◌, ◌++◌, length, map, drop, get_or, Some, Result, Ok, Err, OnOk, true, false, refl, sym, ap, ◌∙◌, subst, arith, append_assoc}
use Rattle.std.specs.Prelude.{is_err}
use Rattle.std.proofs.lemmas.List.{append-nil, map-append, drop_all}
use Rattle.dd_concept.specs.declared.concept.Concept.{Concept}
use Rattle.dd_concept.specs.declared.concept.Axiom.{Axiom}
use Rattle.dd_peer.specs.declared.version.Rule.{Rule}
use Rattle.dd_text.specs.Grammar.{Term}
use Rattle.dd_text.specs.Text.{concept_of}
use Rattle.dd_text.proofs.Building.{Grows-trans, drop-next}
use Rattle.dd_wire.specs.declared.form.RuleForm.{RuleForm}
use Rattle.dd_wire.specs.declared.request.WireErr.{WireErr}
use Rattle.dd_wire.specs.declared.request.WireErr.TheVariants.{Code, NoMemory}
use Rattle.dd_wire.specs.Requests.{source_number}
use Rattle.dd_wire.specs.Texts.{Piece, concept, implication, rule_pieces, RuleTree, Each, SpellsSides, SpellsRule, sides_of, rule_trees}
use Rattle.dd_wire.specs.Progress.{Progress, after_text, after_texts, Leads, IsAxiomAfter, IsRuleAfter, Stops, ReadsText, ReadsAxioms, ReadsRules, behind}
use Rattle.dd_wire.proofs.Pieces.{Each-append, Each-implies, SpellsPiece, pieces_of_axioms, pieces_of_rules, first_in_front, first_behind}
use Rattle.dd_wire.proofs.Tallies.{Leads-texts, Leads-trans, after_texts-append, texts_after_all}

-- ---- stops among more pieces

pub Leads-after : (p q : Progress) (texts : List (List Term)) → q ≡ after_texts p texts → Leads p q
Leads-after p q texts is = subst (Leads p) (sym is) (Leads-texts p texts)

pub stops_in_front : (old new : Progress) (xs ys : List Piece) (e : WireErr) → Stops old xs new e → Stops old (xs ++ ys) new e
stops_in_front old new xs ys (Code code n) h = record { grows = h.grows; fault = (h.fault.0, first_in_front xs ys h.fault.0 h.fault.1, h.fault.2, h.fault.3) }
stops_in_front old new xs ys NoMemory h = record { grows = h.grows; fault = tt }

pub stops_behind : (old mid new : Progress) (xs ys : List Piece) (trees : List (List Term)) (e : WireErr) → Each SpellsPiece xs trees → mid ≡ after_texts old trees → Stops mid ys new e → Stops old (xs ++ ys) new e
stops_behind old mid new xs ys trees (Code code n) each is h =
    let count : mid.tally.texts ≡ old.tally.texts + length trees = ap (λ (p : Progress). p.tally.texts) is ∙ texts_after_all old trees in
    record {
      grows = Grows-trans old.symbols mid.symbols new.symbols (Leads-after old mid trees is).grows h.grows;
      fault = (
        length trees + h.fault.0,
        first_behind xs trees ys h.fault.0 (length trees + h.fault.0) refl each h.fault.1,
        h.fault.2,
        h.fault.3 ∙ ap Some (let sum : mid.tally.texts + h.fault.0 ≡ old.tally.texts + (length trees + h.fault.0) = omega arith in sum),
      );
    }
stops_behind old mid new xs ys trees NoMemory each is h = record { grows = Grows-trans old.symbols mid.symbols new.symbols (Leads-after old mid trees is).grows h.grows; fault = tt }

-- ---- what a reader of a list does, by its parts

pub record Joins (I V : Type 0) (ReadsRequest : Progress → List I → Progress → Result (List V) WireErr → Type 0) : Type 0 where
  pub nothing : (p : Progress) → ReadsRequest p [] p (Ok [])
  pub joins : (old mid new : Progress) (xs ys : List I) (vs : List V) (r : Result (List V) WireErr) → ReadsRequest old xs mid (Ok vs) → ReadsRequest mid ys new r → ReadsRequest old (xs ++ ys) new (behind vs r)
  pub fails : (old new : Progress) (xs ys : List I) (e : WireErr) → ReadsRequest old xs new (Err e) → ReadsRequest old (xs ++ ys) new (Err e)
  pub breaks : (old new : Progress) (xs ys : List I) (vs : List V) → ReadsRequest old xs new (Ok vs) → ReadsRequest old ys new (Err NoMemory)

-- whatever may be read of the rest completes what was read
abbrev pub Reaches : (I V : Type 0) (ReadsRequest : Progress → List I → Progress → Result (List V) WireErr → Type 0) → Progress → List I → Progress → ℕ → List V → Type 0
Reaches I V ReadsRequest start items here i found = (new : Progress) (r : Result (List V) WireErr) → ReadsRequest here (drop i items) new r → ReadsRequest start items new (behind found r)

module _ (I V : Type 0) (ReadsRequest : Progress → List I → Progress → Result (List V) WireErr → Type 0) (k : Joins I V ReadsRequest) where
  behind-nil : (r : Result (List V) WireErr) → behind [] r ≡ r
  behind-nil (Ok vs) = refl
  behind-nil (Err e) = refl

  behind-behind : (xs ys : List V) (r : Result (List V) WireErr) → behind (xs ++ ys) r ≡ behind xs (behind ys r)
  behind-behind xs ys (Ok vs) = ap Ok (append_assoc xs ys vs)
  behind-behind xs ys (Err e) = refl

  pub reaches_start : (start : Progress) (items : List I) → Reaches I V ReadsRequest start items start 0 []
  reaches_start start items new r h = subst (ReadsRequest start items new) (sym (behind-nil r)) h

  pub reaches_next : (start here next : Progress) (items : List I) (i : ℕ) (x : I) (v : V) (found found' : List V) → i < length items → x ≡ get_or items i x
      → Reaches I V ReadsRequest start items here i found → ReadsRequest here (x ∷ []) next (Ok (v ∷ [])) → found' ≡ found ++ v ∷ [] → Reaches I V ReadsRequest start items next (i + 1) found'
  reaches_next start here next items i x v found found' short is reach read more new r h =
      let whole : ReadsRequest here (drop i items) new (behind (v ∷ []) r) =
      subst (λ l. ReadsRequest here l new (behind (v ∷ []) r)) (sym (drop-next items i x short is)) (k.joins here next new (x ∷ []) (drop (i + 1) items) (v ∷ []) r read h) in
      subst (ReadsRequest start items new) (sym (behind-behind found (v ∷ []) r) ∙ ap (λ l. behind l r) (sym more)) (reach new (behind (v ∷ []) r) whole)

  pub reaches_failure : (start here new : Progress) (items : List I) (i : ℕ) (x : I) (found : List V) (e : WireErr) → i < length items → x ≡ get_or items i x
      → Reaches I V ReadsRequest start items here i found → ReadsRequest here (x ∷ []) new (Err e) → ReadsRequest start items new (Err e)
  reaches_failure start here new items i x found e short is reach read =
      reach new (Err e) (subst (λ l. ReadsRequest here l new (Err e)) (sym (drop-next items i x short is)) (k.fails here new (x ∷ []) (drop (i + 1) items) e read))

  pub reaches_break : (start here new : Progress) (items : List I) (i : ℕ) (x : I) (v : V) (found : List V)
      → Reaches I V ReadsRequest start items here i found → ReadsRequest here (x ∷ []) new (Ok (v ∷ [])) → ReadsRequest start items new (Err NoMemory)
  reaches_break start here new items i x v found reach read = reach new (Err NoMemory) (k.breaks here new (x ∷ []) (drop i items) (v ∷ []) read)

  pub reaches_end : (start here : Progress) (items : List I) (i : ℕ) (found : List V) → length items ≤ i → Reaches I V ReadsRequest start items here i found → ReadsRequest start items here (Ok found)
  reaches_end start here items i found past reach =
      subst (λ l. ReadsRequest start items here (Ok l)) (append-nil found)
      (reach here (Ok []) (subst (λ l. ReadsRequest here l here (Ok [])) (sym (drop_all i items past)) (k.nothing here)))

-- ---- axioms

axiom_later : (mid new : Progress) → Leads mid new → (sides : Term × Term) (a : Axiom) → IsAxiomAfter mid sides a → IsAxiomAfter new sides a
axiom_later mid new later sides a h q leads sound = h q (Leads-trans mid new q later leads) sound

axioms_join : (old mid new : Progress) (xs ys : List (List ℕ)) (vs : List Axiom) (r : Result (List Axiom) WireErr) → ReadsAxioms old xs mid (Ok vs) → ReadsAxioms mid ys new r → ReadsAxioms old (xs ++ ys) new (behind vs r)
unfolding ReadsAxioms
axioms_join old mid new xs ys vs (Ok ws) h j =
    let trees = h.0 ++ j.0 in (
      trees,
      Each-append SpellsSides xs ys h.0 j.0 h.1 j.1,
      j.2 ∙ ap (λ p. after_texts p (map sides_of j.0)) h.2 ∙ sym (after_texts-append old (map sides_of h.0) (map sides_of j.0)) ∙ ap (after_texts old) (sym (map-append sides_of h.0 j.0)),
      Each-append (IsAxiomAfter new) h.0 j.0 vs ws
          (Each-implies (IsAxiomAfter mid) (IsAxiomAfter new) (axiom_later mid new (Leads-after mid new (map sides_of j.0) j.2)) h.0 vs h.3)
          j.3,
    )
axioms_join old mid new xs ys vs (Err e) h j =
    subst (λ l. Stops old l new e) (sym (map-append implication xs ys))
    (stops_behind old mid new (map implication xs) (map implication ys) (map sides_of h.0) e (pieces_of_axioms xs h.0 h.1) h.2 j)

axioms_fail : (old new : Progress) (xs ys : List (List ℕ)) (e : WireErr) → ReadsAxioms old xs new (Err e) → ReadsAxioms old (xs ++ ys) new (Err e)
unfolding ReadsAxioms
axioms_fail old new xs ys e h = subst (λ l. Stops old l new e) (sym (map-append implication xs ys)) (stops_in_front old new (map implication xs) (map implication ys) e h)

axioms_break : (old new : Progress) (xs ys : List (List ℕ)) (vs : List Axiom) → ReadsAxioms old xs new (Ok vs) → ReadsAxioms old ys new (Err NoMemory)
unfolding ReadsAxioms
axioms_break old new xs ys vs h = record { grows = (Leads-after old new (map sides_of h.0) h.2).grows; fault = tt }

no_axioms : (p : Progress) → ReadsAxioms p [] p (Ok [])
unfolding ReadsAxioms
no_axioms p = ([], tt, refl, tt)

pub axioms_joins : Joins (List ℕ) Axiom ReadsAxioms
axioms_joins = record { nothing = no_axioms; joins = axioms_join; fails = axioms_fail; breaks = axioms_break }

-- ---- rules

rule_pieces-append : (xs ys : List RuleForm) → rule_pieces (xs ++ ys) ≡ rule_pieces xs ++ rule_pieces ys
rule_pieces-append [] ys = refl
rule_pieces-append (x ∷ xs) ys = ap (λ l. concept x.source ∷ concept x.target ∷ l) (rule_pieces-append xs ys)

rule_trees-append : (xs ys : List RuleTree) → rule_trees (xs ++ ys) ≡ rule_trees xs ++ rule_trees ys
rule_trees-append [] ys = refl
rule_trees-append (x ∷ xs) ys = ap (λ (l : List (List Term)). (x.source ∷ []) ∷ (x.target ∷ []) ∷ l) (rule_trees-append xs ys)

module _ (names : List (List ℕ)) where
  rule_later : (mid new : Progress) → Leads mid new → (t : RuleTree) (r : Rule) → IsRuleAfter names mid t r → IsRuleAfter names new t r
  rule_later mid new later t r h q leads sound = h q (Leads-trans mid new q later leads) sound

  rules_join : (old mid new : Progress) (xs ys : List RuleForm) (vs : List Rule) (r : Result (List Rule) WireErr) → ReadsRules names old xs mid (Ok vs) → ReadsRules names mid ys new r → ReadsRules names old (xs ++ ys) new (behind vs r)
  unfolding ReadsRules
  rules_join old mid new xs ys vs (Ok ws) h j =
      let trees = h.0 ++ j.0 in (
        trees,
        Each-append SpellsRule xs ys h.0 j.0 h.1 j.1,
        j.2 ∙ ap (λ p. after_texts p (rule_trees j.0)) h.2 ∙ sym (after_texts-append old (rule_trees h.0) (rule_trees j.0)) ∙ ap (after_texts old) (sym (rule_trees-append h.0 j.0)),
        Each-append (IsRuleAfter names new) h.0 j.0 vs ws
            (Each-implies (IsRuleAfter names mid) (IsRuleAfter names new) (rule_later mid new (Leads-after mid new (rule_trees j.0) j.2)) h.0 vs h.3)
            j.3,
      )
  rules_join old mid new xs ys vs (Err e) h j =
      subst (λ l. Stops old l new e) (sym (rule_pieces-append xs ys))
      (stops_behind old mid new (rule_pieces xs) (rule_pieces ys) (rule_trees h.0) e (pieces_of_rules xs h.0 h.1) h.2 j)

  rules_fail : (old new : Progress) (xs ys : List RuleForm) (e : WireErr) → ReadsRules names old xs new (Err e) → ReadsRules names old (xs ++ ys) new (Err e)
  unfolding ReadsRules
  rules_fail old new xs ys e h = subst (λ l. Stops old l new e) (sym (rule_pieces-append xs ys)) (stops_in_front old new (rule_pieces xs) (rule_pieces ys) e h)

  rules_break : (old new : Progress) (xs ys : List RuleForm) (vs : List Rule) → ReadsRules names old xs new (Ok vs) → ReadsRules names old ys new (Err NoMemory)
  unfolding ReadsRules
  rules_break old new xs ys vs h = record { grows = (Leads-after old new (rule_trees h.0) h.2).grows; fault = tt }

  no_rules : (p : Progress) → ReadsRules names p [] p (Ok [])
  unfolding ReadsRules
  no_rules p = ([], tt, refl, tt)

  pub rules_joins : Joins RuleForm Rule (ReadsRules names)
  rules_joins = record { nothing = no_rules; joins = rules_join; fails = rules_fail; breaks = rules_break }

  -- a rule of two concepts that were read one after the other
  pub rule_is_read : (old mid new : Progress) (form : RuleForm) (c d : Concept) (from : ℕ) → ReadsText old form.source mid (Ok c) → ReadsText mid form.target new (Ok d) → from ≡ source_number names form.from
      → ReadsRules names old (form ∷ []) new (Ok ((record { from = from; source = c; target = d }) ∷ []))
  unfolding ReadsRules ReadsText
  rule_is_read old mid new form c d from h j is =
      let tree : RuleTree = record { from = form.from; source = h.0; target = j.0 } in (
        tree ∷ [],
        (record { from = refl; source = h.1; target = j.1 }, tt),
        j.2 ∙ ap (λ p. after_text p (j.0 ∷ [])) h.2,
        (
          (λ q leads sound.
              let later : Leads mid q = Leads-trans mid new q (Leads-after mid new ((j.0 ∷ []) ∷ []) j.2) leads in
              ap (λ n. made n c d) is ∙ ap (λ x. made (source_number names form.from) x d) (h.3 q later sound)
              ∙ ap (made (source_number names form.from) (concept_of q.symbols h.0)) (j.3 q leads sound)),
          tt,
        ),
      )
    where
      made : ℕ → Concept → Concept → Rule
      made n x y = record { from = n; source = x; target = y }

  pub source_stops : (old new : Progress) (form : RuleForm) (e : WireErr) → ReadsText old form.source new (Err e) → ReadsRules names old (form ∷ []) new (Err e)
  unfolding ReadsRules ReadsText
  source_stops old new form e h = stops_in_front old new (concept form.source ∷ []) (concept form.target ∷ []) e h

  pub target_stops : (old mid new : Progress) (form : RuleForm) (c : Concept) (e : WireErr) → ReadsText old form.source mid (Ok c) → ReadsText mid form.target new (Err e) → ReadsRules names old (form ∷ []) new (Err e)
  unfolding ReadsRules ReadsText
  target_stops old mid new form c e h j =
      stops_behind old mid new (concept form.source ∷ []) (concept form.target ∷ []) ((h.0 ∷ []) ∷ []) e (h.1, tt) h.2 j

-- what holds where nothing failed
pub on_ok : {T E : Type 0} (r : Result T E) (P : Type 0) → is_err r ≡ false → OnOk r P → P
on_ok (Ok x) P e h = h
on_ok (Err x) P e h = let off : true ≡ false = e in cc off
