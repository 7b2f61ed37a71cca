-- From what the readers of texts answer to what the tests of a request find.
use Rattle.std.proofs.Common.{◌≡◌, ℕ, ◌+◌, Bool, true, false, not, List, [], ◌∷◌, ◌++◌, length, map, Option, None, Some, Result, Ok, Err, refl, sym, ap, ◌∙◌, subst, arith}
use Rattle.std.specs.Prelude.{is_some, IfOk, ⊤}
use Rattle.std.specs.Borrow.{Bor}
use Rattle.std.specs.Option.{option_copied}
use Rattle.std.proofs.lemmas.List.{length-map}
use Rattle.serde_json.specs.View.{view}
use Rattle.serde_json.specs.declared.value.Value.{Value}
use Rattle.dd_concept.specs.declared.concept.Concept.{Concept}
use Rattle.dd_concept.specs.declared.concept.Axiom.{Axiom}
use Rattle.dd_peer.specs.declared.version.Query.{Query}
use Rattle.dd_peer.specs.declared.version.Rule.{Rule}
use Rattle.dd_text.specs.Grammar.{Term}
use Rattle.dd_text.specs.Symbols.{SymbolLists, Grows, number_of}
use Rattle.dd_text.specs.Text.{axiom_of, concept_of}
use Rattle.dd_text.proofs.Building.{Grows-refl}
use Rattle.dd_wire.specs.declared.form.RuleForm.{RuleForm}
use Rattle.dd_wire.specs.declared.request.Request.{Request}
use Rattle.dd_wire.specs.declared.request.Request.TheVariants as request
use Rattle.dd_wire.specs.declared.request.WireErr.{WireErr}
use Rattle.dd_wire.specs.declared.request.WireErr.TheVariants.{Code, NoMemory}
use Rattle.dd_wire.specs.Forms.{Written}
use Rattle.dd_wire.specs.Forms as form
use Rattle.dd_wire.specs.Placed.{are_peers, at_peer, placed}
use Rattle.dd_wire.specs.Refusal.{Refusal, Tested, ◌>>=◌, demand, demand_none, refused_at, refused, bad_concept, concept_limit, symbols_full, bad_peers, no_peers, peers_twice}
use Rattle.dd_wire.specs.Texts.{concept, implication, pieces_of, rule_pieces, IsFirstOutside, RuleTree, Parsed, peers, put, ask, check, versions, Each, Parses, sides_of, rule_trees, trees_of, first_large, with_texts, has_room, Parse, parsed, outside, IsParse, Resolved, sized_texts}
use Rattle.dd_wire.specs.Requests.{rule_of_trees, AfterPlace, Tests, ReadsRequest, IsNumberedRequest, declared_names}
use Rattle.dd_wire.specs.Progress.{Progress, progress, no_texts, after_text, after_texts, IsSound, Leads, IsAxiomAfter, IsRuleAfter, Stops, ReadsText, ReadsAxioms, ReadsRules, finished, passed_on, size_test, IsPeer, IsFound, ReadsOn, ReadsQuery, asked, checked}
use Rattle.dd_wire.proofs.Pieces.{Each-implies, Each-length, Each-map, pieces_of_axioms, pieces_of_rules}
use Rattle.dd_wire.proofs.Tallies.{Leads-refl, Leads-trans, after_texts-append, not_passed, passed, texts_after_all}
use Rattle.dd_wire.proofs.Joining.{Leads-after, stops_behind, stops_in_front}

-- ---- the tests of sizes, with and without the request

with_request : Parsed → Tested SymbolLists → Tested Resolved
with_request p (Ok s) = Ok (record { request = p; symbols = s })
with_request p (Err e) = Err e

sized_is : (s : SymbolLists) (p : Parsed) → sized_texts s (parsed p) ≡ with_request p (size_test s (trees_of p))
unfolding with_request size_test
sized_is s p = by_tests (first_large (trees_of p)) (has_room (with_texts s (trees_of p))) (with_texts s (trees_of p))
  where
    by_tests : (o : Option ℕ) (b : Bool) (w : SymbolLists)
        → (demand_none concept_limit o >>= (λ small. demand symbols_full b >>= (λ room. Ok (record { request = p; symbols = w }))))
        ≡ with_request p (demand_none concept_limit o >>= (λ small. demand symbols_full b >>= (λ room. Ok w)))
    by_tests (Some n) b w = refl
    by_tests None true w = refl
    by_tests None false w = refl

sized_ok : (s new : SymbolLists) (p : Parsed) → size_test s (trees_of p) ≡ Ok new → Ok (record { request = p; symbols = new }) ≡ sized_texts s (parsed p)
unfolding with_request
sized_ok s new p e = sym (sized_is s p ∙ ap (with_request p) e)

sized_err : (s : SymbolLists) (p : Parsed) (e : Refusal) → size_test s (trees_of p) ≡ Err e → Err e ≡ sized_texts s (parsed p)
unfolding with_request
sized_err s p r e = sym (sized_is s p ∙ ap (with_request p) e)

refused_size : (p : Parsed) (t : Tested SymbolLists) (e : Refusal) → Err e ≡ with_request p t → t ≡ Err e
unfolding with_request
refused_size p (Ok s) e is = cc is
refused_size p (Err r) e is = let same : e ≡ r = cc is in ap Err (sym same)

same_refusal : (s : SymbolLists) (p q : Parsed) (e : Refusal) → trees_of p ≡ trees_of q → Err e ≡ sized_texts s (parsed p) → Err e ≡ sized_texts s (parsed q)
same_refusal s p q e trees is = sized_err s q e (ap (size_test s) (sym trees) ∙ refused_size p (size_test s (trees_of p)) e (is ∙ sized_is s p))

-- ---- what the tests find

tests_ok : (names : Option (List (List ℕ))) (s new : SymbolLists) (w : Written) (b : Bool) (p : Parsed) → placed names w ≡ Ok b → Parses w p → size_test s (trees_of p) ≡ Ok new → Tests names s w (Ok (record { request = p; symbols = new }))
tests_ok names s new w b p at spelt size =
    subst (λ t. AfterPlace t s w (Ok (record { request = p; symbols = new }))) (sym at) (parsed p, spelt, sized_ok s new p size)

tests_size : (names : Option (List (List ℕ))) (s : SymbolLists) (w : Written) (b : Bool) (p : Parsed) (e : Refusal) → placed names w ≡ Ok b → Parses w p → size_test s (trees_of p) ≡ Err e → Tests names s w (Err e)
tests_size names s w b p e at spelt size = subst (λ t. AfterPlace t s w (Err e)) (sym at) (parsed p, spelt, sized_err s p e size)

tests_place : (names : Option (List (List ℕ))) (s : SymbolLists) (w : Written) (e : Refusal) → placed names w ≡ Err e → Tests names s w (Err e)
tests_place names s w e at = subst (λ t. AfterPlace t s w (Err e)) (sym at) refl

tests_outside : (names : Option (List (List ℕ))) (s : SymbolLists) (w : Written) (b : Bool) (n : ℕ) → placed names w ≡ Ok b → IsFirstOutside (pieces_of w) n → Tests names s w (Err (refused_at bad_concept n))
tests_outside names s w b n at first = subst (λ t. AfterPlace t s w (Err (refused_at bad_concept n))) (sym at) (outside n, first, refl)

-- the refusals, by the error that is told
found_stop : (names : Option (List (List ℕ))) (s : SymbolLists) (w : Written) (b : Bool) (new : Progress) (e : WireErr) → placed names w ≡ Ok b → Stops (progress no_texts s) (pieces_of w) new e → IsFound (Tests names s w) e
found_stop names s w b new NoMemory at h = tt
found_stop names s w b new (Code code n) at h =
    let k = h.fault.0 in
    let number : n ≡ Some k = h.fault.3 ∙ ap Some (let e : 0 + k ≡ k = omega arith in e) in
    subst (λ c. Tests names s w (Err (record { code = c; n = n }))) (sym h.fault.2)
    (subst (λ m. Tests names s w (Err (record { code = bad_concept; n = m }))) (sym number) (tests_outside names s w b k at h.fault.1))

found_size : (names : Option (List (List ℕ))) (s : SymbolLists) (w : Written) (b : Bool) (p : Parsed) (final : Progress) (e : WireErr) → has_room s ≡ true → placed names w ≡ Ok b → Parses w p
    → final ≡ after_texts (progress no_texts s) (trees_of p) → finished final.tally ≡ Err e → IsFound (Tests names s w) e
found_size names s w b p final NoMemory room at spelt is e = tt
found_size names s w b p final (Code code n) room at spelt is e =
    tests_size names s w b p (record { code = code; n = n }) at spelt (not_passed s (trees_of p) final code n room is e)

-- ---- a declared peer

found_peer : (names : Option (List (List ℕ))) (s : SymbolLists) (w : Written) (peer : List ℕ) (e : WireErr) → placed names w ≡ at_peer names peer → IsPeer names peer (Err e) → IsFound (Tests names s w) e
found_peer names s w peer (Code code n) same at = tests_place names s w (record { code = code; n = n }) (same ∙ at)
found_peer names s w peer NoMemory same at = tt

-- ---- queries

module _ (names : Option (List (List ℕ))) (s : SymbolLists) (peer left right : List ℕ) where
  pub query_without_peer : (e : WireErr) → IsPeer names peer (Err e) → ReadsQuery names s peer left right s (Err e)
  unfolding ReadsQuery
  query_without_peer e at = (Grows-refl s, found_peer names s (form.ask peer left right None None) peer e refl at)

  pub left_stops : (new : Progress) (number : ℕ) (e : WireErr) → IsPeer names peer (Ok number) → ReadsText (progress no_texts s) left new (Err e) → ReadsQuery names s peer left right new.symbols (Err e)
  unfolding ReadsQuery ReadsText
  left_stops new number e at h =
      let stop : Stops (progress no_texts s) (concept left ∷ concept right ∷ []) new e = stops_in_front (progress no_texts s) new (concept left ∷ []) (concept right ∷ []) e h in
      (stop.grows, found_stop names s (form.ask peer left right None None) true new e at.0 stop)

  pub right_stops : (mid new : Progress) (number : ℕ) (c : Concept) (e : WireErr) → IsPeer names peer (Ok number) → ReadsText (progress no_texts s) left mid (Ok c) → ReadsText mid right new (Err e) → ReadsQuery names s peer left right new.symbols (Err e)
  unfolding ReadsQuery ReadsText
  right_stops mid new number c e at h k =
      let stop : Stops (progress no_texts s) (concept left ∷ concept right ∷ []) new e = stops_behind (progress no_texts s) mid new (concept left ∷ []) (concept right ∷ []) ((h.0 ∷ []) ∷ []) e (h.1, tt) h.2 k in
      (stop.grows, found_stop names s (form.ask peer left right None None) true new e at.0 stop)

  query_refused : (mid final : Progress) (number : ℕ) (c d : Concept) (e : WireErr) → has_room s ≡ true → IsPeer names peer (Ok number) → ReadsText (progress no_texts s) left mid (Ok c) → ReadsText mid right final (Ok d)
      → finished final.tally ≡ Err e → ReadsQuery names s peer left right final.symbols (Err e)
  unfolding ReadsQuery ReadsText
  query_refused mid final number c d e room at h k is =
      let after : final ≡ after_texts (progress no_texts s) ((h.0 ∷ []) ∷ (k.0 ∷ []) ∷ []) = k.2 ∙ ap (λ p. after_text p (k.0 ∷ [])) h.2 in (
        (Leads-after (progress no_texts s) final ((h.0 ∷ []) ∷ (k.0 ∷ []) ∷ []) after).grows,
        found_size names s (form.ask peer left right None None) true (ask peer h.0 k.0 None None) final e room at.0 (h.0, k.0, h.1, k.1, refl) after is,
      )

  query_is_read : (mid final : Progress) (number : ℕ) (c d : Concept) → has_room s ≡ true → IsPeer names peer (Ok number) → ReadsText (progress no_texts s) left mid (Ok c) → ReadsText mid right final (Ok d)
      → finished final.tally ≡ Ok tt → ReadsQuery names s peer left right final.symbols (Ok (record { peer = number; left = c; right = d }))
  unfolding ReadsQuery ReadsText
  query_is_read mid final number c d room at h k is =
      let trees : List (List Term) = (h.0 ∷ []) ∷ (k.0 ∷ []) ∷ [] in
      let after : final ≡ after_texts (progress no_texts s) trees = k.2 ∙ ap (λ p. after_text p (k.0 ∷ [])) h.2 in
      let end : (size_test s trees ≡ Ok final.symbols) × IsSound final = passed s trees final room after is in
      let later : Leads mid final = Leads-after mid final ((k.0 ∷ []) ∷ []) k.2 in (
        h.0,
        k.0,
        at.0,
        h.1,
        k.1,
        end.0,
        ap (λ n. made n c d) at.1 ∙ ap (λ x. made (number_of (declared_names names) peer) x d) (h.3 final later end.1)
            ∙ ap (made (number_of (declared_names names) peer) (concept_of final.symbols h.0)) (k.3 final (Leads-refl final) end.1),
      )
    where
      made : ℕ → Concept → Concept → Query
      made n x y = record { peer = n; left = x; right = y }

  pub query_ends : (mid final : Progress) (number : ℕ) (c d : Concept) (r : Result Query WireErr) → has_room s ≡ true → IsPeer names peer (Ok number) → ReadsText (progress no_texts s) left mid (Ok c) → ReadsText mid right final (Ok d)
      → r ≡ passed_on (finished final.tally) (record { peer = number; left = c; right = d }) → ReadsQuery names s peer left right final.symbols r
  query_ends mid final number c d r room at h k is = subst (ReadsQuery names s peer left right final.symbols) (sym is) (by_tests (finished final.tally) refl)
    where
      by_tests : (t : Result ⊤ WireErr) → finished final.tally ≡ t → ReadsQuery names s peer left right final.symbols (passed_on t (record { peer = number; left = c; right = d }))
      by_tests (Ok tt) passes = query_is_read mid final number c d room at h k passes
      by_tests (Err e) passes = query_refused mid final number c d e room at h k passes

  -- an ask and a check are refused as the ask without budgets is
  as_ask : (t : Tested Bool) (x v : Option ℕ) (e : Refusal) → AfterPlace t s (form.ask peer left right None None) (Err e) → AfterPlace t s (form.ask peer left right x v) (Err e)
  as_ask (Err r) x v e h = h
  as_ask (Ok b) x v e h = by_parse h.0 h.1 h.2
    where
      by_parse : (texts : Parse) → IsParse (form.ask peer left right None None) texts → Err e ≡ sized_texts s texts → (texts : Parse) × IsParse (form.ask peer left right x v) texts × (Err e ≡ sized_texts s texts)
      by_parse (outside n) first is = (outside n, first, is)
      by_parse (parsed p) k is = (parsed (ask peer k.0 k.1 x v), (k.0, k.1, k.2, k.3, refl), same_refusal s p (ask peer k.0 k.1 x v) e (ap trees_of k.4) is)

  as_check : (t : Tested Bool) (pin : List ℕ) (cert : _) (e : Refusal) → AfterPlace t s (form.ask peer left right None None) (Err e) → AfterPlace t s (form.check peer left right pin cert) (Err e)
  as_check (Err r) pin cert e h = h
  as_check (Ok b) pin cert e h = by_parse h.0 h.1 h.2
    where
      by_parse : (texts : Parse) → IsParse (form.ask peer left right None None) texts → Err e ≡ sized_texts s texts → (texts : Parse) × IsParse (form.check peer left right pin cert) texts × (Err e ≡ sized_texts s texts)
      by_parse (outside n) first is = (outside n, first, is)
      by_parse (parsed p) k is = (parsed (check peer k.0 k.1 pin cert), (k.0, k.1, k.2, k.3, refl), same_refusal s p (check peer k.0 k.1 pin cert) e (ap trees_of k.4) is)

  found_ask : (x v : Option ℕ) (e : WireErr) → IsFound (Tests names s (form.ask peer left right None None)) e → IsFound (Tests names s (form.ask peer left right x v)) e
  found_ask x v (Code code n) h = as_ask (at_peer names peer) x v (record { code = code; n = n }) h
  found_ask x v NoMemory h = tt

  found_check : (pin : List ℕ) (cert : _) (e : WireErr) → IsFound (Tests names s (form.ask peer left right None None)) e → IsFound (Tests names s (form.check peer left right pin cert)) e
  found_check pin cert (Code code n) h = as_check (at_peer names peer) pin cert (record { code = code; n = n }) h
  found_check pin cert NoMemory h = tt

  pub ask_refused : (new : SymbolLists) (x v : Option ℕ) (e : WireErr) → ReadsQuery names s peer left right new (Err e) → ReadsOn (Tests names s (form.ask peer left right x v)) (declared_names names) s new (Err e)
  unfolding ReadsQuery ReadsOn
  ask_refused new x v e h = (h.0, found_ask x v e h.1)

  pub check_refused : (new : SymbolLists) (pin : List ℕ) (cert : Value) (e : WireErr) → ReadsQuery names s peer left right new (Err e) → ReadsOn (Tests names s (form.check peer left right pin (view cert))) (declared_names names) s new (Err e)
  unfolding ReadsQuery ReadsOn
  check_refused new pin cert e h = (h.0, found_check pin (view cert) e h.1)

  pub ask_is_read : (new : SymbolLists) (x v : Option ℕ) (q : Query) → ReadsQuery names s peer left right new (Ok q) → ReadsOn (Tests names s (form.ask peer left right x v)) (declared_names names) s new (Ok (request.Ask q x v))
  unfolding ReadsQuery ReadsOn
  ask_is_read new x v q h =
      let p : Parsed = ask peer h.0 h.1 x v in
      (p, tests_ok names s new (form.ask peer left right x v) true p h.2 (h.0, h.1, h.3, h.4, refl) h.5, ap (λ z. request.Ask z x v) h.6)

  pub check_is_read : (new : SymbolLists) (pin : List ℕ) (cert : Value) (q : Query) → ReadsQuery names s peer left right new (Ok q)
      → ReadsOn (Tests names s (form.check peer left right pin (view cert))) (declared_names names) s new (Ok (request.Check q (record { versions = pin }) cert))
  unfolding ReadsQuery ReadsOn
  check_is_read new pin cert q h =
      let p : Parsed = check peer h.0 h.1 pin (view cert) in
      (p, tests_ok names s new (form.check peer left right pin (view cert)) true p h.2 (h.0, h.1, h.3, h.4, refl) h.5, (cert, refl, ap (λ z. request.Check z (record { versions = pin }) cert) h.6))

-- ---- puts

three_after : (start first second final : Progress) (xs ys zs : List (List Term)) → first ≡ after_texts start xs → second ≡ after_texts first ys → final ≡ after_texts second zs → final ≡ after_texts start (xs ++ (ys ++ zs))
three_after start first second final xs ys zs hx hy hz =
    hz ∙ ap (λ p. after_texts p zs) hy ∙ sym (after_texts-append first ys zs) ∙ ap (λ p. after_texts p (ys ++ zs)) hx ∙ sym (after_texts-append start xs (ys ++ zs))

module _ (names : Option (List (List ℕ))) (s : SymbolLists) (peer : List ℕ) (axioms : List (List ℕ)) (into onto : List RuleForm) where
  pub put_without_peer : (e : WireErr) → IsPeer names peer (Err e) → ReadsOn (Tests names s (form.put peer axioms into onto)) (declared_names names) s s (Err e)
  unfolding ReadsOn
  put_without_peer e at = (Grows-refl s, found_peer names s (form.put peer axioms into onto) peer e refl at)

  put_stops : (new : Progress) (number : ℕ) (e : WireErr) → IsPeer names peer (Ok number) → Stops (progress no_texts s) (map implication axioms ++ (rule_pieces into ++ rule_pieces onto)) new e → ReadsOn (Tests names s (form.put peer axioms into onto)) (declared_names names) s new.symbols (Err e)
  unfolding ReadsOn
  put_stops new number e at stop = (stop.grows, found_stop names s (form.put peer axioms into onto) true new e at.0 stop)

  pub axioms_stop : (new : Progress) (number : ℕ) (e : WireErr) → IsPeer names peer (Ok number) → ReadsAxioms (progress no_texts s) axioms new (Err e) → ReadsOn (Tests names s (form.put peer axioms into onto)) (declared_names names) s new.symbols (Err e)
  unfolding ReadsAxioms
  axioms_stop new number e at h = put_stops new number e at (stops_in_front (progress no_texts s) new (map implication axioms) (rule_pieces into ++ rule_pieces onto) e h)

  pub into_stops : (mid new : Progress) (number : ℕ) (as' : List Axiom) (e : WireErr) → IsPeer names peer (Ok number) → ReadsAxioms (progress no_texts s) axioms mid (Ok as') → ReadsRules (declared_names names) mid into new (Err e)
      → ReadsOn (Tests names s (form.put peer axioms into onto)) (declared_names names) s new.symbols (Err e)
  unfolding ReadsAxioms ReadsRules
  into_stops mid new number as' e at h k =
      put_stops new number e at
      (stops_behind (progress no_texts s) mid new (map implication axioms) (rule_pieces into ++ rule_pieces onto) (map sides_of h.0) e (pieces_of_axioms axioms h.0 h.1) h.2
      (stops_in_front mid new (rule_pieces into) (rule_pieces onto) e k))

  pub onto_stops : (mid later new : Progress) (number : ℕ) (as' : List Axiom) (is' : List Rule) (e : WireErr) → IsPeer names peer (Ok number) → ReadsAxioms (progress no_texts s) axioms mid (Ok as') → ReadsRules (declared_names names) mid into later (Ok is')
      → ReadsRules (declared_names names) later onto new (Err e) → ReadsOn (Tests names s (form.put peer axioms into onto)) (declared_names names) s new.symbols (Err e)
  unfolding ReadsAxioms ReadsRules
  onto_stops mid later new number as' is' e at h k j =
      put_stops new number e at
      (stops_behind (progress no_texts s) mid new (map implication axioms) (rule_pieces into ++ rule_pieces onto) (map sides_of h.0) e (pieces_of_axioms axioms h.0 h.1) h.2
      (stops_behind mid later new (rule_pieces into) (rule_pieces onto) (rule_trees k.0) e (pieces_of_rules into k.0 k.1) k.2 j))

  module _ (mid later final : Progress) (number : ℕ) (as' : List Axiom) (is' os : List Rule) where
    pub put_refused : (e : WireErr) → has_room s ≡ true → IsPeer names peer (Ok number) → ReadsAxioms (progress no_texts s) axioms mid (Ok as') → ReadsRules (declared_names names) mid into later (Ok is')
        → ReadsRules (declared_names names) later onto final (Ok os) → finished final.tally ≡ Err e → ReadsOn (Tests names s (form.put peer axioms into onto)) (declared_names names) s final.symbols (Err e)
    unfolding ReadsAxioms ReadsRules ReadsOn
    put_refused e room at h k j is =
        let trees : List (List Term) = map sides_of h.0 ++ (rule_trees k.0 ++ rule_trees j.0) in
        let after : final ≡ after_texts (progress no_texts s) trees = three_after (progress no_texts s) mid later final (map sides_of h.0) (rule_trees k.0) (rule_trees j.0) h.2 k.2 j.2 in (
          (Leads-after (progress no_texts s) final trees after).grows,
          found_size names s (form.put peer axioms into onto) true (put peer h.0 k.0 j.0) final e room at.0 (h.0, k.0, j.0, h.1, k.1, j.1, refl) after is,
        )

    pub put_is_read : has_room s ≡ true → IsPeer names peer (Ok number) → ReadsAxioms (progress no_texts s) axioms mid (Ok as') → ReadsRules (declared_names names) mid into later (Ok is')
        → ReadsRules (declared_names names) later onto final (Ok os) → finished final.tally ≡ Ok tt
        → ReadsOn (Tests names s (form.put peer axioms into onto)) (declared_names names) s final.symbols (Ok (request.Put number (record { axioms = as'; into = is'; onto = os })))
    unfolding ReadsAxioms ReadsRules ReadsOn
    put_is_read room at h k j is =
        let trees : List (List Term) = map sides_of h.0 ++ (rule_trees k.0 ++ rule_trees j.0) in
        let after : final ≡ after_texts (progress no_texts s) trees = three_after (progress no_texts s) mid later final (map sides_of h.0) (rule_trees k.0) (rule_trees j.0) h.2 k.2 j.2 in
        let end : (size_test s trees ≡ Ok final.symbols) × IsSound final = passed s trees final room after is in
        let second : Leads later final = Leads-after later final (rule_trees j.0) j.2 in
        let first : Leads mid final = Leads-trans mid later final (Leads-after mid later (rule_trees k.0) k.2) second in
        let axioms_are : as' ≡ map (λ (sides : Term × Term). axiom_of final.symbols sides.0 sides.1) h.0 =
        Each-map (λ (sides : Term × Term). axiom_of final.symbols sides.0 sides.1) h.0 as'
        (Each-implies (IsAxiomAfter mid) (λ sides a. a ≡ axiom_of final.symbols sides.0 sides.1) (λ sides a is_after. is_after final first end.1) h.0 as' h.3) in
        let into_are : is' ≡ map (rule_of_trees (declared_names names) final.symbols) k.0 = rules_are later second k.0 is' k.3 end.1 in
        let onto_are : os ≡ map (rule_of_trees (declared_names names) final.symbols) j.0 = rules_are final (Leads-refl final) j.0 os j.3 end.1 in (
          put peer h.0 k.0 j.0,
          tests_ok names s final.symbols (form.put peer axioms into onto) true (put peer h.0 k.0 j.0) at.0 (h.0, k.0, j.0, h.1, k.1, j.1, refl) end.0,
          ap (λ n. made n as' is' os) at.1 ∙ ap (λ xs. made (number_of (declared_names names) peer) xs is' os) axioms_are
              ∙ ap (λ xs. made (number_of (declared_names names) peer) (map (λ (sides : Term × Term). axiom_of final.symbols sides.0 sides.1) h.0) xs os) into_are
              ∙ ap (λ xs. made (number_of (declared_names names) peer) (map (λ (sides : Term × Term). axiom_of final.symbols sides.0 sides.1) h.0) (map (rule_of_trees (declared_names names) final.symbols) k.0) xs) onto_are,
        )
      where
        made : ℕ → List Axiom → List Rule → List Rule → Request
        made n xs ys zs = request.Put n (record { axioms = xs; into = ys; onto = zs })

        rules_are : (p : Progress) → Leads p final → (trees : List RuleTree) (rules : List Rule) → Each (IsRuleAfter (declared_names names) p) trees rules → IsSound final → rules ≡ map (rule_of_trees (declared_names names) final.symbols) trees
        rules_are p leads trees rules each sound =
            Each-map (rule_of_trees (declared_names names) final.symbols) trees rules
            (Each-implies (IsRuleAfter (declared_names names) p) (λ t r. r ≡ rule_of_trees (declared_names names) final.symbols t) (λ t r is_after. is_after final leads sound) trees rules each)

-- each text is counted
pub axioms_counted : (old new : Progress) (texts : List (List ℕ)) (vs : List Axiom) → ReadsAxioms old texts new (Ok vs) → new.tally.texts ≡ old.tally.texts + length vs
unfolding ReadsAxioms
axioms_counted old new texts vs h =
    omega (arith, ap (λ (p : Progress). p.tally.texts) h.2, texts_after_all old (map sides_of h.0), length-map h.0 sides_of, Each-length (IsAxiomAfter new) h.0 vs h.3)

two_for_each : (trees : List RuleTree) → length (rule_trees trees) ≡ length trees + length trees
two_for_each [] = omega arith
two_for_each (t ∷ trees) = omega (arith, two_for_each trees)

pub rules_counted : (names : List (List ℕ)) (old new : Progress) (forms : List RuleForm) (vs : List Rule) → ReadsRules names old forms new (Ok vs) → new.tally.texts ≡ old.tally.texts + (length vs + length vs)
unfolding ReadsRules
rules_counted names old new forms vs h =
    omega (arith, ap (λ (p : Progress). p.tally.texts) h.2, texts_after_all old (rule_trees h.0), two_for_each h.0, Each-length (IsRuleAfter names new) h.0 vs h.3)

-- ---- requests without texts

nothing_read : (s : SymbolLists) → has_room s ≡ true → size_test s [] ≡ Ok s
unfolding size_test
nothing_read s room = ap (λ b. demand symbols_full b >>= (λ room'. Ok s)) room

module _ (names : Option (List (List ℕ))) (s : SymbolLists) where
  refused_on : (w : Written) (code : ℕ) → placed names w ≡ Err (refused code) → ReadsOn (Tests names s w) (declared_names names) s s (Err (Code code None))
  unfolding ReadsOn
  refused_on w code at = (Grows-refl s, tests_place names s w (refused code) at)

  pub peers_twice_is_told : (ns : List (List ℕ)) → is_some names ≡ true → ReadsOn (Tests names s (form.peers ns)) (declared_names names) s s (Err (Code peers_twice None))
  peers_twice_is_told ns there = refused_on (form.peers ns) peers_twice (ap (λ b. demand peers_twice (not b) >>= (λ first. demand bad_peers (are_peers ns))) there)

  pub bad_peers_is_told : (ns : List (List ℕ)) → is_some names ≡ false → are_peers ns ≡ false → ReadsOn (Tests names s (form.peers ns)) (declared_names names) s s (Err (Code bad_peers None))
  bad_peers_is_told ns there bad =
      refused_on (form.peers ns) bad_peers
      (ap (λ b. demand peers_twice (not b) >>= (λ first. demand bad_peers (are_peers ns))) there ∙ ap (demand bad_peers) bad)

  pub peers_are_read : (ns : List (List ℕ)) → has_room s ≡ true → is_some names ≡ false → are_peers ns ≡ true → ReadsOn (Tests names s (form.peers ns)) (declared_names names) s s (Ok (request.Peers ns))
  unfolding ReadsOn
  peers_are_read ns room there good = (
    peers ns,
    tests_ok names s s (form.peers ns) true (peers ns) (ap (λ b. demand peers_twice (not b) >>= (λ first. demand bad_peers (are_peers ns))) there ∙ ap (demand bad_peers) good) refl (nothing_read s room),
    refl,
  )

  pub no_peers_is_told : is_some names ≡ false → ReadsOn (Tests names s form.versions) (declared_names names) s s (Err (Code no_peers None))
  no_peers_is_told there = refused_on form.versions no_peers (ap (demand no_peers) there)

  pub versions_are_read : has_room s ≡ true → is_some names ≡ true → ReadsOn (Tests names s form.versions) (declared_names names) s s (Ok request.Versions)
  unfolding ReadsOn
  versions_are_read room there = (versions, tests_ok names s s form.versions true versions (ap (demand no_peers) there) refl (nothing_read s room), refl)

-- ---- the symbols after a refusal

pub Reads-from_ReadsOn : (Finds : Tested Resolved → Type 0) (names : List (List ℕ)) (old new : SymbolLists) (r : Request) → ReadsOn Finds names old new (Ok r) → ReadsRequest Finds names old new (Ok r)
unfolding ReadsOn
Reads-from_ReadsOn Finds names old new r h = h

pub grown : (Finds : Tested Resolved → Type 0) (names : List (List ℕ)) (old new : SymbolLists) (e : WireErr) → ReadsOn Finds names old new (Err e) → Grows old new
unfolding ReadsOn
grown Finds names old new e h = h.0

pub Reads-refusal : (Finds : Tested Resolved → Type 0) (names : List (List ℕ)) (old new cut : SymbolLists) (e : WireErr) → ReadsOn Finds names old new (Err e) → cut ≡ old → ReadsRequest Finds names old cut (Err e)
unfolding ReadsOn
Reads-refusal Finds names old new cut (Code code n) h same = (same, h.1)
Reads-refusal Finds names old new cut NoMemory h same = same

-- there are names behind a reference exactly where there is the reference
pub is_some-copied : {A : Type 0} (o : Option (Bor A)) → is_some (option_copied o) ≡ is_some o
is_some-copied None = refl
is_some-copied (Some x) = refl

-- ---- the request of a form, by the answer of its query

pub ask_answers : (names : Option (List (List ℕ))) (s new : SymbolLists) (peer left right : List ℕ) (x v : Option ℕ) (q : Result Query WireErr) (w : Written) (r : Result Request WireErr)
    → w ≡ form.ask peer left right x v → r ≡ asked q x v → ReadsQuery names s peer left right new q → ReadsOn (Tests names s w) (declared_names names) s new r
ask_answers names s new peer left right x v (Ok q) w r is answer h =
    subst (λ z. ReadsOn (Tests names s z) (declared_names names) s new r) (sym is)
    (subst (ReadsOn (Tests names s (form.ask peer left right x v)) (declared_names names) s new) (sym answer) (ask_is_read names s peer left right new x v q h))
ask_answers names s new peer left right x v (Err e) w r is answer h =
    subst (λ z. ReadsOn (Tests names s z) (declared_names names) s new r) (sym is)
    (subst (ReadsOn (Tests names s (form.ask peer left right x v)) (declared_names names) s new) (sym answer) (ask_refused names s peer left right new x v e h))

pub check_answers : (names : Option (List (List ℕ))) (s new : SymbolLists) (peer left right pin : List ℕ) (cert : Value) (q : Result Query WireErr) (w : Written) (r : Result Request WireErr)
    → w ≡ form.check peer left right pin (view cert) → r ≡ checked q pin cert → ReadsQuery names s peer left right new q → ReadsOn (Tests names s w) (declared_names names) s new r
check_answers names s new peer left right pin cert (Ok q) w r is answer h =
    subst (λ z. ReadsOn (Tests names s z) (declared_names names) s new r) (sym is)
    (subst (ReadsOn (Tests names s (form.check peer left right pin (view cert))) (declared_names names) s new) (sym answer) (check_is_read names s peer left right new pin cert q h))
check_answers names s new peer left right pin cert (Err e) w r is answer h =
    subst (λ z. ReadsOn (Tests names s z) (declared_names names) s new r) (sym is)
    (subst (ReadsOn (Tests names s (form.check peer left right pin (view cert))) (declared_names names) s new) (sym answer) (check_refused names s peer left right new pin cert e h))

-- a query's request has no lists that are numbered
pub ask_numbered : (q : Result Query WireErr) (x v : Option ℕ) (r : Result Request WireErr) → r ≡ asked q x v → IfOk r IsNumberedRequest
ask_numbered (Ok q) x v r is = subst (λ z. IfOk z IsNumberedRequest) (sym is) tt
ask_numbered (Err e) x v r is = subst (λ z. IfOk z IsNumberedRequest) (sym is) tt

pub check_numbered : (q : Result Query WireErr) (pin : List ℕ) (cert : Value) (r : Result Request WireErr) → r ≡ checked q pin cert → IfOk r IsNumberedRequest
check_numbered (Ok q) pin cert r is = subst (λ z. IfOk z IsNumberedRequest) (sym is) tt
check_numbered (Err e) pin cert r is = subst (λ z. IfOk z IsNumberedRequest) (sym is) tt

-- what is read of a form is read of what it says
pub of_form : (names : Option (List (List ℕ))) (s new : SymbolLists) (w said : Written) (r : Result Request WireErr) → said ≡ w → ReadsOn (Tests names s w) (declared_names names) s new r → ReadsOn (Tests names s said) (declared_names names) s new r
of_form names s new w said r is h = subst (λ z. ReadsOn (Tests names s z) (declared_names names) s new r) (sym is) h
