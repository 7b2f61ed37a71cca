-- What the tests of a form found where they found a request, and that its concepts are written with the symbols then.
use Rattle.std.proofs.Common.{◌≡◌, ◌+◌, ◌≤◌, cond, ℕ, List, [], ◌∷◌, ◌++◌, map, Bool, true, false, not, refl, ap, sym, ◌∙◌, subst, Option, None, Some, Result, Ok, Err}
use Rattle.std.proofs.lemmas.List.Elements.{All-append, All-cons, All-head, All-nil, All-tail}
use Rattle.std.specs.Prelude.{All, flat_map, nat_le}
use Rattle.std.specs.List.{position_from}
use Rattle.std.proofs.lemmas.Iterator.Adapters.{position_from-zero}
use Rattle.std.proofs.lemmas.Bool.{and_parts, leb-true}
use Rattle.dd_concept.specs.declared.concept.Concept.{Concept}
use Rattle.dd_concept.specs.Sizes.{most_nodes, most_depth}
use Rattle.dd_peer.specs.declared.version.Rule.{Rule}
use Rattle.dd_text.specs.Grammar.{Term, term_nodes, term_depth}
use Rattle.dd_text.specs.Symbols.{SymbolLists, Grows}
use Rattle.dd_text.specs.Text.{axiom_of, concept_of, names_in, roles_in, with_term}
use Rattle.dd_text.proofs.Building.{Grows-refl, Grows-trans, Grows-with_term}
use Rattle.dd_text.proofs.Numbering.{has_text-Appends}
use Rattle.dd_text.proofs.Restoring.{AreIn, names-with_term, roles-with_term}
use Rattle.dd_text.proofs.RoundTrip.{depth_of-concept_of, has_symbols-concept_of, node_count-concept_of}
use Rattle.dd_wire.specs.Forms.{Written}
use Rattle.dd_wire.specs.Placed.{placed}
use Rattle.dd_wire.specs.Refusal.{Refusal, Tested, ◌>>=◌, demand, demand_none, concept_limit, symbols_full}
use Rattle.dd_wire.specs.Requests.{AfterPlace, Tests, IsRequest, IsWritten, IsWrittenRequest, ReadsRequest, concepts_of, declared_names, query_of, rule_of_trees, sides_by, sides_in, version_of}
use Rattle.dd_wire.specs.Texts.{Parse, Parsed, Parses, IsParse, Resolved, RuleTree, are_small, ask, check, first_large, has_room, is_small, outside, parsed, peers, put, rule_trees, sides_of, sized_texts, trees_of, versions, with_terms, with_texts}
use Rattle.dd_wire.specs.declared.request.Request.{Request}
use Rattle.dd_wire.specs.declared.request.WireErr.{WireErr}

-- ---- what the tests found

-- the tests of a form found this request and these symbols
pub record Resolves (names : Option (List (List ℕ))) (old : SymbolLists) (w : Written) (p : Parsed) (y : SymbolLists) : Type 0 where
  pub place : Bool
  pub placed_is : placed names w ≡ Ok place
  pub parses : Parses w p
  pub small : first_large (trees_of p) ≡ None
  pub symbols : y ≡ with_texts old (trees_of p)

module _ (names : Option (List (List ℕ))) (old : SymbolLists) (w : Written) (p : Parsed) (y : SymbolLists) where
  failed : {e : Refusal} → (let t : Tested Resolved = Ok (record { request = p; symbols = y }) in t) ≡ Err e → ⊥
  failed e = cc e

  -- the tests of texts, by what they find
  sizes : Parsed → Option ℕ → Bool → Tested Resolved
  sizes q large room = demand_none concept_limit large >>= (λ small. demand symbols_full room >>= (λ enough. Ok (record { request = q; symbols = with_texts old (trees_of q) })))

  sized : (q : Parsed) (large : Option ℕ) (room : Bool) → Ok (record { request = p; symbols = y }) ≡ sizes q large room → (p ≡ q) × (y ≡ with_texts old (trees_of q)) × (large ≡ None)
  unfolding sizes
  sized q None true e = let parts = both e in (parts.0, parts.1, refl)
    where
      both : Ok (record { request = p; symbols = y }) ≡ (let t : Tested Resolved = Ok (record { request = q; symbols = with_texts old (trees_of q) }) in t) → (p ≡ q) × (y ≡ with_texts old (trees_of q))
      both e = let whole = inside e in (ap (λ (r : Resolved). r.request) whole, ap (λ (r : Resolved). r.symbols) whole)
        where
          one : Parsed → SymbolLists → Resolved
          one a b = record { request = a; symbols = b }

          inside : Ok (record { request = p; symbols = y }) ≡ (let t : Tested Resolved = Ok (record { request = q; symbols = with_texts old (trees_of q) }) in t) → one p y ≡ one q (with_texts old (trees_of q))
          inside e = cc e
  sized q None false e = absurd (failed e)
  sized q (Some n) room e = absurd (failed e)

  by_parse : (place : Bool) → placed names w ≡ Ok place → (texts : Parse) → IsParse w texts → Ok (record { request = p; symbols = y }) ≡ sized_texts old texts → Resolves names old w p y
  unfolding sizes
  by_parse place is (outside n) parse e = absurd (failed e)
  by_parse place is (parsed q) parse e =
      let both = sized q (first_large (trees_of q)) (has_room (with_texts old (trees_of q))) e in
      let same : p ≡ q = both.0 in
      record {
        place = place;
        placed_is = is;
        parses = subst (Parses w) (sym same) parse;
        small = ap (λ (r : Parsed). first_large (trees_of r)) same ∙ both.2;
        symbols = both.1 ∙ ap (λ (r : Parsed). with_texts old (trees_of r)) (sym same);
      }

  pub resolves : Tests names old w (Ok (record { request = p; symbols = y })) → Resolves names old w p y
  resolves h = by_place (placed names w) refl h
    where
      by_place : (t : Tested Bool) → placed names w ≡ t → AfterPlace t old w (Ok (record { request = p; symbols = y })) → Resolves names old w p y
      by_place (Err e) is after = absurd (failed after)
      by_place (Ok place) is after = by_parse place is after.0 after.1 after.2

-- ---- symbols grow

grows_terms : (s : SymbolLists) (ts : List Term) → Grows s (with_terms s ts)
grows_terms s [] = Grows-refl s
grows_terms s (t ∷ ts) = Grows-trans s (with_term s t) (with_terms (with_term s t) ts) (Grows-with_term s t) (grows_terms (with_term s t) ts)

pub grows_texts : (s : SymbolLists) (texts : List (List Term)) → Grows s (with_texts s texts)
grows_texts s [] = Grows-refl s
grows_texts s (ts ∷ texts) = Grows-trans s (with_terms s ts) (with_texts (with_terms s ts) texts) (grows_terms s ts) (grows_texts (with_terms s ts) texts)

-- ---- the trees are written with the symbols

-- the names and the roles of the tree are among the symbols
record IsThere (s : SymbolLists) (t : Term) : Type 0 where
  pub names : AreIn (names_in t) s.names
  pub roles : AreIn (roles_in t) s.roles

there_later : (s u : SymbolLists) → Grows s u → (t : Term) → IsThere s t → IsThere u t
there_later s u g t h = record {
  names = λ w is. has_text-Appends s.names u.names w g.names (h.names w is);
  roles = λ w is. has_text-Appends s.roles u.roles w g.roles (h.roles w is);
}

terms_there : (s : SymbolLists) (ts : List Term) → All (IsThere (with_terms s ts)) ts
terms_there s [] = All-nil (IsThere s)
terms_there s (t ∷ ts) =
    All-cons (IsThere (with_terms (with_term s t) ts)) t ts
    (there_later (with_term s t) (with_terms (with_term s t) ts) (grows_terms (with_term s t) ts) t (record { names = names-with_term s t; roles = roles-with_term s t }))
    (terms_there (with_term s t) ts)

-- every tree of the texts is there, and none is too large
record IsFine (s : SymbolLists) (ts : List Term) : Type 0 where
  pub there : All (IsThere s) ts
  pub small : are_small ts ≡ true

all_later : (s u : SymbolLists) → Grows s u → (ts : List Term) → All (IsThere s) ts → All (IsThere u) ts
all_later s u g [] h = All-nil (IsThere u)
all_later s u g (t ∷ ts) h = All-cons (IsThere u) t ts (there_later s u g t (All-head (IsThere s) t ts h)) (all_later s u g ts (All-tail (IsThere s) t ts h))

by_size : (b : Bool) (n : ℕ) (rest : Option ℕ) → cond (not b) (Some n) rest ≡ None → (b ≡ true) × (rest ≡ None)
by_size true n rest e = (refl, e)
by_size false n rest e = absurd (some e)
  where
    some : Some n ≡ None → ⊥
    some e = cc e

fine_from : (s : SymbolLists) (n : ℕ) (texts : List (List Term)) → position_from (λ ts. not (are_small ts)) n texts ≡ None → All (IsFine (with_texts s texts)) texts
fine_from s n [] e = All-nil (IsFine s)
fine_from s n (ts ∷ texts) e =
    let both = by_size (are_small ts) n (position_from (λ us. not (are_small us)) (n + 1) texts) e in
    All-cons (IsFine (with_texts (with_terms s ts) texts)) ts texts
    (record { there = all_later (with_terms s ts) (with_texts (with_terms s ts) texts) (grows_texts (with_terms s ts) texts) ts (terms_there s ts); small = both.0 })
    (fine_from (with_terms s ts) (n + 1) texts both.1)

texts_fine : (s : SymbolLists) (texts : List (List Term)) → first_large texts ≡ None → All (IsFine (with_texts s texts)) texts
texts_fine s texts e = fine_from s 0 texts (sym (position_from-zero (λ ts. not (are_small ts)) texts) ∙ e)

-- ---- the concepts that they are

written_tree : (s : SymbolLists) (t : Term) → IsThere s t → is_small t ≡ true → IsWritten s (concept_of s t)
written_tree s t h small =
    let both = and_parts (nat_le (term_nodes t) most_nodes) (nat_le (term_depth t) most_depth) small in
    record {
      named = has_symbols-concept_of s t h.names h.roles;
      small = record {
        nodes = subst (λ (n : ℕ). n ≤ most_nodes) (sym (node_count-concept_of s t)) (leb-true (term_nodes t) most_nodes both.0);
        depth = subst (λ (n : ℕ). n ≤ most_depth) (sym (depth_of-concept_of s t)) (leb-true (term_depth t) most_depth both.1);
      };
    }

written_one : (s : SymbolLists) (t : Term) → IsFine s (t ∷ []) → IsWritten s (concept_of s t)
written_one s t h = written_tree s t (All-head (IsThere s) t [] h.there) (and_parts (is_small t) true h.small).0

module _ (s : SymbolLists) where
  two : (c d : Concept) → IsWritten s c → IsWritten s d → All (IsWritten s) (c ∷ d ∷ [])
  two c d h k = All-cons (IsWritten s) c (d ∷ []) h (All-cons (IsWritten s) d [] k (All-nil (IsWritten s)))

  written_sides : (l r : Term) → IsFine s (l ∷ r ∷ []) → All (IsWritten s) (concept_of s l ∷ concept_of s r ∷ [])
  written_sides l r h =
      let small = and_parts (is_small l) (are_small (r ∷ [])) h.small in
      two (concept_of s l) (concept_of s r)
      (written_tree s l (All-head (IsThere s) l (r ∷ []) h.there) small.0)
      (written_tree s r (All-head (IsThere s) r [] (All-tail (IsThere s) l (r ∷ []) h.there)) (and_parts (is_small r) true small.1).0)

  -- the rest of a list of texts
  front : (xs ys : List (List Term)) → All (IsFine s) (xs ++ ys) → All (IsFine s) xs
  front [] ys h = All-nil (IsFine s)
  front (x ∷ xs) ys h = All-cons (IsFine s) x xs (All-head (IsFine s) x (xs ++ ys) h) (front xs ys (All-tail (IsFine s) x (xs ++ ys) h))

  behind : (xs ys : List (List Term)) → All (IsFine s) (xs ++ ys) → All (IsFine s) ys
  behind [] ys h = h
  behind (x ∷ xs) ys h = behind xs ys (All-tail (IsFine s) x (xs ++ ys) h)

  written_axioms : (trees : List (Term × Term)) → All (IsFine s) (map sides_of trees) → All (IsWritten s) (flat_map sides_in (map (λ (sides : Term × Term). axiom_of s sides.0 sides.1) trees))
  written_axioms [] h = All-nil (IsWritten s)
  written_axioms (t ∷ ts) h =
      All-append (IsWritten s) (concept_of s t.0 ∷ concept_of s t.1 ∷ []) (flat_map sides_in (map (λ (sides : Term × Term). axiom_of s sides.0 sides.1) ts))
      (written_sides t.0 t.1 (All-head (IsFine s) (sides_of t) (map sides_of ts) h))
      (written_axioms ts (All-tail (IsFine s) (sides_of t) (map sides_of ts) h))

  written_rules : (names : List (List ℕ)) (trees : List RuleTree) → All (IsFine s) (rule_trees trees) → All (IsWritten s) (flat_map sides_by (map (rule_of_trees names s) trees))
  written_rules names [] h = All-nil (IsWritten s)
  written_rules names (t ∷ ts) h =
      let tail = All-tail (IsFine s) (t.source ∷ []) ((t.target ∷ []) ∷ rule_trees ts) h in
      All-append (IsWritten s) (concept_of s t.source ∷ concept_of s t.target ∷ []) (flat_map sides_by (map (rule_of_trees names s) ts))
      (two (concept_of s t.source) (concept_of s t.target) (written_one s t.source (All-head (IsFine s) (t.source ∷ []) ((t.target ∷ []) ∷ rule_trees ts) h))
      (written_one s t.target (All-head (IsFine s) (t.target ∷ []) (rule_trees ts) tail)))
      (written_rules names ts (All-tail (IsFine s) (t.target ∷ []) (rule_trees ts) tail))

  flat-append : (xs ys : List Rule) → flat_map sides_by (xs ++ ys) ≡ flat_map sides_by xs ++ flat_map sides_by ys
  flat-append [] ys = refl
  flat-append (x ∷ xs) ys = ap (λ rest. x.source ∷ x.target ∷ rest) (flat-append xs ys)

  written_version : (names : List (List ℕ)) (as' : List (Term × Term)) (is' os : List RuleTree) → All (IsFine s) (map sides_of as' ++ (rule_trees is' ++ rule_trees os))
      → All (IsWritten s) (concepts_of (version_of names s as' is' os))
  written_version names as' is' os h =
      let rules = behind (map sides_of as') (rule_trees is' ++ rule_trees os) h in
      let into = map (rule_of_trees names s) is' in
      let onto = map (rule_of_trees names s) os in
      let axioms = flat_map sides_in (map (λ (sides : Term × Term). axiom_of s sides.0 sides.1) as') in
      subst (λ cs. All (IsWritten s) (axioms ++ cs)) (sym (flat-append into onto))
      (All-append (IsWritten s) axioms (flat_map sides_by into ++ flat_map sides_by onto)
      (written_axioms as' (front (map sides_of as') (rule_trees is' ++ rule_trees os) h))
      (All-append (IsWritten s) (flat_map sides_by into) (flat_map sides_by onto)
      (written_rules names is' (front (rule_trees is') (rule_trees os) rules))
      (written_rules names os (behind (rule_trees is') (rule_trees os) rules))))

  written_query : (l r : Term) → All (IsFine s) ((l ∷ []) ∷ (r ∷ []) ∷ []) → All (IsWritten s) (concept_of s l ∷ concept_of s r ∷ [])
  written_query l r h =
      two (concept_of s l) (concept_of s r) (written_one s l (All-head (IsFine s) (l ∷ []) ((r ∷ []) ∷ []) h))
      (written_one s r (All-head (IsFine s) (r ∷ []) [] (All-tail (IsFine s) (l ∷ []) ((r ∷ []) ∷ []) h)))

  written_request : (names : List (List ℕ)) (p : Parsed) (r : Request) → IsRequest names s p r → All (IsFine s) (trees_of p) → IsWrittenRequest s r
  written_request names (peers ns) r is h = subst (IsWrittenRequest s) (sym is) tt
  written_request names (put peer as' is' os) r is h = subst (IsWrittenRequest s) (sym is) (written_version names as' is' os h)
  written_request names (ask peer l t x v) r is h = subst (IsWrittenRequest s) (sym is) (written_query l t h)
  written_request names (check peer l t pin cert) r is h = subst (IsWrittenRequest s) (sym is.2) (written_query l t h)
  written_request names versions r is h = subst (IsWrittenRequest s) (sym is) tt

-- ---- what is answered

pub reads_written : (names : Option (List (List ℕ))) (old new : SymbolLists) (w : Written) (r : Request)
    → (let found : Result Request WireErr = Ok r in ReadsRequest (Tests names old w) (declared_names names) old new found) → IsWrittenRequest new r × Grows old new
reads_written names old new w r reads =
    let found = resolves names old w reads.0 new reads.1 in (
      written_request new (declared_names names) reads.0 r reads.2
          (subst (λ (y : SymbolLists). All (IsFine y) (trees_of reads.0)) (sym found.symbols) (texts_fine old (trees_of reads.0) found.small)),
      subst (Grows old) (sym found.symbols) (grows_texts old (trees_of reads.0)),
    )
