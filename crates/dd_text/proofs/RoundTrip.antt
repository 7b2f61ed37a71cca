-- From a term to its concept and back, and from a concept to its term and back.
use Rattle.std.proofs.Common.{◌≡◌, ℕ, zero, suc, ◌+◌, max, Bool, true, List, [], ◌∷◌, ◌++◌, length, refl, sym, ap, ◌∙◌, subst}
use Rattle.std.specs.Prelude.{nat_lt, Some, slice_get, unwrap_or}
use Rattle.std.specs.Str.{bytes_eq}
use Rattle.std.proofs.lemmas.Slice.Eq.{bytes_eq-Decides}
use Rattle.std.proofs.lemmas.Bool.{lt-ltb, ltb-true}
use Rattle.std.proofs.lemmas.Option.{slice_get-get_or}
use Rattle.dd_concept.specs.declared.concept.Concept.{Concept}
use Rattle.dd_concept.specs.declared.concept.Concept.TheVariants as concept
use Rattle.dd_concept.specs.Counts.{node_count, node_count_at, depth_of, depth_at}
use Rattle.dd_concept.proofs.Folds.{fold-Top, fold-Bottom, fold-Name, fold-Not, fold-And, fold-Or, fold-HasSome, fold-HasAll}
use Rattle.dd_concept.proofs.Induction.{induct}
use Rattle.dd_text.specs.Names.{names_a_thing}
use Rattle.dd_text.specs.Symbols.{SymbolLists, IsNumbering, are_names, has_text, number_of, with_texts}
use Rattle.dd_text.specs.Grammar.{Term, top, bottom, atomic, negation, conjunction, disjunction, existential, universal, is_written, term_depth, term_nodes}
use Rattle.dd_text.specs.Text.{concept_of, has_symbols, has_symbols_at, names_in, roles_in, term_at, term_of, text_at, with_term}
use Rattle.dd_text.proofs.Numbering.{has_text-append, has_text-slice_get, number_of-within, slice_get-number_of, with_text-present}
use Rattle.dd_text.proofs.Reading.{both_of, left_of, right_of}
use Rattle.dd_text.proofs.Restoring.{AreIn, AreIn-head, AreIn-left, AreIn-right}
use Rattle.dd_text.proofs.Contexts.{or_cases}
use Rattle.dd_text.proofs.Building.{SymbolLists-eq}

text_at-number_of : (texts : List (List ℕ)) (t : List ℕ) → has_text texts t ≡ true → text_at texts (number_of texts t) ≡ t
text_at-number_of texts t there = ap (λ o. unwrap_or o []) (slice_get-number_of texts t there)

-- the concept of a term over lists that have its symbols is written as the term
pub term_of-concept_of : (s : SymbolLists) (t : Term) → AreIn (names_in t) s.names → AreIn (roles_in t) s.roles → term_of s (concept_of s t) ≡ t
term_of-concept_of s top hn hr = fold-Top Term (term_at s)
term_of-concept_of s bottom hn hr = fold-Bottom Term (term_at s)
term_of-concept_of s (atomic a) hn hr = fold-Name Term (term_at s) (number_of s.names a) ∙ ap atomic (text_at-number_of s.names a (AreIn-head a [] s.names hn))
term_of-concept_of s (negation c) hn hr = fold-Not Term (term_at s) (concept_of s c) ∙ ap negation (term_of-concept_of s c hn hr)
term_of-concept_of s (conjunction c d) hn hr =
    fold-And Term (term_at s) (concept_of s c) (concept_of s d)
    ∙ ap (λ x. conjunction x (term_of s (concept_of s d))) (term_of-concept_of s c (AreIn-left (names_in c) (names_in d) s.names hn) (AreIn-left (roles_in c) (roles_in d) s.roles hr))
    ∙ ap (conjunction c) (term_of-concept_of s d (AreIn-right (names_in c) (names_in d) s.names hn) (AreIn-right (roles_in c) (roles_in d) s.roles hr))
term_of-concept_of s (disjunction c d) hn hr =
    fold-Or Term (term_at s) (concept_of s c) (concept_of s d)
    ∙ ap (λ x. disjunction x (term_of s (concept_of s d))) (term_of-concept_of s c (AreIn-left (names_in c) (names_in d) s.names hn) (AreIn-left (roles_in c) (roles_in d) s.roles hr))
    ∙ ap (disjunction c) (term_of-concept_of s d (AreIn-right (names_in c) (names_in d) s.names hn) (AreIn-right (roles_in c) (roles_in d) s.roles hr))
term_of-concept_of s (existential r c) hn hr =
    fold-HasSome Term (term_at s) (number_of s.roles r) (concept_of s c)
    ∙ ap (λ x. existential x (term_of s (concept_of s c))) (text_at-number_of s.roles r (AreIn-head r (roles_in c) s.roles hr))
    ∙ ap (existential r) (term_of-concept_of s c hn (AreIn-right (r ∷ []) (roles_in c) s.roles hr))
term_of-concept_of s (universal r c) hn hr =
    fold-HasAll Term (term_at s) (number_of s.roles r) (concept_of s c)
    ∙ ap (λ x. universal x (term_of s (concept_of s c))) (text_at-number_of s.roles r (AreIn-head r (roles_in c) s.roles hr))
    ∙ ap (universal r) (term_of-concept_of s c hn (AreIn-right (r ∷ []) (roles_in c) s.roles hr))

-- it has the term's size
pub node_count-concept_of : (s : SymbolLists) (t : Term) → node_count (concept_of s t) ≡ term_nodes t
node_count-concept_of s top = fold-Top ℕ node_count_at
node_count-concept_of s bottom = fold-Bottom ℕ node_count_at
node_count-concept_of s (atomic a) = fold-Name ℕ node_count_at (number_of s.names a)
node_count-concept_of s (negation c) = fold-Not ℕ node_count_at (concept_of s c) ∙ ap (λ n. n + 1) (node_count-concept_of s c)
node_count-concept_of s (conjunction c d) = fold-And ℕ node_count_at (concept_of s c) (concept_of s d) ∙ ap (λ n. n + node_count (concept_of s d) + 1) (node_count-concept_of s c) ∙ ap (λ n. term_nodes c + n + 1) (node_count-concept_of s d)
node_count-concept_of s (disjunction c d) = fold-Or ℕ node_count_at (concept_of s c) (concept_of s d) ∙ ap (λ n. n + node_count (concept_of s d) + 1) (node_count-concept_of s c) ∙ ap (λ n. term_nodes c + n + 1) (node_count-concept_of s d)
node_count-concept_of s (existential r c) = fold-HasSome ℕ node_count_at (number_of s.roles r) (concept_of s c) ∙ ap (λ n. n + 1) (node_count-concept_of s c)
node_count-concept_of s (universal r c) = fold-HasAll ℕ node_count_at (number_of s.roles r) (concept_of s c) ∙ ap (λ n. n + 1) (node_count-concept_of s c)

pub depth_of-concept_of : (s : SymbolLists) (t : Term) → depth_of (concept_of s t) ≡ term_depth t
depth_of-concept_of s top = fold-Top ℕ depth_at
depth_of-concept_of s bottom = fold-Bottom ℕ depth_at
depth_of-concept_of s (atomic a) = fold-Name ℕ depth_at (number_of s.names a)
depth_of-concept_of s (negation c) = fold-Not ℕ depth_at (concept_of s c) ∙ ap (λ n. n + 1) (depth_of-concept_of s c)
depth_of-concept_of s (conjunction c d) = fold-And ℕ depth_at (concept_of s c) (concept_of s d) ∙ ap (λ n. max n (depth_of (concept_of s d)) + 1) (depth_of-concept_of s c) ∙ ap (λ n. max (term_depth c) n + 1) (depth_of-concept_of s d)
depth_of-concept_of s (disjunction c d) = fold-Or ℕ depth_at (concept_of s c) (concept_of s d) ∙ ap (λ n. max n (depth_of (concept_of s d)) + 1) (depth_of-concept_of s c) ∙ ap (λ n. max (term_depth c) n + 1) (depth_of-concept_of s d)
depth_of-concept_of s (existential r c) = fold-HasSome ℕ depth_at (number_of s.roles r) (concept_of s c) ∙ ap (λ n. n + 1) (depth_of-concept_of s c)
depth_of-concept_of s (universal r c) = fold-HasAll ℕ depth_at (number_of s.roles r) (concept_of s c) ∙ ap (λ n. n + 1) (depth_of-concept_of s c)

-- its numbers are those of symbols
numbered : (texts : List (List ℕ)) (t : List ℕ) → has_text texts t ≡ true → nat_lt (number_of texts t) (length texts) ≡ true
numbered texts t there = lt-ltb (number_of texts t) (length texts) (number_of-within texts t there)

pub has_symbols-concept_of : (s : SymbolLists) (t : Term) → AreIn (names_in t) s.names → AreIn (roles_in t) s.roles → has_symbols s (concept_of s t) ≡ true
has_symbols-concept_of s top hn hr = fold-Top Bool (has_symbols_at s)
has_symbols-concept_of s bottom hn hr = fold-Bottom Bool (has_symbols_at s)
has_symbols-concept_of s (atomic a) hn hr = fold-Name Bool (has_symbols_at s) (number_of s.names a) ∙ numbered s.names a (AreIn-head a [] s.names hn)
has_symbols-concept_of s (negation c) hn hr = fold-Not Bool (has_symbols_at s) (concept_of s c) ∙ has_symbols-concept_of s c hn hr
has_symbols-concept_of s (conjunction c d) hn hr =
    fold-And Bool (has_symbols_at s) (concept_of s c) (concept_of s d)
    ∙ both_of (has_symbols s (concept_of s c)) (has_symbols s (concept_of s d)) (has_symbols-concept_of s c (AreIn-left (names_in c) (names_in d) s.names hn) (AreIn-left (roles_in c) (roles_in d) s.roles hr)) (has_symbols-concept_of s d (AreIn-right (names_in c) (names_in d) s.names hn) (AreIn-right (roles_in c) (roles_in d) s.roles hr))
has_symbols-concept_of s (disjunction c d) hn hr =
    fold-Or Bool (has_symbols_at s) (concept_of s c) (concept_of s d)
    ∙ both_of (has_symbols s (concept_of s c)) (has_symbols s (concept_of s d)) (has_symbols-concept_of s c (AreIn-left (names_in c) (names_in d) s.names hn) (AreIn-left (roles_in c) (roles_in d) s.roles hr)) (has_symbols-concept_of s d (AreIn-right (names_in c) (names_in d) s.names hn) (AreIn-right (roles_in c) (roles_in d) s.roles hr))
has_symbols-concept_of s (existential r c) hn hr =
    fold-HasSome Bool (has_symbols_at s) (number_of s.roles r) (concept_of s c)
    ∙ both_of (nat_lt (number_of s.roles r) (length s.roles)) (has_symbols s (concept_of s c)) (numbered s.roles r (AreIn-head r (roles_in c) s.roles hr)) (has_symbols-concept_of s c hn (AreIn-right (r ∷ []) (roles_in c) s.roles hr))
has_symbols-concept_of s (universal r c) hn hr =
    fold-HasAll Bool (has_symbols_at s) (number_of s.roles r) (concept_of s c)
    ∙ both_of (nat_lt (number_of s.roles r) (length s.roles)) (has_symbols s (concept_of s c)) (numbered s.roles r (AreIn-head r (roles_in c) s.roles hr)) (has_symbols-concept_of s c hn (AreIn-right (r ∷ []) (roles_in c) s.roles hr))

-- the text with a number that there is
pub record HasNumber (texts : List (List ℕ)) (n : ℕ) : Type 0 where
  pub found : slice_get texts n ≡ Some (text_at texts n)
  pub there : has_text texts (text_at texts n) ≡ true

pub has_number : (texts : List (List ℕ)) (n : ℕ) → nat_lt n (length texts) ≡ true → HasNumber texts n
has_number texts n h =
    let found = slice_get-get_or texts n [] (ltb-true n (length texts) h) in
    let same : slice_get texts n ≡ Some (text_at texts n) = found ∙ ap (λ o. Some (unwrap_or o [])) (sym found) in
    record { found = same; there = has_text-slice_get texts n (text_at texts n) same }

named-at : (texts : List (List ℕ)) (n : ℕ) (t : List ℕ) → are_names texts ≡ true → slice_get texts n ≡ Some t → names_a_thing t ≡ true
named-at [] n t named h = cc
named-at (x ∷ xs) zero t named h =
    let same : x ≡ t = cc in
    ap names_a_thing (sym same) ∙ left_of (names_a_thing x) (are_names xs) named
named-at (x ∷ xs) (suc n) t named h = named-at xs n t (right_of (names_a_thing x) (are_names xs) named) h

AreIn-nil : (all : List (List ℕ)) → AreIn [] all
AreIn-nil all w h = cc

AreIn-cons : (x : List ℕ) (xs all : List (List ℕ)) → has_text all x ≡ true → AreIn xs all → AreIn (x ∷ xs) all
AreIn-cons x xs all there rest w h =
    or_cases (bytes_eq w x) (has_text xs w) (has_text all w ≡ true) (λ e. ap (has_text all) ((bytes_eq-Decides w x).0 e) ∙ there) (rest w) h

AreIn-append : (xs ys all : List (List ℕ)) → AreIn xs all → AreIn ys all → AreIn (xs ++ ys) all
AreIn-append xs ys all hx hy w h =
    or_cases (has_text xs w) (has_text ys w) (has_text all w ≡ true) (hx w) (hy w) (sym (has_text-append xs ys w) ∙ h)

-- the term says the concept, over symbols that have its names and roles
pub record IsBack (s : SymbolLists) (c : Concept) (t : Term) : Type 0 where
  pub same : concept_of s t ≡ c
  pub written : is_written t ≡ true
  pub names : AreIn (names_in t) s.names
  pub roles : AreIn (roles_in t) s.roles

-- the term of a concept says it
pub written_back : (s : SymbolLists) → IsNumbering s → (c : Concept) → has_symbols s c ≡ true → IsBack s c (term_of s c)
written_back s numbering =
    induct (λ c. has_symbols s c ≡ true → IsBack s c (term_of s c)) (record {
      top = λ h. subst (IsBack s concept.Top) (sym (fold-Top Term (term_at s))) (record { same = refl; written = refl; names = AreIn-nil s.names; roles = AreIn-nil s.roles });
      bottom = λ h. subst (IsBack s concept.Bottom) (sym (fold-Bottom Term (term_at s))) (record { same = refl; written = refl; names = AreIn-nil s.names; roles = AreIn-nil s.roles });
      name = λ a h.
          let n = has_number s.names a (sym (fold-Name Bool (has_symbols_at s) a) ∙ h) in
          subst (IsBack s (concept.Name a)) (sym (fold-Name Term (term_at s) a)) (record {
            same = ap concept.Name (numbering.names a (text_at s.names a) n.found);
            written = named-at s.names a (text_at s.names a) numbering.names_named n.found;
            names = AreIn-cons (text_at s.names a) [] s.names n.there (AreIn-nil s.names);
            roles = AreIn-nil s.roles;
          });
      not = λ c k h.
          let b = k (sym (fold-Not Bool (has_symbols_at s) c) ∙ h) in
          subst (IsBack s (concept.Not c)) (sym (fold-Not Term (term_at s) c)) (record { same = ap concept.Not b.same; written = b.written; names = b.names; roles = b.roles });
      and = λ c d k m h.
          let both = sym (fold-And Bool (has_symbols_at s) c d) ∙ h in
          let b = k (left_of (has_symbols s c) (has_symbols s d) both) in
          let e = m (right_of (has_symbols s c) (has_symbols s d) both) in
          subst (IsBack s (concept.And c d)) (sym (fold-And Term (term_at s) c d)) (record {
            same = ap (λ x. concept.And x (concept_of s (term_of s d))) b.same ∙ ap (concept.And c) e.same;
            written = both_of (is_written (term_of s c)) (is_written (term_of s d)) b.written e.written;
            names = AreIn-append (names_in (term_of s c)) (names_in (term_of s d)) s.names b.names e.names;
            roles = AreIn-append (roles_in (term_of s c)) (roles_in (term_of s d)) s.roles b.roles e.roles;
          });
      or = λ c d k m h.
          let both = sym (fold-Or Bool (has_symbols_at s) c d) ∙ h in
          let b = k (left_of (has_symbols s c) (has_symbols s d) both) in
          let e = m (right_of (has_symbols s c) (has_symbols s d) both) in
          subst (IsBack s (concept.Or c d)) (sym (fold-Or Term (term_at s) c d)) (record {
            same = ap (λ x. concept.Or x (concept_of s (term_of s d))) b.same ∙ ap (concept.Or c) e.same;
            written = both_of (is_written (term_of s c)) (is_written (term_of s d)) b.written e.written;
            names = AreIn-append (names_in (term_of s c)) (names_in (term_of s d)) s.names b.names e.names;
            roles = AreIn-append (roles_in (term_of s c)) (roles_in (term_of s d)) s.roles b.roles e.roles;
          });
      has_some = λ r c k h.
          let both = sym (fold-HasSome Bool (has_symbols_at s) r c) ∙ h in
          let n = has_number s.roles r (left_of (nat_lt r (length s.roles)) (has_symbols s c) both) in
          let b = k (right_of (nat_lt r (length s.roles)) (has_symbols s c) both) in
          subst (IsBack s (concept.HasSome r c)) (sym (fold-HasSome Term (term_at s) r c)) (record {
            same = ap (λ x. concept.HasSome x (concept_of s (term_of s c))) (numbering.roles r (text_at s.roles r) n.found) ∙ ap (concept.HasSome r) b.same;
            written = both_of (names_a_thing (text_at s.roles r)) (is_written (term_of s c)) (named-at s.roles r (text_at s.roles r) numbering.roles_named n.found) b.written;
            names = b.names;
            roles = AreIn-cons (text_at s.roles r) (roles_in (term_of s c)) s.roles n.there b.roles;
          });
      has_all = λ r c k h.
          let both = sym (fold-HasAll Bool (has_symbols_at s) r c) ∙ h in
          let n = has_number s.roles r (left_of (nat_lt r (length s.roles)) (has_symbols s c) both) in
          let b = k (right_of (nat_lt r (length s.roles)) (has_symbols s c) both) in
          subst (IsBack s (concept.HasAll r c)) (sym (fold-HasAll Term (term_at s) r c)) (record {
            same = ap (λ x. concept.HasAll x (concept_of s (term_of s c))) (numbering.roles r (text_at s.roles r) n.found) ∙ ap (concept.HasAll r) b.same;
            written = both_of (names_a_thing (text_at s.roles r)) (is_written (term_of s c)) (named-at s.roles r (text_at s.roles r) numbering.roles_named n.found) b.written;
            names = b.names;
            roles = AreIn-cons (text_at s.roles r) (roles_in (term_of s c)) s.roles n.there b.roles;
          });
    })

-- symbols that are there already are not added
with_texts-present : (xs ts : List (List ℕ)) → AreIn ts xs → with_texts xs ts ≡ xs
with_texts-present xs [] h = refl
with_texts-present xs (t ∷ ts) h =
    ap (λ l. with_texts l ts) (with_text-present xs t (AreIn-head t ts xs h)) ∙ with_texts-present xs ts (AreIn-right (t ∷ []) ts xs h)

pub with_term-present : (s : SymbolLists) (t : Term) → AreIn (names_in t) s.names → AreIn (roles_in t) s.roles → with_term s t ≡ s
with_term-present s t hn hr = SymbolLists-eq (with_term s t) s (with_texts-present s.names (names_in t) hn) (with_texts-present s.roles (roles_in t) hr)
