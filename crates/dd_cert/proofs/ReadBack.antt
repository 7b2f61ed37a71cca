-- What is printed of an answer is its certificate as a value, and is read as that.
use Rattle.std.proofs.Common.{◌≡◌, ℕ, ◌+◌, ◌≤◌, Bool, true, cond, ◌&&◌, List, [], ◌∷◌, ◌++◌, length, map, Option, None, Some, Ok, refl, sym, ap, ◌∙◌, subst}
use Rattle.std.specs.Prelude.{nat_le, nat_lt, option_and_then, option_map}
use Rattle.std.specs.List.{flat_map, fold, list_all}
use Rattle.std.proofs.lemmas.Bool.{and_from, le-ltb, leb-true}
use Rattle.serde_json.specs.Data.{Data}
use Rattle.serde_json.specs.View.{items_of}
use Rattle.dd_concept.specs.declared.concept.Concept.{Concept}
use Rattle.dd_concept.specs.Counts.{depth_of, node_count}
use Rattle.dd_concept.specs.Sizes.{most_normal_nodes, most_normal_depth}
use Rattle.dd_json.specs.Members.{◌>>=◌, largest_index, number_of, texts_of}
use Rattle.dd_text.specs.Grammar.{term_depth, term_nodes}
use Rattle.dd_text.specs.Names.{names_a_thing}
use Rattle.dd_text.specs.Symbols.{IsNumbering, SymbolLists, most_symbols, symbol_count}
use Rattle.dd_text.specs.Text.{concept_of, concept_text, has_symbols, term_of, text_at, with_term}
use Rattle.dd_text.proofs.Building.{SymbolLists-eq}
use Rattle.dd_text.proofs.Numbering.{with_text-present}
use Rattle.dd_text.proofs.Reading.{left_of, right_of}
use Rattle.dd_text.proofs.RoundTrip.{depth_of-concept_of, has_number, node_count-concept_of, with_term-present, written_back}
use Rattle.dd_task.specs.declared.line.Line.{Line}
use Rattle.dd_task.specs.declared.line.Why.{Why}
use Rattle.dd_task.specs.declared.line.Why.TheVariants as why
use Rattle.dd_cert.specs.declared.form.CertForm.TheVariants as kinds
use Rattle.dd_cert.specs.declared.form.LineForm.{LineForm}
use Rattle.dd_cert.specs.declared.form.WhyForm.{WhyForm}
use Rattle.dd_cert.specs.declared.form.WhyForm.TheVariants as form
use Rattle.dd_cert.specs.declared.read.Cert.TheVariants as cert
use Rattle.dd_cert.specs.Forms.{each_of, kind_at}
use Rattle.dd_cert.specs.LineForms.{and_of, axiom_of, bottom_of, bridge_of, clash_of, cut_of, line_of, or_of, successor_of, why_of}
use Rattle.dd_cert.specs.Derivations.{Each, LineTree, SpellsLine, SpellsSmall, SpellsWhy, WhyTree, line_by, numbers_of_line, parsed, with_line, with_lines, with_why}
use Rattle.dd_cert.specs.Derivations as tree
use Rattle.dd_cert.specs.Certificates.{Certified, IsCertIn, IsDerivationFrom, IsEvidenceOf, Tried, cert_form, certified_lines, first_above}
use Rattle.dd_cert.specs.Printed.{concept_data, indexes_of_why, is_index, is_small, line_data, line_has_indexes, line_has_symbols, line_is_small, lines_data, whole_number, why_data, why_has_symbols, why_is_small}
use Rattle.dd_cert.proofs.Certifying.{lines-certified, lines_from}
use Rattle.dd_cert.proofs.Listing.{named-at}

-- ---- lists of data

pub each-printed : {X A : Type 0} (find : Data → Option A) (f : X → Data) (g : X → A) → ((x : X) → find (f x) ≡ Some (g x)) → (xs : List X) → each_of find (items_of (map f xs)) ≡ Some (map g xs)
each-printed find f g h [] = refl
each-printed find f g h (x ∷ xs) =
    ap (λ o. option_and_then (λ y. option_map (λ ys. y ∷ ys) (each_of find (items_of (map f xs)))) o) (h x)
    ∙ ap (λ o. option_map (λ ys. g x ∷ ys) o) (each-printed find f g h xs)

pub numbers-printed : (ns : List ℕ) → each_of number_of (items_of (map whole_number ns)) ≡ Some ns
numbers-printed [] = refl
numbers-printed (n ∷ ns) = ap (λ o. option_map (λ (ys : List ℕ). n ∷ ys) o) (numbers-printed ns)

label-printed : (s : SymbolLists) (cs : List Concept) → texts_of (items_of (map (concept_data s) cs)) ≡ Some (map (concept_text s) cs)
label-printed s [] = refl
label-printed s (c ∷ cs) = ap (λ o. option_map (λ (ts : List (List ℕ)). concept_text s c ∷ ts) o) (label-printed s cs)

-- ---- the form of a line

why_form : SymbolLists → Why → WhyForm
why_form s why.Bottom = form.Bottom
why_form s (why.Clash name) = form.Clash (text_at s.names name)
why_form s (why.And at cite) = form.And at cite
why_form s (why.Or at left right) = form.Or at left right
why_form s (why.Axiom index left right) = form.Axiom index left right
why_form s (why.Cut on with_it without_it) = form.Cut (concept_text s on) with_it without_it
why_form s (why.Successor at cite) = form.Successor at cite
why_form s (why.Bridge from onto into_set cite each) = form.Bridge from onto into_set cite each

abbrev line_form : SymbolLists → Line → LineForm
line_form s l = record { peer = l.peer; label = map (concept_text s) l.label; why = why_form s l.why }

abbrev bridge_from : ℕ → ℕ → ℕ → Option (List ℕ) → Option (List ℕ) → Option WhyForm
bridge_from from onto cite i e = i >>= (λ into_set. e >>= (λ each. Some (form.Bridge from onto into_set cite each)))

why-printed : (s : SymbolLists) (w : Why) → why_of (why_data s w) ≡ Some (why_form s w)
unfolding why_of bottom_of clash_of and_of or_of axiom_of cut_of successor_of bridge_of why_form
why-printed s why.Bottom = refl
why-printed s (why.Clash name) = refl
why-printed s (why.And at cite) = refl
why-printed s (why.Or at left right) = refl
why-printed s (why.Axiom index left right) = refl
why-printed s (why.Cut on with_it without_it) = refl
why-printed s (why.Successor at cite) = refl
why-printed s (why.Bridge from onto into_set cite each) =
    ap (λ i. bridge_from from onto cite i (each_of number_of (items_of (map whole_number each)))) (numbers-printed into_set)
    ∙ ap (bridge_from from onto cite (Some into_set)) (numbers-printed each)

abbrev line_from : ℕ → Option (List (List ℕ)) → Option WhyForm → Option LineForm
line_from peer label reason = label >>= (λ l. reason >>= (λ w. Some (record { peer = peer; label = l; why = w })))

line-printed : (s : SymbolLists) (l : Line) → line_of (line_data s l) ≡ Some (line_form s l)
unfolding line_of
line-printed s l =
    ap (λ o. line_from l.peer o (why_of (why_data s l.why))) (label-printed s l.label) ∙ ap (line_from l.peer (Some (map (concept_text s) l.label))) (why-printed s l.why)

lines-formed : (s : SymbolLists) (lines : List Line) → cert_form (lines_data s lines) ≡ Ok (kinds.Yes (map (line_form s) lines))
unfolding cert_form kind_at
lines-formed s lines = ap lines_from (each-printed line_of (line_data s) (line_form s) (line-printed s) lines)

-- ---- its numbers

pub all-append : {A : Type 0} (p : A → Bool) (xs ys : List A) → list_all p xs ≡ true → list_all p ys ≡ true → list_all p (xs ++ ys) ≡ true
all-append p [] ys h k = k
all-append p (x ∷ xs) ys h k = and_from (p x) (list_all p (xs ++ ys)) (left_of (p x) (list_all p xs) h) (all-append p xs ys (right_of (p x) (list_all p xs) h) k)

pub all-map : {A B : Type 0} (p : B → Bool) (f : A → B) (q : A → Bool) → ((x : A) → q x ≡ true → p (f x) ≡ true) → (xs : List A) → list_all q xs ≡ true → list_all p (map f xs) ≡ true
all-map p f q h [] all = refl
all-map p f q h (x ∷ xs) all = and_from (p (f x)) (list_all p (map f xs)) (h x (left_of (q x) (list_all q xs) all)) (all-map p f q h xs (right_of (q x) (list_all q xs) all))

pub all-flat : {A B : Type 0} (p : B → Bool) (f : A → List B) (q : A → Bool) → ((x : A) → q x ≡ true → list_all p (f x) ≡ true) → (xs : List A) → list_all q xs ≡ true → list_all p (flat_map f xs) ≡ true
all-flat p f q h [] all = refl
all-flat p f q h (x ∷ xs) all = all-append p (f x) (flat_map f xs) (h x (left_of (q x) (list_all q xs) all)) (all-flat p f q h xs (right_of (q x) (list_all q xs) all))

pub first-none : (k : ℕ) (ns : List ℕ) → list_all is_index ns ≡ true → first_above k ns ≡ None
first-none k [] h = refl
first-none k (n ∷ ns) h =
    ap (λ b. cond b (Some (k, n)) (first_above (k + 1) ns)) (le-ltb largest_index n (leb-true n largest_index (left_of (is_index n) (list_all is_index ns) h)))
    ∙ first-none (k + 1) ns (right_of (is_index n) (list_all is_index ns) h)

why-indexes : (s : SymbolLists) (w : Why) → tree.numbers_of_why (why_form s w) ≡ indexes_of_why w
unfolding why_form
why-indexes s why.Bottom = refl
why-indexes s (why.Clash name) = refl
why-indexes s (why.And at cite) = refl
why-indexes s (why.Or at left right) = refl
why-indexes s (why.Axiom index left right) = refl
why-indexes s (why.Cut on with_it without_it) = refl
why-indexes s (why.Successor at cite) = refl
why-indexes s (why.Bridge from onto into_set cite each) = refl

line-indexes : (s : SymbolLists) (l : Line) → line_has_indexes l ≡ true → list_all is_index (numbers_of_line (line_form s l)) ≡ true
line-indexes s l h = ap (λ ns. is_index l.peer && list_all is_index ns) (why-indexes s l.why) ∙ h

lines-indexes : (s : SymbolLists) (lines : List Line) → list_all line_has_indexes lines ≡ true → list_all is_index (flat_map numbers_of_line (map (line_form s) lines)) ≡ true
lines-indexes s lines h =
    all-flat is_index numbers_of_line (λ f. list_all is_index (numbers_of_line f)) (λ f k. k) (map (line_form s) lines)
    (all-map (λ f. list_all is_index (numbers_of_line f)) (line_form s) line_has_indexes (line-indexes s) lines h)

-- ---- its trees

why_tree : SymbolLists → Why → WhyTree
why_tree s why.Bottom = tree.bottom
why_tree s (why.Clash name) = tree.clash (text_at s.names name)
why_tree s (why.And at cite) = tree.conjunction at cite
why_tree s (why.Or at left right) = tree.disjunction at left right
why_tree s (why.Axiom index left right) = tree.implication index left right
why_tree s (why.Cut on with_it without_it) = tree.cut (term_of s on) with_it without_it
why_tree s (why.Successor at cite) = tree.successor at cite
why_tree s (why.Bridge from onto into_set cite each) = tree.bridge from onto into_set cite each

abbrev line_tree : SymbolLists → Line → LineTree
line_tree s l = record { peer = l.peer; label = map (term_of s) l.label; why = why_tree s l.why }

module _ (s : SymbolLists) (numbering : IsNumbering s) where
  -- ---- one concept

  concept-spelt : (c : Concept) → has_symbols s c ≡ true → is_small c ≡ true → SpellsSmall (concept_text s c) (term_of s c)
  concept-spelt c there small =
      let b = written_back s numbering c there in
      let t = term_of s c in
      let nodes = leb-true (node_count c) most_normal_nodes (left_of (nat_le (node_count c) most_normal_nodes) (nat_le (depth_of c) most_normal_depth) small) in
      let depth = leb-true (depth_of c) most_normal_depth (right_of (nat_le (node_count c) most_normal_nodes) (nat_le (depth_of c) most_normal_depth) small) in
      let same_nodes : term_nodes t ≡ node_count c = sym (node_count-concept_of s t) ∙ ap node_count b.same in
      let same_depth : term_depth t ≡ depth_of c = sym (depth_of-concept_of s t) ∙ ap depth_of b.same in
      record {
        spelt = record { written = b.written; text_is = refl };
        small = record { nodes = subst (λ n. n ≤ most_normal_nodes) (sym same_nodes) nodes; depth = subst (λ n. n ≤ most_normal_depth) (sym same_depth) depth };
      }

  concept-stays : (c : Concept) → has_symbols s c ≡ true → with_term s (term_of s c) ≡ s
  concept-stays c there = let b = written_back s numbering c there in with_term-present s (term_of s c) b.names b.roles

  concept-back : (c : Concept) → has_symbols s c ≡ true → concept_of s (term_of s c) ≡ c
  concept-back c there = (written_back s numbering c there).same

  -- ---- a label

  label-spelt : (cs : List Concept) → list_all (has_symbols s) cs ≡ true → list_all is_small cs ≡ true → Each SpellsSmall (map (concept_text s) cs) (map (term_of s) cs)
  label-spelt [] h k = tt
  label-spelt (c ∷ cs) h k = (
    concept-spelt c (left_of (has_symbols s c) (list_all (has_symbols s) cs) h) (left_of (is_small c) (list_all is_small cs) k),
    label-spelt cs (right_of (has_symbols s c) (list_all (has_symbols s) cs) h) (right_of (is_small c) (list_all is_small cs) k),
  )

  label-stays : (cs : List Concept) → list_all (has_symbols s) cs ≡ true → fold with_term s (map (term_of s) cs) ≡ s
  label-stays [] h = refl
  label-stays (c ∷ cs) h =
      ap (λ z. fold with_term z (map (term_of s) cs)) (concept-stays c (left_of (has_symbols s c) (list_all (has_symbols s) cs) h)) ∙ label-stays cs (right_of (has_symbols s c) (list_all (has_symbols s) cs) h)

  label-back : (cs : List Concept) → list_all (has_symbols s) cs ≡ true → map (concept_of s) (map (term_of s) cs) ≡ cs
  label-back [] h = refl
  label-back (c ∷ cs) h =
      ap (λ z. z ∷ map (concept_of s) (map (term_of s) cs)) (concept-back c (left_of (has_symbols s c) (list_all (has_symbols s) cs) h))
      ∙ ap (λ (l : List Concept). c ∷ l) (label-back cs (right_of (has_symbols s c) (list_all (has_symbols s) cs) h))

  -- ---- a reason

  name-there : (n : ℕ) → nat_lt n (length s.names) ≡ true → names_a_thing (text_at s.names n) ≡ true
  name-there n h = named-at s.names n (text_at s.names n) numbering.names_named (has_number s.names n h).found

  why-spelt : (w : Why) → why_has_symbols s w ≡ true → why_is_small w ≡ true → SpellsWhy (why_form s w) (why_tree s w)
  unfolding why_form why_tree
  why-spelt why.Bottom h k = refl
  why-spelt (why.Clash n) h k = (name-there n h, refl)
  why-spelt (why.And at cite) h k = refl
  why-spelt (why.Or at left right) h k = refl
  why-spelt (why.Axiom index left right) h k = refl
  why-spelt (why.Cut on with_it without_it) h k = (term_of s on, concept-spelt on h k, refl)
  why-spelt (why.Successor at cite) h k = refl
  why-spelt (why.Bridge from onto into_set cite each) h k = refl

  why-stays : (w : Why) → why_has_symbols s w ≡ true → with_why s (why_tree s w) ≡ s
  unfolding why_tree
  why-stays why.Bottom h = refl
  why-stays (why.Clash n) h = SymbolLists-eq (with_why s (tree.clash (text_at s.names n))) s (with_text-present s.names (text_at s.names n) (has_number s.names n h).there) refl
  why-stays (why.And at cite) h = refl
  why-stays (why.Or at left right) h = refl
  why-stays (why.Axiom index left right) h = refl
  why-stays (why.Cut on with_it without_it) h = concept-stays on h
  why-stays (why.Successor at cite) h = refl
  why-stays (why.Bridge from onto into_set cite each) h = refl

  why-back : (w : Why) → why_has_symbols s w ≡ true → tree.why_by s (why_tree s w) ≡ w
  unfolding why_tree
  why-back why.Bottom h = refl
  why-back (why.Clash n) h = ap why.Clash (numbering.names n (text_at s.names n) (has_number s.names n h).found)
  why-back (why.And at cite) h = refl
  why-back (why.Or at left right) h = refl
  why-back (why.Axiom index left right) h = refl
  why-back (why.Cut on with_it without_it) h = ap (λ (c : Concept). why.Cut c with_it without_it) (concept-back on h)
  why-back (why.Successor at cite) h = refl
  why-back (why.Bridge from onto into_set cite each) h = refl

  -- ---- a line, and lines

  abbrev line_made : ℕ → List Concept → Why → Line
  line_made peer label reason = record { peer = peer; label = label; why = reason }

  line-spelt : (l : Line) → line_has_symbols s l ≡ true → line_is_small l ≡ true → SpellsLine (line_form s l) (line_tree s l)
  line-spelt l h k = record {
    peer = refl;
    label = label-spelt l.label (left_of (list_all (has_symbols s) l.label) (why_has_symbols s l.why) h) (left_of (list_all is_small l.label) (why_is_small l.why) k);
    why = why-spelt l.why (right_of (list_all (has_symbols s) l.label) (why_has_symbols s l.why) h) (right_of (list_all is_small l.label) (why_is_small l.why) k);
  }

  line-stays : (l : Line) → line_has_symbols s l ≡ true → with_line s (line_tree s l) ≡ s
  line-stays l h =
      ap (λ z. with_why z (why_tree s l.why)) (label-stays l.label (left_of (list_all (has_symbols s) l.label) (why_has_symbols s l.why) h))
      ∙ why-stays l.why (right_of (list_all (has_symbols s) l.label) (why_has_symbols s l.why) h)

  line-back : (l : Line) → line_has_symbols s l ≡ true → line_by s (line_tree s l) ≡ l
  line-back l h =
      ap (λ cs. line_made l.peer cs (tree.why_by s (why_tree s l.why))) (label-back l.label (left_of (list_all (has_symbols s) l.label) (why_has_symbols s l.why) h))
      ∙ ap (line_made l.peer l.label) (why-back l.why (right_of (list_all (has_symbols s) l.label) (why_has_symbols s l.why) h))

  lines-spelt : (lines : List Line) → list_all (line_has_symbols s) lines ≡ true → list_all line_is_small lines ≡ true → Each SpellsLine (map (line_form s) lines) (map (line_tree s) lines)
  lines-spelt [] h k = tt
  lines-spelt (l ∷ ls) h k = (
    line-spelt l (left_of (line_has_symbols s l) (list_all (line_has_symbols s) ls) h) (left_of (line_is_small l) (list_all line_is_small ls) k),
    lines-spelt ls (right_of (line_has_symbols s l) (list_all (line_has_symbols s) ls) h) (right_of (line_is_small l) (list_all line_is_small ls) k),
  )

  lines-stay : (lines : List Line) → list_all (line_has_symbols s) lines ≡ true → with_lines s (map (line_tree s) lines) ≡ s
  lines-stay [] h = refl
  lines-stay (l ∷ ls) h =
      ap (λ z. fold with_line z (map (line_tree s) ls)) (line-stays l (left_of (line_has_symbols s l) (list_all (line_has_symbols s) ls) h))
      ∙ lines-stay ls (right_of (line_has_symbols s l) (list_all (line_has_symbols s) ls) h)

  lines-back : (lines : List Line) → list_all (line_has_symbols s) lines ≡ true → map (line_by s) (map (line_tree s) lines) ≡ lines
  lines-back [] h = refl
  lines-back (l ∷ ls) h =
      ap (λ z. z ∷ map (line_by s) (map (line_tree s) ls)) (line-back l (left_of (line_has_symbols s l) (list_all (line_has_symbols s) ls) h))
      ∙ ap (λ (r : List Line). l ∷ r) (lines-back ls (right_of (line_has_symbols s l) (list_all (line_has_symbols s) ls) h))

  -- what is printed of lines is read as these lines, with no new symbols
  pub lines-read-back : (lines : List Line) → list_all (line_has_symbols s) lines ≡ true → list_all line_is_small lines ≡ true → list_all line_has_indexes lines ≡ true
      → IsCertIn s (lines_data s lines) (Ok (record { cert = cert.Yes lines; symbols = s }))
  lines-read-back lines h k m =
      let forms = map (line_form s) lines in
      let trees = map (line_tree s) lines in
      let found : Tried Certified = Ok (record { cert = cert.Yes lines; symbols = s }) in
      let stays = lines-stay lines h in
      let few : symbol_count (with_lines s trees) ≤ most_symbols = subst (λ z. symbol_count z ≤ most_symbols) (sym stays) numbering.few in
      let is : certified_lines s (parsed trees) ≡ found =
      lines-certified s trees few
      ∙ ap (λ (z : SymbolLists). let c : Certified = record { cert = cert.Yes (map (line_by z) trees); symbols = z } in Ok c) stays
      ∙ ap (λ (l : List Line). let c : Certified = record { cert = cert.Yes l; symbols = s } in Ok c) (lines-back lines h) in
      let none = first-none 0 (flat_map numbers_of_line forms) (lines-indexes s lines m) in
      let derived : IsDerivationFrom s forms (first_above 0 (flat_map numbers_of_line forms)) found =
      subst (λ o. IsDerivationFrom s forms o found) (sym none) (parsed trees, lines-spelt lines h k, sym is) in
      subst (λ f. IsEvidenceOf s f found) (sym (lines-formed s lines)) derived
