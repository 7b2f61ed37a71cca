-- Reading what was printed, and printing what was read.
use Rattle.std.proofs.Common.{◌≡◌, ℕ, ◌<◌, ◌≤◌, true, List, refl, sym, ap, ◌∙◌, subst, arith}
use Rattle.std.specs.Prelude.{Result, Ok, Err}
use Rattle.dd_concept.specs.declared.concept.Concept.{Concept}
use Rattle.dd_concept.specs.declared.concept.Axiom.{Axiom}
use Rattle.dd_concept.specs.Counts.{depth_of, node_count}
use Rattle.dd_text.specs.Symbols.{IsNumbering, SymbolLists, has_text, symbol_count}
use Rattle.dd_text.specs.Grammar.{Spells, SpellsAxiom, Term, axiom_text, term_depth, term_nodes, term_text}
use Rattle.dd_text.specs.Text.{axiom_of, axiom_text_of, concept_of, concept_text, has_symbols, names_in, roles_in, term_of, with_term}
use Rattle.dd_text.specs.Reads.{IsAxiomOf, IsConceptOf, ReadsAxiom, ReadsConcept, told}
use Rattle.dd_text.specs.Laws.{ReadsPrinted, ReadsPrintedAxiom}
use Rattle.dd_text.specs.declared.read.Limits.{Limits}
use Rattle.dd_text.specs.declared.read.TextErr.{TextErr}
use Rattle.dd_text.specs.declared.read.TextErr.TheVariants as err
use Rattle.dd_text.proofs.Numbering.{has_text-Appends}
use Rattle.dd_text.proofs.Building.{Grows-with_term}
use Rattle.dd_text.proofs.Restoring.{AreIn, names-with_term, roles-with_term}
use Rattle.dd_text.proofs.RoundTrip.{IsBack, depth_of-concept_of, has_symbols-concept_of, node_count-concept_of, term_of-concept_of, with_term-present, written_back}
use Rattle.dd_text.proofs.WithinLimits.{first_over}
use Rattle.dd_text.proofs.Unique.{Spells-unique, SpellsAxiom-unique}

spells_printed : (s : SymbolLists) (c : Concept) → IsBack s c (term_of s c) → Spells (concept_text s c) (term_of s c)
spells_printed s c b = record { written = b.written; text_is = refl }

stay : (s : SymbolLists) (c : Concept) (t : Term) → IsBack s c (term_of s c) → t ≡ term_of s c → with_term s t ≡ s
stay s c t b same = ap (with_term s) same ∙ with_term-present s (term_of s c) b.names b.roles

-- a term that is a concept's has its nodes and its depth
nodes_of : (s : SymbolLists) (c : Concept) (t : Term) → IsBack s c (term_of s c) → t ≡ term_of s c → term_nodes t ≡ node_count c
nodes_of s c t b same = ap term_nodes same ∙ sym (node_count-concept_of s (term_of s c)) ∙ ap node_count b.same

depth_of_term : (s : SymbolLists) (c : Concept) (t : Term) → IsBack s c (term_of s c) → t ≡ term_of s c → term_depth t ≡ depth_of c
depth_of_term s c t b same = ap term_depth same ∙ sym (depth_of-concept_of s (term_of s c)) ∙ ap depth_of b.same

pub printed-reads : (s : SymbolLists) (limits : Limits) (c : Concept) (new : SymbolLists) (result : Result Concept TextErr) → IsNumbering s → has_symbols s c ≡ true → ReadsConcept s limits (concept_text s c) new result → (new ≡ s) × ReadsPrinted limits c result
printed-reads s limits c new (Ok d) numbering there h =
    let b = written_back s numbering c there in
    let same = Spells-unique (concept_text s c) h.term (term_of s c) h.spelt (spells_printed s c b) in
    let kept : new ≡ s = h.symbols ∙ stay s c h.term b same in
    (kept, h.concept ∙ ap (λ z. concept_of z h.term) kept ∙ ap (concept_of s) same ∙ b.same)
printed-reads s limits c new (Err (err.Bad at)) numbering there h =
    let b = written_back s numbering c there in
    absurd (h.1.1.outside (term_of s c, spells_printed s c b))
printed-reads s limits c new (Err (err.TooLarge nodes)) numbering there h =
    let b = written_back s numbering c there in
    let same = Spells-unique (concept_text s c) h.1.0 (term_of s c) h.1.1 (spells_printed s c b) in
    let count = nodes_of s c h.1.0 b same in
    (h.0, (subst (λ n. limits.nodes < n) count h.1.2, h.1.3 ∙ ap told count))
printed-reads s limits c new (Err (err.TooDeep depth)) numbering there h =
    let b = written_back s numbering c there in
    let same = Spells-unique (concept_text s c) h.1.0 (term_of s c) h.1.1 (spells_printed s c b) in
    let depth_is = depth_of_term s c h.1.0 b same in
    (h.0, (subst (λ n. n ≤ limits.nodes) (nodes_of s c h.1.0 b same) h.1.2, subst (λ n. limits.depth < n) depth_is h.1.3, h.1.4 ∙ ap told depth_is))
printed-reads s limits c new (Err err.SymbolsFull) numbering there h =
    let b = written_back s numbering c there in
    let same = Spells-unique (concept_text s c) h.1.0 (term_of s c) h.1.1 (spells_printed s c b) in
    absurd (omega (arith, h.1.3, ap symbol_count (stay s c h.1.0 b same), numbering.few))
printed-reads s limits c new (Err err.NoMemory) numbering there h = (h.0, tt)

spells_printed_axiom : (s : SymbolLists) (a : Axiom) → IsBack s a.left (term_of s a.left) → IsBack s a.right (term_of s a.right) → SpellsAxiom (axiom_text_of s a) (term_of s a.left) (term_of s a.right)
spells_printed_axiom s a bl br = record { left_written = bl.written; right_written = br.written; text_is = refl }

stay_both : (s : SymbolLists) (a : Axiom) (l r : Term) → IsBack s a.left (term_of s a.left) → IsBack s a.right (term_of s a.right) → (l ≡ term_of s a.left) × (r ≡ term_of s a.right) → with_term (with_term s l) r ≡ s
stay_both s a l r bl br same = ap (λ z. with_term z r) (stay s a.left l bl same.0) ∙ stay s a.right r br same.1

abbrev axiom_from : Concept → Concept → Axiom
axiom_from l r = record { left = l; right = r }

pub printed-axiom-reads : (s : SymbolLists) (limits : Limits) (a : Axiom) (new : SymbolLists) (result : Result Axiom TextErr) → IsNumbering s → has_symbols s a.left ≡ true → has_symbols s a.right ≡ true → ReadsAxiom s limits (axiom_text_of s a) new result → (new ≡ s) × ReadsPrintedAxiom limits a result
printed-axiom-reads s limits a new (Ok b) numbering hl hr h =
    let bl = written_back s numbering a.left hl in
    let br = written_back s numbering a.right hr in
    let same = SpellsAxiom-unique (axiom_text_of s a) h.left h.right (term_of s a.left) (term_of s a.right) h.spelt (spells_printed_axiom s a bl br) in
    let kept : new ≡ s = h.symbols ∙ stay_both s a h.left h.right bl br same in (
      kept,
      h.sides ∙ ap (λ z. axiom_of z h.left h.right) kept ∙ ap (λ z. axiom_of s z h.right) same.0 ∙ ap (axiom_of s (term_of s a.left)) same.1
          ∙ ap (λ z. axiom_from z (concept_of s (term_of s a.right))) bl.same ∙ ap (axiom_from a.left) br.same,
    )
printed-axiom-reads s limits a new (Err (err.Bad at)) numbering hl hr h =
    let bl = written_back s numbering a.left hl in
    let br = written_back s numbering a.right hr in
    absurd (h.1.1.outside (term_of s a.left, term_of s a.right, spells_printed_axiom s a bl br))
printed-axiom-reads s limits a new (Err err.SymbolsFull) numbering hl hr h =
    let bl = written_back s numbering a.left hl in
    let br = written_back s numbering a.right hr in
    let same = SpellsAxiom-unique (axiom_text_of s a) h.1.0 h.1.1 (term_of s a.left) (term_of s a.right) h.1.2 (spells_printed_axiom s a bl br) in
    absurd (omega (arith, h.1.5, ap symbol_count (stay_both s a h.1.0 h.1.1 bl br same), numbering.few))
printed-axiom-reads s limits a new (Err (err.TooLarge nodes)) numbering hl hr h =
    let bl = written_back s numbering a.left hl in
    let br = written_back s numbering a.right hr in
    let same = SpellsAxiom-unique (axiom_text_of s a) h.1.0 h.1.1 (term_of s a.left) (term_of s a.right) h.1.2 (spells_printed_axiom s a bl br) in
    (h.0, (h.1.3, first_over limits.nodes _ _ _ _ h.1.3 (nodes_of s a.left h.1.0 bl same.0) (nodes_of s a.right h.1.1 br same.1) h.1.4, h.1.5))
printed-axiom-reads s limits a new (Err (err.TooDeep depth)) numbering hl hr h =
    let bl = written_back s numbering a.left hl in
    let br = written_back s numbering a.right hr in
    let same = SpellsAxiom-unique (axiom_text_of s a) h.1.0 h.1.1 (term_of s a.left) (term_of s a.right) h.1.2 (spells_printed_axiom s a bl br) in (
      h.0,
      (
        subst (λ n. n ≤ limits.nodes) (nodes_of s a.left h.1.0 bl same.0) h.1.3,
        subst (λ n. n ≤ limits.nodes) (nodes_of s a.right h.1.1 br same.1) h.1.4,
        h.1.5,
        first_over limits.depth _ _ _ _ h.1.5 (depth_of_term s a.left h.1.0 bl same.0) (depth_of_term s a.right h.1.1 br same.1) h.1.6,
        h.1.7,
      ),
    )
printed-axiom-reads s limits a new (Err err.NoMemory) numbering hl hr h = (h.0, tt)

-- the symbols after reading have those of the term
names_there : (old new : SymbolLists) (t : Term) → new ≡ with_term old t → AreIn (names_in t) new.names
names_there old new t is = subst (λ (z : SymbolLists). AreIn (names_in t) z.names) (sym is) (names-with_term old t)

roles_there : (old new : SymbolLists) (t : Term) → new ≡ with_term old t → AreIn (roles_in t) new.roles
roles_there old new t is = subst (λ (z : SymbolLists). AreIn (roles_in t) z.roles) (sym is) (roles-with_term old t)

pub read-prints : (old new : SymbolLists) (limits : Limits) (text : List ℕ) (c : Concept) → IsConceptOf old limits text new c → concept_text new c ≡ text
read-prints old new limits text c h =
    ap (λ d. term_text (term_of new d)) h.concept
    ∙ ap term_text (term_of-concept_of new h.term (names_there old new h.term h.symbols) (roles_there old new h.term h.symbols))
    ∙ sym h.spelt.text_is

-- and the concept's numbers are theirs
pub read-has_symbols : (old new : SymbolLists) (limits : Limits) (text : List ℕ) (c : Concept) → IsConceptOf old limits text new c → has_symbols new c ≡ true
read-has_symbols old new limits text c h =
    ap (has_symbols new) h.concept ∙ has_symbols-concept_of new h.term (names_there old new h.term h.symbols) (roles_there old new h.term h.symbols)

pub read-node_count : (old new : SymbolLists) (limits : Limits) (text : List ℕ) (c : Concept) → IsConceptOf old limits text new c → node_count c ≤ limits.nodes
read-node_count old new limits text c h = omega (arith, ap node_count h.concept, node_count-concept_of new h.term, h.small.nodes)

pub read-depth_of : (old new : SymbolLists) (limits : Limits) (text : List ℕ) (c : Concept) → IsConceptOf old limits text new c → depth_of c ≤ limits.depth
read-depth_of old new limits text c h = omega (arith, ap depth_of h.concept, depth_of-concept_of new h.term, h.small.depth)

module _ (old new : SymbolLists) (limits : Limits) (text : List ℕ) (a : Axiom) (h : IsAxiomOf old limits text new a) where
  left_names : AreIn (names_in h.left) new.names
  left_names w there =
      ap (λ (z : SymbolLists). has_text z.names w) h.symbols
      ∙ has_text-Appends (with_term old h.left).names (with_term (with_term old h.left) h.right).names w (Grows-with_term (with_term old h.left) h.right).names (names-with_term old h.left w there)

  left_roles : AreIn (roles_in h.left) new.roles
  left_roles w there =
      ap (λ (z : SymbolLists). has_text z.roles w) h.symbols
      ∙ has_text-Appends (with_term old h.left).roles (with_term (with_term old h.left) h.right).roles w (Grows-with_term (with_term old h.left) h.right).roles (roles-with_term old h.left w there)

  pub read-axiom-prints : axiom_text_of new a ≡ text
  read-axiom-prints =
      ap (axiom_text_of new) h.sides
      ∙ ap (λ t. axiom_text t (term_of new (concept_of new h.right))) (term_of-concept_of new h.left left_names left_roles)
      ∙ ap (axiom_text h.left) (term_of-concept_of new h.right (names_there (with_term old h.left) new h.right h.symbols) (roles_there (with_term old h.left) new h.right h.symbols))
      ∙ sym h.spelt.text_is

  pub read-left-has_symbols : has_symbols new a.left ≡ true
  read-left-has_symbols = ap (λ (z : Axiom). has_symbols new z.left) h.sides ∙ has_symbols-concept_of new h.left left_names left_roles

  pub read-right-has_symbols : has_symbols new a.right ≡ true
  read-right-has_symbols =
      ap (λ (z : Axiom). has_symbols new z.right) h.sides
      ∙ has_symbols-concept_of new h.right (names_there (with_term old h.left) new h.right h.symbols) (roles_there (with_term old h.left) new h.right h.symbols)

  pub read-left-node_count : node_count a.left ≤ limits.nodes
  read-left-node_count = omega (arith, ap (λ (z : Axiom). node_count z.left) h.sides, node_count-concept_of new h.left, h.left_small.nodes)

  pub read-right-node_count : node_count a.right ≤ limits.nodes
  read-right-node_count = omega (arith, ap (λ (z : Axiom). node_count z.right) h.sides, node_count-concept_of new h.right, h.right_small.nodes)

  pub read-left-depth_of : depth_of a.left ≤ limits.depth
  read-left-depth_of = omega (arith, ap (λ (z : Axiom). depth_of z.left) h.sides, depth_of-concept_of new h.left, h.left_small.depth)

  pub read-right-depth_of : depth_of a.right ≤ limits.depth
  read-right-depth_of = omega (arith, ap (λ (z : Axiom). depth_of z.right) h.sides, depth_of-concept_of new h.right, h.right_small.depth)
