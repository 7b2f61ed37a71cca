-- Whatever a value is, something is found of it.
use Rattle.std.proofs.Common.{◌≡◌, ℕ, zero, suc, ◌<◌, true, false, List, [], ◌∷◌, ◌++◌, map, Option, None, Some, Ok, Err, refl, sym, ◌∙◌, subst, inl, inr, arith}
use Rattle.std.specs.Prelude.{◌⊎◌, nat_le, slice_get}
use Rattle.std.specs.List.{flat_map}
use Rattle.std.proofs.lemmas.Bool.{false≢true, leb-true, le-leb}
use Rattle.serde_json.specs.Data.{Data}
use Rattle.dd_concept.specs.Sizes.{most_normal_nodes, most_normal_depth}
use Rattle.dd_text.specs.Grammar.{IsConceptText, Spells, Term, term_depth, term_nodes}
use Rattle.dd_text.specs.Names.{names_a_thing}
use Rattle.dd_text.specs.Reads.{IsWithin, cert_limits}
use Rattle.dd_text.specs.Symbols.{SymbolLists}
use Rattle.dd_text.proofs.Decided.{decide_concept}
use Rattle.dd_text.proofs.Unique.{Spells-unique}
use Rattle.dd_cert.specs.declared.form.CertForm.{CertForm}
use Rattle.dd_cert.specs.declared.form.CertForm.TheVariants as form
use Rattle.dd_cert.specs.declared.form.LineForm.{LineForm}
use Rattle.dd_cert.specs.declared.form.WhyForm.{WhyForm}
use Rattle.dd_cert.specs.declared.form.WhyForm.TheVariants as why
use Rattle.dd_cert.specs.Derivations.{AllReadable, Each, IsFirstUnreadable, IsParse, IsReadable, LineTree, Parse, Piece, SpellsLine, SpellsSmall, SpellsWhy, WhyTree, bottom, bridge, clash, concept, conjunction, cut, disjunction, implication, name, numbers_of_line, parsed, pieces_of, pieces_of_line, pieces_of_why, stopped, successor}
use Rattle.dd_cert.specs.Certificates.{Certified, IsCertIn, IsDerivationFrom, IsEvidence, IsEvidenceOf, Tried, cert_form, certified_lines, certified_world, first_above, place}

-- ---- each text is what it is to be, or it is not

decide_within : (t : Term) → IsWithin cert_limits t ⊎ (IsWithin cert_limits t → ⊥)
decide_within t =
    elim (nat_le (term_nodes t) most_normal_nodes) as (λ b. nat_le (term_nodes t) most_normal_nodes ≡ b → IsWithin cert_limits t ⊎ (IsWithin cert_limits t → ⊥)) [
      | true ↦ λ few.
          (elim (nat_le (term_depth t) most_normal_depth) as (λ b. nat_le (term_depth t) most_normal_depth ≡ b → IsWithin cert_limits t ⊎ (IsWithin cert_limits t → ⊥)) [
            | true ↦ λ low. inl (record { nodes = leb-true (term_nodes t) most_normal_nodes few; depth = leb-true (term_depth t) most_normal_depth low })
            | false ↦ λ deep. inr (λ within. false≢true (sym deep ∙ le-leb (term_depth t) most_normal_depth within.depth))
          ]) refl
      | false ↦ λ many. inr (λ within. false≢true (sym many ∙ le-leb (term_nodes t) most_normal_nodes within.nodes))
    ] refl

small_by : (text : List ℕ) (t : Term) → Spells text t → IsWithin cert_limits t ⊎ (IsWithin cert_limits t → ⊥) → IsReadable (concept text) ⊎ (IsReadable (concept text) → ⊥)
small_by text t spelt (inl within) = inl (t, record { spelt = spelt; small = within })
small_by text t spelt (inr large) = inr (λ (u, s). large (subst (IsWithin cert_limits) (Spells-unique text u t s.spelt spelt) s.small))

concept_by : (text : List ℕ) → IsConceptText text ⊎ (IsConceptText text → ⊥) → IsReadable (concept text) ⊎ (IsReadable (concept text) → ⊥)
concept_by text (inl h) = small_by text h.0 h.1 (decide_within h.0)
concept_by text (inr none) = inr (λ (u, s). none (u, s.spelt))

pub decide_piece : (p : Piece) → IsReadable p ⊎ (IsReadable p → ⊥)
decide_piece (name text) =
    elim (names_a_thing text) as (λ b. names_a_thing text ≡ b → IsReadable (name text) ⊎ (IsReadable (name text) → ⊥)) [
      | true ↦ λ is. inl is
      | false ↦ λ is. inr (λ named. false≢true (sym is ∙ named))
    ] refl
decide_piece (concept text) = concept_by text (decide_concept text)

-- ---- all texts are, or one is the first that is not

pub stopped-here : (p : Piece) (ps : List Piece) → (IsReadable p → ⊥) → IsFirstUnreadable (p ∷ ps) zero
stopped-here p ps out =
    record {
      piece = p;
      is_there = refl;
      unreadable = out;
      before = λ k other below there. absurd (omega (arith, below));
    }

pub stopped-later : (p : Piece) (ps : List Piece) (n : ℕ) → IsReadable p → IsFirstUnreadable ps n → IsFirstUnreadable (p ∷ ps) (suc n)
stopped-later p ps n inside first =
    record { piece = first.piece; is_there = first.is_there; unreadable = first.unreadable; before = earlier }
  where
    earlier : (k : ℕ) (other : Piece) → k < suc n → slice_get (p ∷ ps) k ≡ Some other → IsReadable other
    earlier zero other below there = let same : p ≡ other = cc there in subst IsReadable same inside
    earlier (suc k) other below there = first.before k other (omega (arith, below)) there

join : (p : Piece) (ps : List Piece) → IsReadable p ⊎ (IsReadable p → ⊥) → AllReadable ps ⊎ ((n : ℕ) × IsFirstUnreadable ps n) → AllReadable (p ∷ ps) ⊎ ((n : ℕ) × IsFirstUnreadable (p ∷ ps) n)
join p ps (inr out) rest = inr (zero, stopped-here p ps out)
join p ps (inl inside) (inl all) = inl (inside, all)
join p ps (inl inside) (inr found) = inr (suc found.0, stopped-later p ps found.0 inside found.1)

decide_pieces : (ps : List Piece) → AllReadable ps ⊎ ((n : ℕ) × IsFirstUnreadable ps n)
decide_pieces [] = inl tt
decide_pieces (p ∷ ps) = join p ps (decide_piece p) (decide_pieces ps)

-- ---- where all texts are what they are to be, there are trees

pub split_all : (ps qs : List Piece) → AllReadable (ps ++ qs) → AllReadable ps × AllReadable qs
split_all [] qs all = (tt, all)
split_all (p ∷ ps) qs all = let (first, second) = split_all ps qs all.1 in ((all.0, first), second)

pub label_parses : (texts : List (List ℕ)) → AllReadable (map concept texts) → (trees : List Term) × Each SpellsSmall texts trees
label_parses [] all = ([], tt)
label_parses (text ∷ texts) all = let (trees, spelt) = label_parses texts all.1 in (all.0.0 ∷ trees, (all.0.1, spelt))

pub why_parses : (w : WhyForm) → AllReadable (pieces_of_why w) → (t : WhyTree) × SpellsWhy w t
why_parses why.Bottom all = (bottom, refl)
why_parses (why.Clash a) all = (clash a, (all.0, refl))
why_parses (why.And at cite) all = (conjunction at cite, refl)
why_parses (why.Or at left right) all = (disjunction at left right, refl)
why_parses (why.Axiom index left right) all = (implication index left right, refl)
why_parses (why.Cut on with_it without_it) all = (cut all.0.0 with_it without_it, (all.0.0, all.0.1, refl))
why_parses (why.Successor at cite) all = (successor at cite, refl)
why_parses (why.Bridge from onto into_set cite each) all = (bridge from onto into_set cite each, refl)

pub line_parses : (l : LineForm) → AllReadable (pieces_of_line l) → (t : LineTree) × SpellsLine l t
line_parses l all =
    let (first, second) = split_all (map concept l.label) (pieces_of_why l.why) all in
    let (trees, spelt) = label_parses l.label first in
    let (reason, given) = why_parses l.why second in
    (record { peer = l.peer; label = trees; why = reason }, record { peer = refl; label = spelt; why = given })

pub lines_parse : (lines : List LineForm) → AllReadable (pieces_of lines) → (trees : List LineTree) × Each SpellsLine lines trees
lines_parse [] all = ([], tt)
lines_parse (l ∷ lines) all =
    let (first, rest) = split_all (pieces_of_line l) (pieces_of lines) all in
    let (t, spelt) = line_parses l first in
    let (trees, more) = lines_parse lines rest in
    (t ∷ trees, (spelt, more))

-- ---- the two together

by_pieces : (lines : List LineForm) → AllReadable (pieces_of lines) ⊎ ((n : ℕ) × IsFirstUnreadable (pieces_of lines) n) → (reading : Parse) × IsParse lines reading
by_pieces lines (inl all) = let (trees, spelt) = lines_parse lines all in (parsed trees, spelt)
by_pieces lines (inr found) = (stopped found.0, found.1)

-- the texts of a derivation are all read, or one is the first that stops the reading
pub some_parse : (lines : List LineForm) → (reading : Parse) × IsParse lines reading
some_parse lines = by_pieces lines (decide_pieces (pieces_of lines))

some_derivation : (s : SymbolLists) (lines : List LineForm) (above : Option (ℕ × ℕ)) → (found : Tried Certified) × IsDerivationFrom s lines above found
some_derivation s lines (Some at) = (Err (place at.0 at.1), refl)
some_derivation s lines None = let (reading, is) = some_parse lines in (certified_lines s reading, (reading, is, refl))

pub some_evidence : (s : SymbolLists) (f : CertForm) → (found : Tried Certified) × IsEvidence s f found
some_evidence s (form.Yes lines) = some_derivation s lines (first_above 0 (flat_map numbers_of_line lines))
some_evidence s (form.No w) = (certified_world s w, refl)

some_evidence_of : (s : SymbolLists) (f : Tried CertForm) → (found : Tried Certified) × IsEvidenceOf s f found
some_evidence_of s (Err e) = (Err e, refl)
some_evidence_of s (Ok f) = some_evidence s f

-- something is found of each value
pub some_cert_in : (s : SymbolLists) (d : Data) → (found : Tried Certified) × IsCertIn s d found
some_cert_in s d = some_evidence_of s (cert_form d)
