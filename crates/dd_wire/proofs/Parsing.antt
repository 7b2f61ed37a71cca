-- What is read of the texts of a form: their trees, or the first that is outside its grammar.
use Rattle.std.proofs.Common.{◌≡◌, ℕ, zero, suc, ◌<◌, List, [], ◌∷◌, ◌++◌, refl, subst, inl, inr, arith}
use Rattle.std.specs.Prelude.{◌⊎◌, map, slice_get, Some, ⊤}
use Rattle.dd_text.specs.Grammar.{Term}
use Rattle.dd_text.proofs.Decided.{decide_concept, decide_axiom}
use Rattle.dd_wire.specs.declared.form.RuleForm.{RuleForm}
use Rattle.dd_wire.specs.Forms.{Written}
use Rattle.dd_wire.specs.Forms as form
use Rattle.dd_wire.specs.Texts.{Piece, concept, implication, rule_pieces, pieces_of, IsInGrammar, IsFirstOutside, RuleTree, Parsed, Each, SpellsSides, SpellsRule, Parses, Parse, IsParse}
use Rattle.dd_wire.specs.Texts as text

-- the trees of the texts, or the number of the first that is outside its grammar
pub record Parsing (w : Written) : Type 0 where
  pub texts : Parse
  pub is_parse : IsParse w texts

-- ---- each text is in its grammar, or one is the first that is not

-- all texts are in their grammars
abbrev AllIn : List Piece → Type 0
AllIn [] = ⊤
AllIn (p ∷ ps) = IsInGrammar p × AllIn ps

decide_piece : (p : Piece) → IsInGrammar p ⊎ (IsInGrammar p → ⊥)
decide_piece (concept bytes) = decide_concept bytes
decide_piece (implication bytes) = decide_axiom bytes

-- a text that is outside stands before all others
outside_here : (p : Piece) (ps : List Piece) → (IsInGrammar p → ⊥) → IsFirstOutside (p ∷ ps) zero
outside_here p ps out =
    record {
      piece = p;
      is_there = refl;
      outside = out;
      before = λ k other below there. absurd (omega (arith, below));
    }

-- after a text that is inside, the first that is outside is one place later
outside_later : (p : Piece) (ps : List Piece) (n : ℕ) → IsInGrammar p → IsFirstOutside ps n → IsFirstOutside (p ∷ ps) (suc n)
outside_later p ps n inside first =
    record { piece = first.piece; is_there = first.is_there; outside = first.outside; before = earlier }
  where
    earlier : (k : ℕ) (other : Piece) → k < suc n → slice_get (p ∷ ps) k ≡ Some other → IsInGrammar other
    earlier zero other below there = let same : p ≡ other = cc there in subst IsInGrammar same inside
    earlier (suc k) other below there = first.before k other (omega (arith, below)) there

join : (p : Piece) (ps : List Piece) → IsInGrammar p ⊎ (IsInGrammar p → ⊥) → AllIn ps ⊎ ((n : ℕ) × IsFirstOutside ps n) → AllIn (p ∷ ps) ⊎ ((n : ℕ) × IsFirstOutside (p ∷ ps) n)
join p ps (inr out) rest = inr (zero, outside_here p ps out)
join p ps (inl inside) (inl all) = inl (inside, all)
join p ps (inl inside) (inr found) = inr (suc found.0, outside_later p ps found.0 inside found.1)

decide_pieces : (ps : List Piece) → AllIn ps ⊎ ((n : ℕ) × IsFirstOutside ps n)
decide_pieces [] = inl tt
decide_pieces (p ∷ ps) = join p ps (decide_piece p) (decide_pieces ps)

-- ---- where all texts are in their grammars, they have trees

split_all : (ps qs : List Piece) → AllIn (ps ++ qs) → AllIn ps × AllIn qs
split_all [] qs all = (tt, all)
split_all (p ∷ ps) qs all = let (first, second) = split_all ps qs all.1 in ((all.0, first), second)

axioms_parse : (axioms : List (List ℕ)) → AllIn (map implication axioms) → (trees : List (Term × Term)) × Each SpellsSides axioms trees
axioms_parse [] all = ([], tt)
axioms_parse (bytes ∷ axioms) all =
    let (trees, spelt) = axioms_parse axioms all.1 in
    ((all.0.0, all.0.1) ∷ trees, (all.0.2, spelt))

rules_parse : (rules : List RuleForm) → AllIn (rule_pieces rules) → (trees : List RuleTree) × Each SpellsRule rules trees
rules_parse [] all = ([], tt)
rules_parse (rule ∷ rules) all =
    let (trees, spelt) = rules_parse rules all.1.1 in (
      record { from = rule.from; source = all.0.0; target = all.1.0.0 } ∷ trees,
      (record { from = refl; source = all.0.1; target = all.1.0.1 }, spelt),
    )

form_parses : (w : Written) → AllIn (pieces_of w) → (p : Parsed) × Parses w p
form_parses (form.peers names) all = (text.peers names, refl)
form_parses (form.put peer axioms into onto) all =
    let (first, rules) = split_all (map implication axioms) (rule_pieces into ++ rule_pieces onto) all in
    let (second, third) = split_all (rule_pieces into) (rule_pieces onto) rules in
    let (sides, sides_spelt) = axioms_parse axioms first in
    let (sources, sources_spelt) = rules_parse into second in
    let (targets, targets_spelt) = rules_parse onto third in (
      text.put peer sides sources targets,
      (sides, sources, targets, sides_spelt, sources_spelt, targets_spelt, refl),
    )
form_parses (form.ask peer left right expansions verdicts) all =
    (text.ask peer all.0.0 all.1.0.0 expansions verdicts, (all.0.0, all.1.0.0, all.0.1, all.1.0.1, refl))
form_parses (form.check peer left right pin cert) all =
    (text.check peer all.0.0 all.1.0.0 pin cert, (all.0.0, all.1.0.0, all.0.1, all.1.0.1, refl))
form_parses form.versions all = (text.versions, refl)

-- ---- the two together

by_pieces : (w : Written) → AllIn (pieces_of w) ⊎ ((n : ℕ) × IsFirstOutside (pieces_of w) n) → Parsing w
by_pieces w (inl all) = let (p, spelt) = form_parses w all in record { texts = text.parsed p; is_parse = spelt }
by_pieces w (inr found) = record { texts = text.outside found.0; is_parse = found.1 }

-- every form's texts are all read, or one is the first that is outside its grammar
pub every_form_parses : (w : Written) → Parsing w
every_form_parses w = by_pieces w (decide_pieces (pieces_of w))
