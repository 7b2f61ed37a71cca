-- For private clauses: how far the reading of the texts of a request has come, and what each reader of texts does to that.
use Rattle.std.specs.Prelude.{◌≡◌, ℕ, ◌+◌, Bool, true, false, List, [], ◌∷◌, ◌++◌, map, Option, None, Some, Result, Ok, Err, ⊤}
use Rattle.serde_json.specs.declared.value.Value.{Value}
use Rattle.dd_concept.specs.declared.concept.Concept.{Concept}
use Rattle.dd_concept.specs.declared.concept.Axiom.{Axiom}
use Rattle.dd_peer.specs.declared.version.Query.{Query}
use Rattle.dd_peer.specs.declared.version.Rule.{Rule}
use Rattle.dd_text.specs.Grammar.{Term, Spells}
use Rattle.dd_text.specs.Symbols.{SymbolLists, Grows, number_of}
use Rattle.dd_text.specs.Text.{axiom_of, concept_of}
use Rattle.dd_text.specs.declared.read.TextErr.{TextErr}
use Rattle.dd_text.specs.declared.read.TextErr.TheVariants as err
use Rattle.dd_wire.specs.declared.form.RuleForm.{RuleForm}
use Rattle.dd_wire.specs.declared.request.Request.{Request}
use Rattle.dd_wire.specs.declared.request.Request.TheVariants as request
use Rattle.dd_wire.specs.declared.request.WireErr.{WireErr}
use Rattle.dd_wire.specs.declared.request.WireErr.TheVariants.{Code, NoMemory}
use Rattle.dd_wire.specs.declared.texts.Tally.{Tally}
use Rattle.dd_wire.specs.Forms as form
use Rattle.dd_wire.specs.Placed.{at_peer}
use Rattle.dd_wire.specs.Refusal.{Tested, ◌>>=◌, demand, demand_none, bad_concept, concept_limit, symbols_full}
use Rattle.dd_wire.specs.Texts.{Piece, concept, implication, rule_pieces, IsFirstOutside, RuleTree, Parsed, Resolved, Each, SpellsSides, SpellsRule, sides_of, rule_trees, are_small, first_large, with_terms, with_texts, has_room}
use Rattle.dd_wire.specs.Requests.{rule_of_trees, query_of, declared_names, Tests, IsRequest}

-- ---- progress

-- what was counted, and the symbols so far
pub record Progress : Type 0 where
  pub tally : Tally
  pub symbols : SymbolLists

abbrev pub progress : Tally → SymbolLists → Progress
progress tally symbols = record { tally = tally; symbols = symbols }

abbrev pub no_texts : Tally
no_texts = record { texts = 0; large = None; full = false }

-- one text more: it is a text like others; it is too large; there is no room for its symbols
abbrev pub with_small : Tally → Tally
with_small t = record { texts = t.texts + 1; large = t.large; full = t.full }

abbrev pub first_of : Option ℕ → ℕ → Option ℕ
first_of None n = Some n
first_of (Some m) n = Some m

abbrev pub with_large : Tally → Tally
with_large t = record { texts = t.texts + 1; large = first_of t.large t.texts; full = t.full }

abbrev pub with_full : Tally → Tally
with_full t = record { texts = t.texts + 1; large = t.large; full = true }

abbrev pub after_by_room : Bool → Progress → List Term → Progress
after_by_room true p trees = record { tally = with_small p.tally; symbols = with_terms p.symbols trees }
after_by_room false p trees = record { tally = with_full p.tally; symbols = p.symbols }

abbrev pub after_by_size : Bool → Progress → List Term → Progress
after_by_size true p trees = after_by_room (has_room (with_terms p.symbols trees)) p trees
after_by_size false p trees = record { tally = with_large p.tally; symbols = p.symbols }

-- after one text with these trees
unfoldable pub after_text : Progress → List Term → Progress
after_text p trees = after_by_size (are_small trees) p trees

-- after several texts
abbrev pub after_texts : Progress → List (List Term) → Progress
after_texts p [] = p
after_texts p (trees ∷ texts) = after_texts (after_text p trees) texts

-- no text was too large, and there was room for the symbols of each
pub record IsSound (p : Progress) : Type 0 where
  pub large : p.tally.large ≡ None
  pub full : p.tally.full ≡ false

-- what may be later
pub record Leads (p q : Progress) : Type 0 where
  pub sound : IsSound q → IsSound p
  pub grows : Grows p.symbols q.symbols

-- ---- what was read is what its tree says, by the symbols of any later moment at which no text was refused

abbrev pub IsConceptAfter : Progress → Term → Concept → Type 0
IsConceptAfter p t c = (q : Progress) → Leads p q → IsSound q → c ≡ concept_of q.symbols t

abbrev pub IsAxiomAfter : Progress → Term × Term → Axiom → Type 0
IsAxiomAfter p sides a = (q : Progress) → Leads p q → IsSound q → a ≡ axiom_of q.symbols sides.0 sides.1

abbrev pub IsRuleAfter : List (List ℕ) → Progress → RuleTree → Rule → Type 0
IsRuleAfter names p t r = (q : Progress) → Leads p q → IsSound q → r ≡ rule_of_trees names q.symbols t

-- ---- readers of texts

-- what a refusal of a text does to the tally, or to the reading
abbrev pub noted_of : Tally → TextErr → Result Tally WireErr
noted_of t (err.Bad at) = Err (Code bad_concept (Some t.texts))
noted_of t (err.TooLarge nodes) = Ok (with_large t)
noted_of t (err.TooDeep depth) = Ok (with_large t)
noted_of t err.SymbolsFull = Ok (with_full t)
noted_of t err.NoMemory = Err NoMemory

-- the first piece that is not in its grammar is told, by its number among all texts
abbrev pub IsFault : Progress → List Piece → WireErr → Type 0
IsFault old pieces (Code code n) = (k : ℕ) × IsFirstOutside pieces k × (code ≡ bad_concept) × (n ≡ Some (old.tally.texts + k))
IsFault old pieces NoMemory = Unit {0}

pub record Stops (old : Progress) (pieces : List Piece) (new : Progress) (e : WireErr) : Type 0 where
  pub grows : Grows old.symbols new.symbols
  pub fault : IsFault old pieces e

unfoldable pub ReadsText : Progress → List ℕ → Progress → Result Concept WireErr → Type 0
ReadsText old text new (Ok c) = (t : Term) × Spells text t × (new ≡ after_text old (t ∷ [])) × IsConceptAfter new t c
ReadsText old text new (Err e) = Stops old (concept text ∷ []) new e

unfoldable pub ReadsAxioms : Progress → List (List ℕ) → Progress → Result (List Axiom) WireErr → Type 0
ReadsAxioms old texts new (Ok axioms) = (trees : List (Term × Term)) × Each SpellsSides texts trees × (new ≡ after_texts old (map sides_of trees)) × Each (IsAxiomAfter new) trees axioms
ReadsAxioms old texts new (Err e) = Stops old (map implication texts) new e

unfoldable pub ReadsRules : List (List ℕ) → Progress → List RuleForm → Progress → Result (List Rule) WireErr → Type 0
ReadsRules names old forms new (Ok rules) = (trees : List RuleTree) × Each SpellsRule forms trees × (new ≡ after_texts old (rule_trees trees)) × Each (IsRuleAfter names new) trees rules
ReadsRules names old forms new (Err e) = Stops old (rule_pieces forms) new e

-- a list of one item, and a list behind another one
abbrev pub single : {A : Type 0} → Result A WireErr → Result (List A) WireErr
single (Ok x) = Ok (x ∷ [])
single (Err e) = Err e

abbrev pub behind : {A : Type 0} → List A → Result (List A) WireErr → Result (List A) WireErr
behind xs (Ok ys) = Ok (xs ++ ys)
behind xs (Err e) = Err e

-- ---- after the last text

abbrev pub finished_room : Bool → Result ⊤ WireErr
finished_room true = Err (Code symbols_full None)
finished_room false = Ok tt

abbrev pub finished_by : Option ℕ → Bool → Result ⊤ WireErr
finished_by (Some n) full = Err (Code concept_limit (Some n))
finished_by None full = finished_room full

abbrev pub finished : Tally → Result ⊤ WireErr
finished t = finished_by t.large t.full

-- what was read, where these tests find nothing
abbrev pub passed_on : {A : Type 0} → Result ⊤ WireErr → A → Result A WireErr
passed_on (Ok is) x = Ok x
passed_on (Err e) x = Err e

-- the tests of the trees of all texts, and the symbols with theirs
unfoldable pub size_test : SymbolLists → List (List Term) → Tested SymbolLists
size_test s trees = demand_none concept_limit (first_large trees)
    >>= (λ small. demand symbols_full (has_room (with_texts s trees)) >>= (λ room. Ok (with_texts s trees)))

-- ---- requests

-- the number of a declared peer, or why it has none
abbrev pub IsPeer : Option (List (List ℕ)) → List ℕ → Result ℕ WireErr → Type 0
IsPeer names peer (Ok n) = (at_peer names peer ≡ Ok true) × (n ≡ number_of (declared_names names) peer)
IsPeer names peer (Err (Code code n)) = at_peer names peer ≡ Err (record { code = code; n = n })
IsPeer names peer (Err NoMemory) = Unit {0}

-- the refusal that the tests find, or want of memory
abbrev pub IsFound : (Tested Resolved → Type 0) → WireErr → Type 0
IsFound Finds (Code code n) = Finds (Err (record { code = code; n = n }))
IsFound Finds NoMemory = Unit {0}

-- as `Reads`, but after a refusal there may be more symbols
unfoldable pub ReadsOn : (Tested Resolved → Type 0) → List (List ℕ) → (old new : SymbolLists) → Result Request WireErr → Type 0
ReadsOn Finds names old new (Ok r) = (p : Parsed) × Finds (Ok (record { request = p; symbols = new })) × IsRequest names new p r
ReadsOn Finds names old new (Err e) = Grows old new × IsFound Finds e

-- a query about a declared peer; the tests are those of an ask
unfoldable pub ReadsQuery : Option (List (List ℕ)) → SymbolLists → (peer left right : List ℕ) → SymbolLists → Result Query WireErr → Type 0
ReadsQuery names old peer left right new (Ok q) = (l : Term) × (r : Term) × (at_peer names peer ≡ Ok true) × Spells left l × Spells right r
    × (size_test old ((l ∷ []) ∷ (r ∷ []) ∷ []) ≡ Ok new) × (q ≡ query_of (declared_names names) new peer l r)
ReadsQuery names old peer left right new (Err e) = Grows old new × IsFound (Tests names old (form.ask peer left right None None)) e

-- the request about a query, or why there is none
abbrev pub asked : Result Query WireErr → Option ℕ → Option ℕ → Result Request WireErr
asked (Ok q) expansions verdicts = Ok (request.Ask q expansions verdicts)
asked (Err e) expansions verdicts = Err e

abbrev pub checked : Result Query WireErr → List ℕ → Value → Result Request WireErr
checked (Ok q) pin cert = Ok (request.Check q (record { versions = pin }) cert)
checked (Err e) pin cert = Err e
