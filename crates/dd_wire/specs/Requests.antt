-- What a request asks for: its peers, names and roles are numbers.
use Rattle.std.specs.Prelude.{◌≡◌, ℕ, Bool, true, List, [], ◌∷◌, ◌++◌, All, map, flat_map, if◌then◌else◌, Option, unwrap_or, Result, Ok, Err, ⊤}
use Rattle.serde_json.specs.View.{view}
use Rattle.serde_json.specs.declared.value.Value.{Value}
use Rattle.dd_concept.specs.declared.concept.Axiom.{Axiom}
use Rattle.dd_concept.specs.declared.concept.Concept.{Concept}
use Rattle.dd_text.specs.Grammar.{Term}
use Rattle.dd_text.specs.Reads.{IsSmall, request_limits}
use Rattle.dd_text.specs.Symbols.{SymbolLists, has_text, number_of}
use Rattle.dd_text.specs.Text.{axiom_of, concept_of, has_symbols}
use Rattle.dd_peer.specs.declared.version.PeerVersion.{PeerVersion}
use Rattle.dd_peer.specs.declared.version.Query.{Query}
use Rattle.dd_peer.specs.declared.version.Rule.{Rule}
use Rattle.dd_peer.specs.Versions.{IsNumbered}
use Rattle.dd_wire.specs.declared.request.Request.{Request}
use Rattle.dd_wire.specs.declared.request.Request.TheVariants as request
use Rattle.dd_wire.specs.declared.request.WireErr.{WireErr}
use Rattle.dd_wire.specs.declared.request.WireErr.TheVariants.{Code, NoMemory}
use Rattle.dd_wire.specs.Forms.{Written}
use Rattle.dd_wire.specs.Lines.{form_in}
use Rattle.dd_wire.specs.Placed.{placed}
use Rattle.dd_wire.specs.Refusal.{Tested}
use Rattle.dd_wire.specs.Texts.{Parsed, RuleTree, peers, put, ask, check, versions, Parse, IsParse, Resolved, sized_texts}

-- ---- numbers

-- the number of the peer that a rule comes from; one that is not declared has the largest number
abbrev pub source_number : List (List ℕ) → List ℕ → ℕ
source_number names from = if has_text names from then number_of names from else 4294967295

abbrev pub rule_of_trees : List (List ℕ) → SymbolLists → RuleTree → Rule
rule_of_trees names s r = record { from = source_number names r.from; source = concept_of s r.source; target = concept_of s r.target }

abbrev pub version_of : List (List ℕ) → SymbolLists → List (Term × Term) → List RuleTree → List RuleTree → PeerVersion
version_of names s axioms into onto = record {
  axioms = map (λ (sides : Term × Term). axiom_of s sides.0 sides.1) axioms;
  into = map (rule_of_trees names s) into;
  onto = map (rule_of_trees names s) onto;
}

abbrev pub query_of : List (List ℕ) → SymbolLists → List ℕ → Term → Term → Query
query_of names s peer left right = record { peer = number_of names peer; left = concept_of s left; right = concept_of s right }

-- the request that trees are, by the numbers of peers and symbols
abbrev pub IsRequest : List (List ℕ) → SymbolLists → Parsed → Request → Type 0
IsRequest names s (peers ns) r = r ≡ request.Peers ns
IsRequest names s (put peer axioms into onto) r = r ≡ request.Put (number_of names peer) (version_of names s axioms into onto)
IsRequest names s (ask peer left right expansions verdicts) r = r ≡ request.Ask (query_of names s peer left right) expansions verdicts
IsRequest names s (check peer left right pin cert) r = (value : Value) × (view value ≡ cert)
    × (r ≡ request.Check (query_of names s peer left right) (record { versions = pin }) value)
IsRequest names s versions r = r ≡ request.Versions

-- ---- the tests of a request, in their order

abbrev pub AfterPlace : Tested Bool → SymbolLists → Written → Tested Resolved → Type 0
AfterPlace (Err e) old w found = found ≡ Err e
AfterPlace (Ok is) old w found = (texts : Parse) × IsParse w texts × (found ≡ sized_texts old texts)

-- what the tests of peers and texts find
abbrev pub Tests : Option (List (List ℕ)) → SymbolLists → Written → Tested Resolved → Type 0
Tests names old w found = AfterPlace (placed names w) old w found

abbrev pub AfterForm : Tested Written → Option (List (List ℕ)) → SymbolLists → Tested Resolved → Type 0
AfterForm (Err e) names old found = found ≡ Err e
AfterForm (Ok w) names old found = Tests names old w found

-- what the tests of a line find: those of its form come before those of its peers and texts
abbrev pub TestsLine : Option (List (List ℕ)) → SymbolLists → List ℕ → Tested Resolved → Type 0
TestsLine names old line found = AfterForm (form_in line) names old found

-- ---- what is answered

-- what is answered where the tests find what this says: the request, and its symbols are added; or the refusal, and the
-- symbols stay
abbrev pub ReadsRequest : (Tested Resolved → Type 0) → List (List ℕ) → (old new : SymbolLists) → Result Request WireErr → Type 0
ReadsRequest Finds names old new (Ok r) = (p : Parsed) × Finds (Ok (record { request = p; symbols = new })) × IsRequest names new p r
ReadsRequest Finds names old new (Err (Code code n)) = (new ≡ old) × Finds (Err (record { code = code; n = n }))
ReadsRequest Finds names old new (Err NoMemory) = new ≡ old

-- the declared names, none where there are none yet
abbrev pub declared_names : Option (List (List ℕ)) → List (List ℕ)
declared_names names = unwrap_or names []

-- ---- what holds of every request

-- the two concepts of an axiom, and of a rule
abbrev pub sides_in : Axiom → List Concept
sides_in a = a.left ∷ a.right ∷ []

abbrev pub sides_by : Rule → List Concept
sides_by r = r.source ∷ r.target ∷ []

-- the concepts of a version, as they stand there, and those of a query
abbrev pub concepts_of : PeerVersion → List Concept
concepts_of v = flat_map sides_in v.axioms ++ flat_map sides_by (v.into ++ v.onto)

abbrev pub concepts_in : Query → List Concept
concepts_in q = q.left ∷ q.right ∷ []

-- the names and the roles of the concept are among the symbols, and it is within the limits of requests
pub record IsWritten (s : SymbolLists) (c : Concept) : Type 0 where
  pub named : has_symbols s c ≡ true
  pub small : IsSmall request_limits c

-- all concepts of the request are written with the symbols
abbrev pub IsWrittenRequest : SymbolLists → Request → Type 0
IsWrittenRequest s (request.Peers names) = ⊤
IsWrittenRequest s (request.Put peer v) = All (IsWritten s) (concepts_of v)
IsWrittenRequest s (request.Ask q expansions verdicts) = All (IsWritten s) (concepts_in q)
IsWrittenRequest s (request.Check q pin cert) = All (IsWritten s) (concepts_in q)
IsWrittenRequest s request.Versions = ⊤

-- the version of a put can be numbered
abbrev pub IsNumberedRequest : Request → Type 0
IsNumberedRequest (request.Peers names) = ⊤
IsNumberedRequest (request.Put peer v) = IsNumbered v
IsNumberedRequest (request.Ask q expansions verdicts) = ⊤
IsNumberedRequest (request.Check q pin cert) = ⊤
IsNumberedRequest request.Versions = ⊤
