-- How the evidence of an answer is written: its certificate as a JSON value, the members of each object in the byte order of their names.
use Rattle.std.specs.Prelude.{ℕ, ◌&&◌, Bool, true, nat_le, nat_lt, List, [], ◌∷◌, ◌++◌, length, map, Option, None, Some, IsTrue, codes}
use Rattle.std.specs.List.{list_all}
use Rattle.serde_json.specs.Data.{Data, null, unsigned, number, string, array, object, Members, no_members, member}
use Rattle.serde_json.specs.View.{items_of}
use Rattle.dd_concept.specs.declared.concept.Concept.{Concept}
use Rattle.dd_concept.specs.Counts.{depth_of, node_count}
use Rattle.dd_concept.specs.Sizes.{most_normal_nodes, most_normal_depth}
use Rattle.dd_json.specs.Members.{largest_index}
use Rattle.dd_text.specs.Symbols.{SymbolLists}
use Rattle.dd_text.specs.Text.{concept_text, has_symbols, text_at}
use Rattle.dd_interp.specs.declared.interp.Interp.{Interp}
use Rattle.dd_world.specs.declared.world.World.{World}
use Rattle.dd_task.specs.declared.line.Line.{Line}
use Rattle.dd_task.specs.declared.line.Why.{Why}
use Rattle.dd_task.specs.declared.line.Why.TheVariants as why
use Rattle.dd_answer.specs.declared.answer.Answer.{Answer}
use Rattle.dd_answer.specs.declared.answer.Answer.TheVariants as answer
use Rattle.dd_cert.specs.declared.read.Cert.{Cert}
use Rattle.dd_cert.specs.declared.read.Cert.TheVariants as cert

-- ---- parts

abbrev pub whole_number : ℕ → Data
whole_number n = number (unsigned n)

abbrev pub list_data : List Data → Data
list_data ds = array (items_of ds)

abbrev pub numbers_data : List ℕ → Data
numbers_data ns = list_data (map whole_number ns)

abbrev pub concept_data : SymbolLists → Concept → Data
concept_data s c = string (concept_text s c)

-- what a certificate of this kind begins with
abbrev pub head_members : List ℕ → Members
head_members kind = member (codes "format") (whole_number 1) (member (codes "kind") (string kind) no_members)

-- ---- derivations

abbrev pub rule_data : List ℕ → Data
rule_data name = string name

abbrev pub why_data : SymbolLists → Why → Data
why_data s why.Bottom = object (member (codes "rule") (rule_data (codes "bottom")) no_members)
why_data s (why.Clash name) = object (member (codes "name") (string (text_at s.names name)) (member (codes "rule") (rule_data (codes "clash")) no_members))
why_data s (why.And at cite) = object (member (codes "at") (whole_number at) (member (codes "cite") (whole_number cite)
    (member (codes "rule") (rule_data (codes "and")) no_members)))
why_data s (why.Or at left right) = object (member (codes "at") (whole_number at) (member (codes "left") (whole_number left)
    (member (codes "right") (whole_number right) (member (codes "rule") (rule_data (codes "or")) no_members))))
why_data s (why.Axiom index left right) = object (member (codes "axiom") (whole_number index) (member (codes "left") (whole_number left)
    (member (codes "right") (whole_number right) (member (codes "rule") (rule_data (codes "axiom")) no_members))))
why_data s (why.Cut on with_it without_it) = object (member (codes "no") (whole_number without_it) (member (codes "on") (concept_data s on)
    (member (codes "rule") (rule_data (codes "cut")) (member (codes "yes") (whole_number with_it) no_members))))
why_data s (why.Successor at cite) = object (member (codes "at") (whole_number at) (member (codes "cite") (whole_number cite)
    (member (codes "rule") (rule_data (codes "successor")) no_members)))
why_data s (why.Bridge from onto into_set cite each) = object (member (codes "cite") (whole_number cite) (member (codes "each") (numbers_data each)
    (member (codes "from") (whole_number from) (member (codes "into") (numbers_data into_set) (member (codes "onto") (whole_number onto)
    (member (codes "rule") (rule_data (codes "bridge")) no_members))))))

abbrev pub line_data : SymbolLists → Line → Data
line_data s l = object (member (codes "label") (list_data (map (concept_data s) l.label)) (member (codes "peer") (whole_number l.peer)
    (member (codes "why") (why_data s l.why) no_members)))

abbrev pub lines_data : SymbolLists → List Line → Data
lines_data s lines = object (member (codes "format") (whole_number 1) (member (codes "kind") (string (codes "yes"))
    (member (codes "lines") (list_data (map (line_data s) lines)) no_members)))

-- ---- worlds

abbrev pub link_data : ℕ × ℕ × ℕ × ℕ → Data
link_data l = numbers_data (l.0 ∷ l.1 ∷ l.2 ∷ l.3 ∷ [])

abbrev pub name_data : SymbolLists → ℕ × ℕ → Data
name_data s n = list_data (string (text_at s.names n.0) ∷ whole_number n.1 ∷ [])

abbrev pub role_data : SymbolLists → ℕ × ℕ × ℕ → Data
role_data s r = list_data (string (text_at s.roles r.0) ∷ whole_number r.1 ∷ whole_number r.2 ∷ [])

abbrev pub local_data : SymbolLists → Interp → Data
local_data s i = object (member (codes "names") (list_data (map (name_data s) i.names)) (member (codes "roles") (list_data (map (role_data s) i.roles))
    (member (codes "size") (whole_number i.size) no_members)))

abbrev pub world_data : SymbolLists → World → Data
world_data s w = object (member (codes "format") (whole_number 1) (member (codes "kind") (string (codes "no"))
    (member (codes "links") (list_data (map link_data w.links)) (member (codes "locals") (list_data (map (local_data s) w.locals)) no_members))))

-- ---- answers

-- the certificate of an answer, where it has one
abbrev pub cert_of : Answer → Option Cert
cert_of (answer.Yes lines) = Some (cert.Yes lines)
cert_of (answer.No w) = Some (cert.No w)
cert_of (answer.RunSpent run) = None
cert_of (answer.VerdictsSpent n) = None
cert_of answer.Memory = None

-- the certificate of an answer as it is written, which is nothing where it has none
abbrev pub cert_value : SymbolLists → Answer → Data
cert_value s (answer.Yes lines) = lines_data s lines
cert_value s (answer.No w) = world_data s w
cert_value s (answer.RunSpent run) = null
cert_value s (answer.VerdictsSpent n) = null
cert_value s answer.Memory = null

-- ---- what can be written

-- the names and roles of a reason, of a line and of a local interpretation have texts
abbrev pub why_has_symbols : SymbolLists → Why → Bool
why_has_symbols s (why.Clash name) = nat_lt name (length s.names)
why_has_symbols s (why.Cut on with_it without_it) = has_symbols s on
why_has_symbols s w = true

abbrev pub line_has_symbols : SymbolLists → Line → Bool
line_has_symbols s l = list_all (has_symbols s) l.label && why_has_symbols s l.why

abbrev pub name_has_symbols : SymbolLists → ℕ × ℕ → Bool
name_has_symbols s n = nat_lt n.0 (length s.names)

abbrev pub role_has_symbols : SymbolLists → ℕ × ℕ × ℕ → Bool
role_has_symbols s r = nat_lt r.0 (length s.roles)

abbrev pub local_has_symbols : SymbolLists → Interp → Bool
local_has_symbols s i = list_all (name_has_symbols s) i.names && list_all (role_has_symbols s) i.roles

-- the answer is a yes or a no, and its names and roles have texts
abbrev pub IsPrintable : SymbolLists → Answer → Type 0
IsPrintable s (answer.Yes lines) = IsTrue (list_all (line_has_symbols s) lines)
IsPrintable s (answer.No w) = IsTrue (list_all (local_has_symbols s) w.locals)
IsPrintable s (answer.RunSpent run) = ⊥
IsPrintable s (answer.VerdictsSpent n) = ⊥
IsPrintable s answer.Memory = ⊥

-- ---- what can be read again

-- a concept within the limits of certificates
abbrev pub is_small : Concept → Bool
is_small c = nat_le (node_count c) most_normal_nodes && nat_le (depth_of c) most_normal_depth

-- a number that may stand in a certificate
abbrev pub is_index : ℕ → Bool
is_index n = nat_le n largest_index

abbrev pub why_is_small : Why → Bool
why_is_small (why.Cut on with_it without_it) = is_small on
why_is_small w = true

abbrev pub line_is_small : Line → Bool
line_is_small l = list_all is_small l.label && why_is_small l.why

-- the numbers of a reason
abbrev pub indexes_of_why : Why → List ℕ
indexes_of_why why.Bottom = []
indexes_of_why (why.Clash name) = []
indexes_of_why (why.And at cite) = at ∷ cite ∷ []
indexes_of_why (why.Or at left right) = at ∷ left ∷ right ∷ []
indexes_of_why (why.Axiom index left right) = index ∷ left ∷ right ∷ []
indexes_of_why (why.Cut on with_it without_it) = without_it ∷ with_it ∷ []
indexes_of_why (why.Successor at cite) = at ∷ cite ∷ []
indexes_of_why (why.Bridge from onto into_set cite each) = cite ∷ (each ++ from ∷ (into_set ++ onto ∷ []))

abbrev pub line_has_indexes : Line → Bool
line_has_indexes l = is_index l.peer && list_all is_index (indexes_of_why l.why)

abbrev pub link_has_indexes : ℕ × ℕ × ℕ × ℕ → Bool
link_has_indexes l = is_index l.0 && is_index l.1 && is_index l.2 && is_index l.3

abbrev pub local_has_indexes : Interp → Bool
local_has_indexes i = list_all (λ (n : ℕ × ℕ). is_index n.1) i.names && list_all (λ (r : ℕ × ℕ × ℕ). is_index r.1 && is_index r.2) i.roles && is_index i.size

-- the concepts of the answer's certificate are within the limits of certificates
abbrev pub IsSmallAnswer : Answer → Type 0
IsSmallAnswer (answer.Yes lines) = IsTrue (list_all line_is_small lines)
IsSmallAnswer _ = IsTrue true

-- no number of the answer's certificate is too large, as numbers of 32 bits are
abbrev pub HasIndexes : Answer → Type 0
HasIndexes (answer.Yes lines) = IsTrue (list_all line_has_indexes lines)
HasIndexes (answer.No w) = IsTrue (list_all link_has_indexes w.links && list_all local_has_indexes w.locals)
HasIndexes _ = IsTrue true
