-- Which values are certificates, what one is evidence of, and where a value stops to be one: by kinds.
use Rattle.std.specs.Prelude.{◌≡◌, ℕ, ◌+◌, not, nat_le, nat_lt, List, [], ◌∷◌, ◌++◌, map, position, if◌then◌else◌, Option, None, Some, Result, Ok, Err, codes, ⊤}
use Rattle.std.specs.List.{flat_map}
use Rattle.serde_json.specs.Data.{Data}
use Rattle.dd_json.specs.InOrder.{wanted}
pub use Rattle.dd_json.specs.InOrder.{◌>>=◌, unless}
use Rattle.dd_json.specs.Members.{largest_index}
use Rattle.dd_text.specs.Names.{names_a_thing}
use Rattle.dd_text.specs.Reads.{told}
use Rattle.dd_text.specs.Symbols.{SymbolLists, most_symbols, symbol_count, number_of, with_texts}
use Rattle.dd_interp.specs.declared.interp.Interp.{Interp}
use Rattle.dd_world.specs.declared.world.World.{World}
use Rattle.dd_cert.specs.declared.form.CertForm.{CertForm}
use Rattle.dd_cert.specs.declared.form.CertForm.TheVariants as form
use Rattle.dd_cert.specs.declared.form.Kind.{Kind}
use Rattle.dd_cert.specs.declared.form.Kind.TheVariants as kind
use Rattle.dd_cert.specs.declared.form.LineForm.{LineForm}
use Rattle.dd_cert.specs.declared.form.LocalForm.{LocalForm}
use Rattle.dd_cert.specs.declared.form.WorldForm.{WorldForm}
use Rattle.dd_cert.specs.declared.read.Cert.{Cert}
use Rattle.dd_cert.specs.declared.read.Cert.TheVariants as cert
use Rattle.dd_cert.specs.declared.read.CertErr.{CertErr}
use Rattle.dd_cert.specs.declared.read.CertErr.TheVariants as err
use Rattle.dd_cert.specs.Forms.{format_at, kind_at, links_at, locals_at}
use Rattle.dd_cert.specs.LineForms.{lines_at}
use Rattle.dd_cert.specs.Derivations.{IsParse, Parse, line_by, numbers_of_line, parsed, stopped, with_lines}

-- where a value stops to be a certificate: a member with another form, a number that is too large, a text that is not what
-- it is to be, or one symbol too many
pub data Unreadable : Type 0 where
  field : List ℕ → Unreadable
  place : ℕ → ℕ → Unreadable
  text : ℕ → Unreadable
  full : Unreadable

-- what passes a test, or why it does not
abbrev pub Tried : Type 0 → Type 0
Tried A = Result A Unreadable

-- a member that has to be there
abbrev pub member : {A : Type 0} → List ℕ → Option A → Tried A
member name found = wanted (field name) found

-- ---- the form

-- the world as it is written
unfoldable pub world_form : Data → Tried WorldForm
world_form d = do
  links ← member (codes "links") (links_at d)
  locals ← member (codes "locals") (locals_at d)
  Ok (record { links = links; locals = locals })

-- the certificate as it is written, by its kind
abbrev pub form_by : Kind → Data → Tried CertForm
form_by kind.Yes d = member (codes "lines") (lines_at d) >>= (λ lines. Ok (form.Yes lines))
form_by kind.No d = world_form d >>= (λ w. Ok (form.No w))

unfoldable pub cert_form : Data → Tried CertForm
cert_form d = do
  format ← member (codes "format") (format_at d)
  kind ← member (codes "kind") (kind_at d)
  form_by kind d

-- ---- the numbers, from 0 in reading order

abbrev pub numbers_of_link : ℕ × ℕ × ℕ × ℕ → List ℕ
numbers_of_link l = l.0 ∷ l.1 ∷ l.2 ∷ l.3 ∷ []

abbrev pub numbers_of_role : List ℕ × ℕ × ℕ → List ℕ
numbers_of_role r = r.1 ∷ r.2 ∷ []

abbrev pub numbers_of_local : LocalForm → List ℕ
numbers_of_local l = map (λ (n : List ℕ × ℕ). n.1) l.names ++ (flat_map numbers_of_role l.roles ++ l.size ∷ [])

abbrev pub numbers_of : WorldForm → List ℕ
numbers_of w = flat_map numbers_of_link w.links ++ flat_map numbers_of_local w.locals

-- the first that is too large, with its place from k on
abbrev pub first_above : ℕ → List ℕ → Option (ℕ × ℕ)
first_above k [] = None
first_above k (n ∷ ns) = if nat_lt largest_index n then Some (k, n) else first_above (k + 1) ns

abbrev pub none_above : Option (ℕ × ℕ) → Tried ⊤
none_above None = Ok tt
none_above (Some at) = Err (place at.0 at.1)

-- ---- the texts, from 0 in reading order

abbrev pub names_of_local : LocalForm → List (List ℕ)
names_of_local l = map (λ (n : List ℕ × ℕ). n.0) l.names

abbrev pub roles_of_local : LocalForm → List (List ℕ)
roles_of_local l = map (λ (r : List ℕ × ℕ × ℕ). r.0) l.roles

abbrev pub texts_of : WorldForm → List (List ℕ)
texts_of w = flat_map (λ l. names_of_local l ++ roles_of_local l) w.locals

abbrev pub all_named : Option ℕ → Tried ⊤
all_named None = Ok tt
all_named (Some k) = Err (text k)

-- ---- the world

-- the symbols with those of the world, the new ones in reading order
abbrev pub with_world : SymbolLists → WorldForm → SymbolLists
with_world s w = record { names = with_texts s.names (flat_map names_of_local w.locals); roles = with_texts s.roles (flat_map roles_of_local w.locals) }

abbrev pub local_by : SymbolLists → LocalForm → Interp
local_by s l = record {
  size = l.size;
  names = map (λ (n : List ℕ × ℕ). (number_of s.names n.0, n.1)) l.names;
  roles = map (λ (r : List ℕ × ℕ × ℕ). (number_of s.roles r.0, r.1, r.2)) l.roles;
}

abbrev pub world_by : SymbolLists → WorldForm → World
world_by s w = record { locals = map (local_by s) w.locals; links = w.links }

-- the evidence, and the symbols with those that it brings
pub record Certified : Type 0 where
  pub cert : Cert
  pub symbols : SymbolLists

-- the world that a form is, or where it stops to be one: first its numbers, then its texts, and at last the room for symbols
abbrev pub certified_world : SymbolLists → WorldForm → Tried Certified
certified_world s w = none_above (first_above 0 (numbers_of w))
    >>= (λ below. all_named (position (λ t. not (names_a_thing t)) (texts_of w))
    >>= (λ named. unless full (nat_le (symbol_count (with_world s w)) most_symbols)
    >>= (λ room. Ok (record { cert = cert.No (world_by (with_world s w) w); symbols = with_world s w }))))

-- the lines that a derivation is, or where it stops to be one, once its numbers were tested: first its texts, and then the room
-- for symbols
abbrev pub certified_lines : SymbolLists → Parse → Tried Certified
certified_lines s (stopped n) = Err (text n)
certified_lines s (parsed trees) = unless full (nat_le (symbol_count (with_lines s trees)) most_symbols)
    >>= (λ room. Ok (record { cert = cert.Yes (map (line_by (with_lines s trees)) trees); symbols = with_lines s trees }))

-- the same with its numbers, by the first that is too large, which comes before all texts
abbrev pub IsDerivationFrom : SymbolLists → List LineForm → Option (ℕ × ℕ) → Tried Certified → Type 0
IsDerivationFrom s lines (Some at) found = found ≡ Err (place at.0 at.1)
IsDerivationFrom s lines None found = (reading : Parse) × IsParse lines reading × (found ≡ certified_lines s reading)

-- what a form is evidence of, by its kind
abbrev pub IsEvidence : SymbolLists → CertForm → Tried Certified → Type 0
IsEvidence s (form.Yes lines) found = IsDerivationFrom s lines (first_above 0 (flat_map numbers_of_line lines)) found
IsEvidence s (form.No w) found = found ≡ certified_world s w

abbrev pub IsEvidenceOf : SymbolLists → Tried CertForm → Tried Certified → Type 0
IsEvidenceOf s (Err e) found = found ≡ Err e
IsEvidenceOf s (Ok f) found = IsEvidence s f found

-- what a value is evidence of, or where it stops to be a certificate: its form comes before all else
abbrev pub IsCertIn : SymbolLists → Data → Tried Certified → Type 0
IsCertIn s d found = IsEvidenceOf s (cert_form d) found

-- ---- what is answered

-- an error tells where the value stops to be a certificate, or of want of memory
abbrev pub Tells : CertErr → Tried Certified → Type 0
Tells (err.Shape name) found = found ≡ Err (field name.now)
Tells (err.Index at value) found = (k : ℕ) × (found ≡ Err (place k value)) × (at ≡ told k)
Tells (err.Text index) found = (k : ℕ) × (found ≡ Err (text k)) × (index ≡ told k)
Tells err.SymbolsFull found = found ≡ Err full
Tells err.NoMemory found = Unit {0}

-- the evidence that the value is, and its symbols are added; or why it is none, and the symbols stay
abbrev pub ReadsCert : (old new : SymbolLists) → Data → Result Cert CertErr → Type 0
ReadsCert old new d (Ok c) = IsCertIn old d (Ok (record { cert = c; symbols = new }))
ReadsCert old new d (Err e) = (new ≡ old) × (found : Tried Certified) × IsCertIn old d found × Tells e found
