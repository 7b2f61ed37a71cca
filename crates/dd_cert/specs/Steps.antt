-- For private clauses: what the passes of reading a certificate answer: the form, the numbers, the texts and the room for symbols.
use Rattle.std.specs.Prelude.{◌≡◌, ℕ, ◌+◌, ◌<◌, length, map, nat_lt, nat_le, Bool, ◌&&◌, if◌then◌else◌, List, [], ◌∷◌, Option, option_and_then, Result, Ok, Err, codes}
use Rattle.std.specs.List.{fold, list_all}
use Rattle.serde_json.specs.Data.{Data}
use Rattle.serde_json.specs.Find.{get}
pub use Rattle.dd_json.specs.InOrder.{◌>>=◌}
use Rattle.dd_json.specs.Members.{largest_index}
use Rattle.dd_json.specs.Members as json
use Rattle.dd_json.specs.declared.shape.ShapeErr.{ShapeErr}
use Rattle.dd_json.specs.declared.shape.ShapeErr.TheVariants as shape
use Rattle.dd_concept.specs.declared.concept.Concept.{Concept}
use Rattle.dd_text.specs.Names.{names_a_thing}
use Rattle.dd_text.specs.Reads.{told}
use Rattle.dd_text.specs.Symbols.{Grows, SymbolLists, most_symbols, number_of, symbol_count, with_text}
use Rattle.dd_text.specs.declared.read.TextErr.{TextErr}
use Rattle.dd_text.specs.declared.read.TextErr.TheVariants as texts
use Rattle.dd_task.specs.declared.line.Line.{Line}
use Rattle.dd_cert.specs.declared.read.CertErr.{CertErr}
use Rattle.dd_cert.specs.declared.read.CertErr.TheVariants as err
use Rattle.dd_cert.specs.declared.add.AddErr.{AddErr}
use Rattle.dd_cert.specs.declared.add.AddErr.TheVariants as added
use Rattle.dd_cert.specs.declared.form.LocalForm.{LocalForm}
use Rattle.dd_cert.specs.declared.form.WorldForm.{WorldForm}
use Rattle.dd_cert.specs.declared.read.Cert.TheVariants as cert
use Rattle.dd_world.specs.declared.world.World.{World}
use Rattle.dd_cert.specs.declared.form.CertForm.{CertForm}
use Rattle.dd_cert.specs.declared.form.CertForm.TheVariants as kinds
use Rattle.dd_cert.specs.declared.read.Cert.{Cert}
use Rattle.dd_cert.specs.declared.form.LineForm.{LineForm}
use Rattle.dd_cert.specs.declared.form.WhyForm.{WhyForm}
use Rattle.dd_cert.specs.Certificates.{Certified, IsEvidence, Tried, Tells, field, certified_world}
use Rattle.dd_cert.specs.Derivations.{AllReadable, Each, IsFirstUnreadable, Piece, numbers_of_line, numbers_of_why}

-- the number of elements of a local interpretation
abbrev pub size_at : Data → Option ℕ
size_at d = option_and_then json.number_of (get (codes "size") d)

-- how a member of another form is told
abbrev pub IsTold : List ℕ → ShapeErr → CertErr → Type 0
IsTold name shape.Shape (err.Shape member) = member.now ≡ name
IsTold name shape.NoMemory err.NoMemory = Unit {0}
IsTold name e c = ⊥

-- the form is found, or the member that has another one
abbrev pub TellsForm : {A : Type 0} → CertErr → Tried A → Type 0
TellsForm (err.Shape name) found = found ≡ Err (field name.now)
TellsForm err.NoMemory found = Unit {0}
TellsForm e found = ⊥

abbrev pub Finds : {A : Type 0} → Result A CertErr → Tried A → Type 0
Finds (Ok x) found = found ≡ Ok x
Finds (Err e) found = TellsForm e found

-- what is made of a form by the passes after its shape
abbrev pub Certifies : (old new : SymbolLists) → WorldForm → Result World CertErr → Type 0
Certifies old new w (Ok world) = certified_world old w ≡ Ok (record { cert = cert.No world; symbols = new })
Certifies old new w (Err e) = (new ≡ old) × Tells e (certified_world old w)

-- ---- numbers and texts, with the places as they are told

-- the place behind the items, by a step that passes one item
abbrev pub walk : {X : Type 0} → (ℕ → X → Result ℕ CertErr) → ℕ → List X → Result ℕ CertErr
walk step at [] = Ok at
walk step at (x ∷ xs) = step at x >>= (λ next. walk step next xs)

-- a number that is not too large, and a text that is a name
abbrev pub past_number : ℕ → ℕ → Result ℕ CertErr
past_number at n = if nat_lt largest_index n then Err (err.Index at n) else Ok (told (at + 1))

abbrev pub past_text : ℕ → List ℕ → Result ℕ CertErr
past_text at t = if names_a_thing t then Ok (told (at + 1)) else Err (err.Text at)

-- the numbers of each part of a world
abbrev pub past_link : ℕ → ℕ × ℕ × ℕ × ℕ → Result ℕ CertErr
past_link at l = past_number at l.0 >>= (λ next. past_number next l.1 >>= (λ third. past_number third l.2 >>= (λ last. past_number last l.3)))

abbrev pub past_element : ℕ → List ℕ × ℕ → Result ℕ CertErr
past_element at n = past_number at n.1

abbrev pub past_ends : ℕ → List ℕ × ℕ × ℕ → Result ℕ CertErr
past_ends at r = past_number at r.1 >>= (λ next. past_number next r.2)

abbrev pub past_local : ℕ → LocalForm → Result ℕ CertErr
past_local at l = walk past_element at l.names >>= (λ next. walk past_ends next l.roles >>= (λ last. past_number last l.size))

abbrev pub past_numbers : WorldForm → Result ℕ CertErr
past_numbers w = walk past_link 0 w.links >>= (λ next. walk past_local next w.locals)

-- the texts
abbrev pub past_name : ℕ → List ℕ × ℕ → Result ℕ CertErr
past_name at n = past_text at n.0

abbrev pub past_role : ℕ → List ℕ × ℕ × ℕ → Result ℕ CertErr
past_role at r = past_text at r.0

abbrev pub past_symbols : ℕ → LocalForm → Result ℕ CertErr
past_symbols at l = walk past_name at l.names >>= (λ next. walk past_role next l.roles)

abbrev pub past_texts : WorldForm → Result ℕ CertErr
past_texts w = walk past_symbols 0 w.locals

-- ---- symbols

-- the symbols with those of some items, by a step that adds those of one item
abbrev pub gather : {X : Type 0} → (SymbolLists → X → SymbolLists) → SymbolLists → List X → SymbolLists
gather step s [] = s
gather step s (x ∷ xs) = gather step (step s x) xs

abbrev pub with_name : SymbolLists → List ℕ × ℕ → SymbolLists
with_name s n = record s { names = with_text s.names n.0 }

abbrev pub with_role : SymbolLists → List ℕ × ℕ × ℕ → SymbolLists
with_role s r = record s { roles = with_text s.roles r.0 }

abbrev pub with_local : SymbolLists → LocalForm → SymbolLists
with_local s l = gather with_role (gather with_name s l.names) l.roles

-- the texts are names
abbrev pub has_name : List ℕ × ℕ → Bool
has_name n = names_a_thing n.0

abbrev pub has_role : List ℕ × ℕ × ℕ → Bool
has_role r = names_a_thing r.0

abbrev pub has_names : LocalForm → Bool
has_names l = list_all has_name l.names && list_all has_role l.roles

-- ---- the world

-- the numbers are not too large
abbrev pub fits : ℕ → Bool
fits n = nat_le n largest_index

abbrev pub link_fits : ℕ × ℕ × ℕ × ℕ → Bool
link_fits l = fits l.0 && fits l.1 && fits l.2 && fits l.3

abbrev pub name_fits : List ℕ × ℕ → Bool
name_fits n = fits n.1

abbrev pub role_fits : List ℕ × ℕ × ℕ → Bool
role_fits r = fits r.1 && fits r.2

abbrev pub local_fits : LocalForm → Bool
local_fits l = list_all name_fits l.names && list_all role_fits l.roles && fits l.size

abbrev pub world_fits : WorldForm → Bool
world_fits w = list_all link_fits w.links && list_all local_fits w.locals

abbrev pub name_by : SymbolLists → List ℕ × ℕ → ℕ × ℕ
name_by s n = (number_of s.names n.0, n.1)

abbrev pub role_by : SymbolLists → List ℕ × ℕ × ℕ → ℕ × ℕ × ℕ
role_by s r = (number_of s.roles r.0, r.1, r.2)

-- why the world was not added
abbrev pub refusal_of : AddErr → CertErr
refusal_of added.SymbolsFull = err.SymbolsFull
refusal_of added.NoMemory = err.NoMemory

-- ---- derivations

-- what is made of a form by the passes after its shape
abbrev pub ReadsForm : (old new : SymbolLists) → CertForm → Result Cert CertErr → Type 0
ReadsForm old new f (Ok c) = IsEvidence old f (Ok (record { cert = c; symbols = new }))
ReadsForm old new f (Err e) = (new ≡ old) × (found : Tried Certified) × IsEvidence old f found × Tells e found

-- what is made of the lines of a derivation by the passes after their shape
abbrev pub CertifiesLines : (old new : SymbolLists) → List LineForm → Result (List Line) CertErr → Type 0
CertifiesLines old new forms (Ok lines) = IsEvidence old (kinds.Yes forms) (Ok (record { cert = cert.Yes lines; symbols = new }))
CertifiesLines old new forms (Err e) = (new ≡ old) × (found : Tried Certified) × IsEvidence old (kinds.Yes forms) found × Tells e found

-- the numbers of a line
abbrev pub past_line : ℕ → LineForm → Result ℕ CertErr
past_line at l = walk past_number at (numbers_of_line l)

-- those of a bridge: the cited line, those cited for each into rule, the other peer, the into rules and the onto rule
abbrev pub past_bridge : ℕ → ℕ → ℕ → List ℕ → ℕ → List ℕ → Result ℕ CertErr
past_bridge at from onto into_set cite each = past_number at cite >>= (λ a. walk past_number a each >>= (λ b. past_number b from
    >>= (λ d. walk past_number d into_set >>= (λ e. past_number e onto))))

abbrev pub why_fits : WhyForm → Bool
why_fits w = list_all fits (numbers_of_why w)

abbrev pub line_fits : LineForm → Bool
line_fits l = list_all fits (numbers_of_line l)

-- ---- the texts of a derivation

-- no names and no roles
abbrev pub no_symbols : SymbolLists
no_symbols = record { names = []; roles = [] }

-- the texts were passed from this place on: each is what it is to be, or the first that is not is told by its place
abbrev pub Passes : ℕ → List Piece → Result ℕ CertErr → Type 0
Passes at ps (Ok next) = AllReadable ps × (next ≡ told (at + length ps))
Passes at ps (Err (err.Text k)) = (n : ℕ) × IsFirstUnreadable ps n × (k ≡ told (at + n))
Passes at ps (Err err.NoMemory) = Unit {0}
Passes at ps (Err e) = ⊥

-- how it is told that a text could not be read
abbrev pub stop_at : ℕ → TextErr → CertErr
stop_at at (texts.Bad n) = err.Text at
stop_at at (texts.TooLarge n) = err.Text at
stop_at at (texts.TooDeep n) = err.Text at
stop_at at texts.SymbolsFull = err.Text at
stop_at at texts.NoMemory = err.NoMemory

abbrev pub passed_at : ℕ → Result Concept TextErr → Result ℕ CertErr
passed_at at (Ok c) = Ok (told (at + 1))
passed_at at (Err e) = Err (stop_at at e)

-- ---- what is built of forms by way of trees, which add their symbols one after another

module _ {X T Y : Type 0} (Spell : X → T → Type 0) (step : SymbolLists → T → SymbolLists) where
  -- one form is that of a tree, and what was built is what the tree says, by these symbols and by all later ones
  pub record IsBuilt (by : SymbolLists → T → Y) (old : SymbolLists) (x : X) (new : SymbolLists) (y : Y) : Type 0 where
    pub tree : T
    pub spelt : Spell x tree
    pub symbols : new ≡ step old tree
    pub later : (s : SymbolLists) → Grows new s → y ≡ by s tree

  -- the same of several forms
  pub record AreBuilt (by : SymbolLists → T → Y) (old : SymbolLists) (xs : List X) (new : SymbolLists) (ys : List Y) : Type 0 where
    pub trees : List T
    pub spelt : Each Spell xs trees
    pub symbols : new ≡ fold step old trees
    pub later : (s : SymbolLists) → Grows new s → ys ≡ map (by s) trees

module _ {X T : Type 0} (Spell : X → T → Type 0) (step : SymbolLists → T → SymbolLists) where
  -- there is no room for the symbols of the form, or of the forms
  pub record IsFull (old : SymbolLists) (x : X) : Type 0 where
    pub tree : T
    pub spelt : Spell x tree
    pub full : most_symbols < symbol_count (step old tree)

  pub record AreFull (old : SymbolLists) (xs : List X) : Type 0 where
    pub trees : List T
    pub spelt : Each Spell xs trees
    pub full : most_symbols < symbol_count (fold step old trees)

-- a text that is what it is to be is refused for want of room or of memory alone
abbrev pub HasRoomErr : TextErr → Type 0
HasRoomErr texts.SymbolsFull = Unit {0}
HasRoomErr texts.NoMemory = Unit {0}
HasRoomErr e = ⊥

abbrev pub unread_of : TextErr → AddErr
unread_of texts.SymbolsFull = added.SymbolsFull
unread_of e = added.NoMemory
