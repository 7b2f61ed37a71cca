-- What a value is, by the passes over it.
use Rattle.std.proofs.Common.{◌≡◌, ℕ, ◌+◌, ◌<◌, ◌≤◌, Bool, true, not, List, [], ◌∷◌, ◌++◌, map, Option, None, Result, Ok, Err, refl, sym, ap, ◌∙◌, subst, arith}
use Rattle.std.specs.Prelude.{codes, nat_le, position}
use Rattle.std.specs.List.{flat_map}
use Rattle.std.proofs.lemmas.Bool.{le-leb, lt-leb}
use Rattle.serde_json.specs.Data.{Data}
use Rattle.dd_text.specs.Names.{names_a_thing}
use Rattle.dd_text.specs.Reads.{told}
use Rattle.dd_text.specs.Symbols.{SymbolLists, most_symbols, symbol_count, with_text, with_texts}
use Rattle.dd_text.proofs.Building.{SymbolLists-eq}
use Rattle.dd_task.specs.declared.line.Line.{Line}
use Rattle.dd_world.specs.declared.world.World.{World}
use Rattle.dd_cert.specs.declared.add.AddErr.{AddErr}
use Rattle.dd_cert.specs.declared.add.AddErr.TheVariants as added
use Rattle.dd_cert.specs.declared.form.CertForm.{CertForm}
use Rattle.dd_cert.specs.declared.form.LocalForm.{LocalForm}
use Rattle.dd_cert.specs.declared.form.WorldForm.{WorldForm}
use Rattle.dd_cert.specs.declared.form.CertForm.TheVariants as form
use Rattle.dd_cert.specs.declared.form.LineForm.{LineForm}
use Rattle.dd_cert.specs.declared.read.Cert.{Cert}
use Rattle.dd_cert.specs.declared.read.Cert.TheVariants as cert
use Rattle.dd_cert.specs.declared.read.CertErr.{CertErr}
use Rattle.dd_cert.specs.declared.read.CertErr.TheVariants as err
use Rattle.dd_cert.specs.Certificates.{◌>>=◌, Tried, field, full, place, text, Certified, IsCertIn, IsDerivationFrom, IsEvidence, IsEvidenceOf, ReadsCert, Tells, cert_form, certified_lines, first_above, member, none_above, all_named, unless, numbers_of, texts_of, names_of_local, roles_of_local, certified_world, with_world, world_by}
use Rattle.dd_cert.specs.Derivations.{IsParse, LineTree, Parse, SpellsLine, line_by, numbers_of_line, parsed, pieces_of, stopped, with_line, with_lines}
use Rattle.dd_cert.specs.Steps.{AreBuilt, AreFull, Passes, ReadsForm, TellsForm, refusal_of, walk, past_line, gather, past_numbers, past_texts, with_name, with_role, with_local}
use Rattle.dd_text.proofs.Building.{Grows-refl}
use Rattle.dd_cert.proofs.Certain.{some_cert_in, some_evidence}
use Rattle.dd_cert.proofs.Passing.{StopsAtNumber, StopsAtText, lines-stop, numbers-stop, texts-stop}

-- ---- the symbols of a world

with_texts-append : (xs us bs : List (List ℕ)) → with_texts (with_texts xs us) bs ≡ with_texts xs (us ++ bs)
with_texts-append xs [] bs = refl
with_texts-append xs (a ∷ us) bs = with_texts-append (with_text xs a) us bs

names-gathered : (s : SymbolLists) (ns : List (List ℕ × ℕ)) → gather with_name s ns ≡ record s { names = with_texts s.names (map (λ (n : List ℕ × ℕ). n.0) ns) }
names-gathered s [] = refl
names-gathered s (n ∷ ns) = names-gathered (with_name s n) ns

roles-gathered : (s : SymbolLists) (rs : List (List ℕ × ℕ × ℕ)) → gather with_role s rs ≡ record s { roles = with_texts s.roles (map (λ (r : List ℕ × ℕ × ℕ). r.0) rs) }
roles-gathered s [] = refl
roles-gathered s (r ∷ rs) = roles-gathered (with_role s r) rs

-- the symbols with these names and these roles
abbrev with_both : SymbolLists → List (List ℕ) → List (List ℕ) → SymbolLists
with_both s names roles = record { names = with_texts s.names names; roles = with_texts s.roles roles }

local-gathered : (s : SymbolLists) (l : LocalForm) → with_local s l ≡ with_both s (names_of_local l) (roles_of_local l)
local-gathered s l = ap (λ t. gather with_role t l.roles) (names-gathered s l.names) ∙ roles-gathered (record s { names = with_texts s.names (names_of_local l) }) l.roles

locals-gathered : (s : SymbolLists) (ls : List LocalForm) → gather with_local s ls ≡ with_both s (flat_map names_of_local ls) (flat_map roles_of_local ls)
locals-gathered s [] = refl
locals-gathered s (l ∷ ls) =
    ap (λ t. gather with_local t ls) (local-gathered s l)
    ∙ locals-gathered (with_both s (names_of_local l) (roles_of_local l)) ls
    ∙ SymbolLists-eq (with_both (with_both s (names_of_local l) (roles_of_local l)) (flat_map names_of_local ls) (flat_map roles_of_local ls))
    (with_both s (flat_map names_of_local (l ∷ ls)) (flat_map roles_of_local (l ∷ ls)))
    (with_texts-append s.names (names_of_local l) (flat_map names_of_local ls))
    (with_texts-append s.roles (roles_of_local l) (flat_map roles_of_local ls))

pub world-gathered : (s : SymbolLists) (w : WorldForm) → gather with_local s w.locals ≡ with_world s w
world-gathered s w = locals-gathered s w.locals

-- ---- what stops the reading

-- what a form says is what the value says
pub form-told : (s : SymbolLists) (d : Data) (e : CertErr) → TellsForm e (cert_form d) → (found : Tried Certified) × IsCertIn s d found × Tells e found
form-told s d (err.Shape name) h = (Err (field name.now), subst (λ (f : Tried CertForm). IsEvidenceOf s f (Err (field name.now))) (sym h) refl, refl)
form-told s d (err.Index at n) h = absurd h
form-told s d (err.Text at) h = absurd h
form-told s d err.SymbolsFull h = absurd h
form-told s d err.NoMemory h = let some = some_cert_in s d in (some.0, some.1, tt)

pub form-read : (s new : SymbolLists) (d : Data) (f : CertForm) (r : Result Cert CertErr) → cert_form d ≡ Ok f → ReadsForm s new f r → ReadsCert s new d r
form-read s new d f (Ok c) is h = let found : Tried Certified = Ok (record { cert = c; symbols = new }) in subst (λ (g : Tried CertForm). IsEvidenceOf s g found) (sym is) h
form-read s new d f (Err e) is h = (h.0, h.1, subst (λ (g : Tried CertForm). IsEvidenceOf s g h.1) (sym is) h.2, h.3)

-- what is still to be tested of a world
abbrev roomy : SymbolLists → WorldForm → Bool → Tried Certified
roomy s w room = unless full room >>= (λ r. Ok (record { cert = cert.No (world_by (with_world s w) w); symbols = with_world s w }))

abbrev named : SymbolLists → WorldForm → Option ℕ → Tried Certified
named s w found = all_named found >>= (λ n. roomy s w (nat_le (symbol_count (with_world s w)) most_symbols))

abbrev below : SymbolLists → WorldForm → Option (ℕ × ℕ) → Tried Certified
below s w found = none_above found >>= (λ b. named s w (position (λ t. not (names_a_thing t)) (texts_of w)))

pub number-told : (s : SymbolLists) (w : WorldForm) (e : CertErr) → Err e ≡ past_numbers w → Tells e (certified_world s w)
number-told s w e stops =
    let first : StopsAtNumber (first_above 0 (numbers_of w)) (Err e) = subst (StopsAtNumber (first_above 0 (numbers_of w))) (sym stops) (numbers-stop w) in
    subst (λ x. Tells x (certified_world s w)) (sym first.3) (first.0, ap (below s w) first.2, refl)

numbers-found : (s : SymbolLists) (w : WorldForm) (n : ℕ) → Ok n ≡ past_numbers w
    → certified_world s w ≡ named s w (position (λ t. not (names_a_thing t)) (texts_of w))
numbers-found s w n passed =
    let none : first_above 0 (numbers_of w) ≡ None = subst (StopsAtNumber (first_above 0 (numbers_of w))) (sym passed) (numbers-stop w) in
    ap (below s w) none

pub text-told : (s : SymbolLists) (w : WorldForm) (n : ℕ) (e : CertErr) → Ok n ≡ past_numbers w → Err e ≡ past_texts w → Tells e (certified_world s w)
text-told s w n e passed stops =
    let first : StopsAtText (position (λ t. not (names_a_thing t)) (texts_of w)) (Err e) = subst (StopsAtText (position (λ t. not (names_a_thing t)) (texts_of w))) (sym stops) (texts-stop w) in
    subst (λ x. Tells x (certified_world s w)) (sym first.2) (first.0, numbers-found s w n passed ∙ ap (named s w) first.1, refl)

texts-found : (s : SymbolLists) (w : WorldForm) (n m : ℕ) → Ok n ≡ past_numbers w → Ok m ≡ past_texts w
    → certified_world s w ≡ roomy s w (nat_le (symbol_count (with_world s w)) most_symbols)
texts-found s w n m numbers texts =
    let none : position (λ t. not (names_a_thing t)) (texts_of w) ≡ None = subst (StopsAtText (position (λ t. not (names_a_thing t)) (texts_of w))) (sym texts) (texts-stop w) in
    numbers-found s w n numbers ∙ ap (named s w) none

pub full-told : (s : SymbolLists) (w : WorldForm) (n m : ℕ) → Ok n ≡ past_numbers w → Ok m ≡ past_texts w
    → 65536 < symbol_count (gather with_local s w.locals) → certified_world s w ≡ Err full
full-told s w n m numbers texts many =
    texts-found s w n m numbers texts
    ∙ ap (roomy s w) (lt-leb (symbol_count (with_world s w)) most_symbols (subst (λ t. 65536 < symbol_count t) (world-gathered s w) many))

pub cert-found : (s new : SymbolLists) (w : WorldForm) (n m : ℕ) (world : World) → Ok n ≡ past_numbers w → Ok m ≡ past_texts w
    → new ≡ gather with_local s w.locals → symbol_count new ≤ 65536 → world ≡ world_by new w → certified_world s w ≡ Ok (record { cert = cert.No world; symbols = new })
cert-found s new w n m world numbers texts added few is =
    let all : new ≡ with_world s w = added ∙ world-gathered s w in
    let room = le-leb (symbol_count (with_world s w)) most_symbols (subst (λ t. symbol_count t ≤ 65536) all few) in
    let built : world ≡ world_by (with_world s w) w = is ∙ ap (λ t. world_by t w) all in
    texts-found s w n m numbers texts ∙ ap (roomy s w) room
    ∙ ap (λ (x : World). let c : Certified = record { cert = cert.No x; symbols = with_world s w } in Ok c) (sym built)
    ∙ ap (λ (t : SymbolLists). let c : Certified = record { cert = cert.No world; symbols = t } in Ok c) (sym all)

pub refused-told : (e : AddErr) (found : Tried Certified) → (e ≡ added.SymbolsFull → found ≡ Err full) → Tells (refusal_of e) found
refused-told added.SymbolsFull found h = h refl
refused-told added.NoMemory found h = tt

-- what is told of a world is told of its form
pub world-told : (s : SymbolLists) (w : WorldForm) (e : CertErr) → Tells e (certified_world s w) → (found : Tried Certified) × IsEvidence s (form.No w) found × Tells e found
world-told s w e h = (certified_world s w, refl, h)

-- ---- derivations

abbrev Told : SymbolLists → List LineForm → CertErr → Type 0
Told s lines e = (found : Tried Certified) × IsEvidence s (form.Yes lines) found × Tells e found

pub line-number-told : (s : SymbolLists) (lines : List LineForm) (e : CertErr) → Err e ≡ walk past_line 0 lines → Told s lines e
line-number-told s lines e stops =
    let above = first_above 0 (flat_map numbers_of_line lines) in
    let first : StopsAtNumber above (Err e) = subst (StopsAtNumber above) (sym stops) (lines-stop lines) in
    let found : Tried Certified = Err (place first.0 first.1) in
    (found, subst (λ o. IsDerivationFrom s lines o found) (sym first.2) refl, subst (λ x. Tells x found) (sym first.3) (first.0, refl, refl))

line-numbers-found : (s : SymbolLists) (lines : List LineForm) (n : ℕ) (found : Tried Certified) → Ok n ≡ walk past_line 0 lines → (reading : Parse) × IsParse lines reading × (found ≡ certified_lines s reading)
    → IsEvidence s (form.Yes lines) found
line-numbers-found s lines n found passed h =
    let above = first_above 0 (flat_map numbers_of_line lines) in
    let none : above ≡ None = subst (StopsAtNumber above) (sym passed) (lines-stop lines) in
    subst (λ o. IsDerivationFrom s lines o found) (sym none) h

some-told : (s : SymbolLists) (lines : List LineForm) → Told s lines err.NoMemory
some-told s lines = let some = some_evidence s (form.Yes lines) in (some.0, some.1, tt)

pub line-text-told : (s : SymbolLists) (lines : List LineForm) (n : ℕ) (e : CertErr) → Ok n ≡ walk past_line 0 lines → Passes 0 (pieces_of lines) (Err e) → Told s lines e
line-text-told s lines n (err.Text k) passed first =
    let same : 0 + first.0 ≡ first.0 = omega arith in
    (Err (text first.0), line-numbers-found s lines n (Err (text first.0)) passed (stopped first.0, first.1, refl), (first.0, refl, first.2 ∙ ap told same))
line-text-told s lines n err.NoMemory passed first = some-told s lines
line-text-told s lines n (err.Shape member) passed first = absurd first
line-text-told s lines n (err.Index at value) passed first = absurd first
line-text-told s lines n err.SymbolsFull passed first = absurd first

roomy_lines : SymbolLists → SymbolLists → List Line → Bool → Tried Certified
roomy_lines s new lines room = unless full room >>= (λ r. Ok (record { cert = cert.Yes lines; symbols = new }))

pub lines-found : (s new : SymbolLists) (forms : List LineForm) (n : ℕ) (lines : List Line) → Ok n ≡ walk past_line 0 forms → AreBuilt SpellsLine with_line line_by s forms new lines
    → symbol_count new ≤ 65536 → IsEvidence s (form.Yes forms) (Ok (record { cert = cert.Yes lines; symbols = new }))
unfolding roomy_lines
lines-found s new forms n lines passed b few =
    let all = with_lines s b.trees in
    let room = le-leb (symbol_count all) most_symbols (subst (λ t. symbol_count t ≤ 65536) b.symbols few) in
    let built : lines ≡ map (line_by all) b.trees = b.later new (Grows-refl new) ∙ ap (λ t. map (line_by t) b.trees) b.symbols in
    let found : Tried Certified = Ok (record { cert = cert.Yes lines; symbols = new }) in
    let is : found ≡ certified_lines s (parsed b.trees) =
    ap (λ t. roomy_lines s t lines true) b.symbols ∙ ap (λ l. roomy_lines s all l true) built ∙ ap (roomy_lines s all (map (line_by all) b.trees)) (sym room) in
    line-numbers-found s forms n found passed (parsed b.trees, b.spelt, is)

pub lines-full : (s : SymbolLists) (forms : List LineForm) (n : ℕ) (e : AddErr) → Ok n ≡ walk past_line 0 forms → (e ≡ added.SymbolsFull → AreFull SpellsLine with_line s forms) → Told s forms (refusal_of e)
unfolding roomy_lines
lines-full s forms n added.SymbolsFull passed h =
    let f = h refl in
    let all = with_lines s f.trees in
    let found : Tried Certified = Err full in
    let is : found ≡ certified_lines s (parsed f.trees) =
    ap (roomy_lines s all (map (line_by all) f.trees)) (sym (lt-leb (symbol_count all) most_symbols f.full)) in
    (found, line-numbers-found s forms n found passed (parsed f.trees, f.spelt, is), refl)
lines-full s forms n added.NoMemory passed h = some-told s forms

-- ---- what passes all tests

pub lines-certified : (s : SymbolLists) (trees : List LineTree) → symbol_count (with_lines s trees) ≤ 65536
    → certified_lines s (parsed trees) ≡ Ok (record { cert = cert.Yes (map (line_by (with_lines s trees)) trees); symbols = with_lines s trees })
unfolding roomy_lines
lines-certified s trees few =
    let all = with_lines s trees in
    ap (roomy_lines s all (map (line_by all) trees)) (le-leb (symbol_count all) most_symbols few)

pub world-certified : (s : SymbolLists) (w : WorldForm) → first_above 0 (numbers_of w) ≡ None → position (λ t. not (names_a_thing t)) (texts_of w) ≡ None → symbol_count (with_world s w) ≤ 65536
    → certified_world s w ≡ Ok (record { cert = cert.No (world_by (with_world s w) w); symbols = with_world s w })
world-certified s w numbers texts few = ap (below s w) numbers ∙ ap (named s w) texts ∙ ap (roomy s w) (le-leb (symbol_count (with_world s w)) most_symbols few)

-- the form of a derivation, and of a world, by what is found of their members
abbrev pub lines_from : Option (List LineForm) → Tried CertForm
lines_from o = member (codes "lines") o >>= (λ lines. Ok (form.Yes lines))

abbrev pub world_from : Option (List (ℕ × ℕ × ℕ × ℕ)) → Option (List LocalForm) → Tried CertForm
world_from o p = (member (codes "links") o >>= (λ links. member (codes "locals") p >>= (λ locals. Ok (record { links = links; locals = locals })))) >>= (λ w. Ok (form.No w))
