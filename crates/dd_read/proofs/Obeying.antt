-- What a request did to the state that has its symbols is what its line does.
use Rattle.std.proofs.Common.{◌≡◌, ℕ, ◌<◌, ◌≤◌, List, [], ◌∷◌, ◌++◌, length, Bool, true, false, refl, ap, sym, ◌∙◌, subst, arith, Option, None, Some, Result, Ok, Err}
use Rattle.std.proofs.lemmas.Bool.{le-leb, lt-leb}
use Rattle.std.specs.Prelude.{is_some, not, slice_get, ⊤}
use Rattle.serde_json.specs.Data.{Data}
use Rattle.dd_text.specs.Grammar.{Term}
use Rattle.dd_text.specs.Symbols.{SymbolLists, has_text, number_of}
use Rattle.dd_text.proofs.Numbering.{number_of-within, slice_get-number_of}
use Rattle.dd_peer.specs.declared.version.PeerVersion.{PeerVersion}
use Rattle.dd_peer.specs.declared.version.Query.{Query}
use Rattle.dd_pin.specs.History.{is_pin, last_version}
use Rattle.dd_task.specs.declared.job.Budget.{Budget}
use Rattle.dd_wire.specs.Forms.{Written}
use Rattle.dd_wire.specs.Forms as form
use Rattle.dd_wire.specs.Lines.{form_in}
use Rattle.dd_wire.specs.Placed.{are_peers, at_peer, placed}
use Rattle.dd_wire.specs.Refusal.{Refusal, Tested, ◌>>=◌, demand, refused, bad_peers, bad_pin, line_too_long, no_peers, peers_twice, unknown_peer}
use Rattle.dd_wire.specs.Requests.{AfterForm, IsRequest, ReadsRequest, Tests, TestsLine, declared_names, query_of, version_of}
use Rattle.dd_wire.specs.Texts.{Parsed, Parses, Resolved, RuleTree, peers, put, ask, check, versions, trees_of, with_texts}
use Rattle.dd_wire.specs.Texts as text
use Rattle.dd_wire.specs.declared.reply.Reply.{Reply}
use Rattle.dd_wire.specs.declared.reply.Reply.TheVariants as reply
use Rattle.dd_wire.specs.declared.request.Request.{Request}
use Rattle.dd_wire.specs.declared.request.Request.TheVariants as request
use Rattle.dd_wire.specs.declared.request.WireErr.{WireErr}
use Rattle.dd_wire.specs.declared.request.WireErr.TheVariants as wire
use Rattle.dd_wire.proofs.Resolving.{Resolves, resolves}
use Rattle.dd_read.specs.Asks.{IsJobAt, budget_of}
use Rattle.dd_read.specs.Does.{CheckBy, CutBy, DoesRequest, Fits, StaysBy, kept_of}
use Rattle.dd_read.specs.Read.{Does, IsAsked, Obeys, Read, question_at}
use Rattle.dd_read.specs.State.{State, names_of, peer_count, with_put}
use Rattle.dd_read.specs.Tests.{Admits, AfterBudget, AfterTexts, MayBeAsked, Passes, longest_line, may_be_put, short_form}
use Rattle.dd_read.specs.Told.{RefusesLine}
use Rattle.dd_read.specs.declared.kept.Kept.{Kept}
use Rattle.dd_read.specs.declared.kept.Kept.TheVariants.{Finished, Asked}
use Rattle.dd_read.specs.declared.obeyed.Obeyed.{Obeyed}
use Rattle.dd_read.specs.declared.obeyed.Obeyed.TheVariants.{Stays, Cut}
use Rattle.dd_read.specs.declared.options.Options.{Options}
use Rattle.dd_read.proofs.Keeping.{with_symbols}

-- ---- the last tests, and what follows them

-- the last tests of this request found something, which was obeyed
abbrev pub After : Options → State → ℕ → SymbolLists → Parsed → State → Kept → Type 0
After o s id y p new kept = (found : Tested Resolved) × AfterTexts o s (Ok (record { request = p; symbols = y })) found × Obeys o s id found new kept

after_ok : (o : Options) (s new : State) (id : ℕ) (y : SymbolLists) (p : Parsed) (kept : Kept) → Admits o s y p (Ok true) → Does o s id y p new kept → After o s id y p new kept
after_ok o s new id y p kept admits does = (Ok (record { request = p; symbols = y }), (Ok true, admits, refl), does)

after_err : (o : Options) (s new : State) (id : ℕ) (y : SymbolLists) (p : Parsed) (e : Refusal) (kept : Kept) → Admits o s y p (Err e) → new ≡ s → kept ≡ Finished (reply.Refused id e.code e.n) → After o s id y p new kept
after_err o s new id y p e kept admits same is = (Err e, (Err e, admits, refl), (same, is))

-- the state after a request: where its symbols go, those from before are put back
abbrev pub final : State → State → Obeyed → State
final s new (Stays kept) = new
final s new (Cut kept) = with_symbols new s.symbols

cut_back : (s new : State) (y : SymbolLists) → new ≡ with_symbols s new.symbols → with_symbols new s.symbols ≡ s
cut_back s new y e = ap (λ (n : State). with_symbols n s.symbols) e

-- what the tests before have made sure of
abbrev pub IsReady : State → SymbolLists → Parsed → Type 0
IsReady s y (peers ns) = y ≡ s.symbols
IsReady s y (put peer axioms into onto) = has_text (names_of s) peer ≡ true
IsReady s y (ask peer l r expansions verdicts) = ⊤
IsReady s y (check peer l r pin cert) = ⊤
IsReady s y versions = y ≡ s.symbols

refused_as : (id : ℕ) (e : Refusal) (given : Reply) (kept : Kept) → kept ≡ Finished given → given ≡ reply.Refused id e.code e.n → kept ≡ Finished (reply.Refused id e.code e.n)
refused_as id e given kept is same = is ∙ ap Finished same

-- ---- each request

module _ (o : Options) (s new : State) (id : ℕ) (y : SymbolLists) where
  puts : (peer : List ℕ) (as' : List (Term × Term)) (is' os : List RuleTree) (b : Obeyed) → has_text (names_of s) peer ≡ true
      → DoesRequest o (with_symbols s y) id (request.Put (number_of (names_of s) peer) (version_of (names_of s) y as' is' os)) new b
      → After o s id y (put peer as' is' os) (final s new b) (kept_of b)
  puts peer as' is' os (Stays kept) declared by =
      let n = number_of (names_of s) peer in
      let same : by.2.0 ≡ peer = name_is by.2.0 by.2.1 (slice_get-number_of (names_of s) peer declared) in
      after_ok o s new id y (put peer as' is' os) kept (sym by.0) (by.1, by.2.2 ∙ ap (λ (t : List ℕ). Finished (reply.Put id t (last_version n new.history))) same)
    where
      name_is : (t : List ℕ) → slice_get (names_of s) (number_of (names_of s) peer) ≡ Some t → slice_get (names_of s) (number_of (names_of s) peer) ≡ Some peer → t ≡ peer
      name_is t e f = only (sym e ∙ f)
        where
          only : Some t ≡ Some peer → t ≡ peer
          only g = cc g
  puts peer as' is' os (Cut kept) declared by =
      after_err o s (with_symbols new s.symbols) id y (put peer as' is' os) by.1.0 kept (sym by.1.1) (cut_back s new y by.0) (refused_as id by.1.0 by.1.2 kept by.1.3 by.1.4)

  may_same : (t : Tested Bool) (q : Query) (b : Budget) (found : Tested Bool) → AfterBudget t (with_symbols s y) q b found → AfterBudget t s q b found
  may_same (Err e) q b found h = h
  may_same (Ok is) q b found h = h

  asks : (peer : List ℕ) (l r : Term) (x v : Option ℕ) (b : Obeyed) → DoesRequest o (with_symbols s y) id (request.Ask (query_of (names_of s) y peer l r) x v) new b
      → After o s id y (ask peer l r x v) (final s new b) (kept_of b)
  asks peer l r x v (Stays kept) by =
      after_ok o s new id y (ask peer l r x v) kept (may_same _ (query_of (names_of s) y peer l r) (budget_of o x v) (Ok true) by.1) (by.0, by.2)
  asks peer l r x v (Cut kept) by =
      after_err o s (with_symbols new s.symbols) id y (ask peer l r x v) by.1.0 kept (may_same _ (query_of (names_of s) y peer l r) (budget_of o x v) (Err by.1.0) by.1.1) (cut_back s new y by.0)
      (refused_as id by.1.0 by.1.2 kept by.1.3 by.1.4)

  checks : (peer : List ℕ) (l r : Term) (pin : List ℕ) (cert : Data) (kept : Kept) (given : Reply) → kept ≡ Finished given → with_symbols new s.symbols ≡ s
      → (b : Bool) → is_pin (peer_count s) pin s.history ≡ b → CheckBy b id (question_at s pin (query_of (names_of s) y peer l r)) y cert given
      → After o s id y (check peer l r pin cert) (with_symbols new s.symbols) kept
  checks peer l r pin cert kept given is same true e by =
      after_ok o s (with_symbols new s.symbols) id y (check peer l r pin cert) kept (sym (ap (demand bad_pin) e)) (same, given, is, by)
  checks peer l r pin cert kept given is same false e by =
      after_err o s (with_symbols new s.symbols) id y (check peer l r pin cert) (refused bad_pin) kept (sym (ap (demand bad_pin) e)) same (is ∙ ap Finished by)

pub obeyed : (o : Options) (s new : State) (id : ℕ) (y : SymbolLists) (p : Parsed) (r : Request) (b : Obeyed)
    → IsRequest (names_of s) y p r → IsReady s y p → DoesRequest o (with_symbols s y) id r new b → After o s id y p (final s new b) (kept_of b)
obeyed o s new id y (peers ns) r (Stays kept) is ready by =
    let does = subst (λ (q : Request). DoesRequest o (with_symbols s y) id q new (Stays kept)) is by in
    after_ok o s new id y (peers ns) kept refl (does.0 ∙ ap (λ (z : SymbolLists). with_peers z) ready, does.1)
  where
    with_peers : SymbolLists → State
    with_peers z = record { peers = Some ns; symbols = z; history = s.history }
obeyed o s new id y (peers ns) r (Cut kept) is ready by = let does = subst (λ (q : Request). DoesRequest o (with_symbols s y) id q new (Cut kept)) is by in absurd does.1
obeyed o s new id y (put peer as' is' os) r b is ready by =
    puts o s new id y peer as' is' os b ready (subst (λ (q : Request). DoesRequest o (with_symbols s y) id q new b) is by)
obeyed o s new id y (ask peer l t x v) r b is ready by = asks o s new id y peer l t x v b (subst (λ (q : Request). DoesRequest o (with_symbols s y) id q new b) is by)
obeyed o s new id y (check peer l t pin cert) r (Stays kept) is ready by =
    let does = subst (λ (q : Request). DoesRequest o (with_symbols s y) id q new (Stays kept)) is.2 by in absurd does
obeyed o s new id y (check peer l t pin cert) r (Cut kept) is ready by =
    let does = subst (λ (q : Request). DoesRequest o (with_symbols s y) id q new (Cut kept)) is.2 by in
    checks o s new id y peer l t pin cert kept does.1.0 does.1.1 (cut_back s new y does.0) (is_pin (peer_count s) pin s.history) refl
    (subst (λ (d : Data). CheckBy (is_pin (peer_count s) pin s.history) id (question_at s pin (query_of (names_of s) y peer l t)) y d does.1.0) is.1 does.1.2)
obeyed o s new id y versions r (Stays kept) is ready by =
    let does = subst (λ (q : Request). DoesRequest o (with_symbols s y) id q new (Stays kept)) is by in
    after_ok o s new id y versions kept refl (does.0 ∙ ap (with_symbols s) ready, does.1)
obeyed o s new id y versions r (Cut kept) is ready by = let does = subst (λ (q : Request). DoesRequest o (with_symbols s y) id q new (Cut kept)) is by in absurd does.1

-- ---- what the tests of a form have made sure of

off : false ≡ true → ⊥
off e = cc e

-- a peer that was found is declared
declared : (names : Option (List (List ℕ))) (peer : List ℕ) (place : Bool) → at_peer names peer ≡ Ok place → has_text (declared_names names) peer ≡ true
declared None peer place e = absurd (never e)
  where
    never : {r : Refusal} → (let t : Tested Bool = Err r in t) ≡ Ok place → ⊥
    never e = cc e
declared (Some names) peer place e = by (has_text names peer) e
  where
    never : {r : Refusal} → (let t : Tested Bool = Err r in t) ≡ Ok place → ⊥
    never e = cc e

    by : (b : Bool) → demand unknown_peer b ≡ Ok place → b ≡ true
    by true e = refl
    by false e = absurd (never e)

some_declared : (names : Option (List (List ℕ))) (peer : List ℕ) → has_text (declared_names names) peer ≡ true → is_some names ≡ true
some_declared None peer h = absurd (off h)
some_declared (Some names) peer h = refl

pub ready : (s : State) (w : Written) (p : Parsed) (y : SymbolLists) → Resolves s.peers s.symbols w p y → IsReady s y p
ready s (form.peers ns) p y r = subst (IsReady s y) (sym r.parses) (r.symbols ∙ ap (λ (q : Parsed). with_texts s.symbols (trees_of q)) r.parses)
ready s (form.put peer axioms into onto) p y r = subst (IsReady s y) (sym r.parses.6) (declared s.peers peer r.place r.placed_is)
ready s (form.ask peer left right e v) p y r = subst (IsReady s y) (sym r.parses.4) tt
ready s (form.check peer left right pin cert) p y r = subst (IsReady s y) (sym r.parses.4) tt
ready s form.versions p y r = subst (IsReady s y) (sym r.parses) (r.symbols ∙ ap (λ (q : Parsed). with_texts s.symbols (trees_of q)) r.parses)

-- peers that may be declared are names, and none were before
declares : (names : Option (List (List ℕ))) (ns : List (List ℕ)) (place : Bool) → placed names (form.peers ns) ≡ Ok place → (are_peers ns ≡ true) × (names ≡ None)
declares None ns place e = (by (are_peers ns) e, refl)
  where
    never : {r : Refusal} → (let t : Tested Bool = Err r in t) ≡ Ok place → ⊥
    never e = cc e

    by : (b : Bool) → (demand peers_twice true >>= (λ first. demand bad_peers b)) ≡ Ok place → b ≡ true
    by true e = refl
    by false e = absurd (never e)
declares (Some names) ns place e = absurd (never e)
  where
    never : {r : Refusal} → (let t : Tested Bool = Err r in t) ≡ Ok place → ⊥
    never e = cc e

some_there : (names : Option (List (List ℕ))) (place : Bool) → demand no_peers (is_some names) ≡ Ok place → is_some names ≡ true
some_there None place e = absurd (never e)
  where
    never : {r : Refusal} → (let t : Tested Bool = Err r in t) ≡ Ok place → ⊥
    never e = cc e
some_there (Some names) place e = refl

pub fits : (s : State) (w : Written) (p : Parsed) (y : SymbolLists) (r : Request) → Resolves s.peers s.symbols w p y → IsRequest (names_of s) y p r → Fits (with_symbols s y) r
fits s (form.peers ns) p y r found is =
    let q : IsRequest (names_of s) y (text.peers ns) r = subst (λ (q : Parsed). IsRequest (names_of s) y q r) found.parses is in
    subst (Fits (with_symbols s y)) (sym q) (declares s.peers ns found.place found.placed_is)
fits s (form.put peer axioms into onto) p y r found is =
    let q : IsRequest (names_of s) y (text.put peer found.parses.0 found.parses.1 found.parses.2) r = subst (λ (q : Parsed). IsRequest (names_of s) y q r) found.parses.6 is in
    subst (Fits (with_symbols s y)) (sym q) (number_of-within (names_of s) peer (declared s.peers peer found.place found.placed_is))
fits s (form.ask peer left right e v) p y r found is =
    let q : IsRequest (names_of s) y (text.ask peer found.parses.0 found.parses.1 e v) r = subst (λ (q : Parsed). IsRequest (names_of s) y q r) found.parses.4 is in
    subst (Fits (with_symbols s y)) (sym q) (number_of-within (names_of s) peer (declared s.peers peer found.place found.placed_is))
fits s (form.check peer left right pin cert) p y r found is =
    let q : IsRequest (names_of s) y (text.check peer found.parses.0 found.parses.1 pin cert) r = subst (λ (q : Parsed). IsRequest (names_of s) y q r) found.parses.4 is in
    subst (Fits (with_symbols s y)) (sym q.2) (some_declared s.peers peer (declared s.peers peer found.place found.placed_is))
fits s form.versions p y r found is =
    let q : IsRequest (names_of s) y text.versions r = subst (λ (q : Parsed). IsRequest (names_of s) y q r) found.parses is in
    subst (Fits (with_symbols s y)) (sym q) (some_there s.peers found.place found.placed_is)

-- ---- lines

after_length : Tested Written → Bool → Tested Written
after_length t short = demand line_too_long short >>= (λ is. t)

short_is : (line : List ℕ) → length line ≤ longest_line → short_form line ≡ form_in line
unfolding after_length
short_is line h = ap (after_length (form_in line)) (le-leb (length line) longest_line h)

long_is : (line : List ℕ) → longest_line < length line → short_form line ≡ Err (refused line_too_long)
unfolding after_length
long_is line h = ap (after_length (form_in line)) (lt-leb (length line) longest_line h)

-- the tests of a line, by those of its form
record IsResolved (s : State) (p : Parsed) (y : SymbolLists) : Type 0 where
  pub written : Written
  pub resolves : Resolves s.peers s.symbols written p y

of_line : (s : State) (line : List ℕ) (p : Parsed) (y : SymbolLists) → TestsLine s.peers s.symbols line (Ok (record { request = p; symbols = y })) → IsResolved s p y
of_line s line p y h = by_form (form_in line) h
  where
    failed : {e : Refusal} → (let t : Tested Resolved = Ok (record { request = p; symbols = y }) in t) ≡ Err e → ⊥
    failed e = cc e

    by_form : (t : Tested Written) → AfterForm t s.peers s.symbols (Ok (record { request = p; symbols = y })) → IsResolved s p y
    by_form (Err e) h = absurd (failed h)
    by_form (Ok w) h = record { written = w; resolves = resolves s.peers s.symbols w p y h }

pub line_fits : (s : State) (line : List ℕ) (y : SymbolLists) (r : Request)
    → (let found : Result Request WireErr = Ok r in ReadsRequest (TestsLine s.peers s.symbols line) (names_of s) s.symbols y found) → Fits (with_symbols s y) r
line_fits s line y r reads = let w = of_line s line reads.0 y reads.1 in fits s w.written reads.0 y r w.resolves reads.2

-- a request of a line that is not too long was obeyed, so the line was read
pub line_obeyed : (o : Options) (s new : State) (id : ℕ) (line : List ℕ) (y : SymbolLists) (r : Request) (b : Obeyed)
    → (let found : Result Request WireErr = Ok r in ReadsRequest (TestsLine s.peers s.symbols line) (names_of s) s.symbols y found)
    → DoesRequest o (with_symbols s y) id r new b → length line ≤ longest_line → Read o s id line (final s new b) (kept_of b)
line_obeyed o s new id line y r b reads does short =
    let p = reads.0 in
    let w = of_line s line p y reads.1 in
    let after = obeyed o s new id y p r b reads.2 (ready s w.written p y w.resolves) does in (
      after.0,
      (
        Ok (record { request = p; symbols = y }),
        subst (λ (t : Tested Written). AfterForm t s.peers s.symbols (Ok (record { request = p; symbols = y }))) (sym (short_is line short)) reads.1,
        after.1,
      ),
      after.2,
    )

-- a line whose tests refuse it
refused_read : (o : Options) (s : State) (id : ℕ) (line : List ℕ) (e : Refusal) (given : Reply) → AfterForm (short_form line) s.peers s.symbols (Err e) → given ≡ reply.Refused id e.code e.n
    → Read o s id line s (Finished given)
refused_read o s id line e given tests is = (Err e, (Err e, tests, refl), (refl, ap Finished is))

pub line_refused : (o : Options) (s : State) (id : ℕ) (line : List ℕ) (y : SymbolLists) (e : WireErr) (given : Reply)
    → (let found : Result Request WireErr = Err e in ReadsRequest (TestsLine s.peers s.symbols line) (names_of s) s.symbols y found)
    → RefusesLine id e given → length line ≤ longest_line → Read o s id line (with_symbols s y) (Finished given)
line_refused o s id line y (wire.Code code n) given reads told short =
    subst (λ (z : SymbolLists). Read o s id line (with_symbols s z) (Finished given)) (sym reads.0)
    (refused_read o s id line (record { code = code; n = n }) given
    (subst (λ (t : Tested Written). AfterForm t s.peers s.symbols (Err (record { code = code; n = n }))) (sym (short_is line short)) reads.1) told)
line_refused o s id line y wire.NoMemory given reads told short = absurd told

pub long_refused : (o : Options) (s : State) (id : ℕ) (line : List ℕ) (given : Reply) → longest_line < length line → given ≡ reply.Refused id line_too_long None → Read o s id line s (Finished given)
long_refused o s id line given long told =
    refused_read o s id line (refused line_too_long) given
    (subst (λ (t : Tested Written). AfterForm t s.peers s.symbols (Err (refused line_too_long))) (sym (long_is line long)) refl) told

-- what a reader says by the names that it was given, which are the state's
pub reads_at : (o names : Option (List (List ℕ))) (old y : SymbolLists) (line : List ℕ) (r : Result Request WireErr) → o ≡ names
    → ReadsRequest (TestsLine o old line) (declared_names o) old y r → ReadsRequest (TestsLine names old line) (declared_names names) old y r
reads_at o names old y line r e h = subst (λ (ns : Option (List (List ℕ))). ReadsRequest (TestsLine ns old line) (declared_names ns) old y r) e h
