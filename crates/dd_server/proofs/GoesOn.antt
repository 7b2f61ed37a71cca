-- From each place of a session some replies may follow, whatever lines come.
use Rattle.std.proofs.Common.{◌≡◌, ◌==◌, ℕ, ◌+◌, List, [], ◌∷◌, ◌++◌, length, Bool, true, false, refl, sym, ap, ◌∙◌, subst, None, Ok, Err, inl, append_assoc}
use Rattle.std.proofs.lemmas.List.{append-nil}
use denote.Bor.{Bor}
use Rattle.dd_lines.specs.Lines.{lines_of}
use Rattle.serde_json.specs.Data.{Data}
use Rattle.dd_text.specs.Symbols.{SymbolLists}
use Rattle.dd_peer.specs.Question.{Question}
use Rattle.dd_peer.specs.declared.version.Query.{Query}
use Rattle.dd_task.specs.declared.job.Budget.{Budget}
use Rattle.dd_task.specs.declared.job.Job.{Job}
use Rattle.dd_cert.specs.Certificates.{Tried, Certified, field, place, text, full}
use Rattle.dd_cert.proofs.Certain.{some_cert_in}
use Rattle.dd_answer.specs.declared.answer.Answer.TheVariants as answer
use Rattle.dd_wire.specs.Forms.{Written}
use Rattle.dd_wire.specs.Placed.{placed}
use Rattle.dd_wire.specs.Refusal.{Tested, ◌>>=◌, demand, bad_budget}
use Rattle.dd_wire.specs.Requests.{AfterPlace, AfterForm, query_of}
use Rattle.dd_wire.specs.Texts.{Parsed, peers, put, ask, check, versions, Resolved, sized_texts}
use Rattle.dd_wire.proofs.Parsing.{every_form_parses}
use Rattle.dd_wire.specs.declared.reply.Origin.TheVariants.{Search}
use Rattle.dd_wire.specs.declared.reply.Reply.{Reply}
use Rattle.dd_wire.specs.declared.reply.Reply.TheVariants as reply
use Rattle.dd_wire.specs.declared.reply.Unread.TheVariants as unread
use Rattle.dd_read.specs.Asks.{IsJobAt, closures_pass, budget_of, is_budget, job_at}
use Rattle.dd_read.specs.Judged.{Judges, JudgesValue}
use Rattle.dd_read.specs.Read.{Obeys, question_at}
use Rattle.dd_read.specs.Standing as reading
use Rattle.dd_read.specs.Standing.{TakesBy, TakesLine, and_kept, due_at, is_blank}
use Rattle.dd_read.specs.State.{State, names_of, present_pin, present_versions}
use Rattle.dd_read.specs.Tests.{Admits, AfterBudget, AfterTexts, MayBeAsked, Passes, short_form}
use Rattle.dd_read.specs.declared.accepted.Accepted.{Accepted}
use Rattle.dd_read.specs.declared.accepted.Accepted.TheVariants.{Due, More}
use Rattle.dd_read.specs.declared.kept.Kept.{Kept}
use Rattle.dd_read.specs.declared.kept.Kept.TheVariants.{Finished, Asked}
use Rattle.dd_read.specs.declared.options.Options.{Options}
use Rattle.dd_server.specs.Finish.{Entries, KeepAll, LookUpAll, ReplyAll, Told, answered, replied}
use Rattle.dd_server.specs.Session.{Closes, FinishesAt, Session, Standing, Through, Turn, opening}
use Rattle.dd_read.proofs.Judging.{judges_some_cert}
use Rattle.dd_server.proofs.Reachable.{some_relevant}

-- ---- a line is read

after_place : (t : Tested Bool) (s : State) (w : Written) → (texts : Tested Resolved) × AfterPlace t s.symbols w texts
after_place (Err e) s w = (Err e, refl)
after_place (Ok b) s w = let reads = every_form_parses w in (sized_texts s.symbols reads.texts, (reads.texts, reads.is_parse, refl))

after_form : (t : Tested Written) (s : State) → (texts : Tested Resolved) × AfterForm t s.peers s.symbols texts
after_form (Err e) s = (Err e, refl)
after_form (Ok w) s = after_place (placed s.peers w) s w

-- each query has its job
some_job : (s : State) (q : Query) (b : Budget) → (job : Job) × IsJobAt s q b job
some_job s q b = let list = some_relevant (present_versions s) q.peer in (job_at s q b list.0, (list.0, list.1, refl))

may_be_asked : (s : State) (q : Query) (b : Budget) → (found : Tested Bool) × MayBeAsked s q b found
may_be_asked s q b = by_budget (demand bad_budget (is_budget b))
  where
    by_budget : (t : Tested Bool) → (found : Tested Bool) × AfterBudget t s q b found
    by_budget (Err e) = (Err e, refl)
    by_budget (Ok is) = let job = some_job s q b in (closures_pass job.0, (job.0, job.1, refl))

admits_some : (o : Options) (s : State) (y : SymbolLists) (p : Parsed) → (found : Tested Bool) × Admits o s y p found
admits_some o s y (peers ns) = (Ok true, refl)
admits_some o s y (put peer axioms into onto) = (_, refl)
admits_some o s y (ask peer left right expansions verdicts) = may_be_asked s (query_of (names_of s) y peer left right) (budget_of o expansions verdicts)
admits_some o s y (check peer left right pin cert) = (_, refl)
admits_some o s y versions = (Ok true, refl)

after_texts : (o : Options) (s : State) (texts : Tested Resolved) → (found : Tested Resolved) × AfterTexts o s texts found
after_texts o s (Err e) = (Err e, refl)
after_texts o s (Ok r) = let admitted = admits_some o s r.symbols r.request in (admitted.0 >>= (λ is. Ok r), (admitted.0, admitted.1, refl))

-- the tests of a line find something
passes_some : (o : Options) (s : State) (line : List ℕ) → (found : Tested Resolved) × Passes o s line found
passes_some o s line =
    let texts = after_form (short_form line) s in
    let found = after_texts o s texts.0 in
    (found.0, (texts.0, texts.1, found.1))

-- some reply tells of what was found of a certificate
judges_some : (id : ℕ) (q : Question) (found : Tried Certified) → (given : Reply) × Judges id q found given
judges_some id q (Ok c) = judges_some_cert id q c.cert
judges_some id q (Err (field name)) = let what : Bor (List ℕ) = record { ref_ptr = (0, 0); now = name } in (reply.Unreadable id (unread.Field what), (what, refl, refl))
judges_some id q (Err (place at value)) = (reply.Unreadable id (unread.Place _ value), refl)
judges_some id q (Err (text at)) = (reply.Unreadable id (unread.Text _), refl)
judges_some id q (Err full) = (reply.Refused id 12 None, refl)

judges_value : (id : ℕ) (q : Question) (s : SymbolLists) (d : Data) → (given : Reply) × JudgesValue id q s d given
judges_value id q s d =
    let found = some_cert_in s d in
    let told = judges_some id q found.0 in (told.0, (found.0, found.1, told.1))

-- a request does something
pub record MayDo (o : Options) (s : State) (id : ℕ) (found : Tested Resolved) : Type 0 where
  pub next : State
  pub kept : Kept
  pub obeys : Obeys o s id found next kept

does_some : (o : Options) (s : State) (id : ℕ) (y : SymbolLists) (p : Parsed) → MayDo o s id (Ok (record { request = p; symbols = y }))
does_some o s id y (peers ns) = record { next = _; kept = _; obeys = (refl, refl) }
does_some o s id y (put peer axioms into onto) = record { next = _; kept = _; obeys = (refl, refl) }
does_some o s id y (ask peer left right expansions verdicts) =
    let job = some_job s (query_of (names_of s) y peer left right) (budget_of o expansions verdicts) in
    record { next = record s { symbols = y }; kept = Asked (record { id = id; pin = record { versions = present_pin s }; job = job.0 }); obeys = (refl, (job.0, job.1, refl)) }
does_some o s id y (check peer left right pin cert) =
    let told = judges_value id (question_at s pin (query_of (names_of s) y peer left right)) y cert in
    record { next = s; kept = Finished told.0; obeys = (refl, told.0, refl, told.1) }
does_some o s id y versions = record { next = _; kept = _; obeys = (refl, refl) }

obeys_some : (o : Options) (s : State) (id : ℕ) (found : Tested Resolved) → MayDo o s id found
obeys_some o s id (Err e) = record { next = s; kept = Finished (reply.Refused id e.code e.n); obeys = (refl, refl) }
obeys_some o s id (Ok r) = does_some o s id r.symbols r.request

-- a line is taken somehow
pub record MayTake (o : Options) (at : reading.Standing) (line : List ℕ) : Type 0 where
  pub next : reading.Standing
  pub answer : Accepted
  pub takes : TakesLine o at line next answer

takes_some : (o : Options) (at : reading.Standing) (line : List ℕ) → MayTake o at line
takes_some o at line = let t = by_kind (is_blank line) in record { next = t.0; answer = t.1; takes = t.2 }
  where
    by_kind : (b : Bool) → (next : reading.Standing) × (answer : Accepted) × TakesBy b o at line next answer
    by_kind true = (at, Due, (refl, refl))
    by_kind false =
        let found = passes_some o at.state line in
        let does = obeys_some o at.state (at.requests + 1) found.0 in
        let next = and_kept at does.next does.kept in
        (next, due_at (length next.kept == o.window), (does.next, does.kept, (found.0, found.1, does.obeys), refl, refl))

-- ---- a window is finished

-- each ask may be answered that memory was wanting
told_of : Kept → Told
told_of (Finished given) = replied given
told_of (Asked a) = answered a (record { from = Search; answer = answer.Memory })

reply_of : Kept → Reply
reply_of (Finished given) = given
reply_of (Asked a) = reply.Memory a.id Search a.pin

all_told : List Kept → List Told
all_told [] = []
all_told (k ∷ ks) = told_of k ∷ all_told ks

all_replies : List Kept → List Reply
all_replies [] = []
all_replies (k ∷ ks) = reply_of k ∷ all_replies ks

looks_some : (s : SymbolLists) (ks : List Kept) (es : Entries) → LookUpAll s ks es es (all_told ks)
unfolding all_told told_of
looks_some s [] es = (refl, refl)
looks_some s (Finished given ∷ ks) es = (replied given, all_told ks, es, refl, (refl, refl), looks_some s ks es)
looks_some s (Asked a ∷ ks) es =
    (_, all_told ks, es, refl, (record { from = Search; answer = answer.Memory }, refl, (∣ tt ∣₁, inl (refl, refl))), looks_some s ks es)

keeps_some : (capacity : ℕ) (s : SymbolLists) (ks : List Kept) (es : Entries) → KeepAll capacity s (all_told ks) es es
unfolding all_told told_of
keeps_some capacity s [] es = refl
keeps_some capacity s (Finished given ∷ ks) es = (es, refl, keeps_some capacity s ks es)
keeps_some capacity s (Asked a ∷ ks) es = (es, inl refl, keeps_some capacity s ks es)

replies_some : (s : SymbolLists) (ks : List Kept) → ReplyAll s (all_told ks) (all_replies ks)
unfolding all_told told_of all_replies reply_of
replies_some s [] = refl
replies_some s (Finished given ∷ ks) = (given, all_replies ks, refl, refl, replies_some s ks)
replies_some s (Asked a ∷ ks) = (reply.Memory a.id Search a.pin, all_replies ks, refl, refl, replies_some s ks)

finishes_some : (o : Options) (at : Standing) → (replies : List Reply) × FinishesAt o at at.entries replies
finishes_some o at =
    let ks = at.reading.kept in
    let s = at.reading.state.symbols in
    (all_replies ks, (all_told ks, at.entries, looks_some s ks at.entries, keeps_some o.cache s ks at.entries, replies_some s ks))

-- ---- lines

pub record MayTurn (o : Options) (at : Standing) (line : List ℕ) : Type 0 where
  pub next : Standing
  pub replies : List Reply
  pub turn : Turn o at line next replies

turn_some : (o : Options) (at : Standing) (line : List ℕ) → MayTurn o at line
turn_some o at line =
    let t = takes_some o at.reading line in
    let mid : Standing = record { reading = t.next; entries = at.entries } in
    let c = closes t.answer mid in
    record { next = c.0; replies = c.1; turn = (t.next, t.answer, t.takes, c.2) }
  where
    closes : (a : Accepted) (mid : Standing) → (next : Standing) × (replies : List Reply) × Closes a o mid next replies
    closes More mid = (mid, [], (refl, refl))
    closes Due mid = let f = finishes_some o mid in (record { reading = record mid.reading { kept = [] }; entries = mid.entries }, f.0, (f.1, refl))

pub record MayGoOn (o : Options) (at : Standing) (lines : List (List ℕ)) : Type 0 where
  pub last : Standing
  pub replies : List Reply
  pub through : Through o at lines last replies

through_some : (o : Options) (at : Standing) (lines : List (List ℕ)) → MayGoOn o at lines
through_some o at [] = record { last = at; replies = []; through = (refl, refl) }
through_some o at (line ∷ lines) =
    let first = turn_some o at line in
    let more = through_some o first.next lines in record {
      last = more.last;
      replies = first.replies ++ more.replies;
      through = (first.next, first.replies, more.replies, first.turn, more.through, refl);
    }

-- ---- lines one after another

pub through-append : (o : Options) (a b c : Standing) (ls ms : List (List ℕ)) (rs ss : List Reply) → Through o a ls b rs → Through o b ms c ss → Through o a (ls ++ ms) c (rs ++ ss)
through-append o a b c [] ms rs ss h k =
    subst (λ (t : List Reply). Through o a ms c (t ++ ss)) (sym h.1) (subst (λ (x : Standing). Through o x ms c ss) h.0 k)
through-append o a b c (l ∷ ls) ms rs ss h k = (
  h.0,
  h.1,
  h.2 ++ ss,
  h.3,
  through-append o h.0 b c ls ms h.2 ss h.4 k,
  ap (λ (t : List Reply). t ++ ss) h.5 ∙ append_assoc h.1 h.2 ss,
)

pub through-turn : (o : Options) (a b c : Standing) (ls : List (List ℕ)) (l : List ℕ) (rs ss : List Reply) → Through o a ls b rs → Turn o b l c ss → Through o a (ls ++ l ∷ []) c (rs ++ ss)
through-turn o a b c ls l rs ss h t = through-append o a b c ls (l ∷ []) rs ss h (c, ss, [], t, (refl, refl), sym (append-nil ss))

-- what was replied so far is the front of an output
pub completes : (o : Options) (input : List ℕ) (lines rest : List (List ℕ)) (at : Standing) (replies : List Reply) → lines_of input ≡ lines ++ rest
    → Through o opening lines at replies → (more : List Reply) × Session o input (replies ++ more)
completes o input lines rest at replies is h =
    let t = through_some o at rest in
    let f = finishes_some o t.last in (
      t.replies ++ f.0,
      (
        t.last,
        replies ++ t.replies,
        t.last.entries,
        f.0,
        subst (λ (ls : List (List ℕ)). Through o opening ls t.last (replies ++ t.replies)) (sym is) (through-append o opening at t.last lines rest replies t.replies h t.through),
        f.1,
        sym (append_assoc replies t.replies f.0),
      ),
    )
