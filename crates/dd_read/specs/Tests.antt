-- The tests of a line, in their order: the first that fails refuses it. A line is tested for its length, then for its form, then
-- for its peers and its texts, and at last for what the state has.
use Rattle.std.specs.Prelude.{◌≡◌, ℕ, Bool, true, nat_le, nat_lt, List, length, Option, None, Some, Ok, Err}
use Rattle.dd_text.specs.Symbols.{SymbolLists, number_of}
use Rattle.dd_peer.specs.Refusals.{refusal_of}
use Rattle.dd_peer.specs.declared.check.PeerErr.{PeerErr}
use Rattle.dd_peer.specs.declared.check.PeerErr.TheVariants.{SamePeer, UnknownPeer, TooManyAxioms, TooManyRules}
use Rattle.dd_peer.specs.declared.version.PeerVersion.{PeerVersion}
use Rattle.dd_peer.specs.declared.version.Query.{Query}
use Rattle.dd_pin.specs.History.{is_pin, most_puts}
use Rattle.dd_task.specs.declared.job.Budget.{Budget}
use Rattle.dd_task.specs.declared.job.Job.{Job}
use Rattle.dd_wire.specs.Forms.{Written}
use Rattle.dd_wire.specs.Lines.{form_in}
use Rattle.dd_wire.specs.Refusal.{Refusal, Tested, ◌>>=◌, demand, refused_at, line_too_long, same_peer, unknown_source, too_many_axioms, too_many_rules, versions_full, bad_budget, bad_pin}
use Rattle.dd_wire.specs.Requests.{AfterForm, query_of, version_of}
use Rattle.dd_wire.specs.Texts.{Parsed, Resolved, peers, put, ask, check, versions}
use Rattle.dd_read.specs.Asks.{budget_of, IsJobAt, is_budget, closures_pass}
use Rattle.dd_read.specs.State.{State, names_of, peer_count}
use Rattle.dd_read.specs.declared.options.Options.{Options}

-- the most bytes of a line
abbrev pub longest_line : ℕ
longest_line = 1048576

-- the form of a line that is not too long
abbrev pub short_form : List ℕ → Tested Written
short_form line = demand line_too_long (nat_le (length line) longest_line) >>= (λ short. form_in line)

-- why a peer may not have a version
abbrev pub refused_version : PeerErr → Refusal
refused_version (SamePeer rule) = refused_at same_peer rule
refused_version (UnknownPeer rule) = refused_at unknown_source rule
refused_version (TooManyAxioms count) = refused_at too_many_axioms count
refused_version (TooManyRules from count) = refused_at too_many_rules count

abbrev pub may_be_version : Option PeerErr → Tested Bool
may_be_version None = Ok true
may_be_version (Some e) = Err (refused_version e)

-- a peer may have the version, and there are not as many puts as there may be
abbrev pub may_be_put : State → ℕ → PeerVersion → Tested Bool
may_be_put state peer v = may_be_version (refusal_of v (peer_count state) peer) >>= (λ is. demand versions_full (nat_lt (length state.history) most_puts))

-- the budget of an ask is within its limits, and then the closures of the peers that bear on it are not too large
abbrev pub AfterBudget : Tested Bool → State → Query → Budget → Tested Bool → Type 0
AfterBudget (Err e) state query budget found = found ≡ Err e
AfterBudget (Ok is) state query budget found = (job : Job) × IsJobAt state query budget job × (found ≡ closures_pass job)

abbrev pub MayBeAsked : State → Query → Budget → Tested Bool → Type 0
MayBeAsked state query budget found = AfterBudget (demand bad_budget (is_budget budget)) state query budget found

-- what the tests find that ask what the state has, once the texts were read
abbrev pub Admits : Options → State → SymbolLists → Parsed → Tested Bool → Type 0
Admits options state s (peers names) found = found ≡ Ok true
Admits options state s (put peer axioms into onto) found =
    found ≡ may_be_put state (number_of (names_of state) peer) (version_of (names_of state) s axioms into onto)
Admits options state s (ask peer left right expansions verdicts) found =
    MayBeAsked state (query_of (names_of state) s peer left right) (budget_of options expansions verdicts) found
Admits options state s (check peer left right pin cert) found = found ≡ demand bad_pin (is_pin (peer_count state) pin state.history)
Admits options state s versions found = found ≡ Ok true

-- the request, where these tests let it through as well
abbrev pub AfterTexts : Options → State → Tested Resolved → Tested Resolved → Type 0
AfterTexts options state (Err e) found = found ≡ Err e
AfterTexts options state (Ok r) found = (admitted : Tested Bool) × Admits options state r.symbols r.request admitted × (found ≡ (admitted >>= (λ is. Ok r)))

-- what the tests of a line find: its request, or the refusal
abbrev pub Passes : Options → State → List ℕ → Tested Resolved → Type 0
Passes options state line found = (texts : Tested Resolved) × AfterForm (short_form line) state.peers state.symbols texts × AfterTexts options state texts found
