-- What is kept is fit, and what is known of the puts stays known.
use Rattle.std.proofs.Common.{inl, inr, ◌≡◌, ◌==◌, ℕ, ◌<◌, ◌≤◌, List, [], ◌∷◌, ◌++◌, length, map, cond, Bool, true, false, refl, ap, sym, ◌∙◌, subst, arith, Option, None, Some, Ok, Err}
use Rattle.std.proofs.lemmas.Bool.{eqb-true, false≢true, leb-true, or_cases}
use Rattle.std.proofs.lemmas.List.{append-nil}
use Rattle.std.proofs.lemmas.List.Elements.{All-append, All-cons, All-head, All-nil, All-tail, All-weaker}
use Rattle.std.specs.Prelude.{All, nat_le, option_map}
use Rattle.dd_peer.specs.Relevant.{AreRelevant, is_in}
use Rattle.dd_peer.specs.Versions.{IsNumbered}
use Rattle.dd_peer.specs.declared.version.PeerVersion.{PeerVersion}
use Rattle.dd_peer.specs.declared.version.Pinned.{Pinned}
use Rattle.dd_peer.specs.declared.version.Query.{Query}
use Rattle.dd_pin.specs.History.{AreAccepted, Registered, is_pin, pinned_by}
use Rattle.dd_pin.proofs.Pins.{pinned-size}
use Rattle.dd_pin.specs.declared.registry.Accepted.{Accepted}
use Rattle.dd_run.specs.Fit.{HasFewConcepts, closure_for}
use Rattle.dd_task.specs.declared.job.Budget.{Budget}
use Rattle.dd_task.specs.declared.job.Job.{Job}
use Rattle.dd_text.specs.Symbols.{SymbolLists, Grows}
use Rattle.dd_text.proofs.Building.{Grows-refl}
use Rattle.dd_wire.specs.Refusal.{Refusal, Tested, ◌>>=◌, closure_full, demand_none, refused_at}
use Rattle.dd_wire.specs.Requests.{IsWritten, concepts_in, concepts_of}
use Rattle.dd_wire.specs.declared.request.Request.{Request}
use Rattle.dd_wire.specs.declared.request.Request.TheVariants.{Peers, Put, Ask, Check, Versions}
use Rattle.dd_read.specs.Asks.{IsJobAt, closures_pass, first_full, is_budget, job_at, most_concepts}
use Rattle.dd_read.specs.Does.{AskBy, DoesRequest, Fits}
use Rattle.dd_read.specs.Fit.{IsFitAsk, IsFitJob, IsFitKept, IsKnownPut, IsSound}
use Rattle.dd_read.specs.State.{Later, State, peer_count, present_pin, present_versions, with_put}
use Rattle.dd_read.specs.declared.kept.Ask.{Ask as KeptAsk}
use Rattle.dd_read.specs.declared.kept.Kept.{Kept}
use Rattle.dd_read.specs.declared.kept.Kept.TheVariants.{Finished, Asked}
use Rattle.dd_read.specs.declared.obeyed.Obeyed.{Obeyed}
use Rattle.dd_read.specs.declared.obeyed.Obeyed.TheVariants.{Stays, Cut}
use Rattle.dd_read.specs.declared.options.Options.{Options}
use Rattle.dd_read.proofs.Keeping.{Leads, all_later, given_written, puts_later, targets_small, with_symbols}

-- ---- closures

few_of : (job : Job) (is : List ℕ) → first_full job is ≡ None → All (HasFewConcepts job) is
few_of job [] e = All-nil (HasFewConcepts job)
few_of job (i ∷ is) e = by (nat_le (length (closure_for job i)) most_concepts) refl e (few_of job is)
  where
    some : (n : ℕ) → Some n ≡ None → ⊥
    some n e = cc e

    by : (b : Bool) → nat_le (length (closure_for job i)) most_concepts ≡ b → cond b (first_full job is) (Some (length (closure_for job i))) ≡ None → (first_full job is ≡ None → All (HasFewConcepts job) is) → All (HasFewConcepts job) (i ∷ is)
    by true small e rest = All-cons (HasFewConcepts job) i is (leb-true (length (closure_for job i)) most_concepts small) (rest e)
    by false large e rest = absurd (some (length (closure_for job i)) e)

few_in : (job : Job) (is : List ℕ) → All (HasFewConcepts job) is → (i : ℕ) → is_in is i ≡ true → HasFewConcepts job i
few_in job [] all i at = absurd (false≢true at)
few_in job (k ∷ is) all i at = elim (or_cases (k == i) (is_in is i) at) [
  | inl e ↦ subst (HasFewConcepts job) (eqb-true k i e) (All-head (HasFewConcepts job) k is all)
  | inr later ↦ few_in job is (All-tail (HasFewConcepts job) k is all) i later
]

passing : Option ℕ → Tested Bool
passing full = demand_none closure_full full >>= (λ none. Ok true)

pub closures_ok : (job : Job) → first_full job job.relevant ≡ None → closures_pass job ≡ Ok true
unfolding passing
closures_ok job e = ap passing e

pub closures_err : (job : Job) (n : ℕ) → first_full job job.relevant ≡ Some n → closures_pass job ≡ Err (refused_at closure_full n)
unfolding passing
closures_err job n e = ap passing e

-- ---- a new ask

pub ask_fit : (s : State) (ks : List Kept) (id : ℕ) (pin : List ℕ) (q : Query) (budget : Budget) (job : Job) → IsSound s ks → pin ≡ present_pin s → is_pin (peer_count s) pin s.history ≡ true
    → IsJobAt s q budget job → AreAccepted job.pinned → length job.pinned.peers ≡ peer_count s → q.peer < peer_count s → is_budget budget ≡ true
    → All (IsWritten s.symbols) (concepts_in q) → first_full job job.relevant ≡ None
    → IsFitKept s (Asked (record { id = id; pin = record { versions = pin }; job = job }))
ask_fit s ks id pin q budget job sound present has at accepted size declared within written full =
    let list = at.0 in
    let same : job ≡ job_at s q budget list = at.2 in
    let pinned : job.pinned ≡ pinned_by pin s.history = ap (λ (j : Job). j.pinned) same ∙ ap (λ (p : List ℕ). pinned_by p s.history) (sym present) in
    let query : job.query ≡ q = ap (λ (j : Job). j.query) same in
    record {
      pin = has;
      pinned = pinned;
      job = record {
        accepted = accepted;
        asked = subst (λ (k : Query). k.peer < length job.pinned.peers) (sym query) (let below = declared in omega (arith, below, size));
        relevant = subst (λ (j : Job). AreRelevant j.pinned j.query.peer j.relevant) (sym same) at.1;
        few = few_in job job.relevant (few_of job job.relevant full);
        within = ap (λ (j : Job). is_budget j.budget) same ∙ within;
        written = given_written s.symbols pin s.history sound.puts job pinned (subst (λ (k : Query). All (IsWritten s.symbols) (k.left ∷ k.right ∷ [])) (sym query) written);
        targets = targets_small s.symbols pin s.history sound.puts job.pinned pinned;
      };
    }

-- ---- one more put

pub put_sound : (s : State) (ks : List Kept) (n : ℕ) (v : PeerVersion) → IsSound s ks → IsNumbered v → All (IsWritten s.symbols) (concepts_of v) → IsSound (with_put s s.symbols n v) ks
put_sound s ks n v sound numbered written =
    let a : Accepted = record { peer = n; version = v } in
    record {
      puts = All-append (IsKnownPut s.symbols) s.history (a ∷ []) sound.puts (All-cons (IsKnownPut s.symbols) a [] (numbered, written) (All-nil (IsKnownPut s.symbols)));
      fit = all_later s (with_put s s.symbols n v) (record { peers = refl; symbols = Grows-refl s.symbols; more = a ∷ []; history = refl }) ks sound.fit;
    }

-- ---- peers are declared

-- before that no ask is kept
declared_fit : (s t : State) → s.peers ≡ None → (k : Kept) → IsFitKept s k → IsFitKept t k
declared_fit s t none (Finished given) fit = fit
declared_fit s t none (Asked ask) fit = absurd (nobody fit)
  where
    count : peer_count s ≡ 0
    count = ap (λ (p : Option (List (List ℕ))). peer_count (record { peers = p; symbols = s.symbols; history = s.history })) none

    nobody : IsFitAsk s ask → ⊥
    nobody fit =
        let size = pinned-size (peer_count s) ask.pin.versions s.history fit.pin in
        let same : length ask.job.pinned.peers ≡ length (pinned_by ask.pin.versions s.history).peers = ap (λ (p : Pinned). length p.peers) fit.pinned in
        let below = fit.job.asked in omega (arith, below, same, size, count)

pub declared_sound : (s t : State) (ks : List Kept) → s.peers ≡ None → t.history ≡ [] → IsSound s ks → IsSound t ks
declared_sound s t ks none empty sound = record {
  puts = subst (All (IsKnownPut t.symbols)) (sym empty) (All-nil (IsKnownPut t.symbols));
  fit = All-weaker (IsFitKept s) (IsFitKept t) (declared_fit s t none) ks sound.fit;
}

-- ---- later states

pub later_same : (s t : State) → t ≡ s → Later s t
later_same s t e = subst (Later s) (sym e) (record { peers = inr refl; symbols = Grows-refl s.symbols; history = ([], sym (append-nil s.history)) })

-- what a request does leads to a later state
pub does_later : (o : Options) (s new : State) (id : ℕ) (r : Request) (b : Obeyed) → Fits s r → Grows s.symbols new.symbols → DoesRequest o s id r new b → Later s new
does_later o s new id (Peers names) (Stays kept) fits g does =
    record { peers = inl fits.1; symbols = g; history = ([], ap (λ (t : State). t.history) does.0 ∙ sym (append-nil s.history)) }
does_later o s new id (Put n v) (Stays kept) fits g does =
    record { peers = inr (ap (λ (t : State). t.peers) does.1); symbols = g; history = (record { peer = n; version = v } ∷ [], ap (λ (t : State). t.history) does.1) }
does_later o s new id (Ask q x v) (Stays kept) fits g does = later_same s new does.0
does_later o s new id (Check q pin cert) (Stays kept) fits g does = absurd does
does_later o s new id Versions (Stays kept) fits g does = later_same s new does.0
does_later o s new id r (Cut kept) fits g does =
    record { peers = inr (ap (λ (t : State). t.peers) does.0); symbols = g; history = ([], ap (λ (t : State). t.history) does.0 ∙ sym (append-nil s.history)) }
