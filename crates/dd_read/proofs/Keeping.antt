-- What stays as it is while symbols grow and puts come: concepts that are written, versions that a pin names, and asks that are fit.
use Rattle.std.proofs.Common.{◌≡◌, ℕ, zero, suc, ◌+◌, ◌<◌, ◌≤◌, List, [], ◌∷◌, ◌++◌, ◌&&◌, length, get_or, map, Bool, true, false, cond, nat_eq, nat_lt, All, refl, ap, sym, ◌∙◌, subst, arith, Option, None, Some}
use Rattle.std.proofs.lemmas.Bool.{and_from, and_parts, lt-ltb, ltb-true}
use Rattle.std.proofs.lemmas.List.{append-nil}
use Rattle.std.proofs.lemmas.List.Elements.{All-append, All-cons, All-head, All-nil, All-tail, All-weaker}
use Rattle.std.proofs.lemmas.List.FromFn.{length-map-range_with_len, get_or-map-range_with_len}
use Rattle.std.proofs.lemmas.Option.{slice_get-get_or, slice_get_within, get_or_from_slice_get}
use Rattle.std.specs.Prelude.{filter, flat_map, slice_get}
use Rattle.std.specs.List.{range_with_len}
use Rattle.std.specs.Option.{option_map_or}
use Rattle.dd_concept.specs.declared.concept.Axiom.{Axiom}
use Rattle.dd_concept.specs.declared.concept.Concept.{Concept}
use Rattle.dd_concept.specs.declared.concept.Concept.TheVariants as concept
use Rattle.dd_concept.proofs.Folds.{fold-Top, fold-Bottom, fold-Name, fold-Not, fold-And, fold-Or, fold-HasSome, fold-HasAll}
use Rattle.dd_concept.proofs.Induction.{induct}
use Rattle.dd_peer.specs.declared.version.PeerVersion.{PeerVersion}
use Rattle.dd_peer.specs.declared.version.Pinned.{Pinned}
use Rattle.dd_peer.specs.declared.version.Rule.{Rule}
use Rattle.dd_peer.specs.Versions.{AreNumbered, IsNumbered, empty_version}
use Rattle.dd_pin.specs.declared.registry.Accepted.{Accepted}
use Rattle.dd_pin.specs.History.{is_pin, number_for, pinned_by, version_at, versions_of}
use Rattle.dd_pin.proofs.Pins.{pin_parts, pinned-size, stays}
use Rattle.dd_run.specs.Given.{given_by, given_of}
use Rattle.dd_task.specs.Rules.{all_onto}
use Rattle.dd_task.specs.declared.job.Job.{Job}
use Rattle.dd_text.specs.Reads.{IsSmall, request_limits}
use Rattle.dd_text.specs.Symbols.{SymbolLists, Appends, Grows}
use Rattle.dd_text.specs.Text.{has_symbols, has_symbols_at}
use Rattle.dd_text.proofs.Building.{Grows-refl}
use Rattle.dd_text.proofs.Numbering.{length-Appends}
use Rattle.dd_wire.specs.Requests.{IsWritten, concepts_of, sides_by, sides_in}
use Rattle.dd_read.specs.Fit.{IsFitAsk, IsFitJob, IsFitKept, IsKnownPut, IsSound}
use Rattle.dd_read.specs.State.{State, peer_count}
use Rattle.dd_read.specs.declared.kept.Ask.{Ask}
use Rattle.dd_read.specs.declared.kept.Kept.{Kept}
use Rattle.dd_read.specs.declared.kept.Kept.TheVariants.{Finished, Asked}

-- ---- symbols grow

number_later : (a : ℕ) (xs zs : List (List ℕ)) → Appends xs zs → nat_lt a (length xs) ≡ true → nat_lt a (length zs) ≡ true
number_later a xs zs g h =
    let longer = length-Appends xs zs g in
    let less = ltb-true a (length xs) h in lt-ltb a (length zs) (omega (arith, longer, less))

pub symbols_later : (s u : SymbolLists) → Grows s u → (c : Concept) → has_symbols s c ≡ true → has_symbols u c ≡ true
symbols_later s u g =
    induct (λ c. has_symbols s c ≡ true → has_symbols u c ≡ true) (record {
      top = λ h. fold-Top Bool (has_symbols_at u);
      bottom = λ h. fold-Bottom Bool (has_symbols_at u);
      name = λ a h. fold-Name Bool (has_symbols_at u) a ∙ number_later a s.names u.names g.names (sym (fold-Name Bool (has_symbols_at s) a) ∙ h);
      not = λ c k h. fold-Not Bool (has_symbols_at u) c ∙ k (sym (fold-Not Bool (has_symbols_at s) c) ∙ h);
      and = λ c d k m h.
          let both = and_parts (has_symbols s c) (has_symbols s d) (sym (fold-And Bool (has_symbols_at s) c d) ∙ h) in
          fold-And Bool (has_symbols_at u) c d ∙ and_from (has_symbols u c) (has_symbols u d) (k both.0) (m both.1);
      or = λ c d k m h.
          let both = and_parts (has_symbols s c) (has_symbols s d) (sym (fold-Or Bool (has_symbols_at s) c d) ∙ h) in
          fold-Or Bool (has_symbols_at u) c d ∙ and_from (has_symbols u c) (has_symbols u d) (k both.0) (m both.1);
      has_some = λ r c k h.
          let both = and_parts (nat_lt r (length s.roles)) (has_symbols s c) (sym (fold-HasSome Bool (has_symbols_at s) r c) ∙ h) in
          fold-HasSome Bool (has_symbols_at u) r c ∙ and_from (nat_lt r (length u.roles)) (has_symbols u c) (number_later r s.roles u.roles g.roles both.0) (k both.1);
      has_all = λ r c k h.
          let both = and_parts (nat_lt r (length s.roles)) (has_symbols s c) (sym (fold-HasAll Bool (has_symbols_at s) r c) ∙ h) in
          fold-HasAll Bool (has_symbols_at u) r c ∙ and_from (nat_lt r (length u.roles)) (has_symbols u c) (number_later r s.roles u.roles g.roles both.0) (k both.1);
    })

written_later : (s u : SymbolLists) → Grows s u → (c : Concept) → IsWritten s c → IsWritten u c
written_later s u g c h = record { named = symbols_later s u g c h.named; small = h.small }

all_written_later : (s u : SymbolLists) → Grows s u → (cs : List Concept) → All (IsWritten s) cs → All (IsWritten u) cs
all_written_later s u g cs h = All-weaker (IsWritten s) (IsWritten u) (written_later s u g) cs h

put_later : (s u : SymbolLists) → Grows s u → (a : Accepted) → IsKnownPut s a → IsKnownPut u a
put_later s u g a h = (h.0, all_written_later s u g (concepts_of a.version) h.1)

pub puts_later : (s u : SymbolLists) → Grows s u → (h : List Accepted) → All (IsKnownPut s) h → All (IsKnownPut u) h
puts_later s u g h all = All-weaker (IsKnownPut s) (IsKnownPut u) (put_later s u g) h all

-- ---- what holds of every version of a history holds of each that a pin names

module _ (Q : PeerVersion → Type 0) (none : Q empty_version) where
  of_peer : (peer : ℕ) (h : List Accepted) → All (λ a. Q a.version) h → All Q (versions_of peer h)
  of_peer peer [] all = All-nil Q
  of_peer peer (a ∷ h) all = by_test (nat_eq a.peer peer) (of_peer peer h (All-tail (λ b. Q b.version) a h all))
    where
      by_test : (b : Bool) → All Q (versions_of peer h)
          → All Q (map (λ (c : Accepted). c.version) (cond b (a ∷ filter (λ (c : Accepted). nat_eq c.peer peer) h) (filter (λ (c : Accepted). nat_eq c.peer peer) h)))
      by_test true rest = All-cons Q a.version (versions_of peer h) (All-head (λ b. Q b.version) a h all) rest
      by_test false rest = rest

  at_place : (vs : List PeerVersion) (k : ℕ) → All Q vs → Q (get_or vs k empty_version)
  at_place [] k all = none
  at_place (v ∷ vs) zero all = All-head Q v vs all
  at_place (v ∷ vs) (suc k) all = at_place vs k (All-tail Q v vs all)

  at_number : (peer k : ℕ) (h : List Accepted) → All (λ a. Q a.version) h → Q (version_at peer h k)
  at_number peer k h all = at_place (empty_version ∷ versions_of peer h) k (All-cons Q empty_version (versions_of peer h) none (of_peer peer h all))

  pub pinned_each : (pin : List ℕ) (h : List Accepted) → All (λ a. Q a.version) h → (k : ℕ) (v : PeerVersion) → slice_get (pinned_by pin h).peers k ≡ Some v → Q v
  pinned_each pin h all k v at =
      let named = λ (peer : ℕ). version_at peer h (number_for peer pin) in
      let many = length-map-range_with_len named 0 (length pin) in
      let within : k < length pin = omega (arith, slice_get_within (map named (range_with_len 0 (length pin))) k v at, many) in
      let v_is : v ≡ named k =
      sym (get_or_from_slice_get (map named (range_with_len 0 (length pin))) k v v at) ∙ get_or-map-range_with_len named 0 (length pin) k k v within (omega arith) in
      subst Q (sym v_is) (at_number k (number_for k pin) h all)

-- ---- the pinned versions are numbered and written

empty_numbered : IsNumbered empty_version
empty_numbered = record { axioms = omega arith; rules = omega arith }

pub pinned_numbered : (s : SymbolLists) (n : ℕ) (pin : List ℕ) (h : List Accepted) → n ≤ 64 → is_pin n pin h ≡ true → All (IsKnownPut s) h → AreNumbered (pinned_by pin h)
pinned_numbered s n pin h most is all =
    let p : Pinned = pinned_by pin h in
    record {
      peers = let size = pinned-size n pin h is in omega (arith, size, most);
      versions = λ k d lt. pinned_each IsNumbered empty_numbered pin h (All-weaker (IsKnownPut s) (λ a. IsNumbered a.version) (λ a k. k.0) h all) k (get_or p.peers k d) (slice_get-get_or p.peers k d lt);
    }

-- the concepts of a version that may be there, and its onto rules
abbrev given_for : Option PeerVersion → List Concept
given_for o = flat_map sides_in (option_map_or (λ (v : PeerVersion). v.axioms) o [])
    ++ flat_map sides_by (option_map_or (λ (v : PeerVersion). v.into) o [] ++ option_map_or (λ (v : PeerVersion). v.onto) o [])

abbrev onto_for : Option PeerVersion → List Rule
onto_for o = option_map_or (λ (v : PeerVersion). v.onto) o []

module _ (s : SymbolLists) (pin : List ℕ) (h : List Accepted) (all : All (IsKnownPut s) h) where
  each_written : (k : ℕ) (v : PeerVersion) → slice_get (pinned_by pin h).peers k ≡ Some v → All (IsWritten s) (concepts_of v)
  each_written = pinned_each (λ v. All (IsWritten s) (concepts_of v)) (All-nil (IsWritten s)) pin h (All-weaker (IsKnownPut s) (λ a. All (IsWritten s) (concepts_of a.version)) (λ a k. k.1) h all)

  peer_written : (i : ℕ) → All (IsWritten s) (given_by (pinned_by pin h) i)
  peer_written i = by_version (slice_get (pinned_by pin h).peers i) refl
    where
      by_version : (o : Option PeerVersion) → slice_get (pinned_by pin h).peers i ≡ o → All (IsWritten s) (given_for o)
      by_version None e = All-nil (IsWritten s)
      by_version (Some v) e = each_written i v e

  peers_written : (list : List ℕ) → All (IsWritten s) (flat_map (given_by (pinned_by pin h)) list)
  peers_written [] = All-nil (IsWritten s)
  peers_written (i ∷ is) = All-append (IsWritten s) (given_by (pinned_by pin h) i) (flat_map (given_by (pinned_by pin h)) is) (peer_written i) (peers_written is)

  pub given_written : (job : Job) → job.pinned ≡ pinned_by pin h → All (IsWritten s) (job.query.left ∷ job.query.right ∷ []) → All (IsWritten s) (given_of job)
  given_written job is query =
      subst (λ (p : Pinned). All (IsWritten s) (flat_map (given_by p) job.relevant ++ (job.query.left ∷ job.query.right ∷ []))) (sym is)
      (All-append (IsWritten s) (flat_map (given_by (pinned_by pin h)) job.relevant) (job.query.left ∷ job.query.right ∷ []) (peers_written job.relevant) query)

  -- the targets of all onto rules
  targets_in : (rules : List Rule) → All (IsWritten s) (flat_map sides_by rules) → All (λ (r : Rule). IsSmall request_limits r.target) rules
  targets_in [] w = All-nil (λ (r : Rule). IsSmall request_limits r.target)
  targets_in (r ∷ rs) w =
      let tail = All-tail (IsWritten s) r.source (r.target ∷ flat_map sides_by rs) w in
      All-cons (λ (q : Rule). IsSmall request_limits q.target) r rs (All-head (IsWritten s) r.target (flat_map sides_by rs) tail).small
      (targets_in rs (All-tail (IsWritten s) r.target (flat_map sides_by rs) tail))

  behind_axioms : (axioms : List Axiom) (cs : List Concept) → All (IsWritten s) (flat_map sides_in axioms ++ cs) → All (IsWritten s) cs
  behind_axioms [] cs w = w
  behind_axioms (a ∷ axioms) cs w =
      behind_axioms axioms cs (All-tail (IsWritten s) a.right (flat_map sides_in axioms ++ cs) (All-tail (IsWritten s) a.left (a.right ∷ (flat_map sides_in axioms ++ cs)) w))

  behind_rules : (into onto : List Rule) → All (IsWritten s) (flat_map sides_by (into ++ onto)) → All (IsWritten s) (flat_map sides_by onto)
  behind_rules [] onto w = w
  behind_rules (r ∷ into) onto w =
      behind_rules into onto (All-tail (IsWritten s) r.target (flat_map sides_by (into ++ onto)) (All-tail (IsWritten s) r.source (r.target ∷ flat_map sides_by (into ++ onto)) w))

  pub targets_small : (p : Pinned) → p ≡ pinned_by pin h → (i : ℕ) → All (λ (r : Rule). IsSmall request_limits r.target) (all_onto p i)
  targets_small p is i = subst (λ (q : Pinned). All (λ (r : Rule). IsSmall request_limits r.target) (all_onto q i)) (sym is) (by_version (slice_get (pinned_by pin h).peers i) refl)
    where
      by_version : (o : Option PeerVersion) → slice_get (pinned_by pin h).peers i ≡ o → All (λ (r : Rule). IsSmall request_limits r.target) (onto_for o)
      by_version None e = All-nil (λ (r : Rule). IsSmall request_limits r.target)
      by_version (Some v) e = targets_in v.onto (behind_rules v.into v.onto (behind_axioms v.axioms (flat_map sides_by (v.into ++ v.onto)) (each_written i v e)))

-- ---- asks stay fit

job_later : (s u : SymbolLists) → Grows s u → (job : Job) → IsFitJob s job → IsFitJob u job
job_later s u g job f = record {
  accepted = f.accepted;
  asked = f.asked;
  relevant = f.relevant;
  few = f.few;
  within = f.within;
  written = all_written_later s u g (given_of job) f.written;
  targets = f.targets;
}

-- a state with more symbols and more puts
pub record Leads (s t : State) : Type 0 where
  pub peers : t.peers ≡ s.peers
  pub symbols : Grows s.symbols t.symbols
  pub more : List Accepted
  pub history : t.history ≡ s.history ++ more

ask_later : (s t : State) → Leads s t → (ask : Ask) → IsFitAsk s ask → IsFitAsk t ask
ask_later s t l ask f =
    let kept = stays (peer_count s) ask.pin.versions s.history l.more f.pin in
    record {
      pin = subst (λ (peers : Option (List (List ℕ))). is_pin (count_of peers) ask.pin.versions t.history ≡ true) (sym l.peers)
          (subst (λ (h : List Accepted). is_pin (peer_count s) ask.pin.versions h ≡ true) (sym l.history) kept.0);
      pinned = f.pinned ∙ sym kept.1 ∙ ap (pinned_by ask.pin.versions) (sym l.history);
      job = job_later s.symbols t.symbols l.symbols ask.job f.job;
    }
  where
    count_of : Option (List (List ℕ)) → ℕ
    count_of peers = peer_count (record { peers = peers; symbols = s.symbols; history = s.history })

pub kept_later : (s t : State) → Leads s t → (k : Kept) → IsFitKept s k → IsFitKept t k
kept_later s t l (Finished given) f = f
kept_later s t l (Asked ask) f = ask_later s t l ask f

pub all_later : (s t : State) → Leads s t → (ks : List Kept) → All (IsFitKept s) ks → All (IsFitKept t) ks
all_later s t l ks h = All-weaker (IsFitKept s) (IsFitKept t) (kept_later s t l) ks h

-- with more symbols alone
abbrev pub with_symbols : State → SymbolLists → State
with_symbols s y = record { peers = s.peers; symbols = y; history = s.history }

pub sound_later : (s : State) (y : SymbolLists) (ks : List Kept) → Grows s.symbols y → IsSound s ks → IsSound (record s { symbols = y }) ks
sound_later s y ks g h = record {
  puts = puts_later s.symbols y g s.history h.puts;
  fit = all_later s (record s { symbols = y }) (record { peers = refl; symbols = g; more = []; history = sym (append-nil s.history) }) ks h.fit;
}
