-- Asks with the same key ask the same, so what is kept under the key of an ask is an answer to it.
use Rattle.std.proofs.Common.{◌≡◌, ◌∙◌, ℕ, zero, suc, ◌+◌, ◌==◌, Bool, true, false, List, [], ◌∷◌, length, get_or, map, Option, None, Some, ap, refl, subst, sym, inl, inr, arith, All}
use Rattle.std.specs.Prelude.{flat_map, slice_get}
use Rattle.std.specs.List.{range_with_len}
use Rattle.std.proofs.lemmas.Bool.{eqb-true, false≢true, or_cases}
use Rattle.dd_concept.specs.declared.concept.Concept.{Concept}
use Rattle.dd_peer.specs.Relevant.{is_in}
use Rattle.dd_peer.specs.declared.version.Pinned.{Pinned}
use Rattle.dd_peer.specs.declared.version.PeerVersion.{PeerVersion}
use Rattle.dd_peer.specs.declared.version.Query.{Query}
use Rattle.dd_pin.specs.History.{number_for, pinned_by, version_at}
use Rattle.dd_pin.specs.declared.registry.Accepted.{Accepted}
use Rattle.dd_pin.proofs.Pins.{pin_parts, pinned-size}
use Rattle.dd_run.specs.Given.{given_by, given_of}
use Rattle.dd_task.specs.declared.job.Job.{Job}
use Rattle.dd_task.proofs.Places.{All-at, at-behind}
use Rattle.dd_answer.specs.declared.answer.Answer.{Answer}
use Rattle.dd_answer.specs.declared.answer.Answer.TheVariants as answer
use Rattle.dd_cache.specs.Entries.{IsVerdict}
use Rattle.dd_cache.specs.Keys.{Key, same_key, versions_at}
use Rattle.dd_server.proofs.EqualKeys.{one_key}
use Rattle.dd_outcome.specs.Answers.{Answers}
use Rattle.dd_text.specs.Grammar.{Spells, Term, term_text}
use Rattle.dd_text.specs.Symbols.{IsNumbering, SymbolLists}
use Rattle.dd_text.specs.Text.{concept_of, concept_text, has_symbols, term_of}
use Rattle.dd_text.proofs.RoundTrip.{IsBack, written_back}
use Rattle.dd_text.proofs.Unique.{Spells-unique}
use Rattle.dd_wire.specs.Requests.{IsWritten}
use Rattle.dd_read.specs.Fit.{IsFitAsk, IsFitJob}
use Rattle.dd_read.specs.State.{State, peer_count}
use Rattle.dd_read.specs.declared.kept.Ask.{Ask}
use Rattle.dd_server.specs.Finish.{key_of_ask}
use Rattle.dd_server.specs.Relevance.{AskTheSame}
use Rattle.dd_server.proofs.Relevance.{relevant_versions}

-- ---- a text is that of one concept

pub one_concept : (s : SymbolLists) → IsNumbering s → (c d : Concept) → has_symbols s c ≡ true → has_symbols s d ≡ true → concept_text s c ≡ concept_text s d → c ≡ d
one_concept s numbering c d hc hd same =
    let b = written_back s numbering c hc in
    let e = written_back s numbering d hd in
    let one : term_of s c ≡ term_of s d = Spells-unique (concept_text s c) (term_of s c) (term_of s d) (record { written = b.written; text_is = refl }) (record { written = e.written; text_is = same }) in
    sym b.same ∙ ap (concept_of s) one ∙ e.same

-- ---- the versions that a pin has for peers

paired : (f g : ℕ → ℕ) (is js : List ℕ) → map {B = ℕ × ℕ} (λ i. (i, f i)) is ≡ map {B = ℕ × ℕ} (λ j. (j, g j)) js → (is ≡ js) × ((i : ℕ) → is_in is i ≡ true → f i ≡ g i)
paired f g [] [] e = (refl, λ i here. absurd (false≢true here))
paired f g [] (j ∷ js) e = absurd (cc e)
paired f g (i ∷ is) [] e = absurd (cc e)
paired f g (i ∷ is) (j ∷ js) e = by_parts (first e) (paired f g is js (rest e))
  where
    first : (i, f i) ∷ map {B = ℕ × ℕ} (λ i. (i, f i)) is ≡ (j, g j) ∷ map {B = ℕ × ℕ} (λ j. (j, g j)) js → (i ≡ j) × (f i ≡ g j)
    first e = let pair : (let p : ℕ × ℕ = (i, f i) in p) ≡ (let q : ℕ × ℕ = (j, g j) in q) = cc e in (ap (λ (p : ℕ × ℕ). p.0) pair, ap (λ (p : ℕ × ℕ). p.1) pair)

    rest : (i, f i) ∷ map {B = ℕ × ℕ} (λ i. (i, f i)) is ≡ (j, g j) ∷ map {B = ℕ × ℕ} (λ j. (j, g j)) js → map {B = ℕ × ℕ} (λ i. (i, f i)) is ≡ map {B = ℕ × ℕ} (λ j. (j, g j)) js
    rest e = cc e

    by_parts : (i ≡ j) × (f i ≡ g j) → (is ≡ js) × ((k : ℕ) → is_in is k ≡ true → f k ≡ g k) → (i ∷ is ≡ j ∷ js) × ((k : ℕ) → is_in (i ∷ is) k ≡ true → f k ≡ g k)
    by_parts head more = (
      ap (λ n. n ∷ is) head.0 ∙ ap (λ l. j ∷ l) more.0,
      λ k here. elim (or_cases (i == k) (is_in is k) here) [
        | inl same ↦ let at = eqb-true i k same in ap f (sym at) ∙ head.1 ∙ ap g (sym head.0 ∙ at)
        | inr later ↦ more.1 k later
      ],
    )

-- two maps over the same numbers have the same at a place where their functions have
ranged : {A : Type 0} (f g : ℕ → A) (a n i : ℕ) → f (a + i) ≡ g (a + i) → slice_get (map f (range_with_len a n)) i ≡ slice_get (map g (range_with_len a n)) i
ranged f g a zero i e = refl
ranged f g a (suc n) zero e = ap Some (ap f (here a) ∙ e ∙ ap g (sym (here a)))
  where
    here : (a : ℕ) → a ≡ a + 0
    here a = omega arith
ranged f g a (suc n) (suc i) e = ranged f g (a + 1) n i (ap f (next a i) ∙ e ∙ ap g (sym (next a i)))
  where
    next : (a i : ℕ) → a + 1 + i ≡ a + suc i
    next a i = omega arith

pinned-at : (pin other : List ℕ) (h : List Accepted) (i : ℕ) → length pin ≡ length other → number_for i pin ≡ number_for i other
    → slice_get (pinned_by pin h).peers i ≡ slice_get (pinned_by other h).peers i
pinned-at pin other h i size same =
    ap (λ n. slice_get (map (λ peer. version_at peer h (number_for peer pin)) (range_with_len 0 n)) i) size
    ∙ ranged (λ peer. version_at peer h (number_for peer pin)) (λ peer. version_at peer h (number_for peer other)) 0 (length other) i
    (ap (version_at (0 + i) h) (ap (λ n. number_for n pin) (zero_is i) ∙ same ∙ ap (λ n. number_for n other) (sym (zero_is i))))
  where
    zero_is : (i : ℕ) → 0 + i ≡ i
    zero_is i = omega arith

-- ---- both together

-- the concepts of the query are written with the symbols
pub left-named : (s : SymbolLists) (job : Job) → IsFitJob s job → has_symbols s job.query.left ≡ true
left-named s job f =
    let peers = flat_map (given_by job.pinned) job.relevant in
    (All-at Concept (IsWritten s) (given_of job) (length peers + 0) job.query.left f.written (at-behind Concept peers (job.query.left ∷ job.query.right ∷ []) 0)).named

pub right-named : (s : SymbolLists) (job : Job) → IsFitJob s job → has_symbols s job.query.right ≡ true
right-named s job f =
    let peers = flat_map (given_by job.pinned) job.relevant in
    (All-at Concept (IsWritten s) (given_of job) (length peers + 1) job.query.right f.written (at-behind Concept peers (job.query.left ∷ job.query.right ∷ []) 1)).named

module _ (state : State) (numbering : IsNumbering state.symbols) (a b : Ask) (fa : IsFitAsk state a) (fb : IsFitAsk state b)
    (same : key_of_ask state.symbols a ≡ key_of_ask state.symbols b) where
  abbrev s : SymbolLists
  s = state.symbols

  same-query : b.job.query ≡ a.job.query
  same-query = whole (ap (λ (k : Key). k.peer) (sym same))
      (one_concept s numbering b.job.query.left a.job.query.left (left-named s b.job fb.job) (left-named s a.job fa.job) (ap (λ (k : Key). k.left) (sym same)))
      (one_concept s numbering b.job.query.right a.job.query.right (right-named s b.job fb.job) (right-named s a.job fa.job) (ap (λ (k : Key). k.right) (sym same)))
    where
      whole : b.job.query.peer ≡ a.job.query.peer → b.job.query.left ≡ a.job.query.left → b.job.query.right ≡ a.job.query.right → b.job.query ≡ a.job.query
      whole p l r = λ i. record { peer = p i; left = l i; right = r i }

  pairs : (a.job.relevant ≡ b.job.relevant) × ((i : ℕ) → is_in a.job.relevant i ≡ true → number_for i a.pin.versions ≡ number_for i b.pin.versions)
  pairs = paired (λ i. number_for i a.pin.versions) (λ i. number_for i b.pin.versions) a.job.relevant b.job.relevant (ap (λ (k : Key). k.versions) same)

  size : (ask : Ask) → IsFitAsk state ask → length ask.pin.versions ≡ peer_count state
  size ask f = (pin_parts (peer_count state) ask.pin.versions state.history f.pin).0

  pub ask-same : AskTheSame a.job b.job
  ask-same = record {
    query = same-query;
    peers = ap (λ (p : Pinned). length p.peers) fb.pinned ∙ pinned-size (peer_count state) b.pin.versions state.history fb.pin
        ∙ sym (pinned-size (peer_count state) a.pin.versions state.history fa.pin) ∙ ap (λ (p : Pinned). length p.peers) (sym fa.pinned);
    relevant = sym pairs.0;
    versions = λ i here. ap (λ (p : Pinned). slice_get p.peers i) fb.pinned
        ∙ pinned-at b.pin.versions a.pin.versions state.history i (size b fb ∙ sym (size a fa)) (sym (pairs.1 i here))
        ∙ ap (λ (p : Pinned). slice_get p.peers i) (sym fa.pinned);
  }

  -- a yes or a no to the one is one to the other
  pub answers-same : (x : Answer) → IsVerdict x → Answers a.job x → Answers b.job x
  answers-same (answer.Yes lines) v h = ((relevant_versions a.job b.job fa.job.relevant ask-same).yes_alike lines).0 h
  answers-same (answer.No w) v h = ((relevant_versions a.job b.job fa.job.relevant ask-same).no_alike w).0 h
  answers-same (answer.RunSpent run) v h = absurd v
  answers-same (answer.VerdictsSpent n) v h = absurd v
  answers-same answer.Memory v h = absurd v
