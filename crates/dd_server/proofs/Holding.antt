-- The entries of a session's cache stay answers to fit asks.
use Rattle.std.proofs.Common.{◌≡◌, ◌∙◌, ◌⊎◌, ◌≤◌, ◌-◌, ℕ, Bool, true, false, cond, List, [], ◌∷◌, ◌++◌, length, take, Option, None, Some, ap, refl, subst, sym, inl, inr, arith, All}
use Rattle.std.specs.Prelude.{if◌then◌else◌, is_some}
use Rattle.std.specs.Option.{option_map_or}
use Rattle.std.specs.Map.{lookup, remove_entry}
use Rattle.std.proofs.Math.Logic.{∥∥₁_map, ∥∥₁_elim}
use Rattle.std.proofs.Props.{props}
use Rattle.std.proofs.lemmas.List.Elements.{All-cons, All-head, All-nil, All-tail, All-take, All-weaker}
use Rattle.dd_concept.specs.declared.concept.Concept.{Concept}
use Rattle.dd_answer.specs.declared.answer.Answer.{Answer}
use Rattle.dd_cache.specs.Entries.{to_front, with_first}
use Rattle.dd_cache.specs.Keys.{Key, same_key, versions_at}
use Rattle.dd_cache.specs.declared.cache.Kept.{Kept as Entry}
use Rattle.dd_server.proofs.EqualKeys.{one_key}
use Rattle.dd_outcome.specs.Answers.{Answers}
use Rattle.dd_text.specs.Grammar.{term_text}
use Rattle.dd_text.specs.Symbols.{Grows, IsNumbering, SymbolLists}
use Rattle.dd_text.specs.Text.{concept_of, concept_text, has_symbols, names_in, roles_in, term_of}
use Rattle.dd_text.proofs.Numbering.{has_text-Appends}
use Rattle.dd_text.proofs.Restoring.{concept_of-grows}
use Rattle.dd_text.proofs.RoundTrip.{IsBack, term_of-concept_of, written_back}
use Rattle.dd_peer.specs.declared.version.Pinned.{Pinned}
use Rattle.dd_pin.proofs.Pins.{pinned-size}
use Rattle.dd_read.specs.Fit.{IsFitAsk, IsFitJob}
use Rattle.dd_read.specs.State.{Later, State, peer_count}
use Rattle.dd_read.specs.declared.kept.Ask.{Ask}
use Rattle.dd_read.specs.declared.kept.Kept.TheVariants.{Asked}
use Rattle.dd_read.proofs.Keeping.{Leads, kept_later}
use Rattle.dd_server.specs.Finish.{Answered, Entries, Keeps, key_of_ask}
use Rattle.dd_server.specs.Held.{AreEntries, IsEntry}
use Rattle.dd_wire.specs.Requests.{declared_names}
use Rattle.dd_server.proofs.SameAsks.{answers-same, left-named, right-named}

-- ---- texts of more symbols

pub text-later : (s u : SymbolLists) → IsNumbering s → Grows s u → (c : Concept) → has_symbols s c ≡ true → concept_text u c ≡ concept_text s c
text-later s u numbering g c there =
    let b = written_back s numbering c there in
    let t = term_of s c in
    let same : concept_of u t ≡ c = concept_of-grows s u g t b.names b.roles ∙ b.same in
    ap term_text (ap (term_of u) (sym same) ∙ term_of-concept_of u t
    (λ w h. has_text-Appends s.names u.names w g.names (b.names w h)) (λ w h. has_text-Appends s.roles u.roles w g.roles (b.roles w h)))

-- ---- a state later

key_with : ℕ → List (ℕ × ℕ) → List ℕ → List ℕ → Key
key_with peer versions left right = record { peer = peer; left = left; right = right; versions = versions }

key-later : (s u : SymbolLists) → IsNumbering s → Grows s u → (ask : Ask) → IsFitJob s ask.job → key_of_ask s ask ≡ key_of_ask u ask
unfolding key_with
key-later s u numbering g ask f =
    let q = ask.job.query in
    let versions = versions_at ask.pin.versions ask.job.relevant in
    ap (λ t. key_with q.peer versions t (concept_text s q.right)) (sym (text-later s u numbering g q.left (left-named s ask.job f)))
    ∙ ap (λ t. key_with q.peer versions (concept_text u q.left) t) (sym (text-later s u numbering g q.right (right-named s ask.job f)))

entry-later : (s t : State) → IsNumbering s.symbols → Leads s t → (e : Key × Entry) → IsEntry s e → IsEntry t e
entry-later s t numbering l e h = record {
  ask = h.ask;
  fit = kept_later s t l (Asked h.ask) h.fit;
  key = h.key ∙ key-later s.symbols t.symbols numbering l.symbols h.ask h.fit.job;
  decided = h.decided;
  answers = h.answers;
}

-- before the peers are declared there are no entries
no-entry : (s : State) → s.peers ≡ None → (e : Key × Entry) → IsEntry s e → ⊥
no-entry s none e h =
    let count : peer_count s ≡ 0 = ap (λ (o : Option (List (List ℕ))). length (declared_names o)) none in
    let size : length h.ask.job.pinned.peers ≡ peer_count s = ap (λ (p : Pinned). length p.peers) h.fit.pinned ∙ pinned-size (peer_count s) h.ask.pin.versions s.history h.fit.pin in
    let low = h.fit.job.asked in
    omega (arith, count, size, low)

pub entries-later : (s t : State) → IsNumbering s.symbols → Later s t → (es : Entries) → AreEntries s es → AreEntries t es
entries-later s t numbering l es h = ∥∥₁_map h (λ all. elim l.peers [
  | inl none ↦ All-weaker (IsEntry s) (IsEntry t) (λ e k. absurd (no-entry s none e k)) es all
  | inr same ↦ All-weaker (IsEntry s) (IsEntry t) (entry-later s t numbering (record { peers = same; symbols = l.symbols; more = l.history.0; history = l.history.1 })) es all
])

-- ---- entries that move

module _ (P : Key × Entry → Type 0) where
  removed : (test : Key → Bool) (es : Entries) → All P es → All P (remove_entry test es)
  removed test [] h = h
  removed test (e ∷ es) h = by_test (removed test es (All-tail P e es h)) (test e.0)
    where
      by_test : All P (remove_entry test es) → (b : Bool) → All P (cond b es (e ∷ remove_entry test es))
      by_test rest true = All-tail P e es h
      by_test rest false = All-cons P e (remove_entry test es) (All-head P e es h) rest

  pub found-entry : (test : Key → Bool) (es : Entries) (a : Entry) → All P es → lookup test es ≡ Some a → (j : Key) × (test j ≡ true) × P (j, a)
  found-entry test [] a h e = absurd (cc e)
  found-entry test (f ∷ es) a h e = by_test (λ k. found-entry test es a (All-tail P f es h) k) (test f.0) refl e
    where
      same : Some f.1 ≡ Some a → f.1 ≡ a
      same e = cc e

      by_test : (lookup test es ≡ Some a → (j : Key) × (test j ≡ true) × P (j, a)) → (b : Bool) → test f.0 ≡ b → cond b (Some f.1) (lookup test es) ≡ Some a → (j : Key) × (test j ≡ true) × P (j, a)
      by_test later true passes e = (f.0, passes, subst (λ (x : Entry). P (f.0, x)) (same e) (All-head P f es h))
      by_test later false passes e = later e

  fronted : (k : Key) (es : Entries) → All P es → All P (to_front k es)
  fronted k es h = by_found (lookup (same_key k) es) refl
    where
      by_found : (o : Option Entry) → lookup (same_key k) es ≡ o → All P (option_map_or (λ a. (k, a) ∷ remove_entry (same_key k) es) o es)
      by_found None is = h
      by_found (Some a) is =
          let f = found-entry (same_key k) es a h is in
          All-cons P (k, a) (remove_entry (same_key k) es) (subst (λ (j : Key). P (j, a)) (sym (one_key k f.0 f.1)) f.2) (removed (same_key k) es h)

  first-kept : (capacity : ℕ) (k : Key) (a : Answer) (es : Entries) → P (k, record { answer = a }) → All P es → All P (with_first capacity k a es)
  first-kept capacity k a es here h = All-cons P (k, record { answer = a }) _ here (by_found (is_some (lookup (same_key k) es)))
    where
      by_found : (b : Bool) → All P (if b then remove_entry (same_key k) es else take (capacity - 1) es)
      by_found true = removed (same_key k) es h
      by_found false = All-take P (capacity - 1) es h

pub front-entries : (s : State) (k : Key) (es : Entries) → AreEntries s es → AreEntries s (to_front k es)
front-entries s k es h = ∥∥₁_map h (λ all. fronted (IsEntry s) k es all)

-- what is kept under the key of a fit ask that it answers is an entry
pub keeps-entries : (capacity : ℕ) (s : State) (ask : Ask) (given : Answered) (old new : Entries) → IsFitAsk s ask → ∥ Answers ask.job given.answer ∥₁
    → Keeps capacity (key_of_ask s.symbols ask) given old new → AreEntries s old → AreEntries s new
keeps-entries capacity s ask given old new fit answers (inl same) h = subst (AreEntries s) (sym same) h
keeps-entries capacity s ask given old new fit answers (inr kept) h = subst (AreEntries s) (sym kept.1)
    (∥∥₁_elim answers (hlevel props) (λ a. ∥∥₁_map h (λ all. first-kept (IsEntry s) capacity (key_of_ask s.symbols ask) given.answer old
    (record { ask = ask; fit = fit; key = refl; decided = kept.0.decided; answers = a }) all)))

-- what is found under the key of a fit ask answers it
pub found-answers : (s : State) → IsNumbering s.symbols → (ask : Ask) (es : Entries) (a : Entry) → IsFitAsk s ask → AreEntries s es
    → lookup (same_key (key_of_ask s.symbols ask)) es ≡ Some a → ∥ Answers ask.job a.answer ∥₁
found-answers s numbering ask es a fit h is = ∥∥₁_map h (λ all.
    let f = found-entry (IsEntry s) (same_key (key_of_ask s.symbols ask)) es a all is in
    let e : IsEntry s (f.0, a) = f.2 in
    answers-same s numbering e.ask ask e.fit fit (sym e.key ∙ sym (one_key (key_of_ask s.symbols ask) f.0 f.1)) a.answer e.decided e.answers)
