-- What is answered to a job that is written with the symbols can be written with them.
use Rattle.std.proofs.Common.{◌≡◌, ◌∙◌, ℕ, suc, Bool, true, false, ◌&&◌, nat_lt, List, [], ◌∷◌, length, Some, ap, refl, subst, sym, All}
use Rattle.std.specs.Prelude.{IsTrue, slice_get}
use Rattle.std.specs.List.{list_all, list_any}
use Rattle.std.proofs.lemmas.Bool.{and_from}
use Rattle.std.proofs.lemmas.List.Elements.{All-contains, All-head, All-tail}
use Rattle.dd_concept.specs.declared.concept.Concept.{Concept}
use Rattle.dd_concept.specs.declared.concept.Concept.TheVariants.{Name}
use Rattle.dd_concept.specs.Names.{names_in, roles_in}
use Rattle.dd_concept.specs.Same.{has}
use Rattle.dd_concept.proofs.Folds.{fold-Name}
use Rattle.dd_concept.proofs.Sets.{has-contains, has-head, has-tail}
use Rattle.dd_interp.specs.declared.interp.Interp.{Interp}
use Rattle.dd_world.specs.declared.world.World.{World}
use Rattle.dd_task.specs.Keys.{is_among}
use Rattle.dd_task.specs.declared.job.Job.{Job}
use Rattle.dd_task.specs.declared.line.Line.{Line}
use Rattle.dd_task.specs.declared.line.Why.{Why}
use Rattle.dd_task.specs.declared.line.Why.TheVariants as why
use Rattle.dd_task.proofs.Places.{All-at}
use Rattle.dd_answer.specs.declared.answer.Answer.{Answer}
use Rattle.dd_answer.specs.declared.answer.Answer.TheVariants as answer
use Rattle.dd_server.proofs.Anys.{any-found}
use Rattle.dd_cert.specs.Printed.{line_has_symbols, local_has_symbols, name_has_symbols, role_has_symbols, why_has_symbols}
use Rattle.dd_outcome.specs.Answers.{Answers, IsNo, IsYes, written_by}
use Rattle.dd_run.specs.Given.{AllComeFromGiven, ComesFromGiven, IsWrittenInGiven, given_of, is_given_name, is_given_role}
use Rattle.dd_text.specs.Symbols.{SymbolLists}
use Rattle.dd_text.specs.Text.{has_symbols, has_symbols_at}
use Rattle.dd_wire.specs.Requests.{IsWritten}
use Rattle.dd_read.specs.Fit.{IsFitJob}
use Rattle.dd_server.specs.Windows.{IsWritable}
use Rattle.dd_server.proofs.Symbols.{has-low, low-has}

module _ (s : SymbolLists) (job : Job) (written : All (IsWritten s) (given_of job)) where
  given-named : (c : Concept) → has (given_of job) c ≡ true → has_symbols s c ≡ true
  given-named c h = (All-contains (IsWritten s) (given_of job) c written (has-contains (given_of job) c h)).named

  comes-named : (c : Concept) → ComesFromGiven job c → has_symbols s c ≡ true
  comes-named c h =
      let low = has-low s h.source (given-named h.source h.given) in
      low-has s c (λ a there. low.0 a (h.names a there), λ r there. low.1 r (h.roles r there))

  label-named : (label : List Concept) → AllComeFromGiven job label → list_all (has_symbols s) label ≡ true
  label-named [] h = refl
  label-named (c ∷ cs) h = and_from (has_symbols s c) (list_all (has_symbols s) cs) (comes-named c (h c (has-head c cs)))
      (label-named cs (λ d there. h d (has-tail d c cs there)))

  why-named : (y : Why) → AllComeFromGiven job (written_by y) → why_has_symbols s y ≡ true
  why-named why.Bottom h = refl
  why-named (why.Clash a) h = sym (fold-Name Bool (has_symbols_at s) a) ∙ comes-named (Name a) (h (Name a) (has-head (Name a) []))
  why-named (why.And at cite) h = refl
  why-named (why.Or at left right) h = refl
  why-named (why.Axiom index left right) h = refl
  why-named (why.Cut on left right) h = comes-named on (h on (has-head on []))
  why-named (why.Successor at cite) h = refl
  why-named (why.Bridge from onto set cite each) h = refl

  lines-named : (lines : List Line) → All (λ (line : Line). AllComeFromGiven job line.label) lines → All (λ (line : Line). AllComeFromGiven job (written_by line.why)) lines
      → list_all (line_has_symbols s) lines ≡ true
  lines-named [] labels reasons = refl
  lines-named (l ∷ ls) labels reasons =
      and_from (line_has_symbols s l) (list_all (line_has_symbols s) ls)
      (and_from (list_all (has_symbols s) l.label) (why_has_symbols s l.why)
      (label-named l.label (All-head (λ (line : Line). AllComeFromGiven job line.label) l ls labels))
      (why-named l.why (All-head (λ (line : Line). AllComeFromGiven job (written_by line.why)) l ls reasons)))
      (lines-named ls (All-tail (λ (line : Line). AllComeFromGiven job line.label) l ls labels)
      (All-tail (λ (line : Line). AllComeFromGiven job (written_by line.why)) l ls reasons))

  name-given : (a : ℕ) → is_given_name job a ≡ true → nat_lt a (length s.names) ≡ true
  name-given a h =
      let found = any-found Concept (λ c. is_among (names_in c) a) (given_of job) h in
      (has-low s found.1 (All-at Concept (IsWritten s) (given_of job) found.0 found.1 written found.2).named).0 a found.3

  role-given : (r : ℕ) → is_given_role job r ≡ true → nat_lt r (length s.roles) ≡ true
  role-given r h =
      let found = any-found Concept (λ c. is_among (roles_in c) r) (given_of job) h in
      (has-low s found.1 (All-at Concept (IsWritten s) (given_of job) found.0 found.1 written found.2).named).1 r found.3

  names-named : (ns : List (ℕ × ℕ)) → All (λ (p : ℕ × ℕ). is_given_name job p.0 ≡ true) ns → list_all (name_has_symbols s) ns ≡ true
  names-named [] h = refl
  names-named (n ∷ ns) h = and_from (name_has_symbols s n) (list_all (name_has_symbols s) ns)
      (name-given n.0 (All-head (λ (p : ℕ × ℕ). is_given_name job p.0 ≡ true) n ns h)) (names-named ns (All-tail (λ (p : ℕ × ℕ). is_given_name job p.0 ≡ true) n ns h))

  roles-named : (rs : List (ℕ × ℕ × ℕ)) → All (λ (t : ℕ × ℕ × ℕ). is_given_role job t.0 ≡ true) rs → list_all (role_has_symbols s) rs ≡ true
  roles-named [] h = refl
  roles-named (r ∷ rs) h = and_from (role_has_symbols s r) (list_all (role_has_symbols s) rs)
      (role-given r.0 (All-head (λ (t : ℕ × ℕ × ℕ). is_given_role job t.0 ≡ true) r rs h)) (roles-named rs (All-tail (λ (t : ℕ × ℕ × ℕ). is_given_role job t.0 ≡ true) r rs h))

  locals-named : (ms : List Interp) → All (IsWrittenInGiven job) ms → list_all (local_has_symbols s) ms ≡ true
  locals-named [] h = refl
  locals-named (m ∷ ms) h =
      let here = All-head (IsWrittenInGiven job) m ms h in
      and_from (local_has_symbols s m) (list_all (local_has_symbols s) ms)
      (and_from (list_all (name_has_symbols s) m.names) (list_all (role_has_symbols s) m.roles) (names-named m.names here.names) (roles-named m.roles here.roles))
      (locals-named ms (All-tail (IsWrittenInGiven job) m ms h))

pub answer-writable : (s : SymbolLists) (job : Job) (a : Answer) → IsFitJob s job → Answers job a → IsWritable s a
answer-writable s job (answer.Yes lines) fit h = lines-named s job fit.written lines h.labels h.reasons
answer-writable s job (answer.No w) fit h = locals-named s job fit.written w.locals h.given
answer-writable s job (answer.RunSpent run) fit h = tt
answer-writable s job (answer.VerdictsSpent n) fit h = tt
answer-writable s job answer.Memory fit h = tt
