-- Answers rest on the versions of the relevant peers alone.
use Rattle.std.proofs.Common.{◌≡◌, ◌∙◌, ℕ, zero, suc, ◌+◌, ◌<◌, Bool, true, false, not, ◌&&◌, ◌++◌, List, [], ◌∷◌, length, map, Option, None, Some, ap, refl, subst, sym, inl, inr, arith}
use Rattle.std.specs.Prelude.{IsTrue, ◌==◌, nat_lt, ◌↔◌, take, flat_map}
use Rattle.std.specs.List.{All, slice_get, list_any}
use Rattle.std.specs.Option.{option_map_or}
use Rattle.std.proofs.Math.Logic.{∥∥₁_map}
use Rattle.std.proofs.lemmas.Bool.{cases_Bool, false≢true, eq-eqb}
use Rattle.std.proofs.lemmas.Option.{same_Some}
use Rattle.dd_concept.specs.declared.concept.Concept.{Concept}
use Rattle.dd_interp.specs.declared.interp.Interp.{Interp}
use Rattle.dd_peer.specs.declared.version.Pinned.{Pinned}
use Rattle.dd_peer.specs.declared.version.PeerVersion.{PeerVersion}
use Rattle.dd_peer.specs.declared.version.Query.{Query}
use Rattle.dd_peer.specs.declared.version.Rule.{Rule}
use Rattle.dd_peer.specs.Rules.{rules_of}
use Rattle.dd_peer.specs.Relevant.{has_from, keeps_from, Relevant, itself, by_rule, IsRelevant, AreRelevant, is_in}
use Rattle.dd_world.specs.declared.world.World.{World}
use Rattle.dd_world.specs.Elements.{size_at, IsElement}
use Rattle.dd_world.specs.World.{IsWorld, Follows, IsCounter, SatisfiesVersion, SatisfiesWorld}
use Rattle.dd_task.specs.declared.job.Job.{Job}
use Rattle.dd_task.specs.declared.line.Line.{Line}
use Rattle.dd_task.specs.declared.line.Why.{Why}
use Rattle.dd_task.specs.declared.line.Why.TheVariants as why
use Rattle.dd_task.specs.Claims.{Claim, claim_of}
use Rattle.dd_task.specs.Derives.{Derives}
use Rattle.dd_task.specs.Lines.{is_there, gives_reason, is_other, is_right, AreRight}
use Rattle.dd_task.proofs.Places.{All-at, All-from, at-append, at-behind}
use Rattle.dd_server.proofs.Anys.{any-at}
use Rattle.dd_concept.specs.Same.{has}
use Rattle.dd_concept.specs.Names.{names_in, roles_in}
use Rattle.dd_task.specs.Keys.{is_among}
use Rattle.dd_wire.specs.Requests.{sides_by, sides_in}
use Rattle.dd_run.specs.Given.{given_by, given_of, ComesFromGiven, AllComeFromGiven, IsWrittenInGiven, is_given_name, is_given_role}
use Rattle.dd_outcome.specs.Answers.{IsYes, IsNo, written_by}
use Rattle.dd_server.specs.Relevance.{AskTheSame, AreAnsweredAlike}
use Rattle.dd_server.proofs.Restricted.{restricted, restricted_world, restricted_version, empty_satisfies, size-elsewhere, element-after, element-before, holds-after, holds-before}

-- ---- which peers are relevant

module _ (p q : Pinned) (j : ℕ) (rs : List ℕ) (rel : AreRelevant p j rs) (agree : (i : ℕ) → is_in rs i ≡ true → slice_get q.peers i ≡ slice_get p.peers i) where
  listed : (i : ℕ) → Relevant p j i → is_in rs i ≡ true
  listed i r = (rel.exactly i).1 ∣ r ∣₁

  keeps-same : (i h : ℕ) → is_in rs i ≡ true → keeps_from q i h ≡ keeps_from p i h
  keeps-same i h is = ap (λ (o : Option PeerVersion). option_map_or (has_from h) o false) (agree i is)

  there : (i : ℕ) → Relevant p j i → Relevant q j i
  there _ itself = itself
  there _ (by_rule k h r keeps) = by_rule k h (there k r) (keeps-same k h (listed k r) ∙ keeps)

  back : (i : ℕ) → Relevant q j i → Relevant p j i
  back _ itself = itself
  back _ (by_rule k h r keeps) = let old = back k r in by_rule k h old (sym (keeps-same k h (listed k old)) ∙ keeps)

  pub relevant_same : AreRelevant q j rs
  relevant_same = record {
    rising = rel.rising;
    exactly = λ i. (λ h. ∥∥₁_map ((rel.exactly i).0 h) (there i), λ h. (rel.exactly i).1 (∥∥₁_map h (back i)));
  }

-- ---- lines

and-same : (a b : Bool) → a ≡ b → (c : Bool) → (a && c) ≡ (b && c)
and-same a b e c = ap (λ x. x && c) e

reason-same : (p q : Pinned) → length q.peers ≡ length p.peers → (before : List Claim) (peer : ℕ) (v : PeerVersion) (label : List Concept) (y : Why)
    → gives_reason q before peer v label y ≡ gives_reason p before peer v label y
reason-same p q n before peer v label why.Bottom = refl
reason-same p q n before peer v label (why.Clash a) = refl
reason-same p q n before peer v label (why.And at cite) = refl
reason-same p q n before peer v label (why.Or at left right) = refl
reason-same p q n before peer v label (why.Axiom index left right) = refl
reason-same p q n before peer v label (why.Cut on left right) = refl
reason-same p q n before peer v label (why.Successor at cite) = refl
reason-same p q n before peer v label (why.Bridge from o ks cite each) = and-same (is_other q peer from) (is_other p peer from) (ap (λ m. nat_lt from m && not (from == peer)) n) _

lines-same : (p q : Pinned) (rs : List ℕ) → length q.peers ≡ length p.peers → ((i : ℕ) → is_in rs i ≡ true → slice_get q.peers i ≡ slice_get p.peers i)
    → (lines : List Line) → All (λ (line : Line). is_in rs line.peer ≡ true) lines → AreRight p lines → AreRight q lines
lines-same p q rs n agree lines peers right k line at =
    let peer = All-at Line (λ (line : Line). is_in rs line.peer ≡ true) lines k line peers at in
    ap (λ (o : Option PeerVersion). is_there o (λ v. gives_reason q ([] ++ map claim_of (take k lines)) line.peer v line.label line.why)) (agree line.peer peer)
    ∙ reasons (slice_get p.peers line.peer) ∙ right k line at
  where
    reasons : (o : Option PeerVersion) → is_there o (λ v. gives_reason q ([] ++ map claim_of (take k lines)) line.peer v line.label line.why)
        ≡ is_there o (λ v. gives_reason p ([] ++ map claim_of (take k lines)) line.peer v line.label line.why)
    reasons None = refl
    reasons (Some v) = reason-same p q n ([] ++ map claim_of (take k lines)) line.peer v line.label line.why

-- ---- what is given

given-each : (p q : Pinned) (is : List ℕ) → All (λ i. slice_get q.peers i ≡ slice_get p.peers i) is → flat_map (given_by q) is ≡ flat_map (given_by p) is
given-each p q [] h = refl
given-each p q (i ∷ is) h =
    let first = All-at ℕ (λ i. slice_get q.peers i ≡ slice_get p.peers i) (i ∷ is) 0 i h refl in
    ap (λ c. c ++ flat_map (given_by q) is) (by_version first)
    ∙ ap (λ c. given_by p i ++ c) (given-each p q is (All-from ℕ (λ i. slice_get q.peers i ≡ slice_get p.peers i) is (λ k m at. All-at ℕ (λ i. slice_get q.peers i ≡ slice_get p.peers i) (i ∷ is) (suc k) m h at)))
  where
    by_version : slice_get q.peers i ≡ slice_get p.peers i → given_by q i ≡ given_by p i
    by_version e = ap (λ (o : Option PeerVersion). flat_map sides_in (option_map_or (λ (v : PeerVersion). v.axioms) o [])
        ++ flat_map sides_by (option_map_or (λ (v : PeerVersion). v.into) o [] ++ option_map_or (λ (v : PeerVersion). v.onto) o [])) e

module _ (a b : Job) (same : given_of b ≡ given_of a) where
  comes-same : (c : Concept) → ComesFromGiven a c → ComesFromGiven b c
  comes-same c h = record { source = h.source; given = subst (λ (gs : List Concept). has gs h.source ≡ true) (sym same) h.given; names = h.names; roles = h.roles; small = h.small }

  all-same : (label : List Concept) → AllComeFromGiven a label → AllComeFromGiven b label
  all-same label h c there = comes-same c (h c there)

  written-same : (m : Interp) → IsWrittenInGiven a m → IsWrittenInGiven b m
  written-same m h = record {
    names = All-from (ℕ × ℕ) (λ p. is_given_name b p.0 ≡ true) m.names (λ k n at. ap (λ (gs : List Concept). list_any (λ c. is_among (names_in c) n.0) gs) same ∙ All-at (ℕ × ℕ) (λ p. is_given_name a p.0 ≡ true) m.names k n h.names at);
    roles = All-from (ℕ × ℕ × ℕ) (λ t. is_given_role b t.0 ≡ true) m.roles (λ k t at. ap (λ (gs : List Concept). list_any (λ c. is_among (roles_in c) t.0) gs) same ∙ All-at (ℕ × ℕ × ℕ) (λ t. is_given_role a t.0 ≡ true) m.roles k t h.roles at);
  }

-- ---- worlds

-- a rule of a relevant peer comes from a relevant peer
rules_lead : (p : Pinned) (j : ℕ) (rs : List ℕ) → AreRelevant p j rs → (i : ℕ) (v : PeerVersion) → slice_get p.peers i ≡ Some v → is_in rs i ≡ true
    → (k : ℕ) (r : Rule) → slice_get (rules_of v) k ≡ Some r → is_in rs r.from ≡ true
rules_lead p j rs rel i v at is k r here = (rel.exactly r.from).1 (∥∥₁_map ((rel.exactly i).0 is) (λ w. by_rule i r.from w
    (ap (λ (o : Option PeerVersion). option_map_or (has_from r.from) o false) at
    ∙ any-at Rule (λ (s : Rule). s.from == r.from) (rules_of v) k r here (eq-eqb r.from r.from refl))))

all-into : (rs : List ℕ) (v : PeerVersion) → ((k : ℕ) (r : Rule) → slice_get (rules_of v) k ≡ Some r → is_in rs r.from ≡ true) → All (λ (r : Rule). is_in rs r.from ≡ true) v.into
all-into rs v h = All-from Rule (λ (r : Rule). is_in rs r.from ≡ true) v.into (λ k r at. h k r (at-append Rule v.into v.onto k r at))

all-onto : (rs : List ℕ) (v : PeerVersion) → ((k : ℕ) (r : Rule) → slice_get (rules_of v) k ≡ Some r → is_in rs r.from ≡ true) → All (λ (r : Rule). is_in rs r.from ≡ true) v.onto
all-onto rs v h = All-from Rule (λ (r : Rule). is_in rs r.from ≡ true) v.onto (λ k r at. h (length v.into + k) r (at-behind Rule v.into v.onto k ∙ at))

module _ (p q : Pinned) (j : ℕ) (rs : List ℕ) (rel : AreRelevant p j rs) (n : length q.peers ≡ length p.peers)
    (agree : (i : ℕ) → is_in rs i ≡ true → slice_get q.peers i ≡ slice_get p.peers i) where
  -- a world of the one set, emptied at the peers that are not relevant, is one of the other
  small-satisfies : (w : World) → IsWorld p (restricted rs w) → SatisfiesWorld q w → SatisfiesWorld p (restricted rs w)
  small-satisfies w world sat i v at = elim (cases_Bool (is_in rs i)) [
    | inl is ↦
        let leads = rules_lead p j rs rel i v at is in
        restricted_version rs w i v is (all-into rs v leads) (all-onto rs v leads) (sat i v (agree i is ∙ at))
    | inr out ↦ empty_satisfies rs (restricted rs w) i v world.links (size-elsewhere rs w i out)
  ]

  follows-same : (query : Query) → query.peer ≡ j → Follows p query → Follows q query
  follows-same query here follows w world sat x el left =
      let asked : is_in rs query.peer ≡ true = ap (is_in rs) here ∙ (rel.exactly j).1 ∣ itself ∣₁ in
      let small = restricted_world rs w q p (sym n) world in
      holds-before rs w query.peer x query.right asked
      (follows (restricted rs w) small (small-satisfies w small sat) x (element-after rs w query.peer x asked el) (holds-after rs w query.peer x query.left asked left))

  -- a world whose other peers have no elements satisfies the one set where it satisfies the other
  counter-same : (query : Query) (w : World) → ((i : ℕ) → is_in rs i ≡ false → size_at w i ≡ 0) → IsCounter p query w → IsCounter q query w
  counter-same query w empty c = record {
    world = record { one_each = c.world.one_each ∙ sym n; shaped = c.world.shaped; links = c.world.links };
    satisfies = λ i v at. elim (cases_Bool (is_in rs i)) [
      | inl is ↦ c.satisfies i v (sym (agree i is) ∙ at)
      | inr out ↦ empty_satisfies rs w i v c.world.links (empty i out)
    ];
    element = c.element;
  }

-- ---- both together

size-of-empty : (w : World) (i : ℕ) → ((local : Interp) → slice_get w.locals i ≡ Some local → local.size ≡ 0) → size_at w i ≡ 0
size-of-empty w i h = by_local (slice_get w.locals i) h
  where
    by_local : (o : Option Interp) → ((local : Interp) → o ≡ Some local → local.size ≡ 0) → option_map_or (λ (local : Interp). local.size) o 0 ≡ 0
    by_local None h = refl
    by_local (Some local) h = h local refl

module _ (a b : Job) (rel : AreRelevant a.pinned a.query.peer a.relevant) (s : AskTheSame a b) where
  given-same : given_of b ≡ given_of a
  given-same =
      ap (λ (is : List ℕ). flat_map (given_by b.pinned) is ++ (b.query.left ∷ b.query.right ∷ [])) s.relevant
      ∙ ap (λ (q : Query). flat_map (given_by b.pinned) a.relevant ++ (q.left ∷ q.right ∷ [])) s.query
      ∙ ap (λ cs. cs ++ (a.query.left ∷ a.query.right ∷ [])) (given-each a.pinned b.pinned a.relevant (All-from ℕ (λ i. slice_get b.pinned.peers i ≡ slice_get a.pinned.peers i) a.relevant
      (λ k i at. s.versions i (any-at ℕ (λ m. m == i) a.relevant k i at (eq-eqb i i refl)))))

  relevant-there : AreRelevant b.pinned b.query.peer b.relevant
  relevant-there = subst (λ (q : Query). AreRelevant b.pinned q.peer b.relevant) (sym s.query) (subst (λ (is : List ℕ). AreRelevant b.pinned a.query.peer is) (sym s.relevant)
      (relevant_same a.pinned b.pinned a.query.peer a.relevant rel s.versions))

  follows-there : Follows a.pinned a.query → Follows b.pinned b.query
  follows-there h = subst (λ (q : Query). Follows b.pinned q) (sym s.query) (follows-same a.pinned b.pinned a.query.peer a.relevant rel s.peers s.versions a.query refl h)

  yes-there : (lines : List Line) → IsYes a lines → IsYes b lines
  yes-there lines h = record {
    derives = subst (λ (q : Query). Derives b.pinned q lines) (sym s.query) (record { right = lines-same a.pinned b.pinned a.relevant s.peers s.versions lines h.relevant h.derives.right; last = h.derives.last });
    relevant = subst (λ (is : List ℕ). All (λ (line : Line). is_in is line.peer ≡ true) lines) (sym s.relevant) h.relevant;
    labels = All-from Line (λ (line : Line). AllComeFromGiven b line.label) lines (λ k line at. all-same a b given-same line.label (All-at Line (λ (line : Line). AllComeFromGiven a line.label) lines k line h.labels at));
    reasons = All-from Line (λ (line : Line). AllComeFromGiven b (written_by line.why)) lines (λ k line at. all-same a b given-same (written_by line.why)
        (All-at Line (λ (line : Line). AllComeFromGiven a (written_by line.why)) lines k line h.reasons at));
  }

  no-there : (w : World) → IsNo a w → IsNo b w
  no-there w h = record {
    counter = subst (λ (q : Query). IsCounter b.pinned q w) (sym s.query) (counter-same a.pinned b.pinned a.query.peer a.relevant rel s.peers s.versions a.query w
        (λ i out. size-of-empty w i (λ local at. h.empty i local at out)) h.counter);
    empty = subst (λ (is : List ℕ). (i : ℕ) (local : Interp) → slice_get w.locals i ≡ Some local → is_in is i ≡ false → local.size ≡ 0) (sym s.relevant) h.empty;
    given = All-from Interp (IsWrittenInGiven b) w.locals (λ k m at. written-same a b given-same m (All-at Interp (IsWrittenInGiven a) w.locals k m h.given at));
  }

  turned : AskTheSame b a
  turned = record {
    query = sym s.query;
    peers = sym s.peers;
    relevant = sym s.relevant;
    versions = λ i is. sym (s.versions i (ap (λ (js : List ℕ). is_in js i) (sym s.relevant) ∙ is));
  }

pub relevant_versions : (a b : Job) → AreRelevant a.pinned a.query.peer a.relevant → AskTheSame a b → AreAnsweredAlike a b
relevant_versions a b rel s = record {
  relevant = relevant-there a b rel s;
  follows = (follows-there a b rel s, follows-there b a (relevant-there a b rel s) (turned a b rel s));
  yes_alike = λ lines. (yes-there a b rel s lines, yes-there b a (relevant-there a b rel s) (turned a b rel s) lines);
  no_alike = λ w. (no-there a b rel s w, no-there b a (relevant-there a b rel s) (turned a b rel s) w);
}
