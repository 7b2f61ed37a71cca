-- A walk over the peers that are relevant: what a mark adds, one visit, and the end.
use Rattle.std.proofs.Common.{eqb-true, ◌≡◌, ◌≢◌, ◌∙◌, sym, refl, ap, subst, ℕ, ◌<◌, ◌+◌, ◌⊎◌, ◌||◌, ◌==◌, Bool, true, false, List, [], ◌∷◌, ◌++◌, length, length-append, slice_get, set, replicate, get_or, inl, inr, arith, All, Some, Option}
use Rattle.std.specs.List.{list_any}
use Rattle.std.specs.Option.{option_map_or}
use Rattle.std.proofs.Math.Bool.{Bool-set}
use Rattle.std.proofs.Math.Logic.{∥∥₁_map, ∥∥₁_elim}
use Rattle.std.proofs.lemmas.Bool.{or_cases, or_left, or_right, cases_eq, cases_lt, false≢true, eq-eqb}
use Rattle.std.proofs.lemmas.List.{get_or-set_same, get_or-set_other, get_or_past, get_or-replicate, length-set, length-replicate}
use Rattle.std.proofs.lemmas.List.Folds.{list_any-append}
use Rattle.std.proofs.lemmas.List.Sums.{sum_by-set}
use Rattle.std.proofs.lemmas.Option.{unwrap_or-slice_get, slice_get_within, get_or_from_slice_get}
use Rattle.dd_peer.specs.declared.version.Pinned.{Pinned}
use Rattle.dd_peer.specs.declared.version.PeerVersion.{PeerVersion}
use Rattle.dd_peer.specs.declared.version.Rule.{Rule}
use Rattle.dd_peer.specs.Rules.{rules_of}
use Rattle.dd_peer.specs.Relevant.Relevant.{itself, by_rule}
use Rattle.dd_peer.specs.Relevant.{Relevant, IsRelevant, is_in, has_from, keeps_from}
use Rattle.dd_peer.specs.Marks.{is_marked, without_mark, unmarked, froms_of, AreMarked, IsVisited, IsWalk, MarksRelevant}

-- ---- marks

pub marked-get : (marks : List Bool) (i : ℕ) → is_marked marks i ≡ get_or marks i false
marked-get marks i = unwrap_or-slice_get marks i false

marked-same : (marks : List Bool) (i : ℕ) → i < length marks → is_marked (set marks i true) i ≡ true
marked-same marks i low = marked-get (set marks i true) i ∙ get_or-set_same marks i true false low

marked-other : (marks : List Bool) (i k : ℕ) → k ≢ i → is_marked (set marks i true) k ≡ is_marked marks k
marked-other marks i k ne = marked-get (set marks i true) k ∙ (get_or-set_other marks i k true false ne ∙ sym (marked-get marks k))

marked-kept : (marks : List Bool) (i : ℕ) → i < length marks → (k : ℕ) → is_marked marks k ≡ true → is_marked (set marks i true) k ≡ true
marked-kept marks i low k h = elim (cases_eq k i) [
  | inl e ↦ ap (is_marked (set marks i true)) e ∙ marked-same marks i low
  | inr ne ↦ marked-other marks i k ne ∙ h
]

pub marked-low : (marks : List Bool) (i : ℕ) → is_marked marks i ≡ true → i < length marks
marked-low marks i h = elim (cases_lt i (length marks)) [
  | inl low ↦ low
  | inr high ↦ absurd (false≢true (sym (get_or_past marks i false high) ∙ (sym (marked-get marks i) ∙ h)))
]

-- ---- members

in-left : (xs ys : List ℕ) (i : ℕ) → is_in xs i ≡ true → is_in (xs ++ ys) i ≡ true
in-left xs ys i h = list_any-append (λ k. k == i) xs ys ∙ or_left (is_in xs i) (is_in ys i) h

in-right : (xs ys : List ℕ) (i : ℕ) → is_in ys i ≡ true → is_in (xs ++ ys) i ≡ true
in-right xs ys i h = list_any-append (λ k. k == i) xs ys ∙ or_right (is_in xs i) (is_in ys i) h

in-both : (xs ys : List ℕ) (i : ℕ) → is_in (xs ++ ys) i ≡ true → (is_in xs i ≡ true) ⊎ (is_in ys i ≡ true)
in-both xs ys i h = or_cases (is_in xs i) (is_in ys i) (sym (list_any-append (λ k. k == i) xs ys) ∙ h)

in-one : (x i : ℕ) → is_in (x ∷ []) i ≡ true → i ≡ x
in-one x i h = elim (cases_eq i x) [
  | inl e ↦ e
  | inr ne ↦ elim (or_cases (x == i) false h) [
    | inl t ↦ sym (eqb-true x i t)
    | inr f ↦ absurd (false≢true f)
  ]
]

one-in : (x : ℕ) → is_in (x ∷ []) x ≡ true
one-in x = or_left (x == x) false (eq-eqb x x refl)

-- ---- one mark

pub mark-again : (marks : List Bool) (todo : List ℕ) (i : ℕ) → is_marked marks i ≡ true → AreMarked (i ∷ []) marks marks todo todo
mark-again marks todo i h = record {
  size = refl;
  here = λ k e. ap (is_marked marks) (in-one i k e) ∙ h;
  kept = λ k e. e;
  only = λ k e. inr e;
  fresh = λ k e. inl e;
  stays = λ k e. e;
  added = λ k e. inl e;
  count = refl;
}

unmarked-set : (marks : List Bool) (i : ℕ) → i < length marks → get_or marks i false ≡ false → unmarked (set marks i true) + 1 ≡ unmarked marks
unmarked-set marks i low h = omega (arith, sum_by-set without_mark marks i true false low, ap without_mark h)

length-push : (xs : List ℕ) (x : ℕ) → length (xs ++ x ∷ []) ≡ length xs + 1
length-push xs x = length-append xs (x ∷ [])

pub mark-new : (marks : List Bool) (todo : List ℕ) (i : ℕ) → i < length marks → get_or marks i false ≡ false
    → AreMarked (i ∷ []) marks (set marks i true) todo (todo ++ i ∷ [])
mark-new marks todo i low h = record {
  size = length-set marks i true;
  here = λ k e. ap (is_marked (set marks i true)) (in-one i k e) ∙ marked-same marks i low;
  kept = marked-kept marks i low;
  only = λ k e. elim (cases_eq k i) [
    | inl q ↦ inl (subst (λ m. is_in (i ∷ []) m ≡ true) (sym q) (one-in i))
    | inr ne ↦ inr (sym (marked-other marks i k ne) ∙ e)
  ];
  fresh = λ k e. elim (cases_eq k i) [
    | inl q ↦ inr (in-right todo (i ∷ []) k (subst (λ m. is_in (i ∷ []) m ≡ true) (sym q) (one-in i)))
    | inr ne ↦ inl (sym (marked-other marks i k ne) ∙ e)
  ];
  stays = λ k e. in-left todo (i ∷ []) k e;
  added = λ k e. elim (in-both todo (i ∷ []) k e) [
    | inl t ↦ inl t
    | inr t ↦ inr (ap (is_marked (set marks i true)) (in-one i k t) ∙ marked-same marks i low)
  ];
  count = let one = unmarked-set marks i low h in let more = length-push todo i in omega (arith, one, more);
}

-- ---- several marks

pub mark-none : (marks : List Bool) (todo : List ℕ) → AreMarked [] marks marks todo todo
mark-none marks todo = record {
  size = refl;
  here = λ k e. absurd (false≢true e);
  kept = λ k e. e;
  only = λ k e. inr e;
  fresh = λ k e. inl e;
  stays = λ k e. e;
  added = λ k e. inl e;
  count = refl;
}

pub mark-both : (xs ys : List ℕ) (a b c : List Bool) (s t u : List ℕ) → AreMarked xs a b s t → AreMarked ys b c t u → AreMarked (xs ++ ys) a c s u
mark-both xs ys a b c s t u first then = record {
  size = then.size ∙ first.size;
  here = λ k e. elim (in-both xs ys k e) [
    | inl h ↦ then.kept k (first.here k h)
    | inr h ↦ then.here k h
  ];
  kept = λ k e. then.kept k (first.kept k e);
  only = λ k e. elim (then.only k e) [
    | inl h ↦ inl (in-right xs ys k h)
    | inr h ↦ elim (first.only k h) [
      | inl g ↦ inl (in-left xs ys k g)
      | inr g ↦ inr g
    ]
  ];
  fresh = λ k e. elim (then.fresh k e) [
    | inl h ↦ elim (first.fresh k h) [
      | inl g ↦ inl g
      | inr g ↦ inr (then.stays k g)
    ]
    | inr h ↦ inr h
  ];
  stays = λ k e. then.stays k (first.stays k e);
  added = λ k e. elim (then.added k e) [
    | inl h ↦ elim (first.added k h) [
      | inl g ↦ inl g
      | inr g ↦ inr (then.kept k g)
    ]
    | inr h ↦ inr h
  ];
  count = then.count ∙ first.count;
}

-- ---- the walk

none-marked : (n i : ℕ) → is_marked (replicate n false) i ≡ true → ⊥
none-marked n i e = elim (cases_lt i n) [
  | inl low ↦ false≢true (sym (get_or-replicate n i false false low) ∙ (sym (marked-get (replicate n false) i) ∙ e))
  | inr high ↦ false≢true (sym (get_or_past (replicate n false) i false (omega (arith, high, length-replicate n false))) ∙ (sym (marked-get (replicate n false) i) ∙ e))
]

pub walk-start : (p : Pinned) (j : ℕ) (marks none : List Bool) (todo : List ℕ) → none ≡ replicate (length p.peers) false
    → AreMarked (j ∷ []) none marks [] todo → IsWalk p j marks todo
walk-start p j marks none todo e given =
    let empty = λ (i : ℕ) (h : is_marked none i ≡ true). none-marked (length p.peers) i (sym (ap (λ m. is_marked m i) e) ∙ h) in
    record {
      size = given.size ∙ (ap length e ∙ length-replicate (length p.peers) false);
      first = given.here j (one-in j);
      sound = λ i h. elim (given.only i h) [
        | inl g ↦ subst (IsRelevant p j) (sym (in-one j i g)) ∣ itself ∣₁
        | inr g ↦ absurd (empty i g)
      ];
      todo_marked = λ i h. elim (given.added i h) [
        | inl g ↦ absurd (false≢true g)
        | inr g ↦ g
      ];
      visited = λ i h. elim (given.fresh i h) [
        | inl g ↦ absurd (empty i g)
        | inr g ↦ inl g
      ];
    }

in-froms : (rules : List Rule) (h : ℕ) → is_in (froms_of rules) h ≡ list_any (λ (r : Rule). r.from == h) rules
in-froms [] h = refl
in-froms (r ∷ rules) h = ap (λ b. (r.from == h) || b) (in-froms rules h)

keeps-at : (p : Pinned) (x h : ℕ) (v : PeerVersion) → slice_get p.peers x ≡ Some v → keeps_from p x h ≡ is_in (froms_of (rules_of v)) h
keeps-at p x h v e = ap (λ (o : Option PeerVersion). option_map_or (has_from h) o false) e ∙ sym (in-froms (rules_of v) h)

-- what is visited stays so with more marks
still-visited : (p : Pinned) (marks more : List Bool) → ((i : ℕ) → is_marked marks i ≡ true → is_marked more i ≡ true)
    → (i : ℕ) → IsVisited p marks i → IsVisited p more i
still-visited p marks more kept i visited h e = kept h (visited h e)

pub walk-next : (p : Pinned) (j : ℕ) (marks more : List Bool) (todo rest after : List ℕ) (x : ℕ) (v : PeerVersion)
    → IsWalk p j marks todo → todo ≡ rest ++ x ∷ [] → slice_get p.peers x ≡ Some v
    → AreMarked (froms_of (rules_of v)) marks more rest after → IsWalk p j more after
walk-next p j marks more todo rest after x v walk popped at given =
    let in_todo = λ (i : ℕ) (h : is_in (rest ++ x ∷ []) i ≡ true). subst (λ xs. is_in xs i ≡ true) (sym popped) h in
    let x_marked = walk.todo_marked x (in_todo x (in-right rest (x ∷ []) x (one-in x))) in
    let here : IsVisited p more x = λ h e. given.here h (sym (keeps-at p x h v at) ∙ e) in
    record {
      size = given.size ∙ walk.size;
      first = given.kept j walk.first;
      sound = λ i h. elim (given.only i h) [
        | inl g ↦ ∥∥₁_map (walk.sound x x_marked) (λ r. by_rule x i r (keeps-at p x i v at ∙ g))
        | inr g ↦ walk.sound i g
      ];
      todo_marked = λ i h. elim (given.added i h) [
        | inl g ↦ given.kept i (walk.todo_marked i (in_todo i (in-left rest (x ∷ []) i g)))
        | inr g ↦ g
      ];
      visited = λ i h. elim (given.fresh i h) [
        | inl old ↦ elim (walk.visited i old) [
          | inl waits ↦ elim (in-both rest (x ∷ []) i (subst (λ xs. is_in xs i ≡ true) popped waits)) [
            | inl g ↦ inl (given.stays i g)
            | inr g ↦ inr (subst (IsVisited p more) (sym (in-one x i g)) here)
          ]
          | inr done ↦ inr (still-visited p marks more given.kept i done)
        ]
        | inr new ↦ inl new
      ];
    }

marked-all : (p : Pinned) (j : ℕ) (marks : List Bool) → IsWalk p j marks [] → (i : ℕ) → Relevant p j i → is_marked marks i ≡ true
marked-all p j marks walk _ itself = walk.first
marked-all p j marks walk _ (by_rule i h r keeps) = elim (walk.visited i (marked-all p j marks walk i r)) [
  | inl waits ↦ absurd (false≢true waits)
  | inr done ↦ done h keeps
]

pub walk-end : (p : Pinned) (j : ℕ) (marks : List Bool) (todo : List ℕ) → todo ≡ [] → IsWalk p j marks todo → MarksRelevant p j marks
walk-end p j marks todo e walk = record {
  size = walk.size;
  exactly = λ i. (walk.sound i, λ r. ∥∥₁_elim r (Bool-set (is_marked marks i) true) (marked-all p j marks (subst (IsWalk p j marks) e walk) i));
}

-- what is to be visited is declared
pub last-low : (p : Pinned) (j : ℕ) (marks : List Bool) (todo rest : List ℕ) (x : ℕ) → IsWalk p j marks todo → todo ≡ rest ++ x ∷ [] → x < length p.peers
last-low p j marks todo rest x walk popped =
    let here = subst (λ xs. is_in xs x ≡ true) (sym popped) (in-right rest (x ∷ []) x (one-in x)) in
    let low = marked-low marks x (walk.todo_marked x here) in
    omega (arith, low, walk.size)

pub All-at : {A : Type 0} (P : A → Type 0) (xs : List A) (k : ℕ) (x : A) → All P xs → slice_get xs k ≡ Some x → P x
All-at P xs k x all e = subst P (get_or_from_slice_get xs k x x e) (all k x (slice_get_within xs k x e))
