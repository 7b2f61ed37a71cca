-- Rules at some positions, of which all have to be there, and numbers that rise.
use Rattle.std.proofs.Common.{◌≡◌, ◌∙◌, ◌&&◌, ◌||◌, ◌<◌, ◌≤◌, ◌-◌, ◌+◌, ℕ, zero, suc, Bool, true, false, nat_lt, List, [], ◌∷◌, length, drop, get_or, Option, None, Some, refl, sym, ap, subst, inl, inr, arith}
use Rattle.std.specs.List.{list_any, list_all, flat_map}
use Rattle.std.proofs.lemmas.Bool.{cases_Bool, and_parts, and_from, lt-ltb, ltb-true}
use Rattle.std.proofs.Math.Seq.{drop-cons}
use Rattle.dd_concept.specs.declared.concept.Concept.{Concept}
use Rattle.dd_concept.specs.Normal.{nnf_of}
use Rattle.dd_concept.specs.Same.{has}
use Rattle.dd_concept.proofs.Sets.{has-append}
use Rattle.dd_peer.specs.declared.version.Rule.{Rule}
use Rattle.dd_task.specs.Claims.{Claim}
use Rattle.dd_task.specs.Goals.{no_source_at}
use Rattle.dd_task.specs.Lines.{is_there, is_rising, rules_at, cites_within, cites_targets, sources_label}
use Rattle.dd_task.proofs.Labels.{more-parts, no_sources-are}

pub has-flat_map : {A : Type 0} (f : A → List Concept) (xs : List A) (c : Concept) → list_any (λ x. has (f x) c) xs ≡ has (flat_map f xs) c
has-flat_map f [] c = refl
has-flat_map f (x ∷ xs) c = ap (λ b. has (f x) c || b) (has-flat_map f xs c) ∙ sym (has-append (f x) (flat_map f xs) c)

-- ---- two tests, the second of which asks something of what is there

and-false : (a : Bool) → (a && false) ≡ false
and-false true = refl
and-false false = refl

pub there-with : {A : Type 0} (o : Option A) (a : Bool) (f : A → Bool) → (a && is_there o f) ≡ is_there o (λ x. a && f x)
there-with None a f = and-false a
there-with (Some x) a f = refl

pub there-both : {A : Type 0} (o : Option A) (a : Bool) (f g : A → Bool) → ((x : A) → o ≡ Some x → a ≡ f x) → (a && is_there o g) ≡ is_there o (λ x. f x && g x)
there-both None a f g e = and-false a
there-both (Some x) a f g e = ap (λ b. b && g x) (e x refl)

pub there-never : {A : Type 0} (o : Option A) (f : A → Bool) → ((x : A) → o ≡ Some x → f x ≡ false) → false ≡ is_there o f
there-never None f e = refl
there-never (Some x) f e = sym (e x refl)

-- the answers of the two tests, one after the other
pub and-then : (a b whole : Bool) → a ≡ true → (a && b) ≡ whole → b ≡ whole
and-then a b whole t e = sym (ap (λ v. v && b) t) ∙ e

pub and-else : (a b whole : Bool) → a ≡ false → (a && b) ≡ whole → a ≡ whole
and-else a b whole f e = f ∙ sym (ap (λ v. v && b) f) ∙ e

-- a bridge's two tests on its into rules: what the other peer's line says of their sources is said by the rules that are there
pub bridge-both : (before : List Claim) (from cite : ℕ) (onto : Rule) (all : List Rule) (ks : List ℕ) (g : List Rule → Bool)
    → (cites_within before from cite (nnf_of onto.source ∷ flat_map (no_source_at all) ks) && is_there (rules_at all ks) g)
    ≡ is_there (rules_at all ks) (λ into. cites_within before from cite (sources_label onto into) && g into)
bridge-both before from cite onto all ks g =
    there-both (rules_at all ks) (cites_within before from cite (nnf_of onto.source ∷ flat_map (no_source_at all) ks))
    (λ into. cites_within before from cite (sources_label onto into)) g
    (λ into e. ap (λ cs. cites_within before from cite (nnf_of onto.source ∷ cs)) (no_sources-are all ks into e))

-- ---- as many rules as positions, and as many lines as rules

pub rules_at-length : (all : List Rule) (ks : List ℕ) (rules : List Rule) → rules_at all ks ≡ Some rules → length rules ≡ length ks
rules_at-length all [] rules e = some-length [] rules e
  where
    some-length : (xs ys : List Rule) → Some xs ≡ Some ys → length ys ≡ length xs
    some-length xs ys e = cc
rules_at-length all (k ∷ ks) rules e =
    let parts = more-parts _ (rules_at all ks) rules e in
    sym (ap (length {A = Rule}) parts.4) ∙ ap suc (rules_at-length all ks parts.1 parts.3)

pub targets-length : (before : List Claim) (peer : ℕ) (label : List Concept) (into : List Rule) (each : List ℕ)
    → (length into ≡ length each → ⊥) → cites_targets before peer label into each ≡ false
targets-length before peer label [] [] apart = absurd (apart refl)
targets-length before peer label [] (n ∷ ns) apart = refl
targets-length before peer label (r ∷ rs) [] apart = refl
targets-length before peer label (r ∷ rs) (n ∷ ns) apart =
    ap (λ b. cites_within before peer n (nnf_of r.target ∷ label) && b) (targets-length before peer label rs ns (λ e. apart (ap suc e)))
    ∙ and-false (cites_within before peer n (nnf_of r.target ∷ label))

-- ---- numbers that rise

all-above : (a b : ℕ) (ns : List ℕ) → a < b → list_all (λ m. nat_lt b m) ns ≡ true → list_all (λ m. nat_lt a m) ns ≡ true
all-above a b [] lt e = refl
all-above a b (n ∷ ns) lt e =
    let both = and_parts (nat_lt b n) (list_all (λ m. nat_lt b m) ns) e in
    let above : b < n = ltb-true b n both.0 in
    and_from (nat_lt a n) (list_all (λ m. nat_lt a m) ns) (lt-ltb a n (omega (arith, lt, above))) (all-above a b ns lt both.1)

two-rise : (a b : ℕ) (ns : List ℕ) → a < b → is_rising (a ∷ b ∷ ns) ≡ is_rising (b ∷ ns)
two-rise a b ns lt = elim (cases_Bool (is_rising (b ∷ ns))) [
  | inl t ↦
      let both = and_parts (list_all (λ m. nat_lt b m) ns) (is_rising ns) t in
      and_from (nat_lt a b && list_all (λ m. nat_lt a m) ns) (is_rising (b ∷ ns))
      (and_from (nat_lt a b) (list_all (λ m. nat_lt a m) ns) (lt-ltb a b lt) (all-above a b ns lt both.0)) t ∙ sym t
  | inr f ↦ ap (λ v. (nat_lt a b && list_all (λ m. nat_lt a m) ns) && v) f ∙ and-false (nat_lt a b && list_all (λ m. nat_lt a m) ns) ∙ sym f
]

rise-from : (xs : List ℕ) (j : ℕ) → suc j < length xs → get_or xs j 0 < get_or xs (suc j) 0 → is_rising (drop j xs) ≡ is_rising (drop (suc j) xs)
rise-from xs j lt above =
    let first = drop-cons xs j 0 (omega (arith, lt)) in
    let second = drop-cons xs (suc j) 0 lt in
    ap is_rising (first ∙ ap (λ r. get_or xs j 0 ∷ r) second) ∙ two-rise (get_or xs j 0) (get_or xs (suc j) 0) (drop (suc (suc j)) xs) above
    ∙ sym (ap is_rising second)

pub rise-next : (xs : List ℕ) (k : ℕ) → 1 ≤ k → k < length xs → get_or xs (k - 1) 0 < get_or xs k 0
    → is_rising (drop (k - 1) xs) ≡ is_rising (drop (k + 1 - 1) xs)
rise-next xs k le lt above =
    let back : k ≡ suc (k - 1) = omega (arith, le) in
    let same : suc (k - 1) ≡ k + 1 - 1 = omega (arith, le) in
    rise-from xs (k - 1) (omega (arith, back, lt)) (subst (λ n. get_or xs (k - 1) 0 < get_or xs n 0) back above) ∙ ap (λ n. is_rising (drop n xs)) same

last-rises : (xs : List ℕ) (j : ℕ) → length xs ≤ suc j → is_rising (drop j xs) ≡ true
last-rises [] zero le = refl
last-rises [] (suc j) le = refl
last-rises (x ∷ []) zero le = refl
last-rises (x ∷ y ∷ ys) zero le = absurd (omega (arith, le))
last-rises (x ∷ xs) (suc j) le = last-rises xs j (omega (arith, le))

pub end-rises : (xs : List ℕ) (k : ℕ) → 1 ≤ k → length xs ≤ k → is_rising (drop (k - 1) xs) ≡ true
end-rises xs k one le = last-rises xs (k - 1) (omega (arith, one, le))
