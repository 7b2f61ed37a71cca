-- What tables say of the elements of a model is what the model says.
use Rattle.std.proofs.Common.{◌≡◌, ◌∙◌, ◌<◌, ◌≤◌, ◌+◌, ℕ, zero, suc, Bool, true, false, cond, List, [], ◌∷◌, ◌++◌, map, take, length, Some, All, Contains, get_or, refl, sym, ap, ap₂, subst, inl, inr, arith}
use Rattle.std.specs.List.{slice_get, flat_map, fold, range_with_len}
use Rattle.std.specs.Option.{option_map, option_map_or}
use Rattle.std.proofs.lemmas.Bool.{cases_Bool}
use Rattle.std.proofs.lemmas.Option.{slice_get-map, slice_get-get_or}
use Rattle.std.proofs.Math.Seq.{take-suc}
use Rattle.std.proofs.lemmas.List.{flat_map_more, length-take-le}
use Rattle.std.proofs.lemmas.List.FromFn.{length-range_with_len, get_or-range_with_len, map-range_with_len_more}
use Rattle.std.proofs.lemmas.List.Sums.{fold-append}
use Rattle.dd_interp.specs.declared.interp.Interp.{Interp}
use Rattle.dd_interp.specs.Satisfies.{IsShaped}
use Rattle.dd_peer.specs.declared.version.Pinned.{Pinned}
use Rattle.dd_peer.specs.declared.version.Rule.{Rule}
use Rattle.dd_task.specs.declared.demands.Table.{Table}
use Rattle.dd_task.specs.declared.job.Key.TheVariants.{Asked}
use Rattle.dd_task.specs.Demands.{raised_from, raised_at, without_repeats, raised_by}
use Rattle.dd_task.specs.Rules.{into_rules, onto_rules}
use Rattle.dd_task.specs.Tables.{elements_of, row_of, table_of, tables_of, says, taken_as, places_of, raised_by_table, raised_at_table, raised_in}
use Rattle.dd_task.specs.Targets.{positions, in_target}
use Rattle.dd_task.proofs.KeyLists.{at-range}
use Rattle.dd_task.proofs.Places.{places_from, unfold_places}

-- ---- places

module _ (A : Type 0) (test : A → Bool) where
  places-end : (n : ℕ) (xs : List A) (y : A) → places_from A test n (xs ++ y ∷ []) ≡ places_from A test n xs ++ cond (test y) ((n + length xs) ∷ []) []
  places-end n [] y = elim (cases_Bool (test y)) [
    | inl t ↦ unfold_places A test n y [] true t ∙ sym (ap (λ b. cond b ((n + 0) ∷ []) []) t ∙ ap (λ k. k ∷ []) (let e : n + 0 ≡ n = omega arith in e))
    | inr f ↦ unfold_places A test n y [] false f ∙ sym (ap (λ b. cond b ((n + 0) ∷ []) []) f)
  ]
  places-end n (x ∷ xs) y =
      let later : places_from A test (n + 1) (xs ++ y ∷ []) ≡ places_from A test (n + 1) xs ++ cond (test y) ((n + suc (length xs)) ∷ []) [] =
      places-end (n + 1) xs y ∙ ap (λ k. places_from A test (n + 1) xs ++ cond (test y) (k ∷ []) []) (let e : (n + 1) + length xs ≡ n + suc (length xs) = omega arith in e) in
      elim (cases_Bool (test x)) [
        | inl t ↦ unfold_places A test n x (xs ++ y ∷ []) true t ∙ ap (λ ks. n ∷ ks) later
            ∙ sym (ap (λ ks. ks ++ cond (test y) ((n + suc (length xs)) ∷ []) []) (unfold_places A test n x xs true t))
        | inr f ↦ unfold_places A test n x (xs ++ y ∷ []) false f ∙ later
            ∙ sym (ap (λ ks. ks ++ cond (test y) ((n + suc (length xs)) ∷ []) []) (unfold_places A test n x xs false f))
      ]

  -- one item more
  pub positions-end : (xs : List A) (y : A) → positions test (xs ++ y ∷ []) ≡ positions test xs ++ cond (test y) (length xs ∷ []) []
  positions-end xs y = places-end 0 xs y ∙ ap (λ k. positions test xs ++ cond (test y) (k ∷ []) []) (let e : 0 + length xs ≡ length xs = omega arith in e)

-- one row more
pub places-next : (wanted : Bool) (x : ℕ) (rows : List (List Bool)) (k : ℕ) (row : List Bool) → k < length rows → row ≡ get_or rows k row
    → places_of wanted x (take k rows) ++ cond (taken_as wanted (says x row)) (k ∷ []) [] ≡ places_of wanted x (take (k + 1) rows)
places-next wanted x rows k row lt is =
    let many : length (take k rows) ≡ k = length-take-le k rows (omega (arith, lt)) in
    let more : take (k + 1) rows ≡ take k rows ++ row ∷ [] =
    ap (λ n. take n rows) (let e : k + 1 ≡ suc k = omega arith in e) ∙ take-suc rows k row lt ∙ ap (λ r. take k rows ++ r ∷ []) (sym is) in
    ap (λ n. places_of wanted x (take k rows) ++ cond (taken_as wanted (says x row)) (n ∷ []) []) (sym many)
    ∙ sym (positions-end (List Bool) (λ r. taken_as wanted (says x r)) (take k rows) row)
    ∙ ap (places_of wanted x) (sym more)

-- the table at a place
pub table-at : (tables : List Table) (i x h : ℕ) (t : Table) → h < length tables → t ≡ get_or tables h t
    → raised_by_table h i x t ≡ raised_at_table tables i x h
table-at tables i x h t lt is =
    sym (ap (λ o. option_map_or (raised_by_table h i x) o []) (slice_get-get_or tables h t lt ∙ ap Some (sym is)))

module _ (A B : Type 0) (f : A → B) (test : A → Bool) (other : B → Bool) (same : (a : A) → other (f a) ≡ test a) where
  places-map : (n : ℕ) (xs : List A) → places_from B other n (map f xs) ≡ places_from A test n xs
  places-map n [] = refl
  places-map n (x ∷ xs) = elim (cases_Bool (test x)) [
    | inl t ↦ unfold_places B other n (f x) (map f xs) true (same x ∙ t) ∙ ap (λ ks. n ∷ ks) (places-map (n + 1) xs) ∙ sym (unfold_places A test n x xs true t)
    | inr e ↦ unfold_places B other n (f x) (map f xs) false (same x ∙ e) ∙ places-map (n + 1) xs ∙ sym (unfold_places A test n x xs false e)
  ]

-- ---- lists made of the numbers of a range

pub range-end : (a n : ℕ) → range_with_len a (n + 1) ≡ range_with_len a n ++ (a + n) ∷ []
range-end a zero = ap (λ k. k ∷ []) (let e : a ≡ a + 0 = omega arith in e)
range-end a (suc n) = ap (range_with_len a) (let e : suc n + 1 ≡ suc (n + 1) = omega arith in e) ∙ ap (λ ks. a ∷ ks) (range-end (a + 1) n ∙ ap (λ k. range_with_len (a + 1) n ++ k ∷ []) (let e : (a + 1) + n ≡ a + suc n = omega arith in e))

pub first-range-end : (n : ℕ) → range_with_len 0 (n + 1) ≡ range_with_len 0 n ++ n ∷ []
first-range-end n = range-end 0 n ∙ ap (λ k. range_with_len 0 n ++ k ∷ []) (let e : 0 + n ≡ n = omega arith in e)

-- what is gathered from one number more
pub gathered-next : {A B : Type 0} (g : B → A → B) (a : B) (f : ℕ → List A) (n : ℕ)
    → fold g (fold g a (flat_map f (range_with_len 0 n))) (f n) ≡ fold g a (flat_map f (range_with_len 0 (n + 1)))
gathered-next g a f n =
    sym (fold-append g a (flat_map f (range_with_len 0 n)) (f n))
    ∙ ap (fold g a) (flat_map_more f [] (range_with_len 0 n) n ∙ ap (flat_map f) (sym (first-range-end n)))

pub mapped-next : {A : Type 0} (f : ℕ → A) (n : ℕ) → map f (range_with_len 0 n) ++ f n ∷ [] ≡ map f (range_with_len 0 (n + 1))
mapped-next f n = sym (map-range_with_len_more f 0 n n (omega arith))

pub flat_map-range : {B : Type 0} (f g : ℕ → List B) (a n : ℕ) → ((k : ℕ) → a ≤ k → k < a + n → f k ≡ g k)
    → flat_map f (range_with_len a n) ≡ flat_map g (range_with_len a n)
flat_map-range f g a zero same = refl
flat_map-range f g a (suc n) same =
    ap₂ (λ xs ys. xs ++ ys) (same a (omega arith) (omega arith))
    (flat_map-range f g (a + 1) n (λ k le lt. same k (omega (arith, le)) (omega (arith, lt))))

first-range-at : (n k : ℕ) → k < n → slice_get (range_with_len 0 n) k ≡ Some k
first-range-at n k lt = at-range 0 n k lt ∙ ap Some (let e : 0 + k ≡ k = omega arith in e)

module _ (p : Pinned) (i : ℕ) (m : Interp) where
  says-target : (x : ℕ) (r : Rule) → x < m.size → says x (row_of m r) ≡ in_target m x r
  says-target x r lt = ap (λ o. option_map_or (λ (b : Bool). b) o false)
      (slice_get-map (λ y. in_target m y r) (elements_of m) x ∙ ap (option_map (λ y. in_target m y r)) (first-range-at m.size x lt))

  places-are : (wanted : Bool) (x : ℕ) → x < m.size → (rules : List Rule)
      → places_of wanted x (map (row_of m) rules) ≡ positions (λ r. taken_as wanted (in_target m x r)) rules
  places-are wanted x lt rules =
      places-map Rule (List Bool) (row_of m) (λ r. taken_as wanted (in_target m x r)) (λ row. taken_as wanted (says x row))
      (λ r. ap (taken_as wanted) (says-target x r lt)) 0 rules

  table-raises : (x h : ℕ) → x < m.size → raised_by_table h i x (table_of p i m h) ≡ raised_from p i m x h
  table-raises x h lt =
      ap₂ (λ set os. map (λ o. Asked h i o set) os) (places-are false x lt (into_rules p h i)) (places-are true x lt (onto_rules p h i))

  tables-raise : (x : ℕ) → x < m.size → raised_in (tables_of p i m) i x ≡ raised_at p i m x
  tables-raise x lt =
      let many : length (tables_of p i m) ≡ length p.peers = length-tables (length p.peers) in
      ap (λ n. flat_map (raised_at_table (tables_of p i m) i x) (range_with_len 0 n)) many
      ∙ flat_map-range (raised_at_table (tables_of p i m) i x) (raised_from p i m x) 0 (length p.peers)
      (λ h le h_lt. ap (λ o. option_map_or (raised_by_table h i x) o [])
      (slice_get-map (table_of p i m) (range_with_len 0 (length p.peers)) h ∙ ap (option_map (table_of p i m)) (first-range-at (length p.peers) h (omega (arith, h_lt))))
      ∙ table-raises x h lt)
    where
      length-map : {A B : Type 0} (f : A → B) (xs : List A) → length (map f xs) ≡ length xs
      length-map f [] = refl
      length-map f (x ∷ xs) = ap suc (length-map f xs)

      length-tables : (n : ℕ) → length (map (table_of p i m) (range_with_len 0 n)) ≡ n
      length-tables n = length-map (table_of p i m) (range_with_len 0 n) ∙ length-range_with_len 0 n

  pub all-raised : without_repeats (flat_map (raised_in (tables_of p i m) i) (range_with_len 0 m.size)) ≡ raised_by p i m
  all-raised = ap without_repeats (flat_map-range (raised_in (tables_of p i m) i) (raised_at p i m) 0 m.size (λ x le lt. tables-raise x (omega (arith, lt))))

-- each end of a role is one of the elements
pub ends-listed : (m : Interp) (elements : List ℕ) → IsShaped m → elements ≡ elements_of m → All (λ t. Contains elements t.2) m.roles
ends-listed m elements shaped is k d lt =
    let y : ℕ = (get_or m.roles k d).2 in
    let within : y < m.size = (shaped.roles k d lt).1 in
    let at : get_or (elements_of m) y y ≡ y = get_or-range_with_len 0 m.size y y within ∙ (let e : 0 + y ≡ y = omega arith in e) in
    subst (λ es. Contains es y) (sym is) (y, subst (λ n. y < n) (sym (length-range_with_len 0 m.size)) within, at)
