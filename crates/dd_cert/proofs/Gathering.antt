-- What is built of forms by way of trees, one after another, and that there is no room for all where there is none for one.
use Rattle.std.proofs.Common.{◌≡◌, ℕ, ◌+◌, ◌<◌, ◌≤◌, Bool, false, List, [], ◌∷◌, ◌++◌, length, map, take, drop, get_or, OnOk, Result, Ok, Err, refl, sym, ap, ◌∙◌, subst, arith}
use Rattle.std.specs.Prelude.{is_err}
use Rattle.std.proofs.lemmas.Bool.{false≢true}
use Rattle.std.specs.List.{fold}
use Rattle.std.proofs.lemmas.List.{map-append, take-append-drop, take_all, take_more}
use Rattle.std.proofs.lemmas.List.Sums.{fold-append}
use Rattle.dd_text.specs.Symbols.{Grows, SymbolLists, symbol_count}
use Rattle.dd_text.specs.Text.{with_term}
use Rattle.dd_text.proofs.Building.{Grows-refl, Grows-trans, Grows-with_term, drop-next, symbol_count-Grows}
use Rattle.dd_text.proofs.Numbering.{Appends-refl, Appends-with_text}
use Rattle.dd_cert.specs.Derivations.{Each, LineTree, WhyTree, bottom, bridge, clash, conjunction, cut, disjunction, implication, successor, with_line, with_lines, with_why}
use Rattle.dd_cert.specs.Steps.{AreBuilt, AreFull, IsBuilt, IsFull}

pub Each-append : {A B : Type 0} (Claim : A → B → Type 0) (xs xs' : List A) (ys ys' : List B) → Each Claim xs ys → Each Claim xs' ys' → Each Claim (xs ++ xs') (ys ++ ys')
Each-append Claim [] xs' [] ys' h k = k
Each-append Claim (x ∷ xs) xs' (y ∷ ys) ys' h k = (h.0, Each-append Claim xs xs' ys ys' h.1 k)
Each-append Claim [] xs' (y ∷ ys) ys' h k = absurd h
Each-append Claim (x ∷ xs) xs' [] ys' h k = absurd h

-- ---- symbols grow by each tree

pub Grows-fold : {T : Type 0} (step : SymbolLists → T → SymbolLists) → ((s : SymbolLists) (t : T) → Grows s (step s t)) → (s : SymbolLists) (ts : List T) → Grows s (fold step s ts)
Grows-fold step grows s [] = Grows-refl s
Grows-fold step grows s (t ∷ ts) = Grows-trans s (step s t) (fold step (step s t) ts) (grows s t) (Grows-fold step grows (step s t) ts)

pub Grows-with_why : (s : SymbolLists) (t : WhyTree) → Grows s (with_why s t)
Grows-with_why s bottom = Grows-refl s
Grows-with_why s (clash a) = record { names = Appends-with_text s.names a; roles = Appends-refl s.roles }
Grows-with_why s (conjunction at cite) = Grows-refl s
Grows-with_why s (disjunction at left right) = Grows-refl s
Grows-with_why s (implication index left right) = Grows-refl s
Grows-with_why s (cut c with_it without_it) = Grows-with_term s c
Grows-with_why s (successor at cite) = Grows-refl s
Grows-with_why s (bridge from onto into_set cite each) = Grows-refl s

pub Grows-with_line : (s : SymbolLists) (t : LineTree) → Grows s (with_line s t)
Grows-with_line s t =
    let labelled = fold with_term s t.label in
    Grows-trans s labelled (with_why labelled t.why) (Grows-fold with_term Grows-with_term s t.label) (Grows-with_why labelled t.why)

pub Grows-with_lines : (s : SymbolLists) (ts : List LineTree) → Grows s (with_lines s ts)
Grows-with_lines s ts = Grows-fold with_line Grows-with_line s ts

-- ---- a walk over forms

module _ {X T Y : Type 0} (Spell : X → T → Type 0) (step : SymbolLists → T → SymbolLists) (by : SymbolLists → T → Y) (grows : (s : SymbolLists) (t : T) → Grows s (step s t)) where
  pub built-none : (s : SymbolLists) → AreBuilt Spell step by s [] s []
  built-none s = record { trees = []; spelt = tt; symbols = refl; later = λ q h. refl }

  pub built-next : (old s t : SymbolLists) (xs : List X) (i : ℕ) (x : X) (ys more : List Y) (y : Y) → i < length xs → x ≡ get_or xs i x → AreBuilt Spell step by old (take i xs) s ys → IsBuilt Spell step by s x t y
      → more ≡ ys ++ y ∷ [] → AreBuilt Spell step by old (take (i + 1) xs) t more
  built-next old s t xs i x ys more y within is a b pushed =
      let front : take (i + 1) xs ≡ take i xs ++ x ∷ [] = take_more xs i x within ∙ ap (λ z. take i xs ++ z ∷ []) (sym is) in
      let between : Grows s t = subst (Grows s) (sym b.symbols) (grows s b.tree) in
      record {
        trees = a.trees ++ b.tree ∷ [];
        spelt = subst (λ l. Each Spell l (a.trees ++ b.tree ∷ [])) (sym front) (Each-append Spell (take i xs) (x ∷ []) a.trees (b.tree ∷ []) a.spelt (b.spelt, tt));
        symbols = b.symbols ∙ ap (λ z. step z b.tree) a.symbols ∙ sym (fold-append step old a.trees (b.tree ∷ []));
        later = λ q h. pushed ∙ ap (λ l. l ++ y ∷ []) (a.later q (Grows-trans s t q between h)) ∙ ap (λ z. map (by q) a.trees ++ z ∷ []) (b.later q h) ∙ sym (map-append (by q) a.trees (b.tree ∷ []));
      }

  pub built-all : (old s : SymbolLists) (xs : List X) (i : ℕ) (ys : List Y) → length xs ≤ i → AreBuilt Spell step by old (take i xs) s ys → AreBuilt Spell step by old xs s ys
  built-all old s xs i ys past a = subst (λ l. AreBuilt Spell step by old l s ys) (take_all i xs past) a

  -- where there is no room for one, there is none for all, whatever the trees of the rest are
  pub full-next : (old s : SymbolLists) (xs : List X) (i : ℕ) (x : X) (ys : List Y) → i < length xs → x ≡ get_or xs i x → AreBuilt Spell step by old (take i xs) s ys → IsFull Spell step s x
      → (rest : List T) × Each Spell (drop (i + 1) xs) rest → AreFull Spell step old xs
  full-next old s xs i x ys within is a f rest =
      let whole : take i xs ++ x ∷ drop (i + 1) xs ≡ xs = ap (λ l. take i xs ++ l) (sym (drop-next xs i x within is)) ∙ take-append-drop i xs in
      let all = a.trees ++ f.tree ∷ rest.0 in
      let last = fold step (step s f.tree) rest.0 in
      let end : fold step old all ≡ last = fold-append step old a.trees (f.tree ∷ rest.0) ∙ ap (λ z. fold step (step z f.tree) rest.0) (sym a.symbols) in
      record {
        trees = all;
        spelt = subst (λ l. Each Spell l all) whole (Each-append Spell (take i xs) (x ∷ drop (i + 1) xs) a.trees (f.tree ∷ rest.0) a.spelt (f.spelt, rest.1));
        full = omega (arith, f.full, symbol_count-Grows (step s f.tree) last (Grows-fold step grows (step s f.tree) rest.0), ap symbol_count end);
      }

-- what holds where something was done holds where no error was seen
pub where_done : {T E P : Type 0} (r : Result T E) (failed : Bool) → failed ≡ is_err r → failed ≡ false → OnOk r P → P
where_done (Ok x) failed is none h = h
where_done (Err e) failed is none h = absurd (false≢true (sym none ∙ is))
