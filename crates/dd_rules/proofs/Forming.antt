-- The rows of concepts by their forms: a concept is made from its parts, and is not there where a part is not.
use Rattle.std.proofs.Common.{◌≡◌, ◌∙◌, ℕ, ◌<◌, true, false, List, [], ◌∷◌, length, refl, sym, ap, ap₂, subst, arith, inl, inr, Some, None, Option, slice_get, Result, IfOk}
use Rattle.std.proofs.lemmas.Bool.{false≢true, and_from, and_parts, cases_Bool, cond-true, cond-false, false_from_ne_true}
use Rattle.std.proofs.lemmas.Option.{slice_get-get_or, slice_get_within, get_or_from_slice_get, same_Some}
use Rattle.dd_concept.specs.declared.concept.Concept.{Concept}
use Rattle.dd_concept.specs.declared.concept.Concept.TheOpen.{Concept-F}
use Rattle.dd_concept.specs.declared.concept.Concept.TheVariants as concept
use Rattle.dd_concept.specs.declared.concept.Concept.TheViews.{out-Concept, outs-Top, outs-Bottom, outs-Name, outs-Not, outs-And, outs-Or, outs-HasSome, outs-HasAll}
use Rattle.dd_concept.specs.Same.{has, is_within}
use Rattle.dd_concept.proofs.Equations.{nnf_of-Top, nnf_of-Bottom, nnf_of-And, nnf_of-Or, nnf_of-HasSome, nnf_of-HasAll, nnf_not_of-Top, nnf_not_of-Bottom, nnf_not_of-And, nnf_not_of-Or, nnf_not_of-HasSome, nnf_not_of-HasAll}
use Rattle.dd_rules.specs.Compiled.{concept_at}
use Rattle.dd_rules.specs.Numbers.{place_of, number_of}
use Rattle.dd_rules.specs.Trees.{concept_of, trees, IsWithin, IsRows, formed, top_row, bottom_row, and_row, or_row, some_row, all_row}
use Rattle.dd_rules.specs.declared.row.Form.{Form}
use Rattle.dd_rules.specs.declared.row.Form.TheVariants as form
use Rattle.dd_rules.specs.declared.row.Row.{Row}
use Rattle.dd_rules.specs.declared.row.Row.TheVariants as row
use Rattle.dd_rules.proofs.Growing.{length-trees, row-of}
use Rattle.dd_rules.proofs.Numbered.{has-get, get-place}

pub at : (cs : List Concept) (n : ℕ) (c : Concept) → slice_get cs n ≡ Some c → concept_at cs n ≡ c
at cs n c h = get_or_from_slice_get cs n c concept.Top h

pub low : (rows : List Row) (n : ℕ) (c : Concept) → slice_get (trees rows) n ≡ Some c → n < length rows
low rows n c h = omega (arith, slice_get_within (trees rows) n c h, length-trees rows)

-- ---- looking up

pub number-at : (cs : List Concept) (n : ℕ) (c : Concept) → Some n ≡ number_of cs c → slice_get cs n ≡ Some c
number-at cs n c h = elim (cases_Bool (has cs c)) [
  | inl t ↦ ap (slice_get cs) (same_Some n (place_of cs c) (h ∙ cond-true (has cs c) (Some (place_of cs c)) None t)) ∙ get-place cs c t
  | inr f ↦ let wrong = h ∙ cond-false (has cs c) (Some (place_of cs c)) None f in cc
]

pub number-none : (cs : List Concept) (c : Concept) → None ≡ number_of cs c → has cs c ≡ false
number-none cs c h = false_from_ne_true (has cs c) (λ t. let wrong = h ∙ cond-true (has cs c) (Some (place_of cs c)) None t in cc)

pub none-number : (cs : List Concept) (c : Concept) → has cs c ≡ false → None ≡ number_of cs c
none-number cs c f = sym (cond-false (has cs c) (Some (place_of cs c)) None f)

pub number-low : (rows : List Row) (n : ℕ) (c : Concept) → Some n ≡ number_of (trees rows) c → n < length rows
number-low rows n c h = low rows n c (number-at (trees rows) n c h)

-- the parts of a concept themselves, those of a Not among them
abbrev pub parts_of : Concept-F Concept → List Concept
parts_of (Concept-F.Not c) = c ∷ []
parts_of (Concept-F.And c d) = c ∷ d ∷ []
parts_of (Concept-F.Or c d) = c ∷ d ∷ []
parts_of (Concept-F.HasSome r c) = c ∷ []
parts_of (Concept-F.HasAll r c) = c ∷ []
parts_of _ = []

has-concept_at : (cs : List Concept) (n : ℕ) → n < length cs → has cs (concept_at cs n) ≡ true
has-concept_at cs n h = has-get cs n (concept_at cs n) (slice_get-get_or cs n concept.Top h)

one-there : (cs : List Concept) (n : ℕ) → n < length cs → is_within (concept_at cs n ∷ []) cs ≡ true
one-there cs n h = and_from (has cs (concept_at cs n)) true (has-concept_at cs n h) refl

two-there : (cs : List Concept) (n m : ℕ) → n < length cs → m < length cs → is_within (concept_at cs n ∷ concept_at cs m ∷ []) cs ≡ true
two-there cs n m h k = and_from (has cs (concept_at cs n)) (is_within (concept_at cs m ∷ []) cs) (has-concept_at cs n h) (one-there cs m k)

row-parts : (cs : List Concept) (r : Row) → IsWithin r (length cs) → is_within (parts_of (out-Concept (concept_of cs r))) cs ≡ true
row-parts cs row.Top w = ap (λ y. is_within (parts_of y) cs) outs-Top
row-parts cs row.Bottom w = ap (λ y. is_within (parts_of y) cs) outs-Bottom
row-parts cs (row.Name a) w = ap (λ y. is_within (parts_of y) cs) (outs-Name a)
row-parts cs (row.Not l) w = ap (λ y. is_within (parts_of y) cs) (outs-Not (concept_at cs l)) ∙ one-there cs l w
row-parts cs (row.And l k) w = ap (λ y. is_within (parts_of y) cs) (outs-And (concept_at cs l) (concept_at cs k)) ∙ two-there cs l k w.0 w.1
row-parts cs (row.Or l k) w = ap (λ y. is_within (parts_of y) cs) (outs-Or (concept_at cs l) (concept_at cs k)) ∙ two-there cs l k w.0 w.1
row-parts cs (row.HasSome s l) w = ap (λ y. is_within (parts_of y) cs) (outs-HasSome s (concept_at cs l)) ∙ one-there cs l w
row-parts cs (row.HasAll s l) w = ap (λ y. is_within (parts_of y) cs) (outs-HasAll s (concept_at cs l)) ∙ one-there cs l w

-- the rows have the parts of each concept that they have
pub rows-parts : (rows : List Row) (c : Concept) → IsRows rows → has (trees rows) c ≡ true → is_within (parts_of (out-Concept c)) (trees rows) ≡ true
rows-parts rows c h t =
    let found = row-of rows (place_of (trees rows) c) c h (get-place (trees rows) c t) in
    ap (λ d. is_within (parts_of (out-Concept d)) (trees rows)) found.is ∙ row-parts (trees rows) found.its found.within

module _ (rows : List Row) (h : IsRows rows) where
  -- where a part is not there the whole is not there
  gone : (c d : Concept) (rest : List Concept) → parts_of (out-Concept c) ≡ d ∷ rest → None ≡ number_of (trees rows) d → None ≡ number_of (trees rows) c
  gone c d rest is none = none-number (trees rows) c (false_from_ne_true (has (trees rows) c)
      (λ t. false≢true (sym (number-none (trees rows) d none)
      ∙ (and_parts (has (trees rows) d) (is_within rest (trees rows)) (sym (ap (λ l. is_within l (trees rows)) is) ∙ rows-parts rows c h t)).0)))

  gone-second : (c e d : Concept) → parts_of (out-Concept c) ≡ e ∷ d ∷ [] → None ≡ number_of (trees rows) d → None ≡ number_of (trees rows) c
  gone-second c e d is none = none-number (trees rows) c (false_from_ne_true (has (trees rows) c)
      (λ t. false≢true (sym (number-none (trees rows) d none)
      ∙ (and_parts (has (trees rows) d) true (and_parts (has (trees rows) e) (is_within (d ∷ []) (trees rows)) (sym (ap (λ l. is_within l (trees rows)) is) ∙ rows-parts rows c h t)).1).0)))

  pub gone-Not : (c d : Concept) → c ≡ concept.Not d → None ≡ number_of (trees rows) d → None ≡ number_of (trees rows) c
  gone-Not c d is none = gone c d [] (ap (λ e. parts_of (out-Concept e)) is ∙ ap parts_of (outs-Not d)) none

  pub gone-And : (c d e : Concept) → c ≡ concept.And d e → None ≡ number_of (trees rows) d → None ≡ number_of (trees rows) c
  gone-And c d e is none = gone c d (e ∷ []) (ap (λ e. parts_of (out-Concept e)) is ∙ ap parts_of (outs-And d e)) none

  pub gone-And-right : (c d e : Concept) → c ≡ concept.And d e → None ≡ number_of (trees rows) e → None ≡ number_of (trees rows) c
  gone-And-right c d e is none = gone-second c d e (ap (λ e. parts_of (out-Concept e)) is ∙ ap parts_of (outs-And d e)) none

  pub gone-Or : (c d e : Concept) → c ≡ concept.Or d e → None ≡ number_of (trees rows) d → None ≡ number_of (trees rows) c
  gone-Or c d e is none = gone c d (e ∷ []) (ap (λ e. parts_of (out-Concept e)) is ∙ ap parts_of (outs-Or d e)) none

  pub gone-Or-right : (c d e : Concept) → c ≡ concept.Or d e → None ≡ number_of (trees rows) e → None ≡ number_of (trees rows) c
  gone-Or-right c d e is none = gone-second c d e (ap (λ e. parts_of (out-Concept e)) is ∙ ap parts_of (outs-Or d e)) none

  pub gone-HasSome : (c d : Concept) (s : ℕ) → c ≡ concept.HasSome s d → None ≡ number_of (trees rows) d → None ≡ number_of (trees rows) c
  gone-HasSome c d s is none = gone c d [] (ap (λ e. parts_of (out-Concept e)) is ∙ ap parts_of (outs-HasSome s d)) none

  pub gone-HasAll : (c d : Concept) (s : ℕ) → c ≡ concept.HasAll s d → None ≡ number_of (trees rows) d → None ≡ number_of (trees rows) c
  gone-HasAll c d s is none = gone c d [] (ap (λ e. parts_of (out-Concept e)) is ∙ ap parts_of (outs-HasAll s d)) none

-- a concept whose parts are there, by their numbers
module _ (cs : List Concept) where
  part : (n : ℕ) (d : Concept) → Some n ≡ number_of cs d → concept_at cs n ≡ d
  part n d h = at cs n d (number-at cs n d h)

  pub found-Not : (c d : Concept) (n : ℕ) (o : Option ℕ) → c ≡ concept.Not d → Some n ≡ number_of cs d → o ≡ number_of cs (concept_of cs (row.Not n)) → o ≡ number_of cs c
  found-Not c d n o is h e = e ∙ ap (number_of cs) (ap concept.Not (part n d h) ∙ sym is)

  pub found-And : (c d e : Concept) (n m : ℕ) (o : Option ℕ) → c ≡ concept.And d e → Some n ≡ number_of cs d → Some m ≡ number_of cs e → o ≡ number_of cs (concept_of cs (row.And n m)) → o ≡ number_of cs c
  found-And c d e n m o is h k f = f ∙ ap (number_of cs) (ap₂ concept.And (part n d h) (part m e k) ∙ sym is)

  pub found-Or : (c d e : Concept) (n m : ℕ) (o : Option ℕ) → c ≡ concept.Or d e → Some n ≡ number_of cs d → Some m ≡ number_of cs e → o ≡ number_of cs (concept_of cs (row.Or n m)) → o ≡ number_of cs c
  found-Or c d e n m o is h k f = f ∙ ap (number_of cs) (ap₂ concept.Or (part n d h) (part m e k) ∙ sym is)

  pub found-HasSome : (c d : Concept) (s n : ℕ) (o : Option ℕ) → c ≡ concept.HasSome s d → Some n ≡ number_of cs d → o ≡ number_of cs (concept_of cs (row.HasSome s n)) → o ≡ number_of cs c
  found-HasSome c d s n o is h e = e ∙ ap (number_of cs) (ap (concept.HasSome s) (part n d h) ∙ sym is)

  pub found-HasAll : (c d : Concept) (s n : ℕ) (o : Option ℕ) → c ≡ concept.HasAll s d → Some n ≡ number_of cs d → o ≡ number_of cs (concept_of cs (row.HasAll s n)) → o ≡ number_of cs c
  found-HasAll c d s n o is h e = e ∙ ap (number_of cs) (ap (concept.HasAll s) (part n d h) ∙ sym is)

-- ---- adding

pub within-and : (f : Form) (l k n : ℕ) → l < n → k < n → IsWithin (and_row f l k) n
within-and form.Itself l k n h g = (h, g)
within-and form.Normal l k n h g = (h, g)
within-and form.Complement l k n h g = (h, g)

pub within-or : (f : Form) (l k n : ℕ) → l < n → k < n → IsWithin (or_row f l k) n
within-or form.Itself l k n h g = (h, g)
within-or form.Normal l k n h g = (h, g)
within-or form.Complement l k n h g = (h, g)

pub within-some : (f : Form) (s l n : ℕ) → l < n → IsWithin (some_row f s l) n
within-some form.Itself s l n h = h
within-some form.Normal s l n h = h
within-some form.Complement s l n h = h

pub within-all : (f : Form) (s l n : ℕ) → l < n → IsWithin (all_row f s l) n
within-all form.Itself s l n h = h
within-all form.Normal s l n h = h
within-all form.Complement s l n h = h

module _ (cs : List Concept) where
  pub formed-top : (f : Form) → concept_of cs (top_row f) ≡ formed f concept.Top
  formed-top form.Itself = refl
  formed-top form.Normal = sym nnf_of-Top
  formed-top form.Complement = sym nnf_not_of-Top

  pub formed-bottom : (f : Form) → concept_of cs (bottom_row f) ≡ formed f concept.Bottom
  formed-bottom form.Itself = refl
  formed-bottom form.Normal = sym nnf_of-Bottom
  formed-bottom form.Complement = sym nnf_not_of-Bottom

  formed-and : (f : Form) (l k : ℕ) (d e : Concept) → concept_at cs l ≡ formed f d → concept_at cs k ≡ formed f e → concept_of cs (and_row f l k) ≡ formed f (concept.And d e)
  formed-and form.Itself l k d e h g = ap₂ concept.And h g
  formed-and form.Normal l k d e h g = ap₂ concept.And h g ∙ sym (nnf_of-And d e)
  formed-and form.Complement l k d e h g = ap₂ concept.Or h g ∙ sym (nnf_not_of-And d e)

  formed-or : (f : Form) (l k : ℕ) (d e : Concept) → concept_at cs l ≡ formed f d → concept_at cs k ≡ formed f e → concept_of cs (or_row f l k) ≡ formed f (concept.Or d e)
  formed-or form.Itself l k d e h g = ap₂ concept.Or h g
  formed-or form.Normal l k d e h g = ap₂ concept.Or h g ∙ sym (nnf_of-Or d e)
  formed-or form.Complement l k d e h g = ap₂ concept.And h g ∙ sym (nnf_not_of-Or d e)

  formed-some : (f : Form) (s l : ℕ) (d : Concept) → concept_at cs l ≡ formed f d → concept_of cs (some_row f s l) ≡ formed f (concept.HasSome s d)
  formed-some form.Itself s l d h = ap (concept.HasSome s) h
  formed-some form.Normal s l d h = ap (concept.HasSome s) h ∙ sym (nnf_of-HasSome s d)
  formed-some form.Complement s l d h = ap (concept.HasAll s) h ∙ sym (nnf_not_of-HasSome s d)

  formed-all : (f : Form) (s l : ℕ) (d : Concept) → concept_at cs l ≡ formed f d → concept_of cs (all_row f s l) ≡ formed f (concept.HasAll s d)
  formed-all form.Itself s l d h = ap (concept.HasAll s) h
  formed-all form.Normal s l d h = ap (concept.HasAll s) h ∙ sym (nnf_of-HasAll s d)
  formed-all form.Complement s l d h = ap (concept.HasSome s) h ∙ sym (nnf_not_of-HasAll s d)

  pub made-and : (f : Form) (l k : ℕ) (c d e : Concept) (r : Row) → r ≡ and_row f l k → c ≡ concept.And d e
      → slice_get cs l ≡ Some (formed f d) → slice_get cs k ≡ Some (formed f e) → concept_of cs r ≡ formed f c
  made-and f l k c d e r its is h g = ap (concept_of cs) its ∙ formed-and f l k d e (at cs l (formed f d) h) (at cs k (formed f e) g) ∙ ap (formed f) (sym is)

  pub made-or : (f : Form) (l k : ℕ) (c d e : Concept) (r : Row) → r ≡ or_row f l k → c ≡ concept.Or d e
      → slice_get cs l ≡ Some (formed f d) → slice_get cs k ≡ Some (formed f e) → concept_of cs r ≡ formed f c
  made-or f l k c d e r its is h g = ap (concept_of cs) its ∙ formed-or f l k d e (at cs l (formed f d) h) (at cs k (formed f e) g) ∙ ap (formed f) (sym is)

  pub made-some : (f : Form) (s l : ℕ) (c d : Concept) (r : Row) → r ≡ some_row f s l → c ≡ concept.HasSome s d → slice_get cs l ≡ Some (formed f d) → concept_of cs r ≡ formed f c
  made-some f s l c d r its is h = ap (concept_of cs) its ∙ formed-some f s l d (at cs l (formed f d) h) ∙ ap (formed f) (sym is)

  pub made-all : (f : Form) (s l : ℕ) (c d : Concept) (r : Row) → r ≡ all_row f s l → c ≡ concept.HasAll s d → slice_get cs l ≡ Some (formed f d) → concept_of cs r ≡ formed f c
  made-all f s l c d r its is h = ap (concept_of cs) its ∙ formed-all f s l d (at cs l (formed f d) h) ∙ ap (formed f) (sym is)

  pub made-not : (l : ℕ) (c d : Concept) → c ≡ concept.Not d → slice_get cs l ≡ Some d → concept_of cs (row.Not l) ≡ c
  made-not l c d is h = ap concept.Not (at cs l d h) ∙ sym is

-- what is found is the same concept
pub found-is : {E : Type 0} (zs : List Concept) (c d : Concept) (r : Result ℕ E) → c ≡ d → IfOk r (λ n. slice_get zs n ≡ Some c) → IfOk r (λ n. slice_get zs n ≡ Some d)
found-is zs c d r is h = subst (λ e. IfOk r (λ n. slice_get zs n ≡ Some e)) is h
