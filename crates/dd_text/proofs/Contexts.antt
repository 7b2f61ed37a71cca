-- The forms that stand open round a place of a text. What the automaton has read is the beginning of some text of the grammar.
use Rattle.std.proofs.Common.{◌≡◌, ℕ, suc, ◌<◌, Bool, true, false, List, [], ◌∷◌, ◌++◌, length, refl, sym, ap, ◌∙◌, arith, append_assoc, length-append, take, drop}
use Rattle.std.specs.Prelude.{◌&&◌, ◌||◌, ◌==◌, ◌⊎◌, nat_eq, nat_lt, nat_le, codes, not, slice_index}
use Rattle.std.proofs.Common.{inl, inr}
use Rattle.std.specs.List.{list_all, list_any, starts_with}
use Rattle.std.specs.Str.{bytes_eq}
use Rattle.std.proofs.lemmas.Bool.{false≢true, eqb-true, ltb-true, le-leb}
use Rattle.std.proofs.lemmas.List.{append-nil, take-append-drop}
use Rattle.std.proofs.lemmas.Slice.Eq.{bytes_eq-Decides}
use Rattle.std.proofs.Math.Seq.{drop-cons}
use Rattle.dd_text.specs.Names.{names_a_thing, is_byte_of_name, begins_with_letter, longest_name, reserved, is_reserved_word}
use Rattle.dd_text.specs.Grammar.{Term, top, bottom, atomic, negation, conjunction, disjunction, existential, universal, term_text, is_written, IsConceptText, Begins}
use Rattle.dd_text.specs.declared.grammar.Frame.{Frame}
use Rattle.dd_text.specs.declared.grammar.Frame.TheVariants as frame
use Rattle.dd_text.specs.Automaton.{continues, continues_keyword, extends, is_leaf}
use Rattle.dd_text.proofs.Reading.{IsNamelike, both_of, left_of, right_of}

-- a form that stands open: `not`, the first or the second part of `and` (true) or `or`, what follows the role of `some` (true) or `all`
pub data Form : Type 0 where
  negated : Form
  first_part : Bool → Form
  second_part : Bool → Term → Form
  filler : Bool → List ℕ → Form

abbrev pub frame_of : Form → Frame
frame_of negated = frame.Last
frame_of (first_part k) = frame.First
frame_of (second_part k c) = frame.Last
frame_of (filler k r) = frame.Last

abbrev pub is_form : Form → Bool
is_form negated = true
is_form (first_part k) = true
is_form (second_part k c) = is_written c
is_form (filler k r) = names_a_thing r

abbrev pub are_forms : List Form → Bool
are_forms fs = list_all is_form fs

-- two parts, by which form they have
abbrev pub joined : Bool → Term → Term → Term
joined true c d = conjunction c d
joined false c d = disjunction c d

abbrev pub filled : Bool → List ℕ → Term → Term
filled true r c = existential r c
filled false r c = universal r c

-- the form with a term at its place, and `top` for what is to come
abbrev pub plug_one : Form → Term → Term
plug_one negated t = negation t
plug_one (first_part k) t = joined k t top
plug_one (second_part k c) t = joined k c t
plug_one (filler k r) t = filled k r t

abbrev pub join_word : Bool → List ℕ
join_word true = codes "(and "
join_word false = codes "(or "

abbrev pub fill_word : Bool → List ℕ
fill_word true = codes "(some "
fill_word false = codes "(all "

-- what stands before the place, and what comes after it
abbrev pub opening : Form → List ℕ
opening negated = codes "(not "
opening (first_part k) = join_word k
opening (second_part k c) = join_word k ++ (term_text c ++ 32 ∷ [])
opening (filler k r) = fill_word k ++ (r ++ 32 ∷ [])

abbrev pub closing : Form → List ℕ
closing (first_part k) = codes " top)"
closing f = 41 ∷ []

-- all forms, the innermost first
abbrev pub plug : List Form → Term → Term
plug [] t = t
plug (f ∷ fs) t = plug fs (plug_one f t)

abbrev pub before : List Form → List ℕ
before [] = []
before (f ∷ fs) = before fs ++ opening f

abbrev pub behind : List Form → List ℕ
behind [] = []
behind (f ∷ fs) = closing f ++ behind fs

-- (xs ++ y ∷ ys) ++ zs as xs ++ y ∷ [] and the rest
regroup : (xs : List ℕ) (y : ℕ) (ys zs : List ℕ) → (xs ++ y ∷ ys) ++ zs ≡ (xs ++ y ∷ []) ++ (ys ++ zs)
regroup xs y ys zs = append_assoc xs (y ∷ ys) zs ∙ sym (append_assoc xs (y ∷ []) (ys ++ zs))

pub joined-text : (k : Bool) (c d : Term) → term_text (joined k c d) ≡ (join_word k ++ (term_text c ++ 32 ∷ [])) ++ (term_text d ++ 41 ∷ [])
joined-text true c d = ap (λ l. codes "(and " ++ l) (regroup (term_text c) 32 (term_text d) (41 ∷ []))
joined-text false c d = ap (λ l. codes "(or " ++ l) (regroup (term_text c) 32 (term_text d) (41 ∷ []))

pub filled-text : (k : Bool) (r : List ℕ) (d : Term) → term_text (filled k r d) ≡ (fill_word k ++ (r ++ 32 ∷ [])) ++ (term_text d ++ 41 ∷ [])
filled-text true r d = ap (λ l. codes "(some " ++ l) (regroup r 32 (term_text d) (41 ∷ []))
filled-text false r d = ap (λ l. codes "(all " ++ l) (regroup r 32 (term_text d) (41 ∷ []))

pub plug_one-text : (f : Form) (t : Term) → term_text (plug_one f t) ≡ opening f ++ (term_text t ++ closing f)
plug_one-text negated t = refl
plug_one-text (first_part true) t = ap (λ l. codes "(and " ++ l) (append_assoc (term_text t) (codes " top") (41 ∷ []))
plug_one-text (first_part false) t = ap (λ l. codes "(or " ++ l) (append_assoc (term_text t) (codes " top") (41 ∷ []))
plug_one-text (second_part k c) t = joined-text k c t
plug_one-text (filler k r) t = filled-text k r t

pub plug_one-written : (f : Form) (t : Term) → is_form f ≡ true → is_written t ≡ true → is_written (plug_one f t) ≡ true
plug_one-written negated t hf ht = ht
plug_one-written (first_part true) t hf ht = both_of (is_written t) true ht refl
plug_one-written (first_part false) t hf ht = both_of (is_written t) true ht refl
plug_one-written (second_part true c) t hf ht = both_of (is_written c) (is_written t) hf ht
plug_one-written (second_part false c) t hf ht = both_of (is_written c) (is_written t) hf ht
plug_one-written (filler true r) t hf ht = both_of (names_a_thing r) (is_written t) hf ht
plug_one-written (filler false r) t hf ht = both_of (names_a_thing r) (is_written t) hf ht

pub plug-text : (fs : List Form) (t : Term) → term_text (plug fs t) ≡ before fs ++ (term_text t ++ behind fs)
plug-text [] t = sym (append-nil (term_text t))
plug-text (f ∷ fs) t =
    plug-text fs (plug_one f t)
    ∙ ap (λ l. before fs ++ (l ++ behind fs)) (plug_one-text f t)
    ∙ ap (λ l. before fs ++ l) (append_assoc (opening f) (term_text t ++ closing f) (behind fs) ∙ ap (λ l. opening f ++ l) (append_assoc (term_text t) (closing f) (behind fs)))
    ∙ sym (append_assoc (before fs) (opening f) (term_text t ++ (closing f ++ behind fs)))

pub plug-written : (fs : List Form) (t : Term) → are_forms fs ≡ true → is_written t ≡ true → is_written (plug fs t) ≡ true
plug-written [] t hf ht = ht
plug-written (f ∷ fs) t hf ht =
    plug-written fs (plug_one f t) (right_of (is_form f) (are_forms fs) hf) (plug_one-written f t (left_of (is_form f) (are_forms fs) hf) ht)

-- the beginning of a term, where one may stand, is the beginning of a text
pub viable : (fs : List Form) (t : Term) (front w more : List ℕ) → are_forms fs ≡ true → is_written t ≡ true → front ≡ before fs ++ w → term_text t ≡ w ++ more → Begins IsConceptText front
viable fs t front w more hf ht is spelt = (
  more ++ behind fs,
  (
    plug fs t,
    record {
      written = plug-written fs t hf ht;
      text_is =
          ap (λ l. l ++ (more ++ behind fs)) is
          ∙ append_assoc (before fs) w (more ++ behind fs)
          ∙ ap (λ l. before fs ++ l) (sym (append_assoc w more (behind fs)) ∙ ap (λ l. l ++ behind fs) (sym spelt))
          ∙ sym (plug-text fs t);
    },
  ),
)

-- a word that may still become a name
abbrev pub IsFront : List ℕ → Type 0
IsFront w = (w ≡ []) ⊎ IsNamelike w

list_all-front : (v w : List ℕ) → list_all is_byte_of_name v ≡ true → list_all is_byte_of_name w ≡ true → list_all is_byte_of_name (v ++ w) ≡ true
list_all-front [] w hv hw = hw
list_all-front (a ∷ rest) w hv hw =
    both_of (is_byte_of_name a) (list_all is_byte_of_name (rest ++ w)) (left_of (is_byte_of_name a) (list_all is_byte_of_name rest) hv) (list_all-front rest w (right_of (is_byte_of_name a) (list_all is_byte_of_name rest) hv) hw)

front-bytes : (w : List ℕ) → IsFront w → list_all is_byte_of_name w ≡ true
front-bytes w h = elim h [ inl e ↦ ap (list_all is_byte_of_name) e | inr n ↦ n.bytes ]

pub IsNamelike-extends : (w : List ℕ) (b : ℕ) → IsFront w → extends w b ≡ true → IsNamelike (w ++ b ∷ [])
IsNamelike-extends w b h e =
    let front = left_of (is_byte_of_name b && nat_lt (length w) longest_name) (begins_with_letter (w ++ b ∷ [])) e in
    let byte = left_of (is_byte_of_name b) (nat_lt (length w) longest_name) front in
    let short : length w < 64 = ltb-true (length w) 64 (right_of (is_byte_of_name b) (nat_lt (length w) longest_name) front) in
    record {
      letter = right_of (is_byte_of_name b && nat_lt (length w) longest_name) (begins_with_letter (w ++ b ∷ [])) e;
      bytes = list_all-front w (b ∷ []) (front-bytes w h) (both_of (is_byte_of_name b) true byte refl);
      short = omega (arith, length-append w (b ∷ []));
    }

-- a reserved word with one more letter is a name
reserved-longer : (words : List (List ℕ)) (w : List ℕ) → list_all (λ v. names_a_thing (v ++ 97 ∷ [])) words ≡ true → list_any (bytes_eq w) words ≡ true → names_a_thing (w ++ 97 ∷ []) ≡ true
reserved-longer [] w all h = cc
reserved-longer (v ∷ vs) w all h =
    (elim (bytes_eq w v) as (λ t. bytes_eq w v ≡ t → t || list_any (bytes_eq w) vs ≡ true → names_a_thing (w ++ 97 ∷ []) ≡ true) [
      | true ↦ λ e _. ap (λ u. names_a_thing (u ++ 97 ∷ [])) ((bytes_eq-Decides w v).0 e) ∙ left_of (names_a_thing (v ++ 97 ∷ [])) (list_all (λ u. names_a_thing (u ++ 97 ∷ [])) vs) all
      | false ↦ λ _ more. reserved-longer vs w (right_of (names_a_thing (v ++ 97 ∷ [])) (list_all (λ u. names_a_thing (u ++ 97 ∷ [])) vs) all) more
    ]) refl h

namelike-names : (w : List ℕ) → IsNamelike w → is_reserved_word w ≡ false → names_a_thing w ≡ true
namelike-names w h free =
    both_of (begins_with_letter w && list_all is_byte_of_name w && nat_le (length w) longest_name) (not (is_reserved_word w))
    (both_of (begins_with_letter w && list_all is_byte_of_name w) (nat_le (length w) longest_name) (both_of (begins_with_letter w) (list_all is_byte_of_name w) h.letter h.bytes) (le-leb (length w) 64 h.short))
    (ap not free)

pub record Completes (w : List ℕ) : Type 0 where
  pub more : List ℕ
  pub named : names_a_thing (w ++ more) ≡ true

pub completes : (w : List ℕ) → IsFront w → Completes w
completes w h = elim h [
  | inl e ↦ record { more = 97 ∷ []; named = ap (λ v. names_a_thing (v ++ 97 ∷ [])) e }
  | inr n ↦ (elim (is_reserved_word w) as (λ t. is_reserved_word w ≡ t → Completes w) [
    | true ↦ λ r. record { more = 97 ∷ []; named = reserved-longer reserved w refl r }
    | false ↦ λ free. record { more = []; named = ap names_a_thing (append-nil w) ∙ namelike-names w n free }
  ]) refl
]

-- the beginning of the word of a form, whose bracket stands before it
pub record IsKeywordFront (w : List ℕ) : Type 0 where
  pub sample : Term
  pub written : is_written sample ≡ true
  pub more : List ℕ
  pub text_is : term_text sample ≡ 40 ∷ (w ++ more)

pub IsKeywordFront-nil : IsKeywordFront []
IsKeywordFront-nil = record { sample = negation top; written = refl; more = codes "not top)"; text_is = refl }

-- the keyword after a byte that goes on with it
continues-is : (k w : List ℕ) (b : ℕ) → continues k w b ≡ true → k ≡ (w ++ b ∷ []) ++ drop (suc (length w)) k
continues-is k w b h =
    let front = left_of (nat_lt (length w) (length k) && starts_with nat_eq k w) (slice_index k (length w) == b) h in
    let short : length w < length k = ltb-true (length w) (length k) (left_of (nat_lt (length w) (length k)) (starts_with nat_eq k w) front) in
    let same : w ≡ take (length w) k = (bytes_eq-Decides w (take (length w) k)).0 (right_of (nat_lt (length w) (length k)) (starts_with nat_eq k w) front) in
    let byte : slice_index k (length w) ≡ b = eqb-true (slice_index k (length w)) b (right_of (nat_lt (length w) (length k) && starts_with nat_eq k w) (slice_index k (length w) == b) h) in
    sym (take-append-drop (length w) k)
    ∙ ap (λ l. l ++ drop (length w) k) (sym same)
    ∙ ap (λ l. w ++ l) (drop-cons k (length w) 0 short)
    ∙ ap (λ c. w ++ c ∷ drop (suc (length w)) k) byte
    ∙ sym (append_assoc w (b ∷ []) (drop (suc (length w)) k))

keyword_front : (k w : List ℕ) (b : ℕ) (t : Term) (tail : List ℕ) → is_written t ≡ true → term_text t ≡ 40 ∷ (k ++ tail) → continues k w b ≡ true → IsKeywordFront (w ++ b ∷ [])
keyword_front k w b t tail ht is h = record {
  sample = t;
  written = ht;
  more = drop (suc (length w)) k ++ tail;
  text_is = is ∙ ap (λ (l : List ℕ). 40 ∷ l) (ap (λ l. l ++ tail) (continues-is k w b h) ∙ append_assoc (w ++ b ∷ []) (drop (suc (length w)) k) tail);
}

pub or_cases : (a b : Bool) (P : Type 0) → (a ≡ true → P) → (b ≡ true → P) → a || b ≡ true → P
or_cases true b P f g h = f refl
or_cases false b P f g h = g h

pub IsKeywordFront-continues : (w : List ℕ) (b : ℕ) → continues_keyword w b ≡ true → IsKeywordFront (w ++ b ∷ [])
IsKeywordFront-continues w b h =
    let P = IsKeywordFront (w ++ b ∷ []) in
    or_cases (continues (codes "not") w b) _ P (keyword_front (codes "not") w b (negation top) (codes " top)") refl refl)
    (or_cases (continues (codes "and") w b) _ P (keyword_front (codes "and") w b (conjunction top top) (codes " top top)") refl refl)
    (or_cases (continues (codes "or") w b) _ P (keyword_front (codes "or") w b (disjunction top top) (codes " top top)") refl refl)
    (or_cases (continues (codes "some") w b) _ P (keyword_front (codes "some") w b (existential (codes "a") top) (codes " a top)") refl refl)
    (or_cases (continues (codes "all") w b) _ P (keyword_front (codes "all") w b (universal (codes "a") top) (codes " a top)") refl refl)
    (λ e. absurd (false≢true e)))))) h

-- a word that is a concept
pub record IsLeafOf (w : List ℕ) : Type 0 where
  pub leaf : Term
  pub written : is_written leaf ≡ true
  pub text_is : w ≡ term_text leaf

pub leaf_of : (w : List ℕ) → is_leaf w ≡ true → IsLeafOf w
leaf_of w h =
    or_cases (bytes_eq w (codes "top") || bytes_eq w (codes "bottom")) (names_a_thing w) (IsLeafOf w)
    (or_cases (bytes_eq w (codes "top")) (bytes_eq w (codes "bottom")) (IsLeafOf w)
    (λ e. record { leaf = top; written = refl; text_is = (bytes_eq-Decides w (codes "top")).0 e })
    (λ e. record { leaf = bottom; written = refl; text_is = (bytes_eq-Decides w (codes "bottom")).0 e }))
    (λ e. record { leaf = atomic w; written = e; text_is = refl }) h
