-- The automaton reads the text of each term: it passes its nodes and knows its depth.
use Rattle.std.proofs.Common.{◌≡◌, ℕ, suc, ◌+◌, ◌≤◌, max, Bool, true, false, List, [], ◌∷◌, ◌++◌, length, refl, sym, ap, ◌∙◌, subst, arith, append_assoc, length-append}
use Rattle.std.specs.Prelude.{Option, Some, None, ◌&&◌, ◌||◌, ◌==◌, nat_lt, nat_le, if◌then◌else◌, codes, not}
use Rattle.std.specs.List.{list_all}
use Rattle.std.specs.Char.{is_ascii_alphabetic}
use Rattle.std.specs.Str.{bytes_eq}
use Rattle.std.proofs.lemmas.Bool.{false≢true, eqb-true, lt-ltb, leb-true}
use Rattle.std.proofs.lemmas.List.{append-nil}
use Rattle.std.proofs.lemmas.Slice.Eq.{bytes_eq-Decides}
use Rattle.dd_text.specs.Names.{names_a_thing, is_byte_of_name, begins_with_letter, longest_name, is_reserved_word}
use Rattle.dd_text.specs.Grammar.{Term, top, bottom, atomic, negation, conjunction, disjunction, existential, universal, term_text, term_depth, is_written, spaced}
use Rattle.dd_text.specs.declared.grammar.Mode.{Mode}
use Rattle.dd_text.specs.declared.grammar.Mode.TheVariants as mode
use Rattle.dd_text.specs.declared.grammar.Frame.{Frame}
use Rattle.dd_text.specs.declared.grammar.Frame.TheVariants as frame
use Rattle.dd_text.specs.declared.grammar.Sign.{Sign}
use Rattle.dd_text.specs.declared.grammar.Sign.TheVariants as sign
use Rattle.dd_text.specs.declared.grammar.Scan.{Scan}
use Rattle.dd_text.specs.Automaton.{after, extends, finished, is_leaf, leaf_sign, reach, signs_of, step, with_leaf, with_form}

abbrev pub state : Mode → List ℕ → List Frame → List Sign → ℕ → Scan
state m w fs sg d = record { mode = m; word = w; stack = fs; signs = sg; depth = d }

-- what ends a word: the end, or a byte of no name
abbrev pub EndsWord : List ℕ → Type 0
EndsWord [] = Unit {0}
EndsWord (b ∷ bs) = is_byte_of_name b ≡ false

-- the form of a name, or of a reserved word
pub record IsNamelike (w : List ℕ) : Type 0 where
  pub letter : begins_with_letter w ≡ true
  pub bytes : list_all is_byte_of_name w ≡ true
  pub short : length w ≤ 64

-- the parts of a conjunction of tests
pub left_of : (a b : Bool) → a && b ≡ true → a ≡ true
left_of true b h = refl
left_of false b h = h

pub right_of : (a b : Bool) → a && b ≡ true → b ≡ true
right_of true b h = h
right_of false b h = cc

pub both_of : (a b : Bool) → a ≡ true → b ≡ true → a && b ≡ true
both_of a b ha hb = ap (λ t. t && b) ha ∙ hb

pub no_left : (a b : Bool) → a ≡ false → a && b ≡ false
no_left a b ha = ap (λ t. t && b) ha

pub IsNamelike-names : (w : List ℕ) → names_a_thing w ≡ true → IsNamelike w
IsNamelike-names w h =
    let front = left_of (begins_with_letter w && list_all is_byte_of_name w && nat_le (length w) longest_name) (not (is_reserved_word w)) h in
    let form = left_of (begins_with_letter w && list_all is_byte_of_name w) (nat_le (length w) longest_name) front in
    record {
      letter = left_of (begins_with_letter w) (list_all is_byte_of_name w) form;
      bytes = right_of (begins_with_letter w) (list_all is_byte_of_name w) form;
      short = leb-true (length w) 64 (right_of (begins_with_letter w && list_all is_byte_of_name w) (nat_le (length w) longest_name) front);
    }

-- steps of the automaton
pub reach-step : (s t : Scan) (b : ℕ) (bs : List ℕ) → step s b ≡ Some t → reach s (b ∷ bs) ≡ reach t bs
reach-step s t b bs h =
    ap (λ (o : Option Scan). (elim o as (λ _. Scan × List ℕ) [ None ↦ (finished s, b ∷ bs) | Some next ↦ reach next bs ])) h

pub reach-same : (s t : Scan) (b : ℕ) (bs : List ℕ) → finished s ≡ finished t → step s b ≡ step t b → reach s (b ∷ bs) ≡ reach t (b ∷ bs)
reach-same s t b bs hf hs =
    ap (λ (o : Option Scan). (elim o as (λ _. Scan × List ℕ) [ None ↦ (finished s, b ∷ bs) | Some next ↦ reach next bs ])) hs
    ∙ ap (λ (f : Scan). (elim (step t b) as (λ _. Scan × List ℕ) [ None ↦ (f, b ∷ bs) | Some next ↦ reach next bs ])) hf

begins-same : (v : List ℕ) (b : ℕ) (bs : List ℕ) → begins_with_letter (v ++ b ∷ []) ≡ begins_with_letter (v ++ b ∷ bs)
begins-same [] b bs = refl
begins-same (a ∷ rest) b bs = refl

list_all-middle : (v : List ℕ) (b : ℕ) (bs : List ℕ) → list_all is_byte_of_name (v ++ b ∷ bs) ≡ true → is_byte_of_name b ≡ true
list_all-middle [] b bs h = left_of (is_byte_of_name b) (list_all is_byte_of_name bs) h
list_all-middle (a ∷ rest) b bs h = list_all-middle rest b bs (right_of (is_byte_of_name a) (list_all is_byte_of_name (rest ++ b ∷ bs)) h)

pub extends-of : (v : List ℕ) (b : ℕ) (bs : List ℕ) → IsNamelike (v ++ b ∷ bs) → extends v b ≡ true
extends-of v b bs h =
    both_of (is_byte_of_name b && nat_lt (length v) longest_name) (begins_with_letter (v ++ b ∷ []))
    (both_of (is_byte_of_name b) (nat_lt (length v) longest_name) (list_all-middle v b bs h.bytes)
    (lt-ltb (length v) 64 (omega (arith, length-append v (b ∷ bs), h.short))))
    (begins-same v b bs ∙ h.letter)

pub extends-no : (v : List ℕ) (b : ℕ) → is_byte_of_name b ≡ false → extends v b ≡ false
extends-no v b h =
    no_left (is_byte_of_name b && nat_lt (length v) longest_name) (begins_with_letter (v ++ b ∷ [])) (no_left (is_byte_of_name b) (nat_lt (length v) longest_name) h)

-- the modes in which a word grows
pub grows-Word : (v : List ℕ) (b : ℕ) (fs : List Frame) (sg : List Sign) (d : ℕ) → extends v b ≡ true → step (state mode.Word v fs sg d) b ≡ Some (state mode.Word (v ++ b ∷ []) fs sg d)
grows-Word v b fs sg d h =
    ap (λ t. if t then Some (state mode.Word (v ++ b ∷ []) fs sg d) else (if is_leaf v then after (with_leaf (state mode.Word v fs sg d)) fs b else None)) h

pub grows-SomeRole : (v : List ℕ) (b : ℕ) (fs : List Frame) (sg : List Sign) (d : ℕ) → extends v b ≡ true → step (state mode.SomeRole v fs sg d) b ≡ Some (state mode.SomeRole (v ++ b ∷ []) fs sg d)
grows-SomeRole v b fs sg d h =
    ap (λ t. if t then Some (state mode.SomeRole (v ++ b ∷ []) fs sg d) else (if (b == 32) && names_a_thing v then Some (with_form (state mode.SomeRole v fs sg d) (sign.HasSome v) frame.Last) else None)) h

pub grows-AllRole : (v : List ℕ) (b : ℕ) (fs : List Frame) (sg : List Sign) (d : ℕ) → extends v b ≡ true → step (state mode.AllRole v fs sg d) b ≡ Some (state mode.AllRole (v ++ b ∷ []) fs sg d)
grows-AllRole v b fs sg d h =
    ap (λ t. if t then Some (state mode.AllRole (v ++ b ∷ []) fs sg d) else (if (b == 32) && names_a_thing v then Some (with_form (state mode.AllRole v fs sg d) (sign.HasAll v) frame.Last) else None)) h

module _ (m : Mode) (fs : List Frame) (sg : List Sign) (d : ℕ) (grows : (v : List ℕ) (b : ℕ) → extends v b ≡ true → step (state m v fs sg d) b ≡ Some (state m (v ++ b ∷ []) fs sg d)) where
  reach-grow : (w v rest : List ℕ) → IsNamelike (v ++ w) → reach (state m v fs sg d) (w ++ rest) ≡ reach (state m (v ++ w) fs sg d) rest
  reach-grow [] v rest h = ap (λ l. reach (state m l fs sg d) rest) (sym (append-nil v))
  reach-grow (b ∷ bs) v rest h =
      let more : (v ++ b ∷ []) ++ bs ≡ v ++ b ∷ bs = append_assoc v (b ∷ []) bs in
      reach-step (state m v fs sg d) (state m (v ++ b ∷ []) fs sg d) b (bs ++ rest) (grows v b (extends-of v b bs h))
      ∙ reach-grow bs (v ++ b ∷ []) rest (subst IsNamelike (sym more) h)
      ∙ ap (λ l. reach (state m l fs sg d) rest) more

apart_from_bracket : (b : ℕ) → is_ascii_alphabetic b ≡ true → (b == 40) ≡ false
apart_from_bracket b h =
    elim (b == 40) as (λ t. (b == 40) ≡ t → t ≡ false) [
      | true ↦ λ e. absurd (false≢true (ap is_ascii_alphabetic (sym (eqb-true b 40 e)) ∙ h))
      | false ↦ λ _. refl
    ] refl

-- a word that is a concept ends
reach-end : (w : List ℕ) (fs : List Frame) (sg : List Sign) (d : ℕ) (rest : List ℕ) → is_leaf w ≡ true → EndsWord rest → reach (state mode.Word w fs sg d) rest ≡ reach (state mode.Done [] fs (sg ++ leaf_sign w ∷ []) (max d (length fs + 1))) rest
reach-end w fs sg d [] leaf ends = ap (λ (t : Bool). (if t then with_leaf (state mode.Word w fs sg d) else state mode.Word w fs sg d, [])) leaf
reach-end w fs sg d (b ∷ bs) leaf ends =
    reach-same (state mode.Word w fs sg d) (with_leaf (state mode.Word w fs sg d)) b bs
    (ap (λ (t : Bool). if t then with_leaf (state mode.Word w fs sg d) else state mode.Word w fs sg d) leaf)
    (ap (λ t. if t then Some (state mode.Word (w ++ b ∷ []) fs sg d) else (if is_leaf w then after (with_leaf (state mode.Word w fs sg d)) fs b else None)) (extends-no w b ends)
    ∙ ap (λ t. if t then after (with_leaf (state mode.Word w fs sg d)) fs b else None) leaf)

pub reach-leaf : (w : List ℕ) (fs : List Frame) (sg : List Sign) (d : ℕ) (rest : List ℕ) → IsNamelike w → is_leaf w ≡ true → EndsWord rest → reach (state mode.Concept [] fs sg d) (w ++ rest) ≡ reach (state mode.Done [] fs (sg ++ leaf_sign w ∷ []) (max d (length fs + 1))) rest
reach-leaf [] fs sg d rest h leaf ends = absurd (false≢true h.letter)
reach-leaf (b ∷ bs) fs sg d rest h leaf ends =
    reach-step (state mode.Concept [] fs sg d) (state mode.Word (b ∷ []) fs sg d) b (bs ++ rest)
    (ap (λ t. if t then Some (state mode.Keyword [] fs sg d) else (if extends [] b then Some (state mode.Word (b ∷ []) fs sg d) else None)) (apart_from_bracket b h.letter)
    ∙ ap (λ t. if t then Some (state mode.Word (b ∷ []) fs sg d) else None) (extends-of [] b bs h))
    ∙ reach-grow mode.Word fs sg d (λ v c e. grows-Word v c fs sg d e) bs (b ∷ []) rest h
    ∙ reach-end (b ∷ bs) fs sg d rest leaf ends

-- a name is no word of the language
not-reserved : (w word : List ℕ) → names_a_thing w ≡ true → is_reserved_word word ≡ true → bytes_eq w word ≡ false
not-reserved w word h r =
    elim (bytes_eq w word) as (λ t. bytes_eq w word ≡ t → t ≡ false) [
      | true ↦ λ e.
          let same : w ≡ word = (bytes_eq-Decides w word).0 e in
          let free = right_of (begins_with_letter w && list_all is_byte_of_name w && nat_le (length w) longest_name) (not (is_reserved_word w)) h in
          absurd (false≢true (ap not (sym r) ∙ ap (λ v. not (is_reserved_word v)) (sym same) ∙ free))
      | false ↦ λ _. refl
    ] refl

or-right : (a b : Bool) → b ≡ true → a || b ≡ true
or-right true b h = refl
or-right false b h = h

pub is_leaf-name : (w : List ℕ) → names_a_thing w ≡ true → is_leaf w ≡ true
is_leaf-name w h = or-right (bytes_eq w (codes "top") || bytes_eq w (codes "bottom")) (names_a_thing w) h

pub leaf_sign-name : (w : List ℕ) → names_a_thing w ≡ true → leaf_sign w ≡ sign.Name w
leaf_sign-name w h =
    ap (λ t. if t then sign.Top else (if bytes_eq w (codes "bottom") then sign.Bottom else sign.Name w)) (not-reserved w (codes "top") h refl)
    ∙ ap (λ t. if t then sign.Bottom else sign.Name w) (not-reserved w (codes "bottom") h refl)

-- a role and the space after it
reach-SomeRole : (r : List ℕ) (fs : List Frame) (sg : List Sign) (d : ℕ) (rest : List ℕ) → names_a_thing r ≡ true → reach (state mode.SomeRole [] fs sg d) (r ++ 32 ∷ rest) ≡ reach (state mode.Concept [] (frame.Last ∷ fs) (sg ++ sign.HasSome r ∷ []) d) rest
reach-SomeRole r fs sg d rest h =
    reach-grow mode.SomeRole fs sg d (λ v c e. grows-SomeRole v c fs sg d e) r [] (32 ∷ rest) (IsNamelike-names r h)
    ∙ reach-step (state mode.SomeRole r fs sg d) (state mode.Concept [] (frame.Last ∷ fs) (sg ++ sign.HasSome r ∷ []) d) 32 rest
    (ap (λ t. if t then Some (state mode.SomeRole (r ++ 32 ∷ []) fs sg d) else (if names_a_thing r then Some (with_form (state mode.SomeRole r fs sg d) (sign.HasSome r) frame.Last) else None)) (extends-no r 32 refl)
    ∙ ap (λ t. if t then Some (with_form (state mode.SomeRole r fs sg d) (sign.HasSome r) frame.Last) else None) h)

reach-AllRole : (r : List ℕ) (fs : List Frame) (sg : List Sign) (d : ℕ) (rest : List ℕ) → names_a_thing r ≡ true → reach (state mode.AllRole [] fs sg d) (r ++ 32 ∷ rest) ≡ reach (state mode.Concept [] (frame.Last ∷ fs) (sg ++ sign.HasAll r ∷ []) d) rest
reach-AllRole r fs sg d rest h =
    reach-grow mode.AllRole fs sg d (λ v c e. grows-AllRole v c fs sg d e) r [] (32 ∷ rest) (IsNamelike-names r h)
    ∙ reach-step (state mode.AllRole r fs sg d) (state mode.Concept [] (frame.Last ∷ fs) (sg ++ sign.HasAll r ∷ []) d) 32 rest
    (ap (λ t. if t then Some (state mode.AllRole (r ++ 32 ∷ []) fs sg d) else (if names_a_thing r then Some (with_form (state mode.AllRole r fs sg d) (sign.HasAll r) frame.Last) else None)) (extends-no r 32 refl)
    ∙ ap (λ t. if t then Some (with_form (state mode.AllRole r fs sg d) (sign.HasAll r) frame.Last) else None) h)

-- the state after a concept, from equal signs and an equal depth
reach-Done : (fs : List Frame) (sg sg' : List Sign) (d d' : ℕ) (rest : List ℕ) → sg ≡ sg' → d ≡ d' → reach (state mode.Done [] fs sg d) rest ≡ reach (state mode.Done [] fs sg' d') rest
reach-Done fs sg sg' d d' rest es ed = ap (λ l. reach (state mode.Done [] fs l d) rest) es ∙ ap (λ n. reach (state mode.Done [] fs sg' n) rest) ed

-- what a term adds where it stands
abbrev pub ReadsTerm : Term → Type 0
ReadsTerm t = (fs : List Frame) (sg : List Sign) (d : ℕ) (rest : List ℕ) → EndsWord rest
    → reach (state mode.Concept [] fs sg d) (term_text t ++ rest) ≡ reach (state mode.Done [] fs (sg ++ signs_of t) (max d (length fs + term_depth t))) rest

-- the last part of a form, and its bracket
reach-last : (c : Term) → ReadsTerm c → (fs : List Frame) (sg : List Sign) (d : ℕ) (rest : List ℕ)
    → reach (state mode.Concept [] (frame.Last ∷ fs) sg d) ((term_text c ++ 41 ∷ []) ++ rest) ≡ reach (state mode.Done [] fs (sg ++ signs_of c) (max d (suc (length fs) + term_depth c))) rest
reach-last c reads fs sg d rest =
    ap (reach (state mode.Concept [] (frame.Last ∷ fs) sg d)) (append_assoc (term_text c) (41 ∷ []) rest)
    ∙ reads (frame.Last ∷ fs) sg d (41 ∷ rest) refl

-- two parts of a form
reach-parts : (c e : Term) → ReadsTerm c → ReadsTerm e → (fs : List Frame) (sg : List Sign) (d : ℕ) (rest : List ℕ)
    → reach (state mode.Concept [] (frame.First ∷ fs) sg d) ((spaced (term_text c) (term_text e) ++ 41 ∷ []) ++ rest) ≡ reach (state mode.Done [] fs ((sg ++ signs_of c) ++ signs_of e) (max (max d (suc (length fs) + term_depth c)) (suc (length fs) + term_depth e))) rest
reach-parts c e reads_c reads_e fs sg d rest =
    ap (reach (state mode.Concept [] (frame.First ∷ fs) sg d)) (ap (λ l. l ++ rest) (append_assoc (term_text c) (32 ∷ term_text e) (41 ∷ [])) ∙ append_assoc (term_text c) (32 ∷ (term_text e ++ 41 ∷ [])) rest)
    ∙ reads_c (frame.First ∷ fs) sg d (32 ∷ ((term_text e ++ 41 ∷ []) ++ rest)) refl
    ∙ reach-last e reads_e fs (sg ++ signs_of c) (max d (suc (length fs) + term_depth c)) rest

-- a role and the last part of a form
reach-SomeRole-last : (r : List ℕ) (c : Term) → names_a_thing r ≡ true → ReadsTerm c → (fs : List Frame) (sg : List Sign) (d : ℕ) (rest : List ℕ)
    → reach (state mode.SomeRole [] fs sg d) ((spaced r (term_text c) ++ 41 ∷ []) ++ rest) ≡ reach (state mode.Done [] fs ((sg ++ sign.HasSome r ∷ []) ++ signs_of c) (max d (suc (length fs) + term_depth c))) rest
reach-SomeRole-last r c named reads fs sg d rest =
    ap (reach (state mode.SomeRole [] fs sg d)) (ap (λ l. l ++ rest) (append_assoc r (32 ∷ term_text c) (41 ∷ [])) ∙ append_assoc r (32 ∷ (term_text c ++ 41 ∷ [])) rest)
    ∙ reach-SomeRole r fs sg d ((term_text c ++ 41 ∷ []) ++ rest) named
    ∙ reach-last c reads fs (sg ++ sign.HasSome r ∷ []) d rest

reach-AllRole-last : (r : List ℕ) (c : Term) → names_a_thing r ≡ true → ReadsTerm c → (fs : List Frame) (sg : List Sign) (d : ℕ) (rest : List ℕ)
    → reach (state mode.AllRole [] fs sg d) ((spaced r (term_text c) ++ 41 ∷ []) ++ rest) ≡ reach (state mode.Done [] fs ((sg ++ sign.HasAll r ∷ []) ++ signs_of c) (max d (suc (length fs) + term_depth c))) rest
reach-AllRole-last r c named reads fs sg d rest =
    ap (reach (state mode.AllRole [] fs sg d)) (ap (λ l. l ++ rest) (append_assoc r (32 ∷ term_text c) (41 ∷ [])) ∙ append_assoc r (32 ∷ (term_text c ++ 41 ∷ [])) rest)
    ∙ reach-AllRole r fs sg d ((term_text c ++ 41 ∷ []) ++ rest) named
    ∙ reach-last c reads fs (sg ++ sign.HasAll r ∷ []) d rest

depth_one : (d n k : ℕ) → max d (suc n + k) ≡ max d (n + (k + 1))
depth_one d n k = let same : suc n + k ≡ n + (k + 1) = omega arith in ap (max d) same

depth_two : (d n k m : ℕ) → max (max d (suc n + k)) (suc n + m) ≡ max d (n + (max k m + 1))
depth_two d n k m = omega arith

-- the automaton reads each written term
pub reach-term : (t : Term) → is_written t ≡ true → ReadsTerm t
reach-term top h fs sg d rest ends = reach-leaf (codes "top") fs sg d rest (record { letter = refl; bytes = refl; short = omega arith }) refl ends
reach-term bottom h fs sg d rest ends = reach-leaf (codes "bottom") fs sg d rest (record { letter = refl; bytes = refl; short = omega arith }) refl ends
reach-term (atomic a) h fs sg d rest ends =
    reach-leaf a fs sg d rest (IsNamelike-names a h) (is_leaf-name a h) ends
    ∙ ap (λ s. reach (state mode.Done [] fs (sg ++ s ∷ []) (max d (length fs + 1))) rest) (leaf_sign-name a h)
reach-term (negation c) h fs sg d rest ends =
    reach-last c (reach-term c h) fs (sg ++ sign.Not ∷ []) d rest
    ∙ reach-Done fs _ _ _ _ rest (append_assoc sg (sign.Not ∷ []) (signs_of c)) (depth_one d (length fs) (term_depth c))
reach-term (conjunction c e) h fs sg d rest ends =
    reach-parts c e (reach-term c (left_of (is_written c) (is_written e) h)) (reach-term e (right_of (is_written c) (is_written e) h)) fs (sg ++ sign.And ∷ []) d rest
    ∙ reach-Done fs _ _ _ _ rest (append_assoc (sg ++ sign.And ∷ []) (signs_of c) (signs_of e) ∙ append_assoc sg (sign.And ∷ []) (signs_of c ++ signs_of e)) (depth_two d (length fs) (term_depth c) (term_depth e))
reach-term (disjunction c e) h fs sg d rest ends =
    reach-parts c e (reach-term c (left_of (is_written c) (is_written e) h)) (reach-term e (right_of (is_written c) (is_written e) h)) fs (sg ++ sign.Or ∷ []) d rest
    ∙ reach-Done fs _ _ _ _ rest (append_assoc (sg ++ sign.Or ∷ []) (signs_of c) (signs_of e) ∙ append_assoc sg (sign.Or ∷ []) (signs_of c ++ signs_of e)) (depth_two d (length fs) (term_depth c) (term_depth e))
reach-term (existential r c) h fs sg d rest ends =
    reach-SomeRole-last r c (left_of (names_a_thing r) (is_written c) h) (reach-term c (right_of (names_a_thing r) (is_written c) h)) fs sg d rest
    ∙ reach-Done fs _ _ _ _ rest (append_assoc sg (sign.HasSome r ∷ []) (signs_of c)) (depth_one d (length fs) (term_depth c))
reach-term (universal r c) h fs sg d rest ends =
    reach-AllRole-last r c (left_of (names_a_thing r) (is_written c) h) (reach-term c (right_of (names_a_thing r) (is_written c) h)) fs sg d rest
    ∙ reach-Done fs _ _ _ _ rest (append_assoc sg (sign.HasAll r ∷ []) (signs_of c)) (depth_one d (length fs) (term_depth c))
