-- Where the text of an axiom leaves the grammar: in its head, in a side, or after its end.
use Rattle.std.proofs.Common.{◌≡◌, ℕ, suc, ◌+◌, ◌<◌, ◌≤◌, true, false, cond, List, [], ◌∷◌, ◌++◌, length, take, drop, refl, sym, ap, ◌∙◌, subst, arith, append_assoc, length-append, length-drop, length-take}
use Rattle.std.specs.Prelude.{codes, nat_eq}
use Rattle.std.specs.List.{common_prefix_len}
use Rattle.std.proofs.lemmas.Bool.{eqb-true}
use Rattle.std.proofs.lemmas.List.{append-nil, take-append-le, take-append-drop}
use Rattle.std.proofs.lemmas.List.Sums.{common_prefix_len-le}
use Rattle.dd_text.specs.Names.{is_byte_of_name}
use Rattle.dd_text.specs.Grammar.{Term, top, term_text, axiom_text, is_written, IsConceptText, IsAxiomText, Begins, IsBadAt}
use Rattle.dd_text.specs.declared.grammar.Scan.{Scan}
use Rattle.dd_text.specs.Automaton.{reach, start}
use Rattle.dd_text.specs.Parts.{Leaves, axiom_head}
use Rattle.dd_text.proofs.Verdicts.{Begins-take, whole_state, reach-whole, bad-at}

-- the head, and the sides up to the last bracket
pub axiom-split : (l r : Term) → axiom_text l r ≡ axiom_head ++ (term_text l ++ 32 ∷ (term_text r ++ 41 ∷ []))
axiom-split l r = ap (λ x. axiom_head ++ x) (append_assoc (term_text l) (32 ∷ term_text r) (41 ∷ []))

-- a concept before a byte that ends words is followed by one rest
pub split-unique : (end : ℕ) → is_byte_of_name end ≡ false → (t u : Term) → is_written t ≡ true → is_written u ≡ true → (x y : List ℕ) → term_text t ++ end ∷ x ≡ term_text u ++ end ∷ y → x ≡ y
split-unique end ends t u ht hu x y e =
    let both : ◌≡◌ {A = Scan × List ℕ} (whole_state t, end ∷ x) (whole_state u, end ∷ y) = sym (reach-whole t (end ∷ x) ht ends) ∙ ap (reach start) e ∙ reach-whole u (end ∷ y) hu ends in
    let tails : end ∷ x ≡ end ∷ y = ap (λ (p : Scan × List ℕ). p.1) both in
    cc

drop-head : (x : List ℕ) → drop 9 (axiom_head ++ x) ≡ x
drop-head x = refl

cancel-head : (x y : List ℕ) → axiom_head ++ x ≡ axiom_head ++ y → x ≡ y
cancel-head x y e = ap (drop 9) e

-- the common front of two lists
common-take : (xs ys : List ℕ) → take (common_prefix_len nat_eq xs ys) ys ≡ take (common_prefix_len nat_eq xs ys) xs
common-take [] ys = refl
common-take (x ∷ xs) [] = refl
common-take (x ∷ xs) (y ∷ ys) =
    elim (nat_eq x y) as (λ b. nat_eq x y ≡ b → take (cond b (1 + common_prefix_len nat_eq xs ys) 0) (y ∷ ys) ≡ take (cond b (1 + common_prefix_len nat_eq xs ys) 0) (x ∷ xs)) [
      | true ↦ λ e.
          subst (λ k. take k (y ∷ ys) ≡ take k (x ∷ xs)) (suc_is (common_prefix_len nat_eq xs ys))
          (ap (λ c. c ∷ take (common_prefix_len nat_eq xs ys) ys) (sym (eqb-true x y e)) ∙ ap (λ (l : List ℕ). x ∷ l) (common-take xs ys))
      | false ↦ λ _. refl
    ] refl
  where
    suc_is : (n : ℕ) → suc n ≡ 1 + n
    suc_is n = omega arith

-- the first byte that differs ends the common front, whatever comes after it
common-stuck : (xs ys : List ℕ) (b : ℕ) (bs more : List ℕ) → common_prefix_len nat_eq xs ys < length xs → drop (common_prefix_len nat_eq xs ys) ys ≡ b ∷ bs
    → common_prefix_len nat_eq xs (take (common_prefix_len nat_eq xs ys) ys ++ b ∷ more) ≡ common_prefix_len nat_eq xs ys
common-stuck [] ys b bs more short h = refl
common-stuck (x ∷ xs) [] b bs more short h = cc
common-stuck (x ∷ xs) (y ∷ ys) b bs more short h =
    (elim (nat_eq x y) as (λ t. nat_eq x y ≡ t → cond t (1 + common_prefix_len nat_eq xs ys) 0 < suc (length xs) → drop (cond t (1 + common_prefix_len nat_eq xs ys) 0) (y ∷ ys) ≡ b ∷ bs
    → common_prefix_len nat_eq (x ∷ xs) (take (cond t (1 + common_prefix_len nat_eq xs ys) 0) (y ∷ ys) ++ b ∷ more) ≡ cond t (1 + common_prefix_len nat_eq xs ys) 0) [
      | true ↦ λ e short h.
          let n = common_prefix_len nat_eq xs ys in
          let is : 1 + n ≡ suc n = omega arith in
          ap (λ k. common_prefix_len nat_eq (x ∷ xs) (take k (y ∷ ys) ++ b ∷ more)) is
          ∙ ap (λ t. cond t (1 + common_prefix_len nat_eq xs (take n ys ++ b ∷ more)) 0) e
          ∙ ap (λ k. 1 + k) (common-stuck xs ys b bs more (omega arith) (subst (λ k. drop k (y ∷ ys) ≡ b ∷ bs) is h))
      | false ↦ λ e short h.
          let same : y ≡ b = cc in
          ap (λ t. cond t (1 + common_prefix_len nat_eq xs more) 0) (ap (nat_eq x) (sym same) ∙ e)
    ]) refl short h

-- the text leaves the grammar in its head
pub head-fails : (text : List ℕ) → common_prefix_len nat_eq axiom_head text < 9 → IsBadAt IsAxiomText text (common_prefix_len nat_eq axiom_head text + 1)
head-fails text short =
    let n = common_prefix_len nat_eq axiom_head text in
    let bounds = common_prefix_len-le nat_eq axiom_head text in
    let some : Begins IsAxiomText (axiom_text top top) = ([], (top, top, record { left_written = refl; right_written = refl; text_is = refl })) in
    let front : take n text ≡ take n (axiom_text top top) = common-take axiom_head text ∙ sym (take-append-le n axiom_head (codes "top top)") (omega arith)) in
    subst (λ k. IsBadAt IsAxiomText text (k + 1)) (omega (arith, length-take n text, bounds.1))
    (bad-at IsAxiomText text (take n text) (drop n text) (sym (take-append-drop n text))
    (subst (Begins IsAxiomText) (sym front) (Begins-take IsAxiomText n (axiom_text top top) some))
    (λ (l, r, spelt).
    let whole : n ≡ 9 = ap (common_prefix_len nat_eq axiom_head) (spelt.text_is ∙ axiom-split l r) in
    omega arith)
    (λ b bs rest_is begun.
    let more = begun.0 in
    let spelt = begun.1.2 in
    let whole : n ≡ 9 = sym (common-stuck axiom_head text b bs more short rest_is) ∙ ap (common_prefix_len nat_eq axiom_head) (sym (append_assoc (take n text) (b ∷ []) more) ∙ spelt.text_is ∙ axiom-split begun.1.0 begun.1.1) in
    omega arith))

-- where the head is whole
pub head-whole : (text : List ℕ) → 9 ≤ common_prefix_len nat_eq axiom_head text → text ≡ axiom_head ++ drop 9 text
head-whole text long =
    let bounds = common_prefix_len-le nat_eq axiom_head text in
    let all : common_prefix_len nat_eq axiom_head text ≡ 9 = omega (arith, bounds.0) in
    sym (take-append-drop 9 text) ∙ ap (λ l. l ++ drop 9 text) (subst (λ k. take k text ≡ take k axiom_head) all (common-take axiom_head text))

-- a text that begins with the head, and these bytes of sides
pub begins-left : (read : List ℕ) → Begins IsConceptText read → Begins IsAxiomText (axiom_head ++ read)
begins-left read begun =
    let t = begun.1.0 in
    let spelt = begun.1.1 in (
      begun.0 ++ codes " top)",
      (
        t,
        top,
        record {
          left_written = spelt.written;
          right_written = refl;
          text_is = ap (λ l. axiom_head ++ l) (sym (append_assoc read begun.0 (codes " top)")) ∙ ap (λ l. l ++ codes " top)") spelt.text_is) ∙ sym (axiom-split t top);
        },
      ),
    )

pub begins-right : (l : Term) (read : List ℕ) → is_written l ≡ true → Begins IsConceptText read → Begins IsAxiomText (axiom_head ++ (term_text l ++ 32 ∷ read))
begins-right l read written begun =
    let t = begun.1.0 in
    let spelt = begun.1.1 in (
      begun.0 ++ 41 ∷ [],
      (
        l,
        t,
        record {
          left_written = written;
          right_written = spelt.written;
          text_is =
              ap (λ x. axiom_head ++ x) (append_assoc (term_text l) (32 ∷ read) (begun.0 ++ 41 ∷ []) ∙ ap (λ x. term_text l ++ 32 ∷ x) (sym (append_assoc read begun.0 (41 ∷ [])) ∙ ap (λ x. x ++ 41 ∷ []) spelt.text_is))
              ∙ sym (axiom-split l t);
        },
      ),
    )

-- what follows the head of an axiom's text
pub sides_of : (x : List ℕ) (l r : Term) → axiom_head ++ x ≡ axiom_text l r → x ≡ term_text l ++ 32 ∷ (term_text r ++ 41 ∷ [])
sides_of x l r is = cancel-head x (term_text l ++ 32 ∷ (term_text r ++ 41 ∷ [])) (is ∙ axiom-split l r)

-- the left side leaves the grammar
pub left-fails : (text : List ℕ) (at : ℕ) → text ≡ axiom_head ++ drop 9 text → Leaves 32 (drop 9 text) at → IsBadAt IsAxiomText text (9 + at)
left-fails text at headed leaves =
    let read = axiom_head ++ leaves.read in
    subst (IsBadAt IsAxiomText text) (let e : length read + 1 ≡ 9 + at = omega (arith, length-append axiom_head leaves.read, leaves.at_is) in e)
    (bad-at IsAxiomText text read leaves.rest (headed ∙ ap (λ x. axiom_head ++ x) leaves.text_is)
    (begins-left leaves.read leaves.begins)
    (λ (l, r, spelt). leaves.outside l (term_text r ++ 41 ∷ []) spelt.left_written (sides_of (drop 9 text) l r (sym headed ∙ spelt.text_is)))
    (λ b bs rest_is begun.
    let more = begun.0 in
    let l = begun.1.0 in
    let r = begun.1.1 in
    let spelt = begun.1.2 in
    leaves.stuck b bs more l (term_text r ++ 41 ∷ []) rest_is spelt.left_written
    (sides_of (leaves.read ++ b ∷ more) l r (ap (λ x. axiom_head ++ x) (sym (append_assoc leaves.read (b ∷ []) more)) ∙ spelt.text_is))))

-- the right side leaves the grammar
pub right-fails : (text : List ℕ) (k at : ℕ) (l : Term) → is_written l ≡ true → text ≡ axiom_head ++ drop 9 text → k ≤ length (drop 9 text) → drop 9 text ≡ term_text l ++ 32 ∷ drop k (drop 9 text)
    → Leaves 41 (drop k (drop 9 text)) at → IsBadAt IsAxiomText text (9 + k + at)
right-fails text k at l written headed long split leaves =
    let read = axiom_head ++ (term_text l ++ 32 ∷ leaves.read) in
    let after = drop k (drop 9 text) in
    let size : length (term_text l) + 1 ≡ k = omega (arith, ap length split, length-append (term_text l) (32 ∷ after), length-drop k (drop 9 text), long) in
    subst (IsBadAt IsAxiomText text) (let e : length read + 1 ≡ 9 + k + at = omega (arith, length-append axiom_head (term_text l ++ 32 ∷ leaves.read), length-append (term_text l) (32 ∷ leaves.read), leaves.at_is, size) in e)
    (bad-at IsAxiomText text read leaves.rest
    (headed ∙ ap (λ x. axiom_head ++ x) (split ∙ ap (λ x. term_text l ++ 32 ∷ x) leaves.text_is ∙ sym (append_assoc (term_text l) (32 ∷ leaves.read) leaves.rest)))
    (begins-right l leaves.read written leaves.begins)
    (λ (l', r, spelt).
    leaves.outside r [] spelt.right_written
    (split-unique 32 refl l l' written spelt.left_written after (term_text r ++ 41 ∷ []) (sym split ∙ sides_of (drop 9 text) l' r (sym headed ∙ spelt.text_is))))
    (λ b bs rest_is begun.
    let more = begun.0 in
    let l' = begun.1.0 in
    let r = begun.1.1 in
    let spelt = begun.1.2 in
    leaves.stuck b bs more r [] rest_is spelt.right_written
    (split-unique 32 refl l l' written spelt.left_written (leaves.read ++ b ∷ more) (term_text r ++ 41 ∷ [])
    (sides_of (term_text l ++ 32 ∷ (leaves.read ++ b ∷ more)) l' r
    (ap (λ x. axiom_head ++ x) (sym (append_assoc (term_text l) (32 ∷ leaves.read) (b ∷ more)) ∙ sym (append_assoc (term_text l ++ 32 ∷ leaves.read) (b ∷ []) more)) ∙ spelt.text_is)))))

-- the text of an axiom goes on
pub end-fails : (text : List ℕ) (n : ℕ) (l r : Term) (rest : List ℕ) → is_written l ≡ true → is_written r ≡ true → text ≡ axiom_text l r ++ rest → 0 < length rest → length (axiom_text l r) ≡ n → IsBadAt IsAxiomText text (n + 1)
end-fails text n l r rest hl hr is some size =
    subst (λ k. IsBadAt IsAxiomText text (k + 1)) size
    (bad-at IsAxiomText text (axiom_text l r) rest is
    ([], (l, r, record { left_written = hl; right_written = hr; text_is = append-nil (axiom_text l r) }))
    (λ (l', r', spelt). omega (arith, some, ap length (after_axiom rest l' r' spelt.left_written spelt.right_written (sym is ∙ spelt.text_is))))
    (λ b bs rest_is begun.
    let spelt = begun.1.2 in
    let none : b ∷ begun.0 ≡ [] = after_axiom (b ∷ begun.0) begun.1.0 begun.1.1 spelt.left_written spelt.right_written (sym (append_assoc (axiom_text l r) (b ∷ []) begun.0) ∙ spelt.text_is) in
    cc))
  where
    after_axiom : (more : List ℕ) (l' r' : Term) → is_written l' ≡ true → is_written r' ≡ true → axiom_text l r ++ more ≡ axiom_text l' r' → more ≡ []
    after_axiom more l' r' hl' hr' e =
        let first = sides_of ((term_text l ++ 32 ∷ (term_text r ++ 41 ∷ [])) ++ more) l' r' (ap (λ x. x ++ more) (sym (axiom-split l r)) ∙ e) in
        let second = split-unique 32 refl l l' hl hl' ((term_text r ++ 41 ∷ []) ++ more) (term_text r' ++ 41 ∷ []) (sym (append_assoc (term_text l) (32 ∷ (term_text r ++ 41 ∷ [])) more) ∙ first) in
        split-unique 41 refl r r' hr hr' more [] (sym (append_assoc (term_text r) (41 ∷ []) more) ∙ second)

-- both sides were read
pub sides-read : (text : List ℕ) (k m : ℕ) (l r : Term) → text ≡ axiom_head ++ drop 9 text → drop 9 text ≡ term_text l ++ 32 ∷ drop k (drop 9 text) → drop k (drop 9 text) ≡ term_text r ++ 41 ∷ drop m (drop k (drop 9 text))
    → text ≡ axiom_text l r ++ drop m (drop k (drop 9 text))
sides-read text k m l r headed first second =
    let rest = drop m (drop k (drop 9 text)) in
    headed
    ∙ ap (λ x. axiom_head ++ x) (first ∙ ap (λ x. term_text l ++ 32 ∷ x) second
    ∙ ap (λ x. term_text l ++ 32 ∷ x) (sym (append_assoc (term_text r) (41 ∷ []) rest)) ∙ sym (append_assoc (term_text l) (32 ∷ (term_text r ++ 41 ∷ [])) rest))
    ∙ ap (λ x. x ++ rest) (sym (axiom-split l r))

-- how long they are
pub sides-length : (text : List ℕ) (k m : ℕ) (l r : Term) → k ≤ length (drop 9 text) → m ≤ length (drop k (drop 9 text)) → drop 9 text ≡ term_text l ++ 32 ∷ drop k (drop 9 text) → drop k (drop 9 text) ≡ term_text r ++ 41 ∷ drop m (drop k (drop 9 text))
    → length (axiom_text l r) ≡ 9 + k + m
sides-length text k m l r hk hm first second =
    let after = drop k (drop 9 text) in
    let left : length (term_text l) + 1 ≡ k = omega (arith, ap length first, length-append (term_text l) (32 ∷ after), length-drop k (drop 9 text), hk) in
    let right : length (term_text r) + 1 ≡ m = omega (arith, ap length second, length-append (term_text r) (41 ∷ drop m after), length-drop m after, hm) in
    omega (arith, ap length (axiom-split l r), length-append axiom_head (term_text l ++ 32 ∷ (term_text r ++ 41 ∷ [])), length-append (term_text l) (32 ∷ (term_text r ++ 41 ∷ [])), length-append (term_text r) (41 ∷ []), left, right)
