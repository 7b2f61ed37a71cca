-- What the reading of texts does to the tally and to the symbols, and what the tests of all texts find.
use Rattle.std.proofs.Common.{◌≡◌, ℕ, ◌+◌, Bool, true, false, not, cond, List, [], ◌∷◌, ◌++◌, length, Option, None, Some, Ok, Err, refl, sym, ap, ◌∙◌, arith}
use Rattle.std.specs.List.{position_from}
use Rattle.std.proofs.lemmas.Bool.{leb-false, lt-leb}
use Rattle.std.proofs.lemmas.Iterator.Adapters.{position_from-zero}
use Rattle.dd_text.specs.Grammar.{Term}
use Rattle.dd_text.specs.Symbols.{SymbolLists, Grows, most_symbols, symbol_count}
use Rattle.dd_text.specs.Text.{with_term}
use Rattle.dd_text.proofs.Building.{Grows-refl, Grows-trans, Grows-with_term, symbol_count-Grows}
use Rattle.dd_wire.specs.declared.texts.Tally.{Tally}
use Rattle.dd_wire.specs.declared.request.WireErr.TheVariants.{Code}
use Rattle.dd_wire.specs.Refusal.{Refusal, Tested, ◌>>=◌, demand, demand_none, refused, refused_at, concept_limit, symbols_full}
use Rattle.dd_wire.specs.Texts.{are_small, first_large, with_terms, with_texts, has_room}
use Rattle.dd_wire.specs.Progress.{Progress, progress, no_texts, with_small, with_large, with_full, first_of, after_by_room, after_by_size, after_text, after_texts, IsSound, Leads, finished, finished_by, size_test}

-- ---- one text

-- what holds in each of the three cases holds after one text
pub after_cases : (P : Progress → Type 0) (p : Progress) (trees : List Term)
    → (are_small trees ≡ true → has_room (with_terms p.symbols trees) ≡ true → P (progress (with_small p.tally) (with_terms p.symbols trees)))
    → (are_small trees ≡ true → has_room (with_terms p.symbols trees) ≡ false → P (progress (with_full p.tally) p.symbols))
    → (are_small trees ≡ false → P (progress (with_large p.tally) p.symbols))
    → P (after_text p trees)
unfolding after_text
after_cases P p trees fits full large = by_size (are_small trees) refl
  where
    by_room : (b : Bool) → are_small trees ≡ true → has_room (with_terms p.symbols trees) ≡ b → P (after_by_room b p trees)
    by_room true small e = fits small e
    by_room false small e = full small e

    by_size : (b : Bool) → are_small trees ≡ b → P (after_by_size b p trees)
    by_size true e = by_room (has_room (with_terms p.symbols trees)) e refl
    by_size false e = large e

pub after_small : (p : Progress) (trees : List Term) → are_small trees ≡ true → has_room (with_terms p.symbols trees) ≡ true → after_text p trees ≡ progress (with_small p.tally) (with_terms p.symbols trees)
unfolding after_text
after_small p trees small room = ap (λ b. after_by_size b p trees) small ∙ ap (λ b. after_by_room b p trees) room

pub after_full : (p : Progress) (trees : List Term) → are_small trees ≡ true → has_room (with_terms p.symbols trees) ≡ false → after_text p trees ≡ progress (with_full p.tally) p.symbols
unfolding after_text
after_full p trees small room = ap (λ b. after_by_size b p trees) small ∙ ap (λ b. after_by_room b p trees) room

pub after_large : (p : Progress) (trees : List Term) → are_small trees ≡ false → after_text p trees ≡ progress (with_large p.tally) p.symbols
unfolding after_text
after_large p trees large = ap (λ b. after_by_size b p trees) large

pub texts_after : (p : Progress) (trees : List Term) → (after_text p trees).tally.texts ≡ p.tally.texts + 1
texts_after p trees = after_cases (λ q. q.tally.texts ≡ p.tally.texts + 1) p trees (λ small room. refl) (λ small room. refl) (λ large. refl)

-- ---- what may be later

pub Leads-refl : (p : Progress) → Leads p p
Leads-refl p = record { sound = λ h. h; grows = Grows-refl p.symbols }

pub Leads-trans : (p q r : Progress) → Leads p q → Leads q r → Leads p r
Leads-trans p q r h k = record { sound = λ s. h.sound (k.sound s); grows = Grows-trans p.symbols q.symbols r.symbols h.grows k.grows }

pub Grows-with_terms : (s : SymbolLists) (trees : List Term) → Grows s (with_terms s trees)
Grows-with_terms s [] = Grows-refl s
Grows-with_terms s (t ∷ trees) = Grows-trans s (with_term s t) (with_terms (with_term s t) trees) (Grows-with_term s t) (Grows-with_terms (with_term s t) trees)

Grows-with_texts : (s : SymbolLists) (texts : List (List Term)) → Grows s (with_texts s texts)
Grows-with_texts s [] = Grows-refl s
Grows-with_texts s (trees ∷ texts) = Grows-trans s (with_terms s trees) (with_texts (with_terms s trees) texts) (Grows-with_terms s trees) (Grows-with_texts (with_terms s trees) texts)

first_of-some : (o : Option ℕ) (n : ℕ) → first_of o n ≡ None → ⊥
first_of-some None n e = cc e
first_of-some (Some m) n e = cc e

pub full_is_not_sound : (t : Tally) (s : SymbolLists) → IsSound (progress (with_full t) s) → ⊥
full_is_not_sound t s h = let off : true ≡ false = h.full in cc off

pub large_is_not_sound : (t : Tally) (s : SymbolLists) → IsSound (progress (with_large t) s) → ⊥
large_is_not_sound t s h = first_of-some t.large t.texts h.large

pub Leads-text : (p : Progress) (trees : List Term) → Leads p (after_text p trees)
Leads-text p trees = after_cases (Leads p) p trees
    (λ small room. record { sound = λ h. record { large = h.large; full = h.full }; grows = Grows-with_terms p.symbols trees })
    (λ small room. record { sound = λ h. absurd (full_is_not_sound p.tally p.symbols h); grows = Grows-refl p.symbols })
    (λ large. record { sound = λ h. absurd (large_is_not_sound p.tally p.symbols h); grows = Grows-refl p.symbols })

pub Leads-texts : (p : Progress) (texts : List (List Term)) → Leads p (after_texts p texts)
Leads-texts p [] = Leads-refl p
Leads-texts p (trees ∷ texts) = Leads-trans p (after_text p trees) (after_texts (after_text p trees) texts) (Leads-text p trees) (Leads-texts (after_text p trees) texts)

-- ---- several texts

pub after_texts-append : (p : Progress) (xs ys : List (List Term)) → after_texts p (xs ++ ys) ≡ after_texts (after_texts p xs) ys
after_texts-append p [] ys = refl
after_texts-append p (x ∷ xs) ys = after_texts-append (after_text p x) xs ys

pub texts_after_all : (p : Progress) (texts : List (List Term)) → (after_texts p texts).tally.texts ≡ p.tally.texts + length texts
texts_after_all p [] = omega arith
texts_after_all p (trees ∷ texts) = omega (arith, texts_after p trees, texts_after_all (after_text p trees) texts)

-- ---- the first text that is too large

large_stays : (p : Progress) (texts : List (List Term)) (n : ℕ) → p.tally.large ≡ Some n → (after_texts p texts).tally.large ≡ Some n
large_stays p [] n e = e
large_stays p (trees ∷ texts) n e = large_stays (after_text p trees) texts n
    (after_cases (λ q. q.tally.large ≡ Some n) p trees (λ small room. e) (λ small room. e) (λ large. ap (λ o. first_of o p.tally.texts) e))

large_is : (p : Progress) (texts : List (List Term)) → p.tally.large ≡ None → (after_texts p texts).tally.large ≡ position_from (λ ts. not (are_small ts)) p.tally.texts texts
large_is p [] e = e
large_is p (trees ∷ texts) e = by_size (λ none. large_is (after_text p trees) texts none) (are_small trees) refl
  where
    by_size : ((after_text p trees).tally.large ≡ None → (after_texts (after_text p trees) texts).tally.large ≡ position_from (λ ts. not (are_small ts)) (after_text p trees).tally.texts texts)
        → (b : Bool) → are_small trees ≡ b → (after_texts (after_text p trees) texts).tally.large ≡ cond (not b) (Some p.tally.texts) (position_from (λ ts. not (are_small ts)) (p.tally.texts + 1) texts)
    by_size rest true small =
        let none : (after_text p trees).tally.large ≡ None = after_cases (λ q. q.tally.large ≡ None) p trees (λ s r. e) (λ s r. e) (λ large. let off : true ≡ false = sym small ∙ large in cc off) in
        rest none ∙ ap (λ n. position_from (λ ts. not (are_small ts)) n texts) (texts_after p trees)
    by_size rest false large = large_stays (after_text p trees) texts p.tally.texts
        (ap (λ (q : Progress). q.tally.large) (after_large p trees large) ∙ ap (λ o. first_of o p.tally.texts) e)

pub first_large_is : (s : SymbolLists) (texts : List (List Term)) → (after_texts (progress no_texts s) texts).tally.large ≡ first_large texts
first_large_is s texts = large_is (progress no_texts s) texts refl ∙ sym (position_from-zero (λ ts. not (are_small ts)) texts)

-- ---- room for the symbols of all texts

full_stays : (p : Progress) (texts : List (List Term)) → p.tally.full ≡ true → (after_texts p texts).tally.full ≡ true
full_stays p [] e = e
full_stays p (trees ∷ texts) e = full_stays (after_text p trees) texts
    (after_cases (λ q. q.tally.full ≡ true) p trees (λ small room. e) (λ small room. refl) (λ large. e))

no_room_later : (s t : SymbolLists) → Grows s t → has_room s ≡ false → has_room t ≡ false
no_room_later s t g e = lt-leb (symbol_count t) most_symbols (omega (arith, symbol_count-Grows s t g, leb-false (symbol_count s) most_symbols e))

-- the symbols, or that there is no room
pub room_of : Bool → SymbolLists → Tested SymbolLists
room_of true s = Err (refused symbols_full)
room_of false s = Ok s

pub room_of-true : (s : SymbolLists) → room_of true s ≡ Err (refused symbols_full)
unfolding room_of
room_of-true s = refl

pub room_of-false : (s : SymbolLists) → room_of false s ≡ Ok s
unfolding room_of
room_of-false s = refl

room_is : (p : Progress) (texts : List (List Term)) → p.tally.large ≡ None → p.tally.full ≡ false → has_room p.symbols ≡ true → (after_texts p texts).tally.large ≡ None
    → room_of (after_texts p texts).tally.full (after_texts p texts).symbols ≡ room_of (not (has_room (with_texts p.symbols texts))) (with_texts p.symbols texts)
room_is p [] none open_ room small = ap (λ b. room_of b p.symbols) (open_ ∙ sym (ap not room))
room_is p (trees ∷ texts) none open_ room small =
    room_by (λ eb rest_small. room_is (progress (with_small p.tally) (with_terms p.symbols trees)) texts none open_ eb rest_small) (are_small trees) (has_room (with_terms p.symbols trees)) refl refl
  where
    room_by : (has_room (with_terms p.symbols trees) ≡ true → (after_texts (progress (with_small p.tally) (with_terms p.symbols trees)) texts).tally.large ≡ None
        → room_of (after_texts (progress (with_small p.tally) (with_terms p.symbols trees)) texts).tally.full (after_texts (progress (with_small p.tally) (with_terms p.symbols trees)) texts).symbols
        ≡ room_of (not (has_room (with_texts (with_terms p.symbols trees) texts))) (with_texts (with_terms p.symbols trees) texts))
        → (a b : Bool) → are_small trees ≡ a → has_room (with_terms p.symbols trees) ≡ b
        → room_of (after_texts (after_text p trees) texts).tally.full (after_texts (after_text p trees) texts).symbols ≡ room_of (not (has_room (with_texts (with_terms p.symbols trees) texts))) (with_texts (with_terms p.symbols trees) texts)
    room_by rest true true ea eb =
        let is : after_text p trees ≡ progress (with_small p.tally) (with_terms p.symbols trees) = after_small p trees ea eb in
        ap (λ q. room_of (after_texts q texts).tally.full (after_texts q texts).symbols) is
        ∙ rest eb (ap (λ q. (after_texts q texts).tally.large) (sym is) ∙ small)
    room_by rest true false ea eb =
        let all : SymbolLists = with_texts (with_terms p.symbols trees) texts in
        let now : Progress = after_texts (after_text p trees) texts in
        let full : now.tally.full ≡ true = full_stays (after_text p trees) texts (ap (λ (q : Progress). q.tally.full) (after_full p trees ea eb)) in
        let none_left : has_room all ≡ false = no_room_later (with_terms p.symbols trees) all (Grows-with_texts (with_terms p.symbols trees) texts) eb in
        ap (λ b. room_of b now.symbols) full ∙ room_of-true now.symbols ∙ sym (room_of-true all) ∙ ap (λ b. room_of (not b) all) (sym none_left)
    room_by rest false b ea eb =
        let large : (after_texts (after_text p trees) texts).tally.large ≡ Some p.tally.texts = large_stays (after_text p trees) texts p.tally.texts
        (ap (λ (q : Progress). q.tally.large) (after_large p trees ea) ∙ ap (λ o. first_of o p.tally.texts) none) in
        let off : None ≡ Some p.tally.texts = sym small ∙ large in cc off

-- ---- the tests of all texts

-- what the tests find, by the tally and the symbols at the end
pub verdict_by : Option ℕ → Bool → SymbolLists → Tested SymbolLists
verdict_by (Some n) full s = Err (refused_at concept_limit n)
verdict_by None full s = room_of full s

pub verdict : Progress → Tested SymbolLists
verdict p = verdict_by p.tally.large p.tally.full p.symbols

room_test : (b : Bool) (s : SymbolLists) → room_of (not b) s ≡ (demand symbols_full b >>= (λ room. Ok s))
unfolding room_of
room_test true s = refl
room_test false s = refl

pub sized_by : (s : SymbolLists) (texts : List (List Term)) → has_room s ≡ true → verdict (after_texts (progress no_texts s) texts) ≡ size_test s texts
unfolding verdict verdict_by size_test
sized_by s texts room = by_large (first_large texts) refl
  where
    by_large : (o : Option ℕ) → first_large texts ≡ o
        → verdict_by (after_texts (progress no_texts s) texts).tally.large (after_texts (progress no_texts s) texts).tally.full (after_texts (progress no_texts s) texts).symbols
        ≡ (demand_none concept_limit o >>= (λ small. demand symbols_full (has_room (with_texts s texts)) >>= (λ room. Ok (with_texts s texts))))
    by_large (Some n) e =
        let now : Progress = after_texts (progress no_texts s) texts in
        ap (λ o. verdict_by o now.tally.full now.symbols) (first_large_is s texts ∙ e)
    by_large None e =
        let now : Progress = after_texts (progress no_texts s) texts in
        let none : now.tally.large ≡ None = first_large_is s texts ∙ e in
        ap (λ o. verdict_by o now.tally.full now.symbols) none ∙ room_is (progress no_texts s) texts refl refl room none ∙ room_test (has_room (with_texts s texts)) (with_texts s texts)

-- ---- what is answered after the last text

passed_by : (o : Option ℕ) (b : Bool) (s : SymbolLists) → finished_by o b ≡ Ok tt → (verdict_by o b s ≡ Ok s) × (o ≡ None) × (b ≡ false)
unfolding verdict_by room_of
passed_by (Some n) b s e = cc e
passed_by None true s e = cc e
passed_by None false s e = (refl, refl, refl)

refusal_is : (code code' : ℕ) (n n' : Option ℕ) → Code code n ≡ Code code' n' → ◌≡◌ {A = Refusal} (record { code = code; n = n }) (record { code = code'; n = n' })
refusal_is code code' n n' e =
    let codes_are : code ≡ code' = cc e in
    let numbers_are : n ≡ n' = cc e in
    ap (λ k. made k n) codes_are ∙ ap (made code') numbers_are
  where
    made : ℕ → Option ℕ → Refusal
    made k m = record { code = k; n = m }

refused_by : (o : Option ℕ) (b : Bool) (s : SymbolLists) (code : ℕ) (n : Option ℕ) → finished_by o b ≡ Err (Code code n) → verdict_by o b s ≡ Err (record { code = code; n = n })
unfolding verdict_by room_of
refused_by (Some m) b s code n e = ap Err (refusal_is concept_limit code (Some m) n (cc e))
refused_by None true s code n e = ap Err (refusal_is symbols_full code None n (cc e))
refused_by None false s code n e = cc e

-- all tests of the texts are passed: no text was too large, and there is room
pub passed : (s : SymbolLists) (texts : List (List Term)) (p : Progress) → has_room s ≡ true → p ≡ after_texts (progress no_texts s) texts → finished p.tally ≡ Ok tt → (size_test s texts ≡ Ok p.symbols) × IsSound p
unfolding verdict
passed s texts p room is e =
    let h = passed_by p.tally.large p.tally.full p.symbols e in
    (sym (sized_by s texts room) ∙ ap verdict (sym is) ∙ h.0, record { large = h.1; full = h.2 })

pub not_passed : (s : SymbolLists) (texts : List (List Term)) (p : Progress) (code : ℕ) (n : Option ℕ) → has_room s ≡ true → p ≡ after_texts (progress no_texts s) texts → finished p.tally ≡ Err (Code code n) → size_test s texts ≡ Err (record { code = code; n = n })
unfolding verdict
not_passed s texts p code n room is e = sym (sized_by s texts room) ∙ ap verdict (sym is) ∙ refused_by p.tally.large p.tally.full p.symbols code n e
