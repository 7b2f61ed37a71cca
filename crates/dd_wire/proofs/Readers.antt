-- What the reading of one text answers: its trees, a stand-in that the tally tells of, or why the reading stops.
use Rattle.std.proofs.Common.{◌≡◌, ◌≤◌, ◌<◌, inl, inr, ℕ, ◌+◌, Bool, true, false, ◌&&◌, List, [], ◌∷◌, Some, Ok, Err, refl, sym, ap, ◌∙◌, subst, arith}
use Rattle.std.specs.Prelude.{nat_le}
use Rattle.std.proofs.lemmas.Bool.{le-leb, lt-leb}
use Rattle.dd_concept.specs.declared.concept.Concept.{Concept}
use Rattle.dd_concept.specs.declared.concept.Axiom.{Axiom}
use Rattle.dd_text.specs.Grammar.{Term, Spells, SpellsAxiom, term_nodes, term_depth}
use Rattle.dd_text.specs.Symbols.{SymbolLists, Grows, Appends, most_symbols, symbol_count}
use Rattle.dd_text.specs.Text.{concept_of, names_in, roles_in, with_term}
use Rattle.dd_text.specs.Reads.{IsWithin, IsFirstOver, ReadsConcept, ReadsAxiom}
use Rattle.dd_text.specs.declared.read.TheConstants.{REQUEST}
use Rattle.dd_text.specs.declared.read.TextErr.{TextErr}
use Rattle.dd_text.specs.declared.read.TextErr.TheVariants as err
use Rattle.dd_text.proofs.Building.{Grows-refl, Grows-with_term}
use Rattle.dd_text.proofs.Numbering.{has_text-Appends}
use Rattle.dd_text.proofs.Reading.{both_of}
use Rattle.dd_text.proofs.Restoring.{AreIn, concept_of-grows, names-with_term, roles-with_term}
use Rattle.dd_wire.specs.declared.texts.Tally.{Tally}
use Rattle.dd_wire.specs.declared.request.WireErr.{WireErr}
use Rattle.dd_wire.specs.declared.request.WireErr.TheVariants.{Code, NoMemory}
use Rattle.dd_wire.specs.Refusal.{bad_concept}
use Rattle.dd_wire.specs.Texts.{Piece, concept, implication, IsInGrammar, is_small, are_small, has_room}
use Rattle.dd_wire.specs.Progress.{Progress, progress, with_small, with_large, with_full, after_text, IsSound, noted_of, Stops, ReadsText, ReadsAxioms}
use Rattle.dd_wire.proofs.Tallies.{after_small, after_full, after_large, full_is_not_sound, large_is_not_sound}

-- ---- limits

small_is : (t : Term) → IsWithin REQUEST t → is_small t ≡ true
small_is t h = both_of (nat_le (term_nodes t) REQUEST.nodes) (nat_le (term_depth t) REQUEST.depth) (le-leb (term_nodes t) REQUEST.nodes h.nodes) (le-leb (term_depth t) REQUEST.depth h.depth)

and-false : (a : Bool) → a && false ≡ false
and-false true = refl
and-false false = refl

large_by_nodes : (t : Term) → REQUEST.nodes < term_nodes t → is_small t ≡ false
large_by_nodes t h = ap (λ b. b && nat_le (term_depth t) REQUEST.depth) (lt-leb (term_nodes t) REQUEST.nodes h)

large_by_depth : (t : Term) → REQUEST.depth < term_depth t → is_small t ≡ false
large_by_depth t h = ap (λ b. nat_le (term_nodes t) REQUEST.nodes && b) (lt-leb (term_depth t) REQUEST.depth h) ∙ and-false (nat_le (term_nodes t) REQUEST.nodes)

one_small : (t : Term) → is_small t ≡ true → are_small (t ∷ []) ≡ true
one_small t h = both_of (is_small t) true h refl

one_large : (t : Term) → is_small t ≡ false → are_small (t ∷ []) ≡ false
one_large t h = ap (λ b. b && true) h

two_small : (l r : Term) → is_small l ≡ true → is_small r ≡ true → are_small (l ∷ r ∷ []) ≡ true
two_small l r h k = both_of (is_small l) (are_small (r ∷ [])) h (one_small r k)

left_large : (l r : Term) → is_small l ≡ false → are_small (l ∷ r ∷ []) ≡ false
left_large l r h = ap (λ b. b && are_small (r ∷ [])) h

right_large : (l r : Term) → is_small r ≡ false → are_small (l ∷ r ∷ []) ≡ false
right_large l r h = ap (λ b. is_small l && b) (one_large r h) ∙ and-false (is_small l)

room_is_there : (s : SymbolLists) → symbol_count s ≤ most_symbols → has_room s ≡ true
room_is_there s h = le-leb (symbol_count s) most_symbols h

room_is_missing : (s : SymbolLists) → most_symbols < symbol_count s → has_room s ≡ false
room_is_missing s h = lt-leb (symbol_count s) most_symbols h

-- ---- stops

stops_at : (t : Tally) (s s' : SymbolLists) (piece : Piece) → s' ≡ s → ¬ (IsInGrammar piece) → Stops (progress t s) (piece ∷ []) (progress t s') (Code bad_concept (Some t.texts))
stops_at t s s' piece same outside = record {
  grows = subst (Grows s) (sym same) (Grows-refl s);
  fault = (0, record { piece = piece; is_there = refl; outside = outside; before = λ k other below at. absurd (omega arith) }, refl, ap Some (let e : t.texts ≡ t.texts + 0 = omega arith in e));
}

pub stops_without_memory : (p q : Progress) (pieces : List Piece) → Grows p.symbols q.symbols → Stops p pieces q NoMemory
stops_without_memory p q pieces grows = record { grows = grows; fault = tt }

-- ---- concepts

AreIn-grows : (texts xs zs : List (List ℕ)) → Appends xs zs → AreIn texts xs → AreIn texts zs
AreIn-grows texts xs zs h is w there = has_text-Appends xs zs w h (is w there)

pub text_is_read : (s s' : SymbolLists) (t : Tally) (text : List ℕ) (c : Concept) → ReadsConcept s REQUEST text s' (Ok c) → ReadsText (progress t s) text (progress (with_small t) s') (Ok c)
unfolding ReadsText
text_is_read s s' t text c h =
    let room : has_room (with_term s h.term) ≡ true = ap has_room (sym h.symbols) ∙ room_is_there s' h.room in
    let after : after_text (progress t s) (h.term ∷ []) ≡ progress (with_small t) (with_term s h.term) = after_small (progress t s) (h.term ∷ []) (one_small h.term (small_is h.term h.small)) room in (
      h.term,
      h.spelt,
      ap (progress (with_small t)) h.symbols ∙ sym after,
      λ q leads sound. h.concept ∙ sym (concept_of-grows s' q.symbols leads.grows h.term
          (subst (λ (z : SymbolLists). AreIn (names_in h.term) z.names) (sym h.symbols) (names-with_term s h.term))
          (subst (λ (z : SymbolLists). AreIn (roles_in h.term) z.roles) (sym h.symbols) (roles-with_term s h.term))),
    )

text_stands_in : (old new : Progress) (text : List ℕ) (term : Term) (c : Concept) → Spells text term → new ≡ after_text old (term ∷ []) → (IsSound new → ⊥) → ReadsText old text new (Ok c)
unfolding ReadsText
text_stands_in old new text term c spelt is unsound = (term, spelt, is, λ q leads sound. absurd (unsound (leads.sound sound)))

text_too_large : (s s' : SymbolLists) (t : Tally) (text : List ℕ) (term : Term) (c : Concept) → s' ≡ s → Spells text term → is_small term ≡ false → ReadsText (progress t s) text (progress (with_large t) s') (Ok c)
text_too_large s s' t text term c same spelt large =
    text_stands_in (progress t s) (progress (with_large t) s') text term c spelt
    (ap (progress (with_large t)) same ∙ sym (after_large (progress t s) (term ∷ []) (one_large term large)))
    (large_is_not_sound t s')

pub text_is_noted : (s s' : SymbolLists) (t t' : Tally) (text : List ℕ) (e : TextErr) (c : Concept) → ReadsConcept s REQUEST text s' (Err e) → noted_of t e ≡ Ok t' → ReadsText (progress t s) text (progress t' s') (Ok c)
text_is_noted s s' t t' text (err.Bad at) c h e = cc e
text_is_noted s s' t t' text err.NoMemory c h e = cc e
text_is_noted s s' t t' text (err.TooLarge nodes) c h e =
    subst (λ u. ReadsText (progress t s) text (progress u s') (Ok c)) (let is : with_large t ≡ t' = cc e in is)
    (text_too_large s s' t text h.1.0 c h.0 h.1.1 (large_by_nodes h.1.0 h.1.2))
text_is_noted s s' t t' text (err.TooDeep depth) c h e =
    subst (λ u. ReadsText (progress t s) text (progress u s') (Ok c)) (let is : with_large t ≡ t' = cc e in is)
    (text_too_large s s' t text h.1.0 c h.0 h.1.1 (large_by_depth h.1.0 h.1.3))
text_is_noted s s' t t' text err.SymbolsFull c h e =
    subst (λ u. ReadsText (progress t s) text (progress u s') (Ok c)) (let is : with_full t ≡ t' = cc e in is)
    (text_stands_in (progress t s) (progress (with_full t) s') text h.1.0 c h.1.1
    (ap (progress (with_full t)) h.0 ∙ sym (after_full (progress t s) (h.1.0 ∷ []) (one_small h.1.0 (small_is h.1.0 h.1.2)) (room_is_missing (with_term s h.1.0) h.1.3)))
    (full_is_not_sound t s'))

pub text_stops : (s s' : SymbolLists) (t : Tally) (text : List ℕ) (e : TextErr) (w : WireErr) → ReadsConcept s REQUEST text s' (Err e) → noted_of t e ≡ Err w → ReadsText (progress t s) text (progress t s') (Err w)
unfolding ReadsText
text_stops s s' t text (err.Bad at) w h e =
    subst (Stops (progress t s) (concept text ∷ []) (progress t s')) (let is : Code bad_concept (Some t.texts) ≡ w = cc e in is)
    (stops_at t s s' (concept text) h.0 h.1.1.outside)
text_stops s s' t text err.NoMemory w h e =
    subst (Stops (progress t s) (concept text ∷ []) (progress t s')) (let is : NoMemory ≡ w = cc e in is)
    (stops_without_memory (progress t s) (progress t s') (concept text ∷ []) (subst (Grows s) (sym h.0) (Grows-refl s)))
text_stops s s' t text (err.TooLarge nodes) w h e = cc e
text_stops s s' t text (err.TooDeep depth) w h e = cc e
text_stops s s' t text err.SymbolsFull w h e = cc e

pub text_not_read : (p : Progress) (text : List ℕ) → ReadsText p text p (Err NoMemory)
unfolding ReadsText
text_not_read p text = stops_without_memory p p (concept text ∷ []) (Grows-refl p.symbols)

-- ---- axioms

pub axiom_is_read : (s s' : SymbolLists) (t : Tally) (text : List ℕ) (a : Axiom) → ReadsAxiom s REQUEST text s' (Ok a) → ReadsAxioms (progress t s) (text ∷ []) (progress (with_small t) s') (Ok (a ∷ []))
unfolding ReadsAxioms
axiom_is_read s s' t text a h =
    let l = h.left in
    let r = h.right in
    let mid : SymbolLists = with_term s l in
    let room : has_room (with_term mid r) ≡ true = ap has_room (sym h.symbols) ∙ room_is_there s' h.room in
    let after : after_text (progress t s) (l ∷ r ∷ []) ≡ progress (with_small t) (with_term mid r) = after_small (progress t s) (l ∷ r ∷ []) (two_small l r (small_is l h.left_small) (small_is r h.right_small)) room in
    let more : Grows mid (with_term mid r) = Grows-with_term mid r in (
      (l, r) ∷ [],
      (h.spelt, tt),
      ap (progress (with_small t)) h.symbols ∙ sym after,
      (
        (λ q leads sound. h.sides
            ∙ ap (λ x. axiom_sides x (concept_of s' r)) (sym (concept_of-grows s' q.symbols leads.grows l
            (subst (λ (z : SymbolLists). AreIn (names_in l) z.names) (sym h.symbols) (AreIn-grows (names_in l) mid.names (with_term mid r).names more.names (names-with_term s l)))
            (subst (λ (z : SymbolLists). AreIn (roles_in l) z.roles) (sym h.symbols) (AreIn-grows (roles_in l) mid.roles (with_term mid r).roles more.roles (roles-with_term s l)))))
            ∙ ap (axiom_sides (concept_of q.symbols l)) (sym (concept_of-grows s' q.symbols leads.grows r
            (subst (λ (z : SymbolLists). AreIn (names_in r) z.names) (sym h.symbols) (names-with_term mid r))
            (subst (λ (z : SymbolLists). AreIn (roles_in r) z.roles) (sym h.symbols) (roles-with_term mid r))))),
        tt,
      ),
    )
  where
    axiom_sides : Concept → Concept → Axiom
    axiom_sides x y = record { left = x; right = y }

axiom_stands_in : (old new : Progress) (text : List ℕ) (l r : Term) (a : Axiom) → SpellsAxiom text l r → new ≡ after_text old (l ∷ r ∷ []) → (IsSound new → ⊥) → ReadsAxioms old (text ∷ []) new (Ok (a ∷ []))
unfolding ReadsAxioms
axiom_stands_in old new text l r a spelt is unsound = ((l, r) ∷ [], (spelt, tt), is, ((λ q leads sound. absurd (unsound (leads.sound sound))), tt))

axiom_too_large : (s s' : SymbolLists) (t : Tally) (text : List ℕ) (l r : Term) (a : Axiom) → s' ≡ s → SpellsAxiom text l r → are_small (l ∷ r ∷ []) ≡ false → ReadsAxioms (progress t s) (text ∷ []) (progress (with_large t) s') (Ok (a ∷ []))
axiom_too_large s s' t text l r a same spelt large =
    axiom_stands_in (progress t s) (progress (with_large t) s') text l r a spelt
    (ap (progress (with_large t)) same ∙ sym (after_large (progress t s) (l ∷ r ∷ []) large))
    (large_is_not_sound t s')

large_sides : (l r : Term) (measure : Term → ℕ) (limit n : ℕ) → ((t : Term) → limit < measure t → is_small t ≡ false) → IsFirstOver limit (measure l) (measure r) n → are_small (l ∷ r ∷ []) ≡ false
large_sides l r measure limit n large over =
    elim over [
      | inl h ↦ left_large l r (large l h.0)
      | inr h ↦ right_large l r (large r h.1)
    ]

pub axiom_is_noted : (s s' : SymbolLists) (t t' : Tally) (text : List ℕ) (e : TextErr) (a : Axiom) → ReadsAxiom s REQUEST text s' (Err e) → noted_of t e ≡ Ok t' → ReadsAxioms (progress t s) (text ∷ []) (progress t' s') (Ok (a ∷ []))
axiom_is_noted s s' t t' text (err.Bad at) a h e = cc e
axiom_is_noted s s' t t' text err.NoMemory a h e = cc e
axiom_is_noted s s' t t' text (err.TooLarge nodes) a h e =
    subst (λ u. ReadsAxioms (progress t s) (text ∷ []) (progress u s') (Ok (a ∷ []))) (let is : with_large t ≡ t' = cc e in is)
    (axiom_too_large s s' t text h.1.0 h.1.1 a h.0 h.1.2 (large_sides h.1.0 h.1.1 term_nodes REQUEST.nodes h.1.3 large_by_nodes h.1.4))
axiom_is_noted s s' t t' text (err.TooDeep depth) a h e =
    subst (λ u. ReadsAxioms (progress t s) (text ∷ []) (progress u s') (Ok (a ∷ []))) (let is : with_large t ≡ t' = cc e in is)
    (axiom_too_large s s' t text h.1.0 h.1.1 a h.0 h.1.2 (large_sides h.1.0 h.1.1 term_depth REQUEST.depth h.1.5 large_by_depth h.1.6))
axiom_is_noted s s' t t' text err.SymbolsFull a h e =
    let l = h.1.0 in
    let r = h.1.1 in
    subst (λ u. ReadsAxioms (progress t s) (text ∷ []) (progress u s') (Ok (a ∷ []))) (let is : with_full t ≡ t' = cc e in is)
    (axiom_stands_in (progress t s) (progress (with_full t) s') text l r a h.1.2
    (ap (progress (with_full t)) h.0 ∙ sym (after_full (progress t s) (l ∷ r ∷ []) (two_small l r (small_is l h.1.3) (small_is r h.1.4)) (room_is_missing (with_term (with_term s l) r) h.1.5)))
    (full_is_not_sound t s'))

pub axiom_stops : (s s' : SymbolLists) (t : Tally) (text : List ℕ) (e : TextErr) (w : WireErr) → ReadsAxiom s REQUEST text s' (Err e) → noted_of t e ≡ Err w → ReadsAxioms (progress t s) (text ∷ []) (progress t s') (Err w)
unfolding ReadsAxioms
axiom_stops s s' t text (err.Bad at) w h e =
    subst (Stops (progress t s) (implication text ∷ []) (progress t s')) (let is : Code bad_concept (Some t.texts) ≡ w = cc e in is)
    (stops_at t s s' (implication text) h.0 h.1.1.outside)
axiom_stops s s' t text err.NoMemory w h e =
    subst (Stops (progress t s) (implication text ∷ []) (progress t s')) (let is : NoMemory ≡ w = cc e in is)
    (stops_without_memory (progress t s) (progress t s') (implication text ∷ []) (subst (Grows s) (sym h.0) (Grows-refl s)))
axiom_stops s s' t text (err.TooLarge nodes) w h e = cc e
axiom_stops s s' t text (err.TooDeep depth) w h e = cc e
axiom_stops s s' t text err.SymbolsFull w h e = cc e

pub axiom_not_read : (p : Progress) (text : List ℕ) → ReadsAxioms p (text ∷ []) p (Err NoMemory)
unfolding ReadsAxioms
axiom_not_read p text = stops_without_memory p p (implication text ∷ []) (Grows-refl p.symbols)
