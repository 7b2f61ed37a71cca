-- From how far the automaton came to what is told of a text: the concept that it is, or the place where it leaves the grammar.
use Rattle.std.proofs.Common.{◌≡◌, ℕ, ◌+◌, ◌<◌, ◌≤◌, Bool, true, false, List, [], ◌∷◌, ◌++◌, length, drop, get_or, refl, sym, ap, ◌∙◌, subst, arith, append_assoc, length-append, length-drop}
use Rattle.std.specs.Prelude.{not}
use Rattle.std.proofs.lemmas.List.{append-nil, drop_more}
use Rattle.std.proofs.Math.ListN.{drop_of_length-le}
use Rattle.dd_text.specs.Names.{is_byte_of_name}
use Rattle.dd_text.specs.Grammar.{Term, term_text, is_written, IsConceptText, Begins, IsBadAt}
use Rattle.dd_text.specs.declared.grammar.Scan.{Scan}
use Rattle.dd_text.specs.declared.grammar.Scanned.{Scanned}
use Rattle.dd_text.specs.Automaton.{Scans, is_whole, reach, start}
use Rattle.dd_text.specs.Parts.{IsPartOf, IsBefore, Leaves, IsWholeConcept}
use Rattle.dd_text.proofs.Verdicts.{ScanReached, reached, Seen-start, seen-begins, IsTermOf, whole-term, whole_state, reach-whole, bad-at}

pub not_false : (b : Bool) → not b ≡ false → b ≡ true
not_false true h = refl
not_false false h = sym h

module _ (text : List ℕ) (r : Scanned) (h : Scans text r) where
  way : ScanReached start text []
  way = reached text start [] Seen-start

  way-length : length way.read ≡ r.read
  way-length =
      omega (arith, ap length way.text_is, length-append way.read (reach start text).1, ap length h.rest, length-drop r.read text, h.within)

  whole-front : r.whole ≡ true → IsTermOf way.read
  whole-front w =
      let s = (reach start text).0 in
      whole-term s.mode s.word s.stack s.signs s.depth way.read way.seen (sym h.whole ∙ w)

  front-begins : Begins IsConceptText way.read
  front-begins = let s = (reach start text).0 in seen-begins s.mode s.word s.stack s.signs s.depth way.read way.seen

  -- where the text is a concept's and a rest that ends its words, the automaton read the concept
  pub state-is : (t : Term) (rest : List ℕ) → is_written t ≡ true → text ≡ term_text t ++ rest → reach start (term_text t ++ rest) ≡ (whole_state t, rest) → reach start text ≡ (whole_state t, rest)
  state-is t rest written is reads = ap (reach start) is ∙ reads

  told_whole : (t : Term) (rest : List ℕ) → reach start text ≡ (whole_state t, rest) → r.whole ≡ true
  told_whole t rest e = h.whole ∙ ap (λ (p : Scan × List ℕ). is_whole p.0) e

  told_part : (t : Term) (rest : List ℕ) → reach start text ≡ (whole_state t, rest) → IsPartOf (record { signs = r.signs; depth = r.depth }) t
  told_part t rest e = record {
    signs = h.signs ∙ ap (λ (p : Scan × List ℕ). p.0.signs) e;
    depth = h.depth ∙ ap (λ (p : Scan × List ℕ). p.0.depth) e;
  }

  pub leaves-from : (end : ℕ) → is_byte_of_name end ≡ false → (r.whole ≡ true → (bs : List ℕ) → (reach start text).1 ≡ end ∷ bs → ⊥) → Leaves end text (r.read + 1)
  leaves-from end ends bad = record {
    read = way.read;
    rest = (reach start text).1;
    text_is = way.text_is;
    at_is = ap (λ n. n + 1) (sym way-length);
    begins = front-begins;
    outside = λ t more written is.
        let e = state-is t (end ∷ more) written is (reach-whole t (end ∷ more) written ends) in
        bad (told_whole t (end ∷ more) e) more (ap (λ (p : Scan × List ℕ). p.1) e);
    stuck = λ b bs more t tail rest_is written is.
        let both : ◌≡◌ {A = Scan × List ℕ} ((reach start text).0, b ∷ more) (whole_state t, end ∷ tail) = sym (way.stuck b bs more rest_is) ∙ ap (reach start) is ∙ reach-whole t (end ∷ tail) written ends in
        let same : b ∷ more ≡ end ∷ tail = ap (λ (p : Scan × List ℕ). p.1) both in
        let byte : b ≡ end = cc in
        bad (h.whole ∙ ap (λ (p : Scan × List ℕ). is_whole p.0) both) bs (rest_is ∙ ap (λ (c : ℕ). c ∷ bs) byte);
  }

  pub bad-concept : (r.whole ≡ true → (reach start text).1 ≡ [] → ⊥) → IsBadAt IsConceptText text (r.read + 1)
  bad-concept bad =
      subst (λ n. IsBadAt IsConceptText text (n + 1)) way-length
      (bad-at IsConceptText text way.read (reach start text).1 way.text_is front-begins
      (λ (t, spelt).
      let e = state-is t [] spelt.written (spelt.text_is ∙ sym (append-nil (term_text t))) (reach-whole t [] spelt.written tt) in
      bad (told_whole t [] e) (ap (λ (p : Scan × List ℕ). p.1) e))
      (λ b bs rest_is begun.
      let more = begun.0 in
      let t = begun.1.0 in
      let spelt = begun.1.1 in
      let reads : ◌≡◌ {A = Scan × List ℕ} ((reach start text).0, b ∷ more) (whole_state t, []) =
      sym (way.stuck b bs more rest_is) ∙ ap (reach start) (sym (append_assoc way.read (b ∷ []) more) ∙ spelt.text_is ∙ sym (append-nil (term_text t))) ∙ reach-whole t [] spelt.written tt in
      let none : b ∷ more ≡ [] = ap (λ (p : Scan × List ℕ). p.1) reads in
      cc))

  pub before-from : (end : ℕ) → is_byte_of_name end ≡ false → r.whole ≡ true → r.read < length text → get_or text r.read 0 ≡ end → IsBefore end text (record { part = record { signs = r.signs; depth = r.depth }; read = r.read + 1 })
  before-from end ends whole short byte =
      let front = whole-front whole in
      let rest_is : (reach start text).1 ≡ end ∷ drop (r.read + 1) text =
      sym h.rest ∙ drop_more text r.read 0 short ∙ ap (λ (c : ℕ). c ∷ drop (r.read + 1) text) byte in
      let is : text ≡ term_text front.term ++ end ∷ drop (r.read + 1) text =
      way.text_is ∙ ap (λ l. l ++ (reach start text).1) front.text_is ∙ ap (λ l. term_text front.term ++ l) rest_is in
      record {
        term = front.term;
        written = front.written;
        part = told_part front.term (end ∷ drop (r.read + 1) text) (state-is front.term (end ∷ drop (r.read + 1) text) front.written is (reach-whole front.term (end ∷ drop (r.read + 1) text) front.written ends));
        text_is = is;
      }

  pub whole-from : r.whole ≡ true → length text ≤ r.read → IsWholeConcept text (record { signs = r.signs; depth = r.depth })
  whole-from whole long =
      let front = whole-front whole in
      let rest_is : (reach start text).1 ≡ [] = sym h.rest ∙ drop_of_length-le text long in
      let is : text ≡ term_text front.term =
      way.text_is ∙ ap (λ l. way.read ++ l) rest_is ∙ append-nil way.read ∙ front.text_is in
      record {
        term = front.term;
        spelt = record { written = front.written; text_is = is };
        part = told_part front.term [] (state-is front.term [] front.written (is ∙ sym (append-nil (term_text front.term))) (reach-whole front.term [] front.written tt));
      }
