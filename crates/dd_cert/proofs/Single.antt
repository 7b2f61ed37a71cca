-- What a value is evidence of is one thing.
use Rattle.std.proofs.Common.{◌≡◌, ℕ, zero, suc, ◌<◌, List, [], ◌∷◌, map, Option, None, Some, Ok, Err, refl, sym, ap, ◌∙◌, subst, arith, inl, inr}
use Rattle.std.specs.Prelude.{◌⊎◌, slice_get}
use Rattle.std.specs.List.{flat_map}
use Rattle.serde_json.specs.Data.{Data}
use Rattle.dd_text.specs.Grammar.{Term}
use Rattle.dd_text.specs.Symbols.{SymbolLists}
use Rattle.dd_text.proofs.Unique.{Spells-unique}
use Rattle.dd_cert.specs.declared.form.CertForm.{CertForm}
use Rattle.dd_cert.specs.declared.form.CertForm.TheVariants as form
use Rattle.dd_cert.specs.declared.form.LineForm.{LineForm}
use Rattle.dd_cert.specs.declared.form.WhyForm.{WhyForm}
use Rattle.dd_cert.specs.declared.form.WhyForm.TheVariants as why
use Rattle.dd_cert.specs.Derivations.{AllReadable, Each, IsFirstUnreadable, IsParse, IsReadable, LineTree, Parse, Piece, SpellsLine, SpellsSmall, SpellsWhy, WhyTree, concept, cut, numbers_of_line, parsed, pieces_of, pieces_of_line, pieces_of_why, stopped}
use Rattle.dd_cert.specs.Certificates.{Certified, IsCertIn, IsDerivationFrom, IsEvidence, IsEvidenceOf, Tried, cert_form, certified_lines, first_above}
use Rattle.dd_cert.proofs.Stopping.{both-readable}

-- ---- trees

label-single : (texts : List (List ℕ)) (ts us : List Term) → Each SpellsSmall texts ts → Each SpellsSmall texts us → ts ≡ us
label-single [] [] [] h k = refl
label-single [] [] (u ∷ us) h k = absurd k
label-single [] (t ∷ ts) us h k = absurd h
label-single (x ∷ xs) [] us h k = absurd h
label-single (x ∷ xs) (t ∷ ts) [] h k = absurd k
label-single (x ∷ xs) (t ∷ ts) (u ∷ us) h k =
    ap (λ z. z ∷ ts) (Spells-unique x t u h.0.spelt k.0.spelt) ∙ ap (λ (l : List Term). u ∷ l) (label-single xs ts us h.1 k.1)

why-single : (w : WhyForm) (t u : WhyTree) → SpellsWhy w t → SpellsWhy w u → t ≡ u
why-single why.Bottom t u h k = h ∙ sym k
why-single (why.Clash a) t u h k = h.1 ∙ sym k.1
why-single (why.And at cite) t u h k = h ∙ sym k
why-single (why.Or at left right) t u h k = h ∙ sym k
why-single (why.Axiom index left right) t u h k = h ∙ sym k
why-single (why.Cut on with_it without_it) t u h k = h.2 ∙ ap (λ (c : Term). cut c with_it without_it) (Spells-unique on h.0 k.0 h.1.spelt k.1.spelt) ∙ sym k.2
why-single (why.Successor at cite) t u h k = h ∙ sym k
why-single (why.Bridge from onto into_set cite each) t u h k = h ∙ sym k

abbrev tree_of : ℕ → List Term → WhyTree → LineTree
tree_of peer label reason = record { peer = peer; label = label; why = reason }

line-single : (l : LineForm) (t u : LineTree) → SpellsLine l t → SpellsLine l u → t ≡ u
line-single l t u h k =
    ap (λ n. tree_of n t.label t.why) (h.peer ∙ sym k.peer) ∙ ap (λ ts. tree_of u.peer ts t.why) (label-single l.label t.label u.label h.label k.label)
    ∙ ap (tree_of u.peer u.label) (why-single l.why t.why u.why h.why k.why)

lines-single : (lines : List LineForm) (ts us : List LineTree) → Each SpellsLine lines ts → Each SpellsLine lines us → ts ≡ us
lines-single [] [] [] h k = refl
lines-single [] [] (u ∷ us) h k = absurd k
lines-single [] (t ∷ ts) us h k = absurd h
lines-single (x ∷ xs) [] us h k = absurd h
lines-single (x ∷ xs) (t ∷ ts) [] h k = absurd k
lines-single (x ∷ xs) (t ∷ ts) (u ∷ us) h k = ap (λ z. z ∷ ts) (line-single x t u h.0 k.0) ∙ ap (λ (l : List LineTree). u ∷ l) (lines-single xs ts us h.1 k.1)

-- ---- texts that are trees are what they are to be

label-readable : (texts : List (List ℕ)) (ts : List Term) → Each SpellsSmall texts ts → AllReadable (map concept texts)
label-readable [] [] h = tt
label-readable [] (t ∷ ts) h = absurd h
label-readable (x ∷ xs) [] h = absurd h
label-readable (x ∷ xs) (t ∷ ts) h = ((t, h.0), label-readable xs ts h.1)

why-readable : (w : WhyForm) (t : WhyTree) → SpellsWhy w t → AllReadable (pieces_of_why w)
why-readable why.Bottom t h = tt
why-readable (why.Clash a) t h = (h.0, tt)
why-readable (why.And at cite) t h = tt
why-readable (why.Or at left right) t h = tt
why-readable (why.Axiom index left right) t h = tt
why-readable (why.Cut on with_it without_it) t h = ((h.0, h.1), tt)
why-readable (why.Successor at cite) t h = tt
why-readable (why.Bridge from onto into_set cite each) t h = tt

lines-readable : (lines : List LineForm) (ts : List LineTree) → Each SpellsLine lines ts → AllReadable (pieces_of lines)
lines-readable [] [] h = tt
lines-readable [] (t ∷ ts) h = absurd h
lines-readable (x ∷ xs) [] h = absurd h
lines-readable (x ∷ xs) (t ∷ ts) h =
    both-readable (pieces_of_line x) (pieces_of xs)
    (both-readable (map concept x.label) (pieces_of_why x.why) (label-readable x.label t.label h.0.label) (why-readable x.why t.why h.0.why)) (lines-readable xs ts h.1)

readable-at : (ps : List Piece) (n : ℕ) (p : Piece) → AllReadable ps → slice_get ps n ≡ Some p → IsReadable p
readable-at [] n p all is = cc
readable-at (q ∷ ps) zero p all is = let same : q ≡ p = cc in subst IsReadable same all.0
readable-at (q ∷ ps) (suc n) p all is = readable-at ps n p all.1 is

never-stops : (lines : List LineForm) (ts : List LineTree) (n : ℕ) → Each SpellsLine lines ts → IsFirstUnreadable (pieces_of lines) n → ⊥
never-stops lines ts n h first = first.unreadable (readable-at (pieces_of lines) n first.piece (lines-readable lines ts h) first.is_there)

trichotomy : (n m : ℕ) → (n ≡ m) ⊎ ((n < m) ⊎ (m < n))
trichotomy zero zero = inl refl
trichotomy zero (suc m) = inr (inl (omega arith))
trichotomy (suc n) zero = inr (inr (omega arith))
trichotomy (suc n) (suc m) = later (trichotomy n m)
  where
    later : (n ≡ m) ⊎ ((n < m) ⊎ (m < n)) → (suc n ≡ suc m) ⊎ ((suc n < suc m) ⊎ (suc m < suc n))
    later (inl is) = inl (ap suc is)
    later (inr (inl less)) = inr (inl (omega (arith, less)))
    later (inr (inr more)) = inr (inr (omega (arith, more)))

first-single : (ps : List Piece) (n m : ℕ) → IsFirstUnreadable ps n → IsFirstUnreadable ps m → n ≡ m
first-single ps n m h k = by (trichotomy n m)
  where
    by : (n ≡ m) ⊎ ((n < m) ⊎ (m < n)) → n ≡ m
    by (inl is) = is
    by (inr (inl less)) = absurd (h.unreadable (k.before n h.piece less h.is_there))
    by (inr (inr more)) = absurd (k.unreadable (h.before m k.piece more k.is_there))

parse-single : (lines : List LineForm) (r q : Parse) → IsParse lines r → IsParse lines q → r ≡ q
parse-single lines (parsed ts) (parsed us) h k = ap parsed (lines-single lines ts us h k)
parse-single lines (parsed ts) (stopped n) h k = absurd (never-stops lines ts n h k)
parse-single lines (stopped n) (parsed us) h k = absurd (never-stops lines us n k h)
parse-single lines (stopped n) (stopped m) h k = ap stopped (first-single (pieces_of lines) n m h k)

-- ---- values

derivation-single : (s : SymbolLists) (lines : List LineForm) (above : Option (ℕ × ℕ)) (found other : Tried Certified) → IsDerivationFrom s lines above found → IsDerivationFrom s lines above other → found ≡ other
derivation-single s lines (Some at) found other h k = h ∙ sym k
derivation-single s lines None found other h k = h.2 ∙ ap (certified_lines s) (parse-single lines h.0 k.0 h.1 k.1) ∙ sym k.2

evidence-single : (s : SymbolLists) (f : CertForm) (found other : Tried Certified) → IsEvidence s f found → IsEvidence s f other → found ≡ other
evidence-single s (form.Yes lines) found other h k = derivation-single s lines (first_above 0 (flat_map numbers_of_line lines)) found other h k
evidence-single s (form.No w) found other h k = h ∙ sym k

evidence-of-single : (s : SymbolLists) (f : Tried CertForm) (found other : Tried Certified) → IsEvidenceOf s f found → IsEvidenceOf s f other → found ≡ other
evidence-of-single s (Err e) found other h k = h ∙ sym k
evidence-of-single s (Ok f) found other h k = evidence-single s f found other h k

pub cert-single : (s : SymbolLists) (d : Data) (found other : Tried Certified) → IsCertIn s d found → IsCertIn s d other → found ≡ other
cert-single s d found other h k = evidence-of-single s (cert_form d) found other h k
