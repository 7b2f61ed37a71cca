-- What is built of the texts, the reason and the whole of a line.
use Rattle.std.proofs.Common.{◌≡◌, ℕ, ◌+◌, ◌<◌, true, List, length, drop, get_or, map, Result, Err, refl, sym, ap, ◌∙◌, subst, arith}
use Rattle.std.specs.List.{fold}
use Rattle.dd_concept.specs.declared.concept.Concept.{Concept}
use Rattle.dd_text.specs.Names.{names_a_thing}
use Rattle.dd_text.specs.Reads.{IsConceptOf, IsWithin, RefusesConcept, cert_limits}
use Rattle.dd_text.specs.Symbols.{Grows, SymbolLists, has_text, most_symbols, number_of, symbol_count, with_text}
use Rattle.dd_text.specs.Text.{concept_of, names_in, roles_in, with_term}
use Rattle.dd_text.specs.declared.read.TextErr.{TextErr}
use Rattle.dd_text.specs.declared.read.TextErr.TheVariants as texts
use Rattle.dd_text.proofs.Building.{Grows-trans, drop-next, symbol_count-Grows}
use Rattle.dd_text.proofs.Numbering.{has_text-with_text, number_of-Appends}
use Rattle.dd_text.proofs.Restoring.{AreIn, concept_of-grows, names-with_term, roles-with_term}
use Rattle.dd_text.proofs.Unique.{Spells-unique}
use Rattle.dd_task.specs.declared.line.Line.{Line}
use Rattle.dd_task.specs.declared.line.Why.{Why}
use Rattle.dd_task.specs.declared.line.Why.TheVariants as why
use Rattle.dd_cert.specs.declared.add.AddErr.{AddErr}
use Rattle.dd_cert.specs.declared.add.AddErr.TheVariants as added
use Rattle.dd_cert.specs.declared.form.WhyForm.{WhyForm}
use Rattle.dd_cert.specs.declared.form.WhyForm.TheVariants as form
use Rattle.dd_cert.specs.declared.form.LineForm.{LineForm}
use Rattle.dd_cert.specs.Derivations.{AllReadable, IsReadable, SpellsLine, SpellsSmall, SpellsWhy, WhyTree, clash, concept, cut, line_by, pieces_of, pieces_of_line, why_by, with_line, with_why}
use Rattle.dd_cert.specs.Steps.{AreBuilt, AreFull, HasRoomErr, IsBuilt, IsFull}
use Rattle.dd_cert.proofs.Certain.{split_all}
use Rattle.dd_cert.proofs.Gathering.{Grows-with_why}

-- ---- a concept

pub concept-built : (old new : SymbolLists) (text : List ℕ) (c : Concept) → IsConceptOf old cert_limits text new c → IsBuilt SpellsSmall with_term concept_of old text new c
concept-built old new text c h = record {
  tree = h.term;
  spelt = record { spelt = h.spelt; small = h.small };
  symbols = h.symbols;
  later = λ q grows. h.concept ∙ sym (concept_of-grows new q grows h.term
      (subst (λ (z : SymbolLists). AreIn (names_in h.term) z.names) (sym h.symbols) (names-with_term old h.term))
      (subst (λ (z : SymbolLists). AreIn (roles_in h.term) z.roles) (sym h.symbols) (roles-with_term old h.term)));
}

pub concept-full : (old : SymbolLists) (text : List ℕ) → RefusesConcept old cert_limits text texts.SymbolsFull → IsFull SpellsSmall with_term old text
concept-full old text (t, spelt, small, full) = record { tree = t; spelt = record { spelt = spelt; small = small }; full = full }

-- a text that is a concept within the limits is refused for want of room or of memory alone
room-alone : (old : SymbolLists) (text : List ℕ) (e : TextErr) → IsReadable (concept text) → RefusesConcept old cert_limits text e → HasRoomErr e
room-alone old text (texts.Bad n) (t, s) h = absurd (h.1.outside (t, s.spelt))
room-alone old text (texts.TooLarge n) (t, s) (u, spelt, over, is) =
    absurd (omega (arith, over, (subst (IsWithin cert_limits) (Spells-unique text t u s.spelt spelt) s.small).nodes))
room-alone old text (texts.TooDeep n) (t, s) (u, spelt, few, over, is) =
    absurd (omega (arith, over, (subst (IsWithin cert_limits) (Spells-unique text t u s.spelt spelt) s.small).depth))
room-alone old text texts.SymbolsFull readable h = tt
room-alone old text texts.NoMemory readable h = tt

pub refused-room : (old new : SymbolLists) (text : List ℕ) (e : TextErr) → IsReadable (concept text)
    → (new ≡ old) × RefusesConcept old cert_limits text e → HasRoomErr e
refused-room old new text e readable h = room-alone old text e readable h.1

-- ---- a reason

pub clash-built : (old new : SymbolLists) (text : List ℕ) (n : ℕ) → names_a_thing text ≡ true → new ≡ record old { names = with_text old.names text } → n ≡ number_of new.names text
    → IsBuilt SpellsWhy with_why why_by old (form.Clash text) new (why.Clash n)
clash-built old new text n named is number = record {
  tree = clash text;
  spelt = (named, refl);
  symbols = is;
  later = λ q grows. ap why.Clash (number ∙ sym (number_of-Appends new.names q.names text grows.names (ap (λ (z : SymbolLists). has_text z.names text) is ∙ has_text-with_text old.names text)));
}

pub clash-full : (old : SymbolLists) (text : List ℕ) → names_a_thing text ≡ true → most_symbols < symbol_count (record old { names = with_text old.names text }) → IsFull SpellsWhy with_why old (form.Clash text)
clash-full old text named full = record { tree = clash text; spelt = (named, refl); full = full }

pub cut-built : (old new : SymbolLists) (text : List ℕ) (c : Concept) (left right left' right' : ℕ) → left ≡ left' → right ≡ right' → IsBuilt SpellsSmall with_term concept_of old text new c
    → IsBuilt SpellsWhy with_why why_by old (form.Cut text left' right') new (why.Cut c left right)
cut-built old new text c left right left' right' l r b = record {
  tree = cut b.tree left' right';
  spelt = (b.tree, b.spelt, refl);
  symbols = b.symbols;
  later = λ q grows. ap (λ d. why.Cut d left right) (b.later q grows) ∙ ap (λ n. why.Cut (concept_of q b.tree) n right) l ∙ ap (why.Cut (concept_of q b.tree) left') r;
}

pub cut-full : (old : SymbolLists) (text : List ℕ) (left right : ℕ) → IsFull SpellsSmall with_term old text → IsFull SpellsWhy with_why old (form.Cut text left right)
cut-full old text left right f = record { tree = cut f.tree left right; spelt = (f.tree, f.spelt, refl); full = f.full }

-- a reason without texts
pub plain-built : (s : SymbolLists) (f : WhyForm) (t : WhyTree) (w : Why) → SpellsWhy f t → with_why s t ≡ s → ((q : SymbolLists) → why_by q t ≡ w) → IsBuilt SpellsWhy with_why why_by s f s w
plain-built s f t w spelt stays says = record { tree = t; spelt = spelt; symbols = sym stays; later = λ q grows. sym (says q) }

-- ---- a line

abbrev line_of : ℕ → List Concept → Why → Line
line_of peer label reason = record { peer = peer; label = label; why = reason }

pub line-built : (old mid new : SymbolLists) (f : LineForm) (peer : ℕ) (label : List Concept) (w : Why) → peer ≡ f.peer → AreBuilt SpellsSmall with_term concept_of old f.label mid label
    → IsBuilt SpellsWhy with_why why_by mid f.why new w → IsBuilt SpellsLine with_line line_by old f new (record { peer = peer; label = label; why = w })
line-built old mid new f peer label w p a b =
    let between : Grows mid new = subst (Grows mid) (sym b.symbols) (Grows-with_why mid b.tree) in
    record {
      tree = record { peer = f.peer; label = a.trees; why = b.tree };
      spelt = record { peer = refl; label = a.spelt; why = b.spelt };
      symbols = b.symbols ∙ ap (λ z. with_why z b.tree) a.symbols;
      later = λ q grows. ap (λ n. line_of n label w) p ∙ ap (λ l. line_of f.peer l w) (a.later q (Grows-trans mid new q between grows)) ∙ ap (line_of f.peer (map (concept_of q) a.trees)) (b.later q grows);
    }

pub label-full : (old : SymbolLists) (f : LineForm) → AreFull SpellsSmall with_term old f.label → (t : WhyTree) × SpellsWhy f.why t → IsFull SpellsLine with_line old f
label-full old f a reason =
    let labelled = fold with_term old a.trees in
    record {
      tree = record { peer = f.peer; label = a.trees; why = reason.0 };
      spelt = record { peer = refl; label = a.spelt; why = reason.1 };
      full = omega (arith, a.full, symbol_count-Grows labelled (with_why labelled reason.0) (Grows-with_why labelled reason.0));
    }

pub why-full : (old mid : SymbolLists) (f : LineForm) (label : List Concept) → AreBuilt SpellsSmall with_term concept_of old f.label mid label → IsFull SpellsWhy with_why mid f.why → IsFull SpellsLine with_line old f
why-full old mid f label a b = record {
  tree = record { peer = f.peer; label = a.trees; why = b.tree };
  spelt = record { peer = refl; label = a.spelt; why = b.spelt };
  full = subst (λ z. most_symbols < symbol_count (with_why z b.tree)) a.symbols b.full;
}

-- ---- for the goals

pub spelt-by : (f g : WhyForm) (t : WhyTree) → f ≡ g → SpellsWhy g t → SpellsWhy f t
spelt-by f g t is h = subst (λ z. SpellsWhy z t) (sym is) h

pub bridge-spelt : (from onto : ℕ) (into' into_set : List ℕ) (cite : ℕ) (each' each : List ℕ) (w : Why) → into' ≡ into_set → each' ≡ each → w ≡ why.Bridge from onto into' cite each'
    → why.Bridge from onto into_set cite each ≡ w
bridge-spelt from onto into' into_set cite each' each w i e is =
    sym (is ∙ ap (λ l. why.Bridge from onto l cite each') i ∙ ap (why.Bridge from onto into_set cite) e)

-- an error of one reader is that of another
pub added-same : {T : Type 0} (e : AddErr) → (let r : Result T AddErr = Err e in r) ≡ Err added.SymbolsFull → e ≡ added.SymbolsFull
added-same added.SymbolsFull is = refl
added-same added.NoMemory is = cc

-- the texts of one item and of the rest
pub label-readable : (texts : List (List ℕ)) (i : ℕ) (x : List ℕ) → i < length texts → x ≡ get_or texts i x → AllReadable (map concept (drop i texts))
    → IsReadable (concept x) × AllReadable (map concept (drop (i + 1) texts))
label-readable texts i x within is all = subst (λ l. AllReadable (map concept l)) (drop-next texts i x within is) all

pub line-readable : (forms : List LineForm) (i : ℕ) (x : LineForm) → i < length forms → x ≡ get_or forms i x → AllReadable (pieces_of (drop i forms))
    → AllReadable (pieces_of_line x) × AllReadable (pieces_of (drop (i + 1) forms))
line-readable forms i x within is all =
    split_all (pieces_of_line x) (pieces_of (drop (i + 1) forms)) (subst (λ l. AllReadable (pieces_of l)) (drop-next forms i x within is) all)
