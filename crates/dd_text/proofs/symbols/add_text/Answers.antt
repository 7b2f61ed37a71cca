use Rattle.std.proofs.Common.{◌≡◌, ◌∙◌, ◌+◌, ap, sym, subst, true, List, ℕ, length, slice_get, Some, refl}
use Rattle.std.proofs.lemmas.Bool.{false≢true}
use Rattle.dd_text.specs.Symbols.{are_names, has_text, with_text, number_of, texts_of}
use Rattle.dd_text.proofs.Numbering.{are_names-with_text, has_text-map, has_text-with_text, with_text-present, lacks_room-present, lacks_room-new, map-insert_key, number_of-map, number_of-position, number_of-with_text, slice_get-number_of}
use Rattle.dd_text.proofs.symbols.add_text.Goals as goal
use Rattle.dd_text.proofs.symbols.add_text.Goals.{In-Some, In-Ok-insert_full}

found : (c : In-Some) → has_text (texts_of c.args.texts.now.keys) c.args.text.now ≡ true
found c = sym (has_text-map (λ v. v.items) c.args.texts.now.keys c.args.text.now) ∙ sym c.in-Some.ensures.found

pub returns-in-Some-clause-texts : goal.returns-in-Some-clause-texts
returns-in-Some-clause-texts c = sym (with_text-present _ _ (found c))

pub returns-in-Some-clause-number : goal.returns-in-Some-clause-number
returns-in-Some-clause-number c = number_of-position (λ v. v.items) c.args.texts.now.keys c.args.text.now c.in-Some.n c.in-Some.ensures.index

pub returns-in-Some-clause-found : goal.returns-in-Some-clause-found
returns-in-Some-clause-found c =
    ap (slice_get (texts_of c.args.texts.now.keys)) (number_of-position (λ v. v.items) c.args.texts.now.keys c.args.text.now c.in-Some.n c.in-Some.ensures.index)
    ∙ slice_get-number_of _ _ (found c)

pub returns-in-Some-clause-full : goal.returns-in-Some-clause-full
returns-in-Some-clause-full c =
    (λ e. cc, λ h. absurd (false≢true (sym (lacks_room-present (length c.args.texts.now.keys + c.args.others) (texts_of c.args.texts.now.keys) c.args.text.now (found c)) ∙ h)))

pub returns-then-count-others-eq-MOST_SYMBOLS-clause-full :
    goal.returns-then-count-others-eq-MOST_SYMBOLS-clause-full
returns-then-count-others-eq-MOST_SYMBOLS-clause-full c =
    let count = ap (λ n. n + c.args.others) (sym c.len-count.ensures.len) ∙ c.if-count-others-eq-MOST_SYMBOLS.true in
    let absent = sym (has_text-map (λ v. v.items) c.args.texts.now.keys c.args.text.now) ∙ sym c.in_default.ensures.found in
    (λ _. lacks_room-new (length c.args.texts.now.keys + c.args.others) (texts_of c.args.texts.now.keys) c.args.text.now count absent, λ _. refl)

added : (c : In-Ok-insert_full) → texts_of c.insert_full.new.self.keys ≡ with_text (texts_of c.args.texts.now.keys) c.args.text.now
added c =
    ap texts_of c.in-Ok-insert_full.ensures.keys ∙ map-insert_key (λ v. v.items) c.args.texts.now.keys c.in-Ok.owned
    ∙ ap (with_text (texts_of c.args.texts.now.keys)) c.in-Ok.ensures.items

number : (c : In-Ok-insert_full) → c.in-Ok-insert_full.at ≡ number_of (texts_of c.insert_full.new.self.keys) c.args.text.now
number c =
    c.in-Ok-insert_full.ensures.index ∙ number_of-map (λ v. v.items) c.args.texts.now.keys c.in-Ok.owned.items
    ∙ ap (number_of (texts_of c.args.texts.now.keys)) c.in-Ok.ensures.items
    ∙ sym (number_of-with_text (texts_of c.args.texts.now.keys) c.args.text.now)
    ∙ ap (λ l. number_of l c.args.text.now) (sym (added c))

pub returns-clause-texts : goal.returns-clause-texts
returns-clause-texts c = added (goal.at.returns-clause-texts c).In-Ok-insert_full

pub returns-clause-number : goal.returns-clause-number
returns-clause-number c = number (goal.at.returns-clause-number c).In-Ok-insert_full

pub returns-clause-found : goal.returns-clause-found
returns-clause-found c =
    let d = (goal.at.returns-clause-found c).In-Ok-insert_full in
    ap (slice_get (texts_of c.insert_full.new.self.keys)) (number d)
    ∙ subst (λ (l : List (List ℕ)). slice_get l (number_of l c.args.text.now) ≡ Some c.args.text.now) (sym (added d)) (slice_get-number_of _ _ (has_text-with_text (texts_of c.args.texts.now.keys) c.args.text.now))

pub returns-clause-named : goal.returns-clause-named
returns-clause-named c =
    ap are_names (added (goal.at.returns-clause-named c).In-Ok-insert_full) ∙ are_names-with_text (texts_of c.args.texts.now.keys) c.args.text.now c.requires.named c.requires.name
