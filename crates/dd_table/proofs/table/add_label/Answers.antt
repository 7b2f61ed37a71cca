use Rattle.std.proofs.Common.{rules, ◌≡◌, ◌∙◌, ap, sym, subst, true, false, not, List, ℕ, slice_get, Some}
use Rattle.dd_table.specs.Labels.{labels_of, has_label, with_label, number_of, AllPacked}
use Rattle.dd_table.proofs.Numbering.{has_label-map, has_label-with_label, with_label-present, map-insert_key, number_of-map, number_of-position, number_of-with_label, slice_get-number_of, AllPacked-with_label}
use Rattle.dd_table.proofs.table.add_label.Goals as goal
use Rattle.dd_table.proofs.table.add_label.Goals.{In-Some, In-Ok-insert_full}

found : (c : In-Some) → has_label (labels_of c.args.labels.now.keys) c.args.words.now ≡ true
found c = sym (has_label-map (λ v. v.now) c.args.labels.now.keys c.args.words.now) ∙ sym c.in-Some.ensures.found

number_there : (c : In-Some) → c.in-Some.n ≡ number_of (labels_of c.args.labels.now.keys) c.args.words.now
number_there c = number_of-position (λ v. v.now) c.args.labels.now.keys c.args.words.now c.in-Some.n c.in-Some.ensures.index

pub returns-in-Some-clause-labels : goal.returns-in-Some-clause-labels
returns-in-Some-clause-labels c = sym (with_label-present _ _ (found c))

pub returns-in-Some-clause-number : goal.returns-in-Some-clause-number
returns-in-Some-clause-number c = number_there c

pub returns-in-Some-clause-found : goal.returns-in-Some-clause-found
returns-in-Some-clause-found c = ap (slice_get (labels_of c.args.labels.now.keys)) (number_there c) ∙ slice_get-number_of _ _ (found c)

pub returns-in-Some-clause-fresh : goal.returns-in-Some-clause-fresh
returns-in-Some-clause-fresh c = ap not (sym (found c))

added : (c : In-Ok-insert_full) → labels_of c.insert_full.new.self.keys ≡ with_label (labels_of c.args.labels.now.keys) c.args.words.now
added c =
    ap labels_of c.in-Ok-insert_full.ensures.keys ∙ map-insert_key (λ v. v.now) c.args.labels.now.keys _
    ∙ ap (with_label (labels_of c.args.labels.now.keys)) c.in-Ok.ensures

number : (c : In-Ok-insert_full) → c.in-Ok-insert_full.at ≡ number_of (labels_of c.insert_full.new.self.keys) c.args.words.now
number c =
    c.in-Ok-insert_full.ensures.index ∙ number_of-map (λ v. v.now) c.args.labels.now.keys _
    ∙ ap (number_of (labels_of c.args.labels.now.keys)) c.in-Ok.ensures
    ∙ sym (number_of-with_label (labels_of c.args.labels.now.keys) c.args.words.now)
    ∙ ap (λ l. number_of l c.args.words.now) (sym (added c))

pub returns-clause-labels : goal.returns-clause-labels
returns-clause-labels c = added (goal.at.returns-clause-labels c).In-Ok-insert_full

pub returns-clause-number : goal.returns-clause-number
returns-clause-number c = number (goal.at.returns-clause-number c).In-Ok-insert_full

pub returns-clause-found : goal.returns-clause-found
returns-clause-found c =
    let d = (goal.at.returns-clause-found c).In-Ok-insert_full in
    ap (slice_get (labels_of c.insert_full.new.self.keys)) (number d)
    ∙ subst (λ (l : List (List ℕ)). slice_get l (number_of l c.args.words.now) ≡ Some c.args.words.now) (sym (added d)) (slice_get-number_of _ _ (has_label-with_label (labels_of c.args.labels.now.keys) c.args.words.now))

pub returns-clause-fresh : goal.returns-clause-fresh
returns-clause-fresh c =
    let absent : has_label (labels_of c.args.labels.now.keys) c.args.words.now ≡ false = sym (has_label-map (λ v. v.now) c.args.labels.now.keys c.args.words.now) ∙ sym c.in_default.ensures.found in
    ap not (sym absent)

pub returns-clause-packed : goal.returns-clause-packed
returns-clause-packed c =
    subst (AllPacked c.args._width) (sym (added (goal.at.returns-clause-packed c).In-Ok-insert_full)) (AllPacked-with_label c.args._width (labels_of c.args.labels.now.keys) c.args.words.now c.requires.old_packed c.requires.packed)

pub returns-in_default-insert_full-clause-packed : goal.returns-in_default-insert_full-clause-packed
returns-in_default-insert_full-clause-packed c =
    let same : c.insert_full.new.self.keys ≡ c.args.labels.now.keys = search rules in
    subst (λ keys. AllPacked c.args._width (labels_of keys)) (sym same) c.requires.old_packed
