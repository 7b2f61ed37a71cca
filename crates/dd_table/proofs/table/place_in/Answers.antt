use Rattle.std.proofs.Common.{◌≡◌, ◌∙◌, ap, sym, true, false, slice_get, Some}
use Rattle.dd_table.specs.Labels.{labels_of, has_label, number_of}
use Rattle.dd_table.proofs.Numbering.{has_label-map, number_of-position, slice_get-number_of, place_of-there, place_of-absent}
use Rattle.dd_table.proofs.table.place_in.Goals as goal
use Rattle.dd_table.proofs.table.place_in.Goals.{In-Some}

found : (c : In-Some) → has_label (labels_of c.args.labels.now.keys) c.args.words.now ≡ true
found c = sym (has_label-map (λ v. v.now) c.args.labels.now.keys c.args.words.now) ∙ sym c.in-Some.ensures.found

number_there : (c : In-Some) → c.in-Some.n ≡ number_of (labels_of c.args.labels.now.keys) c.args.words.now
number_there c = number_of-position (λ v. v.now) c.args.labels.now.keys c.args.words.now c.in-Some.n c.in-Some.ensures.index

pub returns-in-Some-clause-place : goal.returns-in-Some-clause-place
returns-in-Some-clause-place c = ap Some (number_there c) ∙ sym (place_of-there (labels_of c.args.labels.now.keys) c.args.words.now (found c))

pub returns-in-Some-clause-found : goal.returns-in-Some-clause-found
returns-in-Some-clause-found c = ap (slice_get (labels_of c.args.labels.now.keys)) (number_there c) ∙ slice_get-number_of _ _ (found c)

pub returns-in-None-clause-place : goal.returns-in-None-clause-place
returns-in-None-clause-place c =
    let absent : has_label (labels_of c.args.labels.now.keys) c.args.words.now ≡ false = sym (has_label-map (λ v. v.now) c.args.labels.now.keys c.args.words.now) ∙ sym c.in-None.ensures.found in
    sym (place_of-absent (labels_of c.args.labels.now.keys) c.args.words.now absent)
