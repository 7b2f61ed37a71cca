use Rattle.std.proofs.Common.{◌∙◌, ap, ap₂, sym, refl, subst, length, Some}
use Rattle.dd_concept.specs.declared.concept.Concept.TheVariants as concept
use Rattle.dd_concept.proofs.Equations.{nnf_not_of-Name}
use Rattle.dd_rules.specs.Trees.{trees, formed, concept_of, IsWithin}
use Rattle.dd_rules.specs.declared.row.Form.TheVariants as form
use Rattle.dd_rules.specs.declared.row.Row.TheVariants as row
use Rattle.dd_rules.proofs.Growing.{get-Appends}
use Rattle.dd_rules.proofs.Forming.{low, within-and, within-or, within-some, within-all, made-and, made-or, made-some, made-all, made-not, found-is}
use Rattle.dd_rules.proofs.tree.+add.Goals as goal

pub put-requires-in-Complement-2-clause-within : goal.put-requires-in-Complement-2-clause-within
put-requires-in-Complement-2-clause-within t c = low c.put-in-Complement.new.rows.keys c.in_ok-part-in-Complement.part (concept.Name c.in-Name.a) c.in_ok-part-in-Complement.ensures.found

pub put-requires-in-Itself-form-clause-within : goal.put-requires-in-Itself-form-clause-within
put-requires-in-Itself-form-clause-within t c = low c.add.new.rows.keys c.in_ok-part-in-Itself-form.part (formed c.args.form c.get.result.now) c.in_ok-part-in-Itself-form.ensures.found

pub put-requires-in-And-clause-within : goal.put-requires-in-And-clause-within
put-requires-in-And-clause-within t c =
    let left = get-Appends (trees c.add-in-And.new.rows.keys) (trees c.add-in-And-2.new.rows.keys) c.in_ok-left-in-And.left (formed c.args.form c.get-in-And.result.now) c.in_ok-right-in-And.ensures.grows c.in_ok-left-in-And.ensures.found in
    let both = within-and c.args.form c.in_ok-left-in-And.left c.in_ok-right-in-And.right (length c.add-in-And-2.new.rows.keys)
    (low c.add-in-And-2.new.rows.keys c.in_ok-left-in-And.left (formed c.args.form c.get-in-And.result.now) left)
    (low c.add-in-And-2.new.rows.keys c.in_ok-right-in-And.right (formed c.args.form c.get-in-And-2.result.now) c.in_ok-right-in-And.ensures.found) in
    subst (λ r. IsWithin r (length c.add-in-And-2.new.rows.keys)) (sym c.conjunction.ensures) both

pub put-requires-in-Or-clause-within : goal.put-requires-in-Or-clause-within
put-requires-in-Or-clause-within t c =
    let left = get-Appends (trees c.add-in-Or.new.rows.keys) (trees c.add-in-Or-2.new.rows.keys) c.in_ok-left-in-Or.left (formed c.args.form c.get-in-Or.result.now) c.in_ok-right-in-Or.ensures.grows c.in_ok-left-in-Or.ensures.found in
    let both = within-or c.args.form c.in_ok-left-in-Or.left c.in_ok-right-in-Or.right (length c.add-in-Or-2.new.rows.keys)
    (low c.add-in-Or-2.new.rows.keys c.in_ok-left-in-Or.left (formed c.args.form c.get-in-Or.result.now) left)
    (low c.add-in-Or-2.new.rows.keys c.in_ok-right-in-Or.right (formed c.args.form c.get-in-Or-2.result.now) c.in_ok-right-in-Or.ensures.found) in
    subst (λ r. IsWithin r (length c.add-in-Or-2.new.rows.keys)) (sym c.disjunction.ensures) both

pub put-requires-in-HasSome-clause-within : goal.put-requires-in-HasSome-clause-within
put-requires-in-HasSome-clause-within t c = subst (λ r. IsWithin r (length c.add-in-HasSome.new.rows.keys)) (sym c.existential.ensures)
    (within-some c.args.form c.in-HasSome.r c.in_ok-part-in-HasSome.part (length c.add-in-HasSome.new.rows.keys) (low c.add-in-HasSome.new.rows.keys c.in_ok-part-in-HasSome.part (formed c.args.form c.get-in-HasSome.result.now) c.in_ok-part-in-HasSome.ensures.found))

pub put-requires-in-HasAll-clause-within : goal.put-requires-in-HasAll-clause-within
put-requires-in-HasAll-clause-within t c = subst (λ r. IsWithin r (length c.add-in-HasAll.new.rows.keys)) (sym c.universal.ensures)
    (within-all c.args.form c.in-HasAll.r c.in_ok-part-in-HasAll.part (length c.add-in-HasAll.new.rows.keys) (low c.add-in-HasAll.new.rows.keys c.in_ok-part-in-HasAll.part (formed c.args.form c.get-in-HasAll.result.now) c.in_ok-part-in-HasAll.ensures.found))

pub returns-in_ok-part-in-Complement-clause-found : goal.returns-in_ok-part-in-Complement-clause-found
returns-in_ok-part-in-Complement-clause-found t c =
    found-is (trees c.put-in-Complement-2.new.rows.keys) (concept_of (trees c.put-in-Complement.new.rows.keys) (row.Not c.in_ok-part-in-Complement.part)) (formed c.args.form c.args.c.now) c.put-in-Complement-2.result
    (made-not (trees c.put-in-Complement.new.rows.keys) c.in_ok-part-in-Complement.part (concept.Not (concept.Name c.in-Name.a)) (concept.Name c.in-Name.a) refl c.in_ok-part-in-Complement.ensures.found
    ∙ sym (nnf_not_of-Name c.in-Name.a) ∙ ap (formed form.Complement) (sym c.in-Name.is) ∙ ap (λ f. formed f c.args.c.now) (sym c.in-Complement.is)) c.put-in-Complement-2.ensures.found

pub returns-in_ok-part-in-Itself-form-clause-found : goal.returns-in_ok-part-in-Itself-form-clause-found
returns-in_ok-part-in-Itself-form-clause-found t c =
    found-is (trees c.put-in-Itself-form.new.rows.keys) (concept_of (trees c.add.new.rows.keys) (row.Not c.in_ok-part-in-Itself-form.part)) (formed c.args.form c.args.c.now) c.put-in-Itself-form.result
    (made-not (trees c.add.new.rows.keys) c.in_ok-part-in-Itself-form.part c.args.c.now c.get.result.now (c.in-Not.is ∙ ap concept.Not (sym c.get.ensures))
    (c.in_ok-part-in-Itself-form.ensures.found ∙ ap (λ f. Some (formed f c.get.result.now)) c.in-Itself-form.is) ∙ ap (λ f. formed f c.args.c.now) (sym c.in-Itself-form.is)) c.put-in-Itself-form.ensures.found

pub returns-in_ok-right-in-And-clause-found : goal.returns-in_ok-right-in-And-clause-found
returns-in_ok-right-in-And-clause-found t c =
    let left = get-Appends (trees c.add-in-And.new.rows.keys) (trees c.add-in-And-2.new.rows.keys) c.in_ok-left-in-And.left (formed c.args.form c.get-in-And.result.now) c.in_ok-right-in-And.ensures.grows c.in_ok-left-in-And.ensures.found in
    found-is (trees c.put-in-And.new.rows.keys) (concept_of (trees c.add-in-And-2.new.rows.keys) c.conjunction.result) (formed c.args.form c.args.c.now) c.put-in-And.result
    (made-and (trees c.add-in-And-2.new.rows.keys) c.args.form c.in_ok-left-in-And.left c.in_ok-right-in-And.right c.args.c.now c.get-in-And.result.now c.get-in-And-2.result.now c.conjunction.result c.conjunction.ensures
    (c.in-And.is ∙ ap₂ concept.And (sym c.get-in-And.ensures) (sym c.get-in-And-2.ensures)) left c.in_ok-right-in-And.ensures.found) c.put-in-And.ensures.found

pub returns-in_ok-right-in-Or-clause-found : goal.returns-in_ok-right-in-Or-clause-found
returns-in_ok-right-in-Or-clause-found t c =
    let left = get-Appends (trees c.add-in-Or.new.rows.keys) (trees c.add-in-Or-2.new.rows.keys) c.in_ok-left-in-Or.left (formed c.args.form c.get-in-Or.result.now) c.in_ok-right-in-Or.ensures.grows c.in_ok-left-in-Or.ensures.found in
    found-is (trees c.put-in-Or.new.rows.keys) (concept_of (trees c.add-in-Or-2.new.rows.keys) c.disjunction.result) (formed c.args.form c.args.c.now) c.put-in-Or.result
    (made-or (trees c.add-in-Or-2.new.rows.keys) c.args.form c.in_ok-left-in-Or.left c.in_ok-right-in-Or.right c.args.c.now c.get-in-Or.result.now c.get-in-Or-2.result.now c.disjunction.result c.disjunction.ensures
    (c.in-Or.is ∙ ap₂ concept.Or (sym c.get-in-Or.ensures) (sym c.get-in-Or-2.ensures)) left c.in_ok-right-in-Or.ensures.found) c.put-in-Or.ensures.found

pub returns-in_ok-part-in-HasSome-clause-found : goal.returns-in_ok-part-in-HasSome-clause-found
returns-in_ok-part-in-HasSome-clause-found t c =
    found-is (trees c.put-in-HasSome.new.rows.keys) (concept_of (trees c.add-in-HasSome.new.rows.keys) c.existential.result) (formed c.args.form c.args.c.now) c.put-in-HasSome.result
    (made-some (trees c.add-in-HasSome.new.rows.keys) c.args.form c.in-HasSome.r c.in_ok-part-in-HasSome.part c.args.c.now c.get-in-HasSome.result.now c.existential.result c.existential.ensures
    (c.in-HasSome.is ∙ ap (concept.HasSome c.in-HasSome.r) (sym c.get-in-HasSome.ensures)) c.in_ok-part-in-HasSome.ensures.found) c.put-in-HasSome.ensures.found

pub returns-in_ok-part-in-HasAll-clause-found : goal.returns-in_ok-part-in-HasAll-clause-found
returns-in_ok-part-in-HasAll-clause-found t c =
    found-is (trees c.put-in-HasAll.new.rows.keys) (concept_of (trees c.add-in-HasAll.new.rows.keys) c.universal.result) (formed c.args.form c.args.c.now) c.put-in-HasAll.result
    (made-all (trees c.add-in-HasAll.new.rows.keys) c.args.form c.in-HasAll.r c.in_ok-part-in-HasAll.part c.args.c.now c.get-in-HasAll.result.now c.universal.result c.universal.ensures
    (c.in-HasAll.is ∙ ap (concept.HasAll c.in-HasAll.r) (sym c.get-in-HasAll.ensures)) c.in_ok-part-in-HasAll.ensures.found) c.put-in-HasAll.ensures.found
