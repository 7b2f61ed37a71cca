use Rattle.std.proofs.Common.{true, false, refl, sym, subst, ◌∙◌}
use Rattle.serde_json.specs.View.{view}
use Rattle.dd_json.specs.Gives.{GivesSeen}
use Rattle.dd_wire.specs.Forms.{written_of}
use Rattle.dd_wire.proofs.FormParts.{form_when}
use Rattle.dd_wire.proofs.form.form_at.Goals as goal

pub returns-then-says : goal.returns-then-says
returns-then-says c =
    subst (GivesSeen written_of c.peers.result) (sym (form_when (view c.args.value.now) true _ _ _ _
    (sym c.if-says.true ∙ c.says.ensures) refl refl refl refl)) c.peers.ensures

pub returns-then-says-2 : goal.returns-then-says-2
returns-then-says-2 c =
    subst (GivesSeen written_of c.put.result) (sym (form_when (view c.args.value.now) false true _ _ _
    (sym c.if-says.false ∙ c.says.ensures) (sym c.if-says-2.true ∙ c.says-else-says.ensures) refl refl refl)) c.put.ensures

pub returns-then-says-3 : goal.returns-then-says-3
returns-then-says-3 c =
    subst (GivesSeen written_of c.ask.result) (sym (form_when (view c.args.value.now) false false true _ _
    (sym c.if-says.false ∙ c.says.ensures) (sym c.if-says-2.false ∙ c.says-else-says.ensures) (sym c.if-says-3.true ∙ c.says-else-says-2.ensures) refl refl)) c.ask.ensures

pub returns-then-says-4 : goal.returns-then-says-4
returns-then-says-4 c =
    subst (GivesSeen written_of c.check.result) (sym (form_when (view c.args.value.now) false false false true _
    (sym c.if-says.false ∙ c.says.ensures) (sym c.if-says-2.false ∙ c.says-else-says.ensures) (sym c.if-says-3.false ∙ c.says-else-says-2.ensures) (sym c.if-says-4.true ∙ c.says-else-says-3.ensures) refl)) c.check.ensures

pub returns-then-says-5 : goal.returns-then-says-5
returns-then-says-5 c =
    subst (GivesSeen written_of c.versions.result) (sym (form_when (view c.args.value.now) false false false false true
    (sym c.if-says.false ∙ c.says.ensures) (sym c.if-says-2.false ∙ c.says-else-says.ensures) (sym c.if-says-3.false ∙ c.says-else-says-2.ensures) (sym c.if-says-4.false ∙ c.says-else-says-3.ensures) (sym c.if-says-5.true ∙ c.says-else-says-4.ensures))) c.versions.ensures

pub returns-else-says-5 : goal.returns-else-says-5
returns-else-says-5 c =
    form_when (view c.args.value.now) false false false false false
    (sym c.if-says.false ∙ c.says.ensures) (sym c.if-says-2.false ∙ c.says-else-says.ensures) (sym c.if-says-3.false ∙ c.says-else-says-2.ensures) (sym c.if-says-4.false ∙ c.says-else-says-3.ensures) (sym c.if-says-5.false ∙ c.says-else-says-4.ensures)
