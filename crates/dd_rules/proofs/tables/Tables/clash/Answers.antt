use Rattle.std.proofs.Common.{◌≡◌, ◌∙◌, sym, ap, []}
use Rattle.dd_set.specs.Words.{has}
use Rattle.dd_rules.specs.Tables.{Numbered, shape_rules, tabled_rules}
use Rattle.dd_rules.proofs.Clashing.{clash-none, has_clash-shapes}
use Rattle.dd_rules.proofs.tables.Tables.clash.Goals as goal

pub returns-clause-none : goal.returns-clause-none
returns-clause-none c =
    let shapes : c.deref.result.now ≡ c.args.self.now.shapes = c.deref.ensures.value ∙ ap (λ (t : Numbered). t.shapes) c.self.view_is in
    let low = shape_rules c.deref.result.now in
    let high = tabled_rules c.args.self.now [] in
    let p = has c.args.label.now.words in
    let same = has_clash-shapes low high p shapes in (
      λ e. sym same ∙ c.clash_in.ensures.none e,
      λ e. clash-none low p c.clash_in.result c.clash_in.ensures.some (same ∙ e),
    )
