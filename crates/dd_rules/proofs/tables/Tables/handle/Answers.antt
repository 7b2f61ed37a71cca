use Rattle.std.proofs.Common.{◌≡◌, ◌∙◌, ◌<◌, sym, ap, subst, [], List, ℕ, length, slice_get, Some, arith}
use Rattle.std.specs.List.{slice_index_or}
use Rattle.dd_set.specs.Words.{has}
use Rattle.dd_rules.specs.declared.tables.AxiomNumbers.{AxiomNumbers}
use Rattle.dd_rules.specs.Handled.{IsFired}
use Rattle.dd_rules.specs.Index.{IsIndex}
use Rattle.dd_rules.specs.Tables.{Numbered, tabled_rules}
use Rattle.dd_rules.proofs.Draining.{handle-forced, handle-at}
use Rattle.dd_rules.proofs.tables.Tables.handle.Goals as goal
use Rattle.dd_rules.proofs.tables.Tables.handle.Goals.{After-fire_all}

shape : (c : After-fire_all) → slice_get c.args.self.now.shapes c.args.n ≡ Some c.shape_at.result
shape c = ap (λ xs. slice_get xs c.args.n) (sym (c.deref.ensures.value ∙ ap (λ (t : Numbered). t.shapes) c.self.view_is)) ∙ c.shape_at.ensures

fired : (c : After-fire_all) → IsFired c.args.self.now.axioms (slice_index_or c.self.inside.index.lists.items c.args.n []) (has c.put_parts.new.label.words) (has c.fire_all.new.label.words)
fired c =
    let axioms : c.deref-2.result.now ≡ c.args.self.now.axioms = c.deref-2.ensures.value ∙ ap (λ (t : Numbered). t.axioms) c.self.view_is in
    let list : c.list_at.result.now ≡ slice_index_or c.self.inside.index.lists.items c.args.n [] = c.list_at.ensures ∙ ap (λ (l : List (List ℕ)). slice_index_or l c.args.n []) c.deref-3.ensures.value in
    subst (λ (a : List AxiomNumbers). IsFired a (slice_index_or c.self.inside.index.lists.items c.args.n []) (has c.put_parts.new.label.words) (has c.fire_all.new.label.words)) axioms
    (subst (λ (ks : List ℕ). IsFired c.deref-2.result.now ks (has c.put_parts.new.label.words) (has c.fire_all.new.label.words)) list c.fire_all.ensures.fired)

pub returns-clause-forced : goal.returns-clause-forced
returns-clause-forced c =
    let at = (goal.at.returns-clause-forced c).After-fire_all in
    handle-forced (tabled_rules c.args.self.now []) (slice_index_or c.self.inside.index.lists.items c.args.n []) (has c.args.label.now.words) (has c.put_parts.new.label.words)
    (has c.fire_all.new.label.words) c.args.n c.shape_at.result (shape at) c.requires.has c.put_parts.ensures.above c.put_parts.ensures.least (fired at)

pub returns-clause-handled : goal.returns-clause-handled
returns-clause-handled c =
    let at = (goal.at.returns-clause-handled c).After-fire_all in
    let axioms : c.self.inside.axioms.items ≡ c.args.self.now.axioms = ap (λ (t : Numbered). t.axioms) c.self.view_is in
    let count : c.self.inside.shapes.items ≡ c.args.self.now.shapes = ap (λ (t : Numbered). t.shapes) c.self.view_is in
    let len = ap length count in
    let lists = c.self.invariant.5 in
    let low : c.args.n < length c.self.inside.index.lists.items = omega (arith, c.requires.below, c.requires.width, len, lists) in
    handle-at (tabled_rules c.args.self.now []) c.self.inside.index.lists.items c.self.inside.index.plain (has c.args.label.now.words) (has c.put_parts.new.label.words)
    (has c.fire_all.new.label.words) c.args.n c.shape_at.result (shape at) c.put_parts.ensures.above c.put_parts.ensures.parts
    (subst (λ (a : List AxiomNumbers). IsIndex a c.self.inside.index.lists.items c.self.inside.index.plain) axioms c.self.invariant.4) low (fired at)
