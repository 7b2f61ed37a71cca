use Rattle.std.proofs.Common.{◌≡◌, ◌∙◌, ℕ, sym, refl, ap, true, slice_get, map}
use Rattle.std.proofs.lemmas.Bool.{false≢true}
use Rattle.dd_rules.specs.declared.shape.Shape.{Shape}
use Rattle.dd_rules.specs.declared.shape.Shape.TheVariants as shape
use Rattle.dd_rules.specs.Numbers.{shape_of}
use Rattle.dd_graph.specs.Right.{is_some_shape}
use Rattle.dd_open.proofs.roles.add_role.Goals as goal

-- a shape that passes the test is that of an existential restriction
other : (s : Shape) → is_some_shape s ≡ true → ((role c : ℕ) → s ≡ shape.HasSome role c → ⊥) → ⊥
other (shape.HasSome role c) h never = never role c refl
other shape.Top h never = false≢true h
other shape.Bottom h never = false≢true h
other (shape.Name a) h never = false≢true h
other (shape.Not a) h never = false≢true h
other (shape.And a b) h never = false≢true h
other (shape.Or a b) h never = false≢true h
other (shape.HasAll a b) h never = false≢true h

-- src/roles.rt:33:9
pub unreachable-requires : goal.unreachable-requires
unreachable-requires c = other c.shape.result
    (c.requires.restricts c.shape.result (sym (ap (λ k. slice_get (map (shape_of k.concepts) k.concepts) c.args.n) c.compiled.ensures) ∙ c.shape.ensures)) c.in_default.not-HasSome
