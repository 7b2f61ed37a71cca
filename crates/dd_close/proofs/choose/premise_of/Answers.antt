use Rattle.std.proofs.Common.{◌∙◌, ◌≡◌, ap, sym, subst, ℕ, List, slice_get}
use Rattle.std.specs.Option.{option_map}
use Rattle.dd_graph.specs.View.{rules_at, view_of}
use Rattle.dd_close.specs.Drafts.{premise}
use Rattle.dd_close.proofs.Choices.{onto-number}
use Rattle.dd_close.proofs.choose.premise_of.Goals as goal

pub returns-in-Bridge : goal.returns-in-Bridge
returns-in-Bridge c =
    let v = view_of c.args.g.now in
    subst (λ s. c.onto_of.result ≡ premise (rules_at v) s) (sym c.in-Bridge.is)
    (c.onto_of.ensures ∙ ap (λ (ps : List (ℕ × ℕ × List ℕ)). option_map (λ (p : ℕ × ℕ × List ℕ). p.0) (slice_get ps c.in-Bridge.prop)) (c.as_slice.ensures ∙ ap (λ p. p.list) c.props.ensures)
    ∙ sym (onto-number v c.known.ensures.distinct c.known.ensures.graph.fit c.in-Bridge.prop))
