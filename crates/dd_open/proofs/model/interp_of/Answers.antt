use Rattle.std.proofs.Common.{◌∙◌, sym, ap, subst, []}
use Rattle.dd_set.specs.Marked.{with_arrival}
use Rattle.dd_graph.specs.View.{view_of}
use Rattle.dd_open.specs.Models.{IsModelAt}
use Rattle.dd_open.specs.Builds.{Builds}
use Rattle.dd_open.proofs.Handling.{builds-start}
use Rattle.dd_open.proofs.Models.{is_model_at}
use Rattle.dd_open.proofs.model.interp_of.Goals as goal

pub fill-requires-clause-builds : goal.fill-requires-clause-builds
fill-requires-clause-builds c =
    let v = view_of c.args.g.now in
    let listed = c.place-x.ensures.list ∙ ap (λ ns. with_arrival ns c.resolve.result) c.in_ok-elements.ensures.empty in
    subst (λ ns. Builds v c.args.id ns c.new-names.result.items c.new-roles.result.items 0) (sym listed)
    (subst (λ ns. Builds v c.args.id (with_arrival [] c.resolve.result) ns c.new-roles.result.items 0) (sym c.new-names.ensures.items)
    (subst (λ rs. Builds v c.args.id (with_arrival [] c.resolve.result) [] rs 0) (sym c.new-roles.ensures.items)
    (builds-start v c.args.id c.resolve.result c.resolve.ensures.leads c.resolve.ensures.done c.resolve.ensures.within)))

pub returns : goal.returns
returns c =
    let v = view_of c.args.g.now in
    let positions = c.in_ok-positions.ensures.items ∙ c.as_slice.ensures.list in
    subst (λ ns. IsModelAt v c.args.id (record { size = c.len-size.result; names = c.fill.new.names.items; roles = c.fill.new.roles.items }) c.place-x.result ns) (sym positions)
    (subst (λ n. IsModelAt v c.args.id (record { size = n; names = c.fill.new.names.items; roles = c.fill.new.roles.items }) c.place-x.result c.fill.new.elements.marked.list) (sym c.len-size.ensures.len)
    (is_model_at v c.known.ensures.graph c.known.ensures.distinct c.known.ensures.closed c.known.ensures.normal c.args.id c.fill.new.elements.marked.list c.fill.new.names.items c.fill.new.roles.items
    c.in_ok-fill.ensures.builds c.place-x.result c.resolve.result (c.in_ok-fill.ensures.grown c.place-x.result c.resolve.result c.place-x.ensures.there) c.resolve.ensures.leads))
