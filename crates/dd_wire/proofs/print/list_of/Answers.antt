use Rattle.std.proofs.Common.{◌≡◌, ℕ, ◌+◌, ◌<◌, List, [], ◌∷◌, ◌++◌, length, map, take, get_or, ap, sym, ◌∙◌, refl}
use Rattle.std.proofs.lemmas.List.{map-append, take_all, take_more}
use Rattle.serde_json.specs.Data.{Data, Items, array}
use Rattle.serde_json.specs.View.{view}
use Rattle.serde_json.specs.View as seen
use Rattle.serde_json.specs.declared.value.Value.{Value}
use Rattle.serde_json.proofs.Views.{view-Array}
use Rattle.dd_wire.specs.Replies.{items_of, whole_number}
use Rattle.dd_wire.proofs.print.list_of.Goals as goal

one_more : (vs : List Value) (v : Value) (ns : List ℕ) (i : ℕ) → i < length ns → view v ≡ whole_number (get_or ns i 0) → map view vs ≡ map whole_number (take i ns)
    → map view (vs ++ v ∷ []) ≡ map whole_number (take (i + 1) ns)
one_more vs v ns i within is so_far =
    map-append view vs (v ∷ []) ∙ ap (λ l. l ++ view v ∷ []) so_far ∙ ap (λ d. map whole_number (take i ns) ++ d ∷ []) is
    ∙ sym (map-append whole_number (take i ns) (get_or ns i 0 ∷ [])) ∙ ap (map whole_number) (sym (take_more ns i 0 within))

same_items : (ds : List Data) → seen.items_of ds ≡ items_of ds
same_items [] = refl
same_items (d ∷ ds) = ap (Items.item d) (same_items ds)

pub loop-n-init : goal.loop-n-init
loop-n-init c = ap (map view) c.new-values.ensures.items

pub loop-n-preserved : goal.loop-n-preserved
loop-n-preserved c =
    ap (map view) c.in_ok-push.ensures.items
    ∙ one_more c.loop-n.values.items c.from.result c.args.list.now c.loop-n.n-index c.loop-n-test.true c.from.ensures c.loop-n.invariant

pub returns : goal.returns
returns c =
    let all : map view c.loop-n.values.items ≡ map whole_number c.args.list.now =
    c.loop-n.invariant ∙ ap (map whole_number) (take_all c.loop-n.n-index c.args.list.now c.loop-n-test.false) in
    view-Array c.loop-n.values ∙ ap array (ap seen.items_of all ∙ same_items (map whole_number c.args.list.now))
