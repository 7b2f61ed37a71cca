use Rattle.std.proofs.Common.{◌≡◌, ◌∙◌, ap, length, sym, subst}
use Rattle.dd_pin.specs.History.{Registered, is_pin}
use Rattle.dd_pin.specs.Puts.{are_places}
use Rattle.dd_pin.proofs.Pins.{pin_by_rows}
use Rattle.dd_pin.proofs.registry.Registry.has.Goals as goal

pub returns-then-numbers-len : goal.returns-then-numbers-len
returns-then-numbers-len c =
    subst (λ (r : Registered). c.are_numbers.result ≡ is_pin r.peers c.args.pin.now.versions r.history) c.self.view_is
    (c.are_numbers.ensures
    ∙ ap (λ numbers. are_places numbers c.as_slice.result.now) c.as_slice-numbers.ensures
    ∙ ap (λ rows. are_places c.args.pin.now.versions rows) c.as_slice.ensures.value
    ∙ pin_by_rows c.self.inside.peers c.args.pin.now.versions c.self.inside.history c.self.inside.versions.items c.self.invariant.1
    (sym (ap length c.as_slice-numbers.ensures) ∙ c.if-numbers-len.true ∙ c.len.ensures ∙ sym c.as_slice.ensures.len ∙ ap length c.as_slice.ensures.value ∙ c.self.invariant.1.size))
