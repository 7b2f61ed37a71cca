use Rattle.std.proofs.Common.{◌≡◌, ◌∙◌, ◌-◌, ◌≤◌, All, ap, length, sym, subst, true}
use Rattle.std.specs.Prelude.{map}
use Rattle.dd_pin.specs.History.{Registered, pin_of, is_pin}
use Rattle.dd_pin.proofs.Rows.{last_are_pin}
use Rattle.dd_pin.proofs.Pins.{row-numbers, pin_of-is_pin}
use Rattle.dd_pin.proofs.registry.Registry.pin.Goals as goal

pub last_numbers-requires : goal.last_numbers-requires
last_numbers-requires c =
    subst (λ rows. All (λ row. (1 ≤ length row) × (length row ≤ 4097)) rows) (sym c.as_slice.ensures.value)
    (row-numbers c.self.inside.peers c.self.inside.history c.self.inside.versions.items c.self.invariant.0 c.self.invariant.1)

pub returns-clause-pin : goal.returns-clause-pin
returns-clause-pin c =
    subst (λ (r : Registered). c.in_ok-last_numbers.field-0 ≡ pin_of r.peers r.history) c.self.view_is
    (c.in_ok-last_numbers.ensures
    ∙ ap (map (λ row. length row - 1)) c.as_slice.ensures.value
    ∙ last_are_pin c.self.inside.peers c.self.inside.history c.self.inside.versions.items c.self.invariant.1)

pub returns-clause-has : goal.returns-clause-has
returns-clause-has c =
    subst (λ numbers. is_pin c.args.self.now.peers numbers c.args.self.now.history ≡ true) (sym (returns-clause-pin c))
    (pin_of-is_pin c.args.self.now.peers c.args.self.now.history)
