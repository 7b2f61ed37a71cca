use Rattle.std.proofs.Common.{length, ◌≡◌, ◌∙◌, ap, sym, subst, true}
use Rattle.dd_pin.specs.History.{Registered, is_pin, pinned_by, AreAccepted}
use Rattle.dd_pin.specs.Puts.{are_places, at_places}
use Rattle.dd_pin.proofs.Pins.{pin_by_rows, pinned_by_rows, pin_parts, pinned-accepted, pinned-size}
use Rattle.dd_pin.proofs.registry.Registry.pinned.Goals as goal

pub shared_at-requires-clause-places : goal.shared_at-requires-clause-places
shared_at-requires-clause-places c =
    let is : is_pin c.self.inside.peers c.args.pin.now.versions c.self.inside.history ≡ true =
    subst (λ (r : Registered). is_pin r.peers c.args.pin.now.versions r.history ≡ true) (sym c.self.view_is) c.requires in
    ap (λ numbers. are_places numbers c.as_slice.result.now) c.as_slice-2.ensures
    ∙ ap (λ rows. are_places c.args.pin.now.versions rows) c.as_slice.ensures.value
    ∙ pin_by_rows c.self.inside.peers c.args.pin.now.versions c.self.inside.history c.self.inside.versions.items c.self.invariant.1
    (pin_parts c.self.inside.peers c.args.pin.now.versions c.self.inside.history is).0
    ∙ is

pub returns-clause-accepted : goal.returns-clause-accepted
returns-clause-accepted c =
    let is : is_pin c.self.inside.peers c.args.pin.now.versions c.self.inside.history ≡ true =
    subst (λ (r : Registered). is_pin r.peers c.args.pin.now.versions r.history ≡ true) (sym c.self.view_is) c.requires in
    let named : c.in_ok-peers.peers ≡ (pinned_by c.args.pin.now.versions c.self.inside.history).peers =
    c.in_ok-peers.ensures
    ∙ ap (λ numbers. at_places numbers c.as_slice.result.now) c.as_slice-2.ensures
    ∙ ap (λ rows. at_places c.args.pin.now.versions rows) c.as_slice.ensures.value
    ∙ pinned_by_rows c.self.inside.peers c.args.pin.now.versions c.self.inside.history c.self.inside.versions.items c.self.invariant.1
    (pin_parts c.self.inside.peers c.args.pin.now.versions c.self.inside.history is).0 in
    subst (λ vs. AreAccepted (record { peers = vs })) (sym named)
    (pinned-accepted c.self.inside.peers c.args.pin.now.versions c.self.inside.history c.self.invariant.0 is)

pub returns-clause-size : goal.returns-clause-size
returns-clause-size c =
    let is : is_pin c.self.inside.peers c.args.pin.now.versions c.self.inside.history ≡ true =
    subst (λ (r : Registered). is_pin r.peers c.args.pin.now.versions r.history ≡ true) (sym c.self.view_is) c.requires in
    let named : c.in_ok-peers.peers ≡ (pinned_by c.args.pin.now.versions c.self.inside.history).peers =
    c.in_ok-peers.ensures
    ∙ ap (λ numbers. at_places numbers c.as_slice.result.now) c.as_slice-2.ensures
    ∙ ap (λ rows. at_places c.args.pin.now.versions rows) c.as_slice.ensures.value
    ∙ pinned_by_rows c.self.inside.peers c.args.pin.now.versions c.self.inside.history c.self.inside.versions.items c.self.invariant.1
    (pin_parts c.self.inside.peers c.args.pin.now.versions c.self.inside.history is).0 in
    ap length named ∙ pinned-size c.self.inside.peers c.args.pin.now.versions c.self.inside.history is ∙ ap (λ (r : Registered). r.peers) c.self.view_is
