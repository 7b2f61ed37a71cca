use Rattle.std.proofs.Common.{◌<◌, ◌++◌, ◌∷◌, [], arith, get_or, set, sym, subst}
use Rattle.dd_pin.specs.declared.registry.Accepted.{Accepted}
use Rattle.dd_pin.specs.History.{Registered, IsHistory}
use Rattle.dd_pin.specs.Puts.{FitsHistory}
use Rattle.dd_pin.proofs.Rows.{fits_step}
use Rattle.dd_pin.proofs.Pins.{history_step, row-numbers}
use Rattle.dd_pin.proofs.registry.Registry.put.Goals as goal

pub append-requires-clause-few : goal.append-requires-clause-few
append-requires-clause-few c =
    let rows = row-numbers c.self.inside.peers c.self.inside.history c.self.inside.versions.items c.self.invariant.0 c.self.invariant.1 in
    λ k d lt. (rows k d lt).1

pub invariant_of-self : goal.invariant_of-self
invariant_of-self c =
    let declared : c.args.peer < c.self.inside.peers = subst (λ (r : Registered). c.args.peer < r.peers) (sym c.self.view_is) c.requires.declared in
    let a : Accepted = record { peer = c.args.peer; version = c.args.v } in
    let h = c.self.inside.history in (
      subst (IsHistory c.self.inside.peers) (sym c.in-Ok.ensures.history)
          (history_step c.self.inside.peers h a c.self.invariant.0 declared c.in_default.ensures.accepted (omega (arith, c.len.ensures, c.if-len-ge-MAX_PUTS.false))),
      subst (λ rows. FitsHistory c.self.inside.peers c.append.new.history rows) (sym c.in-Ok.ensures.versions)
          (subst (λ s. FitsHistory c.self.inside.peers s (set c.self.inside.versions.items c.args.peer (get_or c.self.inside.versions.items c.args.peer [] ++ c.args.v ∷ []))) (sym c.in-Ok.ensures.history) (fits_step c.self.inside.peers h c.self.inside.versions.items a c.self.invariant.1 declared)),
    )
