use Rattle.std.proofs.Common.{◌∙◌, List, Option, Some, ℕ, ap, length, subst, sym}
use Rattle.std.specs.Prelude.{option_map}
use Rattle.dd_interp.proofs.Results.{if_ok}
use Rattle.dd_pin.specs.History.{Registered}
use Rattle.dd_read.specs.Fit.{IsSound}
use Rattle.dd_read.specs.ReadingState.{state_of}
use Rattle.dd_read.specs.State.{history_of, state_by}
use Rattle.dd_read.proofs.Putting.{counted_some, put_does, put_in_is, same_peers, stays_sound}
use Rattle.dd_read.proofs.reading.Reading.put.Goals as goal

pub invariant_of-self : goal.invariant_of-self
invariant_of-self c =
    let r = c.args.self.now in
    let old = c.in-Some.registry in
    let new = c.put_in.new.registry in
    let is = put_in_is c.put_in.result c.args.id c.in_ok-name.name c.args.peer c.args.version old new c.put_in.ensures.puts c.put_in.ensures.same in
    record {
      within = r.within;
      counted = r.counted ∙ ap (option_map (λ (x : Registered). x.peers)) c.in-Some.is ∙ ap Some (same_peers c.args.peer c.args.version old new is);
      sound = stays_sound r.names r.symbols c.args.peer c.args.version old new r.kept.items c.requires.numbered c.requires.written
          (subst (λ (o : Option Registered). IsSound (state_by r.names r.symbols o) r.kept.items) c.in-Some.is r.sound) is;
    }

pub returns-clause-does : goal.returns-clause-does
returns-clause-does c =
    let r = c.args.self.now in
    let s = state_of r in
    let old = c.in-Some.registry in
    let new = c.put_in.new.registry in
    let count = counted_some r.names old.peers (r.counted ∙ ap (option_map (λ (x : Registered). x.peers)) c.in-Some.is) in
    if_ok c.put_in.result (put_does r.options s old new c.args.id c.in_ok-name.name c.args.peer c.args.version count (ap history_of c.in-Some.is) c.in_ok-name.ensures.name)
    c.put_in.ensures.puts
