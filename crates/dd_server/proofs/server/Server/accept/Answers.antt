use Rattle.std.proofs.Common.{◌≡◌, ◌∙◌, false, Result, Ok, Err, OnOk, ap, sym}
use Rattle.std.specs.Prelude.{is_err}
use Rattle.dd_read.specs.declared.options.Options.{Options}
use Rattle.dd_read.specs.ReadingState.{state_of}
use Rattle.dd_server.proofs.Holding.{entries-later}
use Rattle.dd_server.proofs.server.Server.accept.Goals as goal

at_ok : {T E P : Type 0} (r : Result T E) → is_err r ≡ false → OnOk r P → P
at_ok (Ok x) e h = h
at_ok (Err x) e h = absurd (cc e)

pub invariant_of-self : goal.invariant_of-self
invariant_of-self c =
    let s = c.args.self.now in
    record {
      capacity = s.capacity ∙ sym (ap (λ (o : Options). o.cache) c.step-taken.ensures.options);
      entries = λ ok. entries-later (state_of s.reading) (state_of c.step-taken.new.self) c.mark-numbering.ensures.numbering
          (at_ok c.step-taken.result (sym c.is_err-self.ensures.value ∙ ok) c.step-taken.ensures.later) s.cache.list (s.entries c.if-self.false);
    }
