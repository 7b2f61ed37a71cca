use Rattle.std.proofs.Common.{◌≡◌, ◌∙◌, Some, None, List, ℕ, ap, refl, sym, rules, true}
use Rattle.dd_pin.specs.History.{is_pin}
use Rattle.dd_read.specs.Asks.{first_full}
use Rattle.dd_read.specs.ReadingState.{state_of}
use Rattle.dd_read.specs.State.{peer_count, present_pin}
use Rattle.dd_read.specs.declared.kept.Kept.{Kept}
use Rattle.dd_read.specs.declared.kept.Kept.TheVariants.{Asked}
use Rattle.dd_wire.specs.Refusal.{closure_full, refused_at}
use Rattle.dd_read.proofs.Holding.{ask_fit, closures_err, closures_ok}
use Rattle.dd_read.proofs.reading.Reading.ask_within.Goals as goal

pub returns-in-None-clause-asks : goal.returns-in-None-clause-asks
returns-in-None-clause-asks c =
    let present : c.in_ok-pin.pin.versions ≡ present_pin (state_of c.args.self.now) = search rules in
    let job = c.in_ok-job.job in
    let kept : List ℕ → Kept = λ p. Asked (record { id = c.args.id; pin = record { versions = p }; job = job }) in
    (job, c.in_ok-job.ensures.job, closures_ok job (sym c.in_ok-full_closure.ensures ∙ c.in-None.is), ap kept present)

pub returns-in-None-clause-fit : goal.returns-in-None-clause-fit
returns-in-None-clause-fit c =
    let s = state_of c.args.self.now in
    let present : c.in_ok-pin.pin.versions ≡ present_pin s = search rules in
    let has : is_pin (peer_count s) c.in_ok-pin.pin.versions s.history ≡ true = search rules in
    ask_fit s c.args.self.now.kept.items c.args.id c.in_ok-pin.pin.versions c.args.query c.args.budget c.in_ok-job.job c.args.self.now.sound present has
    c.in_ok-job.ensures.job c.in_ok-job.ensures.accepted c.in_ok-job.ensures.size c.requires.declared c.requires.within c.requires.written
    (sym c.in_ok-full_closure.ensures ∙ c.in-None.is)

pub returns-in-Some-clause-asks : goal.returns-in-Some-clause-asks
returns-in-Some-clause-asks c =
    let job = c.in_ok-job.job in (
      job,
      c.in_ok-job.ensures.job,
      refused_at closure_full c.in-Some.count,
      closures_err job c.in-Some.count (sym c.in_ok-full_closure.ensures ∙ c.in-Some.is),
      c.refused_at.result,
      refl,
      c.refused_at.ensures,
    )
