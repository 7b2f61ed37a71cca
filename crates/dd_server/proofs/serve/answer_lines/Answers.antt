use Rattle.std.proofs.Common.{◌≡◌, ◌⊎◌, ◌∙◌, true, false, inl, inr, ap, sym, subst, arith, rules, ℕ, ◌<◌, List, Option, Err}
use Rattle.std.specs.Prelude.{IfSome}
use Rattle.dd_lines.specs.Reading.{Reading, room, ahead}
use Rattle.dd_lines.specs.declared.reader.LineStep.{LineStep}
use Rattle.dd_lines.specs.declared.reader.LineStep.TheVariants.{End}
use Rattle.dd_lines.specs.declared.reader.LineStep.TheVariants as step
use Rattle.dd_lines.specs.NextLine.{Uses, Over, IsGoing, Stops, TakesTooMuch}
use Rattle.dd_lines.specs.declared.reader.ReadErr.{ReadErr}
use Rattle.dd_lines.specs.declared.reader.ReadErr.TheVariants as err
use Rattle.dd_read.specs.Tests.{longest_line}
use Rattle.dd_read.specs.declared.options.Options.{Options}
use Rattle.dd_server.specs.ServerState.{session_of}
use Rattle.dd_server.specs.Turns.{IsLine, EndsAs, Turned, BreaksOff}
use Rattle.dd_server.specs.Headline.{GivesFirst}
use Rattle.dd_server.proofs.Runs.{Steps, reaches_turn, ends_output, stopped, failed, too_much, broken}
use Rattle.dd_server.proofs.serve.answer_lines.Goals as goal

-- the reader's answer, with the longest line that a session has
at_longest : (s : LineStep) (now later : Option (List ℕ)) (space less max : ℕ) → max ≡ longest_line → Steps max s now later space less → Steps longest_line s now later space less
at_longest s now later space less max e h = subst (λ m. Steps m s now later space less) e h

-- a line takes of the space
uses : (s : LineStep) (space less : ℕ) → IsLine s → Uses s space less → less < space
uses (step.Line v) space less is h = h
uses step.TooLong space less is h = h
uses step.End space less is h = absurd is

pub returns-in-Ok-End-clause-output : goal.returns-in-Ok-End-clause-output
returns-in-Ok-End-clause-output g c =
    let l = c.loop-server in
    let now = ahead l.reader (g.S.Source.left l.source) in
    let after = c.next_line.new in
    let left = g.S.Source.left after.source in
    let next : Steps l.reader.max_line End now (ahead after.self left) (room l.reader) (room after.self)
    = subst (λ (s : LineStep). Steps l.reader.max_line s now (ahead after.self left) (room l.reader) (room after.self)) c.in-Ok-End.field-0-is c.in-Ok-End.ensures.next in
    ends_output c.args.server.now.reading.options l.reader.max_line c.end.result (g.S.Source.left c.args.source.now) now (g.K.Sink.given c.args.sink.now) (g.K.Sink.given l.sink) (g.K.Sink.given c.end.new.sink) left after.self
    (room l.reader) (room after.self) (g.K.Sink.fault_count l.sink) (g.K.Sink.fault_count c.end.new.sink) (session_of l.server) l.invariant.reaches next
    (subst (λ (o : Options). EndsAs o (session_of l.server) c.end.result (g.K.Sink.given l.sink) (g.K.Sink.given c.end.new.sink) (g.K.Sink.fault_count l.sink) (g.K.Sink.fault_count c.end.new.sink)) l.invariant.options c.end.ensures.ends)

pub returns-in-Err-TooMuch-clause-output : goal.returns-in-Err-TooMuch-clause-output
returns-in-Err-TooMuch-clause-output g c =
    let l = c.loop-server in
    let left = g.S.Source.left l.source in
    let after = c.next_line.new in
    let rest = g.S.Source.left after.source in
    let stops : Stops err.TooMuch l.reader left after.self rest (g.S.Source.fault_count l.source) (g.S.Source.fault_count after.source)
    = subst (λ (e : ReadErr). Stops e l.reader left after.self rest (g.S.Source.fault_count l.source) (g.S.Source.fault_count after.source)) c.in-Err-TooMuch.field-0-is c.in-Err-TooMuch.ensures.stops in
    by_stop l.reader left after.self rest stops.1 l.invariant.going (λ both.
    too_much c.args.server.now.reading.options (g.S.Source.left c.args.source.now) left (g.K.Sink.given c.args.sink.now) (g.K.Sink.given l.sink) rest l.reader after.self
    (session_of l.server) l.invariant.reaches both)
  where
    by_stop : {A : Type 0} (r : Reading) (left : Option (List ℕ)) (new : Reading) (rest : Option (List ℕ))
        → (r.too_much ≡ true) ⊎ (IfSome (ahead r left) (Over (room r)) × TakesTooMuch r left new rest) → IsGoing r
        → (IfSome (ahead r left) (Over (room r)) × TakesTooMuch r left new rest → A) → A
    by_stop r left new rest (inl much) going k = absurd (off (sym much ∙ going.0))
      where
        off : true ≡ false → ⊥
        off e = cc e
    by_stop r left new rest (inr both) going k = k both

pub returns-in-Err-NoMemory-clause-output : goal.returns-in-Err-NoMemory-clause-output
returns-in-Err-NoMemory-clause-output g c =
    let l = c.loop-server in
    stopped c.args.server.now.reading.options (g.S.Source.left c.args.source.now) (ahead l.reader (g.S.Source.left l.source)) (g.K.Sink.given c.args.sink.now) (g.K.Sink.given l.sink) (room l.reader)
    (session_of l.server) l.invariant.reaches

pub returns-in-Err-ReadFault-clause-output : goal.returns-in-Err-ReadFault-clause-output
returns-in-Err-ReadFault-clause-output g c =
    let l = c.loop-server in
    let left = g.S.Source.left l.source in
    let after = c.next_line.new in
    let rest = g.S.Source.left after.source in
    let stops : Stops err.ReadFault l.reader left after.self rest (g.S.Source.fault_count l.source) (g.S.Source.fault_count after.source)
    = subst (λ (e : ReadErr). Stops e l.reader left after.self rest (g.S.Source.fault_count l.source) (g.S.Source.fault_count after.source)) c.in-Err-ReadFault.field-0-is c.in-Err-ReadFault.ensures.stops in
    failed c.args.server.now.reading.options (g.S.Source.left c.args.source.now) left (g.K.Sink.given c.args.sink.now) (g.K.Sink.given l.sink) rest l.reader after.self
    (room l.reader) (session_of l.server) l.invariant.reaches stops.2

pub loop-server-preserved : goal.loop-server-preserved
loop-server-preserved g c =
    let l = c.loop-server in
    let after = c.next_line.new in
    let line : IsLine c.in-Ok.step = search rules in
    record {
      reaches = reaches_turn c.args.server.now.reading.options longest_line c.in-Ok.step (g.S.Source.left c.args.source.now) (ahead l.reader (g.S.Source.left l.source)) (ahead after.self (g.S.Source.left after.source))
          (g.K.Sink.given c.args.sink.now) (g.K.Sink.given l.sink) (g.K.Sink.given c.turn.new.sink) (room l.reader) (room after.self)
          (session_of l.server) (session_of c.turn.new.server) line l.invariant.reaches
          (at_longest c.in-Ok.step (ahead l.reader (g.S.Source.left l.source)) (ahead after.self (g.S.Source.left after.source)) (room l.reader) (room after.self) l.reader.max_line l.invariant.lines c.in-Ok.ensures.next)
          (λ bytes stands. subst (λ (o : Options). Turned o (session_of l.server) bytes (session_of c.turn.new.server) (g.K.Sink.given l.sink) (g.K.Sink.given c.turn.new.sink)) l.invariant.options (c.in-Ok-turn.ensures.turned bytes stands));
      options = c.turn.ensures.options ∙ l.invariant.options;
      lines = c.next_line.ensures.limits.0 ∙ l.invariant.lines;
      going = c.in-Ok.ensures.going.1;
      roomy = c.in-Ok-turn.ensures.room;
      few = let less = uses c.in-Ok.step (room l.reader) (room after.self) line c.in-Ok.ensures.uses in
          let count = c.in-Ok-turn.ensures.count in
          let few = l.invariant.few in
          omega (arith, less, count, few);
      reads = let a = l.invariant.reads in let b = c.next_line.ensures.counts in omega (arith, a, b);
      writes = let a = l.invariant.writes in let b = c.turn.ensures.counts in omega (arith, a, b);
    }

pub returns-in-Err-Memory-clause-output : goal.returns-in-Err-Memory-clause-output
returns-in-Err-Memory-clause-output g c =
    let l = c.loop-server in
    subst (λ (given : Option (List ℕ)). IfSome (g.S.Source.left c.args.source.now) (λ input. GivesFirst c.args.server.now.reading.options input (g.K.Sink.given c.args.sink.now) given))
    (sym (c.in-Err-Memory.ensures.same (ap Err c.in-Err-Memory.field-0-is)))
    (stopped c.args.server.now.reading.options (g.S.Source.left c.args.source.now) (ahead l.reader (g.S.Source.left l.source)) (g.K.Sink.given c.args.sink.now) (g.K.Sink.given l.sink) (room l.reader)
    (session_of l.server) l.invariant.reaches)

pub returns-in-Err-Write-clause-output : goal.returns-in-Err-Write-clause-output
returns-in-Err-Write-clause-output g c =
    let l = c.loop-server in
    let after = c.next_line.new in
    let line : IsLine c.in-Ok.step = search rules in
    broken c.args.server.now.reading.options longest_line c.in-Ok.step (g.S.Source.left c.args.source.now) (ahead l.reader (g.S.Source.left l.source)) (ahead after.self (g.S.Source.left after.source))
    (g.K.Sink.given c.args.sink.now) (g.K.Sink.given l.sink) (g.K.Sink.given c.turn.new.sink) (room l.reader) (room after.self)
    (session_of l.server) (session_of c.turn.new.server) line l.invariant.reaches
    (at_longest c.in-Ok.step (ahead l.reader (g.S.Source.left l.source)) (ahead after.self (g.S.Source.left after.source)) (room l.reader) (room after.self) l.reader.max_line l.invariant.lines c.in-Ok.ensures.next)
    (λ bytes stands. subst (λ (o : Options). BreaksOff o (session_of l.server) bytes (session_of c.turn.new.server) (g.K.Sink.given l.sink) (g.K.Sink.given c.turn.new.sink)) l.invariant.options (c.in-Err-Write.ensures.breaks (ap Err c.in-Err-Write.field-0-is) bytes stands))
