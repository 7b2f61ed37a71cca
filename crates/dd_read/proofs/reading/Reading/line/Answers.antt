use Rattle.std.proofs.Common.{◌≡◌, ◌∙◌, ◌==◌, ℕ, ap, length, sym}
use Rattle.dd_read.specs.ReadingState.{standing_of, state_of}
use Rattle.dd_read.specs.Standing.{due_at}
use Rattle.dd_read.specs.declared.options.Options.{Options}
use Rattle.dd_read.proofs.Taking.{both_ok, read_takes, stands_kept}
use Rattle.dd_read.proofs.reading.Reading.line.Goals as goal

pub returns-clause-takes : goal.returns-clause-takes
returns-clause-takes c =
    let old = c.args.self.now in
    let mid = c.read.new.self in
    let new = c.keep.new.self in
    both_ok c.keep.result (λ answer kept due short.
    read_takes old.options (standing_of old) (standing_of new) c.args.line.now (state_of mid) c.in_ok-kept.kept answer
    (sym c.has_no_request.ensures ∙ c.if-has_no_request.false) (c.in_ok-kept.ensures.reads short)
    (stands_kept (standing_of old) (standing_of mid) (standing_of new) c.in_ok-kept.kept c.in_ok-kept.ensures.count c.in_ok-kept.ensures.window kept)
    (due ∙ ap (λ (o : Options). due_at (length new.kept.items == o.window)) c.in_ok-kept.ensures.options)) c.keep.ensures.kept c.keep.ensures.answer
