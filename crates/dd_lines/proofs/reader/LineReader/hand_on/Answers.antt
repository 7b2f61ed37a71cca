-- The line feed cuts the held bytes into the line and what is held then.
use Rattle.std.proofs.Common.{sym, subst, take, refl}
use Rattle.std.proofs.lemmas.Option.{slice_get_within}
use Rattle.dd_lines.specs.Parts.{HandsOn}
use Rattle.dd_lines.proofs.Feeds.{feed_cuts}
use Rattle.dd_lines.proofs.reader.LineReader.hand_on.Goals as goal

pub pass-requires : goal.pass-requires
pass-requires c = slice_get_within c.args.self.now.held c.args.size 10 c.requires.0

pub returns-clause-line : goal.returns-clause-line
returns-clause-line c =
    let held = c.args.self.now.held in
    subst (HandsOn c.in-Ok.step c.args.self.now) (sym c.pass.ensures)
    (take c.args.size held, c.in-Ok.ensures, c.requires.1, feed_cuts c.args.size held c.requires.0, refl)
