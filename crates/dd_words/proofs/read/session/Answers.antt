use Rattle.std.proofs.Common.{◌≡◌, ◌∙◌, map, string_bytes}
use Rattle.clap.specs.Words.{app_of, found_of, takes}
use Rattle.dd_words.specs.declared.command.WordsErr.TheVariants.{Words}
use Rattle.dd_words.proofs.Laws.{not_taken, session-rows}
use Rattle.dd_words.proofs.Range.{session-fits}
use Rattle.dd_words.proofs.read.session.Goals as goal

pub session_numbers-requires : goal.session_numbers-requires
session_numbers-requires c = session-fits c.args.command c.in-Ok.matches c.in-Ok.ensures.parsed c.requires

pub returns-in-Ok-clause-numbers : goal.returns-in-Ok-clause-numbers
returns-in-Ok-clause-numbers c =
    let words = map string_bytes c.args.words.now in
    c.session_numbers.ensures.numbers ∙ session-rows (app_of c.args.command) (found_of c.in-Ok.matches) words (c.in-Ok.ensures.matches c.requires.suits.simple).0

pub returns-in-Err-clause-words : goal.returns-in-Err-clause-words
returns-in-Err-clause-words c = λ e.
    let words = map string_bytes c.args.words.now in
    let is : c.refusal.result ≡ Words = cc in
    not_taken (takes (app_of c.args.command) words) (λ t. c.refusal.ensures is (c.in-Err.ensures.passes t))
