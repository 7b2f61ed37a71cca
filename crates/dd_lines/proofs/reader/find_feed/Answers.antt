-- What a search of the rest says of all the bytes.
use Rattle.std.proofs.Common.{sym}
use Rattle.std.proofs.lemmas.List.{take_rest}
use Rattle.dd_lines.proofs.Feeds.{feed_beyond, no_feed_beyond}
use Rattle.dd_lines.proofs.reader.find_feed.Goals as goal

pub returns-in-Some : goal.returns-in-Some
returns-in-Some c =
    feed_beyond c.args.searched c.in-Some.found c.args.bytes.now c.requires.none (sym (rw take_rest at c.in-Some.ensures))

pub returns-in-None : goal.returns-in-None
returns-in-None c = no_feed_beyond c.args.searched c.args.bytes.now c.requires.none (sym (rw take_rest at c.in-None.ensures))
