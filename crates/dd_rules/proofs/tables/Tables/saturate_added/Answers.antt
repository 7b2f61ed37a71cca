use Rattle.std.proofs.Common.{◌∙◌, ap, length, [], List, ℕ, arith}
use Rattle.dd_set.specs.Words.{has}
use Rattle.dd_set.proofs.Reading.{has-zeros}
use Rattle.dd_rules.specs.Tables.{tabled_rules}
use Rattle.dd_rules.proofs.Draining.{handled-added}
use Rattle.dd_rules.proofs.tables.Tables.saturate_added.Goals as goal

pub copy_words-requires-clause-words : goal.copy_words-requires-clause-words
copy_words-requires-clause-words c =
    let same = ap length c.words.ensures.words in
    let tight = c.words.ensures.packed.tight in
    omega (arith, c.requires.width, c.known.ensures)

pub copy_words-requires-clause-empty : goal.copy_words-requires-clause-empty
copy_words-requires-clause-empty c = has-zeros 64

pub handle_rest-requires-clause-handled : goal.handle_rest-requires-clause-handled
handle_rest-requires-clause-handled c = handled-added (tabled_rules c.args.self.now []) (has c.args.label.now.words) (has c.insert.new.self.words) (has c.copy_words.new.handled) c.args.n
    c.requires.saturated (λ k. c.copy_words.ensures k ∙ ap (λ (w : List ℕ). has w k) c.words.ensures.words) c.insert.ensures.with
